-- `capi::host_by_value::lw_raw_host_receive_by_value`: unpacked, received by value, and packed where it took effect.
-- Assumes nothing.
use mathlib.Core.Path.{◌≡◌, ap, ◌∙◌}
use mathlib.Core.Logic.{inl, inr}
use native.Mathlib.Omega.{arith}
use lib.ListN.{length}
use Rattle.host_words.specs.Words.{pair_of}
use Rattle.capi.proofs.host_by_value.Packing.{Packed, received-in-words}
use Rattle.capi.proofs.host_by_value.lw_raw_host_receive_by_value.Goals as goal
use Rattle.capi.proofs.host_by_value.lw_raw_host_receive_by_value.Goals.{then-kind-eq1, else-kind-eq1}

pub returns : goal.returns
returns c =
    let a = c.args in
    let e : length a.words.now ≡ 67 = omega arith in
    let packed : Packed c.kind_of-kind.result c.receive_by_value-stepped.result.pair a.words.now c.if-kind-eq1.words =
    elim c.if-kind-eq1.branch [
      | then-kind-eq1 w ↦ inl (w.if-kind-eq1.true, ap pair_of w.words-is ∙ w.pack.ensures.0 e)
      | else-kind-eq1 w ↦ inr (w.if-kind-eq1.false, w.words-is)
    ] in
    let stepped = c.receive_by_value-stepped.ensures in
    let whole = received-in-words a.words.now a.frame.now a.memory.now _ c.unpack.ensures
    _ stepped.value _ stepped.memory_after _ c.kind_of-kind.ensures _ packed _ c.put_answer.ensures in record {
      value = whole.0;
      words_after = whole.1.0;
      memory_after = whole.1.1.0;
      answer_after = whole.1.1.1.0;
      leaves_words = whole.1.1.1.1;
    }
