-- `replay_feed::feed`: a refusal, a part of a line, or a line and what the host says of it.
-- Assumes nothing.
use mathlib.Core.Path.{◌≡◌}
use native.Mathlib.Omega.{arith}
use lib.ListN.{length}
use Rattle.std.proofs.lemmas.Result.{err_from_is_err_and}
use Rattle.host_words.specs.Words.{pair_of}
use Rattle.replay_text.proofs.place.Steps.{fed-refused, fed-part, fed-line}
use Rattle.replay_feed.proofs.feed.Goals as goal

pub returns-in_err-got : goal.returns-in_err-got
returns-in_err-got c =
    let a = c.args in
    let n : length a.frame.now ≡ 9000 = omega arith in
    let p = err_from_is_err_and c.from_residual.result c.from_residual.ensures.1 in
    let got = c.take_in.ensures in
    let fed =
    fed-refused a.place.now (pair_of a.words.now) a.frame.now a.memory.now a.fragment.now
    (omega (arith, n)) _ _ _ got.value got.place_after got.frame_after _ c.in_err-got.was in
    record {
      value = rw (p.1, p.2) fed.0.0;
      memory_after = fed.0.1;
      left_if_closed = λ e. rw (fed.1, fed.2);
    }

pub returns-then-got : goal.returns-then-got
returns-then-got c =
    let a = c.args in
    let n : length a.frame.now ≡ 9000 = omega arith in
    let got = c.take_in.ensures in
    let fed =
    fed-line a.place.now (pair_of a.words.now) a.frame.now a.memory.now a.fragment.now
    (omega (arith, n)) _ _ _ got.value got.place_after got.frame_after _ c.in_ok-got.was c.if-got.true _ _ _ _
    c.end_line.ensures.answers c.end_line.ensures.place_after in
    record { value = fed.0; memory_after = fed.1; left_if_closed = λ e. let none : ⊥ = cc in absurd none }

pub returns : goal.returns
returns c =
    let a = c.args in
    let n : length a.frame.now ≡ 9000 = omega arith in
    let got = c.take_in.ensures in
    let fed =
    fed-part a.place.now (pair_of a.words.now) a.frame.now a.memory.now a.fragment.now
    (omega (arith, n)) _ _ _ got.value got.place_after got.frame_after _ c.in_ok-got.was c.if-got.false in
    record { value = fed.0; memory_after = fed.1; left_if_closed = λ e. let none : ⊥ = cc in absurd none }
