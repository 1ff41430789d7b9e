-- `host_store::store::put_open`: no line, or one.
-- Assumes nothing.
use native.Mathlib.Omega.{arith}
use Rattle.host_words.specs.Words.{pair_of}
use Rattle.host_store.proofs.store.Putting.{none-at, line-bytes, one_at, put-at}
use Rattle.host_store.proofs.store.put_open.Goals as goal

pub returns-then-o-eq0 : goal.returns-then-o-eq0
returns-then-o-eq0 c =
    let whole = none-at _ _ _ (pair_of c.args.words.now) _ c.entry_at-o.ensures c.if-o-eq0.true in
    record { value = whole.0; out_after = whole.1 }

pub put_line-requires : goal.put_line-requires
put_line-requires c =
    omega (
      arith,
      line-bytes _ _ _ c.open_bytes.ensures,
      one_at (pair_of c.args.words.now) _ _ c.entry_at-o.ensures c.if-o-eq0.false,
      c.requires,
    )

pub returns : goal.returns
returns c =
    let whole = put-at _ _ _ _ _ _ _ (pair_of c.args.words.now) _ c.entry_at-o.ensures c.if-o-eq0.false
    c.number_at.ensures
    c.open_bytes.ensures (c.put_line.ensures.value, c.put_line.ensures.out_after) in
    record { value = whole.0; out_after = whole.1 }
