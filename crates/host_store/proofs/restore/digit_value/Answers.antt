-- `host_store::restore::digit_value`: the value of a digit, range by range.
-- Assumes nothing.
use mathlib.Core.Path.{◌≡◌, ◌∙◌}
use Prim.Native.Nat.{◌+◌, ◌-◌}
use native.Mathlib.Omega.{arith}
use Rattle.host_store.proofs.restore.Reading.{below-digits, a-digit, between, a-letter, above-letters}
use Rattle.host_store.proofs.restore.digit_value.Goals as goal

pub returns-in-48-to-57-clause-value : goal.returns-in-48-to-57-clause-value
returns-in-48-to-57-clause-value c = (a-digit c.args.c (omega arith) (omega arith)).0

pub returns-in-97-to-102-clause-value : goal.returns-in-97-to-102-clause-value
returns-in-97-to-102-clause-value c =
    let e : c.args.c - 97 + 10 ≡ c.args.c - 87 = omega arith in
    e ∙ (a-letter c.args.c (omega arith) (omega arith)).0

pub returns-in_default-clause-value : goal.returns-in_default-clause-value
returns-in_default-clause-value c = (below-digits c.args.c (omega arith)).0

pub returns-in_default-2-clause-value : goal.returns-in_default-2-clause-value
returns-in_default-2-clause-value c = (between c.args.c (omega arith) (omega arith)).0

pub returns-in_default-3-clause-value : goal.returns-in_default-3-clause-value
returns-in_default-3-clause-value c = (above-letters c.args.c (omega arith)).0
