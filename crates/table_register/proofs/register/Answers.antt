-- `table_register::register`: refused, or stored at the first free place.
-- Assumes nothing.
use mathlib.Core.Path.{refl, sym}
use native.Mathlib.Omega.{arith}
use Rattle.std.proofs.lemmas.Result.{err_from_is_err_and}
use Rattle.refusal.proofs.Numbers.{number-positive}
use Rattle.table_register.proofs.Changing.{register-refused, register-done}
use Rattle.table_register.proofs.register.Goals as goal

pub returns-in_err-k : goal.returns-in_err-k
returns-in_err-k c =
    let p = err_from_is_err_and c.from_residual.result c.from_residual.ensures.1 in
    rw (p.1, p.2) (
      (
        λ l. register-refused _ _ _ _ _ _ c.in_err-k.ensures.refusal
            (λ z. omega (arith, number-positive c.in_err-k.field-0.0, z)),
        λ n. absurd (n c.if-words-ne-TABLE_WORDS.false),
      ),
      λ q. refl,
    )

pub returns : goal.returns
returns c = (
  (
    λ l. register-done _ _ _ _ _ _ c.in_ok-k.ensures.refusal refl _ _ _
        c.own-own.ensures c.in_ok-k.ensures.place.0 c.put_place.ensures,
    λ n. absurd (n c.if-words-ne-TABLE_WORDS.false),
  ),
  λ q. absurd (q refl),
)
