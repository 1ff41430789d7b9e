-- `words::with_quarter`: the number is taken out of its bits, and v put in.
-- Assumes nothing.
use mathlib.Core.Path.{sym}
use native.Mathlib.Omega.{arith}
use Rattle.words.proofs.Words.{replaced, put-past}
use borrow.Author.Rules.{rules}
use Rattle.words.proofs.with_quarter.Goals as goal

pub returns-then-j-ge4 : goal.returns-then-j-ge4
returns-then-j-ge4 c =
    let a = c.args in
    sym (put-past 16 4 a.x a.j a.v (search rules) c.if-j-ge4.true)

pub overflow_sub-result : goal.overflow_sub-result
overflow_sub-result c =
    let a = c.args in
    rw (c.from.ensures, c.quarter.ensures)
    (replaced 16 4 a.x a.j a.v (search rules) c.if-j-ge4.false (search rules)).out-fits

pub overflow_add-result : goal.overflow_add-result
overflow_add-result c =
    let a = c.args in
    let k = replaced 16 4 a.x a.j a.v (search rules) c.if-j-ge4.false (search rules) in
    rw (c.from.ensures, c.quarter.ensures, c.from-2.ensures) (omega (arith, k.is, k.is-fits))

pub returns : goal.returns
returns c =
    let a = c.args in
    rw (c.from.ensures, c.quarter.ensures, c.from-2.ensures)
    (replaced 16 4 a.x a.j a.v (search rules) c.if-j-ge4.false (search rules)).is
