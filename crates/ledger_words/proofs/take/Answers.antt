-- `ledger_words::take`: a size that is no multiple of 8, a refused block, and one that is entered.
-- Assumes nothing.
use Rattle.std.proofs.Common.{sym, ◌∙◌, arith}
use borrow.Author.Tests.{eqb-true, eqb-false}
use Rattle.std.proofs.lemmas.Result.{err_from_is_err_and}
use Rattle.refusal.proofs.Numbers.{number-positive}
use Rattle.ledger_words.proofs.Taking.{refuses-size, refuses-reading, enters}
use Rattle.ledger_words.proofs.take.Goals as goal

pub returns-then-not-is_empty : goal.returns-then-not-is_empty
returns-then-not-is_empty c =
    let lent = c.in-Some.ensures.cases in
    refuses-size _ _ _ lent.long
    (λ z. eqb-false _ _ (sym c.if-not-is_empty.ensures) (c.as_chunks.ensures.back_len ∙ z)) lent.same

pub returns-in_err-check_block : goal.returns-in_err-check_block
returns-in_err-check_block c =
    let lent = c.in-Some.ensures.cases in
    let whole = sym c.as_chunks.ensures.back_len ∙ eqb-true _ _ (sym c.if-not-is_empty.ensures) in
    let p = err_from_is_err_and c.from_residual.result c.from_residual.ensures.1 in
    rw (p.1, p.2)
    (refuses-reading _ _ _ lent.long _ lent.same _ c.as_chunks.ensures.front whole _ c.in_err-check_block.ensures
    (λ z. omega (arith, number-positive c.in_err-check_block.field-0.0, z)) lent.same)

pub returns : goal.returns
returns c =
    let lent = c.in-Some.ensures.cases in
    let whole = sym c.as_chunks.ensures.back_len ∙ eqb-true _ _ (sym c.if-not-is_empty.ensures) in
    enters _ _ _ lent.long _ lent.same _ c.as_chunks.ensures.front whole c.in_ok-check_block.ensures c.enter_all.ensures
