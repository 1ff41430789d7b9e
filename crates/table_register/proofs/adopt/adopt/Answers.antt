-- `table_register::adopt::adopt`: refused, or stored at the first free place.
-- Assumes nothing.
use native.Mathlib.Omega.{arith}
use mathlib.Core.Path.{◌≡◌, refl, sym, ◌∙◌}
use Rattle.host_words.specs.Words.{pair_of}
use Rattle.table_words.specs.TableWords.{table_of}
use Rattle.std.proofs.lemmas.Result.{err_from_is_err_and}
use Rattle.refusal.proofs.Numbers.{number-positive}
use Rattle.table_register.proofs.adopt.Adopting.{both_right, adopts, adopt-foreign, adopt-refused, adopt-done}
use Rattle.table_register.proofs.adopt.adopt.Goals as goal

pub returns-then-own : goal.returns-then-own
returns-then-own c =
    let a = c.args in
    adopts _ _ _ _ _ _ _
    (λ p q. adopt-foreign a.words.now a.pair.now a.first a.size a.memory _ _ c.own.ensures
    c.own-2.ensures c.if-own.true)
    (both_right a.words.now a.pair.now c.if-words-ne-TABLE_WORDS.false c.if-pair-ne-WORDS.false) (λ n. refl)

pub returns-in_err-k : goal.returns-in_err-k
returns-in_err-k c =
    let a = c.args in
    let ours : (pair_of a.pair.now).own ≡ (table_of a.words.now).own =
    sym c.own.ensures ∙ c.if-own.false ∙ c.own-2.ensures in
    let p = err_from_is_err_and c.from_residual.result c.from_residual.ensures.1 in
    rw (p.1, p.2)
    (adopts _ _ _ _ _ _ _
    (λ x y. adopt-refused a.words.now a.pair.now a.first a.size a.memory ours _
    c.peer.ensures _ c.in_err-k.ensures.refusal (λ z. omega (arith, number-positive c.in_err-k.field-0.0, z)))
    (both_right a.words.now a.pair.now c.if-words-ne-TABLE_WORDS.false c.if-pair-ne-WORDS.false) (λ n. refl))

pub returns : goal.returns
returns c =
    let a = c.args in
    let ours : (pair_of a.pair.now).own ≡ (table_of a.words.now).own =
    sym c.own.ensures ∙ c.if-own.false ∙ c.own-2.ensures in
    adopts _ _ _ _ _ _ _
    (λ x y. adopt-done a.words.now a.pair.now a.first a.size a.memory ours _
    c.peer.ensures _ c.in_ok-k.ensures.refusal refl _ _ c.in_ok-k.ensures.place.0
    c.put_entry.ensures)
    (both_right a.words.now a.pair.now c.if-words-ne-TABLE_WORDS.false c.if-pair-ne-WORDS.false) (λ n. absurd (n refl))
