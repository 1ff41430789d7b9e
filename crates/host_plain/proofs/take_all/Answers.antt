-- `host_plain::take_all` goes through the messages one after another, as the definition does.
-- Assumes nothing.
use Rattle.std.proofs.Common.{◌≡◌, ◌≢◌, sym, ◌∙◌, arith, Some, None}
use Rattle.std.proofs.lemmas.Bool.{not-true, not-false}
use Rattle.std.proofs.lemmas.Result.{err_from_is_err_and}
use Rattle.refusal.specs.Reason.{refusal_number}
use Rattle.wire_read.proofs.Finding.{is_whole}
use Rattle.host_plain.proofs.Messages.{in_window}
use Rattle.host_plain.proofs.Passes.{steady-turn, going-past, going-stops, going-ends, going_on}
use Rattle.host_plain.proofs.take_all.Goals as goal
use Rattle.host_plain.proofs.take_all.Goals.{then-writing, else-writing}

pub returns-in_err-found : goal.returns-in_err-found
returns-in_err-found c =
    let none : c.message_at.result ≡ None = grind arith in
    going-past c.loop-found.invariant.1 _ (sym c.message_at.ensures ∙ none)

pub take_in-requires : goal.take_in-requires
take_in-requires c =
    let ok : refusal_number c.check_message.result ≡ 0 = grind arith in
    in_window _ _ _ _ _ c.check_message.ensures ok

pub returns-in_err-map_err : goal.returns-in_err-map_err
returns-in_err-map_err c =
    let p = err_from_is_err_and c.from_residual-in_err-map_err.result c.from_residual-in_err-map_err.ensures.1 in
    let found : c.message_at.result ≡ Some c.in_ok-found.found = grind arith in
    let w = is_whole (sym c.message_at.ensures ∙ found) in
    let n : c.in_err-map_err.field-0.0.number ≡ refusal_number c.check_message.result = grind arith in
    let at : c.in_err-map_err.field-0.0.place ≡ c.loop-found.sums.messages = grind arith in
    let ne : refusal_number c.check_message.result ≢ 0 = λ z. grind arith in
    rw (p.1, p.2, n, at) (going-stops c.loop-found.invariant.1 w _ c.check_message.ensures ne)

pub returns-then-not-found : goal.returns-then-not-found
returns-then-not-found c =
    let found : c.message_at.result ≡ Some c.in_ok-found.found = grind arith in
    let w = is_whole (sym c.message_at.ensures ∙ found) in
    let ok : refusal_number c.check_message.result ≡ 0 = grind arith in
    rw (c.count-sums.ensures, c.take_in.ensures)
    (going-ends c.loop-found.invariant.1 w _ c.check_message.ensures ok _
    (c.is_complete-done.ensures ∙ rw c.entry_of.ensures)
    (elim c.if-writing.branch [
      | then-writing w ↦ w.memory-is ∙ w.write_message.ensures ∙ rw (w.data_at.ensures, w.if-writing.true)
      | else-writing w ↦ w.memory-is ∙ rw w.if-writing.false
    ])
    (not-true _ c.if-not-found.true))

pub loop-found-smaller : goal.loop-found-smaller
loop-found-smaller c =
    let found : c.message_at.result ≡ Some c.in_ok-found.found = grind arith in
    let w = is_whole (sym c.message_at.ensures ∙ found) in
    omega (arith, c.loop-found.invariant.0, w)

pub loop-found-preserved : goal.loop-found-preserved
loop-found-preserved c =
    let found : c.message_at.result ≡ Some c.in_ok-found.found = grind arith in
    let w = is_whole (sym c.message_at.ensures ∙ found) in
    let ok : refusal_number c.check_message.result ≡ 0 = grind arith in
    rw (c.count-sums.ensures, c.take_in.ensures) (
      steady-turn c.loop-found.invariant.0 w _,
      going_on c.loop-found.invariant.1 w _ c.check_message.ensures ok _
          (c.is_complete-done.ensures ∙ rw c.entry_of.ensures)
          (elim c.if-writing.branch [
            | then-writing w ↦ w.memory-is ∙ w.write_message.ensures ∙ rw (w.data_at.ensures, w.if-writing.true)
            | else-writing w ↦ w.memory-is ∙ rw w.if-writing.false
          ])
          (not-false _ c.if-not-found.false),
    )
