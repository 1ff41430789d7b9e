-- `check_adding`: the tests in their order.
-- Assumes nothing.
use mathlib.Core.Path.{sym, ◌∙◌}
use lib.ListN.{length}
use Rattle.card.specs.Card.{add_refusal}
use Rattle.card_words.proofs.Heads.{unfit, fit}
use Rattle.card_build.proofs.admit.InPlace.{bare-is, slots-taken, slot-free, ends_at}
use Rattle.card_build.proofs.admit.check_adding.Goals as goal

pub returns-then-not-is_fitting : goal.returns-then-not-is_fitting
unfolding add_refusal
returns-then-not-is_fitting c =
    let a = c.args in
    rw (unfit a.words.now _ c.head_of-h.ensures a.slots.now _ c.is_fitting.ensures (rw c.if-not-is_fitting.true))

pub returns-then-not-is_taking : goal.returns-then-not-is_taking
unfolding add_refusal
returns-then-not-is_taking c =
    let a = c.args in
    let h = c.head_of-h.ensures in
    let fitting = fit a.words.now _ h a.slots.now _ c.is_fitting.ensures (rw c.if-not-is_fitting.false) in
    rw (fitting, sym c.is_taking.ensures ∙ c.if-not-is_taking.true)

pub returns-then-is_data_for_bare : goal.returns-then-is_data_for_bare
unfolding add_refusal
returns-then-is_data_for_bare c =
    let a = c.args in
    let h = c.head_of-h.ensures in
    let fitting = fit a.words.now _ h a.slots.now _ c.is_fitting.ensures (rw c.if-not-is_fitting.false) in
    let taking = sym c.is_taking.ensures ∙ c.if-not-is_taking.false in
    let bare =
    bare-is a.words.now _ h a.t.0 (length a.payload.now) _ _ c.sending_at.ensures c.is_data_for_bare.ensures in
    rw (fitting, taking, bare ∙ c.if-is_data_for_bare.true)

pub returns-then-unreleased-ge64 : goal.returns-then-unreleased-ge64
unfolding add_refusal
returns-then-unreleased-ge64 c =
    let a = c.args in
    let h = c.head_of-h.ensures in
    let fitting = fit a.words.now _ h a.slots.now _ c.is_fitting.ensures (rw c.if-not-is_fitting.false) in
    let taking = sym c.is_taking.ensures ∙ c.if-not-is_taking.false in
    let bare =
    bare-is a.words.now _ h a.t.0 (length a.payload.now) _ _ c.sending_at.ensures c.is_data_for_bare.ensures in
    rw (
      fitting,
      taking,
      bare ∙ c.if-is_data_for_bare.false,
      slots-taken a.words.now _ h _ c.unreleased.ensures c.if-unreleased-ge64.true,
    )

pub returns-then-is_past_limit : goal.returns-then-is_past_limit
unfolding add_refusal
returns-then-is_past_limit c =
    let a = c.args in
    let h = c.head_of-h.ensures in
    let fitting = fit a.words.now _ h a.slots.now _ c.is_fitting.ensures (rw c.if-not-is_fitting.false) in
    let taking = sym c.is_taking.ensures ∙ c.if-not-is_taking.false in
    let bare =
    bare-is a.words.now _ h a.t.0 (length a.payload.now) _ _ c.sending_at.ensures c.is_data_for_bare.ensures in
    rw (
      fitting,
      taking,
      bare ∙ c.if-is_data_for_bare.false,
      slot-free a.words.now _ h _ c.unreleased.ensures c.if-unreleased-ge64.false,
      ends_at a.words.now _ h (length a.payload.now) _ c.is_past_limit.ensures,
      c.if-is_past_limit.true,
    )

pub returns : goal.returns
unfolding add_refusal
returns c =
    let a = c.args in
    let h = c.head_of-h.ensures in
    let fitting = fit a.words.now _ h a.slots.now _ c.is_fitting.ensures (rw c.if-not-is_fitting.false) in
    let taking = sym c.is_taking.ensures ∙ c.if-not-is_taking.false in
    let bare =
    bare-is a.words.now _ h a.t.0 (length a.payload.now) _ _ c.sending_at.ensures c.is_data_for_bare.ensures in
    rw (
      fitting,
      taking,
      bare ∙ c.if-is_data_for_bare.false,
      slot-free a.words.now _ h _ c.unreleased.ensures c.if-unreleased-ge64.false,
      ends_at a.words.now _ h (length a.payload.now) _ c.is_past_limit.ensures,
      c.if-is_past_limit.false,
    )
