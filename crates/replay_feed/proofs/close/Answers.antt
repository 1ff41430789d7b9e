-- `replay_feed::close`: no last line, or one and what the host says of it.
-- Assumes nothing.
use mathlib.Core.Path.{◌≡◌, sym, ◌∙◌}
use native.Mathlib.Omega.{arith}
use lib.ListN.{length}
use Rattle.std.specs.Prelude.{Ok, Err}
use Rattle.std.proofs.lemmas.Result.{err_from_is_err_and}
use Rattle.host_words.specs.Words.{pair_of}
use Rattle.replay_text.proofs.place.Steps.{closing-left, closed-bare, closed-line}
use Rattle.replay_feed.proofs.close.Goals as goal

-- a replay that has a last line is not closed
pub returns-in_err-totals : goal.returns-in_err-totals
returns-in_err-totals c =
    let a = c.args in
    let n : length a.frame.now ≡ 9000 = omega arith in
    let told =
    closed-line a.place.now (pair_of a.words.now) a.frame.now a.memory.now (omega (arith, n))
    (sym c.has_last.ensures ∙ c.if-has_last.true) _ _ _ _ c.end_line.ensures.answers
    c.end_line.ensures.place_after _ _ (c.close.ensures.value, c.close.ensures.place_after) in
    let was : c.close.result ≡ Err c.in_err-totals.field-0.0 = c.in_err-totals.was in
    let none : ⊥ = cc (told.1, was) in
    absurd none

pub returns-then-has_last : goal.returns-then-has_last
returns-then-has_last c =
    let a = c.args in
    let n : length a.frame.now ≡ 9000 = omega arith in
    let told =
    closed-line a.place.now (pair_of a.words.now) a.frame.now a.memory.now (omega (arith, n))
    (sym c.has_last.ensures ∙ c.if-has_last.true) _ _ _ _ c.end_line.ensures.answers
    c.end_line.ensures.place_after _ _ (c.close.ensures.value, c.close.ensures.place_after) in
    let was : c.close.result ≡ Ok c.in_ok-totals.totals = c.in_ok-totals.was in
    record {
      value = rw was at told.0.0;
      memory_after = told.0.1;
      left_if_closed = λ e. let none : ⊥ = cc in absurd none;
    }

pub returns-in_err-totals-2 : goal.returns-in_err-totals-2
returns-in_err-totals-2 c =
    let a = c.args in
    let n : length a.frame.now ≡ 9000 = omega arith in
    let end = c.close-2.ensures in
    let told =
    closed-bare a.place.now (pair_of a.words.now) a.frame.now a.memory.now (omega (arith, n))
    (sym c.has_last.ensures ∙ c.if-has_last.false) _ _ (end.value, end.place_after) in
    let was : c.close-2.result ≡ Err c.in_err-totals-2.field-0.0 = c.in_err-totals-2.was in
    let same : c.close-2.new.place ≡ a.place.now =
    end.place_after ∙ closing-left a.place.now _ (sym end.value ∙ was) in
    let p =
    err_from_is_err_and c.from_residual-in_err-totals-2.result c.from_residual-in_err-totals-2.ensures.1 in
    record {
      value = rw (p.1, p.2) (rw was at told.0);
      memory_after = told.1;
      left_if_closed = λ e. rw same;
    }

pub returns : goal.returns
returns c =
    let a = c.args in
    let n : length a.frame.now ≡ 9000 = omega arith in
    let end = c.close-2.ensures in
    let told =
    closed-bare a.place.now (pair_of a.words.now) a.frame.now a.memory.now (omega (arith, n))
    (sym c.has_last.ensures ∙ c.if-has_last.false) _ _ (end.value, end.place_after) in
    let was : c.close-2.result ≡ Ok c.in_ok-totals-2.totals = c.in_ok-totals-2.was in
    record {
      value = rw was at told.0;
      memory_after = told.1;
      left_if_closed = λ e. let none : ⊥ = cc in absurd none;
    }
