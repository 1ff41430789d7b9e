-- `replay_plain_feed::close`: no last line, or one and what the plain host says of it.
-- Assumes nothing.
use Rattle.std.proofs.Common.{◌≡◌, refl, sym, ◌∙◌, length, arith, Some, None}
use Rattle.host_equal.specs.Described.{pair_of_plain}
use Rattle.replay_text.proofs.place.Steps.{closing, closing-left, closed-bare, closed-line}
use Rattle.replay_plain_feed.proofs.Answering.{closing-refused}
use Rattle.replay_plain_feed.proofs.close.Goals as goal

-- a replay that has a last line is not closed
pub returns-then-has_last : goal.returns-then-has_last
returns-then-has_last c =
    let a = c.args in
    let n : length a.frame.now ≡ 9000 = omega arith in
    let told =
    closed-line a.place.now (pair_of_plain a.pair) a.frame.now a.memory.now (omega (arith, n))
    (sym c.has_last.ensures ∙ c.if-has_last.true) _ _ _ _ c.end_line-stepped.ensures.answers
    c.end_line-stepped.ensures.place_after _ _ (c.close.ensures.value, c.close.ensures.place_after) in
    let e : c.map-closed.result ≡ closing (Some c.end_line-stepped.result.answer) c.close.result = grind arith in
    record {
      closed_value = e ∙ told.0.0;
      memory_after = told.0.1;
      left_if_closed = λ z. let none : ⊥ = cc (closing-refused _ _ (sym e ∙ z), told.1) in absurd none;
      left_if_closed_2 = λ z. let none : ⊥ = cc (closing-refused _ _ (sym e ∙ z), told.1) in absurd none;
    }

pub returns : goal.returns
returns c =
    let a = c.args in
    let n : length a.frame.now ≡ 9000 = omega arith in
    let end = c.close-end.ensures in
    let told =
    closed-bare a.place.now (pair_of_plain a.pair) a.frame.now a.memory.now (omega (arith, n))
    (sym c.has_last.ensures ∙ c.if-has_last.false) _ _ (end.value, end.place_after) in
    let e : c.map-closed-2.result ≡ closing None c.close-end.result = grind arith in
    record {
      closed_value = e ∙ told.0;
      memory_after = told.1;
      left_if_closed =
          λ z. rw (end.place_after ∙ closing-left a.place.now _ (sym end.value ∙ closing-refused _ _ (sym e ∙ z)));
      left_if_closed_2 = λ z. refl;
    }
