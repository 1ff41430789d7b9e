-- `replay_plain_feed::feed`: a refusal, a part of a line, or a line and what the plain host says of it.
-- Assumes nothing.
use Rattle.std.proofs.Common.{◌≡◌, refl, length, arith}
use Rattle.host_equal.specs.Described.{pair_of_plain}
use Rattle.replay_text.proofs.place.Steps.{fed-refused, fed-part, fed-line}
use Rattle.replay_plain_feed.proofs.feed.Goals as goal

pub returns-in-Err : goal.returns-in-Err
returns-in-Err c =
    let a = c.args in
    let n : length a.frame.now ≡ 9000 = omega arith in
    let got = c.take_in.ensures in
    let fed =
    fed-refused a.place.now (pair_of_plain a.pair) a.frame.now a.memory.now a.fragment.now
    (omega (arith, n)) _ _ _ got.value got.place_after got.frame_after _ c.in-Err.is in
    record {
      fed_value = fed.0.0;
      memory_after = fed.0.1;
      left_if_closed = λ e. rw (fed.1, fed.2);
      left_if_closed_2 = λ e. refl;
    }

pub returns-in-Ok : goal.returns-in-Ok
returns-in-Ok c =
    let a = c.args in
    let n : length a.frame.now ≡ 9000 = omega arith in
    let got = c.take_in.ensures in
    let fed =
    fed-line a.place.now (pair_of_plain a.pair) a.frame.now a.memory.now a.fragment.now
    (omega (arith, n)) _ _ _ got.value got.place_after got.frame_after _ c.in-Ok.is c.if-got.true _ _ _ _
    c.end_line-stepped.ensures.answers c.end_line-stepped.ensures.place_after in
    record {
      fed_value = fed.0;
      memory_after = fed.1;
      left_if_closed = λ e. let none : ⊥ = cc in absurd none;
      left_if_closed_2 = λ e. let none : ⊥ = cc in absurd none;
    }

pub returns-in-Ok-2 : goal.returns-in-Ok-2
returns-in-Ok-2 c =
    let a = c.args in
    let n : length a.frame.now ≡ 9000 = omega arith in
    let got = c.take_in.ensures in
    let fed =
    fed-part a.place.now (pair_of_plain a.pair) a.frame.now a.memory.now a.fragment.now
    (omega (arith, n)) _ _ _ got.value got.place_after got.frame_after _ c.in-Ok.is c.if-got.false in
    record {
      fed_value = fed.0;
      memory_after = fed.1;
      left_if_closed = λ e. let none : ⊥ = cc in absurd none;
      left_if_closed_2 = λ e. refl;
    }
