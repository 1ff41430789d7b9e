-- `count_message`: the transaction has a message more, and the frame being built is longer by it.
-- Assumes nothing.
use native.Mathlib.Omega.{arith}
use lib.ListN.{length}
use Rattle.card_build.proofs.InPlace.{room-for-one, ends-within, counted}
use borrow.Author.Rules.{rules}
use Rattle.card_build.proofs.count_message.Goals as goal

pub overflow_add-e : goal.overflow_add-e
overflow_add-e c =
    omega (
      arith,
      room-for-one c.args.words.now _ c.head_of-h.ensures c.args.t.0 _ c.requires.t_value
          c.sending_at-e.ensures (search rules),
    )

pub overflow_add-start : goal.overflow_add-start
overflow_add-start c =
    let a = c.args in
    omega (
      arith,
      ends-within a.words.now _ c.head_of-h.ensures (length a.payload.now) _ c.header_offset-start.ensures
          c.requires.payload_bound,
    )

pub overflow_add-start-2 : goal.overflow_add-start-2
overflow_add-start-2 c =
    let a = c.args in
    omega (
      arith,
      ends-within a.words.now _ c.head_of-h.ensures (length a.payload.now) _ c.header_offset-start.ensures
          c.requires.payload_bound,
    )

pub overflow_cast-start : goal.overflow_cast-start
overflow_cast-start c =
    let a = c.args in
    omega (
      arith,
      ends-within a.words.now _ c.head_of-h.ensures (length a.payload.now) _ c.header_offset-start.ensures
          c.requires.payload_bound,
    )

pub overflow_cast-start-2 : goal.overflow_cast-start-2
overflow_cast-start-2 c =
    let a = c.args in
    omega (
      arith,
      ends-within a.words.now _ c.head_of-h.ensures (length a.payload.now) _ c.header_offset-start.ensures
          c.requires.payload_bound,
    )

pub returns : goal.returns
returns c =
    let a = c.args in
    λ l. counted a.words.now _ c.head_of-h.ensures a.t.0 a.payload.now c.requires.t_value _ _ _ _
    c.sending_at-e.ensures
    c.header_offset-start.ensures (c.put_sending.ensures.0 l) (c.put_head.ensures.0 (search rules))
