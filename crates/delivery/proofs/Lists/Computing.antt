-- One name that unfolds every definition that a list of calls runs through: `unfolding computing` lets the checker run
-- the list. Assumes nothing.
use Rattle.seq.specs.Ring.{distance, advance, latest}
use Rattle.bitmap.specs.Marks.{mark, with_mark, leading, trailing_ones, marks_of}
use Rattle.octets.specs.Octets.{little, value, field, inside, written}
use Rattle.wire.specs.Format.{message_header, needed, next_header}
use Rattle.wire.specs.Reading.{addressed, follows, message_at, messages_from, heading_of, read_frame}
use Rattle.wire.specs.Writing.{frame_head, message_head, laid, frame_of, ack_frame, room_for, first_message, next_message}
use Rattle.host.specs.Terms.{agrees, terms_refusal, address_refusal}
use Rattle.host.specs.Transactions.{fills, refused_verdict, closed_verdict, open_verdict, verdict_of, verdict, after}
use Rattle.host.specs.Host.{
  fresh,
  opened_of,
  effect,
  take_in,
  take_all,
  settled,
  run_from,
  after_frame,
  accepting,
  by_number,
  receive_of,
  acknowledgement_from,
}
use Rattle.card.specs.Window.{empty_window, held, before_held, sealing, acknowledged_by, releasing, acknowledging}
use Rattle.card.specs.Sendings.{
  no_sendings,
  opening_refusal,
  opening,
  takes,
  adding,
  all_released,
  finished_by,
  passing,
  finishing,
}
use Rattle.card.specs.Card.{
  fresh_card,
  fits,
  card_refusal,
  open_card,
  open_transaction,
  add_refusal,
  message_of,
  built_slot,
  built_slots,
  with_message,
  add_message,
  seal_refusal,
  seal_frame,
  acknowledged,
  read_acks,
  frame_in,
  show_refusal,
  show_frame,
  choose_refusal,
  choose_next,
}
use Rattle.delivery.specs.System.{by_card, acks_for, by_host, step, run, initial}
use Rattle.delivery.specs.Book.{
  messages_in,
  of_transaction,
  all_messages_in,
  complete,
  finished,
  unfinished_from,
  unfinished,
  perform,
  data_writes,
  completion_write,
  writes_of,
  book_writes,
  book_memory,
  serial_writes,
  serial_memory,
  data_bytes,
  complete_count,
  newly_complete,
  enter_opening,
  enter_message,
  enter_sealing,
  change_at,
  mark_where,
  enter_ack,
  enter_hand_out,
  accepted_run,
  enter_arrival,
  enter_no_effect,
  enter_delivery,
  shown,
  chosen,
  enter,
  book_from,
  empty_book,
}
use Rattle.delivery.specs.Demand3.{
  typed,
  all_typed,
  frame_in_time,
  ack_in_time,
  in_time,
  not_too_late,
  seen_as,
  numbered_as,
  copy_of,
  says_accepted,
  times_accepted,
  sum_over,
  needed_by,
  bytes_by,
}
use Rattle.delivery.proofs.Lists.Same.{
  same_all,
  message_code,
  transaction_code,
  hand_out_code,
  range_code,
  expected_code,
  same_bool,
  same_frame,
  same_book,
}
use Rattle.delivery.proofs.Lists.Check.{every, below, apart, no_byte_twice, writes_allowed, judge, judged_as}

unfoldable pub computing : Unit {0}
unfolding distance advance latest mark with_mark leading trailing_ones marks_of little value field inside written
    message_header needed next_header addressed follows message_at messages_from heading_of read_frame frame_head message_head
    laid frame_of ack_frame room_for first_message next_message agrees terms_refusal address_refusal fills refused_verdict
    closed_verdict open_verdict verdict_of verdict after fresh opened_of effect take_in take_all settled run_from after_frame
    accepting by_number receive_of acknowledgement_from empty_window held before_held sealing acknowledged_by releasing
    acknowledging no_sendings opening_refusal opening takes adding all_released finished_by passing finishing fresh_card
    fits card_refusal open_card open_transaction add_refusal message_of built_slot built_slots with_message add_message
    seal_refusal seal_frame acknowledged read_acks frame_in show_refusal show_frame choose_refusal choose_next by_card acks_for
    by_host step run initial messages_in of_transaction all_messages_in complete finished unfinished_from unfinished perform
    data_writes completion_write writes_of book_writes book_memory serial_writes serial_memory data_bytes complete_count
    newly_complete enter_opening enter_message enter_sealing change_at mark_where enter_ack accepted_run enter_hand_out
    enter_arrival enter_no_effect enter_delivery shown chosen enter book_from empty_book typed all_typed frame_in_time
    ack_in_time in_time not_too_late seen_as numbered_as copy_of says_accepted times_accepted sum_over needed_by bytes_by every
    below apart no_byte_twice writes_allowed judge same_all message_code transaction_code hand_out_code range_code expected_code
    same_bool same_frame same_book judged_as
computing = tt
