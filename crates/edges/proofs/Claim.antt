-- The one claim over the list of edges: each is answered as it says, by computing the definitions.
-- Assumes nothing.
use mathlib.Core.Path.{◌≡◌, refl}
use mathlib.Core.List.{map}
use Rattle.seq.specs.Ring.{distance, advance}
use Rattle.bitmap.specs.Marks.{mark, with_mark, leading, trailing_ones}
use Rattle.octets.specs.Octets.{little, value, field, inside, written}
use Rattle.wire.specs.Format.{message_header, needed, next_header}
use Rattle.wire.specs.Reading.{addressed, follows, message_at, messages_from, heading_of, read_frame}
use Rattle.wire.specs.Writing.{frame_head, message_head, laid, frame_of, room_for, first_message, next_message}
use Rattle.host.specs.Terms.{agrees, terms_refusal, address_refusal}
use Rattle.host.specs.Transactions.{fills, refused_verdict, closed_verdict, open_verdict, verdict_of, verdict, after}
use Rattle.host.specs.Host.{
  effect,
  take_in,
  take_all,
  settled,
  run_from,
  after_frame,
  accepting,
  by_number,
  receive_of,
}
use Rattle.card.specs.Window.{empty_window}
use Rattle.card.specs.Sendings.{no_sendings, opening_refusal, opening, takes, adding}
use Rattle.card.specs.Card.{
  fresh_card,
  fits,
  open_transaction,
  add_refusal,
  message_of,
  built_slot,
  built_slots,
  with_message,
  add_message,
}
use Rattle.edges.specs.Edges.{Case, added, result, cases}

pub edges-hold : map (λ (c : Case). result c.edge) cases ≡ map (λ (c : Case). c.answer) cases
unfolding distance advance mark with_mark leading trailing_ones little value field inside written message_header
    next_header addressed follows message_at messages_from heading_of read_frame frame_head message_head laid frame_of needed
    agrees terms_refusal address_refusal fills refused_verdict closed_verdict open_verdict verdict_of verdict after effect
    take_in take_all settled run_from after_frame accepting by_number receive_of empty_window no_sendings opening_refusal
    opening takes adding fresh_card fits open_transaction add_refusal room_for first_message next_message message_of
    built_slot built_slots with_message add_message added
edges-hold = refl
