-- What the library's functions answer and leave, said by the very ends that the theorem of delivery is about: each
-- line is a field of `specified_host`, `specified_card`, `specified_store` or `specified_table`, on what the lent
-- words hold.
use Rattle.std.specs.Prelude.{ℕ, ◌≡◌, ◌≢◌, List, [], Option}
use Rattle.host.specs.declared.Answer.{Answer}
use Rattle.host.specs.declared.Opened.{Opened}
use Rattle.host.specs.Host.{Received, acknowledgement_from}
use Rattle.host_words.specs.Words.{pair_of}
use Rattle.card_words.specs.Words.{card_of}
use Rattle.host_stored.specs.Form.{Stored}
use Rattle.delivery.specs.System.{CardResult, specified_card, specified_host}
use Rattle.delivery_restarts.specs.Restarts.{specified_store}
use Rattle.table.specs.Table.{TableStep, TableReceived}
use Rattle.table.specs.Adopting.{TakenOut}
use Rattle.table.specs.TableEnd.{specified_table}
use Rattle.table_words.specs.TableWords.{table_of}
use Rattle.ledger.specs.Ledger.{Outcome, taken}
use Rattle.ledger_words.specs.LedgerWords.{ledger_in}
use Rattle.ledger_words.specs.LedgerCalls.{SubscriberTotal, told_total}

-- ---- the host

abbrev pub host_opened : ℕ → ℕ → Opened
host_opened own peer = specified_host.host_opening own peer

abbrev pub received : List ℕ → List ℕ → List ℕ → Received
received words frame memory = specified_host.receiving (pair_of words) frame memory

abbrev pub acknowledgement : List ℕ → Answer → ℕ → Option (List ℕ)
acknowledgement words answer number = specified_host.acknowledging (pair_of words) answer number

-- Storing into a lent buffer, the buffer after it, and reading a text: the store that the theorem over restarts is
-- about.
abbrev pub host_stored : List ℕ → List ℕ → Stored
host_stored words buffer = specified_store.storing (pair_of words) buffer

abbrev pub buffer_filled : List ℕ → List ℕ → List ℕ
buffer_filled words buffer = specified_store.filling (pair_of words) buffer

abbrev pub host_restored : List ℕ → Opened
host_restored text = specified_store.restoring text

-- ---- the card

-- A refused step leaves the lent words as they were, word for word.
abbrev pub LeftIfRefused : ℕ → List ℕ → List ℕ → Type 0
LeftIfRefused refusal words left = refusal ≢ 0 → left ≡ words

abbrev pub card_opened : ℕ → ℕ → ℕ → List ℕ → CardResult
card_opened own peer limit slots = specified_card.card_opening own peer limit slots

-- Opening a transaction and reading acknowledgements have nothing to do with the slots.
abbrev pub transaction_opened : List ℕ → ℕ → ℕ → ℕ → CardResult
transaction_opened words count address value = specified_card.opening (card_of words) [] count address value

abbrev pub message_added : List ℕ → List ℕ → ℕ → ℕ → List ℕ → CardResult
message_added words slots trans address bytes = specified_card.adding (card_of words) slots trans address bytes

abbrev pub frame_sealed : List ℕ → List ℕ → CardResult
frame_sealed words slots = specified_card.sealing (card_of words) slots

abbrev pub acks_read : List ℕ → List ℕ → CardResult
acks_read words frame = specified_card.reading (card_of words) [] frame

abbrev pub frame_shown : List ℕ → List ℕ → ℕ → CardResult
frame_shown words slots number = specified_card.showing (card_of words) slots number

abbrev pub next_chosen : List ℕ → List ℕ → List ℕ → CardResult
next_chosen words slots ack = specified_card.choosing (card_of words) slots ack

-- ---- a table of cards

abbrev pub table_opened : ℕ → TableStep
table_opened own = specified_table.opening own

abbrev pub card_registered : List ℕ → ℕ → ℕ → ℕ → ℕ → TableStep
card_registered words source first size memory = specified_table.registering (table_of words) source first size memory

abbrev pub card_removed : List ℕ → ℕ → TableStep
card_removed words source = specified_table.removing (table_of words) source

abbrev pub received_at_table : List ℕ → List ℕ → List ℕ → TableReceived
received_at_table words frame memory = specified_table.receiving (table_of words) frame memory

-- To the source that is given; where that is a frame's own, it is the acknowledging of `specified_table`.
abbrev pub card_acknowledgement : List ℕ → ℕ → Answer → ℕ → Option (List ℕ)
card_acknowledgement words source answer number = acknowledgement_from (table_of words).own source answer number

abbrev pub card_taken : List ℕ → ℕ → TakenOut
card_taken words source = specified_table.taking (table_of words) source

abbrev pub card_adopted : List ℕ → List ℕ → ℕ → ℕ → ℕ → TableStep
card_adopted words host first size memory =
    specified_table.adopting (table_of words) (pair_of host) first size memory

-- ---- the subscriber ledger

abbrev pub block_taken : List ℕ → List ℕ → Outcome
block_taken words block = taken (ledger_in words) block

abbrev pub total_told : List ℕ → ℕ → SubscriberTotal
total_told words subscriber = told_total (ledger_in words) subscriber

abbrev pub sum_told : List ℕ → ℕ
sum_told words = (ledger_in words).summary
