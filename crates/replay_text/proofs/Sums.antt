-- The totals of a replay stay far below 64 bits, so that they are plain sums.
-- Assumes nothing.
use Rattle.std.proofs.Common.{◌≡◌, ℕ, zero, suc, ◌+◌, ◌*◌, ◌%◌, ◌^◌, ◌<◌, ◌≤◌, Bool, true, false, cond, eqb, leb, List, [], ◌∷◌, length, take, drop, refl, ap, ◌∙◌, add-zero, add_assoc, mod-eq_of_lt, zero-add, arith, length-take}
use mathlib.Core.Option.{Option, none, some}
use native.Mathlib.Decide.{dec_le}
use Rattle.octets.specs.Octets.{field}
use Rattle.seq.specs.Ring.{distance, frame_space}
use Rattle.wire.specs.Format.{Message, next_header}
use Rattle.wire.specs.Reading.{
  number,
  flags,
  follows,
  addressed,
  data_end,
  message_at,
  messages_from,
  read_frame,
  refusal_of,
}
use Rattle.wire.proofs.Reading.{unread, Headed, headed, Readable, readable}
use Rattle.host.specs.Transactions.{verdict}
use Rattle.host.specs.declared.Pair.{Pair}
use Rattle.host.specs.declared.Answer.{Answer}
use Rattle.host.specs.declared.Answer.TheVariants.{Accepted, Again, NoMessages, Refused}
use Rattle.host.specs.Host.{
  Tally,
  take_in,
  Taken,
  fine,
  wrong,
  take_all,
  unchanged,
  refused,
  settled,
  again,
  accepting,
  concluded,
  tally_of,
  by_number,
  receive_of,
}
use Rattle.host.proofs.Receiving.{received-refused, received_none, received-some}
use Rattle.replay_text.specs.declared.line.Totals.{Totals}
use Rattle.replay_text.specs.Report.{totalled}
use Rattle.replay_text.specs.Text.{lines_most, answer_to, answers_to, sums_of, no_totals, plus, totals_of}
use Rattle.replay_text.proofs.Whole.{totalling}
use Rattle.hexadecimal.specs.Line.{decode}

-- ---- a frame's messages and their bytes are no more than the frame has bytes

unfoldable data_bytes : List Message → ℕ
data_bytes [] = 0
data_bytes (m ∷ ms) = length m.bytes + data_bytes ms

next-later : (x : ℕ) → x ≤ next_header x
unfolding next_header
next-later x = omega arith

data-within : (f : List ℕ) (at : ℕ) → length (message_at f at).bytes ≤ field f (at + 20) 2
unfolding message_at
data-within f at = omega (arith, length-take (field f (at + 20) 2) (drop (at + 24) f))

messages-few : (n : ℕ) (f : List ℕ) (at : ℕ) (ms : List Message) → messages_from n f at ≡ some ms
    → (length ms + at ≤ length f) × (data_bytes ms + at ≤ length f)
unfolding data_bytes
messages-few zero f at ms e = absurd (unread f at ms e)
messages-few (suc n) f at ms e =
    go (follows (field f (at + 23) 1)) refl
    (λ (rest : List Message) q. messages-few n f (next_header (data_end f at)) rest q)
  where
    h : Headed f at n ms
    h = headed f n at ms e

    go : (b : Bool) → follows (field f (at + 23) 1) ≡ b
        → ((rest : List Message) → messages_from n f (next_header (data_end f at)) ≡ some rest
        → (length rest + next_header (data_end f at) ≤ length f)
        × (data_bytes rest + next_header (data_end f at) ≤ length f))
        → (length ms + at ≤ length f) × (data_bytes ms + at ≤ length f)
    go false q ih =
        let z : h.rest ≡ [] = h.last q in
        rw (h.is, z) (omega (arith, h.inside), omega (arith, h.inside, data-within f at))
    go true q ih =
        let k = ih h.rest (h.more q) in
        let l = next-later (data_end f at) in
        rw h.is (omega (arith, k.0, l, h.inside), omega (arith, k.1, l, h.inside, data-within f at))

-- ---- what an accepted frame brings is no more than that

record Brings (n b : ℕ) (t u : Tally) : Type 0 where
  messages-most : u.messages ≤ t.messages + n
  bytes_most : u.bytes ≤ t.bytes + b
  completed-most : u.completed ≤ t.completed + n

brings-all : (ms : List Message) (t u : Tally) (place : ℕ) → take_all t place ms ≡ fine u
    → Brings (length ms) (data_bytes ms) t u
unfolding take_all take_in data_bytes
brings-all [] t u place e =
    let q : t ≡ u = cc in
    rw q (record { messages-most = omega arith; bytes_most = omega arith; completed-most = omega arith })
brings-all (m ∷ ms) t u place e =
    go (eqb (verdict t.transactions (length t.memory) m).refusal 0) refl
    (brings-all ms (take_in t m (verdict t.transactions (length t.memory) m)) u (suc place))
  where
    never : {a b : ℕ} → wrong a b ≡ fine u → ⊥
    never q = let z : ◌≡◌ {A = ℕ} 0 1 = cc in omega arith

    one : (b : Bool) → cond b 1 0 ≤ 1
    one true = omega arith
    one false = omega arith

    go : (b : Bool) → eqb (verdict t.transactions (length t.memory) m).refusal 0 ≡ b
        → (take_all (take_in t m (verdict t.transactions (length t.memory) m)) (suc place) ms ≡ fine u
        → Brings (length ms) (data_bytes ms) (take_in t m (verdict t.transactions (length t.memory) m)) u)
        → Brings (length (m ∷ ms)) (data_bytes (m ∷ ms)) t u
    go true q ih =
        let k = ih (rw q at e) in
        let o = one (verdict t.transactions (length t.memory) m).done in
        record {
          messages-most = omega (arith, k.messages-most);
          bytes_most = omega (arith, k.bytes_most);
          completed-most = omega (arith, k.completed-most, o);
        }
    go false q ih = absurd (never (rw q at e))

-- no sum of an answer is above 9,000
abbrev pub Small : Answer → Type 0
Small a = ((sums_of a).messages ≤ 9000) × ((sums_of a).bytes ≤ 9000) × ((sums_of a).completed ≤ 9000)

no-sums : (0 ≤ 9000) × (0 ≤ 9000) × (0 ≤ 9000)
no-sums = (omega arith, omega arith, omega arith)

small-number : (p : Pair) (memory : List ℕ) (num : ℕ) (ms : List Message) → length ms ≤ 9000 → data_bytes ms ≤ 9000
    → Small (by_number p memory num ms).answer
unfolding by_number accepting
small-number p memory num ms few low =
    go (settled p num) (leb 64 (distance frame_space p.next.0 num)) (take_all (tally_of p memory) 0 ms) refl
  where
    go : (a b : Bool) (t : Taken) → take_all (tally_of p memory) 0 ms ≡ t
        → Small
        (cond a (again p memory num) (cond b (unchanged p memory (refused 6 0)) (concluded p memory num t))).answer
    go true b t e = no-sums
    go false true t e = no-sums
    go false false (wrong r place) e = no-sums
    go false false (fine u) e =
        let k = brings-all ms (tally_of p memory) u 0 e in
        (omega (arith, k.messages-most), omega (arith, k.bytes_most), omega (arith, k.completed-most))

small-received : (p : Pair) (f memory : List ℕ) → Small (receive_of p f memory).answer
small-received p f memory = go (dec_le (refusal_of (read_frame (addressed p.own p.peer f) f)) 0)
  where
    go : Dec (refusal_of (read_frame (addressed p.own p.peer f) f) ≤ 0) → Small (receive_of p f memory).answer
    go (no h) = rw (received-refused p f memory _ refl (λ z. omega (arith, z))) no-sums
    go (yes h) = flagged (dec_le (flags f) 0)
      where
        can : Readable (addressed p.own p.peer f) f
        can = readable (addressed p.own p.peer f) f (omega arith)

        flagged : Dec (flags f ≤ 0) → Small (receive_of p f memory).answer
        flagged (yes z) = rw (received_none p f memory can (omega arith)) no-sums
        flagged (no z) =
            let r = received-some p f memory can (λ e. omega (arith, e)) in
            let k = messages-few (length f) f 10 r.0 r.1 in
            let most = can.most in
            rw r.2
            (small-number p memory (number f) r.0 (omega (arith, k.0, most)) (omega (arith, k.1, most)))

-- ---- the answers to all lines

abbrev pub AllSmall : List Answer → Type 0
AllSmall [] = Unit
AllSmall (a ∷ rest) = Small a × AllSmall rest

small_line : (p : Pair) (memory : List ℕ) (o : Option (List ℕ)) → Small (answer_to p memory o).answer
small_line p memory none = no-sums
small_line p memory (some f) = small-received p f memory

pub answers-small : (lines : List (List ℕ)) (p : Pair) (memory : List ℕ) → AllSmall (answers_to p memory lines).answers
unfolding answers_to
answers-small [] p memory = tt
answers-small (line ∷ lines) p memory =
    let r = answer_to p memory (decode line) in
    (small_line p memory (decode line), answers-small lines r.pair r.memory)

answers-count : (lines : List (List ℕ)) (p : Pair) (memory : List ℕ)
    → length (answers_to p memory lines).answers ≡ length lines
unfolding answers_to
answers-count [] p memory = refl
answers-count (line ∷ lines) p memory =
    let r = answer_to p memory (decode line) in
    ap suc (answers-count lines r.pair r.memory)

pub answers-most : (n : ℕ) (lines : List (List ℕ)) (p : Pair) (memory : List ℕ)
    → length (answers_to p memory (take n lines)).answers ≤ n
answers-most n lines p memory = omega (arith, answers-count (take n lines) p memory, length-take n lines)

-- ---- sums in 64 bits are plain sums

abbrev together : Totals → Totals → Totals
together t u = record {
  messages = t.messages + u.messages;
  bytes = t.bytes + u.bytes;
  completed = t.completed + u.completed;
}

record Low (k : ℕ) (t : Totals) : Type 0 where
  messages-low : t.messages ≤ 9000 * k
  bytes_low : t.bytes ≤ 9000 * k
  completed-low : t.completed ≤ 9000 * k

module _ (k : ℕ) (t : Totals) (h : Low k t) (l : k < lines_most) where
  still-low : Low (k + 1) t
  still-low =
      record {
        messages-low = omega (arith, h.messages-low);
        bytes_low = omega (arith, h.bytes_low);
        completed-low = omega (arith, h.completed-low);
      }

  one_more : (a : Answer) → Small a
      → Low (k + 1) (totalled t a) × ((u : Totals) → together (totalled t a) u ≡ together t (plus (sums_of a) u))
  one_more (Accepted n sums run) s =
      let m : (t.messages + sums.messages) % 2 ^ 64 ≡ t.messages + sums.messages =
      mod-eq_of_lt (omega (arith, h.messages-low, s.0)) in
      let b : (t.bytes + sums.bytes) % 2 ^ 64 ≡ t.bytes + sums.bytes =
      mod-eq_of_lt (omega (arith, h.bytes_low, s.1)) in
      let c : (t.completed + sums.completed) % 2 ^ 64 ≡ t.completed + sums.completed =
      mod-eq_of_lt (omega (arith, h.completed-low, s.2)) in
      rw (m, b, c) (
        record {
          messages-low = omega (arith, h.messages-low, s.0);
          bytes_low = omega (arith, h.bytes_low, s.1);
          completed-low = omega (arith, h.completed-low, s.2);
        },
        λ (u : Totals). simp add_assoc,
      )
  one_more (Again n run) s = (still-low, λ (u : Totals). simp zero-add)
  one_more NoMessages s = (still-low, λ (u : Totals). simp zero-add)
  one_more (Refused r) s = (still-low, λ (u : Totals). simp zero-add)

no_wrap : (answers : List Answer) (t : Totals) (k : ℕ) → AllSmall answers → Low k t → k + length answers ≤ lines_most
    → totalling t answers ≡ together t (totals_of answers)
unfolding totalling totals_of
no_wrap [] t k s h l = simp add-zero
no_wrap (a ∷ answers) t k s h l =
    let o = one_more k t h (omega arith) a s.0 in
    no_wrap answers (totalled t a) (k + 1) s.1 o.0 (omega arith) ∙ o.1 (totals_of answers)

pub plain-sums : (answers : List Answer) → AllSmall answers → length answers ≤ lines_most
    → totalling no_totals answers ≡ totals_of answers
plain-sums answers s l =
    no_wrap answers no_totals 0 s
    (record { messages-low = omega arith; bytes_low = omega arith; completed-low = omega arith }) (omega arith)
    ∙ simp zero-add
