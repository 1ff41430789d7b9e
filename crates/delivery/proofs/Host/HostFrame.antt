-- The host on a whole frame of the book's messages: it refuses none, and its tally is the book's.
-- Assumes nothing.
use Prim.Native.Nat.{ℕ, suc, ◌+◌, ◌≤◌, ◌<◌}
use native.Mathlib.Omega.{arith}
use mathlib.Core.Path.{◌≡◌, refl, sym, ap, ◌∙◌, subst}
use mathlib.Core.Logic.{◌≢◌}
use mathlib.Core.Bool.{Bool, true, false, cond}
use mathlib.Core.List.{List, [], ◌∷◌, ◌++◌, append_assoc, map}
use lib.ListN.{length, get_or, length-append}
use lib.Seq.{sets, length-sets}
use Rattle.seq.specs.Ring.{frame_space}
use Rattle.bitmap.proofs.Marks.{leading-mono}
use Rattle.octets.specs.Octets.{little}
use Rattle.octets.proofs.Octets.{length-little, written-inside}
use Rattle.wire.specs.Format.{message_header}
use Rattle.host.specs.declared.Open.{Open}
use Rattle.host.specs.declared.Verdict.{Verdict}
use Rattle.host.specs.Transactions.{closed_verdict, open_verdict, Transactions, verdict, after}
use Rattle.host.specs.Host.{Tally, effect, take_in, fine, take_all}
use Rattle.delivery.specs.Book.{
  MessageRecord,
  Transaction,
  no_transaction,
  of_transaction,
  all_messages_in,
  completion_write,
  data_bytes,
}
use Rattle.delivery.proofs.Book.Counts.{count, count-append, full-mono}
use Rattle.delivery.proofs.Book.Writes.{taken, of_transaction-same, of_transaction-other}
use Rattle.delivery.proofs.Book.Arrive.{taken_all, AllTurns, StillAwaited}
use Rattle.delivery.proofs.Book.Sums.{completed_all}
use Rattle.delivery.proofs.Host.HostStep.{
  TransactionsFor,
  full_at,
  low,
  wired,
  in_table,
  gap,
  verdict-is,
  fills-is,
  for-holding,
  for-closing,
}

-- What a message writes lies inside, a bare message is bare, and its transaction's count is a 16-bit number.
pub record InsideOne (ds : List Transaction) (size : ℕ) (e : MessageRecord) : Type 0 where
  pub bare : (get_or ds e.trans no_transaction).count ≡ 0 → e.bytes ≡ []
  pub data_in : e.data_address + length e.bytes ≤ size
  pub completion_in : (get_or ds e.trans no_transaction).completion_address + 4 ≤ size
  pub count_fits : (get_or ds e.trans no_transaction).count < frame_space

abbrev pub Inside : List Transaction → ℕ → List MessageRecord → Type 0
Inside ds size [] = Unit {0}
Inside ds size (e ∷ es) = InsideOne ds size e × Inside ds size es

-- The tally with one more message, and with all.
unfoldable pub tallied : List Transaction → List MessageRecord → Tally → MessageRecord → List MessageRecord
    → Transactions → Tally
tallied ds pre t e post l =
    let d = get_or ds e.trans no_transaction in
    let done = all_messages_in d e.trans (pre ++ (e ∷ post)) in
    record {
      transactions = l;
      memory = taken done d e t.memory;
      messages = t.messages + 1;
      bytes = t.bytes + length e.bytes;
      completed = t.completed + cond done 1 0;
    }

pub record FrameTaken (ds : List Transaction) (pre es post : List MessageRecord) (place : ℕ) (t : Tally) : Type 0 where
  pub end : Tally
  pub is_fine : take_all t place (map (wired ds) es) ≡ fine end
  pub transactions_for : TransactionsFor end.transactions ds (pre ++ (es ++ post))
  pub memory_is : end.memory ≡ taken_all ds pre es post t.memory
  pub messages_are : end.messages ≡ t.messages + length es
  pub bytes_are : end.bytes ≡ t.bytes + data_bytes es
  pub complete_are : end.completed ≡ t.completed + completed_all ds pre es post

count-one : (pre : List MessageRecord) (e : MessageRecord) (post : List MessageRecord)
    → count e.trans (pre ++ (e ∷ post)) ≡ suc (count e.trans (pre ++ post))
count-one pre e post =
    let a : count e.trans (pre ++ (e ∷ post)) ≡ length
    (of_transaction e.trans pre ++ (e ∷ of_transaction e.trans post)) =
    ap length (of_transaction-same e.trans pre e post refl) in
    omega (
      arith,
      length-append (of_transaction e.trans pre) (e ∷ of_transaction e.trans post),
      count-append e.trans pre post,
    )

count-others : (pre : List MessageRecord) (e : MessageRecord) (post : List MessageRecord) (i : ℕ) → e.trans ≢ i
    → count i (pre ++ (e ∷ post)) ≡ count i (pre ++ post)
count-others pre e post i n = ap length (of_transaction-other i pre e post n)

size-taken : (b : Bool) (d : Transaction) (e : MessageRecord) (m : List ℕ) → length (taken b d e m) ≡ length m
unfolding taken
size-taken true d e m =
    length-sets (sets m e.data_address e.bytes) (completion_write d).at (completion_write d).bytes
    ∙ length-sets m e.data_address e.bytes
size-taken false d e m = length-sets m e.data_address e.bytes

low-mono : (ds : List Transaction) (es fs : List MessageRecord) → ((i : ℕ) → count i es ≤ count i fs)
    → low ds es ≤ low ds fs
low-mono ds es fs h =
    leading-mono (full_at ds es) (full_at ds fs) (length ds) (length ds) (omega arith)
    (λ i l. full-mono (get_or ds i no_transaction) i es fs (h i))

-- what the host writes for a message is what the book writes, where it lies inside
effect_is : (ds : List Transaction) (e : MessageRecord) (m : List ℕ) (done : Bool) → InsideOne ds (length m) e
    → effect m (wired ds e) done ≡ taken done (get_or ds e.trans no_transaction) e m
unfolding effect taken completion_write
effect_is ds e m false i = written-inside m e.data_address e.bytes i.data_in
effect_is ds e m true i =
    let d = get_or ds e.trans no_transaction in
    rw (written-inside m e.data_address e.bytes i.data_in)
    (written-inside (sets m e.data_address e.bytes) d.completion_address (little 4 d.completion_value)
    (omega (arith, i.completion_in, length-sets m e.data_address e.bytes, length-little 4 d.completion_value)))

-- one message
module _ (ds : List Transaction) (pre : List MessageRecord) (e : MessageRecord) (post : List MessageRecord) (t : Tally)
    (r : TransactionsFor t.transactions ds (pre ++ post)) (fit : length ds ≤ low ds (pre ++ post) + 32)
    (is_known : e.trans < length ds) (not_full : full_at ds (pre ++ post) e.trans ≡ false)
    (beyond : (i : ℕ) → length ds ≤ i → count i (pre ++ post) ≡ 0) (inside : InsideOne ds (length t.memory) e) where
  abbrev l : Transactions
  l = t.transactions

  abbrev v : Verdict
  v = verdict l (length t.memory) (wired ds e)

  abbrev was : Open
  was = in_table l ds (pre ++ post) r e fit is_known not_full

  pub record MessageTaken : Type 0 where
    pub next : Transactions
    pub next_for : TransactionsFor next ds (pre ++ (e ∷ post))
    pub not_refused : v.refusal ≡ 0
    pub taken_in : take_in t (wired ds e) v ≡ tallied ds pre t e post next

  one : count e.trans (pre ++ (e ∷ post)) ≡ suc (count e.trans (pre ++ post))
  one = count-one pre e post

  v-is : v
      ≡ cond (full_at ds (pre ++ (e ∷ post)) e.trans)
      (closed_verdict l.lowest l.closed (gap l ds (pre ++ post) r e fit is_known not_full))
      (open_verdict l.lowest l.closed was (message_header (wired ds e)))
  v-is =
      verdict-is l ds (pre ++ post) r e fit is_known not_full (length t.memory) inside.bare inside.data_in
      inside.completion_in
      ∙ rw (fills-is l ds (pre ++ post) (pre ++ (e ∷ post)) r e fit is_known not_full one
      (count-others pre e post) beyond)

  -- with a verdict that says whether the transaction is complete
  with-verdict : (x : Verdict) (done : Bool) → full_at ds (pre ++ (e ∷ post)) e.trans ≡ done → x.done ≡ done
      → take_in t (wired ds e) x ≡ tallied ds pre t e post (after l (wired ds e) x)
  unfolding take_in tallied
  with-verdict x done f q = rw (q, f, effect_is ds e t.memory done inside)

  pub taken_in_lem : MessageTaken
  unfolding closed_verdict open_verdict
  taken_in_lem = go (full_at ds (pre ++ (e ∷ post)) e.trans) refl
    where
      go : (b : Bool) → full_at ds (pre ++ (e ∷ post)) e.trans ≡ b → MessageTaken
      go true f =
          let x = closed_verdict l.lowest l.closed (gap l ds (pre ++ post) r e fit is_known not_full) in
          let is : v ≡ x = v-is ∙ rw f in
          record {
            next = after l (wired ds e) x;
            next_for = for-closing l ds (pre ++ post) (pre ++ (e ∷ post)) r e fit is_known not_full one
                (count-others pre e post) beyond f;
            not_refused = ap (λ (y : Verdict). y.refusal) is;
            taken_in = ap (take_in t (wired ds e)) is ∙ with-verdict x true f refl;
          }
      go false f =
          let x = open_verdict l.lowest l.closed was (message_header (wired ds e)) in
          let is : v ≡ x = v-is ∙ rw f in
          record {
            next = after l (wired ds e) x;
            next_for = for-holding l ds (pre ++ post) (pre ++ (e ∷ post)) r e fit is_known not_full one
                (count-others pre e post) beyond f inside.count_fits;
            not_refused = ap (λ (y : Verdict). y.refusal) is;
            taken_in = ap (take_in t (wired ds e)) is ∙ with-verdict x false f refl;
          }

-- ---- all messages of a frame

-- the first message taken, the others to follow
module _ (ds : List Transaction) (pre : List MessageRecord) (e : MessageRecord) (es post : List MessageRecord)
    (place : ℕ)
    (t : Tally) (r : TransactionsFor t.transactions ds (pre ++ post)) (fit : length ds ≤ low ds (pre ++ post) + 32)
    (is_known : e.trans < length ds) (not_full : full_at ds (pre ++ post) e.trans ≡ false)
    (inside : Inside ds (length t.memory) (e ∷ es))
    (beyond : (i : ℕ) → length ds ≤ i → count i (pre ++ (e ∷ (es ++ post))) ≡ 0) where
  none-behind : (i : ℕ) → length ds ≤ i → count i (pre ++ post) ≡ 0
  none-behind i h =
      omega (
        arith,
        beyond i h,
        count-append i pre post,
        count-append i pre (e ∷ (es ++ post)),
        count-append i (e ∷ es) post,
      )

  abbrev step : Type 0
  step = MessageTaken ds pre e post t r fit is_known not_full none-behind inside.0

  step-done : step
  step-done = taken_in_lem ds pre e post t r fit is_known not_full none-behind inside.0

  module _ (k : step) where
    abbrev after_one : Tally
    after_one = tallied ds pre t e post k.next

    sized : length after_one.memory ≡ length t.memory
    unfolding tallied
    sized =
        size-taken (all_messages_in (get_or ds e.trans no_transaction) e.trans (pre ++ (e ∷ post)))
        (get_or ds e.trans no_transaction) e t.memory

    next-for : TransactionsFor after_one.transactions ds ((pre ++ (e ∷ [])) ++ post)
    unfolding tallied
    next-for = subst (TransactionsFor k.next ds) (sym (append_assoc pre (e ∷ []) post)) k.next_for

    next-inside : Inside ds (length after_one.memory) es
    next-inside = subst (λ (n : ℕ). Inside ds n es) (sym sized) inside.1

    next-fit : length ds ≤ low ds ((pre ++ (e ∷ [])) ++ post) + 32
    next-fit =
        let more = low-mono ds (pre ++ post) ((pre ++ (e ∷ [])) ++ post)
        (λ i. omega (
          arith,
          count-append i pre post,
          count-append i (pre ++ (e ∷ [])) post,
          count-append i pre
              (e ∷ []),
        )) in
        omega (arith, more)

    next-beyond : (i : ℕ) → length ds ≤ i → count i ((pre ++ (e ∷ [])) ++ (es ++ post)) ≡ 0
    next-beyond i h = ap (count i) (append_assoc pre (e ∷ []) (es ++ post)) ∙ beyond i h

    joined : FrameTaken ds (pre ++ (e ∷ [])) es post (suc place) after_one → FrameTaken ds pre (e ∷ es) post place t
    unfolding take_all taken_all completed_all data_bytes tallied
    joined rest = record {
      end = rest.end;
      is_fine = rw (k.taken_in, k.not_refused) rest.is_fine;
      transactions_for =
          subst (TransactionsFor rest.end.transactions ds) (append_assoc pre (e ∷ []) (es ++ post))
          rest.transactions_for;
      memory_is = rest.memory_is;
      messages_are = omega (arith, rest.messages_are);
      bytes_are = omega (arith, rest.bytes_are);
      complete_are = omega (arith, rest.complete_are);
    }

pub frame-taken : (ds : List Transaction) (pre es post : List MessageRecord) (place : ℕ) (t : Tally)
    → TransactionsFor t.transactions ds (pre ++ post) → AllTurns (StillAwaited ds) pre es post
    → Inside ds (length t.memory) es
    → length ds ≤ low ds (pre ++ post) + 32 → ((i : ℕ) → length ds ≤ i → count i (pre ++ (es ++ post)) ≡ 0)
    → FrameTaken ds pre es post place t
unfolding take_all taken_all completed_all data_bytes
frame-taken ds pre [] post place t r ready inside fit beyond = record {
  end = t;
  is_fine = refl;
  transactions_for = r;
  memory_is = refl;
  messages_are = omega arith;
  bytes_are = omega arith;
  complete_are = omega arith;
}
frame-taken ds pre (e ∷ es) post place t r ready inside fit beyond =
    let k = step-done ds pre e es post place t r fit ready.0.0 ready.0.1 inside beyond in
    joined ds pre e es post place t r fit ready.0.0 ready.0.1 inside beyond k
    (frame-taken ds (pre ++ (e ∷ [])) es post (suc place) (tallied ds pre t e post k.next)
    (next-for ds pre e es post place t r fit ready.0.0 ready.0.1 inside beyond k) ready.1
    (next-inside ds pre e es post place t r fit ready.0.0 ready.0.1 inside beyond k)
    (next-fit ds pre e es post place t r fit ready.0.0 ready.0.1 inside beyond k)
    (next-beyond ds pre e es post place t r fit ready.0.0 ready.0.1 inside beyond k))
