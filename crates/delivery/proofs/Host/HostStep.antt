-- The host's transactions against the book's, and one message: it is not refused, and the two agree after it.
-- Assumes nothing.
use Prim.Native.Nat.{ℕ, suc, ◌+◌, ◌-◌, ◌%◌, ◌≤◌, ◌<◌}
use native.Mathlib.Nat.{mod-add-mod, mod-lt, mod-eq_of_lt}
use native.Mathlib.Decide.{dec_le, dec_lt, ℕ_discrete}
use native.Mathlib.Omega.{arith}
use mathlib.Core.Path.{◌≡◌, refl, sym, ap, ◌∙◌, subst}
use mathlib.Core.Logic.{◌≢◌}
use mathlib.Core.Bool.{Bool, true, false, cond, ◌&&◌}
use mathlib.Core.List.{List, []}
use borrow.Author.Tests.{eq-eqb, ne_eqb, eqb-true, le-leb, lt-leb, leb-false, le-ltb}
use lib.Dec.{eqb, ltb, leb, lit<, eqb-suc-zero}
use lib.ListN.{length, get_or, set, length-set}
use lib.Seq.{get_or-set_same, get_or-set_other}
use Rattle.seq.specs.Ring.{distance, advance, frame_space, trans_space}
use Rattle.seq.proofs.Ring.{distance-ahead, same_count}
use Rattle.bitmap.specs.Marks.{mark, with_mark, leading, trailing_ones}
use Rattle.bitmap.proofs.Marks.{
  leading_le,
  leading-holds,
  leading-stops,
  leading-fails,
  leading-is,
  mark-same,
  mark-other,
  window-moves,
  window-marks,
}
use Rattle.wire.specs.Format.{Message, message_header, needed}
use Rattle.host.specs.declared.Open.{Open}
use Rattle.host.specs.Terms.{free, agrees, terms_refusal, address_refusal}
use Rattle.host.specs.Transactions.{
  fills,
  one_received,
  closed_verdict,
  open_verdict,
  verdict_of,
  Transactions,
  verdict,
  after,
}
use Rattle.delivery.specs.Book.{MessageRecord, Transaction, no_transaction, all_messages_in}
use Rattle.delivery.proofs.Book.Counts.{count, not-full-none}

-- Whether transaction i is complete with these messages accepted, and the lowest that is not.
abbrev pub full_at : List Transaction → List MessageRecord → ℕ → Bool
full_at ds es i = all_messages_in (get_or ds i no_transaction) i es

abbrev pub low : List Transaction → List MessageRecord → ℕ
low ds es = leading (full_at ds es) (length ds)

-- A transaction of which n messages were received, as the host's table holds it.
abbrev pub underway : Transaction → ℕ → Open
underway d n = record { count = d.count; address = d.completion_address; value = d.completion_value; received = n }

-- What the entry of transaction i holds.
unfoldable pub entry : List Transaction → List MessageRecord → ℕ → Open
entry ds es i =
    cond (full_at ds es i) free (cond (eqb (count i es) 0) free (underway (get_or ds i no_transaction) (count i es)))

pub record TransactionsFor (l : Transactions) (ds : List Transaction) (es : List MessageRecord) : Type 0 where
  pub lowest_is : l.lowest ≡ low ds es % trans_space
  pub closed_is : (i : ℕ) → mark l.closed i ≡ full_at ds es (low ds es + i)
  pub entries_are : (i : ℕ) → low ds es ≤ i → i < low ds es + 32 → get_or l.table (i % 32) free ≡ entry ds es i
  pub entries : length l.table ≡ 32

-- A message of the book as the wire carries it.
abbrev pub wired : List Transaction → MessageRecord → Message
wired ds e =
    let d = get_or ds e.trans no_transaction in
    record {
      trans = e.trans % trans_space;
      completion_address = d.completion_address;
      completion_value = d.completion_value;
      count = d.count;
      data_address = e.data_address;
      bytes = e.bytes;
    }

mod32 : (t : ℕ) → t % trans_space % 32 ≡ t % 32
mod32 t = omega arith

module _ (l : Transactions) (ds : List Transaction) (es : List MessageRecord) (r : TransactionsFor l ds es)
    (e : MessageRecord)
    (fit : length ds ≤ low ds es + 32) (is_known : e.trans < length ds)
    (not_full : full_at ds es e.trans ≡ false) where
  abbrev d : Transaction
  d = get_or ds e.trans no_transaction

  abbrev pub in_table : Open
  in_table = get_or l.table (e.trans % trans_space % 32) free

  abbrev pub gap : ℕ
  gap = distance trans_space l.lowest (e.trans % trans_space)

  at_least : low ds es ≤ e.trans
  at_least = leading-fails (full_at ds es) (length ds) e.trans not_full

  away : gap ≡ e.trans - low ds es
  away =
      let a : low ds es ≤ e.trans = at_least in
      rw r.lowest_is (distance-ahead trans_space (lit< tt) (low ds es) e.trans a (omega arith))

  near : gap < 32
  near = omega (arith, away, at_least)

  is_clear : mark l.closed gap ≡ false
  is_clear =
      let z : low ds es + (e.trans - low ds es) ≡ e.trans = omega (arith, at_least) in
      ap (mark l.closed) away ∙ r.closed_is (e.trans - low ds es) ∙ ap (full_at ds es) z ∙ not_full

  held : in_table ≡ entry ds es e.trans
  held =
      ap (λ (n : ℕ). get_or l.table n free) (mod32 e.trans)
      ∙ r.entries_are e.trans at_least (omega (arith, at_least))

  received_is : in_table.received ≡ count e.trans es
  unfolding entry
  received_is = ap (λ (o : Open). o.received) held ∙ rw not_full (go (eqb (count e.trans es) 0) refl)
    where
      go : (b : Bool) → eqb (count e.trans es) 0 ≡ b
          → (cond b free (underway d (count e.trans es))).received ≡ count e.trans es
      go true q = sym (eqb-true (count e.trans es) 0 q)
      go false q = refl

  agrees-so : agrees in_table (message_header (wired ds e)) ≡ true
  unfolding agrees entry message_header
  agrees-so = rw (held, not_full) (go (eqb (count e.trans es) 0) refl)
    where
      go : (b : Bool) → eqb (count e.trans es) 0 ≡ b
          → agrees (cond b free (underway d (count e.trans es))) (message_header (wired ds e)) ≡ true
      go true q = refl
      go false q =
          rw (
            q,
            eq-eqb d.count d.count refl,
            eq-eqb d.completion_address d.completion_address refl,
            eq-eqb d.completion_value
                d.completion_value refl,
          )

  module _ (size : ℕ) (bare : d.count ≡ 0 → e.bytes ≡ []) (data_in : e.data_address + length e.bytes ≤ size)
      (completion_in : d.completion_address + 4 ≤ size) where
    terms-fine : terms_refusal gap l.closed in_table (message_header (wired ds e)) (length e.bytes) ≡ 0
    unfolding terms_refusal message_header
    terms-fine = rw (lt-leb 32 gap near, is_clear, agrees-so, go (eqb d.count 0) refl)
      where
        go : (x : Bool) → eqb d.count 0 ≡ x → (eqb d.count 0 && ltb 0 (length e.bytes)) ≡ false
        go true q = rw (q, bare (eqb-true d.count 0 q))
        go false q = rw q

    addresses-fine : address_refusal size (message_header (wired ds e)) (length e.bytes) ≡ 0
    unfolding address_refusal message_header
    addresses-fine =
        rw (
          le-ltb size (e.data_address + length e.bytes) data_in,
          le-ltb size (d.completion_address + 4) completion_in,
        )

    -- the message is not refused: it closes its transaction, or the transaction is held with one message more
    pub verdict-is : verdict l size (wired ds e)
        ≡ cond (fills in_table (message_header (wired ds e))) (closed_verdict l.lowest l.closed gap)
        (open_verdict l.lowest l.closed in_table (message_header (wired ds e)))
    unfolding verdict verdict_of message_header
    verdict-is = rw (terms-fine, addresses-fine)

-- ---- entries

pub read_set : {A : Type 0} (xs : List A) (k j : ℕ) (a d : A) → k ≡ j → j < length xs → get_or (set xs k a) j d ≡ a
read_set xs k j a d q h = rw q (get_or-set_same xs j a d h)

pub read-other : {A : Type 0} (xs : List A) (k k' j : ℕ) (a d : A) → k ≡ k' → j ≢ k' → get_or (set xs k a) j d
    ≡ get_or xs j d
read-other xs k k' j a d q n = rw q (get_or-set_other xs k' j a d n)

-- two of 32 consecutive counts have different entries
pub slots-differ : (a i t : ℕ) → a ≤ i → i < a + 32 → a ≤ t → t < a + 32 → t ≢ i → i % 32 ≢ t % 32
slots-differ a i t h₁ h₂ h₃ h₄ n q = go (dec_le i t)
  where
    go : Dec (i ≤ t) → ⊥
    go (yes l) = n (sym (same_count 32 (lit< tt) i t l (omega arith) q))
    go (no m) = n (same_count 32 (lit< tt) t i (omega arith) (omega arith) (sym q))

-- a transaction of which there is no message is not complete
pub full-beyond : (ds : List Transaction) (es : List MessageRecord) (i : ℕ) → count i es ≡ 0 → full_at ds es i ≡ false
full-beyond ds es i z = not-full-none (get_or ds i no_transaction) i es z

-- one message more than too few: that it makes the number full says that it reaches it
just-full : (n c : ℕ) → leb n c ≡ false → eqb n (suc c) ≡ leb n (suc c)
just-full n c h = go (dec_le n (suc c))
  where
    less : c < n
    less = leb-false n c h

    go : Dec (n ≤ suc c) → eqb n (suc c) ≡ leb n (suc c)
    go (yes k) = eq-eqb n (suc c) (omega (arith, less, k)) ∙ sym (le-leb n (suc c) k)
    go (no k) = ne_eqb n (suc c) (λ q. k (omega (arith, q))) ∙ sym (lt-leb n (suc c) (omega (arith, k)))

needed-fits : (c : ℕ) → c < frame_space → needed c < frame_space
unfolding needed
needed-fits c h = go (eqb c 0)
  where
    go : (b : Bool) → cond b 1 c < frame_space
    go true = lit< tt
    go false = h

-- ---- after the message

module _ (l : Transactions) (ds : List Transaction) (es es' : List MessageRecord) (r : TransactionsFor l ds es)
    (e : MessageRecord) (fit : length ds ≤ low ds es + 32) (is_known : e.trans < length ds)
    (not_full : full_at ds es e.trans ≡ false) (one : count e.trans es' ≡ suc (count e.trans es))
    (others : (i : ℕ) → e.trans ≢ i → count i es' ≡ count i es)
    (beyond : (i : ℕ) → length ds ≤ i → count i es ≡ 0) where
  abbrev k : ℕ
  k = e.trans % trans_space % 32

  abbrev dist : ℕ
  dist = gap l ds es r e fit is_known not_full

  abbrev was : Open
  was = in_table l ds es r e fit is_known not_full

  bound : low ds es ≤ e.trans
  bound = at_least l ds es r e fit is_known not_full

  full-others : (i : ℕ) → e.trans ≢ i → full_at ds es' i ≡ full_at ds es i
  unfolding all_messages_in
  full-others i n = ap (λ (k : ℕ). leb (needed (get_or ds i no_transaction).count) k) (others i n)

  entry-others : (i : ℕ) → e.trans ≢ i → entry ds es' i ≡ entry ds es i
  unfolding entry
  entry-others i n = rw (full-others i n, others i n)

  pub fills-is : fills was (message_header (wired ds e)) ≡ full_at ds es' e.trans
  unfolding fills all_messages_in message_header
  fills-is = rw (received_is l ds es r e fit is_known not_full, one) (just-full _ (count e.trans es) not_full)

  -- not yet complete: the same windows, one more received, which its 16 bits hold
  module _ (still : full_at ds es' e.trans ≡ false)
      (count_fits : (get_or ds e.trans no_transaction).count < frame_space) where
    full-same : (i : ℕ) → full_at ds es' i ≡ full_at ds es i
    full-same i = go (ℕ_discrete e.trans i)
      where
        go : Dec (e.trans ≡ i) → full_at ds es' i ≡ full_at ds es i
        go (yes q) = subst (λ (t : ℕ). full_at ds es' t ≡ full_at ds es t) q (still ∙ sym not_full)
        go (no n) = full-others i n

    low_same : low ds es' ≡ low ds es
    low_same =
        leading-is (full_at ds es') (length ds) (low ds es) (leading_le (full_at ds es) (length ds))
        (λ i h. full-same i ∙ leading-holds (full_at ds es) (length ds) i h)
        (λ h. full-same (low ds es) ∙ leading-stops (full_at ds es) (length ds) h)

    new : Open
    new = underway (get_or ds e.trans no_transaction) (suc was.received)

    entry_now : entry ds es' e.trans ≡ new
    unfolding entry new
    entry_now =
        rw (still, one, eqb-suc-zero (count e.trans es))
        (ap (λ (n : ℕ). underway (get_or ds e.trans no_transaction) (suc n))
        (sym (received_is l ds es r e fit is_known not_full)))

    entry_kept : (i : ℕ) → low ds es ≤ i → i < low ds es + 32 → Dec (e.trans ≡ i)
        → get_or (set l.table k new) (i % 32) free ≡ entry ds es' i
    entry_kept i a b (yes q) =
        let z : k ≡ i % 32 = mod32 e.trans ∙ ap (λ (j : ℕ). j % 32) q in
        let len : i % 32 < length l.table = rw r.entries (mod-lt i (lit< tt)) in
        read_set l.table k (i % 32) new free z len ∙ sym entry_now ∙ ap (entry ds es') q
    entry_kept i a b (no n) =
        read-other l.table k (e.trans % 32) (i % 32) new free (mod32 e.trans)
        (slots-differ (low ds es) i e.trans a b bound (omega arith) n)
        ∙ r.entries_are i a b ∙ sym (entry-others i n)

    -- fewer were received than the count's field holds, so that the number received does not wrap
    left_is : one_received was (message_header (wired ds e)) ≡ new
    unfolding message_header new all_messages_in
    left_is =
        let d = get_or ds e.trans no_transaction in
        let less = leb-false (needed d.count) (count e.trans es') still in
        let same = received_is l ds es r e fit is_known not_full in
        ap (underway d) (mod-eq_of_lt (omega (arith, less, same, one, needed-fits d.count count_fits)))

    pub for-holding : TransactionsFor
        (after l (wired ds e) (open_verdict l.lowest l.closed was (message_header (wired ds e)))) ds es'
    unfolding after open_verdict message_header
    for-holding =
        subst
        (λ (o : Open).
        TransactionsFor (record { lowest = l.lowest; closed = l.closed; table = set l.table k o }) ds es')
        (sym left_is)
        (record {
          lowest_is = rw low_same r.lowest_is;
          closed_is = λ i. rw (low_same, full-same (low ds es + i)) (r.closed_is i);
          entries_are = λ i a b. entry_kept i (rw low_same at a) (rw low_same at b) (ℕ_discrete e.trans i);
          entries = length-set l.table k new ∙ r.entries;
        })

  -- complete now: marked, and the window moved past it where it was the lowest
  module _ (now : full_at ds es' e.trans ≡ true) where
    marked : ℕ
    marked = with_mark 32 l.closed dist

    run : ℕ
    run = trailing_ones 32 marked

    marked-is : (i : ℕ) → mark marked i ≡ full_at ds es' (low ds es + i)
    unfolding marked
    marked-is i = go (ℕ_discrete i dist)
      where
        far : dist ≡ e.trans - low ds es
        far = away l ds es r e fit is_known not_full

        go : Dec (i ≡ dist) → mark (with_mark 32 l.closed dist) i ≡ full_at ds es' (low ds es + i)
        go (yes q) =
            let z : low ds es + i ≡ e.trans = omega (arith, far, bound) in
            rw (z, q) (mark-same 32 l.closed dist (near l ds es r e fit is_known not_full) ∙ sym now)
        go (no n) =
            mark-other 32 l.closed dist i n ∙ r.closed_is i
            ∙ sym (full-others (low ds es + i) (λ q. n (omega (arith, far, bound))))

    beyond' : (i : ℕ) → length ds ≤ i → full_at ds es' i ≡ false
    beyond' i h = full-beyond ds es' i (others i (λ q. omega arith) ∙ beyond i h)

    below' : (i : ℕ) → i < low ds es → full_at ds es' i ≡ true
    below' i h = full-others i (λ q. omega (arith, bound)) ∙ leading-holds (full_at ds es) (length ds) i h

    low-moves : low ds es' ≡ low ds es + run
    unfolding run
    low-moves =
        window-moves (full_at ds es') (length ds) (low ds es) 32 marked (leading_le (full_at ds es) (length ds)) fit
        below' marked-is beyond'

    entry-full : (i : ℕ) → full_at ds es' i ≡ true → entry ds es' i ≡ free
    unfolding entry
    entry-full i h = rw h

    entry-beyond : (i : ℕ) → length ds ≤ i → entry ds es' i ≡ free
    unfolding entry
    entry-beyond i h = rw (beyond' i h, others i (λ q. omega arith) ∙ beyond i h)

    -- a entry of the old window, whoever reads it now
    entry_old : (i : ℕ) → low ds es ≤ i → i < low ds es + 32 → Dec (e.trans ≡ i)
        → get_or (set l.table k free) (i % 32) free ≡ entry ds es' i
    entry_old i a b (yes q) =
        let z : k ≡ i % 32 = mod32 e.trans ∙ ap (λ (j : ℕ). j % 32) q in
        let len : i % 32 < length l.table = rw r.entries (mod-lt i (lit< tt)) in
        read_set l.table k (i % 32) free free z len
        ∙ sym (entry-full i (subst (λ (t : ℕ). full_at ds es' t ≡ true) q now))
    entry_old i a b (no n) =
        read-other l.table k (e.trans % 32) (i % 32) free free (mod32 e.trans)
        (slots-differ (low ds es) i e.trans a b bound (omega arith) n)
        ∙ r.entries_are i a b ∙ sym (entry-others i n)

    -- a entry of the window moved: one of the old window, or that of a transaction passed, which is free
    entry_new : (i : ℕ) → low ds es + run ≤ i → i < low ds es + run + 32 → Dec (i < low ds es + 32)
        → get_or (set l.table k free) (i % 32) free ≡ entry ds es' i
    unfolding run trailing_ones
    entry_new i a b (yes h) = entry_old i (omega arith) h (ℕ_discrete e.trans i)
    entry_new i a b (no h) =
        let z : i % 32 ≡ (i - 32) % 32 = omega arith in
        let le32 : run ≤ 32 = leading_le (mark marked) 32 in
        let q : low ds es + (i - 32 - low ds es) ≡ i - 32 = omega arith in
        let f : full_at ds es' (i - 32) ≡ true =
        sym (ap (full_at ds es') q) ∙ sym (marked-is (i - 32 - low ds es))
        ∙ leading-holds (mark marked) 32 (i - 32 - low ds es) (omega arith) in
        rw z (entry_old (i - 32) (omega arith) (omega arith) (ℕ_discrete e.trans (i - 32)))
        ∙ entry-full (i - 32) f ∙ sym (entry-beyond i (omega arith))

    pub for-closing : TransactionsFor (after l (wired ds e) (closed_verdict l.lowest l.closed dist)) ds es'
    unfolding after closed_verdict advance marked run
    for-closing = record {
      lowest_is =
          ap (λ (n : ℕ). (n + run) % trans_space) r.lowest_is ∙ mod-add-mod (low ds es) trans_space run
          ∙ ap (λ (n : ℕ). n % trans_space) (sym low-moves);
      closed_is =
          window-marks (full_at ds es') (length ds) (low ds es) 32 marked (leading_le (full_at ds es) (length ds)) fit
          below' marked-is beyond';
      entries_are = λ i a b. entry_new i (rw low-moves at a) (rw low-moves at b) (dec_lt i (low ds es + 32));
      entries = length-set l.table k free ∙ r.entries;
    }
