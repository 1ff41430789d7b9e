-- Opening hands back a reachable pair, and receiving keeps a pair reachable, whatever bytes the frame has.
-- Assumes nothing.
use mathlib.Core.Path.{◌≡◌, refl, sym, ap, ◌∙◌}
use mathlib.Core.Logic.{◌≢◌, ◌⊎◌, inl, inr}
use mathlib.Core.Bool.{Bool, true, false, true≢false}
use mathlib.Core.List.{List, [], ◌∷◌}
use Prim.Native.Nat.{ℕ, zero, suc, ◌+◌, ◌-◌, ◌/◌, ◌%◌, ◌^◌, ◌≤◌, ◌<◌}
use native.Mathlib.Decide.{dec_le, dec_lt}
use native.Mathlib.Omega.{arith}
use borrow.Author.Tests.{eqb-true, eqb-false}
use lib.Dec.{eqb, leb}
use lib.ListN.{length, get_or, set, replicate, length-set}
use lib.Seq.{get_or-set_same, get_or-set_other}
use Rattle.seq.specs.Ring.{distance, advance, frame_space, trans_space}
use Rattle.bitmap.specs.Marks.{mark, with_mark, trailing_ones}
use Rattle.bitmap.proofs.Marks.{
  mark-shift,
  mark-past,
  mark-of-zero,
  mark-other,
  with_mark-lt,
  moved-lt,
  moved-clear,
}
use Rattle.octets.specs.Octets.{Bytes}
use Rattle.wire.specs.Format.{Message, message_header}
use Rattle.wire.specs.Reading.{number, flags, refusal_of}
use Rattle.wire.proofs.Reading.{readable}
use Rattle.wire.proofs.RoundTrip.{Fits, AllFit, messages-fit}
use Rattle.host.specs.declared.Open.{Open}
use Rattle.host.specs.Terms.{free}
use Rattle.host.specs.declared.Verdict.{Verdict}
use Rattle.host.specs.Transactions.{fills, closed_verdict, open_verdict, Transactions, verdict, after}
use Rattle.host.proofs.Passing.{agreed-count}
use Rattle.host.proofs.Judging.{in_window, agreeing, closes, holds, fills-left}
use Rattle.host.specs.declared.Pair.{Pair}
use Rattle.host.specs.Host.{
  fresh,
  opened_of,
  Tally,
  take_in,
  Taken,
  fine,
  wrong,
  take_all,
  settled,
  after_frame,
  accepting,
  concluded,
  tally_of,
  by_number,
  receive_of,
}
use Rattle.host.specs.Reachable.{Underway, Orderly, Reachable}
use Rattle.host.proofs.Receiving.{reading, received-refused, received_none, received-some}

-- ---- entries of the table

-- the space of transaction numbers is a multiple of 32: an entry goes on with the numbers where those wrap
pub entry-is : (lowest j : ℕ) → advance trans_space lowest j % 32 ≡ (lowest + j) % 32
unfolding advance
entry-is lowest j = omega arith

-- so a transaction's entry is as far past the lowest one's as the transaction is
pub entry_of : (lowest trans : ℕ) → lowest < trans_space → trans < trans_space
    → trans % 32 ≡ (lowest + distance trans_space lowest trans) % 32
unfolding distance
entry_of lowest trans h k = omega arith

-- one entry set
each_set : (table : List Open) (i : ℕ) (o : Open) → i < length table → (o ≡ free) ⊎ Underway o
    → ((k : ℕ) → (get_or table k free ≡ free) ⊎ Underway (get_or table k free)) → (k : ℕ)
    → (get_or (set table i o) k free ≡ free) ⊎ Underway (get_or (set table i o) k free)
each_set table i o l ok all k = go (dec_le k i) (dec_le i k)
  where
    Ok : Type 0
    Ok = (get_or (set table i o) k free ≡ free) ⊎ Underway (get_or (set table i o) k free)

    other : k ≢ i → Ok
    other ne = rw (get_or-set_other table i k o free ne) (all k)

    go : Dec (k ≤ i) → Dec (i ≤ k) → Ok
    go (no h) q = other (λ e. h (omega arith))
    go (yes h) (no q) = other (λ e. q (omega arith))
    go (yes h) (yes q) =
        let e : k ≡ i = omega arith in
        rw (e, get_or-set_same table i o free l) ok

-- ---- one message

-- a message of a transaction in the window that is not closed, and its entry
module _ (t : Transactions) (s : Orderly t) (i d : ℕ) (near : d < 32) (i-is : i ≡ (t.lowest + d) % 32)
    (clear : mark t.closed d ≡ false) where
  in_table : i < length t.table
  in_table = omega (arith, s.entries)

  -- the transaction is closed, and the window moves
  marked : ℕ
  marked = with_mark 32 t.closed d

  marked-fits : marked < 2 ^ 32
  unfolding marked
  marked-fits = with_mark-lt 32 t.closed d s.closed-fits

  -- the entries of all that are marked are free
  marked-free : (j : ℕ) → mark marked j ≡ true → get_or (set t.table i free) ((t.lowest + j) % 32) free ≡ free
  unfolding marked
  marked-free j m = go (dec_le ((t.lowest + j) % 32) i) (dec_le i ((t.lowest + j) % 32))
    where
      k : ℕ
      k = (t.lowest + j) % 32

      below : Dec (j < 32) → j < 32
      below (yes h) = h
      below (no h) = absurd (true≢false (sym m ∙ mark-past 32 marked j marked-fits (omega arith)))

      other : k ≢ i → get_or (set t.table i free) k free ≡ free
      other ne =
          let was : mark t.closed j ≡ true = sym (mark-other 32 t.closed d j (λ e. ne (omega arith))) ∙ m in
          get_or-set_other t.table i k free free ne ∙ s.closed-free j (below (dec_lt j 32)) was

      go : Dec (k ≤ i) → Dec (i ≤ k) → get_or (set t.table i free) k free ≡ free
      go (no h) q = other (λ e. h (omega arith))
      go (yes h) (no q) = other (λ e. q (omega arith))
      go (yes h) (yes q) =
          let e : k ≡ i = omega arith in
          rw e (get_or-set_same t.table i free free in_table)

  run : ℕ
  run = trailing_ones 32 marked

  closing-keeps : Orderly (record {
    lowest = advance trans_space t.lowest run;
    closed = marked / 2 ^ run;
    table = set t.table i free;
  })
  unfolding advance run
  closing-keeps =
      record {
        lowest-fits = omega arith;
        closed-fits = moved-lt 32 marked marked-fits;
        entries = length-set t.table i free ∙ s.entries;
        lowest-open = moved-clear 32 marked marked-fits;
        each = each_set t.table i free in_table (inl refl) s.each;
        closed-free = moved-free;
      }
    where
      moved-free : (j : ℕ) → j < 32 → mark (marked / 2 ^ run) j ≡ true
          → get_or (set t.table i free) (((t.lowest + run) % trans_space + j) % 32) free ≡ free
      moved-free j l m =
          let e : ((t.lowest + run) % trans_space + j) % 32 ≡ (t.lowest + (run + j)) % 32 = omega arith in
          rw e (marked-free (run + j) (sym (mark-shift marked run j) ∙ m))

  -- the transaction is open, with one message more
  holding-keeps : (o : Open) → Underway o
      → Orderly (record { lowest = t.lowest; closed = t.closed; table = set t.table i o })
  holding-keeps o u =
      record {
        lowest-fits = s.lowest-fits;
        closed-fits = s.closed-fits;
        entries = length-set t.table i o ∙ s.entries;
        lowest-open = s.lowest-open;
        each = each_set t.table i o in_table (inr u) s.each;
        closed-free = still-free;
      }
    where
      still-free : (j : ℕ) → j < 32 → mark t.closed j ≡ true
          → get_or (set t.table i o) ((t.lowest + j) % 32) free ≡ free
      still-free j l m =
          get_or-set_other t.table i ((t.lowest + j) % 32) o free other ∙ s.closed-free j l m
        where
          other : (t.lowest + j) % 32 ≢ i
          other e =
              let same : j ≡ d = omega arith in
              absurd (true≢false (sym m ∙ ap (mark t.closed) same ∙ clear))

-- a message that is not refused
pub verdict-keeps : (t : Transactions) (size : ℕ) (m : Message) → Orderly t → Fits m → (verdict t size m).refusal ≡ 0
    → Orderly (after t m (verdict t size m))
unfolding verdict after message_header closed_verdict open_verdict marked run
verdict-keeps t size m s f e = go (fills o (message_header m)) refl
  where
    i : ℕ
    i = m.trans % 32

    o : Open
    o = get_or t.table i free

    d : ℕ
    d = distance trans_space t.lowest m.trans

    window : (d < 32) × (mark t.closed d ≡ false)
    window = in_window t.lowest t.closed o (message_header m) (length m.bytes) size e

    i-is : i ≡ (t.lowest + d) % 32
    i-is = entry_of t.lowest m.trans s.lowest-fits f.trans-fits

    fewer : (o.received ≡ 0) ⊎ (o.received < m.count)
    fewer = of (s.each i)
      where
        of : (o ≡ free) ⊎ Underway o → (o.received ≡ 0) ⊎ (o.received < m.count)
        of (inl q) = inl (ap (λ (x : Open). x.received) q)
        of (inr u) =
            let header = message_header m in
            let c = agreed-count o header (agreeing t.lowest t.closed o header (length m.bytes) size e)
            (λ q. omega (arith, q, u.some-received)) in
            inr (omega (arith, c, u.some-to-come))

    go : (b : Bool) → fills o (message_header m) ≡ b → Orderly (after t m (verdict t size m))
    go true z =
        rw (closes t.lowest t.closed o (message_header m) (length m.bytes) size e z)
        (closing-keeps t s i d window.0 i-is window.1)
    go false z =
        let more : suc o.received < m.count = fills-left o (message_header m) fewer z in
        rw (holds t.lowest t.closed o (message_header m) (length m.bytes) size e z)
        (holding-keeps t s i d window.0 i-is window.1 _ (record {
          some-received = omega (arith, more, f.count_fits);
          some-to-come = omega (arith, more, f.count_fits);
          count_fits = f.count_fits;
          address-fits = f.address-fits;
          value-fits = f.value-fits;
        }))

-- ---- what it tells of the table

pub received-fits : (o : Open) → Underway o → o.received < 2 ^ 16
received-fits o u = omega (arith, u.some-to-come, u.count_fits)

-- an entry that is not free is that of a transaction in the window that is not closed
pub open-entry : (t : Transactions) (k : ℕ) → Orderly t → k < 32 → get_or t.table k free ≢ free
    → (j : ℕ) × (j < 32) × ((t.lowest + j) % 32 ≡ k) × (mark t.closed j ≡ false)
open-entry t k s l ne = (j, omega arith, is, go (mark t.closed j) refl)
  where
    j : ℕ
    j = (k + (32 - t.lowest % 32)) % 32

    is : (t.lowest + j) % 32 ≡ k
    is = omega arith

    go : (b : Bool) → mark t.closed j ≡ b → mark t.closed j ≡ false
    go true z =
        let at-k : get_or t.table k free ≡ free = rw is at (s.closed-free j (omega arith) z) in
        absurd (ne at-k)
    go false z = z

-- ---- all messages of a frame

pub taken-keep : (y : Tally) (place : ℕ) (ms : List Message) (t : Tally) → Orderly y.transactions → AllFit ms
    → take_all y place ms ≡ fine t → Orderly t.transactions
unfolding take_all take_in
taken-keep y place [] t s f e =
    let q : y ≡ t = cc in
    rw (← q) s
taken-keep y place (m ∷ ms) t s f e =
    go (λ k q. taken-keep (take_in y m v) (suc place) ms t k f.1 q) (eqb v.refusal 0) refl
  where
    v : Verdict
    v = verdict y.transactions (length y.memory) m

    go : (Orderly (after y.transactions m v) → take_all (take_in y m v) (suc place) ms ≡ fine t
        → Orderly t.transactions)
        → (b : Bool) → eqb v.refusal 0 ≡ b → Orderly t.transactions
    go ih true z =
        ih (verdict-keeps y.transactions (length y.memory) m s f.0 (eqb-true v.refusal 0 z)) (rw z at e)
    go ih false z =
        let q : wrong v.refusal place ≡ fine t = rw z at e in
        let w : ◌≡◌ {A = ℕ} 0 1 = cc in
        absurd (omega arith)

-- ---- opening

free-at : (n k : ℕ) → get_or (replicate n free) k free ≡ free
free-at zero k = refl
free-at (suc n) zero = refl
free-at (suc n) (suc k) = free-at n k

pub fresh-reachable : (own peer : ℕ) → own < 2 ^ 16 → peer < 2 ^ 16
    → ((own ≡ 0) × (peer ≡ 0)) ⊎ ((own ≢ 0) × (peer ≢ 0)) → Reachable (fresh own peer)
unfolding fresh
fresh-reachable own peer h k ids =
    record {
      own-fits = h;
      peer-fits = k;
      ids = ids;
      next_fits = omega arith;
      marks-fit = omega arith;
      next-new = mark-of-zero 0;
      transactions = record {
        lowest-fits = omega arith;
        closed-fits = omega arith;
        entries = refl;
        lowest-open = mark-of-zero 0;
        each = λ j. inl (free-at 32 j);
        closed-free = λ j l m. free-at 32 ((0 + j) % 32);
      };
    }

pub opened-reachable : (own peer : ℕ) → own < 2 ^ 16 → peer < 2 ^ 16 → Reachable (opened_of own peer).pair
unfolding opened_of
opened-reachable own peer h k = go (eqb own 0) refl (eqb peer 0) refl
  where
    none : Reachable (fresh 0 0)
    none = fresh-reachable 0 0 (omega arith) (omega arith) (inl (refl, refl))

    go : (a : Bool) → eqb own 0 ≡ a → (b : Bool) → eqb peer 0 ≡ b → Reachable (opened_of own peer).pair
    go true z b w = rw z none
    go false z true w = rw (z, w) none
    go false z false w = rw (z, w) (fresh-reachable own peer h k (inr (eqb-false own 0 z, eqb-false peer 0 w)))

-- ---- receiving

accepting-reachable : (p : Pair) (num : ℕ) (t : Tally) → Reachable p → Orderly t.transactions
    → Reachable (accepting p num t).pair
unfolding accepting after_frame advance
accepting-reachable p num t r s =
    record {
      own-fits = r.own-fits;
      peer-fits = r.peer-fits;
      ids = r.ids;
      next_fits = omega arith;
      marks-fit = moved-lt 64 marked fits;
      next-new = moved-clear 64 marked fits;
      transactions = s;
    }
  where
    marked : ℕ
    marked = with_mark 64 p.marks (distance frame_space p.next.0 num)

    fits : marked < 2 ^ 64
    fits = with_mark-lt 64 p.marks (distance frame_space p.next.0 num) r.marks-fit

pub by_number-reachable : (p : Pair) (memory : List ℕ) (num : ℕ) (ms : List Message) → Reachable p → AllFit ms
    → Reachable (by_number p memory num ms).pair
unfolding by_number
by_number-reachable p memory num ms r f = go (settled p num) refl (leb 64 d) refl
  where
    d : ℕ
    d = distance frame_space p.next.0 num

    taken : (o : Taken) → take_all (tally_of p memory) 0 ms ≡ o → Reachable (concluded p memory num o).pair
    taken (fine t) e = accepting-reachable p num t r (taken-keep (tally_of p memory) 0 ms t r.transactions f e)
    taken (wrong n place) e = r

    go : (a : Bool) → settled p num ≡ a → (b : Bool) → leb 64 d ≡ b → Reachable (by_number p memory num ms).pair
    go true x b y = rw x r
    go false x true y = rw (x, y) r
    go false x false y = rw (x, y) (taken (take_all (tally_of p memory) 0 ms) refl)

pub receive-reachable : (p : Pair) (f memory : List ℕ) → Reachable p → Bytes f → Reachable (receive_of p f memory).pair
receive-reachable p f memory r b = go (eqb (refusal_of (reading p f memory)) 0) refl (eqb (flags f) 0) refl
  where
    go : (x : Bool) → eqb (refusal_of (reading p f memory)) 0 ≡ x → (y : Bool) → eqb (flags f) 0 ≡ y
        → Reachable (receive_of p f memory).pair
    go false z y w = rw (received-refused p f memory (refusal_of (reading p f memory)) refl (eqb-false _ 0 z)) r
    go true z true w = rw (received_none p f memory (readable _ f (eqb-true _ 0 z)) (eqb-true (flags f) 0 w)) r
    go true z false w =
        let s = received-some p f memory (readable _ f (eqb-true _ 0 z)) (eqb-false (flags f) 0 w) in
        rw s.2 (by_number-reachable p memory (number f) s.0 r (messages-fit (length f) f 10 s.0 b s.1))
