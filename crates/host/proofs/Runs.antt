-- The run of frame numbers that an answer acknowledges: what it comes to by the distance of its first number, as code
-- counts it, and that it is 1 to 255 long. Assumes nothing: the pair may be one that no run of the host reaches.
use mathlib.Core.Path.{◌≡◌, refl, sym, ap, ◌∙◌}
use mathlib.Core.Bool.{Bool, true, false}
use mathlib.Core.List.{List}
use Prim.Native.Nat.{ℕ, ◌+◌, ◌-◌, ◌/◌, ◌%◌, ◌^◌, ◌≤◌, ◌<◌, min}
use native.Mathlib.Nat.{mod-eq_of_lt}
use native.Mathlib.Decide.{dec_le, dec_lt}
use native.Mathlib.Omega.{arith}
use borrow.Author.Tests.{lt-ltb, leb-false}
use lib.Dec.{eqb, leb, lit<}
use lib.ListN.{get_or}
use Rattle.std.specs.Prelude.{is_some}
use Rattle.seq.specs.Ring.{distance, advance, frame_space}
use Rattle.seq.proofs.Ring.{distance-lt, distance-further, distance-nearer, distance-passed}
use Rattle.bitmap.specs.Marks.{mark, with_mark, leading, trailing_ones}
use Rattle.bitmap.proofs.Marks.{
  leading_le,
  leading-ge,
  leading-holds,
  leading-stops,
  leading-fails,
  leading-is,
  leading-same,
  mark-shift,
  mark-past,
  mark-same,
  with_mark-lt,
  ones-le,
  moved-lt,
  moved-clear,
}
use Rattle.wire.specs.Format.{Message}
use Rattle.wire.specs.Reading.{number, flags, Read, bad, good}
use Rattle.host.specs.Transactions.{Transactions}
use Rattle.host.specs.declared.Pair.{Pair}
use Rattle.host.specs.declared.Answer.{Answer}
use Rattle.host.specs.declared.Answer.TheVariants.{Accepted, Again, NoMessages, Refused}
use Rattle.host.specs.Host.{
  Taken,
  fine,
  wrong,
  take_all,
  settled,
  run_from,
  after_frame,
  accepting,
  concluded,
  tally_of,
  by_number,
  answered,
  receive_of,
  acknowledgement_from,
  answer_words,
  answer_of,
}
use Rattle.host.specs.Reachable.{Reachable}
use Rattle.host.proofs.Receiving.{reading, settled-behind, settled-ahead, settled-window}

-- ---- the run, by the distance of its first number

-- The number that follows it is neither behind nor accepted, but where 255 are full; each of its own is one or the
-- other.
pub run-longest : (p : Pair) (num : ℕ)
    → (run_from p num < 255 → settled p (advance frame_space num (run_from p num)) ≡ false)
    × ((i : ℕ) → i < run_from p num → settled p (advance frame_space num i) ≡ true)
unfolding run_from
run-longest p num =
    ((λ l. leading-stops (λ i. settled p (advance frame_space num i)) _ (omega arith)), leading-holds _ _)

pub run-most : (p : Pair) (num : ℕ) → run_from p num ≤ 255
unfolding run_from
run-most p num = leading_le _ _

module _ (p : Pair) (num d : ℕ) (d-is : d ≡ distance frame_space p.next.0 num) where
  abbrev each : ℕ → Bool
  each i = settled p (advance frame_space num i)

  -- the i-th number of the run is i further
  place : (i e : ℕ) → (d + i) % frame_space ≡ e → e ≡ distance frame_space p.next.0 (advance frame_space num i)
  unfolding advance
  place i e q =
      sym q ∙ ap (λ (n : ℕ). (n + i) % frame_space) d-is ∙ sym (distance-further frame_space (lit< tt) p.next.0 num i)

  inside : d < frame_space
  inside = omega (arith, d-is, distance-lt frame_space (lit< tt) p.next.0 num)

  -- from a number that is behind or accepted on, it has that number at least
  pub run-some : settled p num ≡ true → 1 ≤ run_from p num
  unfolding run_from settled
  run-some s =
      let z : d ≡ distance frame_space p.next.0 (advance frame_space num 0) = place 0 d (omega (arith, inside)) in
      leading-ge each _ 1 (omega arith) (λ i h. let q : i ≡ 0 = omega arith in rw (q, ← z, d-is) s)

  -- behind: all up to the next one, and the marks that are set from there on
  pub run-behind : 32768 ≤ d → run_from p num ≡ min 255 (frame_space - d + trailing_ones 64 p.marks)
  unfolding run_from trailing_ones
  run-behind h = leading-is each _ (min 255 (frame_space - d + ones)) (omega arith)
      (λ i l. holds i (omega arith) (dec_lt i (frame_space - d)))
      (λ l.
      let r : min 255 (frame_space - d + ones) ≡ frame_space - d + ones = omega arith in
      rw r (stops (dec_lt ones 64)))
    where
      ones : ℕ
      ones = trailing_ones 64 p.marks

      few : ones ≤ 64
      few = ones-le 64 p.marks

      holds : (i : ℕ) → i < frame_space - d + ones → Dec (i < frame_space - d) → each i ≡ true
      holds i l (yes k) =
          settled-behind p (advance frame_space num i) (d + i) (place i (d + i) (omega arith)) (omega arith)
      holds i l (no k) =
          let j : ℕ = i - (frame_space - d) in
          settled-window p (advance frame_space num i) j (place i j (omega (arith, inside, few))) (omega (arith, few))
          ∙ leading-holds (mark p.marks) 64 j (omega (arith, inside))

      stops : Dec (ones < 64) → each (frame_space - d + ones) ≡ false
      stops (yes k) =
          settled-window p (advance frame_space num (frame_space - d + ones)) ones
          (place (frame_space - d + ones) ones (omega (arith, inside))) k
          ∙ leading-stops (mark p.marks) 64 k
      stops (no k) =
          settled-ahead p (advance frame_space num (frame_space - d + ones)) 64
          (place (frame_space - d + ones) 64 (omega (arith, inside, few))) (omega arith) (omega arith)

  -- in the window: the marks that are set from its own on; the window's end is ahead
  pub run-window : d < 64 → run_from p num ≡ trailing_ones (64 - d) (p.marks / 2 ^ d)
  unfolding run_from trailing_ones
  run-window h = leading-is each _ ones (omega (arith, few))
      (λ i l. window i (omega (arith, few)) ∙ leading-holds (mark (p.marks / 2 ^ d)) (64 - d) i l)
      (λ l. stops (dec_lt ones (64 - d)))
    where
      ones : ℕ
      ones = trailing_ones (64 - d) (p.marks / 2 ^ d)

      few : ones ≤ 64 - d
      few = ones-le (64 - d) (p.marks / 2 ^ d)

      window : (i : ℕ) → i < 64 - d → each i ≡ mark (p.marks / 2 ^ d) i
      window i l =
          settled-window p (advance frame_space num i) (d + i) (place i (d + i) (omega arith)) (omega arith)
          ∙ sym (mark-shift p.marks d i)

      stops : Dec (ones < 64 - d) → each ones ≡ false
      stops (yes k) = window ones k ∙ leading-stops (mark (p.marks / 2 ^ d)) (64 - d) k
      stops (no k) =
          settled-ahead p (advance frame_space num ones) 64 (place ones 64 (omega (arith, few))) (omega arith)
          (omega arith)

  -- the same on a word of 64 marks
  pub run-window-word : d < 64 → p.marks < 2 ^ 64 → run_from p num ≡ trailing_ones 64 (p.marks / 2 ^ d)
  unfolding trailing_ones
  run-window-word h fits = run-window h ∙ sym (leading-is (mark shifted) 64 ones (omega (arith, few))
      (leading-holds (mark shifted) (64 - d)) (λ l. stops (dec_lt ones (64 - d))))
    where
      shifted : ℕ
      shifted = p.marks / 2 ^ d

      ones : ℕ
      ones = leading (mark shifted) (64 - d)

      few : ones ≤ 64 - d
      few = leading_le (mark shifted) (64 - d)

      stops : Dec (ones < 64 - d) → mark shifted ones ≡ false
      stops (yes k) = leading-stops (mark shifted) (64 - d) k
      stops (no k) = mark-shift p.marks d ones ∙ mark-past 64 p.marks (d + ones) fits (omega arith)

  -- behind, in a pair that a run of the host reaches: all up to the next one
  pub run-behind-reached : 32768 ≤ d → Reachable p → run_from p num ≡ min 255 (frame_space - d)
  unfolding trailing_ones
  run-behind-reached h r =
      let none : trailing_ones 64 p.marks ≤ 0 = leading-fails (mark p.marks) 64 0 r.next-new in
      run-behind h ∙ omega arith

-- ---- every answer's run

-- A frame in the window is accepted once it took effect: its mark is set, or the window has moved past it.
pub settled-after : (p : Pair) (num : ℕ) (t : Transactions) → p.next.0 < frame_space
    → distance frame_space p.next.0 num < 64 → settled (after_frame p num t) num ≡ true
unfolding after_frame
settled-after p num t fits near = go (dec_le ones d)
  where
    d : ℕ
    d = distance frame_space p.next.0 num

    marked : ℕ
    marked = with_mark 64 p.marks d

    ones : ℕ
    ones = trailing_ones 64 marked

    few : ones ≤ 64
    few = ones-le 64 marked

    go : Dec (ones ≤ d) → settled (after_frame p num t) num ≡ true
    go (yes h) =
        let z : ones + (d - ones) ≡ d = omega arith in
        settled-window (after_frame p num t) num (d - ones)
        (sym (distance-nearer frame_space (lit< tt) p.next.0 num ones fits h)) (omega arith)
        ∙ mark-shift marked ones (d - ones) ∙ ap (mark marked) z ∙ mark-same 64 p.marks d near
    go (no h) =
        settled-behind (after_frame p num t) num (frame_space - (ones - d))
        (sym (distance-passed frame_space (lit< tt) p.next.0 num ones fits (omega arith) (omega (arith, few))))
        (omega (arith, few))

-- The run of a frame that was accepted, on the word with its mark before the window moves: the marks that are set from
-- its own on.
module _ (p : Pair) (num d : ℕ) (t : Transactions) (d-is : d ≡ distance frame_space p.next.0 num) (near : d < 64)
    (fits : p.next.0 < frame_space) (word : p.marks < 2 ^ 64) where
  abbrev marked : ℕ
  marked = with_mark 64 p.marks d

  abbrev past : ℕ
  past = trailing_ones 64 marked

  filled : marked < 2 ^ 64
  filled = with_mark-lt 64 p.marks d word

  few : past ≤ 64
  few = ones-le 64 marked

  -- the window stays at or before it
  not-past : past ≤ d → run_from (after_frame p num t) num ≡ trailing_ones 64 (marked / 2 ^ d)
  unfolding after_frame trailing_ones
  not-past h =
      run-window-word (after_frame p num t) num (d - past) (rw (← d-is) (sym nearer)) (omega arith) (rw (← d-is) shorter)
      ∙ rw (← d-is) (leading-same (mark (marked / 2 ^ past / 2 ^ (d - past))) (mark (marked / 2 ^ d)) 64 same)
    where
      nearer : distance frame_space (advance frame_space p.next.0 past) num ≡ d - past
      nearer =
          let h : past ≤ distance frame_space p.next.0 num = omega (arith, d-is) in
          distance-nearer frame_space (lit< tt) p.next.0 num past fits h ∙ ap (λ (n : ℕ). n - past) (sym d-is)

      shorter : marked / 2 ^ past < 2 ^ 64
      shorter = moved-lt 64 marked filled

      same : (i : ℕ) → i < 64 → mark (marked / 2 ^ past / 2 ^ (d - past)) i ≡ mark (marked / 2 ^ d) i
      same i l =
          let e : past + (d - past + i) ≡ d + i = omega arith in
          mark-shift (marked / 2 ^ past) (d - past) i ∙ mark-shift marked past (d - past + i) ∙ ap (mark marked) e
          ∙ sym (mark-shift marked d i)

  -- the window moves past it, and begins with a clear mark then
  moved_by : d < past → run_from (after_frame p num t) num ≡ past - d
  unfolding after_frame trailing_ones
  moved_by h =
      let none : trailing_ones 64 (marked / 2 ^ past) ≤ 0 =
      leading-fails (mark (marked / 2 ^ past)) 64 0 (moved-clear 64 marked filled) in
      run-behind (after_frame p num t) num (frame_space - (past - d)) (rw (← d-is) (sym behind)) (omega (arith, few))
      ∙ rw (← d-is) (omega (arith, few))
    where
      behind : distance frame_space (advance frame_space p.next.0 past) num ≡ frame_space - (past - d)
      behind =
          let h : distance frame_space p.next.0 num < past = omega (arith, d-is) in
          distance-passed frame_space (lit< tt) p.next.0 num past fits h (omega (arith, few))
          ∙ ap (λ (n : ℕ). frame_space - (past - n)) (sym d-is)

  ones-left : d < past → trailing_ones 64 (marked / 2 ^ d) ≡ past - d
  unfolding trailing_ones
  ones-left h = leading-is (mark (marked / 2 ^ d)) 64 (past - d) (omega (arith, few))
      (λ i l. mark-shift marked d i ∙ leading-holds (mark marked) 64 (d + i) (omega arith))
      (λ l. mark-shift marked d (past - d) ∙ ap (mark marked) (meets l) ∙ ends (dec_lt past 64))
    where
      meets : past - d < 64 → d + (past - d) ≡ past
      meets l = omega arith

      ends : Dec (past < 64) → mark marked past ≡ false
      ends (yes k) = leading-stops (mark marked) 64 k
      ends (no k) = mark-past 64 marked past filled (omega arith)

  pub run-accepted : run_from (after_frame p num t) num ≡ trailing_ones 64 (with_mark 64 p.marks d / 2 ^ d)
  run-accepted = go (dec_lt d past)
    where
      go : Dec (d < past) → run_from (after_frame p num t) num ≡ trailing_ones 64 (marked / 2 ^ d)
      go (yes h) = moved_by h ∙ sym (ones-left h)
      go (no h) = not-past (omega arith)

-- An answer that acknowledges ends with the run from its number on in the pair that the frame leaves.
abbrev pub EndsWithRun : Pair → Answer → Type 0
EndsWithRun p (Accepted n sums run) = run ≡ run_from p n.0
EndsWithRun p (Again n run) = run ≡ run_from p n.0
EndsWithRun p NoMessages = Unit {0}
EndsWithRun p (Refused r) = Unit {0}

module _ (p : Pair) (memory : List ℕ) where
  by-number-ends : (num : ℕ) (ms : List Message)
      → EndsWithRun (by_number p memory num ms).pair (by_number p memory num ms).answer
  unfolding by_number accepting
  by-number-ends num ms = go (settled p num) refl (leb 64 (distance frame_space p.next.0 num)) refl
    where
      taken : (o : Taken) → EndsWithRun (concluded p memory num o).pair (concluded p memory num o).answer
      taken (fine t) = refl
      taken (wrong r at) = tt

      go : (a : Bool) → settled p num ≡ a → (b : Bool) → leb 64 (distance frame_space p.next.0 num) ≡ b
          → EndsWithRun (by_number p memory num ms).pair (by_number p memory num ms).answer
      go true x b y = rw x refl
      go false x true y = rw (x, y) tt
      go false x false y = rw (x, y) (taken (take_all (tally_of p memory) 0 ms))

  pub answer-ends : (f : List ℕ) → EndsWithRun (receive_of p f memory).pair (receive_of p f memory).answer
  unfolding receive_of
  answer-ends f = go (reading p f memory)
    where
      some : (ms : List Message) (b : Bool) → eqb (flags f) 0 ≡ b
          → EndsWithRun (answered p f memory (good ms)).pair (answered p f memory (good ms)).answer
      some ms true e = rw e tt
      some ms false e = rw e (by-number-ends (number f) ms)

      go : (x : Read) → EndsWithRun (answered p f memory x).pair (answered p f memory x).answer
      go (bad r) = tt
      go (good ms) = some ms (eqb (flags f) 0) refl

-- It has 1 to 255 numbers.
abbrev pub RunFits : Answer → Type 0
RunFits (Accepted n sums run) = (1 ≤ run) × (run ≤ 255)
RunFits (Again n run) = (1 ≤ run) × (run ≤ 255)
RunFits NoMessages = Unit {0}
RunFits (Refused r) = Unit {0}

abbrev pub acknowledges : Answer → Bool
acknowledges (Accepted n sums run) = true
acknowledges (Again n run) = true
acknowledges NoMessages = false
acknowledges (Refused r) = false

module _ (p : Pair) (memory : List ℕ) (fits : p.next.0 < frame_space) where
  by-number-run : (num : ℕ) (ms : List Message) → RunFits (by_number p memory num ms).answer
  unfolding by_number accepting
  by-number-run num ms = go (settled p num) refl (leb 64 d) refl
    where
      d : ℕ
      d = distance frame_space p.next.0 num

      taken : d < 64 → (o : Taken) → RunFits (concluded p memory num o).answer
      taken l (fine t) =
          let q = after_frame p num t.transactions in (
            run-some q num (distance frame_space q.next.0 num) refl (settled-after p num t.transactions fits l),
            run-most q num,
          )
      taken l (wrong r at) = tt

      go : (a : Bool) → settled p num ≡ a → (b : Bool) → leb 64 d ≡ b → RunFits (by_number p memory num ms).answer
      go true x b y = rw x (run-some p num d refl x, run-most p num)
      go false x true y = rw (x, y) tt
      go false x false y = rw (x, y) (taken (leb-false 64 d y) (take_all (tally_of p memory) 0 ms))

  pub answer-run : (f : List ℕ) → RunFits (receive_of p f memory).answer
  unfolding receive_of
  answer-run f = go (reading p f memory)
    where
      some : (ms : List Message) (b : Bool) → eqb (flags f) 0 ≡ b → RunFits (answered p f memory (good ms)).answer
      some ms true e = rw e tt
      some ms false e = rw e (by-number-run (number f) ms)

      go : (x : Read) → RunFits (answered p f memory x).answer
      go (bad r) = tt
      go (good ms) = some ms (eqb (flags f) 0) refl

  -- so an acknowledgement is due for accepted and again, and for no other answer
  pub answer-due : (own peer n : ℕ) (f : List ℕ)
      → is_some (acknowledgement_from own peer (receive_of p f memory).answer n)
      ≡ acknowledges (receive_of p f memory).answer
  unfolding acknowledgement_from
  answer-due own peer n f = go (receive_of p f memory).answer (answer-run f)
    where
      go : (a : Answer) → RunFits a → is_some (acknowledgement_from own peer a n) ≡ acknowledges a
      go (Accepted k sums run) r = rw (lt-ltb 0 run r.0) refl
      go (Again k run) r = rw (lt-ltb 0 run r.0) refl
      go NoMessages r = refl
      go (Refused k) r = refl

-- ---- an answer as words

-- A frame number that has 16 bits.
abbrev pub NumberFits : Answer → Type 0
NumberFits (Accepted n sums run) = n.0 < frame_space
NumberFits (Again n run) = n.0 < frame_space
NumberFits NoMessages = Unit {0}
NumberFits (Refused r) = Unit {0}

-- what is left of an answer in three of its words calls for the acknowledgement that the answer calls for
pub words-acknowledge : (own peer num : ℕ) (a : Answer) → RunFits a → NumberFits a
    → acknowledgement_from own peer
    (answer_of (get_or (answer_words a) 0 0) (get_or (answer_words a) 1 0) (get_or (answer_words a) 7 0)) num
    ≡ acknowledgement_from own peer a num
unfolding acknowledgement_from
words-acknowledge own peer num (Accepted n sums run) r f =
    let small : run < 256 = omega (arith, r.1) in rw (mod-eq_of_lt f, mod-eq_of_lt small)
words-acknowledge own peer num (Again n run) r f =
    let small : run < 256 = omega (arith, r.1) in rw (mod-eq_of_lt f, mod-eq_of_lt small)
words-acknowledge own peer num NoMessages r f = refl
words-acknowledge own peer num (Refused k) r f = refl
