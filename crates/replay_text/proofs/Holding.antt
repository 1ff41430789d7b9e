-- What is held of a line decides its answer: of a line that spells a frame the host's answer to that frame, and else
-- 14. Assumes nothing.
use Rattle.std.proofs.Common.{◌≡◌, ℕ, zero, suc, ◌+◌, ◌*◌, ◌%◌, ◌<◌, ◌≤◌, Bool, true, false, cond, eqb, ltb, List, [], ◌∷◌, ◌++◌, length, take, set, replicate, sym, refl, ap, ◌∙◌, mod-eq_of_lt, add-one, arith, length-set, length-take-le, take-suc-set, le-ltb, lt-ltb, ne_eqb}
use mathlib.Core.Option.{Option, none, some}
use native.Mathlib.Decide.{dec_le, dec_lt}
use lib.ListN.{length-replicate}
use Rattle.hexadecimal.specs.declared.line.Line.{Line}
use Rattle.hexadecimal.specs.Line.{digit, decode}
use Rattle.hexadecimal.specs.Taking.{State, state, start, with_byte, with_digit, with_value, after, refused_line, empty_line}
use Rattle.hexadecimal.proofs.line.Digits.{Valued, is_digit, no_digit, valued}
use Rattle.hexadecimal.proofs.line.Taking.{on-high, on-low, on-full}
use Rattle.hexadecimal.proofs.line.Decoding.{
  at_start,
  Spelled,
  line-spelled,
  line_refused,
  line-empty,
  frame-whole,
  frame-long,
}
use Rattle.host.specs.declared.Pair.{Pair}
use Rattle.host.specs.Host.{unchanged, refused, receive_of}
use Rattle.host.proofs.TooLong.{too_long}
use Rattle.replay_text.specs.Text.{answer_to}
use Rattle.replay_text.specs.Feeding.{
  Held,
  within,
  past,
  nothing_held,
  held_after_one,
  held_after,
  answer_held,
  is_empty,
}
use Rattle.replay_text.specs.Describing.{held_of}

-- ---- a character more

module _ (len half : ℕ) (odd bad : Bool) (frame : List ℕ) where
  held-past : 9000 < len → held_of (state len half odd bad frame).line frame ≡ past odd bad
  unfolding held_of
  held-past h = rw (lt-ltb 9000 len h)

  held-within : len ≤ 9000
      → held_of (state len half odd bad frame).line frame
      ≡ within (take len frame) (cond odd (some (half % 16)) none) bad
  unfolding held_of
  held-within h = rw (le-ltb 9000 len h)

-- the second half of a byte, where there is room for it and where there is not
module _ (bytes : List ℕ) (h d : ℕ) (bad : Bool) where
  pub byte-kept : length bytes < 9000
      → held_after_one (some d) (within bytes (some h) bad) ≡ within (bytes ++ (h * 16 + d) ∷ []) none bad
  byte-kept l =
      ap (λ (b : Bool). cond b (within (bytes ++ (h * 16 + d) ∷ []) none bad) (past false bad))
      (lt-ltb (length bytes) 9000 l)

  pub byte_past : 9000 ≤ length bytes → held_after_one (some d) (within bytes (some h) bad) ≡ past false bad
  byte_past l =
      ap (λ (b : Bool). cond b (within (bytes ++ (h * 16 + d) ∷ []) none bad) (past false bad))
      (le-ltb (length bytes) 9000 l)

abbrev held_by : State → Held
held_by s = held_of s.line s.frame

module _ (len half : ℕ) (bad : Bool) (frame : List ℕ) (room : 9000 ≤ length frame) (c : ℕ) where
  one-bad : (odd : Bool) → digit c ≡ none
      → held_by (with_value (digit c) (state len half odd bad frame))
      ≡ held_after_one (digit c) (held_of (state len half odd bad frame).line frame)
  one-bad odd e = go (dec_le len 9000)
    where
      go : Dec (len ≤ 9000)
          → held_by (with_value (digit c) (state len half odd bad frame))
          ≡ held_after_one (digit c) (held_of (state len half odd bad frame).line frame)
      go (yes h) = rw (held-within len half odd bad frame h, e) (held-within len half odd true frame h)
      go (no h) =
          rw (held-past len half odd bad frame (omega arith), e) (held-past len half odd true frame (omega arith))

  module _ (d : ℕ) (e : digit c ≡ some d) (low : d < 16) where
    one-high : held_by (with_value (digit c) (state len half false bad frame))
        ≡ held_after_one (digit c) (held_of (state len half false bad frame).line frame)
    one-high = rw (on-high len half false bad frame c d e refl) (go (dec_le len 9000))
      where
        go : Dec (len ≤ 9000)
            → held_of (state len d true bad frame).line frame
            ≡ held_after_one (digit c) (held_of (state len half false bad frame).line frame)
        go (yes h) =
            let m : d % 16 ≡ d = mod-eq_of_lt low in
            held-within len d true bad frame h ∙ rw (held-within len half false bad frame h, e, m)
        go (no h) =
            held-past len d true bad frame (omega arith) ∙ rw (held-past len half false bad frame (omega arith), e)

    one-low : held_by (with_value (digit c) (state len half true bad frame))
        ≡ held_after_one (digit c) (held_of (state len half true bad frame).line frame)
    one-low = go (dec_lt len 9000) (dec_le len 9000)
      where
        b : ℕ
        b = half % 16 * 16 + d

        go : Dec (len < 9000) → Dec (len ≤ 9000)
            → held_by (with_value (digit c) (state len half true bad frame))
            ≡ held_after_one (digit c) (held_of (state len half true bad frame).line frame)
        go (yes h) k =
            let size : length (take len frame) ≡ len = length-take-le len frame (omega arith) in
            let front : take (len + 1) (set frame len b) ≡ take len frame ++ b ∷ [] =
            rw add-one (take-suc-set frame len b (omega arith)) in
            rw (
              on-low len half true bad frame c d e refl (omega arith),
              held-within len half true bad frame (omega arith),
              e,
            )
            (held-within (len + 1) half false bad (set frame len b) (omega arith)
            ∙ rw front (sym (byte-kept (take len frame) (half % 16) d bad (omega arith))))
        go (no h) (yes k) =
            let size : length (take len frame) ≡ 9000 = length-take-le len frame (omega arith) ∙ omega arith in
            rw (on-low len half true bad frame c d e refl (omega arith), held-within len half true bad frame k, e)
            (held-past (len + 1) half false bad (set frame len b) (omega arith)
            ∙ sym (byte_past (take len frame) (half % 16) d bad (omega arith)))
        go (no h) (no k) =
            rw (
              on-full len half true bad frame c d e refl (omega arith),
              held-past len half true bad frame (omega arith),
              e,
            )
            (held-past len half false bad frame (omega arith))

  pub one-held : (odd : Bool)
      → held_by (with_value (digit c) (state len half odd bad frame))
      ≡ held_after_one (digit c) (held_of (state len half odd bad frame).line frame)
  one-held odd = go odd (valued c)
    where
      go : (o : Bool) → Valued c
          → held_by (with_value (digit c) (state len half o bad frame))
          ≡ held_after_one (digit c) (held_of (state len half o bad frame).line frame)
      go o (no_digit e) = one-bad o e
      go false (is_digit d e low) = one-high d e low
      go true (is_digit d e low) = one-low d e low

-- ---- all characters

same-digit : (d len half : ℕ) (odd bad : Bool) (frame : List ℕ)
    → length (with_digit d (state len half odd bad frame)).frame ≡ length frame
unfolding with_digit with_byte
same-digit d len half false bad frame = refl
same-digit d len half true bad frame = go (ltb len 9001) refl
  where
    go : (b : Bool) → ltb len 9001 ≡ b → length (with_digit d (state len half true bad frame)).frame ≡ length frame
    go true e = rw e (length-set frame len (half % 16 * 16 + d))
    go false e = rw e

same_size : (o : Option ℕ) (s : State) → length (with_value o s).frame ≡ length s.frame
same_size none s = refl
same_size (some d) s = same-digit d s.line.len s.line.half s.line.odd s.line.bad s.frame

pub after-size : (cs : List ℕ) (s : State) → length (after s cs).frame ≡ length s.frame
unfolding after
after-size [] s = refl
after-size (c ∷ cs) s = after-size cs (with_value (digit c) s) ∙ same_size (digit c) s

pub all_held : (cs : List ℕ) (s : State) → 9000 ≤ length s.frame → held_by (after s cs) ≡ held_after (held_by s) cs
unfolding after held_after
all_held [] s room = refl
all_held (c ∷ cs) s room =
    all_held cs (with_value (digit c) s) (rw (same_size (digit c) s) room)
    ∙ ap (λ (h : Held). held_after h cs)
    (one-held s.line.len s.line.half s.line.bad s.frame room c s.line.odd)

-- ---- the answer where the line ends

module _ (p : Pair) (memory : List ℕ) (line : Line) (frame : List ℕ) where
  pub answer-refused : refused_line line ≡ true
      → answer_held p memory (held_of line frame) ≡ unchanged p memory (refused 14 0)
  unfolding refused_line held_of
  answer-refused e = go (ltb 9000 line.len) line.bad line.odd e
    where
      go : (l b o : Bool) → cond b true o ≡ true
          → answer_held p memory
          (cond l (past o b) (within (take line.len frame) (cond o (some (line.half % 16)) none) b))
          ≡ unchanged p memory (refused 14 0)
      go true true o q = refl
      go false true true q = refl
      go false true false q = refl
      go true false true q = refl
      go false false true q = refl
      go true false false q = let z : ◌≡◌ {A = ℕ} 0 1 = cc in absurd (omega arith)
      go false false false q = let z : ◌≡◌ {A = ℕ} 0 1 = cc in absurd (omega arith)

  module _ (good : refused_line line ≡ false) where
    pub answer-long : 9000 < line.len → answer_held p memory (held_of line frame) ≡ unchanged p memory (refused 2 0)
    unfolding refused_line held_of
    answer-long h = rw (lt-ltb 9000 line.len h) (go line.bad line.odd good)
      where
        go : (b o : Bool) → cond b true o ≡ false → answer_held p memory (past o b) ≡ unchanged p memory (refused 2 0)
        go false false q = refl
        go true o q = let z : ◌≡◌ {A = ℕ} 0 1 = cc in absurd (omega arith)
        go false true q = let z : ◌≡◌ {A = ℕ} 0 1 = cc in absurd (omega arith)

    pub answer-short : line.len ≤ 9000
        → answer_held p memory (held_of line frame) ≡ receive_of p (take line.len frame) memory
    unfolding refused_line held_of
    answer-short h = rw (le-ltb 9000 line.len h) (go line.bad line.odd good)
      where
        go : (b o : Bool) → cond b true o ≡ false
            → answer_held p memory (within (take line.len frame) (cond o (some (line.half % 16)) none) b)
            ≡ receive_of p (take line.len frame) memory
        go false false q = refl
        go true o q = let z : ◌≡◌ {A = ℕ} 0 1 = cc in absurd (omega arith)
        go false true q = let z : ◌≡◌ {A = ℕ} 0 1 = cc in absurd (omega arith)

-- ---- a whole line, from no character on

pub nothing-held : (frame : List ℕ) → held_of start frame ≡ nothing_held
unfolding held_of start
nothing-held frame = refl

-- as it would stand in a buffer of 9,001 bytes
room : List ℕ
room = replicate 9001 0

room-size : length room ≡ 9001
unfolding room
room-size = length-replicate {A = ℕ} 9001 0

abbrev ended : List ℕ → State
ended cs = after (at_start room) cs

ended_held : (cs : List ℕ) → held_by (ended cs) ≡ held_after nothing_held cs
unfolding start
ended_held cs =
    let size = room-size in
    all_held cs (at_start room) (omega arith) ∙ ap (λ (h : Held). held_after h cs) (nothing-held room)

pub held-answer : (p : Pair) (memory cs : List ℕ)
    → answer_held p memory (held_after nothing_held cs) ≡ answer_to p memory (decode cs)
held-answer p memory cs = rw (← ended_held cs) (go (decode cs) refl)
  where
    size : length room ≡ 9001
    size = room-size

    s : State
    s = ended cs

    go : (o : Option (List ℕ)) → decode cs ≡ o → answer_held p memory (held_by (ended cs)) ≡ answer_to p memory o
    go none e = answer-refused p memory s.line s.frame (line_refused cs room e)
    go (some f) e = by (dec_le (length f) 9000)
      where
        spelled : Spelled f s
        spelled = line-spelled cs f room (omega (arith, size)) e

        by : Dec (length f ≤ 9000) → answer_held p memory (held_by (ended cs)) ≡ receive_of p f memory
        by (yes h) =
            let w = frame-whole spelled h in
            answer-short p memory s.line s.frame spelled.not-refused (omega (arith, w.0)) ∙ rw w.1
        by (no h) =
            answer-long p memory s.line s.frame spelled.not-refused
            (omega (arith, frame-long spelled (omega arith)))
            ∙ sym (too_long p f memory (omega arith))

-- ---- a line with no character

empty-plain : (len half : ℕ) (odd bad : Bool) (frame : List ℕ) → 9000 ≤ length frame
    → is_empty (held_of (state len half odd bad frame).line frame) ≡ empty_line (state len half odd bad frame).line
unfolding held_of empty_line
empty-plain zero half true true frame h = refl
empty-plain zero half true false frame h = refl
empty-plain zero half false true frame h = refl
empty-plain zero half false false frame h = refl
empty-plain (suc n) half odd bad [] h = absurd (omega arith)
empty-plain (suc n) half odd bad (x ∷ frame) h = go (ltb 9000 (suc n)) ∙ sym (no-character bad odd)
  where
    e : eqb (suc n) 0 ≡ false
    e = ne_eqb (suc n) 0 (omega arith)

    no-character : (b o : Bool) → cond b false (cond o false (eqb (suc n) 0)) ≡ false
    no-character true o = refl
    no-character false true = refl
    no-character false false = e

    go : (l : Bool)
        → is_empty (cond l (past odd bad) (within (x ∷ take n frame) (cond odd (some (half % 16)) none) bad)) ≡ false
    go true = refl
    go false = refl

pub empty-held : (line : Line) (frame : List ℕ) → 9000 ≤ length frame → is_empty (held_of line frame) ≡ empty_line line
empty-held line frame h = empty-plain line.len line.half line.odd line.bad frame h

pub held-empty : (cs : List ℕ) → is_empty (held_after nothing_held cs) ≡ eqb (length cs) 0
held-empty cs =
    let size = room-size in
    rw (← ended_held cs)
    (empty-held (ended cs).line (ended cs).frame (omega (arith, after-size cs (at_start room)))
    ∙ line-empty cs room)
