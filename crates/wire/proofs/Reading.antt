-- Laws of reading a frame: the heading, each refusal where its test says so, and what a frame that is not refused reads
-- as. Assumes nothing.
use mathlib.Core.Path.{◌≡◌, refl, sym, ap, ◌∙◌}
use mathlib.Core.Logic.{◌≢◌}
use mathlib.Core.Bool.{Bool, true, false, cond, not, true≢false}
use mathlib.Core.List.{List, [], ◌∷◌}
use mathlib.Core.Option.{Option, none, some}
use Prim.Native.Nat.{ℕ, suc, ◌+◌, ◌≤◌, ◌<◌}
use native.Mathlib.Decide.{dec_le}
use native.Mathlib.Omega.{arith}
use borrow.Author.Tests.{lt-ltb, le-ltb, le-leb, lt-leb, ne_eqb}
use lib.ListN.{length}
use Rattle.octets.specs.Octets.{field}
use Rattle.wire.specs.Format.{Message, next_header}
use Rattle.wire.specs.Reading.{
  flags,
  follows,
  data_end,
  message_at,
  prepend,
  bad,
  good,
  or_passes_end,
  messages_from,
  heading_of,
  read_frame,
  refusal_of,
}

none≢some : {x : List Message} → ◌≡◌ {A = Option (List Message)} none (some x) → ⊥
none≢some e =
    let z : ◌≡◌ {A = ℕ} 0 1 = cc in
    omega arith

-- ---- the trailing byte

pub follows-not-0 : (b : ℕ) → b ≢ 0 → follows b ≡ true
unfolding follows
follows-not-0 b h = ap not (ne_eqb b 0 h)

pub follows-at-0 : follows 0 ≡ false
unfolding follows
follows-at-0 = refl

-- ---- the heading

-- what holds of a frame that none of refusals 1 to 4 is given for
pub record Framed (ids : Bool) (f : List ℕ) : Type 0 where
  pub least : 10 ≤ length f
  pub most : length f ≤ 9000
  pub right : ids ≡ true
  pub flag : flags f ≤ 1

module _ (ids : Bool) (f : List ℕ) where
  pub heading-1 : length f < 10 → heading_of ids f ≡ 1
  unfolding heading_of
  heading-1 h = rw (lt-ltb (length f) 10 h)

  pub heading-2 : 9000 < length f → heading_of ids f ≡ 2
  unfolding heading_of
  heading-2 h = rw (le-ltb (length f) 10 (omega arith), lt-ltb 9000 (length f) h)

  -- a frame of a length that a frame may have
  module _ (least : 10 ≤ length f) (most : length f ≤ 9000) where
    pub heading-3 : ids ≡ false → heading_of ids f ≡ 3
    unfolding heading_of
    heading-3 e = rw (le-ltb (length f) 10 least, le-ltb 9000 (length f) most, e)

    pub heading-4 : ids ≡ true → 1 < flags f → heading_of ids f ≡ 4
    unfolding heading_of
    heading-4 e h = rw (le-ltb (length f) 10 least, le-ltb 9000 (length f) most, e, lt-ltb 1 (flags f) h)

    pub heading-0 : ids ≡ true → flags f ≤ 1 → heading_of ids f ≡ 0
    unfolding heading_of
    heading-0 e h = rw (le-ltb (length f) 10 least, le-ltb 9000 (length f) most, e, le-ltb 1 (flags f) h)

  -- a refusal of the heading is the frame's; where there is none, the frame is headed
  pub heading-stops : (r : ℕ) → r ≡ heading_of ids f → r ≢ 0 → read_frame ids f ≡ bad r
  unfolding read_frame
  heading-stops r e ne = rw (← e, lt-ltb 0 r (omega (arith, ne)))

  pub heading-stands : (r : ℕ) → r ≡ heading_of ids f → r ≡ 0 → Framed ids f
  heading-stands r e z = long (dec_le 10 (length f)) (dec_le (length f) 9000)
    where
      given : (n : ℕ) → heading_of ids f ≡ n → n ≡ 0
      given n h = sym h ∙ sym e ∙ z

      long : Dec (10 ≤ length f) → Dec (length f ≤ 9000) → Framed ids f
      long (no h) k = absurd (omega (arith, given 1 (heading-1 (omega arith))))
      long (yes h) (no k) = absurd (omega (arith, given 2 (heading-2 (omega arith))))
      long (yes h) (yes k) = mine ids refl
        where
          mine : (b : Bool) → ids ≡ b → Framed ids f
          mine false q = absurd (omega (arith, given 3 (heading-3 h k q)))
          mine true q = flagged (dec_le (flags f) 1)
            where
              flagged : Dec (flags f ≤ 1) → Framed ids f
              flagged (no n) = absurd (omega (arith, given 4 (heading-4 h k q (omega arith))))
              flagged (yes n) = record { least = h; most = k; right = q; flag = n }

-- ---- each refusal where its test says so

module _ (ids : Bool) (f : List ℕ) where
  pub read_short : length f < 10 → read_frame ids f ≡ bad 1
  read_short h = heading-stops ids f 1 (sym (heading-1 ids f h)) (λ z. omega (arith, z))

  pub read-long : 9000 < length f → read_frame ids f ≡ bad 2
  read-long h = heading-stops ids f 2 (sym (heading-2 ids f h)) (λ z. omega (arith, z))

  module _ (least : 10 ≤ length f) (most : length f ≤ 9000) where
    pub read-foreign : ids ≡ false → read_frame ids f ≡ bad 3
    read-foreign e = heading-stops ids f 3 (sym (heading-3 ids f least most e)) (λ z. omega (arith, z))

    pub read-reserved : ids ≡ true → 1 < flags f → read_frame ids f ≡ bad 4
    read-reserved e h = heading-stops ids f 4 (sym (heading-4 ids f least most e h)) (λ z. omega (arith, z))

    pub read_none : ids ≡ true → flags f ≡ 0 → read_frame ids f ≡ good []
    unfolding read_frame
    read_none e z = rw (heading-0 ids f least most e (omega (arith, z)), z)

    pub read-messages : ids ≡ true → flags f ≡ 1 → read_frame ids f ≡ or_passes_end (messages_from (length f) f 10)
    unfolding read_frame
    read-messages e o = rw (heading-0 ids f least most e (omega (arith, o)), o)

-- ---- messages that were read: the first of them and the rest

pub record Headed (f : List ℕ) (at turns : ℕ) (ms : List Message) : Type 0 where
  pub rest : List Message
  pub inside : data_end f at ≤ length f
  pub is : ms ≡ message_at f at ∷ rest
  pub last : follows (field f (at + 23) 1) ≡ false → rest ≡ []
  pub more : follows (field f (at + 23) 1) ≡ true → messages_from turns f (next_header (data_end f at)) ≡ some rest

pub unread : (f : List ℕ) (at : ℕ) (ms : List Message) → messages_from 0 f at ≡ some ms → ⊥
unfolding messages_from
unread f at ms e = none≢some e

pub headed : (f : List ℕ) (n at : ℕ) (ms : List Message) → messages_from (suc n) f at ≡ some ms → Headed f at n ms
unfolding messages_from
headed f n at ms e = go (dec_le (data_end f at) (length f))
  where
    go : Dec (data_end f at ≤ length f) → Headed f at n ms
    go (no h) =
        absurd (none≢some (rw (lt-leb (data_end f at) (length f) (omega arith)) at e))
    go (yes h) = by (follows (field f (at + 23) 1)) refl (rw (le-leb (data_end f at) (length f) h) at e)
      where
        by : (b : Bool) → follows (field f (at + 23) 1) ≡ b
            → cond (follows (field f (at + 23) 1))
            (prepend (message_at f at) (messages_from n f (next_header (data_end f at))))
            (some (message_at f at ∷ [])) ≡ some ms
            → Headed f at n ms
        by false z q =
            let p : some (message_at f at ∷ []) ≡ some ms = rw z at q in
            record { rest = []; inside = h; is = cc; last = λ w. refl; more = λ w. absurd (true≢false (sym w ∙ z)) }
        by true z q = behind (messages_from n f (next_header (data_end f at))) refl (rw z at q)
          where
            behind : (r : Option (List Message)) → messages_from n f (next_header (data_end f at)) ≡ r
                → prepend (message_at f at) (messages_from n f (next_header (data_end f at))) ≡ some ms → Headed f at n ms
            behind none k p = absurd (none≢some (rw k at p))
            behind (some tail) k p =
                let s : some (message_at f at ∷ tail) ≡ some ms = rw k at p in
                record { rest = tail; inside = h; is = cc; last = λ w. absurd (true≢false (sym z ∙ w)); more = λ w. k }

-- ---- a frame that is not refused

pub record Readable (ids : Bool) (f : List ℕ) : Type 0 where
  pub least : 10 ≤ length f
  pub most : length f ≤ 9000
  pub flag : flags f ≤ 1
  pub none_read : flags f ≡ 0 → read_frame ids f ≡ good []
  pub some_read : flags f ≡ 1
      → (ms : List Message) × (messages_from (length f) f 10 ≡ some ms) × (read_frame ids f ≡ good ms)

pub readable : (ids : Bool) (f : List ℕ) → refusal_of (read_frame ids f) ≡ 0 → Readable ids f
readable ids f e =
    record {
      least = h.least;
      most = h.most;
      flag = h.flag;
      none_read = read_none ids f h.least h.most h.right;
      some_read = some_read;
    }
  where
    given : (r : ℕ) → read_frame ids f ≡ bad r → r ≡ 0
    given r q = sym (ap refusal_of q) ∙ e

    h : Framed ids f
    h = heading-stands ids f (heading_of ids f) refl (go (dec_le (heading_of ids f) 0))
      where
        go : Dec (heading_of ids f ≤ 0) → heading_of ids f ≡ 0
        go (yes z) = omega arith
        go (no n) = given (heading_of ids f) (heading-stops ids f (heading_of ids f) refl (λ z. omega (arith, z)))

    some_read : flags f ≡ 1
        → (ms : List Message) × (messages_from (length f) f 10 ≡ some ms) × (read_frame ids f ≡ good ms)
    some_read o = found (messages_from (length f) f 10) refl
      where
        read : read_frame ids f ≡ or_passes_end (messages_from (length f) f 10)
        read = read-messages ids f h.least h.most h.right o

        found : (r : Option (List Message)) → messages_from (length f) f 10 ≡ r
            → (ms : List Message) × (messages_from (length f) f 10 ≡ some ms) × (read_frame ids f ≡ good ms)
        found none q = absurd (omega (arith, given 5 (read ∙ ap or_passes_end q)))
        found (some ms) q = (ms, q, read ∙ ap or_passes_end q)
