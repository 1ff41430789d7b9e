-- However a text is cut, no more than 9,000 bytes of a line are held between two calls.
-- Assumes nothing.
use Rattle.std.proofs.Common.{◌≡◌, ℕ, zero, suc, ◌+◌, ◌*◌, ◌<◌, Bool, true, false, leb, List, [], ◌∷◌, length, drop, refl, arith, length-append}
use mathlib.Core.Option.{Option, none, some}
use native.Mathlib.Decide.{dec_lt}
use Rattle.hexadecimal.specs.Line.{digit, has_newline}
use Rattle.replay_text.specs.Text.{lines_most}
use Rattle.replay_text.specs.Feeding.{
  Held,
  within,
  past,
  held_after_one,
  held_after,
  Replaying,
  at_start,
  feed,
  feed_whole,
  feed_each,
}
use Rattle.replay_text.specs.Claim.{HeldMost}
use Rattle.replay_text.proofs.Holding.{byte-kept, byte_past}

one_more : (o : Option ℕ) (h : Held) → HeldMost h → HeldMost (held_after_one o h)
one_more none (within bytes half bad) m = m
one_more none (past odd bad) m = tt
one_more (some d) (within bytes none bad) m = m
one_more (some d) (within bytes (some h) bad) m = go (dec_lt (length bytes) 9000)
  where
    go : Dec (length bytes < 9000) → HeldMost (held_after_one (some d) (within bytes (some h) bad))
    go (yes l) = rw (byte-kept bytes h d bad l) (omega (arith, length-append bytes ((h * 16 + d) ∷ [])))
    go (no l) = rw (byte_past bytes h d bad (omega arith)) tt
one_more (some d) (past odd bad) m = tt

all_more : (cs : List ℕ) (h : Held) → HeldMost h → HeldMost (held_after h cs)
unfolding held_after
all_more [] h m = m
all_more (c ∷ cs) h m = all_more cs (held_after_one (digit c) h) (one_more (digit c) h m)

module _ (s : Replaying) (m : HeldMost s.held) (fragment : List ℕ) where
  one-call : HeldMost (feed s fragment).state.held
  unfolding feed
  one-call = go s.closed (leb lines_most s.lines) (has_newline fragment) refl refl refl
    where
      go : (c l n : Bool) → s.closed ≡ c → leb lines_most s.lines ≡ l → has_newline fragment ≡ n
          → HeldMost (feed s fragment).state.held
      go true l n e f g = rw e m
      go false true n e f g = rw (f, e) m
      go false false true e f g = rw (f, g, e) (omega arith)
      go false false false e f g = rw (f, g, e) (all_more fragment s.held m)

whole-call : (n : ℕ) (s : Replaying) (fragment : List ℕ) → HeldMost s.held
    → HeldMost (feed_whole feed n s fragment).state.held
unfolding feed_whole
whole-call zero s fragment m = m
whole-call (suc n) s fragment m =
    go (leb (length fragment) (feed s fragment).taken) refl
    (whole-call n (feed s fragment).state (drop (feed s fragment).taken fragment) (one-call s m fragment))
  where
    go : (b : Bool) → leb (length fragment) (feed s fragment).taken ≡ b
        → HeldMost (feed_whole feed n (feed s fragment).state (drop (feed s fragment).taken fragment)).state.held
        → HeldMost (feed_whole feed (suc n) s fragment).state.held
    go true e ih = rw e (one-call s m fragment)
    go false e ih = rw e ih

each-call : (fragments : List (List ℕ)) (s : Replaying) → HeldMost s.held
    → HeldMost (feed_each feed s fragments).state.held
unfolding feed_each
each-call [] s m = m
each-call (f ∷ fs) s m =
    each-call fs (feed_whole feed (suc (length f)) s f).state (whole-call (suc (length f)) s f m)

pub held-most : (fragments : List (List ℕ)) → HeldMost (feed_each feed at_start fragments).state.held
unfolding at_start
held-most fragments = each-call fragments at_start (omega arith)
