-- Both hosts in lent words: what any words hold is typed as the theorem of host_equal asks; and the same calls, from
-- words that are described alike, can't be told apart (AlikeInWords of specs/Alike.antt). Assumes what the parameters'
-- types say of words, IDs and bytes.
use mathlib.Core.Path.{◌≡◌, refl, sym, ap, ◌∙◌}
use mathlib.Core.List.{List, [], ◌∷◌, map}
use Prim.Native.Nat.{ℕ, ◌^◌, ◌<◌}
use lib.ListN.{get_or}
use Rattle.std.specs.Prelude.{Option}
use Rattle.host.specs.declared.Pair.{Pair}
use Rattle.host.specs.declared.Refusal.{Refusal}
use Rattle.words.proofs.Words.{part-lt}
use Rattle.host_words.specs.Words.{pair_of}
use Rattle.host_words.specs.Describing.{description}
use Rattle.host_words.proofs.Words.{length-table}
use Rattle.host_equal.specs.Described.{describe, describe_plain, Typed, TypedPlain}
use Rattle.host_equal.specs.Sequences.{after_first, after_plain}
use Rattle.host_equal.proofs.Equality.{
  receive-same,
  same-sequences,
  same_step,
  same-acknowledgements,
  same-openings,
  opened-typed,
  one-described,
}
use Rattle.capi_plain.specs.Words.{plain_of}
use Rattle.capi_plain.specs.Alike.{
  Call,
  opens,
  receives,
  acknowledges,
  Allowed,
  AllAllowed,
  Words,
  opening_shows,
  due_shows,
  host_shows,
  host_leaves,
  plain_shows,
  plain_leaves,
  After,
  HostDoes,
  PlainDoes,
  Sequence,
  Seen,
  seen_at_host,
  seen_at_plain,
  AlikeInWords,
}
use Rattle.capi_plain.proofs.Holding.{words-fit, opened-held, received-held}

-- ---- what words hold is typed

-- any words of 64 bits, as the first host's
pub typed : (w : List ℕ) → (pair_of w).marks < 2 ^ 64 → Typed (pair_of w)
unfolding pair_of
typed w h = record { marks-fit = h; closed-fit = part-lt 32 (get_or w 2 0) 1; entries = length-table w }

pub words-typed : (w : List ℕ) → Words w → Typed (pair_of w)
unfolding pair_of
words-typed w h = typed w (h 1)

-- any words at all, as the plain host's
pub plain-typed : (v : List ℕ) → TypedPlain (plain_of v)
plain-typed v =
    let k = words-fit v in
    record {
      accepted-are = k.frames-fit.accepted-are;
      closed-are = k.transactions-fit.closed-are;
      entries = k.transactions-fit.entries;
    }

-- So the theorem of host_equal speaks of any words.
pub same-in-words : (w v : List ℕ) → Words w → describe (pair_of w) ≡ describe_plain (plain_of v)
    → (memory : List ℕ) (fs : List (List ℕ)) → after_first (pair_of w) memory fs ≡ after_plain (plain_of v) memory fs
same-in-words w v h e = same-sequences (pair_of w) (plain_of v) (words-typed w h) (plain-typed v) e

-- ---- what lw_host_describe tells

-- Pairs that are described alike are told alike.
pub told-alike : (p r : Pair) → Typed p → Typed r → describe p ≡ describe r → description p ≡ description r
told-alike p r k l e = ap description (one-described p r k l e)

-- So are any words that hold such pairs.
pub words-told-alike : (w v : List ℕ) → Words w → Words v → describe (pair_of w) ≡ describe (pair_of v)
    → description (pair_of w) ≡ description (pair_of v)
words-told-alike w v h k e = told-alike (pair_of w) (pair_of v) (words-typed w h) (words-typed v k) e

-- ---- one call

-- What is kept from one call to the next.
record Alike (w v : List ℕ) : Type 0 where
  pub marks-fit : (pair_of w).marks < 2 ^ 64
  pub alike : describe (pair_of w) ≡ describe_plain (plain_of v)

module _ (w v memory : List ℕ) (k : Alike w v) where
  same-shown : (c : Call) → host_shows c w memory ≡ plain_shows c v memory
  unfolding host_shows plain_shows
  same-shown (opens own peer) = ap (λ (r : Refusal). opening_shows r.number memory) (same-openings own peer).1
  same-shown (receives f) =
      let s = same_step (pair_of w) (plain_of v) (typed w k.marks-fit) (plain-typed v) k.alike f memory in
      rw (s.0, s.1.0)
  same-shown (acknowledges answer num buffer) =
      ap (λ (a : Option (List ℕ)). due_shows a buffer memory)
      (same-acknowledgements (pair_of w) (plain_of v) k.alike _ num)

  same_left : (c : Call) → Allowed c → (left : List ℕ) → pair_of left ≡ host_leaves c w memory
      → Alike left (plain_leaves c v memory)
  unfolding host_leaves plain_leaves
  same_left (opens own peer) ok left e =
      record {
        marks-fit = rw e (opened-typed own peer).0.marks-fit;
        alike =
            ap describe e
            ∙ (same-openings own peer).0
            ∙ ap describe_plain (sym (opened-held own peer ok.0 ok.1));
      }
  same_left (receives f) ok left e =
      let t = typed w k.marks-fit in
      let s = same_step (pair_of w) (plain_of v) t (plain-typed v) k.alike f memory in
      let fits = receive-same (pair_of w) (record { marks-fit = t.marks-fit; closed-fit = t.closed-fit }) memory f in
      record {
        marks-fit = rw e fits.1.marks-fit;
        alike = ap describe e ∙ s.1.1 ∙ ap describe_plain (sym (received-held v f memory ok));
      }
  same_left (acknowledges answer num buffer) ok left e =
      record { marks-fit = rw e k.marks-fit; alike = rw e k.alike }

-- ---- any calls, one after another

each-alike : (calls : List Call) → AllAllowed calls → (w v memory : List ℕ) → Alike w v
    → (at_host at_plain : List After) → Sequence HostDoes w memory calls at_host
    → Sequence PlainDoes v memory calls at_plain → map seen_at_host at_host ≡ map seen_at_plain at_plain
unfolding Sequence
each-alike [] ok w v memory k [] [] a b = refl
each-alike [] ok w v memory k [] (x ∷ xs) a b = absurd b
each-alike [] ok w v memory k (x ∷ xs) ys a b = absurd a
each-alike (c ∷ cs) ok w v memory k [] ys a b = absurd a
each-alike (c ∷ cs) ok w v memory k (x ∷ xs) [] a b = absurd b
each-alike (c ∷ cs) ok w v memory k (x ∷ xs) (y ∷ ys) a b =
    rw (shown, after.alike)
    (ap (λ (l : List Seen). seen_at_plain y ∷ l)
    (each-alike cs ok.1 x.words y.words x.shown.memory after xs ys a.1 (rw shown b.1)))
  where
    shown : x.shown ≡ y.shown
    shown = a.0.0 ∙ same-shown w v memory k c ∙ sym b.0.0

    after : Alike x.words y.words
    after = rw b.0.1 (same_left w v memory k c ok.0 x.words a.0.1)

pub alike-in-words : AlikeInWords PlainDoes
unfolding pair_of
alike-in-words w v memory h e calls ok at_host at_plain a b =
    each-alike calls ok w v memory (record { marks-fit = h 1; alike = e }) at_host at_plain a b
