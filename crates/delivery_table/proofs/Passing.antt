-- Frames that the table passes over, and the refusals before a pair is asked. Assumes nothing.
use Prim.Native.Nat.{ℕ, ◌+◌, ◌≤◌}
use native.Mathlib.Decide.{ℕ_discrete}
use mathlib.Core.Path.{◌≡◌, refl, ◌∙◌, ap}
use mathlib.Core.Logic.{◌≢◌, ◌⊎◌, inl, inr}
use mathlib.Core.Bool.{Bool, true, false}
use mathlib.Core.List.{List}
use borrow.Author.Tests.{eq-eqb, le-ltb}
use lib.Dec.{ltb}
use lib.ListN.{length}
use lib.Seq.{set-get_or}
use Rattle.std.specs.Prelude.{None}
use Rattle.wire.specs.Format.{frame_most}
use Rattle.wire.specs.Reading.{destination, source}
use Rattle.host.specs.declared.Pair.{Pair}
use Rattle.host.specs.declared.Answer.{Answer}
use Rattle.host.specs.declared.Answer.TheVariants.{Accepted, Again, NoMessages, Refused}
use Rattle.host.specs.Host.{acknowledgement_from}
use Rattle.delivery.specs.System.{specified_host, acks_for, run}
use Rattle.delivery.specs.Book.{expect_no_effect}
use Rattle.delivery.specs.Demand3.{seen_as}
use Rattle.table.specs.Table.{Entry, Table, place_of, entry_of, registered, region, table_refusal}
use Rattle.table.specs.Calls.{comes, Site, receiving, site_step}
use Rattle.delivery_table.specs.PerCard.{acks_to, acks_to_for}
use Rattle.table.proofs.Hosting.{Idle, NoEffect, short-idle}
use Rattle.table.proofs.Regions.{sets-idle}
use Rattle.table.proofs.Calls.{
  at_pair,
  refusal_of,
  refused-answer,
  refused-table,
  refused-memory,
  region-fits,
  reached-answer,
  reached-table,
  reached-memory,
}

pub no-acks : (from to : ℕ) (a : Answer) → NoEffect a → acknowledgement_from from to a 0 ≡ None
unfolding acknowledgement_from
no-acks from to (Accepted n sums run) h = absurd h
no-acks from to (Again n run) h = absurd h
no-acks from to NoMessages h = refl
no-acks from to (Refused r) h = refl

pub seen_none : (a : Answer) → NoEffect a → seen_as a ≡ expect_no_effect
unfolding seen_as
seen_none (Accepted n sums run) h = absurd h
seen_none (Again n run) h = absurd h
seen_none NoMessages h = refl
seen_none (Refused r) h = refl

-- The site is as it was, and the answer is neither "accepted" nor "again".
pub record Passed (w : Site) (f : List ℕ) (lent : ℕ) : Type 0 where
  pub table_same : (site_step w (comes f lent)).table ≡ w.table
  pub memory-same : (site_step w (comes f lent)).memory ≡ w.memory
  pub no-effect : NoEffect (receiving w f lent).answer

pub passed-refused : (w : Site) (f : List ℕ) (lent : ℕ) → refusal_of w f lent ≢ 0 → Passed w f lent
passed-refused w f lent z = record {
  table_same = refused-table w f lent z;
  memory-same = refused-memory w f lent z;
  no-effect = rw (refused-answer w f lent z) tt;
}

-- whoever it is from
pub passed-short : (w : Site) (f : List ℕ) (lent : ℕ) → length f ≤ 10 → Passed w f lent
passed-short w f lent h = go (ℕ_discrete (refusal_of w f lent) 0)
  where
    e : Entry
    e = entry_of w.table (source f)

    i : Idle e.pair (region e.first e.size w.memory) (at_pair w f)
    i = short-idle e.pair (region e.first e.size w.memory) f h

    go : Dec (refusal_of w f lent ≡ 0) → Passed w f lent
    go (no z) = passed-refused w f lent z
    go (yes z) = record {
      table_same =
          reached-table w f lent z
          ∙ rw i.pair_same (ap (λ (es : List Entry). record { own = w.table.own; entries = es })
          (set-get_or w.table.entries (place_of w.table.entries (source f)) _));
      memory-same =
          reached-memory w f lent z
          ∙ rw i.memory-same (sets-idle e.first e.size w.memory (region-fits w f lent z));
      no-effect = rw (reached-answer w f lent z) i.no-effect;
    }

-- ---- frames that do

pub acks-same : (t : Table) (f : List ℕ) (p : Pair) (x y : Answer) → x ≡ y → p.own ≡ t.own → p.peer ≡ source f
    → acks_to t f x ≡ acks_for specified_host p y
unfolding acks_to_for acks_for
acks-same t f p x y e o q = rw (e, o, q)

-- a frame from a registered source to us, with its region lent, is refused here only for its length
pub length-alone : (t : Table) (f : List ℕ) (memory : ℕ) → destination f ≡ t.own → registered t (source f) ≡ true
    → (entry_of t (source f)).first + (entry_of t (source f)).size ≤ memory → table_refusal t f memory ≢ 0
    → (ltb (length f) 10 ≡ true) ⊎ (ltb frame_most (length f) ≡ true)
unfolding table_refusal
length-alone t f memory d e h z = go (ltb (length f) 10) refl (ltb frame_most (length f)) refl
  where
    go : (x : Bool) → ltb (length f) 10 ≡ x → (y : Bool) → ltb frame_most (length f) ≡ y
        → (ltb (length f) 10 ≡ true) ⊎ (ltb frame_most (length f) ≡ true)
    go true p y q = inl p
    go false p true q = inr q
    go false p false q =
        absurd (z (rw (
          p,
          q,
          eq-eqb (destination f) t.own d,
          e,
          le-ltb memory ((entry_of t (source f)).first + (entry_of t (source f)).size) h,
        ) refl))
