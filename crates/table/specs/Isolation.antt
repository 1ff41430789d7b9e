-- Cards at one table do not disturb one another: stated for any table, and for the rules' table.
use Rattle.std.specs.Prelude.{ℕ, ◌+◌, ◌≤◌, ◌<◌, ◌≡◌, true, cond, List, [], ◌∷◌, length, get_or}
use Rattle.table.specs.Table.{Entry, region}
use Rattle.table.specs.Reachable.{place}
use Rattle.table.specs.TableEnd.{TableEnd, specified_table}
use Rattle.table.specs.Calls.{
  Call,
  Site,
  registers,
  adopts,
  removes,
  comes,
  open_site_for,
  lent_length,
  site_step_for,
  site_after_for,
  is_from,
  told_to_for,
  keeps_registered,
}

-- A list without the other cards' frames: its registerings, its adoptings, its removals and one card's frames, and the
-- memory lengths lent with these, in their order. ("Purge" and "agree" are terms of noninterference.)
unfoldable pub purge : ℕ → List Call → List Call
purge s [] = []
purge s (registers r first size lent ∷ xs) = registers r first size lent ∷ purge s xs
purge s (adopts p first size lent ∷ xs) = adopts p first size lent ∷ purge s xs
purge s (removes r ∷ xs) = removes r ∷ purge s xs
purge s (comes f lent ∷ xs) = cond (is_from s f) (comes f lent ∷ purge s xs) (purge s xs)

-- Two lists agree for a card if they differ in the other cards' frames only.
abbrev pub Agree : ℕ → List Call → List Call → Type 0
Agree s xs ys = purge s xs ≡ purge s ys

-- ---- for any table

-- Two runs at one host from its opening on, over memories of one length (so that equal lengths named are equal lengths
-- lent) and of any content: that card's answers are the same, and so are the refusals of registerings, adoptings and
-- removals.
abbrev pub AnswersStayFor : TableEnd → Type 0
AnswersStayFor e =
    (own s : ℕ) (m n : List ℕ) (xs ys : List Call) → length m ≡ length n → Agree s xs ys
    → told_to_for e s (open_site_for e own m) xs ≡ told_to_for e s (open_site_for e own n) ys

-- A call that gives a source a region: it registers the source, or adopts a pair of the source's, and is not refused.
abbrev pub GivesFor : TableEnd → ℕ → ℕ → ℕ → Site → Call → Type 0
GivesFor e s first size w (registers r a k lent) =
    (r ≡ s) × (a ≡ first) × (k ≡ size) × ((e.registering w.table r a k (lent_length w lent)).refusal ≡ 0)
GivesFor e s first size w (adopts p a k lent) =
    (p.peer ≡ s) × (a ≡ first) × (k ≡ size) × ((e.adopting w.table p a k (lent_length w lent)).refusal ≡ 0)
GivesFor e s first size w (removes r) = ⊥
GivesFor e s first size w (comes f lent) = ⊥

-- And from its registering c (behind xs in one run, behind ys in the other) until its removal (so behind any later xs'
-- and ys' that agree and do not remove it) its region's bytes are the same, if they were at its registering.
abbrev pub BytesStayFor : TableEnd → Type 0
BytesStayFor e =
    (own s first size : ℕ) (m n : List ℕ) (xs ys xs' ys' : List Call) (c : Call) → length m ≡ length n
    → Agree s xs ys → Agree s xs' ys'
    → let v = site_after_for e (open_site_for e own m) xs in
    let w = site_after_for e (open_site_for e own n) ys in
    GivesFor e s first size v c → keeps_registered s xs' ≡ true
    → region first size v.memory ≡ region first size w.memory
    → region first size (site_after_for e (site_step_for e v c) xs').memory
    ≡ region first size (site_after_for e (site_step_for e w c) ys').memory

abbrev pub IsolatedFor : TableEnd → Type 0
IsolatedFor e = AnswersStayFor e × BytesStayFor e

-- A byte of memory lies in an entry's region.
abbrev pub Within : ℕ → Entry → Type 0
Within x e = (e.first ≤ x) × (x < e.first + e.size)

-- While a list runs it lies in no region of the table.
abbrev pub NeverWithinFor : TableEnd → ℕ → Site → List Call → Type 0
NeverWithinFor e x w [] = Unit {0}
NeverWithinFor e x w (c ∷ cs) =
    ((k : ℕ) → Within x (place w.table k) → ⊥) × NeverWithinFor e x (site_step_for e w c) cs

-- Then it stays as it is, whatever frames come.
abbrev pub OutsideStaysFor : TableEnd → Type 0
OutsideStaysFor e =
    (own x : ℕ) (m : List ℕ) (xs : List Call) → NeverWithinFor e x (open_site_for e own m) xs
    → get_or (site_after_for e (open_site_for e own m) xs).memory x 0 ≡ get_or m x 0

-- ---- for the rules' table: proofs/Isolation.antt and proofs/Outside.antt have terms of these types

abbrev pub AnswersStay : Type 0
AnswersStay = AnswersStayFor specified_table

abbrev pub Gives : ℕ → ℕ → ℕ → Site → Call → Type 0
Gives = GivesFor specified_table

abbrev pub BytesStay : Type 0
BytesStay = BytesStayFor specified_table

abbrev pub Isolated : Type 0
Isolated = IsolatedFor specified_table

abbrev pub NeverWithin : ℕ → Site → List Call → Type 0
NeverWithin = NeverWithinFor specified_table

abbrev pub OutsideStays : Type 0
OutsideStays = OutsideStaysFor specified_table
