-- Bytes counted are the bytes charged also over power failures of the host: specs/Charged.antt with storings and
-- crashes in the list of calls, under the premises of demand 3 over crashes.
use Rattle.std.specs.Prelude.{ℕ, ◌≡◌, cond, List, [], ◌∷◌, map, eqb, length}
use Rattle.delivery.specs.Book.{book_of}
use Rattle.delivery.specs.Demand3.{BothOpen}
use Rattle.delivery_restarts.specs.Restarts.{RestartEnds, specified_ends}
use Rattle.delivery_crashes.specs.Crashes.{
  Call,
  Site,
  Shown,
  shows_call,
  shows_storing,
  shows_crash,
  shows_read_undone,
  site_step,
  site_after,
  shown_by,
  initial_site,
}
use Rattle.delivery_crashes.specs.OverCrashes.{undone_by, seen_in, Premises}
use Rattle.ledger.specs.Ledger.{Ledger, empty, taken}
use Rattle.ledger.specs.Counted.{Counted, all_of, answers_to, Charges}
use Rattle.delivery_ledger.specs.Blocks.{
  block_at,
  Act,
  does,
  takes,
  calls_of,
  Course,
  blocks_read,
  TakenInOrder,
}

-- ---- the ledger beside the host

-- The two ends; the ledger; and the ledger that a crash brings back. The rule for an operator: a storing keeps the
-- ledger's words together with the host's record, and a crash brings both back. A block may be taken as soon as it is
-- complete, stored or not: a crash undoes takings and arrivals alike, and the blocks are taken again after it.
pub record LedgerSite : Type 0 where
  pub site : Site
  pub ledger : Ledger
  pub kept_ledger : Ledger

-- The ledger after a call, by what the call shows, and the ledger kept. A refused storing keeps nothing.
unfoldable pub ledger_left : Shown → Ledger → Ledger → Ledger
ledger_left (shows_call s) l kept = l
ledger_left (shows_storing r) l kept = l
ledger_left shows_crash l kept = kept
ledger_left shows_read_undone l kept = l

unfoldable pub ledger_kept : Shown → Ledger → Ledger → Ledger
ledger_kept (shows_call s) l kept = kept
ledger_kept (shows_storing r) l kept = cond (eqb r 0) l kept
ledger_kept shows_crash l kept = kept
ledger_kept shows_read_undone l kept = kept

-- A taking reads the host's memory as it is.
unfoldable pub ledger_site_step : RestartEnds → LedgerSite → Act Call → LedgerSite
ledger_site_step e d (does x) =
    let r = site_step e d.site x in
    record {
      site = r.site;
      ledger = ledger_left r.shown d.ledger d.kept_ledger;
      kept_ledger = ledger_kept r.shown d.ledger d.kept_ledger;
    }
ledger_site_step e d (takes k) =
    record {
      site = d.site;
      ledger = (taken d.ledger (block_at d.site.system.memory k.at (length k.bytes))).ledger;
      kept_ledger = d.kept_ledger;
    }

unfoldable pub ledger_site_after : RestartEnds → LedgerSite → List (Act Call) → LedgerSite
ledger_site_after e d [] = d
ledger_site_after e d (a ∷ as') = ledger_site_after e (ledger_site_step e d a) as'

-- Two fresh ends, and an empty ledger. Before the first storing a crash brings that back.
abbrev pub open_ledger_site : Site → LedgerSite
open_ledger_site w = record { site = w; ledger = empty; kept_ledger = empty }

-- ---- what survives

-- The list without the takings that a crash undoes: a crash follows, and no storing before it that is not refused.
unfoldable pub surviving_acts : RestartEnds → Site → List (Act Call) → List (Act Call)
surviving_acts e w [] = []
surviving_acts e w (does x ∷ as') = does x ∷ surviving_acts e (site_step e w x).site as'
surviving_acts e w (takes k ∷ as') =
    cond (undone_by (shown_by e w (calls_of as'))) (surviving_acts e w as') (takes k ∷ surviving_acts e w as')

-- ---- the statement

-- What calls on two fresh ends, storings and crashes lead to. The book is shown the calls that survive.
abbrev pub crash_course : RestartEnds → Site → List ℕ → Course Call
crash_course e w memory = record {
  memory_after = λ card list. (site_after e w list).system.memory;
  book_after = λ card list. book_of memory (seen_in e w list);
}

-- None of the blocks is refused, and the ledger charges what was counted.
pub record ChargedAtSite (d : LedgerSite) (blocks : List (List ℕ)) (told : List (List Counted)) : Type 0 where
  pub none_refused : answers_to empty blocks ≡ map (λ cs. 0) told
  pub charges : Charges d.ledger (all_of told)

unfoldable pub ChargedOverCrashesFor : RestartEnds → Type 0
ChargedOverCrashesFor e =
    (card_id host_id limit : ℕ) (slots memory : List ℕ) (acts : List (Act Call)) (told : List (List Counted))
    → BothOpen card_id host_id (e.ends.card_end.card_opening card_id host_id limit slots)
    (e.ends.host_end.host_opening host_id card_id)
    → let w = initial_site e card_id host_id limit slots memory in
    let v = crash_course e w memory in
    let stands = surviving_acts e w acts in
    Premises e w memory (calls_of acts) → TakenInOrder v stands told
    → ChargedAtSite (ledger_site_after e (open_ledger_site w) acts) (blocks_read v stands) told

-- For the ends and the store that the rules describe. proofs/OverCrashes.antt has a term of this type.
abbrev pub ChargedOverCrashes : Type 0
ChargedOverCrashes = ChargedOverCrashesFor specified_ends
