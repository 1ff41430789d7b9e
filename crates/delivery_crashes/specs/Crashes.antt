-- Lists of calls with power failures of the host in them: beside the calls on the two ends, storings of the host, and
-- crashes, each of which takes the host back to the latest storing. How a pair is stored is a parameter, as it is over
-- restarts.
use Rattle.std.specs.Prelude.{ℕ, cond, List, [], ◌∷◌, ◌++◌, eqb, length, get_or, drop}
use Rattle.host.specs.declared.Pair.{Pair}
use Rattle.host.specs.declared.Answer.{Answer}
use Rattle.delivery.specs.System.{
  CardEnd,
  Implementation,
  Event,
  System,
  with_card_side,
  with_host_side,
  with_answers,
  Observation,
  step,
  initial,
}
use Rattle.delivery_restarts.specs.Restarts.{Store, text_left, RestartEnds}

-- ---- what a storing keeps

-- What a crash would lose: the host's pair and memory, and what its caller has recorded, the answers (of which it bills
-- the sums) and the acknowledgements that they called for.
pub record Kept : Type 0 where
  pub host : Pair
  pub memory : List ℕ
  pub acks : List (List ℕ)
  pub answers : List Answer

-- All of that in a system, with this pair.
abbrev pub kept_of : System → Pair → Kept
kept_of w host = record { host = host; memory = w.memory; acks = w.acks; answers = w.answers }

-- The system with it brought back. The card, and what it handed out, stay as they are.
abbrev pub brought_back : System → Kept → System
brought_back w k = with_answers (with_host_side w k.host k.memory) k.acks k.answers

-- ---- lists of calls

pub data Call : Type 0 where
  -- a call on either end
  ordinary : Event → Call
  -- the host is stored, its pair as a text in a lent buffer of any length
  stores : List ℕ → Call
  -- the host fails, and comes back
  crashes : Call
  -- the card reads the acknowledgement that was called for k-th by the answers that crashes have undone
  reads_undone : ℕ → Call

-- The two ends; what a crash brings back; and the acknowledgements that undone answers had called for, oldest first.
-- Each of these may have left the host before the crash.
pub record Site : Type 0 where
  pub system : System
  pub kept : Kept
  pub undone_acks : List (List ℕ)

-- What one call shows: an ordinary one what the book is shown of it, a storing its refusal, 0 for none.
pub data Shown : Type 0 where
  shows_call : Observation → Shown
  shows_storing : ℕ → Shown
  shows_crash : Shown
  shows_read_undone : Shown

pub record SiteResult : Type 0 where
  pub site : Site
  pub shown : Shown

abbrev pub ordinary_step : Implementation → Site → Event → SiteResult
ordinary_step e w x =
    let s = step e w.system x in
    record {
      site = record { system = s.system; kept = w.kept; undone_acks = w.undone_acks };
      shown = shows_call s.observation;
    }

-- A storing keeps all at once, the pair as its text reads. A refused one keeps nothing: what was kept before stays.
unfoldable pub kept_by : Store → Site → List ℕ → Kept
kept_by s w buffer =
    let p = w.system.host in
    cond (eqb (s.storing p buffer).refusal 0) (kept_of w.system (s.restoring (text_left s p buffer)).pair)
    w.kept

abbrev pub storing_step : Store → Site → List ℕ → SiteResult
storing_step s w buffer = record {
  site = record { system = w.system; kept = kept_by s w buffer; undone_acks = w.undone_acks };
  shown = shows_storing (s.storing w.system.host buffer).refusal;
}

-- A crash brings back what is kept. It undoes the answers given since, with the acknowledgements that they called for.
abbrev pub crash_step : Site → SiteResult
crash_step w = record {
  site =
      record {
        system = brought_back w.system w.kept;
        kept = w.kept;
        undone_acks = w.undone_acks ++ drop (length w.kept.acks) w.system.acks;
      };
  shown = shows_crash;
}

abbrev pub read_undone_step : CardEnd → Site → ℕ → SiteResult
read_undone_step e w k =
    let r = e.reading w.system.card w.system.slots (get_or w.undone_acks k []) in
    record {
      site =
          record {
            system = with_card_side w.system r.card r.slots w.system.hand_outs;
            kept = w.kept;
            undone_acks = w.undone_acks;
          };
      shown = shows_read_undone;
    }

unfoldable pub site_step : RestartEnds → Site → Call → SiteResult
site_step e w (ordinary x) = ordinary_step e.ends w x
site_step e w (stores buffer) = storing_step e.store w buffer
site_step e w crashes = crash_step w
site_step e w (reads_undone k) = read_undone_step e.ends.card_end w k

-- The site after a list, and what the list shows.
unfoldable pub site_after : RestartEnds → Site → List Call → Site
site_after e w [] = w
site_after e w (x ∷ xs) = site_after e (site_step e w x).site xs

unfoldable pub shown_by : RestartEnds → Site → List Call → List Shown
shown_by e w [] = []
shown_by e w (x ∷ xs) =
    let s = site_step e w x in
    s.shown ∷ shown_by e s.site xs

-- Two fresh ends. Before the first storing a crash takes the host back to its opening.
unfoldable pub initial_site : RestartEnds → ℕ → ℕ → ℕ → List ℕ → List ℕ → Site
initial_site e card_id host_id limit slots memory =
    let w = initial e.ends card_id host_id limit slots memory in
    record { system = w; kept = kept_of w w.host; undone_acks = [] }
