-- Lists of calls with restarts of the host in them: beside the calls on the two ends, storings of the host's place and
-- returns to it. How a place is kept is a parameter, as the two ends are.
use Rattle.std.specs.Prelude.{ℕ, cond, List, [], ◌∷◌, ◌++◌, eqb, take}
use Rattle.std.proofs.Math.Option.{Option, none, some}
use Rattle.std.proofs.Math.ListN.{get_elem?}
use Rattle.host.specs.declared.Pair.{Pair}
use Rattle.host.specs.declared.Opened.{Opened}
use Rattle.host_stored.specs.Form.{Stored, stored_of, buffer_of, read_text}
use Rattle.delivery.specs.System.{
  Implementation,
  specified,
  Event,
  System,
  with_host_side,
  Observation,
  step,
  initial,
}

-- ---- keeping a place

-- What storing a pair in a lent buffer answers, the buffer after it, and what reading a text hands back.
pub record Store : Type 0 where
  pub storing : Pair → List ℕ → Stored
  pub filling : Pair → List ℕ → List ℕ
  pub restoring : List ℕ → Opened

-- The text of a pair: what a storing leaves in the buffer, as far as its answer says.
abbrev pub text_left : Store → Pair → List ℕ → List ℕ
text_left s p buffer = take (s.storing p buffer).length (s.filling p buffer)

-- The store that the rules describe: the one that the code promises to be.
abbrev pub specified_store : Store
specified_store = record { storing = stored_of; filling = buffer_of; restoring = read_text }

pub record RestartEnds : Type 0 where
  pub ends : Implementation
  pub store : Store

-- The rules' ends with some store, and with the rules' store.
abbrev pub with_store : Store → RestartEnds
with_store s = record { ends = specified; store = s }

abbrev pub specified_ends : RestartEnds
specified_ends = with_store specified_store

-- ---- lists of calls

-- A call on either end; the host's place stored into a lent buffer of any length; the host started again from what was
-- kept k-th, counted from 0.
pub data Call : Type 0 where
  ordinary : Event → Call
  stores : List ℕ → Call
  returns : ℕ → Call

-- What a storing keeps: the text, and a copy of memory as it is then.
pub record Kept : Type 0 where
  pub text : List ℕ
  pub memory : List ℕ

-- The two ends, and what was kept, oldest first.
pub record Site : Type 0 where
  pub system : System
  pub kept : List Kept

-- What one call shows: an ordinary one what the book is shown of it; a storing and a return their refusal, 0 for none,
-- and a return to which storing it goes back.
pub data Shown : Type 0 where
  shows_call : Observation → Shown
  shows_storing : ℕ → Shown
  shows_return : ℕ → ℕ → Shown

pub record SiteResult : Type 0 where
  pub site : Site
  pub shown : Shown

abbrev pub ordinary_step : Implementation → Site → Event → SiteResult
ordinary_step e w x =
    let s = step e w.system x in
    record { site = record { system = s.system; kept = w.kept }; shown = shows_call s.observation }

-- A storing changes neither end; a refused one keeps nothing.
unfoldable pub kept_by : Store → System → List ℕ → List Kept
kept_by s w buffer =
    cond (eqb (s.storing w.host buffer).refusal 0)
    (record { text = text_left s w.host buffer; memory = w.memory } ∷ []) []

abbrev pub storing_step : Store → Site → List ℕ → SiteResult
storing_step s w buffer = record {
  site = record { system = w.system; kept = w.kept ++ kept_by s w.system buffer };
  shown = shows_storing (s.storing w.system.host buffer).refusal;
}

-- A return: the host goes on with the pair that reading the text hands back, also where the reading is refused, as
-- after an opening; and memory is the copy that was kept with the text. Where nothing was kept there is no text, and
-- reading no bytes is refused with 15. The rules speak of a storing and of the return to it, so that this is no return:
-- the host was not taken down, and goes on as it is.
unfoldable pub returned : Store → System → Option Kept → System
returned s w none = w
returned s w (some x) = with_host_side w (s.restoring x.text).pair x.memory

abbrev pub text_found : Option Kept → List ℕ
text_found none = []
text_found (some x) = x.text

abbrev pub return_step : Store → Site → ℕ → SiteResult
return_step s w k =
    let x = get_elem? w.kept k in
    record {
      site = record { system = returned s w.system x; kept = w.kept };
      shown = shows_return k (s.restoring (text_found x)).refusal.number;
    }

unfoldable pub site_step : RestartEnds → Site → Call → SiteResult
site_step e w (ordinary x) = ordinary_step e.ends w x
site_step e w (stores buffer) = storing_step e.store w buffer
site_step e w (returns k) = return_step e.store w k

-- The site after a list, and what the list shows.
unfoldable pub site_after : RestartEnds → Site → List Call → Site
site_after e w [] = w
site_after e w (x ∷ xs) = site_after e (site_step e w x).site xs

unfoldable pub shown_by : RestartEnds → Site → List Call → List Shown
shown_by e w [] = []
shown_by e w (x ∷ xs) =
    let s = site_step e w x in
    s.shown ∷ shown_by e s.site xs

-- Two fresh ends, and nothing kept.
unfoldable pub initial_site : RestartEnds → ℕ → ℕ → ℕ → List ℕ → List ℕ → Site
initial_site e card_id host_id limit slots memory =
    record { system = initial e.ends card_id host_id limit slots memory; kept = [] }
