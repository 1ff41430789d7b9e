-- Demand 3: any call keeps system and book in agreement, two fresh ends agree with the empty book, and so a list's end
-- does. Assumes nothing.
use Prim.Native.Nat.{ℕ, ◌+◌, ◌%◌, ◌<◌}
use native.Mathlib.Nat.{mod-lt, not-suc-le-zero}
use native.Mathlib.Omega.{arith}
use mathlib.Core.Path.{◌≡◌, refl, sym, ◌∙◌, subst}
use mathlib.Core.Bool.{Bool, true, false, cond, ◌||◌, and-eq-true_iff}
use mathlib.Core.List.Memᴰ
use mathlib.Core.List.{List, [], ◌∷◌}
use lib.Dec.{eqb, lit<}
use lib.ListN.{length, length-replicate, get_or-replicate}
use Rattle.seq.specs.Ring.{frame_space}
use Rattle.bitmap.specs.Marks.{leading}
use Rattle.bitmap.proofs.Marks.{mark-of-zero, leading_le}
use Rattle.host.specs.Terms.{free}
use Rattle.host.specs.declared.Opened.{Opened}
use Rattle.host.specs.Host.{fresh, opened_of}
use Rattle.card.specs.Window.{empty_window, unreleased}
use Rattle.card.specs.Sendings.{no_sending, no_sendings}
use Rattle.card.specs.declared.Stepped.{Stepped}
use Rattle.card.specs.Card.{fresh_card, fits, card_refusal, open_card}
use Rattle.delivery.specs.Book.{
  Book,
  frame_at,
  released_count,
  messages_in,
  of_transaction,
  perform,
  book_writes,
  book_memory,
  data_bytes,
  complete_count,
  book_step,
  book_from,
  empty_book,
  book_of,
}
use Rattle.delivery.specs.System.{
  Implementation,
  specified,
  Event,
  calls,
  receives,
  System,
  by_card,
  by_host,
  step,
  run,
  initial,
}
use Rattle.delivery.specs.Demand3.{
  BothOpen,
  typed,
  all_typed,
  in_time,
  not_too_late,
  WritesAllowed,
  outcome_of,
  times_accepted,
  sum_over,
  Guarantees,
  Demand3For,
  Demand3,
}
use Rattle.delivery.proofs.Book.Sound.{released-accepted}
use Rattle.delivery.proofs.Book.Steps.{sound_empty}
use Rattle.delivery.proofs.Book.Answers.{times_expected, times-seen}
use Rattle.delivery.proofs.Book.AllFinished.{whole-memory, whole-complete, whole-bytes, whole-messages}
use Rattle.delivery.proofs.Book.Earlier.{allowed-before}
use Rattle.delivery.proofs.Host.HostStep.{entry, full_at, full-beyond}
use Rattle.delivery.proofs.Card.CardFor.{unreleased-is, unopened}
use Rattle.delivery.proofs.Agree.{SystemFor}
use Rattle.delivery.proofs.Card.CardSteps.{step-card}
use Rattle.delivery.proofs.Host.Receive.{step-receives}

-- an observation tells its own call
pub seen-event : (e : Implementation) (w : System) (x : Event) → (step e w x).observation.event ≡ x
unfolding step by_card by_host
seen-event e w (calls x) = refl
seen-event e w (receives k) = refl

module _ (card_id host_id : ℕ) (card_fits : card_id < frame_space) (host_fits : host_id < frame_space) where
  abbrev For : System → Book → Type 0
  For = SystemFor card_id host_id

  -- ---- any call

  -- One step of these ends keeps system and book in agreement.
  abbrev pub KeepsAgreement : Implementation → Type 0
  KeepsAgreement e = (w : System) (b : Book) → For w b → (x : Event) → typed x ≡ true → in_time b x ≡ true
      → WritesAllowed (book_step b (step e w x).observation)
      → For (step e w x).system (book_step b (step e w x).observation)

  pub step-any : KeepsAgreement specified
  unfolding step typed in_time
  step-any w b f (calls x) t i k = step-card card_id host_id card_fits host_fits w b f x t i
  step-any w b f (receives n) t i k = step-receives card_id host_id card_fits host_fits w b f n i k

  -- ---- a list

  pub all-steps : (e : Implementation) → KeepsAgreement e → (events : List Event) (w : System) (b : Book) → For w b
      → all_typed events ≡ true → not_too_late b (run e w events).observations ≡ true
      → WritesAllowed (book_from b (run e w events).observations)
      → For (run e w events).system (book_from b (run e w events).observations)
  unfolding run book_from all_typed not_too_late
  all-steps e h [] w b f t i k = f
  all-steps e h (x ∷ xs) w b f t i k =
      let s = step e w x in
      let later = (run e s.system xs).observations in
      let b' = book_step b s.observation in
      let timely = (and-eq-true_iff (in_time b s.observation.event) (not_too_late b' later)).0 i in
      let fitting = (and-eq-true_iff (typed x) (all_typed xs)).0 t in
      all-steps e h xs s.system b'
      (h w b f x fitting.0 (subst (λ (y : Event). in_time b y ≡ true) (seen-event e w x) timely.0)
      (allowed-before b' later k))
      fitting.1 timely.1 k

  -- What agreement comes to. Each line rewrites with its fact, so that it shows whatever follows from that.
  pub guaranteed : (w : System) (b : Book) → For w b → Guarantees (outcome_of w) b
  guaranteed w b f = record {
    answers_match = rw f.rest.traffic.matching refl;
    accepted_once = λ c e. rw (once c e) refl;
    released_accepted = λ c h. rw (once c (released-accepted b f.sound c (omega (arith, released)))) refl;
    released_agrees = omega (arith, released);
    none_over = λ i h. omega (arith, f.sound.at_most i h);
    memory_agrees = rw f.rest.memory_is refl;
    messages_agree = rw f.rest.sums.messages_are refl;
    bytes_agree = rw f.rest.sums.bytes_are refl;
    complete_agree = rw f.rest.sums.complete_are refl;
    when_all_finished = λ all. record {
      messages_whole = rw (f.rest.sums.messages_are ∙ whole-messages b f.sound all) refl;
      bytes_whole = rw (f.rest.sums.bytes_are ∙ whole-bytes b f.sound all) refl;
      complete_whole = rw (f.rest.sums.complete_are ∙ whole-complete b f.sound all) refl;
      memory_in_turn = rw (f.rest.memory_is ∙ whole-memory b f.sound all) refl;
    };
  }
    where
      once : (c : ℕ) → (frame_at b c).accepted ≡ true → times_accepted c w.answers b.expected ≡ 1
      once c e = times-seen c w.answers b.expected f.rest.traffic.matching ∙ f.rest.traffic.once c
          ∙ rw e refl

      released : length b.frames ≡ released_count b + unreleased w.card.window
      released =
          omega (
            arith,
            leading_le (λ c. (frame_at b c).acknowledged) (length b.frames),
            unreleased-is w.card w.slots b f.card_for f.sound,
          )

  -- ---- two fresh ends

  empty-full : (i : ℕ) → full_at [] [] i ≡ false
  unfolding of_transaction
  empty-full i = full-beyond [] [] i refl

  empty-entry : (i : ℕ) → entry [] [] i ≡ free
  unfolding entry of_transaction
  empty-entry i = rw (empty-full i) refl

  opened-card : (limit : ℕ) (slots : List ℕ) → (open_card card_id host_id limit slots).refusal ≡ 0
      → (fits limit slots ≡ true) × ((open_card card_id host_id limit slots).card ≡ fresh_card card_id host_id limit)
  unfolding open_card card_refusal
  opened-card limit slots = go (eqb card_id 0 || eqb host_id 0) (fits limit slots)
    where
      result : Bool → Bool → Stepped
      result x y =
          let r : ℕ = cond x 13 (cond y 0 26) in
          cond (eqb r 0) (record { card = fresh_card card_id host_id limit; refusal = 0 })
          (record { card = fresh_card 0 0 0; refusal = r })

      go : (x y : Bool) → (result x y).refusal ≡ 0
          → (y ≡ true) × ((result x y).card ≡ fresh_card card_id host_id limit)
      go true y q = absurd (omega arith)
      go false false q = absurd (omega arith)
      go false true q = (refl, refl)

  opened-host : (opened_of host_id card_id).refusal.number ≡ 0 → (opened_of host_id card_id).pair ≡ fresh host_id card_id
  unfolding opened_of
  opened-host = go (eqb host_id 0 || eqb card_id 0)
    where
      result : Bool → Opened
      result x =
          cond x (record { pair = fresh 0 0; refusal = record { number = 13; place = 0 } })
          (record { pair = fresh host_id card_id; refusal = record { number = 0; place = 0 } })

      go : (x : Bool) → (result x).refusal.number ≡ 0 → (result x).pair ≡ fresh host_id card_id
      go true q = absurd (omega arith)
      go false q = refl

  begins : (limit : ℕ) (slots memory : List ℕ) → fits limit slots ≡ true
      → For (record {
        card = fresh_card card_id host_id limit;
        slots = slots;
        host = fresh host_id card_id;
        memory = memory;
        hand_outs = [];
        acks = [];
        answers = [];
      })
      (empty_book memory)
  unfolding fresh_card empty_window no_sendings fresh empty_book book_memory messages_in leading perform book_writes
      times_expected
      sum_over data_bytes complete_count
  begins limit slots memory fit = record {
    card_for = record {
      fitted = fit;
      next_is = refl;
      low_is = refl;
      marks_are = mark-of-zero;
      sizes_long = length-replicate {A = ℕ} 64 0;
      slots_are = λ n l h. absurd (not-suc-le-zero h);
      built_is = refl;
      built_fits = omega arith;
      trans_next_is = refl;
      trans_low_is = refl;
      finished_are = λ i. mark-of-zero i ∙ sym (unopened (empty_book memory) (sound_empty memory) (0 + i) (omega arith));
      terms_long = length-replicate 32 no_sending;
      terms_are = λ i l h. absurd (not-suc-le-zero h);
    };
    card_own = refl;
    card_peer = refl;
    rest = record {
      host_for = record {
        next_is = refl;
        marks_are = mark-of-zero;
        transactions_for = record {
          lowest_is = refl;
          closed_is = λ i. mark-of-zero i ∙ sym (empty-full (0 + i));
          entries_are = λ i l h. get_or-replicate 32 (i % 32) free free (mod-lt i (lit< tt)) ∙ sym (empty-entry i);
          entries = length-replicate 32 free;
        };
      };
      host_own = refl;
      host_peer = refl;
      memory_is = refl;
      traffic = record {
        copies = tt;
        acks_are = tt;
        matching = refl;
        once = λ c. refl;
      };
      sums = record {
        messages_are = refl;
        bytes_are = refl;
        complete_are = refl;
      };
      typed = record {
        terms_typed = λ i h. absurd (not-suc-le-zero h);
        messages_typed = λ e m. absurd (Memᴰ.not-nil m);
      };
    };
    sound = sound_empty memory;
  }

  -- These ends, once open, agree with the empty book.
  abbrev pub StartsAgreed : Implementation → Type 0
  StartsAgreed e = (limit : ℕ) (slots memory : List ℕ)
      → BothOpen card_id host_id (e.card_end.card_opening card_id host_id limit slots)
      (e.host_end.host_opening host_id card_id)
      → For (initial e card_id host_id limit slots memory) (empty_book memory)

  pub starts : StartsAgreed specified
  unfolding initial
  starts limit slots memory o =
      let k = opened-card limit slots o.card_opens in
      rw (k.1, opened-host o.host_opens) (begins limit slots memory k.0)

-- Ends that agree with the book at the start, and keep to it, meet the demand.
pub demand3-by : (e : Implementation)
    → ((card_id host_id : ℕ) (p : card_id < frame_space) (q : host_id < frame_space) → StartsAgreed card_id host_id p q e)
    → ((card_id host_id : ℕ) (p : card_id < frame_space) (q : host_id < frame_space) → KeepsAgreement card_id host_id p q e)
    → Demand3For e
unfolding Demand3For
demand3-by e s h card_id host_id limit slots memory events o t i k =
    let w = initial e card_id host_id limit slots memory in
    let p = o.card_fits in
    let q = o.host_fits in
    guaranteed card_id host_id p q (run e w events).system (book_of memory (run e w events).observations)
    (all-steps card_id host_id p q e (h card_id host_id p q) events w (empty_book memory)
    (s card_id host_id p q limit slots memory o) t i k)

pub demand3 : Demand3
demand3 = demand3-by specified starts step-any
