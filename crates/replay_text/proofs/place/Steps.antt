-- What the words of a place come to when they are written, and each outcome of feeding and closing, for whatever host
-- answers the lines: the proofs of the calls over a host cite these.
-- Assumes nothing.
use Rattle.std.proofs.Common.{◌≡◌, ℕ, ◌+◌, ◌%◌, ◌^◌, ◌<◌, ◌≤◌, Bool, true, false, cond, not, ltb, leb, List, length, get_or, replicate, sym, refl, ap, ◌∙◌, true≢false, mod-lt, mod-eq_of_lt, arith, ltb-false, ltb-true, leb-false, leb-true}
use Rattle.std.specs.Prelude.{Option, Some, None, Result, Ok, Err}
use Rattle.refusal.specs.declared.Reason.{Reason}
use Rattle.refusal.specs.declared.Reason.TheVariants.{ReplayClosed}
use borrow.Author.Tests.{not-false}
use Rattle.hexadecimal.specs.declared.line.Line.{Line}
use Rattle.hexadecimal.specs.declared.line.Taken.{Taken}
use Rattle.hexadecimal.specs.Line.{up_to_newline, has_newline}
use Rattle.hexadecimal.specs.Taking.{start, taken_from, frame_after, refused_line, empty_line}
use Rattle.hexadecimal.proofs.line.Taking.{all-of-it}
use Rattle.host.specs.declared.Pair.{Pair}
use Rattle.host.specs.declared.Answer.{Answer}
use Rattle.host.specs.Host.{Received, fresh}
use Rattle.replay_text.specs.declared.line.Totals.{Totals}
use Rattle.replay_text.specs.Report.{line_refusal, answered_line, totalled}
use Rattle.replay_text.specs.Reply.{Reply}
use Rattle.replay_text.specs.Text.{lines_most, memory_at_start, no_totals}
use Rattle.replay_text.specs.Feeding.{
  nothing_held,
  answer_held,
  is_empty,
  Replaying,
  at_start,
  with_characters,
  line_answer,
  line_ended,
  now_closed,
  Step,
  feed,
  ClosedStep,
  has_last,
  close,
}
use Rattle.replay_text.specs.Describing.{held_of}
use Rattle.replay_text.proofs.Cutting.{feed-over, feed-line, feed-part}
use Rattle.replay_text.proofs.Holding.{
  all_held,
  nothing-held,
  empty-held,
  answer-refused,
  answer-long,
  answer-short,
}
use Rattle.replay_text.specs.declared.place.Taking.{Taking}
use Rattle.replay_text.specs.declared.place.Fed.{Fed}
use Rattle.replay_text.specs.declared.place.Closed.{Closed}
use Rattle.replay_text.specs.Place.{
  is_set,
  totals_in,
  lines_in,
  closed_in,
  line_of,
  place_words,
  state_of,
  Answers,
  fed_of,
  fed_with,
  closed_of,
  closed_with,
  noted,
  taking_of,
  place_taken,
  frame_taken,
  counted,
  last_in,
  closing_of,
  place_closed,
}

-- ---- words written

kept-bit : (b : Bool) → is_set (cond b 1 0) ≡ b
kept-bit true = refl
kept-bit false = refl

-- the line that was written is the line that is read
line_kept : (totals : Totals) (lines closed : ℕ) (line : Line) (frame : List ℕ)
    → held_of (line_of (place_words totals lines closed line)) frame ≡ held_of line frame
unfolding held_of
line_kept totals lines closed line frame =
    let half : line.half % 16 % 16 ≡ line.half % 16 = mod-eq_of_lt (mod-lt line.half (omega arith)) in
    rw (kept-bit line.odd, kept-bit line.bad, half)

-- ---- the answer to a line

pub answered-held : (p : Pair) (line : Line) (frame memory : List ℕ)
    → answered_line p line frame memory ≡ answer_held p memory (held_of line frame)
unfolding answered_line line_refusal
answered-held p line frame memory = go (refused_line line) refl (ltb 9000 line.len) refl
  where
    go : (b : Bool) → refused_line line ≡ b → (l : Bool) → ltb 9000 line.len ≡ l
        → answered_line p line frame memory ≡ answer_held p memory (held_of line frame)
    go true e l k = rw e (sym (answer-refused p memory line frame e))
    go false e true k = rw (e, k) (sym (answer-long p memory line frame e (ltb-true _ _ k)))
    go false e false k = rw (e, k) (sym (answer-short p memory line frame e (ltb-false _ _ k)))

-- the line ends: what is answered, and the state for the next line
module _ (place : List ℕ) (pair : Pair) (frame memory : List ℕ) (l : lines_in place < 1000000)
    (answer : Answer) (pair' : Pair) (memory' : List ℕ) (e : Answers place pair frame memory answer pair' memory') where
  abbrev s : Replaying
  s = state_of place pair frame memory

  held-a : answered_line pair (line_of place) frame memory ≡ answer_held pair memory (held_of (line_of place) frame)
  held-a = answered-held pair (line_of place) frame memory

  answer-is : answer ≡ line_answer s
  answer-is = e.0 ∙ ap (λ (x : Received). x.answer) held-a

  ended_is : state_of (counted place answer) pair' frame memory' ≡ line_ended s
  unfolding counted
  ended_is =
      let more : (lines_in place + 1) % 2 ^ 64 ≡ lines_in place + 1 = mod-eq_of_lt (omega arith) in
      let none : held_of (line_of (place_words (totalled (totals_in place) answer) ((lines_in place + 1) % 2 ^ 64)
      (get_or place 4 0) start)) frame ≡ nothing_held =
      line_kept (totalled (totals_in place) answer) ((lines_in place + 1) % 2 ^ 64) (get_or place 4 0) start frame
      ∙ nothing-held frame in
      rw (none, more, e.1.0, e.1.1, e.0, held-a)

-- ---- feeding

abbrev line_step : Replaying → ℕ → Step Replaying
line_step s n = record { state = line_ended s; reply = Ok (Some (line_answer s)); taken = n }

module _ (place : List ℕ) (pair : Pair) (frame memory fragment : List ℕ) where
  abbrev at : Replaying
  at = state_of place pair frame memory

  abbrev pub Feeds : Result Fed Reason → List ℕ → Pair → List ℕ → List ℕ → Type 0
  Feeds fed place' pair' frame' memory' =
      (fed ≡ fed_of (feed at fragment)) × (state_of place' pair' frame' memory' ≡ (feed at fragment).state)

  told : (step : Step Replaying) → feed at fragment ≡ step → (place' : List ℕ) (pair' : Pair) (frame' memory' : List ℕ)
      → state_of place' pair' frame' memory' ≡ step.state
      → Feeds (fed_of step) place' pair' frame' memory'
  told step e place' pair' frame' memory' h = rw e (refl, h)

  module _ (room : 9000 ≤ length frame) (t : Result Taking Reason) (place' frame' : List ℕ)
      (t-is : t ≡ taking_of place frame fragment) (place_is : place' ≡ place_taken place frame fragment)
      (frame_is : frame' ≡ frame_taken place frame fragment) where
    -- a line ended, and the replay was open and not full
    pub record Ends (taken : ℕ) : Type 0 where
      pub lines_left : lines_in place' < 1000000
      pub step_is : feed at fragment ≡ line_step (state_of place' pair frame' memory) taken

    when-closed : closed_in place ≡ true → (t ≡ Err ReplayClosed) × (place' ≡ place) × (frame' ≡ frame)
    unfolding taking_of place_taken frame_taken
    when-closed e = (t-is ∙ rw e, place_is ∙ rw e, frame_is ∙ rw e)

    when-full : closed_in place ≡ false → leb lines_most (lines_in place) ≡ true
        → (t ≡ Ok (record { taken = length fragment; ended = false })) × (place' ≡ place) × (frame' ≡ frame)
    unfolding taking_of place_taken frame_taken
    when-full o k = (t-is ∙ rw (k, o), place_is ∙ rw (k, o), frame_is ∙ rw (k, o))

    module _ (o : closed_in place ≡ false) (k : leb lines_most (lines_in place) ≡ false) where
      abbrev got : Taken
      got = taken_from (line_of place) frame 0 fragment

      t_open : t ≡ Ok (record { taken = got.at; ended = got.ended })
      unfolding taking_of
      t_open = t-is ∙ rw (k, o)

      place-open : place' ≡ noted place got.line
      unfolding place_taken
      place-open = place_is ∙ rw (k, o)

      frame-open : frame' ≡ frame_after (line_of place) frame fragment
      unfolding frame_taken
      frame-open = frame_is ∙ rw (k, o)

      left : lines_in place < lines_most
      left = leb-false lines_most (lines_in place) k

      reading-is : state_of place' pair frame' memory ≡ with_characters (up_to_newline fragment) at
      unfolding noted taken_from frame_after
      reading-is =
          rw (
            place-open,
            frame-open,
            line_kept (totals_in place) (lines_in place) (get_or place 4 0) got.line
                (frame_after (line_of place) frame fragment),
            all_held (up_to_newline fragment) (record { line = line_of place; frame = frame }) room,
          )

      part-open : (x : Taking) → t ≡ Ok x → x.ended ≡ false
          → Feeds (Ok (record { answer = None; taken = x.taken })) place' pair frame' memory
      unfolding taken_from
      part-open x q n =
          let x-is : x ≡ record { taken = got.at; ended = got.ended } = cc t_open in
          let none : has_newline fragment ≡ false = sym (ap (λ (y : Taking). y.ended) x-is) ∙ n in
          let all : up_to_newline fragment ≡ fragment = all-of-it fragment none in
          let all-taken : 0 + length (up_to_newline fragment) + cond (has_newline fragment) 1 0 ≡ length fragment =
          rw (none, all) (omega arith) in
          let count : x.taken ≡ length fragment = ap (λ (y : Taking). y.taken) x-is ∙ all-taken in
          rw count
          (told (record { state = with_characters fragment at; reply = Ok None; taken = length fragment })
          (feed-part at fragment o left none) place' pair frame' memory
          (reading-is ∙ ap (λ (cs : List ℕ). with_characters cs at) all))

      line-open : (x : Taking) → t ≡ Ok x → x.ended ≡ true → Ends x.taken
      unfolding taken_from noted
      line-open x q n =
          let x-is : x ≡ record { taken = got.at; ended = got.ended } = cc t_open in
          let some-there : has_newline fragment ≡ true = sym (ap (λ (y : Taking). y.ended) x-is) ∙ n in
          let taken_is : x.taken ≡ length (up_to_newline fragment) + 1 =
          ap (λ (y : Taking). y.taken) x-is ∙ rw some-there (omega arith) in
          record {
            lines_left = rw place-open left;
            step_is =
                feed-line at fragment o left some-there
                ∙ ap (λ (y : Replaying). line_step y (length (up_to_newline fragment) + 1)) (sym reading-is)
                ∙ ap (λ (n : ℕ). line_step (state_of place' pair frame' memory) n) (sym taken_is);
          }

    -- refused: no host is asked, and what was lent stays as it was
    pub fed-refused : (reason : Reason) → t ≡ Err reason
        → Feeds (Err reason) place' pair frame' memory × (place' ≡ place) × (frame' ≡ frame)
    unfolding feed
    fed-refused reason q = go (closed_in place) refl (leb lines_most (lines_in place)) refl
      where
        never : (x : Taking) → t ≡ Ok x → ⊥
        never x e = cc

        go : (b : Bool) → closed_in place ≡ b → (l : Bool) → leb lines_most (lines_in place) ≡ l
            → Feeds (Err reason) place' pair frame' memory × (place' ≡ place) × (frame' ≡ frame)
        go true e l k =
            let w = when-closed e in
            let r : reason ≡ ReplayClosed = cc in
            rw (r, w.1, w.2) (
              told (record { state = at; reply = Err ReplayClosed; taken = 0 }) (rw e) place pair frame memory refl,
              refl,
              refl,
            )
        go false o true k = absurd (never _ (when-full o k).0)
        go false o false k = absurd (never _ (t_open o k))

    -- no line ended: no host is asked
    pub fed-part : (x : Taking) → t ≡ Ok x → x.ended ≡ false
        → Feeds (Ok (record { answer = None; taken = x.taken })) place' pair frame' memory
    unfolding feed
    fed-part x q n = go (closed_in place) refl (leb lines_most (lines_in place)) refl
      where
        go : (b : Bool) → closed_in place ≡ b → (l : Bool) → leb lines_most (lines_in place) ≡ l
            → Feeds (Ok (record { answer = None; taken = x.taken })) place' pair frame' memory
        go true e l k =
            let w = when-closed e in
            let none : ⊥ = cc in
            absurd none
        go false o true k =
            let w = when-full o k in
            let x-is : x ≡ record { taken = length fragment; ended = false } = cc in
            rw (x-is, w.1, w.2)
            (told (record { state = at; reply = Ok None; taken = length fragment })
            (feed-over at fragment o (leb-true lines_most (lines_in place) k)) place pair frame memory refl)
        go false o false k = part-open o k x q n

    pub ends : (x : Taking) → t ≡ Ok x → x.ended ≡ true → Ends x.taken
    ends x q n = go (closed_in place) refl (leb lines_most (lines_in place)) refl
      where
        go : (b : Bool) → closed_in place ≡ b → (l : Bool) → leb lines_most (lines_in place) ≡ l → Ends x.taken
        go true e l k =
            let w = when-closed e in
            let none : ⊥ = cc in
            absurd none
        go false o true k =
            let w = when-full o k in
            let x-is : x ≡ record { taken = length fragment; ended = false } = cc in
            absurd (true≢false (sym n ∙ ap (λ (y : Taking). y.ended) x-is))
        go false o false k = line-open o k x q n

    -- a line ended, and a host answered it
    pub fed-line : (x : Taking) → t ≡ Ok x → x.ended ≡ true
        → (answer : Answer) (place'' : List ℕ) (pair' : Pair) (memory' : List ℕ)
        → Answers place' pair frame' memory answer pair' memory' → place'' ≡ counted place' answer
        → Feeds (Ok (record { answer = Some answer; taken = x.taken })) place'' pair' frame' memory'
    fed-line x q n answer place'' pair' memory' e p =
        let k = ends x q n in
        let a = answer-is place' pair frame' memory k.lines_left answer pair' memory' e in
        let fed : ◌≡◌ {A = Result Fed Reason} (Ok (record { answer = Some answer; taken = x.taken }))
        (Ok (record { answer = Some (line_answer (state_of place' pair frame' memory)); taken = x.taken })) = rw a in (
          fed ∙ sym (ap fed_of k.step_is),
          ap (λ (w : List ℕ). state_of w pair' frame' memory') p
              ∙ ended_is place' pair frame' memory k.lines_left answer pair' memory' e
              ∙ sym (ap (λ (y : Step Replaying). y.state) k.step_is),
        )

-- ---- now_closed

-- What a call answers that has this answer of a last line, and closes the words.
abbrev pub closing : Option Answer → Result Totals Reason → Result Closed Reason
closing answer (Ok totals) = Ok (record { answer = answer; totals = totals })
closing answer (Err reason) = Err reason

-- closing words that are closed leaves them
pub closing-left : (place : List ℕ) (reason : Reason) → closing_of place ≡ Err reason → place_closed place ≡ place
unfolding closing_of place_closed
closing-left place reason h = go (closed_in place) refl
  where
    go : (b : Bool) → closed_in place ≡ b → place_closed place ≡ place
    go true c = rw c
    go false o =
        let is-open : closing_of place ≡ Ok (totals_in place) = rw o in
        let none : ⊥ = cc in
        absurd none

module _ (place : List ℕ) (pair : Pair) (frame memory : List ℕ) where
  abbrev here : Replaying
  here = state_of place pair frame memory

  abbrev pub Closes : Result Closed Reason → List ℕ → Pair → List ℕ → Type 0
  Closes closed place' pair' memory' =
      (closed ≡ closed_of (close here)) × (state_of place' pair' frame memory' ≡ (close here).state)

  close-told : (step : ClosedStep) → close here ≡ step → (place' : List ℕ) (pair' : Pair) (memory' : List ℕ)
      → state_of place' pair' frame memory' ≡ step.state → Closes (closed_of step) place' pair' memory'
  close-told step e place' pair' memory' h = rw e (refl, h)

  -- the words with the mark that the replay is closed
  shut-is : state_of (place_words (totals_in place) (lines_in place) 1 (line_of place)) pair frame memory ≡ now_closed here
  shut-is = rw (line_kept (totals_in place) (lines_in place) 1 (line_of place) frame)

  pub closed-open : closed_in place ≡ false
      → (closing_of place ≡ Ok (totals_in place)) × (state_of (place_closed place) pair frame memory ≡ now_closed here)
  unfolding closing_of place_closed
  closed-open o =
      let shut : place_closed place ≡ place_words (totals_in place) (lines_in place) 1 (line_of place) = rw o in
      (rw o, ap (λ (w : List ℕ). state_of w pair frame memory) shut ∙ shut-is)

module _ (place : List ℕ) (pair : Pair) (frame memory : List ℕ) (room : 9000 ≤ length frame) where
  empty-is : is_empty (held_of (line_of place) frame) ≡ empty_line (line_of place)
  empty-is = empty-held (line_of place) frame room

  none_last : closed_in place ≡ false → has_last (state_of place pair frame memory) ≡ false
      → Closes place pair frame memory (closing None (closing_of place)) (place_closed place) pair memory
  unfolding closing_of close
  none_last o h =
      let c : closing_of place ≡ Ok (totals_in place) = rw o in
      rw c
      (close-told place pair frame memory
      (record { state = now_closed (state_of place pair frame memory); reply = Ok None; totals = totals_in place })
      (rw (h, o)) (place_closed place) pair memory (closed-open place pair frame memory o).1)

  bare : last_in place ≡ false
      → Closes place pair frame memory (closing None (closing_of place)) (place_closed place) pair memory
  unfolding last_in closing_of place_closed close has_last
  bare n = go (closed_in place) refl (leb lines_most (lines_in place)) refl
    where
      go : (b : Bool) → closed_in place ≡ b → (l : Bool) → leb lines_most (lines_in place) ≡ l
          → Closes place pair frame memory (closing None (closing_of place)) (place_closed place) pair memory
      go true e l k =
          let c : closing_of place ≡ Err ReplayClosed = rw e in
          let w : place_closed place ≡ place = rw e in
          rw (c, w)
          (close-told place pair frame memory
          (record { state = state_of place pair frame memory; reply = Err ReplayClosed; totals = no_totals }) (rw e) place
          pair memory refl)
      go false o true k = none_last o (rw k)
      go false o false k =
          let last : last_in place ≡ not (empty_line (line_of place)) = rw (k, o) in
          let empty = not-false (empty_line (line_of place)) (sym last ∙ n) in
          none_last o (rw (k, empty-is, empty))

  -- no last line: no host is asked
  pub closed-bare : last_in place ≡ false → (closed : Result Totals Reason) (place' : List ℕ)
      → (closed ≡ closing_of place) × (place' ≡ place_closed place)
      → Closes place pair frame memory (closing None closed) place' pair memory
  closed-bare n closed place' e = rw (e.0, e.1) (bare n)

  -- a last line is there only where the replay is open and not full
  pub record Last : Type 0 where
    pub still_open : closed_in place ≡ false
    pub lines_left : lines_in place < 1000000
    pub last-there : has_last (state_of place pair frame memory) ≡ true

  last-is : last_in place ≡ true → Last
  unfolding last_in has_last
  last-is n = go (closed_in place) refl (leb lines_most (lines_in place)) refl
    where
      go : (b : Bool) → closed_in place ≡ b → (l : Bool) → leb lines_most (lines_in place) ≡ l → Last
      go true e l k =
          let none : last_in place ≡ false = rw e in
          absurd (true≢false (sym n ∙ none))
      go false o true k =
          let none : last_in place ≡ false = rw (k, o) in
          absurd (true≢false (sym n ∙ none))
      go false o false k =
          let last : last_in place ≡ not (empty_line (line_of place)) = rw (k, o) in
          record {
            still_open = o;
            lines_left = leb-false lines_most (lines_in place) k;
            last-there = rw (k, empty-is) (sym last ∙ n);
          }

  -- a last line, and a host answered it: the words are closed then, and not refused
  pub closed-line : last_in place ≡ true → (answer : Answer) (place' : List ℕ) (pair' : Pair) (memory' : List ℕ)
      → Answers place pair frame memory answer pair' memory' → place' ≡ counted place answer
      → (end : Result Totals Reason) (place'' : List ℕ) → (end ≡ closing_of place') × (place'' ≡ place_closed place')
      → Closes place pair frame memory (closing (Some answer) end) place'' pair' memory'
      × (end ≡ Ok (totals_in place'))
  unfolding close
  closed-line n answer place' pair' memory' e p end place'' q =
      let l = last-is n in
      let a = answer-is place pair frame memory l.lines_left answer pair' memory' e in
      let z : state_of place' pair' frame memory' ≡ line_ended (state_of place pair frame memory) =
      ap (λ (w : List ℕ). state_of w pair' frame memory') p
      ∙ ended_is place pair frame memory l.lines_left answer pair' memory' e in
      let o : closed_in place' ≡ false = ap (λ (x : Replaying). x.closed) z ∙ l.still_open in
      let c = closed-open place' pair' frame memory' o in
      let step : close (state_of place pair frame memory)
      ≡ record {
        state = now_closed (line_ended (state_of place pair frame memory));
        reply = Ok (Some (line_answer (state_of place pair frame memory)));
        totals = (line_ended (state_of place pair frame memory)).totals;
      } =
      rw (l.last-there, l.still_open) in
      let totals : totals_in place' ≡ (line_ended (state_of place pair frame memory)).totals =
      ap (λ (x : Replaying). x.totals) z in
      let ok : end ≡ Ok (totals_in place') = q.0 ∙ c.0 in
      let closed : ◌≡◌ {A = Result Closed Reason} (closing (Some answer) end)
      (Ok (record {
        answer = Some (line_answer (state_of place pair frame memory));
        totals = (line_ended (state_of place pair frame memory)).totals;
      })) =
      rw (ok, totals, a) in (
        (
          closed ∙ sym (ap closed_of step),
          ap (λ (w : List ℕ). state_of w pair' frame memory') q.1 ∙ c.1 ∙ ap now_closed z
              ∙ sym (ap (λ (x : ClosedStep). x.state) step),
        ),
        ok,
      )

-- ---- what a call's answer tells of its step

pub fed-ok : (r : Reply) (n : ℕ) (x : Fed) → Ok x ≡ fed_with r n → (r ≡ Ok x.answer) × (n ≡ x.taken)
fed-ok (Ok answer) n x e =
    let k : x ≡ record { answer = answer; taken = n } = cc in
    rw k (refl, refl)
fed-ok (Err b) n x e =
    let none : ⊥ = cc in
    absurd none

pub fed-err : (r : Reply) (n : ℕ) (d : Reason) → Err d ≡ fed_with r n → r ≡ Err d
fed-err (Ok answer) n d e =
    let none : ⊥ = cc in
    absurd none
fed-err (Err b) n d e = cc

pub closed-ok : (r : Reply) (t : Totals) (x : Closed) → Ok x ≡ closed_with r t → (r ≡ Ok x.answer) × (t ≡ x.totals)
closed-ok (Ok answer) t x e =
    let k : x ≡ record { answer = answer; totals = t } = cc in
    rw k (refl, refl)
closed-ok (Err b) t x e =
    let none : ⊥ = cc in
    absurd none

pub closed-err : (r : Reply) (t : Totals) (d : Reason) → Err d ≡ closed_with r t → r ≡ Err d
closed-err (Ok answer) t d e =
    let none : ⊥ = cc in
    absurd none
closed-err (Err b) t d e = cc

-- a refused feeding takes nothing
pub feed-err : (s : Replaying) (f : List ℕ) (d : Reason) → (feed s f).reply ≡ Err d → (feed s f).taken ≡ 0
unfolding feed
feed-err s f d e = go s.closed refl (leb lines_most s.lines) refl (has_newline f) refl
  where
    never : (a : Option Answer) → (feed s f).reply ≡ Ok a → ⊥
    never a q = cc

    go : (b : Bool) → s.closed ≡ b → (l : Bool) → leb lines_most s.lines ≡ l → (n : Bool) → has_newline f ≡ n
        → (feed s f).taken ≡ 0
    go true c l k n h = rw c
    go false c true k n h = absurd (never None (rw (k, c)))
    go false c false k true h = absurd (never (Some (line_answer (with_characters (up_to_newline f) s))) (rw (h, k, c)))
    go false c false k false h = absurd (never None (rw (h, k, c)))

-- a closing is refused with 17 alone
pub close-err : (s : Replaying) (d : Reason) → (close s).reply ≡ Err d → d ≡ ReplayClosed
unfolding close
close-err s d e = go s.closed refl (has_last s) refl
  where
    never : (a : Option Answer) → (close s).reply ≡ Ok a → ⊥
    never a q = cc

    go : (b : Bool) → s.closed ≡ b → (l : Bool) → has_last s ≡ l → d ≡ ReplayClosed
    go true c l h =
        let q : (close s).reply ≡ Err ReplayClosed = rw c in
        cc
    go false c true h = absurd (never (Some (line_answer s)) (rw (h, c)))
    go false c false h = absurd (never None (rw (h, c)))

-- ---- opening

pub opens : (pair : Pair) → pair ≡ fresh 1 2 → (frame : List ℕ)
    → state_of (replicate 9 0) pair frame (replicate 4096 0) ≡ at_start
unfolding at_start memory_at_start held_of
opens pair e frame = rw e
