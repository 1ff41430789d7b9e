-- Fragments, cut anywhere, are answered as the whole text is.
-- Assumes nothing.
use Rattle.std.proofs.Common.{◌≡◌, ℕ, zero, suc, ◌+◌, ◌<◌, ◌≤◌, Bool, true, false, cond, eqb, leb, List, [], ◌∷◌, ◌++◌, length, drop, sym, refl, ap, ◌∙◌, append_assoc, arith, length-drop, drop_of_length-le, le-leb}
use Rattle.std.specs.Prelude.{Some, None, Ok, Err}
use native.Mathlib.Decide.{dec_le}
use borrow.Author.Tests.{lt-leb}
use lib.Seq.{drop-length}
use Rattle.hexadecimal.specs.Line.{up_to_newline, has_newline}
use Rattle.host.specs.declared.Answer.{Answer}
use Rattle.replay_text.specs.Reply.{Reply}
use Rattle.replay_text.specs.Text.{lines_most}
use Rattle.replay_text.specs.Feeding.{
  held_after,
  Replaying,
  with_characters,
  line_answer,
  line_ended,
  Step,
  feed,
  close,
  answers_of,
  Run,
  feed_whole,
  feed_each,
}
use Rattle.replay_text.specs.Claim.{joined}

-- ---- a text character by character, and then the closing

abbrev pub before : Reply → Run Replaying → Run Replaying
before r rest = record { answers = answers_of r rest.answers; state = rest.state }

unfoldable pub closed : Replaying → Run Replaying
closed s = record { answers = answers_of (close s).reply []; state = (close s).state }

unfoldable pub go_on : Replaying → List ℕ → Run Replaying
go_on s [] = closed s
go_on s (c ∷ cs) =
    cond (leb lines_most s.lines) (go_on s cs)
    (cond (eqb c 10) (before (Ok (Some (line_answer s))) (go_on (line_ended s) cs))
    (go_on (with_characters (c ∷ []) s) cs))

-- ---- one call takes the front of what is there

-- after 1,000,000 lines nothing more is looked at
pub over : (s : Replaying) → lines_most ≤ s.lines → (cs rest : List ℕ) → go_on s (cs ++ rest) ≡ go_on s rest
unfolding go_on
over s h [] rest = refl
over s h (c ∷ cs) rest = rw (le-leb lines_most s.lines h) (over s h cs rest)

-- the call's reply, and the text from where it stopped
abbrev pub Fits : Replaying → List ℕ → List ℕ → Type 0
Fits s f rest =
    go_on s (f ++ rest) ≡ before (feed s f).reply (go_on (feed s f).state (drop (feed s f).taken f ++ rest))

-- the three answers of an open replay
module _ (s : Replaying) (f : List ℕ) (o : s.closed ≡ false) where
  pub feed-over : lines_most ≤ s.lines → feed s f ≡ record { state = s; reply = Ok None; taken = length f }
  unfolding feed
  feed-over h = rw (o, le-leb lines_most s.lines h)

  module _ (l : s.lines < lines_most) where
    pub feed-line : has_newline f ≡ true
        → feed s f
        ≡ record {
          state = line_ended (with_characters (up_to_newline f) s);
          reply = Ok (Some (line_answer (with_characters (up_to_newline f) s)));
          taken = length (up_to_newline f) + 1;
        }
    unfolding feed
    feed-line n = rw (o, lt-leb lines_most s.lines l, n)

    pub feed-part : has_newline f ≡ false
        → feed s f ≡ record { state = with_characters f s; reply = Ok None; taken = length f }
    unfolding feed
    feed-part n = rw (o, lt-leb lines_most s.lines l, n)

-- a character of the line being read, and the call on what follows it
abbrev further : Step Replaying → Step Replaying
further r = record { state = r.state; reply = r.reply; taken = suc r.taken }

later : (s : Replaying) → s.closed ≡ false → s.lines < lines_most → (c : ℕ) (cs : List ℕ) → eqb c 10 ≡ false
    → feed s (c ∷ cs) ≡ further (feed (with_characters (c ∷ []) s) cs)
unfolding has_newline up_to_newline held_after
later s o l c cs e = go (has_newline cs) refl
  where
    go : (b : Bool) → has_newline cs ≡ b → feed s (c ∷ cs) ≡ further (feed (with_characters (c ∷ []) s) cs)
    go true n =
        let k : suc (length (up_to_newline cs)) + 1 ≡ suc (length (up_to_newline cs) + 1) = omega arith in
        feed-line s (c ∷ cs) o l (rw e n)
        ∙ rw (e, k) (sym (ap further (feed-line (with_characters (c ∷ []) s) cs o l n)))
    go false n = feed-part s (c ∷ cs) o l (rw e n) ∙ sym (ap further (feed-part (with_characters (c ∷ []) s) cs o l n))

reads-line : (f rest : List ℕ) (s : Replaying) → s.closed ≡ false → s.lines < lines_most → Fits s f rest
unfolding go_on has_newline up_to_newline held_after
reads-line [] rest s o l = rw (feed-part s [] o l refl)
reads-line (c ∷ cs) rest s o l = go (eqb c 10) refl (reads-line cs rest (with_characters (c ∷ []) s) o l)
  where
    go : (b : Bool) → eqb c 10 ≡ b → Fits (with_characters (c ∷ []) s) cs rest → Fits s (c ∷ cs) rest
    go true e ih = rw (feed-line s (c ∷ cs) o l (rw e)) (rw (lt-leb lines_most s.lines l, e))
    go false e ih = rw (later s o l c cs e) (rw (lt-leb lines_most s.lines l, e) ih)

pub call_fits : (f rest : List ℕ) (s : Replaying) → s.closed ≡ false → Fits s f rest
call_fits f rest s o = go (dec_le lines_most s.lines)
  where
    go : Dec (lines_most ≤ s.lines) → Fits s f rest
    go (no h) = reads-line f rest s o (omega arith)
    go (yes h) = rw (feed-over s f o h) (over s h f rest ∙ rw (drop-length f))

-- a call leaves an open replay open, and takes something where there is anything
pub record Takes (s : Replaying) (f : List ℕ) : Type 0 where
  pub stays_open : (feed s f).state.closed ≡ false
  pub some-taken : 0 < length f → 0 < (feed s f).taken

pub takes : (f : List ℕ) (s : Replaying) → s.closed ≡ false → Takes s f
takes f s o = go (dec_le lines_most s.lines) (has_newline f) refl
  where
    go : Dec (lines_most ≤ s.lines) → (b : Bool) → has_newline f ≡ b → Takes s f
    go (yes h) b n =
        let e = feed-over s f o h in
        record { stays_open = rw e o; some-taken = λ k. rw e k }
    go (no h) true n =
        let e = feed-line s f o (omega arith) n in
        record { stays_open = rw e o; some-taken = λ k. rw e (omega arith) }
    go (no h) false n =
        let e = feed-part s f o (omega arith) n in
        record { stays_open = rw e o; some-taken = λ k. rw e k }

-- ---- a fragment until it is taken whole, and one after another

abbrev pub then : List Answer → Run Replaying → Run Replaying
then first rest = record { answers = first ++ rest.answers; state = rest.state }

before-then : (r : Reply) (first : List Answer) (rest : Run Replaying)
    → before r (then first rest) ≡ then (answers_of r first) rest
before-then (Ok (Some a)) first rest = refl
before-then (Ok None) first rest = refl
before-then (Err reason) first rest = refl

-- what feeding has answered, and then the text that follows
pub record Goes (s : Replaying) (cs rest : List ℕ) (r : Run Replaying) : Type 0 where
  pub is : go_on s (cs ++ rest) ≡ then r.answers (go_on r.state rest)
  pub open-left : r.state.closed ≡ false

pub whole-fits : (n : ℕ) (f rest : List ℕ) (s : Replaying) → s.closed ≡ false → length f < n
    → Goes s f rest (feed_whole feed n s f)
unfolding feed_whole
whole-fits zero f rest s o h = absurd (omega arith)
whole-fits (suc n) f rest s o h =
    go (dec_le (length f) (feed s f).taken) (λ p q. whole-fits n (drop (feed s f).taken f) rest (feed s f).state p q)
  where
    t : Takes s f
    t = takes f s o

    go : Dec (length f ≤ (feed s f).taken)
        → ((feed s f).state.closed ≡ false → length (drop (feed s f).taken f) < n
        → Goes (feed s f).state (drop (feed s f).taken f) rest
        (feed_whole feed n (feed s f).state (drop (feed s f).taken f)))
        → Goes s f rest (feed_whole feed (suc n) s f)
    go (yes k) ih =
        rw (le-leb (length f) (feed s f).taken k)
        (record {
          is = call_fits f rest s o
              ∙ rw (drop_of_length-le f k) (before-then (feed s f).reply [] (go_on (feed s f).state rest));
          open-left = t.stays_open;
        })
    go (no k) ih =
        let less : length (drop (feed s f).taken f) < n =
        rw (length-drop (feed s f).taken f) (omega (arith, t.some-taken (omega arith))) in
        let g = ih t.stays_open less in
        rw (lt-leb (length f) (feed s f).taken (omega arith))
        (record {
          is = call_fits f rest s o ∙ rw g.is (before-then (feed s f).reply _ _);
          open-left = g.open-left;
        })

pub each_fits : (fs : List (List ℕ)) (s : Replaying) → s.closed ≡ false → Goes s (joined fs) [] (feed_each feed s fs)
unfolding feed_each go_on joined
each_fits [] s o = record { is = refl; open-left = o }
each_fits (f ∷ fs) s o =
    let r = feed_whole feed (suc (length f)) s f in
    let w = whole-fits (suc (length f)) f (joined fs ++ []) s o (omega arith) in
    let ih = each_fits fs r.state w.open-left in
    record {
      is = rw (append_assoc f (joined fs) []) (w.is ∙ rw ih.is (simp append_assoc));
      open-left = ih.open-left;
    }
