-- A text taken character by character, and then closed, is answered as its lines are.
-- Assumes nothing.
use Rattle.std.proofs.Common.{◌≡◌, ℕ, suc, ◌+◌, ◌-◌, ◌<◌, ◌≤◌, Bool, true, false, cond, eqb, List, [], ◌∷◌, ◌++◌, length, take, sym, refl, ap, ◌∙◌, subst, append_assoc, append-nil, arith, ne_eqb, eqb-true, le-leb}
use Rattle.std.specs.Prelude.{Some, None, Ok, Err}
use native.Mathlib.Decide.{dec_le}
use borrow.Author.Tests.{lt-leb}
use lib.Seq.{take-nil}
use Rattle.hexadecimal.specs.Line.{digit, decode, has_newline}
use Rattle.host.specs.declared.Answer.{Answer}
use Rattle.host.specs.Host.{Received}
use Rattle.replay_text.specs.declared.line.Totals.{Totals}
use Rattle.replay_text.specs.Report.{totalled}
use Rattle.replay_text.specs.Text.{lines_most, with_first, lines_of, answer_to, answers_to}
use Rattle.replay_text.specs.Feeding.{
  Held,
  nothing_held,
  held_after_one,
  held_after,
  answer_held,
  is_empty,
  Replaying,
  with_characters,
  line_answer,
  line_ended,
  now_closed,
  has_last,
  close,
  Run,
}
use Rattle.replay_text.proofs.Cutting.{before, closed, go_on, over}
use Rattle.replay_text.proofs.Holding.{held-answer, held-empty}

-- ---- the lines of a text

true-false : true ≡ false → ⊥
true-false e = let z : ◌≡◌ {A = ℕ} 0 1 = cc in omega arith

-- no newline before the first character, nor behind it
none_first : (c : ℕ) (a : List ℕ) → has_newline (c ∷ a) ≡ false → (eqb c 10 ≡ false) × (has_newline a ≡ false)
unfolding has_newline
none_first c a h = go (eqb c 10) refl h
  where
    go : (b : Bool) → eqb c 10 ≡ b → cond b true (has_newline a) ≡ false → (eqb c 10 ≡ false) × (has_newline a ≡ false)
    go true e q = absurd (true-false q)
    go false e q = (e, q)

none_last : (a : List ℕ) (c : ℕ) → has_newline a ≡ false → eqb c 10 ≡ false → has_newline (a ++ c ∷ []) ≡ false
unfolding has_newline
none_last [] c h e = rw e
none_last (x ∷ a) c h e =
    let f = none_first x a h in
    rw f.0 (none_last a c f.1 e)

line_first : (a cs : List ℕ) → has_newline a ≡ false → lines_of (a ++ 10 ∷ cs) ≡ a ∷ lines_of cs
unfolding lines_of
line_first [] cs h = refl
line_first (x ∷ a) cs h =
    let f = none_first x a h in
    rw (f.0, line_first a cs f.1)

line-last : (x : ℕ) (a : List ℕ) → has_newline (x ∷ a) ≡ false → lines_of (x ∷ a) ≡ (x ∷ a) ∷ []
unfolding lines_of
line-last x [] h = rw (none_first x [] h).0
line-last x (y ∷ a) h =
    let f = none_first x (y ∷ a) h in
    rw f.0 (ap (with_first x) (line-last y a f.1))

-- a line in two parts
pub holding-append : (h : Held) (a b : List ℕ) → held_after h (a ++ b) ≡ held_after (held_after h a) b
unfolding held_after
holding-append h [] b = refl
holding-append h (c ∷ a) b = holding-append (held_after_one (digit c) h) a b

-- ---- totals, answer after answer

unfoldable pub totalling : Totals → List Answer → Totals
totalling t [] = t
totalling t (a ∷ rest) = totalling (totalled t a) rest

-- ---- the answers of a run are those of its lines

-- a are the characters of the line being read
pub record Reading (s : Replaying) (a : List ℕ) : Type 0 where
  pub held-is : s.held ≡ held_after nothing_held a
  pub one_line : has_newline a ≡ false
  pub is_open : s.closed ≡ false

pub record Answers (s : Replaying) (lines : List (List ℕ)) (r : Run Replaying) : Type 0 where
  pub answers-are : r.answers ≡ (answers_to s.pair s.memory lines).answers
  pub pair_is : r.state.pair ≡ (answers_to s.pair s.memory lines).pair
  pub memory-is : r.state.memory ≡ (answers_to s.pair s.memory lines).memory
  pub totals-are : r.state.totals ≡ totalling s.totals r.answers
  pub is-closed : r.state.closed ≡ true

-- the lines that are still answered
abbrev left : Replaying → List ℕ → List ℕ → List (List ℕ)
left s a text = take (lines_most - s.lines) (lines_of (a ++ text))

closed_none : (s : Replaying) → s.closed ≡ false → has_last s ≡ false → Answers s [] (closed s)
unfolding closed close answers_to totalling
closed_none s o h =
    let e : close s ≡ record { state = now_closed s; reply = Ok None; totals = s.totals } = rw (h, o) in
    rw e (record { answers-are = refl; pair_is = refl; memory-is = refl; totals-are = refl; is-closed = refl })

-- a line answered, and those behind it
line-then : (s : Replaying) (a : List ℕ) (lines : List (List ℕ)) (r : Run Replaying) → Reading s a
    → Answers (line_ended s) lines r
    → Answers s (a ∷ lines) (before (Ok (Some (line_answer s))) r)
unfolding answers_to totalling
line-then s a lines r w k =
    let e : answer_held s.pair s.memory s.held ≡ answer_to s.pair s.memory (decode a) =
    rw w.held-is (held-answer s.pair s.memory a) in
    record {
      answers-are =
          rw k.answers-are (ap (λ (x : Received). x.answer ∷ (answers_to x.pair x.memory lines).answers) e);
      pair_is = k.pair_is ∙ ap (λ (x : Received). (answers_to x.pair x.memory lines).pair) e;
      memory-is = k.memory-is ∙ ap (λ (x : Received). (answers_to x.pair x.memory lines).memory) e;
      totals-are = k.totals-are;
      is-closed = k.is-closed;
    }

-- what is held of the first line counts in none of these
begun-before : (s : Replaying) (cs : List ℕ) (lines : List (List ℕ)) (r : Run Replaying)
    → Answers (with_characters cs s) lines r
    → Answers s lines r
begun-before s cs lines r k =
    record {
      answers-are = k.answers-are;
      pair_is = k.pair_is;
      memory-is = k.memory-is;
      totals-are = k.totals-are;
      is-closed = k.is-closed;
    }

closed-line : (s : Replaying) (a : List ℕ) → Reading s a → has_last s ≡ true → Answers s (a ∷ []) (closed s)
unfolding closed close answers_to totalling
closed-line s a w h =
    let e : close s
    ≡ record { state = now_closed (line_ended s); reply = Ok (Some (line_answer s)); totals = (line_ended s).totals } =
    rw (h, w.is_open) in
    rw e
    (line-then s a [] (record { answers = []; state = now_closed (line_ended s) }) w
    (record { answers-are = refl; pair_is = refl; memory-is = refl; totals-are = refl; is-closed = refl }))

-- after 1,000,000 lines none is answered
full : (s : Replaying) (a text : List ℕ) → Reading s a → lines_most ≤ s.lines → Answers s (left s a text) (go_on s text)
unfolding go_on has_last
full s a text w h =
    let none_left : lines_most - s.lines ≡ 0 = omega arith in
    let e : go_on s text ≡ closed s = rw (append-nil text) at (over s h text []) in
    rw (none_left, e) (closed_none s w.is_open (rw (le-leb lines_most s.lines h)))

at-end : (s : Replaying) (a : List ℕ) → Reading s a → s.lines < lines_most → Answers s (left s a []) (closed s)
unfolding has_last lines_of
at-end s [] w l =
    let e : is_empty s.held ≡ true = rw w.held-is (held-empty []) in
    let none_left : left s [] [] ≡ [] = take-nil {A = List ℕ} (lines_most - s.lines) in
    subst (λ (r : List (List ℕ)). Answers s r (closed s)) (sym none_left)
    (closed_none s w.is_open (rw (lt-leb lines_most s.lines l, e)))
at-end s (x ∷ a) w l =
    let e : is_empty s.held ≡ false =
    rw w.held-is (held-empty (x ∷ a) ∙ ne_eqb (suc (length a)) 0 (omega arith)) in
    let m : lines_most - s.lines ≡ suc (lines_most - (s.lines + 1)) = omega arith in
    let lines : lines_of ((x ∷ a) ++ []) ≡ (x ∷ a) ∷ [] =
    ap lines_of (append-nil (x ∷ a)) ∙ line-last x a w.one_line in
    let taken : left s (x ∷ a) [] ≡ (x ∷ a) ∷ [] =
    ap (take (lines_most - s.lines)) lines
    ∙ rw m (ap (λ (r : List (List ℕ)). (x ∷ a) ∷ r) (take-nil (lines_most - (s.lines + 1)))) in
    subst (λ (r : List (List ℕ)). Answers s r (closed s)) (sym taken)
    (closed-line s (x ∷ a) w (rw (lt-leb lines_most s.lines l, e)))

pub all-answered : (text : List ℕ) (s : Replaying) (a : List ℕ) → Reading s a → Answers s (left s a text) (go_on s text)
unfolding go_on held_after has_newline
all-answered [] s a w = go (dec_le lines_most s.lines)
  where
    go : Dec (lines_most ≤ s.lines) → Answers s (left s a []) (go_on s [])
    go (yes h) = full s a [] w h
    go (no h) = at-end s a w (omega arith)
all-answered (c ∷ cs) s a w =
    go (dec_le lines_most s.lines) (eqb c 10) refl (all-answered cs (line_ended s) [])
    (all-answered cs (with_characters (c ∷ []) s) (a ++ c ∷ []))
  where
    go : Dec (lines_most ≤ s.lines) → (b : Bool) → eqb c 10 ≡ b
        → (Reading (line_ended s) [] → Answers (line_ended s) (left (line_ended s) [] cs) (go_on (line_ended s) cs))
        → (Reading (with_characters (c ∷ []) s) (a ++ c ∷ [])
        → Answers (with_characters (c ∷ []) s) (left s (a ++ c ∷ []) cs) (go_on (with_characters (c ∷ []) s) cs))
        → Answers s (left s a (c ∷ cs)) (go_on s (c ∷ cs))
    go (yes h) b e on_line on-more = full s a (c ∷ cs) w h
    go (no h) true e on_line on-more =
        let n : c ≡ 10 = eqb-true c 10 e in
        let m : lines_most - s.lines ≡ suc (lines_most - (s.lines + 1)) = omega arith in
        let k = on_line (record { held-is = refl; one_line = refl; is_open = w.is_open }) in
        rw (lt-leb lines_most s.lines (omega arith), n, line_first a cs w.one_line, m)
        (line-then s a (left (line_ended s) [] cs) (go_on (line_ended s) cs) w k)
    go (no h) false e on_line on-more =
        let k = on-more (record {
          held-is = rw w.held-is (sym (holding-append nothing_held a (c ∷ [])));
          one_line = none_last a c w.one_line e;
          is_open = w.is_open;
        }) in
        let lines : left s (a ++ c ∷ []) cs ≡ left s a (c ∷ cs) =
        ap (λ (r : List ℕ). take (lines_most - s.lines) (lines_of r)) (append_assoc a (c ∷ []) cs) in
        rw (lt-leb lines_most s.lines (omega arith), e)
        (begun-before s (c ∷ []) (left s a (c ∷ cs)) _
        (subst (λ (r : List (List ℕ)). Answers (with_characters (c ∷ []) s) r (go_on (with_characters (c ∷ []) s) cs))
        lines k))
