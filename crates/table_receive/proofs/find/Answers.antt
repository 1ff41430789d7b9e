-- `table_receive::find`: test by test.
-- Assumes nothing.
use Prim.Native.Nat.{◌+◌, ◌≤◌, ◌<◌}
use native.Mathlib.Omega.{arith}
use mathlib.Core.Path.{◌≡◌, refl, sym, ◌∙◌, ap}
use mathlib.Core.Logic.{◌≢◌}
use Rattle.wire.specs.Reading.{destination, source}
use Rattle.table.specs.Table.{place_of}
use Rattle.table_words.specs.TableWords.{entry_at, table_of}
use Rattle.table_words.proofs.Indexing.{place-found, place_missing}
use Rattle.table_words.proofs.Laws.{first-is, size_is}
use Rattle.table_receive.proofs.Finding.{
  to_is,
  from_is,
  short,
  long,
  foreign,
  nobody,
  unknown,
  cut,
  passes,
}
use Rattle.table_receive.proofs.find.Goals as goal

pub returns-then-f-lt-FRAME_HEADER-clause-refusal : goal.returns-then-f-lt-FRAME_HEADER-clause-refusal
returns-then-f-lt-FRAME_HEADER-clause-refusal c =
    let a = c.args in
    (short a.words.now a.f.now a.memory c.if-f-lt-FRAME_HEADER.true)

pub returns-then-f-gt-FRAME_MOST-clause-refusal : goal.returns-then-f-gt-FRAME_MOST-clause-refusal
returns-then-f-gt-FRAME_MOST-clause-refusal c =
    let a = c.args in
    (long a.words.now a.f.now a.memory c.if-f-lt-FRAME_HEADER.false c.if-f-gt-FRAME_MOST.true)

pub returns-then-head-own-clause-refusal : goal.returns-then-head-own-clause-refusal
returns-then-head-own-clause-refusal c =
    let w = c.args.words.now in
    let f = c.args.f.now in
    let memory = c.args.memory in
    (foreign w f memory c.if-f-lt-FRAME_HEADER.false c.if-f-gt-FRAME_MOST.false _ _
    (to_is f _ c.frame_header-head.ensures) c.own.ensures c.if-head-own.true)

pub returns-then-head-eq0-clause-refusal : goal.returns-then-head-eq0-clause-refusal
returns-then-head-eq0-clause-refusal c =
    let w = c.args.words.now in
    let f = c.args.f.now in
    let memory = c.args.memory in
    let ours : destination f ≡ (table_of w).own =
    sym (to_is f _ c.frame_header-head.ensures) ∙ c.if-head-own.false ∙ c.own.ensures in
    (nobody w f memory c.if-f-lt-FRAME_HEADER.false c.if-f-gt-FRAME_MOST.false ours _
    (from_is f _ c.frame_header-head.ensures) c.if-head-eq0.true)

pub returns-in_default-clause-refusal : goal.returns-in_default-clause-refusal
returns-in_default-clause-refusal c =
    let w = c.args.words.now in
    let f = c.args.f.now in
    let memory = c.args.memory in
    let ours : destination f ≡ (table_of w).own =
    sym (to_is f _ c.frame_header-head.ensures) ∙ c.if-head-own.false ∙ c.own.ensures in
    let some : source f ≢ 0 = λ z. c.if-head-eq0.false (from_is f _ c.frame_header-head.ensures ∙ z) in
    let none = place_missing w _ (omega arith) c.in_default.ensures in
    let gone : place_of (table_of w).entries (source f) ≡ 16 =
    ap (place_of (table_of w).entries) (sym (from_is f _ c.frame_header-head.ensures)) ∙ none in
    unknown w f memory c.if-f-lt-FRAME_HEADER.false c.if-f-gt-FRAME_MOST.false ours some _ refl (omega (arith, gone))

pub returns-then-end-first-clause-refusal : goal.returns-then-end-first-clause-refusal
returns-then-end-first-clause-refusal c =
    let w = c.args.words.now in
    let f = c.args.f.now in
    let memory = c.args.memory in
    let ours : destination f ≡ (table_of w).own =
    sym (to_is f _ c.frame_header-head.ensures) ∙ c.if-head-own.false ∙ c.own.ensures in
    let some : source f ≢ 0 = λ z. c.if-head-eq0.false (from_is f _ c.frame_header-head.ensures ∙ z) in
    let k = c.in-Some.place in
    let at = place-found w _ (omega arith) k c.in-Some.ensures in
    let place_is : k ≡ place_of (table_of w).entries (source f) =
    at.0 ∙ ap (place_of (table_of w).entries) (from_is f _ c.frame_header-head.ensures) in
    let known : k < 16 = at.1 in
    let l : memory < (entry_at w k).first + (entry_at w k).size =
    omega (arith, first-is w k known _ c.first_at-first.ensures, c.if-end-first.true) in
    (cut w f memory c.if-f-lt-FRAME_HEADER.false c.if-f-gt-FRAME_MOST.false ours some k place_is known l)

pub returns-then-end-first-2-clause-refusal : goal.returns-then-end-first-2-clause-refusal
returns-then-end-first-2-clause-refusal c =
    let w = c.args.words.now in
    let f = c.args.f.now in
    let memory = c.args.memory in
    let ours : destination f ≡ (table_of w).own =
    sym (to_is f _ c.frame_header-head.ensures) ∙ c.if-head-own.false ∙ c.own.ensures in
    let some : source f ≢ 0 = λ z. c.if-head-eq0.false (from_is f _ c.frame_header-head.ensures ∙ z) in
    let k = c.in-Some.place in
    let at = place-found w _ (omega arith) k c.in-Some.ensures in
    let place_is : k ≡ place_of (table_of w).entries (source f) =
    at.0 ∙ ap (place_of (table_of w).entries) (from_is f _ c.frame_header-head.ensures) in
    let known : k < 16 = at.1 in
    let l : memory < (entry_at w k).first + (entry_at w k).size =
    omega (
      arith,
      first-is w k known _ c.first_at-first.ensures,
      size_is w k known _ c.size_at-size.ensures,
      c.if-end-first-2.true,
      c.if-end-first.false,
    ) in
    (cut w f memory c.if-f-lt-FRAME_HEADER.false c.if-f-gt-FRAME_MOST.false ours some k place_is known l)

pub returns-clause-refusal : goal.returns-clause-refusal
returns-clause-refusal c =
    let w = c.args.words.now in
    let f = c.args.f.now in
    let memory = c.args.memory in
    let ours : destination f ≡ (table_of w).own =
    sym (to_is f _ c.frame_header-head.ensures) ∙ c.if-head-own.false ∙ c.own.ensures in
    let some : source f ≢ 0 = λ z. c.if-head-eq0.false (from_is f _ c.frame_header-head.ensures ∙ z) in
    let k = c.in-Some.place in
    let at = place-found w _ (omega arith) k c.in-Some.ensures in
    let place_is : k ≡ place_of (table_of w).entries (source f) =
    at.0 ∙ ap (place_of (table_of w).entries) (from_is f _ c.frame_header-head.ensures) in
    let known : k < 16 = at.1 in
    let first-same = first-is w k known _ c.first_at-first.ensures in
    let size_same = size_is w k known _ c.size_at-size.ensures in
    let l : (entry_at w k).first + (entry_at w k).size ≤ memory =
    omega (arith, first-same, size_same, c.if-end-first-2.false, c.if-end-first.false) in
    passes w f memory c.if-f-lt-FRAME_HEADER.false c.if-f-gt-FRAME_MOST.false ours some k place_is known l

pub returns-clause-reached : goal.returns-clause-reached
returns-clause-reached c =
    let w = c.args.words.now in
    let f = c.args.f.now in
    let memory = c.args.memory in
    let ours : destination f ≡ (table_of w).own =
    sym (to_is f _ c.frame_header-head.ensures) ∙ c.if-head-own.false ∙ c.own.ensures in
    let some : source f ≢ 0 = λ z. c.if-head-eq0.false (from_is f _ c.frame_header-head.ensures ∙ z) in
    let k = c.in-Some.place in
    let at = place-found w _ (omega arith) k c.in-Some.ensures in
    let place_is : k ≡ place_of (table_of w).entries (source f) =
    at.0 ∙ ap (place_of (table_of w).entries) (from_is f _ c.frame_header-head.ensures) in
    let known : k < 16 = at.1 in
    let first-same = first-is w k known _ c.first_at-first.ensures in
    let size_same = size_is w k known _ c.size_at-size.ensures in
    let l : (entry_at w k).first + (entry_at w k).size ≤ memory =
    omega (arith, first-same, size_same, c.if-end-first-2.false, c.if-end-first.false) in
    record {
      inside = known;
      place_is = place_is;
      first-is = first-same;
      size_is = size_same;
      lent = omega (arith, l, first-same, size_same);
    }
