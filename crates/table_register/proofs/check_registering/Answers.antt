-- `table_register::check_registering`: test by test.
-- Assumes nothing.
use Prim.Native.Nat.{◌≤◌, ◌<◌}
use native.Mathlib.Omega.{arith}
use mathlib.Core.Path.{refl, sym, ◌∙◌}
use mathlib.Core.Logic.{◌≢◌}
use Rattle.table.specs.Table.{place_of}
use Rattle.table_words.specs.TableWords.{table_of}
use Rattle.table_register.proofs.Changing.{
  own-none,
  source-none,
  there,
  region-empty,
  region-outside,
  region-taken,
  no_room,
  no-refusal,
  some-below,
  none_above,
}
use Rattle.table_register.proofs.check_registering.Goals as goal

pub returns-then-own-eq0-clause-refusal : goal.returns-then-own-eq0-clause-refusal
returns-then-own-eq0-clause-refusal c =
    let w = c.args.words.now in
    let d = c.args.card in
    let memory = c.args.memory in
    own-none w d.source d.first d.size memory _ c.own.ensures c.if-own-eq0.true

pub returns-then-card-eq0-clause-refusal : goal.returns-then-card-eq0-clause-refusal
returns-then-card-eq0-clause-refusal c =
    let w = c.args.words.now in
    let d = c.args.card in
    let memory = c.args.memory in
    let own-some : (table_of w).own ≢ 0 = λ z. c.if-own-eq0.false (c.own.ensures ∙ z) in
    source-none w d.source d.first d.size memory own-some c.if-card-eq0.true

pub returns-then-is_some-clause-refusal : goal.returns-then-is_some-clause-refusal
returns-then-is_some-clause-refusal c =
    let w = c.args.words.now in
    let d = c.args.card in
    let memory = c.args.memory in
    let own-some : (table_of w).own ≢ 0 = λ z. c.if-own-eq0.false (c.own.ensures ∙ z) in
    there w d.source d.first d.size memory own-some c.if-card-eq0.false _ refl
    (some-below _ _ (sym c.is_some.ensures ∙ c.if-is_some.true) c.place_of.ensures.some)

pub returns-then-card-eq0-2-clause-refusal : goal.returns-then-card-eq0-2-clause-refusal
returns-then-card-eq0-2-clause-refusal c =
    let w = c.args.words.now in
    let d = c.args.card in
    let memory = c.args.memory in
    let own-some : (table_of w).own ≢ 0 = λ z. c.if-own-eq0.false (c.own.ensures ∙ z) in
    let new : 16 ≤ place_of (table_of w).entries d.source =
    none_above _ _ (sym c.is_some.ensures ∙ c.if-is_some.false) c.place_of.ensures.none in
    region-empty w d.source d.first d.size memory own-some c.if-card-eq0.false new c.if-card-eq0-2.true

pub returns-then-before_end-clause-refusal : goal.returns-then-before_end-clause-refusal
returns-then-before_end-clause-refusal c =
    let w = c.args.words.now in
    let d = c.args.card in
    let memory = c.args.memory in
    let own-some : (table_of w).own ≢ 0 = λ z. c.if-own-eq0.false (c.own.ensures ∙ z) in
    let new : 16 ≤ place_of (table_of w).entries d.source =
    none_above _ _ (sym c.is_some.ensures ∙ c.if-is_some.false) c.place_of.ensures.none in
    region-outside w d.source d.first d.size memory own-some c.if-card-eq0.false new c.if-card-eq0-2.false _ c.before_end.ensures c.if-before_end.true

pub returns-then-overlaps_any-clause-refusal : goal.returns-then-overlaps_any-clause-refusal
returns-then-overlaps_any-clause-refusal c =
    let w = c.args.words.now in
    let d = c.args.card in
    let memory = c.args.memory in
    let own-some : (table_of w).own ≢ 0 = λ z. c.if-own-eq0.false (c.own.ensures ∙ z) in
    let new : 16 ≤ place_of (table_of w).entries d.source =
    none_above _ _ (sym c.is_some.ensures ∙ c.if-is_some.false) c.place_of.ensures.none in
    region-taken w d.source d.first d.size memory own-some c.if-card-eq0.false new c.if-card-eq0-2.false
    (sym c.before_end.ensures ∙ c.if-before_end.false) _ c.overlaps_any.ensures c.if-overlaps_any.true

pub returns-in_default-clause-refusal : goal.returns-in_default-clause-refusal
returns-in_default-clause-refusal c =
    let w = c.args.words.now in
    let d = c.args.card in
    let memory = c.args.memory in
    let own-some : (table_of w).own ≢ 0 = λ z. c.if-own-eq0.false (c.own.ensures ∙ z) in
    let new : 16 ≤ place_of (table_of w).entries d.source =
    none_above _ _ (sym c.is_some.ensures ∙ c.if-is_some.false) c.place_of.ensures.none in
    no_room w d.source d.first d.size memory own-some c.if-card-eq0.false new c.if-card-eq0-2.false
    (sym c.before_end.ensures ∙ c.if-before_end.false) (sym c.overlaps_any.ensures ∙ c.if-overlaps_any.false) _ refl
    c.in_default.ensures.none

pub returns-clause-refusal : goal.returns-clause-refusal
returns-clause-refusal c =
    let w = c.args.words.now in
    let d = c.args.card in
    let memory = c.args.memory in
    let own-some : (table_of w).own ≢ 0 = λ z. c.if-own-eq0.false (c.own.ensures ∙ z) in
    let new : 16 ≤ place_of (table_of w).entries d.source =
    none_above _ _ (sym c.is_some.ensures ∙ c.if-is_some.false) c.place_of.ensures.none in
    no-refusal w d.source d.first d.size memory own-some c.if-card-eq0.false new c.if-card-eq0-2.false
    (sym c.before_end.ensures ∙ c.if-before_end.false) (sym c.overlaps_any.ensures ∙ c.if-overlaps_any.false) _
    c.in-Some.ensures.some.0 c.in-Some.ensures.some.1
