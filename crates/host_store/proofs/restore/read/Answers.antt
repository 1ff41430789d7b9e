-- `host_store::restore::read`: no first line, one of another version or that is not fine, and the lines behind it.
-- Assumes nothing.
use mathlib.Core.Path.{refl, sym, ap, ◌∙◌}
use mathlib.Core.Bool.{true, false}
use mathlib.Core.List.{[]}
use Rattle.std.proofs.Common.{Some}
use Rattle.host_stored.specs.Form.{head_widths}
use Rattle.host_store.specs.Steps.{bytes_in, lines_in, bad_lines}
use Rattle.host_store.proofs.restore.OpenLines.{line-none, line-some}
use Rattle.host_store.proofs.restore.Restoring.{
  head-total,
  no_line,
  too_short,
  other-version,
  head-bad,
  by-opens,
}
use Rattle.host_store.proofs.restore.read.Goals as goal

pub returns-then-text-lt-HEAD : goal.returns-then-text-lt-HEAD
returns-then-text-lt-HEAD c = too_short 1 _ c.if-text-lt-HEAD.true

pub returns-in_err-bytes : goal.returns-in_err-bytes
returns-in_err-bytes c =
    let none = c.read_bytes.ensures ∙ ap bytes_in c.in_err-bytes.was in
    rw c.from_residual.ensures (no_line 1 _ (line-none head_widths _ [] _ false head-total none refl))

pub returns-then-bytes-ne-VERSION : goal.returns-then-bytes-ne-VERSION
returns-then-bytes-ne-VERSION c =
    let some = c.read_bytes.ensures ∙ ap bytes_in c.in_ok-bytes.was in
    other-version 1 _ _ (line-some head_widths _ _ _ true head-total some refl) c.if-bytes-ne-VERSION.true

pub returns-then-not-is_head_fine : goal.returns-then-not-is_head_fine
returns-then-not-is_head_fine c =
    let some = c.read_bytes.ensures ∙ ap bytes_in c.in_ok-bytes.was in
    head-bad 1 _ _
    (line-some head_widths _ _ _ true head-total some refl)
    c.if-bytes-ne-VERSION.false _ c.head_in-head.ensures _ c.is_head_fine.ensures
    c.if-not-is_head_fine.true

pub returns-in_err-table : goal.returns-in_err-table
unfolding bad_lines
returns-in_err-table c =
    let some = c.read_bytes.ensures ∙ ap bytes_in c.in_ok-bytes.was in
    rw c.from_residual-in_err-table.ensures
    (by-opens 1 _ _
    (line-some head_widths _ _ _ true head-total some refl)
    c.if-bytes-ne-VERSION.false _ c.head_in-head.ensures _ c.is_head_fine.ensures c.if-not-is_head_fine.false
    bad_lines (sym (ap lines_in c.in_err-table.was) ∙ c.read_opens.ensures))

pub returns : goal.returns
returns c =
    let some = c.read_bytes.ensures ∙ ap bytes_in c.in_ok-bytes.was in
    by-opens 1 _ _
    (line-some head_widths _ _ _ true head-total some refl)
    c.if-bytes-ne-VERSION.false _ c.head_in-head.ensures _ c.is_head_fine.ensures c.if-not-is_head_fine.false
    (lines_in (Some c.in_ok-table.table)) (sym (ap lines_in c.in_ok-table.was) ∙ c.read_opens.ensures)
