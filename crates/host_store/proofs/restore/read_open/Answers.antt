-- `host_store::restore::read_open`: no line, one that is not fine, or one that is.
-- Assumes nothing.
use mathlib.Core.Path.{refl, ap, ◌∙◌}
use mathlib.Core.Bool.{true, false}
use mathlib.Core.List.{[]}
use Rattle.host_stored.specs.Form.{open_widths}
use Rattle.host_store.specs.Steps.{bytes_in}
use Rattle.host_store.proofs.restore.OpenLines.{line-none, line-some, open-total, bad-none, bad-line, good-line}
use Rattle.host_store.proofs.restore.read_open.Goals as goal

pub returns-in_err-bytes : goal.returns-in_err-bytes
returns-in_err-bytes c =
    let none = c.read_bytes.ensures ∙ ap bytes_in c.in_err-bytes.was in
    rw c.from_residual.ensures
    (bad-none _ _ _ _ (line-none open_widths _ [] _ false open-total none refl))

pub returns-then-is_open_fine : goal.returns-then-is_open_fine
returns-then-is_open_fine c =
    let some = c.read_bytes.ensures ∙ ap bytes_in c.in_ok-bytes.was in
    good-line _ _ _ _ _ _ _ _
    (line-some open_widths _ _ _ true open-total some refl)
    c.u32_at.ensures c.open_in-entry.ensures
    c.is_open_fine.ensures c.if-is_open_fine.true

pub returns-else-is_open_fine : goal.returns-else-is_open_fine
returns-else-is_open_fine c =
    let some = c.read_bytes.ensures ∙ ap bytes_in c.in_ok-bytes.was in
    bad-line _ _ _ _ _ _ _ _
    (line-some open_widths _ _ _ true open-total some refl)
    c.u32_at.ensures c.open_in-entry.ensures
    c.is_open_fine.ensures c.if-is_open_fine.false
