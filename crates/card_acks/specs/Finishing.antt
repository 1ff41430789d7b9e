-- Parts of what finishing transactions is defined by, under names that contracts can say.
use Rattle.std.specs.Prelude.{ℕ, ◌+◌, Bool, ◌&&◌, ◌||◌, ltb}
use Rattle.bitmap.specs.Marks.{mark}
use Rattle.card.specs.declared.Sendings.{Sendings}
use Rattle.card.specs.Sendings.{opened, sending_at, all_released}

-- Whether the i-th transaction from the lowest unfinished one on is opened and was finished before.
unfoldable pub finished_before : Sendings → ℕ → Bool
finished_before s i = ltb i (opened s) && mark s.finished i

-- Whether an opened transaction, the i-th from `lowest` on, is finished: it was before, or it is by this step.
unfoldable pub finished_now : Sendings → ℕ → ℕ → ℕ → ℕ → ℕ → Bool
finished_now s finished lowest from base i = mark finished i || all_released (sending_at s (lowest + i)) from base
