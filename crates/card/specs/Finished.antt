-- Which transactions are finished (a term of the rules), said of the card as it stands: all messages of the transaction
-- are added and lie in released frames. proofs/Finished.antt shows of every card that a run reaches that reading
-- acknowledgements finishes these (`by_state`), and that these and no others have a mark (`marks-are`).
use Rattle.std.specs.Prelude.{ℕ, ◌+◌, Bool, ◌&&◌, ◌||◌, ltb}
use Rattle.seq.specs.Ring.{frame_space, distance}
use Rattle.bitmap.specs.Marks.{mark, marks_of}
use Rattle.card.specs.declared.SendWindow.{SendWindow}
use Rattle.card.specs.Window.{unreleased}
use Rattle.card.specs.declared.Sending.{Sending}
use Rattle.card.specs.declared.Sendings.{Sendings}
use Rattle.card.specs.Sendings.{opened, sending_at, all_added, passing}

-- The frame of this number is released: it is none of those sealed and not released, whose numbers begin with `base`,
-- and not the one being built, whose number is `next`.
unfoldable pub is_released : SendWindow → ℕ → Bool
is_released w n = ltb (unreleased w) (distance frame_space w.base.0 n)

-- All messages of the transaction are added and lie in released frames: the latest of them does, and none of the others
-- lies in a later frame.
unfoldable pub lies_released : SendWindow → Sending → Bool
lies_released w e = all_added e && is_released w e.frame.0

-- The i-th transaction from the lowest unfinished one on is finished. The mark stands for one of which this held
-- earlier: a frame stays released, but its number is given again after 65,536 sealings. (History.antt says the same
-- without numbers, and so without marks.)
unfoldable pub is_finished : SendWindow → Sendings → ℕ → Bool
is_finished w s i =
    ltb i (opened s) && (mark s.finished i || lies_released w (sending_at s (s.lowest.0 + i)))

-- All of these are marked, and the window moves past consecutive ones.
unfoldable pub finishing_by : SendWindow → Sendings → Sendings
finishing_by w s = passing s (marks_of 32 (is_finished w s))
