-- What an answer's words tell: its kind is 1 exactly where the frame took effect.
-- Assumes nothing.
use mathlib.Core.Path.{◌≡◌, refl}
use lib.Dec.{eqb}
use lib.ListN.{get_or}
use Rattle.host.specs.declared.Answer.{Answer}
use Rattle.host.specs.declared.Answer.TheVariants.{Accepted, Again, NoMessages, Refused}
use Rattle.host.specs.Host.{took_effect, answer_words}

pub effect-told : (a : Answer) → eqb (get_or (answer_words a) 0 0) 1 ≡ took_effect a
effect-told (Accepted n sums run) = refl
effect-told (Again n run) = refl
effect-told NoMessages = refl
effect-told (Refused r) = refl
