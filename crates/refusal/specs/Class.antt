-- The class of a refusal number.
use Rattle.std.specs.Prelude.{ℕ, Bool, cond, ◌&&◌, leb}
use Rattle.refusal.specs.declared.Class.{Class}
use Rattle.refusal.specs.declared.Class.TheVariants.{Wire, Message, Caller, Card, Other}

-- Whether n is one of the numbers from a to b.
abbrev pub between : ℕ → ℕ → ℕ → Bool
between a b n = leb a n && leb n b

-- The numbers of each class: of the wire 1 to 6, of a message 7 to 12, of the caller 13 and 14, of the card 20 to 27.
-- All others have none.
unfoldable pub class_of : ℕ → Class
class_of n =
    cond (between 1 6 n) Wire
    (cond (between 7 12 n) Message
    (cond (between 13 14 n) Caller
    (cond (between 20 27 n) Card Other)))

-- The number that stands for a class where only numbers pass.
abbrev pub class_number : Class → ℕ
class_number Other = 0
class_number Wire = 1
class_number Message = 2
class_number Caller = 3
class_number Card = 4
