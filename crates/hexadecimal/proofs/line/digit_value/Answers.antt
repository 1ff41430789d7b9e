-- `hexadecimal::line::digit_value`: the element read is the one at the character, and a character is a byte.
-- Assumes nothing.
use mathlib.Core.Path.{refl}
use native.Mathlib.Omega.{arith}
use Rattle.hexadecimal.proofs.line.digit_value.Goals as goal

pub returns : goal.returns
returns c = (refl, omega arith)
