-- `hexadecimal::line::digit_values`: the table is what the definition of a digit computes for each character.
-- Assumes nothing.
use mathlib.Core.Path.{refl}
use Rattle.hexadecimal.specs.Line.{within, digit}
use Rattle.hexadecimal.specs.Walking.{values_from, digit_values}
use Rattle.hexadecimal.proofs.line.digit_values.Goals as goal

pub returns : goal.returns
unfolding digit_values values_from digit within
returns c = refl
