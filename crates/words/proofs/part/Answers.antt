-- `words::part`: a shift and a remainder. A shift past the word's end leaves nothing.
-- Assumes nothing.
use Rattle.std.proofs.Common.{rules, ◌≡◌, ◌*◌, ◌/◌, ◌^◌}
use Rattle.std.proofs.lemmas.Nat.{one_shl}
use lib.Pow.{pow_pos}
use native.Mathlib.Nat.{mod-lt}
use Rattle.words.specs.Words.{part}
use Rattle.words.proofs.Words.{shifted_to}
use Rattle.words.proofs.part.Goals as goal

pub returns-clause-value : goal.returns-clause-value
unfolding part
returns-clause-value c =
    let a = c.args in
    let e : c.unwrap_or.result ≡ a.x / 2 ^ (a.width * a.j) = shifted_to a.width a.x a.j c.saturating_mul.result _
    (search rules) (λ l. search rules) (λ l. search rules) (λ l. search rules) (λ l. search rules) in
    rw (e, one_shl a.width 64 (search rules))

pub returns-clause-fits : goal.returns-clause-fits
returns-clause-fits c =
    rw (one_shl c.args.width 64 (search rules)) (mod-lt c.unwrap_or.result (pow_pos c.args.width))
