-- `host_words::describe::entry_at`: the entry of that number.
-- Assumes nothing.
use mathlib.Core.Path.{sym, ap, ◌∙◌}
use Prim.Native.Nat.{ℕ, ◌%◌}
use native.Mathlib.Omega.{arith}
use lib.ListN.{get_or}
use Rattle.host.specs.Terms.{free}
use Rattle.host_words.specs.Words.{pair_of}
use Rattle.host_words.proofs.Words.{entry_at}
use Rattle.host_words.proofs.describe.entry_at.Goals as goal

pub returns : goal.returns
returns c =
    c.entry.ensures ∙ sym (entry_at c.args.words.now (c.number_at.result.0 % 32) (omega arith))
    ∙ ap (λ (n : ℕ). get_or (pair_of c.args.words.now).table (n % 32) free) c.number_at.ensures
