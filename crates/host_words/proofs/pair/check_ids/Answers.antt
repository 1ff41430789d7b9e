-- `host_words::pair::check_ids`: either ID 0 is refused.
-- Assumes nothing.
use mathlib.Core.Path.{refl}
use borrow.Author.Tests.{eq-eqb, ne_eqb}
use Rattle.host.specs.Host.{opened_of}
use Rattle.host_words.proofs.pair.check_ids.Goals as goal
use Rattle.host_words.proofs.pair.check_ids.Goals.{
  then-own-eq0-via-then-own-eq0,
  then-own-eq0-via-else-own-eq0+then-peer-eq0,
}

pub returns-then-own-eq0-clause-refused : goal.returns-then-own-eq0-clause-refused
unfolding opened_of
returns-then-own-eq0-clause-refused c =
    let a = c.args in
    elim c.then-own-eq0.branch [
      | then-own-eq0-via-then-own-eq0 w ↦ rw (eq-eqb a.own 0 w.if-own-eq0.true) (refl, refl)
      | then-own-eq0-via-else-own-eq0+then-peer-eq0 w ↦
          rw (ne_eqb a.own 0 w.if-own-eq0.false, eq-eqb a.peer 0 w.if-peer-eq0.true) (refl, refl)
    ]

pub returns-clause-allowed : goal.returns-clause-allowed
unfolding opened_of
returns-clause-allowed c =
    let a = c.args in
    rw (ne_eqb a.own 0 c.if-own-eq0.false, ne_eqb a.peer 0 c.if-peer-eq0.false)
