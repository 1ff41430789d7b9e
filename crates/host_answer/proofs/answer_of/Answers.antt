-- `host_answer::answer_of`: by its kind.
-- Assumes nothing.
use borrow.Author.Tests.{eq-eqb, ne_eqb}
use Rattle.host_answer.proofs.answer_of.Goals as goal
use Rattle.host_answer.proofs.answer_of.Goals.{
  then-kind-eq1-via-then-kind-eq1,
  then-kind-eq1-via-else-kind-eq1+then-kind-eq2,
}

pub returns-then-kind-eq1 : goal.returns-then-kind-eq1
returns-then-kind-eq1 c =
    elim c.then-kind-eq1.branch [
      | then-kind-eq1-via-then-kind-eq1 w ↦ rw (eq-eqb _ 1 w.if-kind-eq1.true)
      | then-kind-eq1-via-else-kind-eq1+then-kind-eq2 w ↦
          rw (ne_eqb _ 1 w.if-kind-eq1.false, eq-eqb _ 2 w.if-kind-eq2.true)
    ]

pub returns : goal.returns
returns c = rw (ne_eqb _ 1 c.if-kind-eq1.false, ne_eqb _ 2 c.if-kind-eq2.false)
