-- What a call says of a line: its answer, nothing where no line ended, or why the call is refused.
use Rattle.std.specs.Prelude.{Option, Result}
use Rattle.refusal.specs.declared.Reason.{Reason}
use Rattle.host.specs.declared.Answer.{Answer}

abbrev pub Reply : Type 0
Reply = Result (Option Answer) Reason
