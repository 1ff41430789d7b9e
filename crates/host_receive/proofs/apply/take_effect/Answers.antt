-- `host_receive::apply::take_effect`: memory and the entry, by what the entry was.
-- Assumes nothing.
use Rattle.std.proofs.Common.{◌≡◌, Bool, ap, ◌∙◌}
use Rattle.wire.specs.declared.MessageHeader.{MessageHeader}
use Rattle.host.specs.declared.Open.{Open}
use Rattle.host.specs.Transactions.{fills}
use Rattle.host.specs.Host.{effect}
use Rattle.host_receive.proofs.apply.take_effect.Goals as goal

-- whether it completes its transaction, by the entry that was read
by-entry : (done : Bool) (o x : Open) (h : MessageHeader) → done ≡ fills o h → o ≡ x → done ≡ fills x h
by-entry done o x h e d = e ∙ ap (λ (y : Open). fills y h) d

pub returns : goal.returns
returns c = (
  λ l. c.put_entry.ensures.holds_entry l ∙ rw (c.left_in.ensures, c.entry-o.ensures),
  c.write_message.ensures
      ∙ ap (effect _ _) (by-entry _ _ _ _ c.completes.ensures c.entry-o.ensures),
)
