-- Wrong stores: storings and readings with one fault each. Nothing of this needs to be believed: proofs/Wrong.antt
-- shows that none of them meets demand 3 over restarts.
use Rattle.std.specs.Prelude.{ℕ, ◌*◌, List, length, take, replicate}
use Rattle.host.specs.declared.Pair.{Pair}
use Rattle.host.specs.declared.Opened.{Opened}
use Rattle.host.specs.Terms.{free}
use Rattle.host.specs.Host.{fresh}
use Rattle.host_stored.specs.Form.{text_of, stored_of, buffer_of, refused_reading, read_text}
use Rattle.delivery_restarts.specs.Restarts.{Store}

-- ---- storing

-- It writes what fits into the buffer.
unfoldable pub stores_what_fits : Store
stores_what_fits = record {
  storing = λ p buffer. record { refusal = 0; length = length buffer };
  filling = λ p buffer. take (length buffer) (text_of p);
  restoring = read_text;
}

-- ---- reading

-- The rules' storing, with another reading of texts.
abbrev pub with_restoring : (List ℕ → Opened) → Store
with_restoring restoring = record { storing = stored_of; filling = buffer_of; restoring = restoring }

-- It takes no text: every host comes back as from a refused opening.
unfoldable pub reads_none : List ℕ → Opened
reads_none text = refused_reading

-- The pair that the text holds, changed.
unfoldable pub rereads : (Pair → Pair) → List ℕ → Opened
rereads change text =
    let r = read_text text in
    record { pair = change r.pair; refusal = r.refusal }

-- It comes back fresh, with the IDs of the text.
unfoldable pub comes_fresh : Pair → Pair
comes_fresh p = fresh p.own p.peer

-- It forgets its open transactions.
unfoldable pub forgets_open : Pair → Pair
forgets_open p = record {
  own = p.own;
  peer = p.peer;
  next = p.next;
  marks = p.marks;
  lowest = p.lowest;
  closed = p.closed;
  table = replicate 32 free;
}

-- It forgets which transactions are closed.
unfoldable pub forgets_closed : Pair → Pair
forgets_closed p = record {
  own = p.own;
  peer = p.peer;
  next = p.next;
  marks = p.marks;
  lowest = p.lowest;
  closed = 0;
  table = p.table;
}

-- It takes bit i of the marks for the frame after the one that it stands for.
unfoldable pub shifts_marks : Pair → Pair
shifts_marks p = record {
  own = p.own;
  peer = p.peer;
  next = p.next;
  marks = 2 * p.marks;
  lowest = p.lowest;
  closed = p.closed;
  table = p.table;
}
