-- `host_store::store::store`: 13, 19, or the text from the start of the buffer on.
-- Assumes nothing.
use mathlib.Core.Logic.{◌⊎◌, inl, inr}
use mathlib.Core.Path.{◌≡◌, refl, sym, ap, ◌∙◌}
use native.Mathlib.Omega.{arith}
use Rattle.host_words.specs.Words.{pair_of}
use Rattle.host_stored.specs.Form.{Stored}
use Rattle.host_store.proofs.store.Putting.{counted}
use Rattle.host_store.proofs.store.Storing.{id-zero, too_short, fits}
use Rattle.host_store.proofs.store.store.Goals as goal
use Rattle.host_store.proofs.store.store.Goals.{
  then-own-eq0-via-then-own-eq0,
  then-own-eq0-via-else-own-eq0+then-peer-eq0,
}

pub returns-then-own-eq0 : goal.returns-then-own-eq0
returns-then-own-eq0 c =
    let zero : ((pair_of c.args.words.now).own ≡ 0) ⊎ ((pair_of c.args.words.now).peer ≡ 0) =
    elim c.then-own-eq0.branch [
      | then-own-eq0-via-then-own-eq0 w ↦ inl (sym c.own.ensures ∙ w.if-own-eq0.true)
      | then-own-eq0-via-else-own-eq0+then-peer-eq0 w ↦ inr (sym w.peer.ensures ∙ w.if-peer-eq0.true)
    ] in
    let whole = id-zero 1 _ _ (record { refusal = 13; length = 0 }) zero refl in
    record { refused = ap (λ (s : Stored). s.refusal) whole.0; stored = tt; buffer_after = whole.1 }

pub returns-then-buffer-size : goal.returns-then-buffer-size
returns-then-buffer-size c =
    let peer = c.if-peer-eq0.false in
    let whole =
    too_short 1 _ _
    (λ z. c.if-own-eq0.false (c.own.ensures ∙ z))
    (λ z. peer (c.peer.ensures ∙ z))
    _ _ refl (counted _ _ c.count_open.ensures).0 (record { refusal = 19; length = 0 }) c.if-buffer-size.true refl in
    record { refused = ap (λ (s : Stored). s.refusal) whole.0; stored = tt; buffer_after = whole.1 }

pub put_opens-requires : goal.put_opens-requires
put_opens-requires c =
    omega (
      arith,
      c.put_line-end.ensures.value,
      c.if-buffer-size.false,
      (counted _ _ c.count_open.ensures).0,
    )

pub returns : goal.returns
returns c =
    let other = c.if-peer-eq0.false in
    let whole =
    fits 1 _ _
    (λ z. c.if-own-eq0.false (c.own.ensures ∙ z))
    (λ z. other (c.peer.ensures ∙ z))
    _ _ refl (counted _ _ c.count_open.ensures).0 _ _ _ _ c.if-buffer-size.false c.head_bytes.ensures
    c.put_line-end.ensures.value c.put_line-end.ensures.out_after c.put_opens.ensures in
    record {
      refused = ap (λ (s : Stored). s.refusal) whole.0;
      stored = ap (λ (s : Stored). s.length) whole.0;
      buffer_after = whole.1;
    }
