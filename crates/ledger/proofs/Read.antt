-- A ledger tells a subscriber as read where an accepted block has a reading of it. Assumes nothing.
use Prim.Native.Nat.{ℕ, ◌<◌}
use native.Mathlib.Omega.{arith}
use mathlib.Core.Path.{◌≡◌, refl, sym, ap, ◌∙◌}
use mathlib.Core.Bool.{Bool, true, false, cond}
use mathlib.Core.List.{List, [], ◌∷◌}
use borrow.Author.Tests.{eqb-true, eqb-false}
use lib.Dec.{eqb}
use lib.ListN.{get_or, set}
use lib.Seq.{get_or-set_same, get_or-set_other}
use Rattle.ledger.specs.Ledger.{Ledger, Reading, Outcome, subscribers, seen_of, empty, entered, entered_all}
use Rattle.ledger.specs.History.{after, accepted, is_read}
use Rattle.ledger.proofs.Steps.{Sized, sized-entered, clear, goes_on, first-clear, none_left}
use Rattle.ledger.proofs.Accounts.{history, empty-sized, empty-seen}

one_seen : (l : Ledger) (r : Reading) (s : ℕ) → Sized l → r.subscriber < subscribers
    → seen_of (entered l r) s ≡ cond (eqb r.subscriber s) true (seen_of l s)
unfolding entered
one_seen l r s z h = go (eqb r.subscriber s) refl
  where
    go : (x : Bool) → eqb r.subscriber s ≡ x
        → get_or (set l.seen r.subscriber true) s false ≡ cond x true (seen_of l s)
    go true e =
        rw (← eqb-true r.subscriber s e)
        (get_or-set_same l.seen r.subscriber true false (omega (arith, z.seen)))
    go false e =
        get_or-set_other l.seen r.subscriber s true false (λ q. eqb-false r.subscriber s e (sym q))

either : (x y z : Bool) → cond (cond x true y) true z ≡ cond y true (cond x true z)
either true true z = refl
either true false z = refl
either false y z = refl

or-false : (x : Bool) → x ≡ cond x true false
or-false true = refl
or-false false = refl

seen-after : (l : Ledger) (rs : List Reading) (s : ℕ) → Sized l → (entered_all l rs).refusal ≡ 0
    → seen_of (entered_all l rs).ledger s ≡ cond (seen_of l s) true (is_read s rs)
unfolding is_read
seen-after l [] s z e = rw (none_left l) (or-false (seen_of l s))
seen-after l (r ∷ rs) s z e =
    let f = first-clear l r rs e in
    let g = goes_on l r rs f in
    rw g (seen-after (entered l r) rs s (sized-entered l r z) (rw g at e))
    ∙ ap (λ (x : Bool). cond x true (is_read s rs)) (one_seen l r s z (clear l r f).known)
    ∙ either (eqb r.subscriber s) (seen_of l s) (is_read s rs)

pub seen-is-read : (bs : List (List ℕ)) (s : ℕ) → seen_of (after empty bs) s ≡ is_read s (accepted empty bs)
seen-is-read bs s =
    let h = history empty bs in
    let t = seen-after empty (accepted empty bs) s empty-sized (ap (λ (o : Outcome). o.refusal) h) in
    let l : (entered_all empty (accepted empty bs)).ledger ≡ after empty bs = ap (λ (o : Outcome). o.ledger) h in
    rw (l, empty-seen s) at t
