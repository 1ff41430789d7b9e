-- `capi::billing_end::lw_raw_ledger_total`: the bytes of a subscriber that was read, and 0 of any other.
-- Assumes nothing.
use mathlib.Core.Path.{◌≡◌, refl, ap, ◌∙◌}
use mathlib.Core.Bool.{Bool, true, false, cond}
use Prim.Native.Nat.{ℕ}
use Rattle.std.specs.Prelude.{Option, unwrap_or}
use Rattle.ledger.specs.Ledger.{Ledger, seen_of, total_of}
use Rattle.ledger_words.specs.LedgerWords.{ledger_in}
use Rattle.ledger_words.specs.LedgerCalls.{SubscriberTotal, told_total, if_read}
use Rattle.capi.proofs.billing_end.lw_raw_ledger_total.Goals as goal

bytes_told : (l : Ledger) (s : ℕ) → unwrap_or (if_read (told_total l s)) 0 ≡ (told_total l s).bytes
unfolding told_total
bytes_told l s = go (seen_of l s)
  where
    told : Bool → SubscriberTotal
    told t = cond t (record { read = true; bytes = total_of l s }) (record { read = false; bytes = 0 })

    go : (t : Bool) → unwrap_or (if_read (told t)) 0 ≡ (told t).bytes
    go true = refl
    go false = refl

pub returns-clause-total_after : goal.returns-clause-total_after
returns-clause-total_after c =
    c.unwrap_or.ensures ∙ ap (λ (o : Option ℕ). unwrap_or o 0) c.total-told.ensures
    ∙ bytes_told (ledger_in c.args.words.now) c.args.subscriber
