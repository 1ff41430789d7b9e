-- `capi::host_end::lw_raw_host_store`: the text's length, and 0 where nothing is stored.
-- Assumes nothing.
use mathlib.Core.Path.{◌≡◌, refl, sym, ap, ◌∙◌}
use mathlib.Core.Logic.{◌≢◌}
use native.Mathlib.Omega.{arith}
use Prim.Native.Nat.{ℕ, ◌<◌}
use mathlib.Core.Bool.{Bool, true, false, cond, ◌||◌}
use mathlib.Core.List.{List}
use lib.Dec.{eqb, ltb}
use lib.ListN.{length}
use Rattle.std.specs.Prelude.{Result, Ok, Err, IfOk}
use Rattle.std.specs.Result.{result_unwrap_or}
use Rattle.refusal.specs.declared.Reason.{Reason}
use Rattle.refusal.specs.Reason.{number, refusal_number}
use Rattle.refusal.proofs.Numbers.{number-positive}
use Rattle.host.specs.declared.Pair.{Pair}
use Rattle.host_words.specs.Words.{pair_of}
use Rattle.host_stored.specs.Form.{Stored, text_as, not_stored, stored_as, stored_of}
use Rattle.capi.proofs.host_end.lw_raw_host_store.Goals as goal

none-stored : (p : Pair) (buffer : List ℕ) → (stored_of p buffer).refusal ≢ 0 → (stored_of p buffer).length ≡ 0
unfolding stored_as
none-stored p buffer = go (eqb p.own 0 || eqb p.peer 0) (ltb (length buffer) (length (text_as 1 p)))
  where
    stored : Bool → Bool → Stored
    stored a b =
        cond a (not_stored 13) (cond b (not_stored 19) (record { refusal = 0; length = length (text_as 1 p) }))

    go : (a b : Bool) → (stored a b).refusal ≢ 0 → (stored a b).length ≡ 0
    go true b ne = refl
    go false true ne = refl
    go false false ne = absurd (ne refl)

length_told : (p : Pair) (buffer : List ℕ) (r : Result ℕ Reason)
    → refusal_number r ≡ (stored_of p buffer).refusal → IfOk r (λ n. n ≡ (stored_of p buffer).length)
    → result_unwrap_or r 0 ≡ (stored_of p buffer).length
length_told p buffer (Ok n) e is = is
length_told p buffer (Err reason) e is =
    sym (none-stored p buffer (λ z. omega (arith, number-positive reason, e, z)))

pub returns-clause-length_after : goal.returns-clause-length_after
returns-clause-length_after c =
    let stored = c.store_host-stored.ensures in
    c.unwrap_or.ensures ∙ length_told (pair_of c.args.words.now) c.args.text.now _ stored.refused stored.stored
