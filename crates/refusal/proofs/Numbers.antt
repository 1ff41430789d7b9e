-- The number of a reason: above 0, a byte, another one for each reason; and what it tells of a `Result`.
-- Assumes nothing.
use mathlib.Core.Path.{◌≡◌, refl, sym, ◌∙◌, ap}
use mathlib.Core.Bool.{true, cond}
use Prim.Native.Nat.{ℕ, ◌<◌}
use native.Mathlib.Omega.{arith}
use Rattle.std.specs.Prelude.{Result, Ok, Err, ltb, eqb}
use Rattle.std.proofs.lemmas.Bool.{ltb-true}
use Rattle.refusal.specs.declared.Reason.{Reason}
use Rattle.refusal.specs.declared.Reason.TheVariants.{
  FrameTooShort,
  FrameTooLong,
  WrongId,
  ReservedFlag,
  PastFrameEnd,
  FrameAhead,
  TransactionOutsideWindow,
  TransactionClosed,
  TransactionDiffers,
  BareWithData,
  DataOutsideMemory,
  CompletionOutsideMemory,
  IdZero,
  BadLine,
  BadText,
  BufferShort,
  ReplayClosed,
  TransactionWindowFull,
  FrameWindowFull,
  FrameFull,
  NoMessageLeft,
  NothingToSeal,
  NotHeld,
  BadLimitOrSlots,
  DataForBare,
  TableFull,
  RegionOverlaps,
  SourceRegistered,
  RegionOutsideMemory,
  NotWholeReadings,
  UnknownSubscriber,
  Past64Bits,
  OtherLength,
}
use Rattle.refusal.specs.Reason.{number, refusal_number}

-- the reason whose number n is; the last one for any other n
reason_at : ℕ → Reason
reason_at n =
    cond (eqb n 1) FrameTooShort
    (cond (eqb n 2) FrameTooLong
    (cond (eqb n 3) WrongId
    (cond (eqb n 4) ReservedFlag
    (cond (eqb n 5) PastFrameEnd
    (cond (eqb n 6) FrameAhead
    (cond (eqb n 7) TransactionOutsideWindow
    (cond (eqb n 8) TransactionClosed
    (cond (eqb n 9) TransactionDiffers
    (cond (eqb n 10) BareWithData
    (cond (eqb n 11) DataOutsideMemory
    (cond (eqb n 12) CompletionOutsideMemory
    (cond (eqb n 13) IdZero
    (cond (eqb n 14) BadLine
    (cond (eqb n 15) BadText
    (cond (eqb n 19) BufferShort
    (cond (eqb n 17) ReplayClosed
    (cond (eqb n 20) TransactionWindowFull
    (cond (eqb n 21) FrameWindowFull
    (cond (eqb n 22) FrameFull
    (cond (eqb n 23) NoMessageLeft
    (cond (eqb n 24) NothingToSeal
    (cond (eqb n 25) NotHeld
    (cond (eqb n 26) BadLimitOrSlots
    (cond (eqb n 27) DataForBare
    (cond (eqb n 28) TableFull
    (cond (eqb n 29) RegionOverlaps
    (cond (eqb n 30) SourceRegistered
    (cond (eqb n 31) RegionOutsideMemory
    (cond (eqb n 40) NotWholeReadings
    (cond (eqb n 41) UnknownSubscriber
    (cond (eqb n 42) Past64Bits
    OtherLength)))))))))))))))))))))))))))))))

record Told (r : Reason) : Type 0 where
  positive : ltb 0 (number r) ≡ true
  byte : ltb (number r) 256 ≡ true
  back : reason_at (number r) ≡ r

told : (r : Reason) → Told r
unfolding reason_at
told FrameTooShort = record { positive = refl; byte = refl; back = refl }
told FrameTooLong = record { positive = refl; byte = refl; back = refl }
told WrongId = record { positive = refl; byte = refl; back = refl }
told ReservedFlag = record { positive = refl; byte = refl; back = refl }
told PastFrameEnd = record { positive = refl; byte = refl; back = refl }
told FrameAhead = record { positive = refl; byte = refl; back = refl }
told TransactionOutsideWindow = record { positive = refl; byte = refl; back = refl }
told TransactionClosed = record { positive = refl; byte = refl; back = refl }
told TransactionDiffers = record { positive = refl; byte = refl; back = refl }
told BareWithData = record { positive = refl; byte = refl; back = refl }
told DataOutsideMemory = record { positive = refl; byte = refl; back = refl }
told CompletionOutsideMemory = record { positive = refl; byte = refl; back = refl }
told IdZero = record { positive = refl; byte = refl; back = refl }
told BadLine = record { positive = refl; byte = refl; back = refl }
told BadText = record { positive = refl; byte = refl; back = refl }
told BufferShort = record { positive = refl; byte = refl; back = refl }
told ReplayClosed = record { positive = refl; byte = refl; back = refl }
told TransactionWindowFull = record { positive = refl; byte = refl; back = refl }
told FrameWindowFull = record { positive = refl; byte = refl; back = refl }
told FrameFull = record { positive = refl; byte = refl; back = refl }
told NoMessageLeft = record { positive = refl; byte = refl; back = refl }
told NothingToSeal = record { positive = refl; byte = refl; back = refl }
told NotHeld = record { positive = refl; byte = refl; back = refl }
told BadLimitOrSlots = record { positive = refl; byte = refl; back = refl }
told DataForBare = record { positive = refl; byte = refl; back = refl }
told TableFull = record { positive = refl; byte = refl; back = refl }
told RegionOverlaps = record { positive = refl; byte = refl; back = refl }
told SourceRegistered = record { positive = refl; byte = refl; back = refl }
told RegionOutsideMemory = record { positive = refl; byte = refl; back = refl }
told NotWholeReadings = record { positive = refl; byte = refl; back = refl }
told UnknownSubscriber = record { positive = refl; byte = refl; back = refl }
told Past64Bits = record { positive = refl; byte = refl; back = refl }
told OtherLength = record { positive = refl; byte = refl; back = refl }

pub number-positive : (r : Reason) → 0 < number r
number-positive r = ltb-true 0 (number r) (told r).positive

pub number-byte : (r : Reason) → number r < 256
number-byte r = ltb-true (number r) 256 (told r).byte

pub number-injective : (a b : Reason) → number a ≡ number b → a ≡ b
number-injective a b e = sym (told a).back ∙ ap reason_at e ∙ (told b).back

-- ---- what the number tells of a `Result`

pub refusal-byte : {T : Type 0} (r : Result T Reason) → refusal_number r < 256
refusal-byte (Ok x) = omega arith
refusal-byte (Err reason) = number-byte reason

pub ok-at_zero : {T : Type 0} (r : Result T Reason) → refusal_number r ≡ 0 → (x : T) × (r ≡ Ok x)
ok-at_zero (Ok x) e = (x, refl)
ok-at_zero (Err reason) e = absurd (omega (arith, number-positive reason))

pub zero-at_ok : {T : Type 0} {r : Result T Reason} {x : T} → r ≡ Ok x → refusal_number r ≡ 0
zero-at_ok e = rw e refl

pub positive-at_err : {T : Type 0} {r : Result T Reason} {reason : Reason} → r ≡ Err reason → 0 < refusal_number r
positive-at_err {reason} e = rw e (number-positive reason)

pub err-at_positive : {T : Type 0} (r : Result T Reason) → 0 < refusal_number r
    → (reason : Reason) × (r ≡ Err reason) × (number reason ≡ refusal_number r)
err-at_positive (Ok x) h = absurd (omega arith)
err-at_positive (Err reason) h = (reason, refl, refl)
