-- The numbers of the reasons for which something is refused, and the number that a `Result` comes to where only numbers
-- pass: 0 where nothing is refused.
use Rattle.std.specs.Prelude.{ℕ, Result, Ok, Err}
use Rattle.refusal.specs.declared.Reason.{Reason}
use Rattle.refusal.specs.declared.Reason.TheVariants.{
  FrameTooShort,
  FrameTooLong,
  WrongId,
  ReservedFlag,
  PastFrameEnd,
  FrameAhead,
  TransactionOutsideWindow,
  TransactionClosed,
  TransactionDiffers,
  BareWithData,
  DataOutsideMemory,
  CompletionOutsideMemory,
  IdZero,
  BadLine,
  BadText,
  BufferShort,
  ReplayClosed,
  TransactionWindowFull,
  FrameWindowFull,
  FrameFull,
  NoMessageLeft,
  NothingToSeal,
  NotHeld,
  BadLimitOrSlots,
  DataForBare,
  TableFull,
  RegionOverlaps,
  SourceRegistered,
  RegionOutsideMemory,
  NotWholeReadings,
  UnknownSubscriber,
  Past64Bits,
  OtherLength,
}

abbrev pub number : Reason → ℕ
number FrameTooShort = 1
number FrameTooLong = 2
number WrongId = 3
number ReservedFlag = 4
number PastFrameEnd = 5
number FrameAhead = 6
number TransactionOutsideWindow = 7
number TransactionClosed = 8
number TransactionDiffers = 9
number BareWithData = 10
number DataOutsideMemory = 11
number CompletionOutsideMemory = 12
number IdZero = 13
number BadLine = 14
number BadText = 15
number BufferShort = 19
number ReplayClosed = 17
number TransactionWindowFull = 20
number FrameWindowFull = 21
number FrameFull = 22
number NoMessageLeft = 23
number NothingToSeal = 24
number NotHeld = 25
number BadLimitOrSlots = 26
number DataForBare = 27
number TableFull = 28
number RegionOverlaps = 29
number SourceRegistered = 30
number RegionOutsideMemory = 31
number NotWholeReadings = 40
number UnknownSubscriber = 41
number Past64Bits = 42
number OtherLength = 255

-- 0 where nothing is refused.
abbrev pub refusal_number : {T : Type 0} → Result T Reason → ℕ
refusal_number (Ok _) = 0
refusal_number (Err reason) = number reason
