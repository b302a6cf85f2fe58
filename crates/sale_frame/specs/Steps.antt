-- The calls on a reader, and what each makes of the bytes that wait: those that were fed and aren't returned.
use Rattle.std.specs.Prelude.{◌≡◌, ℕ, ◌<◌, List, ◌++◌, Option, Some, None, Result, Ok, Err, IsOkAnd, IsSomeAnd}
use Rattle.std.specs.Borrow.{Bor}
use Rattle.gw_bytes.specs.Chunks.{Step, Fed, Gave, Incomplete, Refused}
use Rattle.sale_frame.specs.Grammar.{IsPayload, frame, BeginsWithLength, BeginsWithPayload, IsIncompleteFrame}
use Rattle.sale_frame.specs.declared.fault.FrameFault.{FrameFault}
use Rattle.sale_frame.specs.declared.fault.FrameFault.TheVariants.{Zero, TooLong}

-- a step of a reader of frames
abbrev pub FrameStep : Type 0
FrameStep = Step (List ℕ) FrameFault

-- the fault of the bytes that wait: the length that they begin with
abbrev pub IsFrameFault : List ℕ → FrameFault → Type 0
IsFrameFault waiting Zero = BeginsWithLength waiting 0
IsFrameFault waiting (TooLong length) = BeginsWithLength waiting length × (65536 < length)

-- from the bytes that wait, the step may leave these waiting
abbrev pub TakesFrame : List ℕ → FrameStep → List ℕ → Type 0
TakesFrame waiting (Fed chunk) left = left ≡ waiting ++ chunk
TakesFrame waiting (Gave payload) left = IsPayload payload × (waiting ≡ frame payload ++ left)
TakesFrame waiting Incomplete left = IsIncompleteFrame waiting × (left ≡ waiting)
TakesFrame waiting (Refused fault) left = IsFrameFault waiting fault × (left ≡ waiting)

-- the step of `next` with this result
abbrev pub frame_step : Result (Option (Bor (List ℕ))) FrameFault → FrameStep
frame_step (Ok (Some payload)) = Gave payload.now
frame_step (Ok None) = Incomplete
frame_step (Err fault) = Refused fault

-- the result is this payload
abbrev pub GivesPayload : Result (Option (Bor (List ℕ))) FrameFault → List ℕ → Type 0
GivesPayload result payload = IsOkAnd result (λ found. IsSomeAnd found (λ m. m.now ≡ payload))

-- a chunk was fed, or the step reports this fault
abbrev pub OnlyRefuses : FrameFault → FrameStep → Type 0
OnlyRefuses fault (Fed chunk) = Unit {0}
OnlyRefuses fault (Gave payload) = ⊥
OnlyRefuses fault Incomplete = ⊥
OnlyRefuses fault (Refused other) = other ≡ fault

-- Inner: what the bytes that wait begin with
abbrev pub ReadsFrame : List ℕ → Result (Option (Bor (List ℕ))) FrameFault → Type 0
ReadsFrame waiting (Ok (Some payload)) = BeginsWithPayload waiting payload.now
ReadsFrame waiting (Ok None) = IsIncompleteFrame waiting
ReadsFrame waiting (Err fault) = IsFrameFault waiting fault
