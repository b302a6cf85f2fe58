-- A kind says what a command asks of a terminal, and what an entry of its book is.
use Rattle.std.specs.Prelude.{ℕ, ◌==◌, Bool, is_some, bytes_eq, if◌then◌else◌, List, [], ◌∷◌, take, Option, Some, None}
use Rattle.jrn_record.specs.declared.records.Deal.{Deal}
use Rattle.jrn_record.specs.declared.records.Deal.TheVariants.{Payment, Reversal}

-- the kinds of what may be booked
pub data BookedKind : Type 0 where
  BookedPayment : BookedKind
  BookedReversal : BookedKind
  BookedRefund : BookedKind
  BookedReservation : BookedKind
  BookedCompletion : BookedKind

-- each has a number of its own
abbrev pub kind_number : BookedKind → ℕ
kind_number BookedPayment = 0
kind_number BookedReversal = 1
kind_number BookedRefund = 2
kind_number BookedReservation = 3
kind_number BookedCompletion = 4

-- both are the same kind
abbrev pub is_kind : BookedKind → BookedKind → Bool
is_kind one other = kind_number one == kind_number other

-- the kind of what an Intent asks for
abbrev pub booked_kind_of : Deal → BookedKind
booked_kind_of Payment = BookedPayment
booked_kind_of Reversal = BookedReversal

-- the bytes begin with class `06` and this instruction
abbrev pub is_of_instruction : ℕ → List ℕ → Bool
is_of_instruction instruction bytes = bytes_eq (take 2 bytes) (0x06 ∷ instruction ∷ [])

-- what the bytes ask for, by the two that they begin with
abbrev pub kind_of_command : List ℕ → Option BookedKind
kind_of_command bytes = if is_of_instruction 0x01 bytes then Some BookedPayment else (if is_of_instruction 0x30 bytes then Some BookedReversal else None)

-- the bytes begin as a command that may charge a card; a reversal counts too, since it may book an entry
abbrev pub may_charge : List ℕ → Bool
may_charge bytes = is_some (kind_of_command bytes)
