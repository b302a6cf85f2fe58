-- Closed examples of the kinds that commands ask for, by the two bytes that they begin with.
use Rattle.std.specs.Prelude.{◌≡◌, [], ◌∷◌, Some, None}
use Rattle.gw_books.specs.Kinds.{BookedPayment, BookedReversal, kind_of_command}

-- a payment and a reversal have their kinds; the enquiry has none, and neither have a reservation, its completion and a refund, which the gateway doesn't send, nor bytes of another class, nor those that end before the instruction
pub record KindsOfCommands : Type 0 where
  pub payment : kind_of_command (0x06 ∷ 0x01 ∷ []) ≡ Some BookedPayment
  pub reversal : kind_of_command (0x06 ∷ 0x30 ∷ []) ≡ Some BookedReversal
  pub enquiry : kind_of_command (0x06 ∷ 0x20 ∷ []) ≡ None
  pub reservation : kind_of_command (0x06 ∷ 0x22 ∷ []) ≡ None
  pub completion : kind_of_command (0x06 ∷ 0x24 ∷ []) ≡ None
  pub refund : kind_of_command (0x06 ∷ 0x31 ∷ []) ≡ None
  pub other_class : kind_of_command (0x05 ∷ 0x01 ∷ []) ≡ None
  pub class_alone : kind_of_command (0x06 ∷ []) ≡ None
  pub empty : kind_of_command [] ≡ None
