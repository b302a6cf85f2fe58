-- Closed examples: the bytes of a refund, a reservation and a reservation's completion, and APDUs that spell none.
use Rattle.std.specs.Prelude.{◌≡◌, ℕ, List, [], ◌∷◌, None, Some}
use Rattle.zvt_apdu.specs.Grammar.{ApduValue}
use Rattle.zvt_apdu.specs.Decode.{DecodedApdu, decode_apdu}
use Rattle.zvt_more.specs.declared.more.More.{More}
use Rattle.zvt_more.specs.declared.more.More.TheVariants.{Refund, Reserve, Complete}
use Rattle.zvt_more.specs.Canonical.{more_apdu, canonical_more_command}
use Rattle.zvt_more.specs.Decode.{decode_more}

-- a refund of 10.99 EUR, with the password 123456
abbrev pub some_refund : More
some_refund = Refund (0x12 ∷ 0x34 ∷ 0x56 ∷ []) 1099 978

-- a reservation of as much
abbrev pub some_reservation : More
some_reservation = Reserve 1099 978

-- the completion of the reservation with the receipt number 17, by 5 EUR
abbrev pub some_completion : More
some_completion = Complete 17 500 978

-- 10.99 EUR: 04 and the amount, 49 and the currency
abbrev pub eur_1099 : List ℕ
eur_1099 = 0x04 ∷ 0x00 ∷ 0x00 ∷ 0x00 ∷ 0x00 ∷ 0x10 ∷ 0x99 ∷ 0x49 ∷ 0x09 ∷ 0x78 ∷ []

-- and 5 EUR
abbrev pub eur_500 : List ℕ
eur_500 = 0x04 ∷ 0x00 ∷ 0x00 ∷ 0x00 ∷ 0x00 ∷ 0x05 ∷ 0x00 ∷ 0x49 ∷ 0x09 ∷ 0x78 ∷ []

-- the completion with the greatest numbers that its fields hold
abbrev pub greatest_completion : More
greatest_completion = Complete 9999 999999999999 9999

-- the bytes of each: class, instruction, length, data
pub record ExampleMoreCanonical : Type 0 where
  pub refund : canonical_more_command some_refund ≡ 0x06 ∷ 0x31 ∷ 0x0D ∷ 0x12 ∷ 0x34 ∷ 0x56 ∷ eur_1099
  pub reservation : canonical_more_command some_reservation ≡ 0x06 ∷ 0x22 ∷ 0x0A ∷ eur_1099
  pub completion : canonical_more_command some_completion ≡ 0x06 ∷ 0x24 ∷ 0x0D ∷ 0x87 ∷ 0x00 ∷ 0x17 ∷ eur_500
  pub greatest : canonical_more_command greatest_completion
      ≡ 0x06 ∷ 0x24 ∷ 0x0D ∷ 0x87 ∷ 0x99 ∷ 0x99 ∷ 0x04 ∷ 0x99 ∷ 0x99 ∷ 0x99 ∷ 0x99 ∷ 0x99 ∷ 0x99 ∷ 0x49 ∷ 0x99 ∷ 0x99 ∷ []

-- an APDU with the class 06
abbrev pub class_06 : ℕ → List ℕ → ApduValue
class_06 instr apdu_data = record { class = 0x06; instr = instr; body = apdu_data }

-- what a terminal reads: the APDU that bytes begin with, and the command that an APDU spells
pub record ExampleMoreRead : Type 0 where
  pub apdu : decode_apdu (0x06 ∷ 0x22 ∷ 0x0A ∷ 0x04 ∷ 0x00 ∷ 0x00 ∷ 0x00 ∷ 0x00 ∷ 0x10 ∷ 0x99 ∷ 0x49 ∷ 0x09 ∷ 0x78 ∷ 0x06 ∷ [])
      ≡ DecodedApdu.Whole (class_06 0x22 eur_1099) (0x06 ∷ [])
  pub refund : decode_more (class_06 0x31 (0x12 ∷ 0x34 ∷ 0x56 ∷ eur_1099)) ≡ Some some_refund
  pub reservation : decode_more (class_06 0x22 eur_1099) ≡ Some some_reservation
  pub completion : decode_more (class_06 0x24 (0x87 ∷ 0x00 ∷ 0x17 ∷ eur_500)) ≡ Some some_completion
  pub greatest : decode_more (more_apdu greatest_completion) ≡ Some greatest_completion

-- another class or instruction, data of another command, a part that is left out, truncated, exchanged with another or not in digits, and a byte after the data
pub record ExampleMoreRefused : Type 0 where
  pub other_class : decode_more (record { class = 0x04; instr = 0x22; body = eur_1099 }) ≡ None
  pub other_instruction : decode_more (class_06 0x23 eur_1099) ≡ None
  pub authorisation : decode_more (class_06 0x01 eur_1099) ≡ None
  pub empty : decode_more (class_06 0x22 []) ≡ None
  pub with_password : decode_more (class_06 0x22 (0x12 ∷ 0x34 ∷ 0x56 ∷ eur_1099)) ≡ None
  pub no_password : decode_more (class_06 0x31 eur_1099) ≡ None
  pub no_receipt : decode_more (class_06 0x24 eur_500) ≡ None
  pub no_currency : decode_more (class_06 0x22 (0x04 ∷ 0x00 ∷ 0x00 ∷ 0x00 ∷ 0x00 ∷ 0x10 ∷ 0x99 ∷ [])) ≡ None
  pub short_amount : decode_more (class_06 0x22 (0x04 ∷ 0x00 ∷ 0x00 ∷ 0x00 ∷ 0x10 ∷ 0x99 ∷ 0x49 ∷ 0x09 ∷ 0x78 ∷ [])) ≡ None
  pub short_receipt : decode_more (class_06 0x24 (0x87 ∷ 0x17 ∷ eur_500)) ≡ None
  pub short_currency : decode_more (class_06 0x22 (0x04 ∷ 0x00 ∷ 0x00 ∷ 0x00 ∷ 0x00 ∷ 0x10 ∷ 0x99 ∷ 0x49 ∷ 0x78 ∷ [])) ≡ None
  pub exchanged : decode_more (class_06 0x22 (0x49 ∷ 0x09 ∷ 0x78 ∷ 0x04 ∷ 0x00 ∷ 0x00 ∷ 0x00 ∷ 0x00 ∷ 0x10 ∷ 0x99 ∷ [])) ≡ None
  pub amount_not_digits : decode_more (class_06 0x22 (0x04 ∷ 0x00 ∷ 0x00 ∷ 0x00 ∷ 0x00 ∷ 0x1A ∷ 0x99 ∷ 0x49 ∷ 0x09 ∷ 0x78 ∷ [])) ≡ None
  pub receipt_not_digits : decode_more (class_06 0x24 (0x87 ∷ 0x00 ∷ 0xA7 ∷ eur_500)) ≡ None
  pub password_not_digits : decode_more (class_06 0x31 (0x12 ∷ 0x34 ∷ 0x5F ∷ eur_1099)) ≡ None
  pub one_byte_more : decode_more (class_06 0x22 (0x04 ∷ 0x00 ∷ 0x00 ∷ 0x00 ∷ 0x00 ∷ 0x10 ∷ 0x99 ∷ 0x49 ∷ 0x09 ∷ 0x78 ∷ 0x00 ∷ [])) ≡ None
