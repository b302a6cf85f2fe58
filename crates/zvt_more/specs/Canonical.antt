-- The canonical spelling of a refund, a reservation and a reservation's completion: the one that is written.
use Rattle.std.specs.Prelude.{ℕ, List, ◌∷◌, ◌++◌}
use Rattle.gw_base.specs.Bcd.{bcd_of}
use Rattle.zvt_apdu.specs.Grammar.{ApduValue, canonical_apdu}
use Rattle.zvt_more.specs.declared.more.More.{More}
use Rattle.zvt_more.specs.declared.more.More.TheVariants.{Refund, Reserve, Complete}

-- the instruction of a command; the class is 06
abbrev pub more_instruction : More → ℕ
more_instruction (Refund password amount currency) = 0x31
more_instruction (Reserve amount currency) = 0x22
more_instruction (Complete receipt amount currency) = 0x24

-- the field of an amount, and that of a currency
abbrev pub canonical_amount_and_currency : ℕ → ℕ → List ℕ
canonical_amount_and_currency amount currency = 0x04 ∷ (bcd_of 6 amount ++ 0x49 ∷ bcd_of 2 currency)

-- the data of a command
abbrev pub more_data : More → List ℕ
more_data (Refund password amount currency) = password ++ canonical_amount_and_currency amount currency
more_data (Reserve amount currency) = canonical_amount_and_currency amount currency
more_data (Complete receipt amount currency) = 0x87 ∷ (bcd_of 2 receipt ++ canonical_amount_and_currency amount currency)

-- the one APDU of a command
abbrev pub more_apdu : More → ApduValue
more_apdu more = record { class = 0x06; instr = more_instruction more; body = more_data more }

-- and its bytes
abbrev pub canonical_more_command : More → List ℕ
canonical_more_command more = canonical_apdu 0x06 (more_instruction more) (more_data more)
