-- A refund, a reservation and a reservation's completion, and the one APDU that spells each (ZVT PA00P015; this profile's choice of their data).
use Rattle.std.specs.Prelude.{◌≡◌, ℕ, ◌^◌, ◌<◌, List, ◌∷◌, ◌++◌, length}
use Rattle.gw_base.specs.Bcd.{IsBcd}
use Rattle.zvt_apdu.specs.Grammar.{ApduValue}
use Rattle.zvt_msg.specs.MessageGrammar.{HasClassAndInstruction}
use Rattle.zvt_msg.specs.CommandGrammar.{IsPassword, SpellsBcdNumber}
use Rattle.zvt_more.specs.declared.more.More.{More}
use Rattle.zvt_more.specs.declared.more.More.TheVariants.{Refund, Reserve, Complete}

-- the bytes are an amount and a currency: 04 and the digits of the one, 49 and those of the other
abbrev pub SpellsAmountAndCurrency : List ℕ → ℕ → ℕ → Type 0
SpellsAmountAndCurrency bytes amount currency = (digits : List ℕ) × (number : List ℕ)
    × SpellsBcdNumber 6 digits amount × SpellsBcdNumber 2 number currency × (bytes ≡ 0x04 ∷ (digits ++ 0x49 ∷ number))

-- an APDU spells a command: its class and instruction, and its data
abbrev pub SpellsMore : ApduValue → More → Type 0
SpellsMore apdu (Refund password amount currency) = HasClassAndInstruction apdu 0x06 0x31 × (fields : List ℕ)
    × IsPassword password × SpellsAmountAndCurrency fields amount currency × (apdu.body ≡ password ++ fields)
SpellsMore apdu (Reserve amount currency) = HasClassAndInstruction apdu 0x06 0x22 × SpellsAmountAndCurrency apdu.body amount currency
SpellsMore apdu (Complete receipt amount currency) = HasClassAndInstruction apdu 0x06 0x24 × (number : List ℕ) × (fields : List ℕ)
    × SpellsBcdNumber 2 number receipt × SpellsAmountAndCurrency fields amount currency × (apdu.body ≡ 0x87 ∷ (number ++ fields))

-- ---- what can be spelt

-- each number has at most its field's digits, and a password's bytes are digits
abbrev pub HasMoreDigits : More → Type 0
HasMoreDigits (Refund password amount currency) = IsBcd password × (amount < 100 ^ 6) × (currency < 100 ^ 2)
HasMoreDigits (Reserve amount currency) = (amount < 100 ^ 6) × (currency < 100 ^ 2)
HasMoreDigits (Complete receipt amount currency) = (receipt < 100 ^ 2) × (amount < 100 ^ 6) × (currency < 100 ^ 2)

-- what the types of the parts say: a password has three bytes
abbrev pub HasMoreSizes : More → Type 0
HasMoreSizes (Refund password amount currency) = length password ≡ 3
HasMoreSizes (Reserve amount currency) = Unit {0}
HasMoreSizes (Complete receipt amount currency) = Unit {0}
