-- The refund, the reservation or the reservation's completion that an APDU spells, as a function that computes it.
use Rattle.std.specs.Prelude.{ℕ, List, [], ◌∷◌, take, drop, Option, None, Some, ◌==◌, if◌then◌else◌}
use Rattle.zvt_apdu.specs.Grammar.{ApduValue}
use Rattle.zvt_msg.specs.CommandDecode.{decode_password, decode_bcd_number}
use Rattle.zvt_more.specs.declared.more.More.{More}
use Rattle.zvt_more.specs.declared.more.More.TheVariants.{Refund, Reserve, Complete}

-- ---- the amount and the currency

-- these two, where both were read
abbrev pub amount_and_currency_with : Option ℕ → Option ℕ → Option (ℕ × ℕ)
amount_and_currency_with None currency = None
amount_and_currency_with (Some amount) None = None
amount_and_currency_with (Some amount) (Some currency) = Some (amount, currency)

-- after the amount 49 and a currency
abbrev pub amount_and_currency_at : Option ℕ → List ℕ → Option (ℕ × ℕ)
amount_and_currency_at amount [] = None
amount_and_currency_at amount (b ∷ number) = if b == 0x49 then amount_and_currency_with amount (decode_bcd_number 2 number) else None

-- 04 and an amount, 49 and a currency
abbrev pub decode_amount_and_currency : List ℕ → Option (ℕ × ℕ)
decode_amount_and_currency [] = None
decode_amount_and_currency (b ∷ bytes) = if b == 0x04 then amount_and_currency_at (decode_bcd_number 6 (take 6 bytes)) (drop 6 bytes) else None

-- ---- the commands, by their data

-- a refund of these parts, where all were read
abbrev pub refund_with : Option (List ℕ) → Option (ℕ × ℕ) → Option More
refund_with None found = None
refund_with (Some password) None = None
refund_with (Some password) (Some found) = Some (Refund password found.0 found.1)

-- a refund: a password, an amount and a currency
abbrev pub decode_refund : List ℕ → Option More
decode_refund apdu_data = refund_with (decode_password (take 3 apdu_data)) (decode_amount_and_currency (drop 3 apdu_data))

-- a reservation of these, where they were read
abbrev pub reservation_with : Option (ℕ × ℕ) → Option More
reservation_with None = None
reservation_with (Some found) = Some (Reserve found.0 found.1)

-- a reservation: an amount and a currency
abbrev pub decode_reservation : List ℕ → Option More
decode_reservation apdu_data = reservation_with (decode_amount_and_currency apdu_data)

-- a reservation's completion of these parts, where all were read
abbrev pub reservation_completion_with : Option ℕ → Option (ℕ × ℕ) → Option More
reservation_completion_with None found = None
reservation_completion_with (Some receipt) None = None
reservation_completion_with (Some receipt) (Some found) = Some (Complete receipt found.0 found.1)

-- a reservation's completion: 87 and a receipt number, an amount and a currency
abbrev pub decode_reservation_completion : List ℕ → Option More
decode_reservation_completion [] = None
decode_reservation_completion (b ∷ bytes) = if b == 0x87 then reservation_completion_with (decode_bcd_number 2 (take 2 bytes)) (decode_amount_and_currency (drop 2 bytes)) else None

-- ---- the command of an APDU

-- the command with this instruction, by its data
abbrev pub decode_more_by : ℕ → List ℕ → Option More
decode_more_by instr apdu_data =
    if instr == 0x31 then decode_refund apdu_data
    else if instr == 0x22 then decode_reservation apdu_data
    else if instr == 0x24 then decode_reservation_completion apdu_data
    else None

-- the command that an APDU spells; none where it spells none
unfoldable pub decode_more : ApduValue → Option More
decode_more apdu = if apdu.class == 0x06 then decode_more_by apdu.instr apdu.body else None
