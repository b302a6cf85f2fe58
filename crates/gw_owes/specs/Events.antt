-- The items of a round: what its event brings, and then what may be due.
use Rattle.std.specs.Prelude.{ℕ, ◌+◌, Bool, true, false, int_lt, nat_le, nat_lt, ◌&&◌, not, if◌then◌else◌, List, [], ◌∷◌, ◌++◌, length, map, fold}
use Rattle.std.specs.List.{flat_map}
use Rattle.gw_site.specs.Outside.{Connection}
use Rattle.sale_frame.specs.Decode.{DecodedFrames, spelled_length, decode_after, decode_frames}
use Rattle.zvt_apdu.specs.Grammar.{ApduValue}
use Rattle.zvt_apdu.specs.Decode.{DecodedApdu, decode_apdu}
use Rattle.zvt_apdu.specs.DecodeStream.{DecodedApdus, decode_apdus}
use Rattle.gw_owes.specs.declared.terminal.Terminal.{Terminal}
use Rattle.gw_owes.specs.Core.{Wait, Core}
use Rattle.gw_owes.specs.Items.{RoundItem, Crowded, Message, Unframed, Greet, Handle, NextWaiting, Oversized, Late, Overdue, Due}

-- ---- tills

-- a till that opens is one too many where 64 others are there
abbrev pub till_opened_items : ℕ → List Connection → List RoundItem
till_opened_items till tills = if nat_lt (length tills) 64 then [] else Crowded till ∷ []

-- the first four bytes spell a length that no message has
abbrev pub has_bad_length : List ℕ → Bool
has_bad_length rest = nat_le 4 (length rest) && not (nat_lt 0 (spelled_length rest) && nat_le (spelled_length rest) 65536)

-- the payloads, and then the bad rest where there is one
abbrev pub decoded_items : ℕ → DecodedFrames → List RoundItem
decoded_items till decoded = map (Message till) decoded.payloads ++ (if has_bad_length decoded.rest then Unframed till ∷ [] else [])

-- what a chunk of a till's bytes newly completes, after what was heard before
abbrev pub till_bytes_items : ℕ → List ℕ → List ℕ → List RoundItem
till_bytes_items till heard chunk = decoded_items till (decode_after (decode_frames heard).rest chunk)

-- ---- terminals

-- the bytes begin an APDU above the limit
abbrev pub is_oversized : DecodedApdu → Bool
is_oversized (DecodedApdu.Whole apdu rest) = false
is_oversized DecodedApdu.Incomplete = false
is_oversized (DecodedApdu.TooLong count) = true

-- the three items of an APDU: it is acknowledged, the dialogue takes it, and then the terminal may be free for what waits
abbrev pub apdu_items : ℕ → ApduValue → List RoundItem
apdu_items number apdu = Greet number apdu ∷ Handle number apdu ∷ NextWaiting number ∷ []

-- the APDUs, and then the bad rest where there is one
abbrev pub decoded_apdu_items : ℕ → DecodedApdus → List RoundItem
decoded_apdu_items number decoded =
    flat_map (apdu_items number) decoded.apdus ++ (if is_oversized (decode_apdu decoded.rest) then Oversized number ∷ [] else [])

-- what a chunk of a terminal's bytes newly completes, after what was heard before
abbrev pub pt_bytes_items : ℕ → List ℕ → List ℕ → List RoundItem
pt_bytes_items number heard chunk = decoded_apdu_items number (decode_apdus ((decode_apdus heard).rest ++ chunk))

-- ---- what may be due

-- one item for each terminal, the first of which has this number
abbrev pub for_each_terminal : ℕ → (ℕ → RoundItem) → List Terminal → List RoundItem
for_each_terminal number item [] = []
for_each_terminal number item (terminal ∷ terminals) = item number ∷ for_each_terminal (number + 1) item terminals

-- a request among those that wait: after all whose deadline isn't later
abbrev pub among_waits : List Wait → Wait → List Wait
among_waits [] wait = wait ∷ []
among_waits (other ∷ others) wait = if int_lt wait.deadline other.deadline then wait ∷ other ∷ others else other ∷ among_waits others wait

-- the waiting requests by their deadline, and then by their acceptance
abbrev pub waits_by_deadline : List Wait → List Wait
waits_by_deadline waits = fold among_waits [] waits

-- What may be due after what an event brings: first the terminals' silences, then the waiting requests, then the terminals' links. Each looks where it begins whether it is due.
abbrev pub items_due : Core → List RoundItem
items_due core =
    for_each_terminal 0 Late core.terminals ++ (map (λ (wait : Wait). Overdue wait.key) (waits_by_deadline core.waits) ++ for_each_terminal 0 Due core.terminals)
