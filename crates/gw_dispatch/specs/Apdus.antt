-- Inner: what is left of a terminal's bytes as its APDUs are handled.
use Rattle.std.specs.Prelude.{◌≡◌, ℕ, ◌<◌, Bool, true, false, List, [], length, slice_get}
use Rattle.zvt_apdu.specs.Decode.{DecodedApdu, decode_apdu}
use Rattle.zvt_apdu.specs.DecodeStream.{decode_apdus}
use Rattle.gw_owes.specs.Core.{Core}
use Rattle.gw_owes.specs.Events.{decoded_apdu_items}
use Rattle.gw_owes.specs.Items.{RoundItem}
use Rattle.gw_dispatch.specs.MidRound.{is_linked_in}

-- the items of the bytes that a terminal's reader holds
abbrev pub items_held : ℕ → List ℕ → List RoundItem
items_held pt bytes = decoded_apdu_items pt (decode_apdus bytes)

-- those that come after an APDU was handled, where more may be handled
abbrev pub items_left : Bool → ℕ → List ℕ → List RoundItem
items_left true pt bytes = items_held pt bytes
items_left false pt bytes = []

-- the bytes are fewer, and end in the same rest
pub record IsLess (old new : List ℕ) : Type 0 where
  pub less : length new < length old
  pub rest : (decode_apdus new).rest ≡ (decode_apdus old).rest

-- less than an APDU is held, and where the terminal is linked it is the rest of what was held
pub record IsRest (core : Core) (pt : ℕ) (old new : List ℕ) : Type 0 where
  pub waits : decode_apdu new ≡ DecodedApdu.Incomplete
  pub rest : is_linked_in (slice_get core.terminals pt) ≡ true → new ≡ (decode_apdus old).rest

-- what the reader holds after an APDU was handled, where more may be handled, and where not
abbrev pub LeavesApdus : Bool → Core → ℕ → List ℕ → List ℕ → Type 0
LeavesApdus true core pt old new = IsLess old new
LeavesApdus false core pt old new = IsRest core pt old new
