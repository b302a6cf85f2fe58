-- The tills that the gateway holds, and the connections of a log.
use Rattle.std.specs.Prelude.{◌≡◌, ◌≢◌, ◌⊎◌, ℕ, suc, ◌<◌, ◌==◌, if◌then◌else◌, not, List, [], ◌∷◌, filter, Option, Some, None, option_map, unwrap_or}
use Rattle.gw_site.specs.Outside.{Connection}
use Rattle.sale_frame.specs.Decode.{decode_frames}
use Rattle.sale_frame.specs.Grammar.{IsIncompleteFrame}
use Rattle.gw_dispatch.specs.declared.tills.Till.{Till}

-- Inner: the index of the first till of this number
abbrev pub rank : ℕ → List Till → Option ℕ
rank number [] = None
rank number (till ∷ tills) = if till.number == number then Some 0 else option_map suc (rank number tills)

-- Inner: one of the tills has this number
abbrev pub IsThere : ℕ → List Till → Type 0
IsThere number tills = (index : ℕ) × (rank number tills ≡ Some index)

-- Inner: the tills without those of this number
abbrev pub others : List Till → ℕ → List Till
others tills number = filter (λ (till : Till). not (till.number == number)) tills

-- the till of a connection: what its reader holds is the rest after the payloads that were heard
abbrev pub till_of : Connection → Till
till_of connection = record { number = connection.number; reader = (decode_frames connection.heard).rest }

-- the till once the payloads that its reader holds are taken from it
abbrev pub rested : Till → Till
rested till = record till { reader = (decode_frames till.reader).rest }

-- ---- what their readers hold

-- what the reader of the till of this number holds, where it is there
abbrev pub reader_of : ℕ → List Till → Option (List ℕ)
reader_of number [] = None
reader_of number (till ∷ tills) = if till.number == number then Some till.reader else reader_of number tills

-- the bytes that it holds; none where the till isn't there
abbrev pub bytes_held : ℕ → List Till → List ℕ
bytes_held number tills = unwrap_or (reader_of number tills) []

-- the reader of each till holds less than a frame
abbrev pub AreWaiting : List Till → Type 0
AreWaiting tills = (number : ℕ) → IsIncompleteFrame (bytes_held number tills)

-- Inner: a till that is still there holds what it held
abbrev pub StillHolds : ℕ → List Till → List Till → Type 0
StillHolds number old new = (reader_of number new ≡ reader_of number old) ⊎ (reader_of number new ≡ None)

-- Inner: so does each
abbrev pub AllStillHold : List Till → List Till → Type 0
AllStillHold old new = (number : ℕ) → StillHolds number old new

-- Inner: so does each but this one
abbrev pub OthersStillHold : ℕ → List Till → List Till → Type 0
OthersStillHold but old new = (number : ℕ) → number ≢ but → StillHolds number old new

-- ---- connections

-- each connection has a number below this one
abbrev pub AreBelow : ℕ → List Connection → Type 0
AreBelow next [] = Unit {0}
AreBelow next (connection ∷ connections) = (connection.number < next) × AreBelow next connections
