-- Laws of slots, and of the images of an append.
use Rattle.std.specs.Prelude.{◌≡◌, ℕ, ◌+◌, List, [], ◌∷◌, ◌++◌, length}
use Rattle.gw_site.specs.declared.turn.Turn.{Turn}
use Rattle.gw_site.specs.declared.turn.Turn.TheVariants.{Synced}
use Rattle.jrn_log.specs.Slots.{AreSlots}
use Rattle.jrn_log.specs.Decode.{decode_slots}
use Rattle.jrn_log.specs.Journal.{IsAtRest, AreKept}
use Rattle.jrn_log.specs.JournalTurns.{body_write, gate_write}
use Rattle.jrn_log.specs.Images.{AppendImages}

-- each file has bodies
abbrev pub EachHasSlots : Type 0
EachHasSlots = (file : List ℕ) → (bodies : List (List ℕ)) × AreSlots file bodies

-- and no file has two lists of them
abbrev pub SlotsAreOne : Type 0
SlotsAreOne = (file : List ℕ) (bodies others : List (List ℕ)) → AreSlots file bodies → AreSlots file others → bodies ≡ others

-- they are those that are decoded
abbrev pub DecodedAreSlots : Type 0
DecodedAreSlots = (file : List ℕ) → AreSlots file (decode_slots file)

-- the log after an append
abbrev pub appended : List Turn → ℕ → List ℕ → List Turn
appended log slot body = log ++ body_write slot body ∷ Synced ∷ gate_write slot ∷ Synced ∷ []

-- an append to a log at rest leaves the old bodies or the new at each turn, whatever bytes a torn write leaves
abbrev pub AppendKeepsImages : Type 0
AppendKeepsImages = (log : List Turn) (bodies : List (List ℕ)) (body : List ℕ) → IsAtRest log (length bodies) → AreKept log bodies → length body ≡ 255 →
    AppendImages log (appended log (length bodies) body) bodies body

-- and is at rest with the new bodies after its last turn
abbrev pub AppendRests : Type 0
AppendRests = (log : List Turn) (bodies : List (List ℕ)) (body : List ℕ) → IsAtRest log (length bodies) → AreKept log bodies → length body ≡ 255 →
    IsAtRest (appended log (length bodies) body) (length bodies + 1) × AreKept (appended log (length bodies) body) (bodies ++ body ∷ [])
