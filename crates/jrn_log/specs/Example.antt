-- Closed examples of the slots of a file, of the outside during an append, and of files that a journal can have left and can't.
use Rattle.std.specs.Prelude.{◌≡◌, ℕ, List, [], ◌∷◌, ◌++◌, length, slice_index, replicate, codes, Some, refl}
use Rattle.gw_site.specs.Image.{junked}
use Rattle.gw_site.specs.Outside.{outside_of}
use Rattle.gw_site.specs.declared.turn.Turn.{Turn}
use Rattle.gw_site.specs.declared.turn.Turn.TheVariants.{Crash, Synced}
use Rattle.jrn_log.specs.Decode.{decode_slots}
use Rattle.jrn_log.specs.Foreign.{FitsSlots, CanBeJournal, EndsClosed, append_turns}
use Rattle.jrn_log.specs.Journal.{IsAtRest}
use Rattle.jrn_log.specs.JournalLogs.{IsJournalLog}
use Rattle.jrn_log.specs.JournalTurns.{body_write, first_gate, gate_write}

-- a body of one byte again and again
abbrev pub body : ℕ → List ℕ
body byte = replicate 255 byte

-- the file of a journal with two bodies
abbrev pub two : List ℕ
two = 165 ∷ (body 1 ++ (165 ∷ (body 2 ++ (0 ∷ []))))

-- the open slots of a file: none in no file and in a lone gate; those up to the first closed gate; a slot that the file
-- ends in is open, and its missing bytes are zeros
example_slots : (decode_slots [] ≡ []) × (decode_slots (165 ∷ []) ≡ []) × (decode_slots (0 ∷ 7 ∷ []) ≡ [])
    × (decode_slots two ≡ body 1 ∷ body 2 ∷ [])
    × (decode_slots (165 ∷ (body 1 ++ (0 ∷ (body 2 ++ (165 ∷ []))))) ≡ body 1 ∷ [])
    × (decode_slots (165 ∷ 7 ∷ []) ≡ (7 ∷ replicate 254 0) ∷ [])
example_slots = (refl, refl, refl, refl, refl, refl)

-- a journal that is opened on no file, and then so many turns of an append of a body of ones
abbrev pub opened : List Turn → List Turn
opened made = Synced ∷ (first_gate 0 ++ made)

-- after the opening the file is a closed gate; after the first write it has the body, and another gate after it; the file
-- of the last sync has none of that until the next sync; after the second write the slot is open
example_append : ((outside_of (opened [])).stable ≡ 0 ∷ [])
    × ((outside_of (opened (body_write 0 (body 1) ∷ []))).file ≡ 0 ∷ (body 1 ++ (0 ∷ [])))
    × ((outside_of (opened (body_write 0 (body 1) ∷ []))).stable ≡ 0 ∷ [])
    × (decode_slots (outside_of (opened (body_write 0 (body 1) ∷ Synced ∷ gate_write 0 ∷ []))).file ≡ body 1 ∷ [])
    × (decode_slots (outside_of (opened (body_write 0 (body 1) ∷ Synced ∷ gate_write 0 ∷ []))).stable ≡ [])
    × (decode_slots (outside_of (opened (body_write 0 (body 1) ∷ Synced ∷ gate_write 0 ∷ Synced ∷ []))).stable ≡ body 1 ∷ [])
example_append = (refl, refl, refl, refl, refl, refl)

-- bytes of junk over all that was written since the last sync: the body's write leaves the gate closed, and the gate's own
-- write opens it only where the junk is an open gate
example_images : (decode_slots (junked 165 (outside_of (opened (body_write 0 (body 1) ∷ [])))) ≡ [])
    × (decode_slots (junked 165 (outside_of (opened (body_write 0 (body 1) ∷ Synced ∷ gate_write 0 ∷ [])))) ≡ body 1 ∷ [])
    × (decode_slots (junked 65 (outside_of (opened (body_write 0 (body 1) ∷ Synced ∷ gate_write 0 ∷ [])))) ≡ [])
    × (decode_slots (outside_of (Crash two ∷ [])).file ≡ body 1 ∷ body 2 ∷ [])
example_images = (refl, refl, refl, refl)

-- ---- files that a journal can have left

-- a journal that is opened on no file, and two appends
abbrev pub two_log : List Turn
two_log = opened (append_turns 0 (body 1) ++ append_turns 1 (body 2))

-- the file of two bodies ends as between calls, and so the log with two appends leaves it, at rest
pub record TwoAreLeft : Type 0 where
  pub file_is : (outside_of two_log).file ≡ two
  pub at_rest : IsAtRest two_log 2
  pub ends : EndsClosed two 2
  pub fits : FitsSlots (length two) 2 (slice_index two 512)
  pub can_be : CanBeJournal two

-- a journal that is opened on no file, an append, a second one up to the write of its gate, a power failure that leaves the
-- file with all writes, and another opening
abbrev pub failure_log : List Turn
failure_log = opened (append_turns 0 (body 1) ++ (body_write 1 (body 2) ∷ Synced ∷ gate_write 1 ∷ Crash two ∷ Synced ∷ []))

-- openings, appends and power failures make this log, and the journal is open after it with both bodies
pub record FailureIsJournalLog : Type 0 where
  pub file_is : (outside_of failure_log).file ≡ two
  pub is_made : IsJournalLog failure_log (Some (body 1 ∷ body 2 ∷ []))

-- the file of two bodies whose first gate is lost
abbrev pub gate_lost : List ℕ
gate_lost = 0 ∷ (body 1 ++ (165 ∷ (body 2 ++ (0 ∷ []))))

-- it is no journal's: it is too long where no slot is open
abbrev pub LostGateIsForeign : Type 0
LostGateIsForeign = ¬ CanBeJournal gate_lost

-- a short text is no journal's: its first byte is no closed gate
abbrev pub TextIsForeign : Type 0
TextIsForeign = ¬ CanBeJournal (codes "listen")
