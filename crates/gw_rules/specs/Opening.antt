-- How a run opens the journal, and which records a power failure leaves.
use Rattle.std.specs.Prelude.{ℕ, ◌+◌, ◌*◌, nat_le, nat_lt, Bool, ◌||◌, if◌then◌else◌, List, [], ◌∷◌, length}
use Rattle.gw_base.specs.declared.setup.Setup.{Setup}
use Rattle.jrn_log.specs.Decode.{has_gate}
use Rattle.jrn_record.specs.declared.records.Record.{Record}
use Rattle.gw_ledger.specs.Sums.{open_count_of}
use Rattle.gw_owes.specs.Calls.{OwedCall, WriteFirstGate, Sync}
use Rattle.gw_rules.specs.Scene.{Scene, records_of}

-- the calls by which a run opens the journal, and whether its file is refused then
pub record Opens : Type 0 where
  pub calls : List OwedCall
  pub refused : Bool

-- the calls by which a run opens a journal whose file has so many bytes: a sync, and the first gate where the file has at most one byte
abbrev pub opening_calls : ℕ → List OwedCall
opening_calls size = Sync ∷ (if nat_le size 1 then WriteFirstGate ∷ Sync ∷ [] else [])

-- With so many slots, the file of so many bytes, and these records in it, is refused: it is too long for the slots, or fewer slots are free than keys are open.
abbrev pub is_refused : ℕ → ℕ → List Record → Bool
is_refused slots size records = nat_lt (256 * slots + 1) size || nat_lt slots (length records + open_count_of records)

-- What a run with this setup owes first, by the file and the records in it: it opens the journal.
abbrev pub opening : Setup → List ℕ → List Record → Opens
opening setup file records = record { calls = opening_calls (length file); refused = is_refused setup.slots (length file) records }

-- the records of the file that a power failure has left: with the one whose gate wasn't synced exactly where that gate is open
abbrev pub kept_of : Scene → List ℕ → List Record
kept_of scene file = if has_gate file (length scene.kept) then records_of scene else scene.kept
