-- What holds of each file that openings and appends leave: a journal's file is hardly longer than its open slots, and the gate after these is closed until a body was written after it.
use Rattle.std.specs.Prelude.{◌≡◌, ℕ, ◌+◌, ◌*◌, ◌<◌, ◌≤◌, List, [], ◌∷◌, ◌++◌, length, slice_index}
use Rattle.gw_site.specs.Outside.{Outside, outside_after, outside_of}
use Rattle.gw_site.specs.Image.{Image}
use Rattle.gw_site.specs.declared.turn.Turn.{Turn}
use Rattle.gw_site.specs.declared.turn.Turn.TheVariants.{Synced, Crash}
use Rattle.jrn_log.specs.Slots.{AreSlots}
use Rattle.jrn_log.specs.Journal.{IsAtRest, AreKept}
use Rattle.jrn_log.specs.JournalTurns.{body_write, gate_write, first_gate, FailedAppendTurns, FailedTurns}

-- a file of so many bytes has at most one slot and one gate past its open slots; where it has less than that, and more than one byte, the gate after them is 00
pub record FitsSlots (size open_slots gate : ℕ) : Type 0 where
  pub bounded : size ≤ 256 * (open_slots + 1) + 1
  pub closed : 1 < size → size ≤ 256 * (open_slots + 1) → gate ≡ 0

-- the file fits its open slots, as every file does that a journal leaves; 'a journal can have left it' says no more than this
abbrev pub CanBeJournal : List ℕ → Type 0
CanBeJournal file = (bodies : List (List ℕ)) → AreSlots file bodies → FitsSlots (length file) (length bodies) (slice_index file (256 * length bodies))

-- whatever a power failure leaves after this log, a journal can have left
abbrev pub LeavesJournals : List Turn → Type 0
LeavesJournals log = (file : List ℕ) → Image (outside_of log) file → CanBeJournal file

-- a journal's file between its calls: it ends with its open slots, and the gate after them is 00 unless a whole body was written after it
pub record EndsClosed (file : List ℕ) (count : ℕ) : Type 0 where
  pub bounded : length file ≤ 256 * (count + 1) + 1
  pub closed : length file ≤ 256 * (count + 1) → slice_index file (256 * count) ≡ 0

-- whatever a power failure leaves before the first turn, a journal can have left
abbrev pub BeginningLeaves : Type 0
BeginningLeaves = LeavesJournals []

-- an opening on a file that a journal can have left: from its sync on, at each of its turns, whatever a power failure leaves a journal can have left
abbrev pub OpeningLeavesJournals : Type 0
OpeningLeavesJournals = (log made rest : List Turn) → CanBeJournal (outside_of log).file → first_gate (length (outside_of log).file) ≡ made ++ rest → LeavesJournals (log ++ Synced ∷ made)

-- after an opening's last turn the file ends as between calls
abbrev pub OpeningEndsClosed : Type 0
OpeningEndsClosed = (log : List Turn) (bodies : List (List ℕ)) → CanBeJournal (outside_of log).file → AreSlots (outside_of log).file bodies →
    EndsClosed (outside_of (log ++ Synced ∷ first_gate (length (outside_of log).file))).file (length bodies)

-- the turns of an append
abbrev pub append_turns : ℕ → List ℕ → List Turn
append_turns slot body = body_write slot body ∷ Synced ∷ gate_write slot ∷ Synced ∷ []

-- an append to a log at rest whose file ends as between calls: at each of its turns, whatever a power failure leaves a journal can have left
abbrev pub AppendLeavesJournals : Type 0
AppendLeavesJournals = (log : List Turn) (bodies : List (List ℕ)) (body : List ℕ) (made rest : List Turn) → IsAtRest log (length bodies) → AreKept log bodies → EndsClosed (outside_of log).file (length bodies) → length body ≡ 255 →
    append_turns (length bodies) body ≡ made ++ rest → LeavesJournals (log ++ made)

-- after an append's last turn the file ends as between calls, with one more slot
abbrev pub AppendEndsClosed : Type 0
AppendEndsClosed = (log : List Turn) (bodies : List (List ℕ)) (body : List ℕ) → IsAtRest log (length bodies) → AreKept log bodies → EndsClosed (outside_of log).file (length bodies) → length body ≡ 255 →
    EndsClosed (outside_of (log ++ append_turns (length bodies) body)).file (length bodies + 1)

-- an append in which the disk failed, to a log at rest whose file ends as between calls: at each of its turns, whatever a power failure leaves a journal can have left
abbrev pub FailedAppendLeavesJournals : Type 0
FailedAppendLeavesJournals = (log : List Turn) (bodies : List (List ℕ)) (body : List ℕ) (made rest : List Turn) → IsAtRest log (length bodies) → AreKept log bodies → EndsClosed (outside_of log).file (length bodies) → length body ≡ 255 →
    FailedAppendTurns (length bodies) body (made ++ rest) → LeavesJournals (log ++ made)

-- an opening in which the disk failed, after a log that leaves what a journal can have left: at each of its turns, whatever a power failure leaves a journal can have left
abbrev pub FailedOpeningLeavesJournals : Type 0
FailedOpeningLeavesJournals = (log made rest : List Turn) → LeavesJournals log → FailedTurns (outside_of log).file (made ++ rest) → LeavesJournals (log ++ made)

-- after a power failure that leaves one of these files, whatever a further one leaves a journal can have left
abbrev pub CrashLeavesJournals : Type 0
CrashLeavesJournals = (log : List Turn) (file : List ℕ) → LeavesJournals log → Image (outside_of log) file → LeavesJournals (log ++ Crash file ∷ [])

-- the turn leaves the disk as it is
abbrev pub LeavesDisk : Turn → Type 0
LeavesDisk turn = (o : Outside) → ((outside_after o turn).file ≡ o.file) × ((outside_after o turn).stable ≡ o.stable) × ((outside_after o turn).written ≡ o.written)

-- a turn that leaves the disk as it is: whatever a power failure leaves after it a journal can have left, where that was so before it
abbrev pub OthersLeaveJournals : Type 0
OthersLeaveJournals = (log : List Turn) (turn : Turn) → LeavesDisk turn → LeavesJournals log → LeavesJournals (log ++ turn ∷ [])

-- where a journal can have left whatever a power failure leaves, it can have left the file itself
abbrev pub FileIsJournals : Type 0
FileIsJournals = (log : List Turn) → LeavesJournals log → CanBeJournal (outside_of log).file

-- and the file of the last sync or power failure
abbrev pub StableIsJournals : Type 0
StableIsJournals = (log : List Turn) → LeavesJournals log → CanBeJournal (outside_of log).stable
