-- Logs that openings, appends and power failures make, one after the other, and what they leave.
use Rattle.std.specs.Prelude.{◌≡◌, ℕ, ◌*◌, ◌<◌, List, [], ◌∷◌, ◌++◌, length, Option, None, Some}
use Rattle.gw_site.specs.Outside.{outside_of}
use Rattle.gw_site.specs.Image.{Image}
use Rattle.gw_site.specs.declared.turn.Turn.{Turn}
use Rattle.gw_site.specs.declared.turn.Turn.TheVariants.{Synced, Crash}
use Rattle.jrn_log.specs.Slots.{AreSlots}
use Rattle.jrn_log.specs.Journal.{IsAtRest, AreKept}
use Rattle.jrn_log.specs.JournalTurns.{first_gate, FailedAppendTurns, FailedTurns}
use Rattle.jrn_log.specs.Foreign.{LeavesJournals, EndsClosed, LeavesDisk, append_turns}

-- the gate after so many slots is in the file, where this has more than one byte: no open slot is truncated
abbrev pub HasGateAfter : List ℕ → ℕ → Type 0
HasGateAfter file count = 1 < length file → 256 * count < length file

-- a log of openings, appends, power failures and turns that leave the disk as it is, in any order in which a journal makes
-- them; the bodies are those of the journal that is open after it, and None says that none is
pub data IsJournalLog : List Turn → Option (List (List ℕ)) → Type 0 where
  -- before the first turn
  NoTurns : IsJournalLog [] None
  -- an opening, after any log, up to one of its turns; or the whole of one that finds a fault in the file
  Opening : (log : List Turn) (state : Option (List (List ℕ))) (made rest : List Turn) → IsJournalLog log state
      → first_gate (length (outside_of log).file) ≡ made ++ rest → IsJournalLog (log ++ Synced ∷ made) None
  -- the whole of an opening, on a file without a truncated slot: the file's bodies are the journal's
  Opened : (log : List Turn) (state : Option (List (List ℕ))) (bodies : List (List ℕ)) → IsJournalLog log state
      → AreSlots (outside_of log).file bodies → HasGateAfter (outside_of log).file (length bodies)
      → IsJournalLog (log ++ Synced ∷ first_gate (length (outside_of log).file)) (Some bodies)
  -- an opening in which the disk failed, up to one of its turns
  FailedOpening : (log : List Turn) (state : Option (List (List ℕ))) (made rest : List Turn) → IsJournalLog log state
      → FailedTurns (outside_of log).file (made ++ rest) → IsJournalLog (log ++ made) None
  -- an append to a journal that is open, up to one of its turns
  Append : (log : List Turn) (bodies : List (List ℕ)) (body : List ℕ) (made rest : List Turn) → IsJournalLog log (Some bodies)
      → length body ≡ 255 → append_turns (length bodies) body ≡ made ++ rest → IsJournalLog (log ++ made) None
  -- the whole of an append: the journal has one body more
  Appended : (log : List Turn) (bodies : List (List ℕ)) (body : List ℕ) → IsJournalLog log (Some bodies)
      → length body ≡ 255 → IsJournalLog (log ++ append_turns (length bodies) body) (Some (bodies ++ body ∷ []))
  -- an append in which the disk failed, up to one of its turns
  FailedAppend : (log : List Turn) (bodies : List (List ℕ)) (body : List ℕ) (made rest : List Turn) → IsJournalLog log (Some bodies)
      → length body ≡ 255 → FailedAppendTurns (length bodies) body (made ++ rest) → IsJournalLog (log ++ made) None
  -- a power failure, which leaves an image of the log
  PowerFailure : (log : List Turn) (state : Option (List (List ℕ))) (file : List ℕ) → IsJournalLog log state
      → Image (outside_of log) file → IsJournalLog (log ++ Crash file ∷ []) None
  -- a turn that leaves the disk as it is: what is open stays open
  OtherTurn : (log : List Turn) (state : Option (List (List ℕ))) (turn : Turn) → IsJournalLog log state → LeavesDisk turn
      → IsJournalLog (log ++ turn ∷ []) state

-- a journal with these bodies is open after the log: this is at rest with them, and its file ends as between calls
pub record IsOpenWith (log : List Turn) (bodies : List (List ℕ)) : Type 0 where
  pub at_rest : IsAtRest log (length bodies)
  pub kept : AreKept log bodies
  pub ends : EndsClosed (outside_of log).file (length bodies)

-- after an opening's last turn, on a file without a truncated slot, the log is at rest with the file's bodies
abbrev pub OpeningRests : Type 0
OpeningRests = (log : List Turn) (bodies : List (List ℕ)) → AreSlots (outside_of log).file bodies → HasGateAfter (outside_of log).file (length bodies)
    → IsAtRest (log ++ Synced ∷ first_gate (length (outside_of log).file)) (length bodies) × AreKept (log ++ Synced ∷ first_gate (length (outside_of log).file)) bodies

-- after any openings, appends and power failures, whatever a power failure leaves a journal can have left
abbrev pub JournalLogsLeaveJournals : Type 0
JournalLogsLeaveJournals = (log : List Turn) (state : Option (List (List ℕ))) → IsJournalLog log state → LeavesJournals log

-- and where a journal is open after them, it is open with its bodies
abbrev pub JournalLogsAreOpen : Type 0
JournalLogsAreOpen = (log : List Turn) (bodies : List (List ℕ)) → IsJournalLog log (Some bodies) → IsOpenWith log bodies
