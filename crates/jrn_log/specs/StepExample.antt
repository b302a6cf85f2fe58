-- Closed examples of the steps of an opening.
use Rattle.std.specs.Prelude.{ℕ, List, [], ◌∷◌}
use Rattle.gw_site.specs.Steps.{SiteCall, LengthCall, ReadCall, WriteCall, SyncCall, Made, TakenStep}
use Rattle.gw_site.specs.declared.turn.Turn.{Turn}
use Rattle.gw_site.specs.declared.turn.Turn.TheVariants.{Synced, DiskFailed}
use Rattle.jrn_log.specs.JournalTurns.{first_gate_write}
use Rattle.jrn_log.specs.JournalSteps.{AreSteps, HasReached, Done, opening_phase, opened_phase}

-- a call with its turns
abbrev pub call_taken : SiteCall → List Turn → TakenStep
call_taken call turns = record { step = Made call; turns = turns }

-- an opening of no file: a sync, the length, and the first gate with its sync
abbrev pub NoFileIsOpened : Type 0
NoFileIsOpened = HasReached (opened_phase 0) (opening_phase 4 0) (call_taken SyncCall (Synced ∷ []) ∷ call_taken LengthCall [] ∷ call_taken (WriteCall 0 (0 ∷ [])) (first_gate_write ∷ []) ∷ call_taken SyncCall (Synced ∷ []) ∷ [])

-- a file of two bodies is read, here in two parts
abbrev pub FileIsRead : Type 0
FileIsRead = HasReached (opened_phase 513) (opening_phase 4 513) (call_taken SyncCall (Synced ∷ []) ∷ call_taken LengthCall [] ∷ call_taken (ReadCall 0 256) [] ∷ call_taken (ReadCall 256 4096) [] ∷ [])

-- of a file that has more than its four slots the length is asked, and nothing is read
pub record LongFileIsNotRead : Type 0 where
  pub measured : HasReached Done (opening_phase 4 1026) (call_taken SyncCall (Synced ∷ []) ∷ call_taken LengthCall [] ∷ [])
  pub not_read : ¬ AreSteps (opening_phase 4 1026) (call_taken SyncCall (Synced ∷ []) ∷ call_taken LengthCall [] ∷ call_taken (ReadCall 0 4096) [] ∷ [])

-- an opening in which the disk fails as the length is asked ends there
pub record LengthFails : Type 0 where
  pub ends : AreSteps (opening_phase 4 513) (call_taken SyncCall (Synced ∷ []) ∷ call_taken LengthCall (DiskFailed ∷ []) ∷ [])
  pub not_read : ¬ AreSteps (opening_phase 4 513) (call_taken SyncCall (Synced ∷ []) ∷ call_taken LengthCall (DiskFailed ∷ []) ∷ call_taken (ReadCall 0 4096) [] ∷ [])

-- no opening asks the length before the file was synced
abbrev pub SyncComesFirst : Type 0
SyncComesFirst = (slots size : ℕ) (turns : List Turn) (more : List TakenStep) → ¬ AreSteps (opening_phase slots size) (call_taken LengthCall turns ∷ more)
