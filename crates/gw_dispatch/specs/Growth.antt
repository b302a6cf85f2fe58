-- What the calls and the polls of a run add to the log, and where memory may be refused in it.
use Rattle.std.specs.Prelude.{◌≡◌, ◌⊎◌, ℕ, ℤ, ◌+◌, ◌≤◌, Bool, true, false, List, [], ◌∷◌, ◌++◌, Some}
use Rattle.gw_site.specs.Failures.{Rose}
use Rattle.gw_site.specs.Observed.{Observed, IfObserved}
use Rattle.gw_site.specs.Sorts.{TurnSort, OpeningOutcome, Poll, Event, CallOutcome, PowerFailure, sort_of}
use Rattle.gw_site.specs.declared.turn.Turn.{Turn}
use Rattle.gw_site.specs.declared.turn.Turn.TheVariants.{Start, OpenFailed, Polled, Opened, HeardTill, Closed, HeardPt, Lost, Stopped, Linked, LinkFailed, SentTill, SentPt, CutTill, CutPt, Wrote, Synced, DiskFailed, Crash}
use Rattle.jrn_log.specs.Journal.{JournalValue, StandsFor}

-- ---- calls

-- each of these turns is the outcome of a call that is neither the opening of the site nor a poll
abbrev pub AreOutcomes : List Turn → Type 0
AreOutcomes [] = Unit {0}
AreOutcomes (turn ∷ turns) = (sort_of turn ≡ CallOutcome) × AreOutcomes turns

-- the log is this one and outcomes of calls
abbrev pub GoesOnByCalls : List Turn → Observed → Type 0
GoesOnByCalls before new = (more : List Turn) × (new.log ≡ Some (before ++ more)) × AreOutcomes more

-- the log ends with a failure of the disk, or the site is dark
abbrev pub EndsInFailure : Observed → Type 0
EndsInFailure new = (new.dark ≡ true) ⊎ ((before : List Turn) × (new.log ≡ Some (before ++ DiskFailed ∷ [])))

-- the log goes on by outcomes of calls, and no failure is taken back
pub record HasGoneOn (old new : Observed) : Type 0 where
  pub later : old.faults ≤ new.faults
  pub adds : IfObserved old (λ log. GoesOnByCalls log new)

-- Inner: and a journal that stood for the site before still does
pub record GoesOnBesideDisk (old new : Observed) : Type 0 where
  pub goes_on : HasGoneOn old new
  pub stands : (journal : JournalValue) → StandsFor journal old → StandsFor journal new

-- a call on the disk has failed, and was the last one
pub record HasBroken (old new : Observed) : Type 0 where
  pub rose : Rose old.faults new.faults
  pub ends : IfObserved old (λ log. EndsInFailure new)

-- ---- polls

-- how many polls a turn of this sort is
abbrev pub polls_of : TurnSort → ℕ
polls_of OpeningOutcome = 0
polls_of Poll = 1
polls_of Event = 0
polls_of CallOutcome = 0
polls_of PowerFailure = 0

-- how often the site was polled in these turns
abbrev pub polls_in : List Turn → ℕ
polls_in [] = 0
polls_in (turn ∷ turns) = polls_of (sort_of turn) + polls_in turns

-- the log is this one and turns with at most so many polls
abbrev pub AddsPolls : ℕ → List Turn → Observed → Type 0
AddsPolls most before new = (more : List Turn) × (new.log ≡ Some (before ++ more)) × (polls_in more ≤ most)

-- the log goes on by turns with at most so many polls, and no failure is taken back
pub record GoesOnByPolls (most : ℕ) (old new : Observed) : Type 0 where
  pub later : old.faults ≤ new.faults
  pub adds : IfObserved old (λ log. AddsPolls most log new)

-- exactly so many polls were made: the log is this one and turns with so many, or the site is dark
abbrev pub MakesPolls : ℕ → List Turn → Observed → Type 0
MakesPolls count before new = (new.dark ≡ true) ⊎ ((more : List Turn) × (new.log ≡ Some (before ++ more)) × (polls_in more ≡ count))

-- the last of these turns is a poll that has brought the stop
abbrev pub EndsWithStop : List Turn → Type 0
EndsWithStop turns = (first : List Turn) × (now : ℤ) × (turns ≡ first ++ Polled now ∷ Stopped ∷ [])

-- the stop was polled, or exactly so many polls were made: the log is this one and turns of which this is so, or the site is dark
abbrev pub PollsToEnd : ℕ → List Turn → Observed → Type 0
PollsToEnd most before new = (new.dark ≡ true) ⊎ ((more : List Turn) × (new.log ≡ Some (before ++ more)) × (EndsWithStop more ⊎ (polls_in more ≡ most)))

-- ---- memory

-- memory may be refused after this turn: a run begins, a till has opened, or bytes of one have come
abbrev pub takes_memory : Turn → Bool
takes_memory (Start setup) = true
takes_memory OpenFailed = false
takes_memory (Polled now) = false
takes_memory (Opened till) = true
takes_memory (HeardTill till bytes) = true
takes_memory (Closed till) = false
takes_memory (HeardPt pt bytes) = false
takes_memory (Lost pt) = false
takes_memory Stopped = false
takes_memory (Linked pt) = false
takes_memory (LinkFailed pt) = false
takes_memory (SentTill till bytes sent) = false
takes_memory (SentPt pt bytes sent) = false
takes_memory (CutTill till) = false
takes_memory (CutPt pt) = false
takes_memory (Wrote offset bytes) = false
takes_memory Synced = false
takes_memory DiskFailed = false
takes_memory (Crash file) = false

-- the last turn of the log that is no outcome of a call is one after which memory may be refused
pub record LastTakesMemory (log : List Turn) : Type 0 where
  pub before : List Turn
  pub turn : Turn
  pub calls : List Turn
  pub log_is : log ≡ before ++ turn ∷ calls
  pub takes : takes_memory turn ≡ true
  pub outcomes : AreOutcomes calls

-- memory may be refused where the log ends so, or the site is dark
abbrev pub EndsForMemory : Observed → Type 0
EndsForMemory new = (new.dark ≡ true) ⊎ ((log : List Turn) × (new.log ≡ Some log) × LastTakesMemory log)

-- a round has added a poll, an event after which memory may be refused, and outcomes of calls
pub record AddsTakingEvent (before : List Turn) (new : Observed) : Type 0 where
  pub now : ℤ
  pub event : Turn
  pub calls : List Turn
  pub log_is : new.log ≡ Some (before ++ Polled now ∷ event ∷ calls)
  pub sort : sort_of event ≡ Event
  pub takes : takes_memory event ≡ true
  pub outcomes : AreOutcomes calls

-- memory may be refused in a round that adds this, or where the site is dark
abbrev pub EndsRoundForMemory : List Turn → Observed → Type 0
EndsRoundForMemory before new = (new.dark ≡ true) ⊎ AddsTakingEvent before new

-- Inner: the log ends for memory, or only calls were made since this log
abbrev pub EndsForMemorySince : List Turn → Observed → Type 0
EndsForMemorySince before new = EndsForMemory new ⊎ GoesOnByCalls before new
