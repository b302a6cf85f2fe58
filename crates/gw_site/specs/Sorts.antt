-- The sorts of turns: tables that ask only what a turn is of speak of its sort.
use Rattle.std.specs.Prelude.{◌≡◌, Bool, true, false, not, List, [], ◌∷◌}
use Rattle.gw_site.specs.declared.turn.Turn.{Turn}
use Rattle.gw_site.specs.declared.turn.Turn.TheVariants.{Start, OpenFailed, Polled, Opened, HeardTill, Closed, HeardPt, Lost, Stopped, Linked, LinkFailed, SentTill, SentPt, CutTill, CutPt, Wrote, Synced, DiskFailed, Crash}

-- what a turn is of
pub data TurnSort : Type 0 where
  -- a run begins, or the site can't be opened
  OpeningOutcome : TurnSort
  -- the site is polled
  Poll : TurnSort
  -- what a poll brings
  Event : TurnSort
  -- the outcome of a call that is neither the opening nor a poll
  CallOutcome : TurnSort
  -- the power fails
  PowerFailure : TurnSort

-- the sort of each turn
abbrev pub sort_of : Turn → TurnSort
sort_of (Start setup) = OpeningOutcome
sort_of OpenFailed = OpeningOutcome
sort_of (Polled now) = Poll
sort_of (Opened till) = Event
sort_of (HeardTill till bytes) = Event
sort_of (Closed till) = Event
sort_of (HeardPt pt bytes) = Event
sort_of (Lost pt) = Event
sort_of Stopped = Event
sort_of (Linked pt) = CallOutcome
sort_of (LinkFailed pt) = CallOutcome
sort_of (SentTill till bytes sent) = CallOutcome
sort_of (SentPt pt bytes sent) = CallOutcome
sort_of (CutTill till) = CallOutcome
sort_of (CutPt pt) = CallOutcome
sort_of (Wrote offset bytes) = CallOutcome
sort_of Synced = CallOutcome
sort_of DiskFailed = CallOutcome
sort_of (Crash file) = PowerFailure

-- the turn says that a call has failed
abbrev pub has_failed : Turn → Bool
has_failed (Start setup) = false
has_failed OpenFailed = true
has_failed (Polled now) = false
has_failed (Opened till) = false
has_failed (HeardTill till bytes) = false
has_failed (Closed till) = false
has_failed (HeardPt pt bytes) = false
has_failed (Lost pt) = false
has_failed Stopped = false
has_failed (Linked pt) = false
has_failed (LinkFailed pt) = true
has_failed (SentTill till bytes sent) = not sent
has_failed (SentPt pt bytes sent) = not sent
has_failed (CutTill till) = false
has_failed (CutPt pt) = false
has_failed (Wrote offset bytes) = false
has_failed Synced = false
has_failed DiskFailed = true
has_failed (Crash file) = false

-- turns of this sort are between runs: a run begins, or none does, or the power fails
abbrev pub is_sort_between : TurnSort → Bool
is_sort_between OpeningOutcome = true
is_sort_between Poll = false
is_sort_between Event = false
is_sort_between CallOutcome = false
is_sort_between PowerFailure = true

-- the turn is between runs
abbrev pub is_between : Turn → Bool
is_between turn = is_sort_between (sort_of turn)

-- no run begins in these turns, and no power fails
abbrev pub IsQuiet : List Turn → Type 0
IsQuiet [] = Unit {0}
IsQuiet (turn ∷ turns) = (is_between turn ≡ false) × IsQuiet turns

-- turns of this sort come after a poll and before the next
abbrev pub is_sort_of_round : TurnSort → Bool
is_sort_of_round OpeningOutcome = false
is_sort_of_round Poll = false
is_sort_of_round Event = true
is_sort_of_round CallOutcome = true
is_sort_of_round PowerFailure = false

-- no poll comes in these turns, no run begins, and no power fails
abbrev pub AreOfRound : List Turn → Type 0
AreOfRound [] = Unit {0}
AreOfRound (turn ∷ turns) = (is_sort_of_round (sort_of turn) ≡ true) × AreOfRound turns
