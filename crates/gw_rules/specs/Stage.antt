-- How far a run is, and what each stage of it admits.
use Rattle.std.specs.Prelude.{Bool, true, false, not}

-- how far a run is
pub data Stage : Type 0 where
  -- there is no run
  Resting : Stage
  -- the run has begun, and the first sync of its journal is owed; whether the file is refused
  Opening : Bool → Stage
  -- that sync was made, and the journal's file is looked at; whether it is refused
  Looking : Bool → Stage
  -- the site was polled, and its event may come
  AtPoll : Stage
  -- what the poll brought is handled
  Handling : Stage
  -- the run has ended
  Over : Stage
  -- a call on the disk has failed
  Broken : Stage

-- an item may begin
abbrev pub is_round : Stage → Bool
is_round Resting = false
is_round (Opening refused) = false
is_round (Looking refused) = false
is_round AtPoll = true
is_round Handling = true
is_round Over = false
is_round Broken = false

-- the run goes on: once nothing is owed the site is polled
abbrev pub is_running : Stage → Bool
is_running Resting = false
is_running (Opening refused) = not refused
is_running (Looking refused) = not refused
is_running AtPoll = true
is_running Handling = true
is_running Over = false
is_running Broken = false

-- the journal's file is looked at
abbrev pub is_looking : Stage → Bool
is_looking Resting = false
is_looking (Opening refused) = false
is_looking (Looking refused) = true
is_looking AtPoll = false
is_looking Handling = false
is_looking Over = false
is_looking Broken = false

-- a call on the disk has failed since the last power failure
abbrev pub is_broken : Stage → Bool
is_broken Resting = false
is_broken (Opening refused) = false
is_broken (Looking refused) = false
is_broken AtPoll = false
is_broken Handling = false
is_broken Over = false
is_broken Broken = true

-- once anything follows a poll but its event, there is none
abbrev pub busy : Stage → Stage
busy Resting = Resting
busy (Opening refused) = Opening refused
busy (Looking refused) = Looking refused
busy AtPoll = Handling
busy Handling = Handling
busy Over = Over
busy Broken = Broken

-- after a sync: while the journal is opened it is the first, and the file is looked at
abbrev pub stage_synced : Stage → Stage
stage_synced Resting = Resting
stage_synced (Opening refused) = Looking refused
stage_synced (Looking refused) = Looking refused
stage_synced AtPoll = Handling
stage_synced Handling = Handling
stage_synced Over = Over
stage_synced Broken = Broken

-- after a write: with that of the first gate the file is looked at no longer
abbrev pub stage_wrote : Stage → Stage
stage_wrote Resting = Resting
stage_wrote (Opening refused) = Opening refused
stage_wrote (Looking refused) = Handling
stage_wrote AtPoll = Handling
stage_wrote Handling = Handling
stage_wrote Over = Over
stage_wrote Broken = Broken
