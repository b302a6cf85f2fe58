-- What a log says of the outside: the moment, the connections and what was heard on them, and the file on the disk.
use Rattle.std.specs.Prelude.{ℕ, ◌+◌, ◌-◌, Bool, not, ◌==◌, if◌then◌else◌, List, [], ◌∷◌, ◌++◌, length, take, drop, replicate, filter}
use Rattle.std.specs.List.{list_any}
use Rattle.gw_base.specs.Moment.{moment_of}
use Rattle.gw_site.specs.declared.turn.Turn.{Turn}
use Rattle.gw_site.specs.declared.turn.Turn.TheVariants.{Start, OpenFailed, Polled, Opened, HeardTill, Closed, HeardPt, Lost, Stopped, Linked, LinkFailed, SentTill, SentPt, CutTill, CutPt, Wrote, Synced, DiskFailed, Crash}

-- a connection that is open, by its number, and all that was heard on it since it opened
pub record Connection : Type 0 where
  pub number : ℕ
  pub heard : List ℕ

-- a range of bytes of the file, from an offset on
pub record Range : Type 0 where
  pub offset : ℕ
  pub size : ℕ

-- the outside after a log
pub record Outside : Type 0 where
  -- the moment of the run's last poll
  pub moment : ℕ
  -- the tills that are there
  pub tills : List Connection
  -- the terminals that are linked
  pub links : List Connection
  -- the least number with which a till may open
  pub next_till : ℕ
  -- the file as a read gives it
  pub file : List ℕ
  -- the file of the last sync or power failure
  pub stable : List ℕ
  -- the ranges written since then
  pub written : List Range

-- the connection of this number is open
abbrev pub is_connected : List Connection → ℕ → Bool
is_connected connections number = list_any (λ (connection : Connection). connection.number == number) connections

-- the connections without that of this number
abbrev pub without : List Connection → ℕ → List Connection
without connections number = filter (λ (connection : Connection). not (connection.number == number)) connections

-- a connection on which nothing was heard yet
abbrev pub new_connection : ℕ → Connection
new_connection number = record { number = number; heard = [] }

-- these bytes were heard on the connection of this number
abbrev pub hears : List Connection → ℕ → List ℕ → List Connection
hears [] number bytes = []
hears (connection ∷ connections) number bytes = if connection.number == number then record connection { heard = connection.heard ++ bytes } ∷ connections else connection ∷ hears connections number bytes

-- what was heard on the connection of this number since it opened; nothing where it isn't open
abbrev pub heard_on : List Connection → ℕ → List ℕ
heard_on [] number = []
heard_on (connection ∷ connections) number = if connection.number == number then connection.heard else heard_on connections number

-- the file with bytes written at an offset, over what is there and past its end; a gap is filled with zeros
abbrev pub overwrite : List ℕ → ℕ → List ℕ → List ℕ
overwrite file offset bytes = take offset file ++ replicate (offset - length file) 0 ++ bytes ++ drop (offset + length bytes) file

-- so many bytes of the file from an offset on, with zeros past its end
abbrev pub file_part : List ℕ → ℕ → ℕ → List ℕ
file_part file offset count = take count (drop offset file) ++ replicate (count - length (drop offset file)) 0

-- no run: no connection is open, and no moment was polled
abbrev pub no_run : Outside → Outside
no_run o = record o { moment = 0; tills = []; links = []; next_till = 0 }

-- the outside after one more turn
abbrev pub outside_after : Outside → Turn → Outside
outside_after o (Start setup) = no_run o
outside_after o OpenFailed = no_run o
outside_after o (Polled now) = record o { moment = moment_of now }
outside_after o (Opened till) = record o { tills = o.tills ++ new_connection till ∷ []; next_till = till + 1 }
outside_after o (HeardTill till bytes) = record o { tills = hears o.tills till bytes }
outside_after o (Closed till) = record o { tills = without o.tills till }
outside_after o (HeardPt pt bytes) = record o { links = hears o.links pt bytes }
outside_after o (Lost pt) = record o { links = without o.links pt }
outside_after o Stopped = o
outside_after o (Linked pt) = record o { links = without o.links pt ++ new_connection pt ∷ [] }
outside_after o (LinkFailed pt) = o
outside_after o (SentTill till bytes ok) = o
outside_after o (SentPt pt bytes ok) = o
outside_after o (CutTill till) = record o { tills = without o.tills till }
outside_after o (CutPt pt) = record o { links = without o.links pt }
outside_after o (Wrote offset bytes) = record o { file = overwrite o.file offset bytes; written = record { offset = offset; size = length bytes } ∷ o.written }
outside_after o Synced = record o { stable = o.file; written = [] }
outside_after o DiskFailed = o
outside_after o (Crash file) = record (no_run o) { file = file; stable = file; written = [] }

-- the outside after more turns
abbrev pub outside_from : Outside → List Turn → Outside
outside_from o [] = o
outside_from o (turn ∷ turns) = outside_from (outside_after o turn) turns

-- before the first turn: an empty file, and nobody there
abbrev pub nothing_yet : Outside
nothing_yet = record { moment = 0; tills = []; links = []; next_till = 0; file = []; stable = []; written = [] }

-- the outside after a log
abbrev pub outside_of : List Turn → Outside
outside_of log = outside_from nothing_yet log
