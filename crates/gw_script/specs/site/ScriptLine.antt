-- What the lines of a script say, as data: the setup, what polls bring, which calls fail, and when the power fails.
use Rattle.std.specs.Prelude.{ℕ, ℤ, List, [], Option, None, unwrap_or, codes}
use Rattle.gw_base.specs.declared.setup.Pt.{Pt}
use Rattle.gw_base.specs.declared.setup.Setup.{Setup}
use Rattle.gw_site.specs.Steps.{ImageKind}

-- a setup line
pub data SetupLine : Type 0 where
  -- the gateway's name
  Name : List ℕ → SetupLine
  -- how many requests may wait for one terminal
  Queue : ℕ → SetupLine
  -- how long a request may wait, in seconds
  Wait : ℕ → SetupLine
  -- how many records the journal holds
  Slots : ℕ → SetupLine
  -- one terminal
  Terminal : Pt → SetupLine

-- what a poll brings
pub data Event : Type 0 where
  -- the till of this number opens
  Open : ℕ → Event
  -- the till of this number closes
  Close : ℕ → Event
  -- these bytes of the till of this number come
  FromTill : ℕ → List ℕ → Event
  -- these bytes of the terminal of this number come
  FromPt : ℕ → List ℕ → Event
  -- the connection of the terminal of this number is lost
  Lose : ℕ → Event
  -- nothing
  Tick : Event

-- the next call of this kind fails
pub data Failing : Type 0 where
  FailOpen : Failing
  FailLink : ℕ → Failing
  -- a send to this till, which takes at most so many bytes
  FailSendTill : ℕ → ℕ → Failing
  -- a send to this terminal, which takes at most so many bytes
  FailSendPt : ℕ → ℕ → Failing
  FailWrite : Failing
  FailSync : Failing
  FailLength : Failing
  FailRead : Failing

-- a line that is played
pub data PlayedLine : Type 0 where
  -- the moment of later polls, in seconds; no poll
  At : ℤ → PlayedLine
  -- a poll that brings this
  Poll : Event → PlayedLine
  -- a call that fails; no poll
  Fail : Failing → PlayedLine
  -- the power fails after so many more calls, and leaves this; no poll
  Power : ℕ → ImageKind → PlayedLine
  -- a power failure that was set and has no effect yet is forgotten; no poll, and no text has this line
  ForgetPower : PlayedLine

-- what one line of the text is
pub data Entry : Type 0 where
  -- a line that says nothing
  Blank : Entry
  Setting : SetupLine → Entry
  Playing : PlayedLine → Entry

-- what the setup lines give: each of the first four where a line gives it, and the terminals in order
pub record Given : Type 0 where
  pub name : Option (List ℕ)
  pub queue : Option ℕ
  pub wait : Option ℕ
  pub slots : Option ℕ
  pub terminals : List Pt

-- a script: what its setup lines give, and the lines that are played
pub record Script : Type 0 where
  pub given : Given
  pub lines : List PlayedLine

-- no setup line
abbrev pub nothing_given : Given
nothing_given = record { name = None; queue = None; wait = None; slots = None; terminals = [] }

-- the setup with which the runs of a script start: what its lines give, and the defaults
abbrev pub setup_of : Given → Setup
setup_of given = record {
  name = unwrap_or given.name (codes "GATEWAY");
  listen = [];
  journal = [];
  line = unwrap_or given.queue 0;
  wait = unwrap_or given.wait 60;
  slots = unwrap_or given.slots 1000000;
  terminals = given.terminals;
}
