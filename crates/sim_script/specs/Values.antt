-- The lines of a script, as the grammar sees them.
use Rattle.std.specs.Prelude.{List, map}
use Rattle.gw_site.specs.Steps.{ImageKind, Old, New, Junk}
use Rattle.gw_script.specs.site.ScriptLine.{SetupLine, Name, Queue, Wait, Slots, Terminal, Event, Open, Close, FromTill, FromPt, Lose, Tick, Failing, FailOpen, FailLink, FailSendTill, FailSendPt, FailWrite, FailSync, FailLength, FailRead, PlayedLine, At, Poll, Fail, Power, ForgetPower, Given, Script}
use Rattle.sim_script.specs.declared.line.Script.{Script as ReadScript}
use Rattle.sim_script.specs.declared.line.Given.{Given as ReadGiven}
use Rattle.sim_script.specs.declared.line.SetupLine.{SetupLine as ReadSetupLine}
use Rattle.sim_script.specs.declared.line.SetupLine.TheVariants.{Name as ReadName, Queue as ReadQueue, Wait as ReadWait, Slots as ReadSlots, Terminal as ReadTerminal}
use Rattle.sim_script.specs.declared.line.ScriptLine.{ScriptLine}
use Rattle.sim_script.specs.declared.line.ScriptLine.TheVariants.{At as ReadAt, Poll as ReadPoll, Fail as ReadFail, Power as ReadPower, ForgetPower as ReadForgetPower}
use Rattle.sim_script.specs.declared.line.ScriptEvent.{ScriptEvent}
use Rattle.sim_script.specs.declared.line.ScriptEvent.TheVariants.{Open as ReadOpen, Close as ReadClose, FromTill as ReadFromTill, FromPt as ReadFromPt, Lose as ReadLose, Tick as ReadTick}
use Rattle.sim_script.specs.declared.line.FailingCall.{FailingCall}
use Rattle.sim_script.specs.declared.line.FailingCall.TheVariants.{Open as OpenFails, Link as LinkFails, SendTill as SendTillFails, SendPt as SendPtFails, Write as WriteFails, Sync as SyncFails, Length as LengthFails, Read as ReadFails}
use Rattle.sim_script.specs.declared.line.ImageKind.{ImageKind as ReadImageKind}
use Rattle.sim_script.specs.declared.line.ImageKind.TheVariants.{Old as ReadOld, New as ReadNew, Junk as ReadJunk}

-- a setup line, as the grammar sees it
abbrev pub setting_value : ReadSetupLine → SetupLine
setting_value (ReadName name) = Name name
setting_value (ReadQueue n) = Queue n
setting_value (ReadWait n) = Wait n
setting_value (ReadSlots n) = Slots n
setting_value (ReadTerminal pt) = Terminal pt

-- what a poll brings, as the grammar sees it
abbrev pub script_event_value : ScriptEvent → Event
script_event_value (ReadOpen till) = Open till
script_event_value (ReadClose till) = Close till
script_event_value (ReadFromTill till chunk) = FromTill till chunk.bytes
script_event_value (ReadFromPt pt chunk) = FromPt pt chunk.bytes
script_event_value (ReadLose pt) = Lose pt
script_event_value ReadTick = Tick

-- a call that fails, as the grammar sees it
abbrev pub failing_value : FailingCall → Failing
failing_value OpenFails = FailOpen
failing_value (LinkFails pt) = FailLink pt
failing_value (SendTillFails till most) = FailSendTill till most
failing_value (SendPtFails pt most) = FailSendPt pt most
failing_value WriteFails = FailWrite
failing_value SyncFails = FailSync
failing_value LengthFails = FailLength
failing_value ReadFails = FailRead

-- what a power failure leaves, as the grammar sees it
abbrev pub image_value : ReadImageKind → ImageKind
image_value ReadOld = Old
image_value ReadNew = New
image_value (ReadJunk byte) = Junk byte

-- a line that is played, as the grammar sees it
abbrev pub script_line_value : ScriptLine → PlayedLine
script_line_value (ReadAt moment) = At moment
script_line_value (ReadPoll event) = Poll (script_event_value event)
script_line_value (ReadFail failing) = Fail (failing_value failing)
script_line_value (ReadPower calls kind) = Power calls (image_value kind)
script_line_value ReadForgetPower = ForgetPower

-- what the setup lines give, as the grammar sees it
abbrev pub given_value : ReadGiven → Given
given_value given = record { name = given.name; queue = given.queue; wait = given.wait; slots = given.slots; terminals = given.terminals.items }

-- the lines that are played, as the grammar sees them
abbrev pub lines_value : List ScriptLine → List PlayedLine
lines_value lines = map script_line_value lines

-- a script, as the grammar sees it
abbrev pub whole_script_value : ReadScript → Script
whole_script_value script = record { given = given_value script.given; lines = lines_value script.lines.items }
