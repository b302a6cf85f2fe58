-- A log plays a script: its events, moments, failures and power failures are those of the script's lines.
use Rattle.std.specs.Prelude.{◌≡◌, ◌≤◌, ℕ, ℤ, pos, ◌-◌, nat_le, Bool, true, false, ◌==◌, if◌then◌else◌, List, [], ◌∷◌, length, Option, Some, None, Result, Ok, Err}
use Rattle.gw_site.specs.Outside.{Outside, outside_after, nothing_yet, is_connected}
use Rattle.gw_site.specs.declared.turn.Turn.{Turn}
use Rattle.gw_site.specs.declared.turn.Turn.TheVariants.{Start, OpenFailed, Polled, Opened, HeardTill, Closed, HeardPt, Lost, Stopped, Linked, LinkFailed, SentTill, SentPt, CutTill, CutPt, Wrote, Synced, DiskFailed, Crash}
use Rattle.gw_site.specs.Steps.{ImageKind}
use Rattle.gw_script.specs.site.ScriptLine.{Event, Open, Close, FromTill, FromPt, Lose, Tick, Failing, FailOpen, FailLink, FailSendTill, FailSendPt, FailWrite, FailSync, FailLength, FailRead, PlayedLine, At, Poll, Fail, Power, ForgetPower, Script}
use Rattle.gw_script.specs.site.Decode.{script_of}
use Rattle.gw_script.specs.site.Hazards.{Armed, Hazard, armed, crash_file, is_failing, is_reached, kept_by_crash, links_without, no_hazard, sends_without, takes_most}
use Rattle.gw_script.specs.site.Peers.{Peers, no_peers, peers_after_bytes, peers_after_crash, peers_after_link, quiet_peers}
use Rattle.pt_core.specs.Serving.{TerminalValue}

-- how far a script is played
pub record Play : Type 0 where
  -- the lines that are left
  pub lines : List PlayedLine
  -- the moment of the last `at` line passed
  pub moment : ℤ
  -- the event that a poll has met and not yet brought
  pub due : List Turn
  pub hazard : Hazard
  -- a write has failed, and the failure of the disk comes next
  pub failing : Bool
  -- the power has failed, and leaves this
  pub off : Option ImageKind
  -- the terminals that are played, none where a text is
  pub peers : Peers

-- ---- polls

-- the event isn't skipped: a till opens with a number above all of the run, and everything else comes of a connection that is open
abbrev pub applies : Outside → Event → Bool
applies o (Open till) = nat_le o.next_till till
applies o (Close till) = is_connected o.tills till
applies o (FromTill till bytes) = is_connected o.tills till
applies o (FromPt pt bytes) = is_connected o.links pt
applies o (Lose pt) = is_connected o.links pt
applies o Tick = true

-- the turn of an event, where it has one
abbrev pub brings : Event → List Turn
brings (Open till) = Opened till ∷ []
brings (Close till) = Closed till ∷ []
brings (FromTill till bytes) = HeardTill till bytes ∷ []
brings (FromPt pt bytes) = HeardPt pt bytes ∷ []
brings (Lose pt) = Lost pt ∷ []
brings Tick = []

-- a fail line is passed
abbrev pub fails_next : Outside → Failing → Play → Play
fails_next o failing p = if is_reached o failing then record p { hazard = armed failing p.hazard } else p

-- the power fails at once, or after so many more calls; an earlier power line is replaced
abbrev pub powered : ℕ → ImageKind → Play → Play
powered calls kind p = record p { hazard = record p.hazard { power = Some (record { calls = calls; kind = kind }) } }

-- the power has failed, and leaves this
abbrev pub is_off : ImageKind → Play → Play
is_off kind p = record p { hazard = record p.hazard { power = None }; off = Some kind }

-- a power failure that was set and has no effect yet is forgotten
abbrev pub power_forgotten : Play → Play
power_forgotten p = record p { hazard = record p.hazard { power = None } }

-- a poll meets the first event that isn't skipped, or the end after the last line, or a power failure at once; the other lines before it take effect
abbrev pub met : Outside → Play → List PlayedLine → Play
met o p [] = record p { lines = []; due = Stopped ∷ [] }
met o p (At now ∷ lines) = met o (record p { moment = now }) lines
met o p (Poll event ∷ lines) = if applies o event then record p { lines = lines; due = brings event } else met o p lines
met o p (Fail failing ∷ lines) = met o (fails_next o failing p) lines
met o p (Power calls kind ∷ lines) = if calls == 0 then is_off kind (record p { lines = lines }) else met o (powered calls kind p) lines
met o p (ForgetPower ∷ lines) = met o (power_forgotten p) lines

-- this is still to come of the played terminals
abbrev pub then_coming : List Event → Play → Play
then_coming events p = record p { peers = record p.peers { coming = events } }

-- a poll meets the first event still to come of a terminal that is linked: those before it are lost. Without one it goes on in the lines
abbrev pub met_coming : Outside → List Event → Play → Play
met_coming o [] p = met o (then_coming [] p) p.lines
met_coming o (event ∷ events) p = if applies o event then record (then_coming events p) { due = brings event } else met_coming o events p

-- how far the script is played once the site was polled
abbrev pub after_poll : Outside → Play → Play
after_poll o p = met_coming o p.peers.coming p

-- the event was brought
abbrev pub brought : Play → Play
brought p = record p { due = [] }

-- ---- calls

-- one call less before the power fails; with the last of them it fails
abbrev pub one_call_less : Option Armed → Play → Play
one_call_less None p = p
one_call_less (Some armed) p = if nat_le armed.calls 1 then is_off armed.kind p else powered (armed.calls - 1) armed.kind p

-- a call was made that counts for a power failure
abbrev pub counted : Play → Play
counted p = one_call_less p.hazard.power p

-- a write was made; where it fails, the failure of the disk comes next
abbrev pub write_made : Play → Play
write_made p = counted (record p { failing = p.hazard.fail_write; hazard = record p.hazard { fail_write = false } })

-- the send failed that fail lines have named
abbrev pub send_failed_till : ℕ → Bool → Play → Play
send_failed_till till true p = counted p
send_failed_till till false p = counted (record p { hazard = record p.hazard { fail_tills = sends_without p.hazard.fail_tills till } })

-- the send failed that fail lines have named
abbrev pub send_failed_pt : ℕ → Bool → Play → Play
send_failed_pt pt true p = counted p
send_failed_pt pt false p = counted (record p { hazard = record p.hazard { fail_pts = sends_without p.hazard.fail_pts pt } })

-- bytes were sent to the terminal of this number, which hears them where it is played
abbrev pub sent_to_pt : ℕ → List ℕ → Play → Play
sent_to_pt pt bytes p = record p { peers = peers_after_bytes pt bytes p.peers }

-- the terminal of this number was linked
abbrev pub linked_to_pt : ℕ → Play → Play
linked_to_pt pt p = record p { peers = peers_after_link pt p.peers }

-- the call of which a failure of the disk is the outcome
pub data DiskCall : Type 0 where
  Write : DiskCall
  Sync : DiskCall
  Length : DiskCall
  Read : DiskCall

-- the call on the disk failed; that of a sync counts for a power failure
abbrev pub disk_failed : DiskCall → Play → Play
disk_failed Write p = record p { failing = false }
disk_failed Sync p = counted (record p { hazard = record p.hazard { fail_sync = false } })
disk_failed Length p = record p { hazard = record p.hazard { fail_length = false } }
disk_failed Read p = record p { hazard = record p.hazard { fail_read = false } }

-- ---- power failures

-- where the power has failed, else after the lines up to the next poll's, which may say that it fails at once
abbrev pub fallen : Outside → Option ImageKind → Play → Play
fallen o None p = after_poll o p
fallen o (Some kind) p = p

-- the script goes on in the next run
abbrev pub restarted : Play → Play
restarted p = record p { due = []; hazard = kept_by_crash p.hazard; failing = false; off = None; peers = peers_after_crash p.peers }

-- ---- turns

-- how far the script is played after one more turn; a failure of the disk is that of this call
abbrev pub play_after : Outside → DiskCall → Play → Turn → Play
play_after o call p (Start setup) = counted p
play_after o call p OpenFailed = counted (record p { hazard = record p.hazard { fail_open = false } })
play_after o call p (Polled now) = after_poll o p
play_after o call p (Opened till) = brought p
play_after o call p (HeardTill till bytes) = brought p
play_after o call p (Closed till) = brought p
play_after o call p (HeardPt pt bytes) = brought p
play_after o call p (Lost pt) = brought p
play_after o call p Stopped = brought p
play_after o call p (Linked pt) = counted (linked_to_pt pt p)
play_after o call p (LinkFailed pt) = counted (record p { hazard = record p.hazard { fail_links = links_without p.hazard.fail_links pt } })
play_after o call p (SentTill till bytes ok) = send_failed_till till ok p
play_after o call p (SentPt pt bytes ok) = send_failed_pt pt ok (sent_to_pt pt bytes p)
play_after o call p (CutTill till) = counted p
play_after o call p (CutPt pt) = counted p
play_after o call p (Wrote offset bytes) = write_made p
play_after o call p Synced = counted p
play_after o call p DiskFailed = disk_failed call p
play_after o call p (Crash file) = restarted (fallen o p.off p)

-- a call or poll may come: no event and no failure of the disk is due, and the power is there
pub record Idle (p : Play) : Type 0 where
  pub no_event : p.due ≡ []
  pub no_failure : p.failing ≡ false
  pub power : p.off ≡ None

-- the event is due
abbrev pub Due : Play → Turn → Type 0
Due p turn = p.due ≡ turn ∷ []

-- the send has all its bytes where no fail line names the connection, else at most as many as the least of these lines says
abbrev pub Sends : Option ℕ → List ℕ → Bool → Type 0
Sends None bytes true = Unit {0}
Sends None bytes false = ⊥
Sends (Some most) bytes true = ⊥
Sends (Some most) bytes false = length bytes ≤ most

-- the disk fails in this call
abbrev pub DiskFails : DiskCall → Play → Type 0
DiskFails Write p = (p.due ≡ []) × (p.failing ≡ true)
DiskFails Sync p = Idle p × (p.hazard.fail_sync ≡ true)
DiskFails Length p = Idle p × (p.hazard.fail_length ≡ true)
DiskFails Read p = Idle p × (p.hazard.fail_read ≡ true)

-- the power has failed, or the next poll would reach its failure, and this file is left
pub record Falls (o : Outside) (p : Play) (file : List ℕ) : Type 0 where
  pub kind : ImageKind
  pub no_event : p.due ≡ []
  pub no_failure : p.failing ≡ false
  pub off : (fallen o p.off p).off ≡ Some kind
  pub file_is : file ≡ crash_file kind o

-- the turn may come next; a failure of the disk is that of this call
abbrev pub Fits : Outside → DiskCall → Play → Turn → Type 0
Fits o call p (Start setup) = Idle p × (p.hazard.fail_open ≡ false)
Fits o call p OpenFailed = Idle p × (p.hazard.fail_open ≡ true)
Fits o call p (Polled now) = Idle p × ((after_poll o p).off ≡ None) × (now ≡ (after_poll o p).moment)
Fits o call p (Opened till) = Due p (Opened till)
Fits o call p (HeardTill till bytes) = Due p (HeardTill till bytes)
Fits o call p (Closed till) = Due p (Closed till)
Fits o call p (HeardPt pt bytes) = Due p (HeardPt pt bytes)
Fits o call p (Lost pt) = Due p (Lost pt)
Fits o call p Stopped = Due p Stopped
Fits o call p (Linked pt) = Idle p × (is_failing p.hazard.fail_links pt ≡ false)
Fits o call p (LinkFailed pt) = Idle p × (is_failing p.hazard.fail_links pt ≡ true)
Fits o call p (SentTill till bytes ok) = Idle p × Sends (takes_most p.hazard.fail_tills till) bytes ok
Fits o call p (SentPt pt bytes ok) = Idle p × Sends (takes_most p.hazard.fail_pts pt) bytes ok
Fits o call p (CutTill till) = Idle p
Fits o call p (CutPt pt) = Idle p
Fits o call p (Wrote offset bytes) = Idle p
Fits o call p Synced = Idle p × (p.hazard.fail_sync ≡ false)
Fits o call p DiskFailed = DiskFails call p
Fits o call p (Crash file) = Falls o p file

-- the turns lead from one place of the script to another
abbrev pub Leads : Outside → Play → List Turn → Play → Type 0
Leads o p [] after = p ≡ after
Leads o p (turn ∷ turns) after = (call : DiskCall) × Fits o call p turn × Leads (outside_after o turn) (play_after o call p turn) turns after

-- ---- the beginning

-- a call that fails before the first run where its line comes before every line that polls
abbrev pub is_early : Failing → Bool
is_early FailOpen = true
is_early (FailLink pt) = false
is_early (FailSendTill till most) = false
is_early (FailSendPt pt most) = false
is_early FailWrite = false
is_early FailSync = false
is_early FailLength = true
is_early FailRead = true

-- the hazard before the first run: failing opens, lengths and reads of lines before every line that polls
abbrev pub early_hazard : Hazard → List PlayedLine → Hazard
early_hazard h [] = h
early_hazard h (At now ∷ lines) = early_hazard h lines
early_hazard h (Poll event ∷ lines) = h
early_hazard h (Fail failing ∷ lines) = early_hazard (if is_early failing then armed failing h else h) lines
early_hazard h (Power calls kind ∷ lines) = early_hazard h lines
early_hazard h (ForgetPower ∷ lines) = early_hazard h lines

-- the lines that are left before the first run, without those
abbrev pub early_lines : List PlayedLine → List PlayedLine
early_lines [] = []
early_lines (At now ∷ lines) = At now ∷ early_lines lines
early_lines (Poll event ∷ lines) = Poll event ∷ lines
early_lines (Fail failing ∷ lines) = if is_early failing then early_lines lines else Fail failing ∷ early_lines lines
early_lines (Power calls kind ∷ lines) = Power calls kind ∷ early_lines lines
early_lines (ForgetPower ∷ lines) = ForgetPower ∷ early_lines lines

-- between two calls
abbrev pub rests : List PlayedLine → ℤ → Hazard → Play
rests lines moment hazard = record { lines = lines; moment = moment; due = []; hazard = hazard; failing = false; off = None; peers = no_peers }

-- before the first turn; the moment begins at 0
abbrev pub begins : List PlayedLine → Play
begins lines = rests (early_lines lines) (pos 0) (early_hazard no_hazard lines)

-- before the first turn of a site that plays these terminals too
abbrev pub begins_with : List TerminalValue → List PlayedLine → Play
begins_with terminals lines = record (begins lines) { peers = quiet_peers terminals }

-- the log plays these lines up to this place
abbrev pub PlaysTo : List PlayedLine → List Turn → Play → Type 0
PlaysTo lines log play = Leads nothing_yet (begins lines) log play

-- the log plays these lines, or a prefix of them
abbrev pub PlaysLines : List PlayedLine → List Turn → Type 0
PlaysLines lines log = (play : Play) × PlaysTo lines log play

-- the log plays the script that was read, or a prefix of it; none plays a text that is no script
abbrev pub PlaysRead : Result Script ℕ → List Turn → Type 0
PlaysRead (Ok script) log = PlaysLines script.lines log
PlaysRead (Err number) log = ⊥

-- the log plays the script of this text, or a prefix of it
abbrev pub Plays : List ℕ → List Turn → Type 0
Plays text log = PlaysRead (script_of text) log
