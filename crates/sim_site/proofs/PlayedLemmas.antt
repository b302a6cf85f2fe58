-- How the log of a site goes on by calls.
use Rattle.std.proofs.Common.{◌≡◌, ℕ, List, [], ◌∷◌, ◌++◌, get_or, refl, sym, ◌∙◌, ap, subst, true, false, append-nil, append_assoc}
use Rattle.std.proofs.Math.Logic.{∥∥₁_map}
use Rattle.std.specs.Prelude.{Bool, ℤ, not, is_some, ◌==◌, if◌then◌else◌, Option, Some, None, IsSome, Result, Ok, Err, IfOk, OnOk, option_map}
use Rattle.std.specs.Result.{result_and}
use Rattle.gw_base.specs.declared.setup.Setup.{Setup}
use Rattle.gw_site.specs.Image.{is_covered}
use Rattle.gw_site.specs.Outside.{Outside, is_connected, no_run, outside_after, outside_from, outside_of}
use Rattle.gw_site.specs.Turns.{event_turns}
use Rattle.gw_site.specs.declared.site.What.{What}
use Rattle.gw_site.specs.declared.site.What.TheVariants.{TillOpened, TillBytes, TillClosed, PtBytes, PtClosed, Nothing, Stopped as StoppedEvent}
use Rattle.gw_site.specs.declared.turn.Turn.{Turn}
use Rattle.gw_site.specs.declared.turn.Turn.TheVariants.{OpenFailed, Start, Crash, Linked, LinkFailed, Polled, SentTill, SentPt, Wrote, Synced, DiskFailed}
use Rattle.gw_site.proofs.OutsideLemmas.{outside_of-append}
use Rattle.gw_site.specs.Steps.{Holding, Made, PollCall, PowerBack, SiteCall, SiteStep, StopAfter, ImageKind}
use Rattle.pt_core.specs.Serving.{TerminalValue}
use Rattle.gw_script.specs.site.Calls.{IsPlayedTo, IsReachedWith, ReachesWith, are_scripted, call_turns, place_after, polled_place, polled_turns, set_to_fail}
use Rattle.gw_script.specs.site.Hazards.{armed, crash_file, is_reached, sent_of}
use Rattle.gw_script.specs.site.Playing.{Idle, Play, PlaysLines, after_poll, applies, begins_with, brings, fails_next, is_off, met, met_coming, power_forgotten, powered, restarted, then_coming}
use Rattle.gw_script.specs.site.ScriptLine.{Failing, PlayedLine, At, Poll, Fail, Power, ForgetPower}
use Rattle.gw_script.proofs.site.CallLemmas.{calls-play, calls_on, file_on, power_on, scripted_append, stop_on}
use Rattle.gw_script.proofs.site.LeadsLemmas.{prefixes-play}
use Rattle.sim_script.specs.Values.{image_value, lines_value}
use Rattle.sim_script.specs.declared.line.ImageKind.{ImageKind as ReadImageKind}
use Rattle.sim_script.specs.declared.line.ScriptLine.{ScriptLine}
use Rattle.sim_site.specs.Connected.{HasConnections, IsFollowed}
use Rattle.sim_site.specs.Disks.{HasDisk}
use Rattle.sim_site.specs.Places.{place_value}
use Rattle.sim_site.specs.Steps.{HasPart, HasSteps}
use Rattle.sim_site.proofs.ConnectionLemmas.{followed}
use Rattle.sim_site.specs.declared.brought.Brought.{Brought}
use Rattle.sim_site.specs.declared.connections.Connections.{Connections}
use Rattle.sim_site.specs.declared.disk.Disk.{Disk}
use Rattle.sim_site.specs.declared.place.Place.{Place}

-- a site whose log could not grow is none whose log could
pub never : {A : Type 0} → true ≡ false → A
never e = absurd (let h : true ≡ false = e in cc)

-- ---- which steps have led here

pub part_same : (scripted : Bool) (terminals : List TerminalValue) (lines : List PlayedLine) (old new : List Turn) → new ≡ old → ∥ HasPart scripted terminals lines old ∥₁ → ∥ HasPart scripted terminals lines new ∥₁
part_same scripted terminals lines old new e p = subst (λ log. ∥ HasPart scripted terminals lines log ∥₁) (sym e) p

whole_part : (scripted : Bool) (terminals : List TerminalValue) (lines : List PlayedLine) (log : List Turn) (place : Play) → HasSteps scripted terminals lines log place → HasPart scripted terminals lines log
whole_part scripted terminals lines log place stood = ([], place, subst (λ l. HasSteps scripted terminals lines l place) (sym (append-nil log)) stood)

pub part_stood : (scripted : Bool) (terminals : List TerminalValue) (lines : List PlayedLine) (log : List Turn) (place : Play) → ∥ HasSteps scripted terminals lines log place ∥₁ → ∥ HasPart scripted terminals lines log ∥₁
part_stood scripted terminals lines log place p = ∥∥₁_map p (λ stood. whole_part scripted terminals lines log place stood)

-- a prefix of a log of the script alone plays it, where no terminal is played
pub part_plays : (terminals : List TerminalValue) (lines : List PlayedLine) (log : List Turn) → terminals ≡ [] → HasPart true terminals lines log → PlaysLines lines log
part_plays terminals lines log alone (later, place, (steps, own, leads)) =
    prefixes-play lines log later (calls-play lines steps (log ++ later) own (place, subst (λ these. ReachesWith these lines steps (log ++ later) place) alone leads))

-- it leads to its place
pub played_alone : (terminals : List TerminalValue) (lines : List PlayedLine) (log : List Turn) (place : Play) → terminals ≡ [] → HasSteps true terminals lines log place → IsPlayedTo lines log place
played_alone terminals lines log place alone (steps, own, leads) = (steps, own, subst (λ these. ReachesWith these lines steps log place) alone leads)

-- what the script alone leads to is led to
loosened : (scripted : Bool) (terminals : List TerminalValue) (lines : List PlayedLine) (log : List Turn) (place : Play) → HasSteps scripted terminals lines log place → IsReachedWith terminals lines log place
loosened true terminals lines log place (steps, own, leads) = (steps, leads)
loosened false terminals lines log place reached = reached

pub part_loosened : (scripted : Bool) (terminals : List TerminalValue) (lines : List PlayedLine) (log : List Turn) → ∥ HasPart scripted terminals lines log ∥₁ → ∥ HasPart false terminals lines log ∥₁
part_loosened scripted terminals lines log p = ∥∥₁_map p (λ part. (part.0, part.1, loosened scripted terminals lines (log ++ part.0) part.1 part.2))

pub stands_loosened : (scripted : Bool) (terminals : List TerminalValue) (lines : List PlayedLine) (log : List Turn) (place : Play) → ∥ HasSteps scripted terminals lines log place ∥₁ → ∥ IsReachedWith terminals lines log place ∥₁
stands_loosened scripted terminals lines log place p = ∥∥₁_map p (λ stood. loosened scripted terminals lines log place stood)

-- one step of the script more
steps_on : (scripted : Bool) (terminals : List TerminalValue) (lines : List PlayedLine) (old new : List Turn) (place next : Play) (step : SiteStep) → are_scripted (step ∷ []) ≡ true →
    ((steps : List SiteStep) → ReachesWith terminals lines steps old place → ReachesWith terminals lines (steps ++ step ∷ []) new next) → HasSteps scripted terminals lines old place → HasSteps scripted terminals lines new next
steps_on true terminals lines old new place next step own goes (steps, mine, leads) = (steps ++ step ∷ [], scripted_append steps (step ∷ []) mine own, goes steps leads)
steps_on false terminals lines old new place next step own goes (steps, leads) = (steps ++ step ∷ [], goes steps leads)

pub idle_there : (lines : List ScriptLine) (place : Place) → place.off ≡ None → Idle (place_value lines place)
idle_there lines place off = record { no_event = refl; no_failure = refl; power = ap (option_map image_value) off }

-- the call goes on from the place
call_on : (scripted : Bool) (terminals : List TerminalValue) (lines : List ScriptLine) (old : List Turn) (place : Place) (call : SiteCall) → place.off ≡ None → HasSteps scripted terminals (lines_value lines) old (place_value lines place) →
    HasSteps scripted terminals (lines_value lines) (old ++ call_turns (outside_of old) (place_value lines place) call) (place_after (outside_of old) (place_value lines place) call)
call_on scripted terminals lines old place call off stood =
    let turns = call_turns (outside_of old) (place_value lines place) call in
    steps_on scripted terminals (lines_value lines) old (old ++ turns) (place_value lines place) (place_after (outside_of old) (place_value lines place) call) (Made call) refl
    (λ steps leads. calls_on (begins_with terminals (lines_value lines)) steps old (place_value lines place) call turns leads (idle_there lines place off, refl)) stood

-- a call was made
pub stands_made : (scripted : Bool) (terminals : List TerminalValue) (lines : List ScriptLine) (old new : List Turn) (place next : Place) (call : SiteCall) → place.off ≡ None → new ≡ old ++ call_turns (outside_of old) (place_value lines place) call →
    place_value lines next ≡ place_after (outside_of old) (place_value lines place) call → ∥ HasSteps scripted terminals (lines_value lines) old (place_value lines place) ∥₁ → ∥ HasSteps scripted terminals (lines_value lines) new (place_value lines next) ∥₁
stands_made scripted terminals lines old new place next call off is moves p = ∥∥₁_map p (λ stood.
    subst (λ log. HasSteps scripted terminals (lines_value lines) log (place_value lines next)) (sym is) (subst (HasSteps scripted terminals (lines_value lines) (old ++ call_turns (outside_of old) (place_value lines place) call)) (sym moves) (call_on scripted terminals lines old place call off stood)))

-- memory was refused, and the log has only some of the call's turns
pub part_refused : (scripted : Bool) (terminals : List TerminalValue) (lines : List ScriptLine) (old new : List Turn) (place : Place) (call : SiteCall) (added rest : List Turn) → place.off ≡ None → call_turns (outside_of old) (place_value lines place) call ≡ added ++ rest → new ≡ old ++ added →
    ∥ HasSteps scripted terminals (lines_value lines) old (place_value lines place) ∥₁ → ∥ HasPart scripted terminals (lines_value lines) new ∥₁
part_refused scripted terminals lines old new place call added rest off turns e p = ∥∥₁_map p (λ stood. (
  rest,
  place_after (outside_of old) (place_value lines place) call,
  subst (λ log. HasSteps scripted terminals (lines_value lines) log (place_after (outside_of old) (place_value lines place) call)) (ap (λ t. old ++ t) turns ∙ sym (append_assoc old added rest) ∙ ap (λ l. l ++ rest) (sym e)) (call_on scripted terminals lines old place call off stood),
))

-- nothing is played yet
pub stands_first : (terminals : List TerminalValue) (lines : List PlayedLine) (log : List Turn) (place : Play) → log ≡ [] → place ≡ begins_with terminals lines → ∥ HasSteps true terminals lines log place ∥₁
stands_first terminals lines log place e first = ∣ ([], refl, (e, sym first)) ∣₁

-- the power is there again
pub stands_restarted : (scripted : Bool) (terminals : List TerminalValue) (lines : List ScriptLine) (old new : List Turn) (place next : Place) (kind : ReadImageKind) → place.off ≡ Some kind → new ≡ old ++ Crash (crash_file (image_value kind) (outside_of old)) ∷ [] →
    place_value lines next ≡ restarted (place_value lines place) → ∥ HasSteps scripted terminals (lines_value lines) old (place_value lines place) ∥₁ → ∥ HasSteps scripted terminals (lines_value lines) new (place_value lines next) ∥₁
stands_restarted scripted terminals lines old new place next kind off is moves p = ∥∥₁_map p (λ stood.
    let turns = Crash (crash_file (image_value kind) (outside_of old)) ∷ [] in
    let more = steps_on scripted terminals (lines_value lines) old (old ++ turns) (place_value lines place) (restarted (place_value lines place)) PowerBack refl
    (λ steps leads. power_on (begins_with terminals (lines_value lines)) steps old (place_value lines place) (image_value kind) leads (ap (option_map image_value) off)) stood in
    subst (λ log. HasSteps scripted terminals (lines_value lines) log (place_value lines next)) (sym is) (subst (HasSteps scripted terminals (lines_value lines) (old ++ turns)) (sym moves) more))

pub stands_same : (scripted : Bool) (terminals : List TerminalValue) (lines : List ScriptLine) (old new : List Turn) (place : Place) → new ≡ old → ∥ HasSteps scripted terminals (lines_value lines) old (place_value lines place) ∥₁ → ∥ HasSteps scripted terminals (lines_value lines) new (place_value lines place) ∥₁
stands_same scripted terminals lines old new place e p = subst (λ log. ∥ HasSteps scripted terminals (lines_value lines) log (place_value lines place) ∥₁) (sym e) p

-- the power was set to fail beside the script
pub stands_stopped : (scripted : Bool) (terminals : List TerminalValue) (lines : List ScriptLine) (log : List Turn) (place next : Place) (calls : ℕ) (kind : ImageKind) → place_value lines next ≡ set_to_fail calls kind (place_value lines place) →
    ∥ HasSteps scripted terminals (lines_value lines) log (place_value lines place) ∥₁ → ∥ HasSteps false terminals (lines_value lines) log (place_value lines next) ∥₁
stands_stopped scripted terminals lines log place next calls kind moves p = ∥∥₁_map p (λ stood.
    let (steps, leads) = loosened scripted terminals (lines_value lines) log (place_value lines place) stood in
    subst (HasSteps false terminals (lines_value lines) log) (sym moves) (steps ++ StopAfter calls kind ∷ [], stop_on (begins_with terminals (lines_value lines)) steps log (place_value lines place) calls kind leads))

-- before the first turn a file was put on the disk beside the script
pub stands_held : (scripted : Bool) (terminals : List TerminalValue) (lines : List ScriptLine) (old new : List Turn) (place : Place) (file : List ℕ) → old ≡ [] → new ≡ Crash file ∷ [] → ∥ HasSteps scripted terminals (lines_value lines) old (place_value lines place) ∥₁ →
    ∥ HasSteps false terminals (lines_value lines) new (place_value lines place) ∥₁
stands_held scripted terminals lines old new place file none is p = ∥∥₁_map p (λ stood.
    let (steps, leads) = loosened scripted terminals (lines_value lines) old (place_value lines place) stood in
    let first : ReachesWith terminals (lines_value lines) steps [] (place_value lines place) = subst (λ log. ReachesWith terminals (lines_value lines) steps log (place_value lines place)) none leads in
    subst (λ log. HasSteps false terminals (lines_value lines) log (place_value lines place)) (sym is) (steps ++ Holding file ∷ [], file_on (begins_with terminals (lines_value lines)) steps (place_value lines place) file first))

-- so it was, wherever the site is
pub part_held : (terminals : List TerminalValue) (lines : List PlayedLine) (new : List Turn) (file : List ℕ) → new ≡ Crash file ∷ [] → ∥ HasPart false terminals lines new ∥₁
part_held terminals lines new file is =
    let first = begins_with terminals lines in
    ∣ whole_part false terminals lines new first (subst (λ log. HasSteps false terminals lines log first) (sym is) (Holding file ∷ [], ([], refl, refl, (refl, refl)))) ∣₁

-- ---- disk and connections

pub disk_same : (old new : List Turn) (disk : Disk) → new ≡ old → HasDisk (outside_of old) disk → HasDisk (outside_of new) disk
disk_same old new disk e h = subst (λ log. HasDisk (outside_of log) disk) (sym e) h

pub connections_same : (old new : List Turn) (connections : Connections) → new ≡ old → HasConnections (outside_of old) connections → HasConnections (outside_of new) connections
connections_same old new connections e h = subst (λ log. HasConnections (outside_of log) connections) (sym e) h

-- a power failure leaves no connection
pub crash_clears : (o : Outside) (file : List ℕ) (connections : Connections) → HasConnections (no_run o) connections → HasConnections (outside_after o (Crash file)) connections
crash_clears o file connections h = record { tills = h.tills; next = h.next; links = h.links }

pub there : (old new turns : List Turn) → new ≡ old ++ turns → outside_of new ≡ outside_from (outside_of old) turns
there old new turns e = ap outside_of e ∙ outside_of-append old turns

pub disk_there : (old new turns : List Turn) (disk : Disk) → new ≡ old ++ turns → HasDisk (outside_from (outside_of old) turns) disk → HasDisk (outside_of new) disk
disk_there old new turns disk e h = subst (λ o. HasDisk o disk) (sym (there old new turns e)) h

pub connections_there : (old new turns : List Turn) (connections : Connections) → new ≡ old ++ turns → HasConnections (outside_from (outside_of old) turns) connections → HasConnections (outside_of new) connections
connections_there old new turns connections e h = subst (λ o. HasConnections o connections) (sym (there old new turns e)) h

-- the turns leave the disk
pub record LeaveDisk (turns : List Turn) : Type 0 where
  pub file : (o : Outside) → (outside_from o turns).file ≡ o.file
  pub stable : (o : Outside) → (outside_from o turns).stable ≡ o.stable
  pub written : (o : Outside) → (outside_from o turns).written ≡ o.written

pub disk_left : (o : Outside) (turns : List Turn) (disk : Disk) → LeaveDisk turns → HasDisk o disk → HasDisk (outside_from o turns) disk
disk_left o turns disk leave h = record {
  file = leave.file o ∙ h.file;
  stable = leave.stable o ∙ h.stable;
  ranges = leave.written o ∙ h.ranges;
  kept = λ offset clean. ap (λ file. get_or file offset 0) (leave.file o) ∙ h.kept offset (ap (λ ranges. is_covered ranges offset) (sym (leave.written o)) ∙ clean) ∙ ap (λ file. get_or file offset 0) (sym (leave.stable o));
}

pub disk_stays : (old new turns : List Turn) (disk : Disk) → LeaveDisk turns → new ≡ old ++ turns → HasDisk (outside_of old) disk → HasDisk (outside_of new) disk
disk_stays old new turns disk leave e h = disk_there old new turns disk e (disk_left (outside_of old) turns disk leave h)

-- the turns leave the connections
pub record LeaveConnections (turns : List Turn) : Type 0 where
  pub tills : (o : Outside) → (outside_from o turns).tills ≡ o.tills
  pub next : (o : Outside) → (outside_from o turns).next_till ≡ o.next_till
  pub links : (o : Outside) → (outside_from o turns).links ≡ o.links

pub connections_stay : (old new turns : List Turn) (connections : Connections) → LeaveConnections turns → new ≡ old ++ turns → HasConnections (outside_of old) connections → HasConnections (outside_of new) connections
connections_stay old new turns connections leave e h =
    let o = outside_of old in
    connections_there old new turns connections e (record { tills = ap is_connected (leave.tills o) ∙ h.tills; next = leave.next o ∙ h.next; links = ap is_connected (leave.links o) ∙ h.links })

-- ---- turns by a test

pub open_leaves : (fails : Bool) (setup : Setup) → LeaveDisk (if fails then OpenFailed ∷ [] else Start setup ∷ [])
open_leaves true setup = record { file = λ o. refl; stable = λ o. refl; written = λ o. refl }
open_leaves false setup = record { file = λ o. refl; stable = λ o. refl; written = λ o. refl }

pub open_clears : (o : Outside) (fails : Bool) (setup : Setup) → outside_from o (if fails then OpenFailed ∷ [] else Start setup ∷ []) ≡ no_run o
open_clears o true setup = refl
open_clears o false setup = refl

pub link_leaves : (fails : Bool) (pt : ℕ) → LeaveDisk (if fails then LinkFailed pt ∷ [] else Linked pt ∷ [])
link_leaves true pt = record { file = λ o. refl; stable = λ o. refl; written = λ o. refl }
link_leaves false pt = record { file = λ o. refl; stable = λ o. refl; written = λ o. refl }

pub look_leaves : (fails : Bool) → LeaveDisk (if fails then DiskFailed ∷ [] else [])
look_leaves true = record { file = λ o. refl; stable = λ o. refl; written = λ o. refl }
look_leaves false = record { file = λ o. refl; stable = λ o. refl; written = λ o. refl }

pub look_leaves_connections : (fails : Bool) → LeaveConnections (if fails then DiskFailed ∷ [] else [])
look_leaves_connections true = record { tills = λ o. refl; next = λ o. refl; links = λ o. refl }
look_leaves_connections false = record { tills = λ o. refl; next = λ o. refl; links = λ o. refl }

pub sync_leaves : (fails : Bool) → LeaveConnections (if fails then DiskFailed ∷ [] else Synced ∷ [])
sync_leaves true = record { tills = λ o. refl; next = λ o. refl; links = λ o. refl }
sync_leaves false = record { tills = λ o. refl; next = λ o. refl; links = λ o. refl }

pub write_there : (o : Outside) (fails : Bool) (offset : ℕ) (bytes : List ℕ) (disk : Disk) → HasDisk (outside_after o (Wrote offset bytes)) disk → HasDisk (outside_from o (if fails then Wrote offset bytes ∷ DiskFailed ∷ [] else Wrote offset bytes ∷ [])) disk
write_there o true offset bytes disk h = h
write_there o false offset bytes disk h = h

pub write_leaves : (fails : Bool) (offset : ℕ) (bytes : List ℕ) → LeaveConnections (if fails then Wrote offset bytes ∷ DiskFailed ∷ [] else Wrote offset bytes ∷ [])
write_leaves true offset bytes = record { tills = λ o. refl; next = λ o. refl; links = λ o. refl }
write_leaves false offset bytes = record { tills = λ o. refl; next = λ o. refl; links = λ o. refl }

-- what the log lacks of a write's turns
abbrev pub write_rest : Bool → List Turn
write_rest true = DiskFailed ∷ []
write_rest false = []

pub write_split : (fails : Bool) (offset : ℕ) (bytes : List ℕ) → (if fails then Wrote offset bytes ∷ DiskFailed ∷ [] else Wrote offset bytes ∷ []) ≡ Wrote offset bytes ∷ write_rest fails
write_split true offset bytes = refl
write_split false offset bytes = refl

-- ---- sends

turned : (a b : Bool) → a ≡ not b → b ≡ not a
turned true true e = e
turned true false e = refl
turned false true e = refl
turned false false e = e

pub till_turn : (log : List Turn) (till : ℕ) (sent bytes : List ℕ) (none : Bool) (most : Option ℕ) → sent ≡ sent_of most bytes → is_some most ≡ not none → log ++ SentTill till sent none ∷ [] ≡ log ++ SentTill till (sent_of most bytes) (not (is_some most)) ∷ []
till_turn log till sent bytes none most s n = rw (s, turned (is_some most) none n) refl

pub pt_turn : (log : List Turn) (pt : ℕ) (sent bytes : List ℕ) (none : Bool) (most : Option ℕ) → sent ≡ sent_of most bytes → is_some most ≡ not none → log ++ SentPt pt sent none ∷ [] ≡ log ++ SentPt pt (sent_of most bytes) (not (is_some most)) ∷ []
pt_turn log pt sent bytes none most s n = rw (s, turned (is_some most) none n) refl

-- ---- polls

pub event_leaves : (what : What) (buf : List ℕ) → LeaveDisk (event_turns what buf)
event_leaves (TillOpened till) buf = record { file = λ o. refl; stable = λ o. refl; written = λ o. refl }
event_leaves (TillBytes till count) buf = record { file = λ o. refl; stable = λ o. refl; written = λ o. refl }
event_leaves (TillClosed till) buf = record { file = λ o. refl; stable = λ o. refl; written = λ o. refl }
event_leaves (PtBytes pt count) buf = record { file = λ o. refl; stable = λ o. refl; written = λ o. refl }
event_leaves (PtClosed pt) buf = record { file = λ o. refl; stable = λ o. refl; written = λ o. refl }
event_leaves Nothing buf = record { file = λ o. refl; stable = λ o. refl; written = λ o. refl }
event_leaves StoppedEvent buf = record { file = λ o. refl; stable = λ o. refl; written = λ o. refl }

pub poll_leaves : (now : ℤ) (turns : List Turn) → LeaveDisk turns → LeaveDisk (Polled now ∷ turns)
poll_leaves now turns leave = record { file = λ o. leave.file (outside_after o (Polled now)); stable = λ o. leave.stable (outside_after o (Polled now)); written = λ o. leave.written (outside_after o (Polled now)) }

-- the connections after a poll
pub poll_followed : (o : Outside) (now : ℤ) (old new : Connections) (what : What) (buf : List ℕ) → IsFollowed old new what → HasConnections o old → HasConnections (outside_from o (Polled now ∷ event_turns what buf)) new
poll_followed o now old new what buf f h = followed (outside_after o (Polled now)) old new what buf f (record { tills = h.tills; next = h.next; links = h.links })

passed_due : (o : Outside) (failing : Failing) (p : Play) → (fails_next o failing p).due ≡ p.due
passed_due o failing p = by_test (is_reached o failing)
  where
    by_test : (test : Bool) → (if test then record p { hazard = armed failing p.hazard } else p).due ≡ p.due
    by_test true = refl
    by_test false = refl

passed_off : (o : Outside) (failing : Failing) (p : Play) → (fails_next o failing p).off ≡ p.off
passed_off o failing p = by_test (is_reached o failing)
  where
    by_test : (test : Bool) → (if test then record p { hazard = armed failing p.hazard } else p).off ≡ p.off
    by_test true = refl
    by_test false = refl

not_off : {A : Type 0} (p : Play) (kind : ImageKind) → p.off ≡ None → p.off ≡ Some kind → A
not_off p kind none some = absurd (let h : None ≡ Some kind = sym none ∙ some in cc)

-- where a poll reaches a power failure nothing is due
fell_due : (o : Outside) (p : Play) (lines : List PlayedLine) (kind : ImageKind) → p.due ≡ [] → p.off ≡ None → (met o p lines).off ≡ Some kind → (met o p lines).due ≡ []
fell_due o p [] kind due off fell = not_off p kind off fell
fell_due o p (At now ∷ lines) kind due off fell = fell_due o (record p { moment = now }) lines kind due off fell
fell_due o p (Poll event ∷ lines) kind due off fell = by_test (applies o event) fell (fell_due o p lines kind due off)
  where
    by_test : (test : Bool) → (if test then record p { lines = lines; due = brings event } else met o p lines).off ≡ Some kind → ((met o p lines).off ≡ Some kind → (met o p lines).due ≡ []) →
        (if test then record p { lines = lines; due = brings event } else met o p lines).due ≡ []
    by_test true here later = not_off p kind off here
    by_test false here later = later here
fell_due o p (Fail failing ∷ lines) kind due off fell = fell_due o (fails_next o failing p) lines kind (passed_due o failing p ∙ due) (passed_off o failing p ∙ off) fell
fell_due o p (Power calls image ∷ lines) kind due off fell = by_test (calls == 0) fell (fell_due o (powered calls image p) lines kind due off)
  where
    by_test : (test : Bool) → (if test then is_off image (record p { lines = lines }) else met o (powered calls image p) lines).off ≡ Some kind → ((met o (powered calls image p) lines).off ≡ Some kind → (met o (powered calls image p) lines).due ≡ []) →
        (if test then is_off image (record p { lines = lines }) else met o (powered calls image p) lines).due ≡ []
    by_test true here later = due
    by_test false here later = later here
fell_due o p (ForgetPower ∷ lines) kind due off fell = fell_due o (power_forgotten p) lines kind due off fell

-- the kind of image of a power failure
pub some_image : (off : Option ReadImageKind) → IsSome off → (kind : ImageKind) × (option_map image_value off ≡ Some kind)
some_image None is = absurd (let h : false ≡ true = is in cc)
some_image (Some kind) is = (image_value kind, refl)

-- without an image the power is there
pub none_off : (off : Option ReadImageKind) → is_some off ≡ false → off ≡ None
none_off None is = refl
none_off (Some kind) is = never is

-- where nothing is to come of played terminals, a poll goes on in the lines
pub plain_after : (o : Outside) (p : Play) → p.peers.coming ≡ [] → after_poll o p ≡ met o p p.lines
plain_after o p none = ap (λ events. met_coming o events p) none ∙ ap (λ events. met o (then_coming events p) p.lines) (sym none)

-- the place after a poll that has reached a power failure
pub fell_there : (o : Outside) (lines : List ScriptLine) (place next : Place) (due : List Turn) → place.off ≡ None → IsSome next.off → met o (place_value lines place) (place_value lines place).lines ≡ record (place_value lines next) { due = due } →
    met o (place_value lines place) (place_value lines place).lines ≡ place_value lines next
fell_there o lines place next due on is e =
    let p : Play = place_value lines place in
    let (kind, off) = some_image next.off is in
    let none : due ≡ [] = sym (ap (λ (q : Play). q.due) e) ∙ fell_due o p p.lines kind refl (ap (option_map image_value) on) (ap (λ (q : Play). q.off) e ∙ off) in
    e ∙ ap (λ d. record (place_value lines next) { due = d }) none

-- what is brought, where the connections could follow it
pub if_followed : {E A : Type 0} (followed : Result (Unit {0}) E) (ends : Option Brought) (P : Option Brought → Type 0) → OnOk followed A → (A → P ends) → IfOk (result_and followed (Ok ends)) P
if_followed (Ok done) ends P has goes = goes has
if_followed (Err error) ends P has goes = tt

pub fell_turns : (o : Outside) (p q : Play) (kind : ImageKind) → after_poll o p ≡ q → q.off ≡ Some kind → call_turns o p PollCall ≡ []
fell_turns o p q kind e off = ap (λ m. polled_turns m m.off) e ∙ ap (polled_turns q) off

pub fell_place : (o : Outside) (p q : Play) (kind : ImageKind) → after_poll o p ≡ q → q.off ≡ Some kind → place_after o p PollCall ≡ q
fell_place o p q kind e off = ap (λ m. polled_place m m.off) e ∙ ap (polled_place q) off

pub brought_turns : (o : Outside) (p q : Play) (due : List Turn) → after_poll o p ≡ record q { due = due } → q.off ≡ None → call_turns o p PollCall ≡ Polled q.moment ∷ due
brought_turns o p q due e off = ap (λ m. polled_turns m m.off) e ∙ ap (polled_turns (record q { due = due })) off

pub brought_place : (o : Outside) (p q : Play) (due : List Turn) → after_poll o p ≡ record q { due = due } → q.off ≡ None → place_after o p PollCall ≡ record q { due = [] }
brought_place o p q due e off = ap (λ m. polled_place m m.off) e ∙ ap (polled_place (record q { due = due })) off
