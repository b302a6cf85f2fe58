-- Closed examples: what calls on sites that play scripts leave in the log, and with which setup runs start.
use Rattle.std.specs.Prelude.{◌≡◌, ℕ, pos, List, [], ◌∷◌, true, false, Option, Some, None}
use Rattle.gw_site.specs.Outside.{outside_of}
use Rattle.gw_site.specs.declared.turn.Turn.{Turn}
use Rattle.gw_site.specs.declared.turn.Turn.TheVariants.{Start, OpenFailed, Polled, Opened, Stopped, Linked, LinkFailed, SentTill, SentPt, Wrote, DiskFailed, Crash}
use Rattle.gw_base.specs.declared.setup.Setup.{Setup}
use Rattle.gw_site.specs.Steps.{New, Junk, OpenCall, PollCall, SendTillCall, SendPtCall, LinkCall, LengthCall, ReadCall, WriteCall, SyncCall, SiteStep, Made, PowerBack, StopAfter, Holding}
use Rattle.gw_script.specs.site.ScriptLine.{Open, Tick, FailOpen, FailLink, FailSendTill, FailSendPt, FailWrite, FailSync, FailLength, FailRead, PlayedLine, At, Poll, Fail, Power, Script, nothing_given, setup_of}
use Rattle.gw_script.specs.site.Hazards.{takes_most}
use Rattle.gw_script.specs.site.Playing.{Play}
use Rattle.gw_script.specs.site.Callers.{IsDoneBy}
use Rattle.gw_script.specs.site.Calls.{CallFits, PlaysBy, Reaches}
use Rattle.gw_script.specs.site.Runs.{PlaysItself, RunsWith}

-- the setup of a script without setup lines
abbrev pub plain : Setup
plain = setup_of nothing_given

-- a failing send takes exactly the lesser of its length and the line's number, and of two lines the lesser number holds; a till that isn't named gets all
abbrev pub SendsTakeExactly : Type 0
SendsTakeExactly = PlaysBy (Poll (Open 1) ∷ Fail (FailSendTill 1 5) ∷ Fail (FailSendTill 1 2) ∷ Poll Tick ∷ Fail (FailSendTill 1 9) ∷ Poll Tick ∷ [])
    (Made (OpenCall plain) ∷ Made PollCall ∷ Made PollCall ∷ Made (SendTillCall 1 (7 ∷ 8 ∷ 9 ∷ [])) ∷ Made (SendTillCall 1 (7 ∷ 8 ∷ 9 ∷ [])) ∷ Made PollCall ∷ Made (SendTillCall 2 (5 ∷ [])) ∷ Made (SendTillCall 1 (7 ∷ 8 ∷ 9 ∷ [])) ∷ [])
    (Start plain ∷ Polled (pos 0) ∷ Opened 1 ∷ Polled (pos 0) ∷ SentTill 1 (7 ∷ 8 ∷ []) false ∷ SentTill 1 (7 ∷ 8 ∷ 9 ∷ []) true ∷ Polled (pos 0) ∷ SentTill 2 (5 ∷ []) true ∷ SentTill 1 (7 ∷ 8 ∷ 9 ∷ []) false ∷ [])

-- no failing send takes fewer
abbrev pub SendsTakeNoFewer : Type 0
SendsTakeNoFewer = ¬ PlaysBy (Poll (Open 1) ∷ Fail (FailSendTill 1 2) ∷ Poll Tick ∷ [])
    (Made (OpenCall plain) ∷ Made PollCall ∷ Made PollCall ∷ Made (SendTillCall 1 (7 ∷ 8 ∷ 9 ∷ [])) ∷ [])
    (Start plain ∷ Polled (pos 0) ∷ Opened 1 ∷ Polled (pos 0) ∷ SentTill 1 (7 ∷ []) false ∷ [])

-- a script in which looks, writes and syncs fail, and then the power
abbrev pub disk_lines : List PlayedLine
disk_lines = Fail FailRead ∷ Fail FailWrite ∷ Fail FailSync ∷ Power 3 (Junk 165) ∷ Poll Tick ∷ []

-- what happens to its site
abbrev pub disk_steps : List SiteStep
disk_steps =
    Made (OpenCall plain) ∷ Made LengthCall ∷ Made (ReadCall 0 4) ∷ Made (ReadCall 0 4) ∷ Made PollCall ∷ Made LengthCall ∷ Made (WriteCall 0 (1 ∷ 2 ∷ [])) ∷ Made SyncCall ∷ Made (WriteCall 1 (3 ∷ [])) ∷ PowerBack ∷ Made LengthCall ∷ []

-- its log
abbrev pub disk_log : List Turn
disk_log = Start plain ∷ DiskFailed ∷ Polled (pos 0) ∷ Wrote 0 (1 ∷ 2 ∷ []) ∷ DiskFailed ∷ DiskFailed ∷ Wrote 1 (3 ∷ []) ∷ Crash (165 ∷ 165 ∷ []) ∷ []

-- looks that succeed leave no turn; those that fail do, and don't count for the power; a write that fails has all its bytes and counts once, as does a sync that fails
abbrev pub LooksAndWrites : Type 0
LooksAndWrites = PlaysBy disk_lines disk_steps disk_log

-- the step of a plan after those that were done
abbrev pub planned : List SiteStep → List SiteStep → Option SiteStep
planned [] done = None
planned (step ∷ plan) [] = Some step
planned (step ∷ plan) (first ∷ done) = planned plan done

-- a gateway that does these steps one after the other, whatever comes of them, has done them with that log
abbrev pub PlanIsDone : Type 0
PlanIsDone = IsDoneBy (λ done log. planned disk_steps done) disk_lines disk_steps disk_log

-- beside the script: a file is put on the disk, and the power fails after two calls, an opening and a write
abbrev pub BesideTheScript : Type 0
BesideTheScript = PlaysBy (Poll Tick ∷ [])
    (Holding (1 ∷ 2 ∷ []) ∷ StopAfter 2 (Junk 165) ∷ Made (OpenCall plain) ∷ Made LengthCall ∷ Made (WriteCall 0 (9 ∷ [])) ∷ PowerBack ∷ Made (OpenCall plain) ∷ Made PollCall ∷ [])
    (Crash (1 ∷ 2 ∷ []) ∷ Start plain ∷ Wrote 0 (9 ∷ []) ∷ Crash (165 ∷ 2 ∷ []) ∷ Start plain ∷ Polled (pos 0) ∷ [])

-- no file is put on the disk over another that was, nor once a run was started
pub record NoFileOverAnother : Type 0 where
  pub twice : (file other : List ℕ) (log : List Turn) → ¬ PlaysBy (Poll Tick ∷ []) (Holding file ∷ Holding other ∷ []) log
  pub started : (file : List ℕ) (log : List Turn) → ¬ PlaysBy (Poll Tick ∷ []) (Made (OpenCall plain) ∷ Holding file ∷ []) log

-- a call that goes on from a place: a sync that fails
pub record SyncGoesOn : Type 0 where
  pub place : Play
  pub reached : Reaches (Fail FailSync ∷ Poll Tick ∷ []) (Made (OpenCall plain) ∷ Made PollCall ∷ []) (Start plain ∷ Polled (pos 0) ∷ []) place
  pub fits : CallFits (outside_of (Start plain ∷ Polled (pos 0) ∷ [])) place SyncCall (DiskFailed ∷ [])

-- a place at which the power has failed
pub record PowerIsOff : Type 0 where
  pub place : Play
  pub reached : Reaches (Power 1 New ∷ Poll Tick ∷ []) (Made (OpenCall plain) ∷ Made PollCall ∷ Made (WriteCall 0 (1 ∷ [])) ∷ []) (Start plain ∷ Polled (pos 0) ∷ Wrote 0 (1 ∷ []) ∷ []) place
  pub off : place.off ≡ Some New

-- a send to a terminal that a fail line names, at a place that is reached
pub record SendToPtIsCut : Type 0 where
  pub place : Play
  pub reached : Reaches (Fail (FailSendPt 0 2) ∷ Poll Tick ∷ []) (Made (OpenCall plain) ∷ Made (LinkCall 0) ∷ Made PollCall ∷ []) (Start plain ∷ Linked 0 ∷ Polled (pos 0) ∷ []) place
  pub named : takes_most place.hazard.fail_pts 0 ≡ Some 2
  pub fits : CallFits (outside_of (Start plain ∷ Linked 0 ∷ Polled (pos 0) ∷ [])) place (SendPtCall 0 (7 ∷ 8 ∷ 9 ∷ [])) (SentPt 0 (7 ∷ 8 ∷ []) false ∷ [])

-- the poll that reaches a power failure leaves no turn; openings and links fail where their lines say so; what a power failure forgets
abbrev pub PollReachesPower : Type 0
PollReachesPower = PlaysBy (Fail FailOpen ∷ Fail (FailLink 0) ∷ At (pos 9) ∷ Poll Tick ∷ Fail (FailLink 0) ∷ Fail FailLength ∷ Power 0 New ∷ [])
    (Made (OpenCall plain) ∷ Made (OpenCall plain) ∷ Made PollCall ∷ Made (LinkCall 0) ∷ Made (LinkCall 0) ∷ Made PollCall ∷ PowerBack ∷ Made (OpenCall plain) ∷ Made LengthCall ∷ Made (LinkCall 0) ∷ Made PollCall ∷ [])
    (OpenFailed ∷ Start plain ∷ Polled (pos 9) ∷ LinkFailed 0 ∷ Linked 0 ∷ Crash [] ∷ Start plain ∷ DiskFailed ∷ Linked 0 ∷ Polled (pos 9) ∷ Stopped ∷ [])

-- a script without lines
abbrev pub no_script : Script
no_script = record { given = nothing_given; lines = [] }

-- the log is the script's own
abbrev pub StartsWithItsOwn : Type 0
StartsWithItsOwn = PlaysItself no_script (Start plain ∷ Polled (pos 0) ∷ Stopped ∷ [])

-- a run that starts with another setup is none of the script's own
abbrev pub OtherSetupIsNotItsOwn : Type 0
OtherSetupIsNotItsOwn = ¬ RunsWith plain (Start (record plain { wait = 61 }) ∷ [])
