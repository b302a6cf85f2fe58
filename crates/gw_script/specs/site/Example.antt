-- Closed examples: a script with a line of each form, lines that are wrong, and logs that play scripts.
use Rattle.std.specs.Prelude.{◌≡◌, ℕ, pos, List, [], ◌∷◌, ◌++◌, Some, Ok, Err, true, false, codes}
use Rattle.std.specs.List.{AllByRecursion}
use Rattle.gw_base.specs.declared.currency.Currency.TheVariants.{Eur, Chf}
use Rattle.gw_base.specs.declared.setup.Pt.{Pt}
use Rattle.gw_site.specs.declared.turn.Turn.TheVariants.{Start, OpenFailed, Polled, Opened, Stopped, LinkFailed, SentTill, CutTill, Wrote, Synced, DiskFailed, Crash}
use Rattle.sale_frame.specs.Grammar.{frame}
use Rattle.gw_site.specs.Steps.{Old, New, Junk}
use Rattle.gw_script.specs.site.ScriptLine.{Open, Close, FromTill, FromPt, Lose, Tick, FailOpen, FailLink, FailSendTill, FailSendPt, FailWrite, FailSync, FailLength, FailRead, PlayedLine, At, Poll, Fail, Power, nothing_given, setup_of}
use Rattle.gw_script.specs.site.Decode.{script_of}
use Rattle.gw_script.specs.site.Grammar.{ended_lines}
use Rattle.gw_script.specs.site.Playing.{PlaysLines}

-- ---- what is read

-- a script with a line of each form; the last has no end
abbrev pub all_forms : List ℕ
all_forms = ended_lines (
    codes "# two terminals" ∷ codes "name HALL" ∷ codes "line 3" ∷ codes "wait 3600" ∷ [] ∷ codes "slots 2"
    ∷ codes "terminal T1 EUR 123456 186 131" ∷ codes "terminal T2 CHF 000000 0 255"
    ∷ codes "at 60" ∷ codes "open 1" ∷ codes "till 1 00000002" ∷ codes "say 1 {}" ∷ codes "pt 1 80aB00" ∷ codes "lost 1" ∷ codes "close 1"
    ∷ codes "fail open" ∷ codes "fail link 0" ∷ codes "fail send-till 2 0" ∷ codes "fail send-pt 1 4"
    ∷ codes "fail write" ∷ codes "fail sync" ∷ codes "fail length" ∷ codes "fail read"
    ∷ codes "power 0 old" ∷ codes "power 1 new" ∷ codes "power 12 junk a5" ∷ []) ++ codes "tick"

-- the terminals of that script
abbrev pub all_forms_terminals : List Pt
all_forms_terminals =
    record { poi = codes "T1"; address = []; password = 18 ∷ 52 ∷ 86 ∷ []; currency = Eur; config = 186; none = 131; answer = 5; command = 180 }
    ∷ record { poi = codes "T2"; address = []; password = 0 ∷ 0 ∷ 0 ∷ []; currency = Chf; config = 0; none = 255; answer = 5; command = 180 }
    ∷ []

-- the lines of that script that are played
abbrev pub all_forms_lines : List PlayedLine
all_forms_lines =
    At (pos 60) ∷ Poll (Open 1) ∷ Poll (FromTill 1 (0 ∷ 0 ∷ 0 ∷ 2 ∷ [])) ∷ Poll (FromTill 1 (frame (codes "{}"))) ∷ Poll (FromPt 1 (128 ∷ 171 ∷ 0 ∷ [])) ∷ Poll (Lose 1) ∷ Poll (Close 1)
    ∷ Fail FailOpen ∷ Fail (FailLink 0) ∷ Fail (FailSendTill 2 0) ∷ Fail (FailSendPt 1 4) ∷ Fail FailWrite ∷ Fail FailSync ∷ Fail FailLength ∷ Fail FailRead
    ∷ Power 0 Old ∷ Power 1 New ∷ Power 12 (Junk 165) ∷ Poll Tick ∷ []

-- a line of each form is read so
abbrev pub AllFormsAreRead : Type 0
AllFormsAreRead = script_of all_forms ≡ Ok (record {
  given = record { name = Some (codes "HALL"); queue = Some 3; wait = Some 3600; slots = Some 2; terminals = all_forms_terminals };
  lines = all_forms_lines;
})

-- without a setup line the defaults hold
abbrev pub DefaultsHold : Type 0
DefaultsHold = setup_of nothing_given ≡ record { name = codes "GATEWAY"; listen = []; journal = []; line = 0; wait = 60; slots = 1000000; terminals = [] }

-- these lines are each wrong by themselves
abbrev pub wrong_lines : List (List ℕ)
wrong_lines =
    codes "ticks" ∷ codes "tick " ∷ codes " tick" ∷ codes "open" ∷ codes "open 01" ∷ codes "open +1" ∷ codes "open 1 " ∷ codes "open 18446744073709551616"
    ∷ codes "name " ∷ codes "name A B" ∷ codes "line 9" ∷ codes "wait 0" ∷ codes "wait 3601" ∷ codes "slots 1" ∷ codes "slots 1000001"
    ∷ codes "terminal T1 EUR 12345 186 131" ∷ codes "terminal T1 EUR 12345A 186 131" ∷ codes "terminal T1 EUX 123456 186 131" ∷ codes "terminal T1 EUR 123456 256 131" ∷ codes "terminal T1 EUR 123456 186"
    ∷ codes "at 253370764801" ∷ codes "till 1 " ∷ codes "till 1 0" ∷ codes "till 1 0g" ∷ codes "say 1 " ∷ codes "pt 65536 00" ∷ codes "lost 65536"
    ∷ codes "fail" ∷ codes "fail poll" ∷ codes "fail link" ∷ codes "fail link 65536" ∷ codes "fail send-till 1" ∷ codes "fail send-pt 1 2 3" ∷ codes "fail write 1"
    ∷ codes "power 1" ∷ codes "power 1 junk" ∷ codes "power 1 junk a" ∷ codes "power 1 junk a5a5" ∷ codes "power 1 older"
    ∷ (35 ∷ 255 ∷ []) ∷ (codes "tick" ++ 13 ∷ []) ∷ []

-- each of them is reported
abbrev pub WrongLinesAreReported : Type 0
WrongLinesAreReported = AllByRecursion (λ line. script_of (ended_lines (line ∷ codes "tick" ∷ [])) ≡ Err 1) wrong_lines

-- texts whose last line may not come there, with its number
abbrev pub MisplacedAreReported : Type 0
MisplacedAreReported = AllByRecursion (λ lines. script_of (ended_lines (codes "tick" ∷ lines)) ≡ Err 2)
    ((codes "name A" ∷ []) ∷ (codes "line 1" ∷ []) ∷ (codes "terminal T1 EUR 123456 186 131" ∷ []) ∷ [])

-- a setup line that may come once, and a terminal's POIID, come twice
abbrev pub TwiceIsReported : Type 0
TwiceIsReported = AllByRecursion (λ line. script_of (ended_lines (line ∷ codes "# again" ∷ line ∷ [])) ≡ Err 3)
    (codes "name A" ∷ codes "line 1" ∷ codes "wait 1" ∷ codes "slots 2" ∷ codes "terminal T1 EUR 123456 186 131" ∷ [])

-- ---- what is played

-- the power fails after two calls: the file of then has the byte wherever one was written since the sync, and the script goes on
abbrev pub PowerFailsAfterTwo : Type 0
PowerFailsAfterTwo = PlaysLines (At (pos 7) ∷ Poll Tick ∷ Power 2 (Junk 165) ∷ Poll (Open 4) ∷ Poll (Open 4) ∷ [])
    (Start (setup_of nothing_given) ∷ Wrote 0 (1 ∷ 2 ∷ 3 ∷ []) ∷ Synced ∷ Polled (pos 7)
    ∷ Polled (pos 7) ∷ Opened 4 ∷ Wrote 1 (9 ∷ []) ∷ CutTill 4 ∷ Crash (1 ∷ 165 ∷ 3 ∷ [])
    ∷ Start (setup_of nothing_given) ∷ Polled (pos 7) ∷ Opened 4 ∷ Polled (pos 7) ∷ Stopped ∷ [])

-- the power fails at once: before the first poll, and after the last event
abbrev pub PowerFailsAtOnce : Type 0
PowerFailsAtOnce = PlaysLines (Power 0 Old ∷ Poll (Close 1) ∷ Poll Tick ∷ Power 0 New ∷ [])
    (Start (setup_of nothing_given) ∷ Wrote 0 (1 ∷ []) ∷ Crash [] ∷ Start (setup_of nothing_given) ∷ Polled (pos 0) ∷ Wrote 0 (1 ∷ []) ∷ Crash (1 ∷ [])
    ∷ Start (setup_of nothing_given) ∷ Polled (pos 0) ∷ Stopped ∷ [])

-- where two fail lines name one till the lesser number holds, and both are used up; one that names a till that isn't there is skipped
abbrev pub SendsFail : Type 0
SendsFail = PlaysLines (Fail (FailSendTill 1 0) ∷ Poll (Open 1) ∷ Fail (FailSendTill 1 5) ∷ Fail (FailSendTill 1 3) ∷ Poll Tick ∷ [])
    (Start (setup_of nothing_given) ∷ Polled (pos 0) ∷ Opened 1 ∷ Polled (pos 0) ∷ SentTill 1 (1 ∷ 2 ∷ 3 ∷ []) false ∷ SentTill 1 (1 ∷ 2 ∷ 3 ∷ 4 ∷ []) true ∷ CutTill 1 ∷ Polled (pos 0) ∷ Stopped ∷ [])

-- opens and looks fail before the first poll where their lines come before it, and later ones where a poll has passed theirs
abbrev pub EarlyLinesFail : Type 0
EarlyLinesFail = PlaysLines (Fail (FailLink 0) ∷ Fail FailOpen ∷ Power 1 New ∷ Fail FailLength ∷ Poll Tick ∷ Fail FailLength ∷ Poll Tick ∷ [])
    (OpenFailed ∷ Start (setup_of nothing_given) ∷ Synced ∷ DiskFailed ∷ Start (setup_of nothing_given) ∷ Polled (pos 0) ∷ LinkFailed 0 ∷ Crash []
    ∷ Start (setup_of nothing_given) ∷ Synced ∷ Polled (pos 0) ∷ DiskFailed ∷ [])

-- a failed write is whole and counts once for the power, and its failure comes next
abbrev pub WritesFail : Type 0
WritesFail = PlaysLines (Fail FailWrite ∷ Power 2 New ∷ Poll Tick ∷ [])
    (Start (setup_of nothing_given) ∷ Polled (pos 0) ∷ Synced ∷ Wrote 0 (7 ∷ 8 ∷ []) ∷ DiskFailed ∷ Crash (7 ∷ 8 ∷ []) ∷ Start (setup_of nothing_given) ∷ Polled (pos 0) ∷ Stopped ∷ [])

-- no log has a whole sync where it is to fail
abbrev pub SyncMustFail : Type 0
SyncMustFail = ¬ PlaysLines (Fail FailSync ∷ Poll Tick ∷ []) (Start (setup_of nothing_given) ∷ Polled (pos 0) ∷ Synced ∷ [])

-- no log has the power failure a call later
abbrev pub PowerFailsNoLater : Type 0
PowerFailsNoLater = ¬ PlaysLines (Power 1 New ∷ Poll Tick ∷ []) (Start (setup_of nothing_given) ∷ Polled (pos 0) ∷ Synced ∷ Synced ∷ [])

-- a till isn't opened with the number of an earlier one
abbrev pub NumbersRise : Type 0
NumbersRise = ¬ PlaysLines (Poll (Open 2) ∷ Poll (Open 1) ∷ []) (Start (setup_of nothing_given) ∷ Polled (pos 0) ∷ Opened 2 ∷ Polled (pos 0) ∷ Opened 1 ∷ [])
