-- The examples of power failures and of calls on the disk that fail: their scripts are read, and their logs are those of them.
use Rattle.std.proofs.Common.{◌≡◌, List, [], ◌∷◌, ◌++◌, refl, inl, inr, arith}
use Rattle.std.specs.Prelude.{pos, map, Ok}
use Rattle.std.specs.Str.{is_utf8, chars}
use Rattle.std.specs.Fmt.{digits}
use lib.Utf8.{encode}
use Rattle.hex.specs.Hex.{decode_pairs, encode_with}
use Rattle.gw_site.specs.Steps.{Junk, New}
use Rattle.gw_site.specs.declared.turn.Turn.TheVariants.{Start, Polled, Opened, Stopped, Synced, DiskFailed, Crash}
use Rattle.gw_site.proofs.ImageLemmas.{file_image}
use Rattle.gw_script.specs.site.ScriptLine.{Open, FailOpen, FailLength, Poll, Fail, Power, Script, nothing_given}
use Rattle.gw_owes.specs.Calls.{WriteFirstGate}
use Rattle.gw_rules.specs.Acts.{moves_of}
use Rattle.gw_rules.specs.Example.{began, first_file}
use Rattle.gw_rules.specs.Lawful.{IsCourse, turns_of}
use Rattle.gw_rules.specs.View.{Make, at_first}
use Rattle.gw_rules.proofs.CourseLemmas.{course-append}
use Rattle.gw_rules.proofs.TextLemmas.{bytes-tested, setup-formed}
use Rattle.gw_run.specs.PowerExample.{plain_setup, power_script, power_log, unopened_script, unmeasured_script, later_script, later_log, PowerIsOfScript, PowerHasText, UnopenedIsOfScript, UnmeasuredIsOfScript, LaterIsOfScript}
use Rattle.gw_script.specs.site.Decode.{script_of}
use Rattle.gw_run.proofs.ExampleActLemmas.{Doing, Step, acts_of, due-of, before_last, power-of, turns-of}

-- ---- a site that can't be opened

-- the script that was read
abbrev unopened_read : Script
unopened_read = record { given = nothing_given; lines = Fail FailOpen ∷ Poll (Open 1) ∷ [] }

unopened-served : script_of unopened_script ≡ Ok unopened_read
unfolding is_utf8 chars encode decode_pairs
unopened-served = refl

-- the site is opened
abbrev unopened_done : List Doing
unopened_done = Step ∷ []

pub unopened-of-script : UnopenedIsOfScript
unopened-of-script = record {
  script = unopened_read;
  script_is = unopened-served;
  acts = acts_of unopened_done plain_setup unopened_read.lines;
  done = record { lawful = (refl, tt); due = due-of unopened_done plain_setup unopened_read.lines; log_is = refl };
  turns = turns-of unopened_done plain_setup unopened_read.lines;
  ends = inr (inl ([], refl));
  power = power-of unopened_done plain_setup unopened_read.lines refl;
}

-- ---- a length that can't be asked

-- the script that was read
abbrev unmeasured_read : Script
unmeasured_read = record { given = nothing_given; lines = Fail FailLength ∷ Poll (Open 1) ∷ [] }

unmeasured-served : script_of unmeasured_script ≡ Ok unmeasured_read
unfolding is_utf8 chars encode decode_pairs
unmeasured-served = refl

-- the site is opened, the file is synced, and its length is asked
abbrev unmeasured_done : List Doing
unmeasured_done = Step ∷ Step ∷ Step ∷ []

pub unmeasured-of-script : UnmeasuredIsOfScript
unmeasured-of-script = record {
  script = unmeasured_read;
  script_is = unmeasured-served;
  acts = acts_of unmeasured_done plain_setup unmeasured_read.lines;
  done = record { lawful = ((refl, setup-formed), (refl, (inr refl, tt))); due = due-of unmeasured_done plain_setup unmeasured_read.lines; log_is = refl };
  turns = turns-of unmeasured_done plain_setup unmeasured_read.lines;
  ends = inr (inr (Start plain_setup ∷ Synced ∷ [], refl));
  power = power-of unmeasured_done plain_setup unmeasured_read.lines refl;
}

-- ---- a length that can't be asked after a power failure

-- the script that was read
abbrev later_read : Script
later_read = record { given = nothing_given; lines = Poll (Open 1) ∷ Fail FailLength ∷ Power 0 New ∷ Poll (Open 2) ∷ [] }

later-served : script_of later_script ≡ Ok later_read
unfolding is_utf8 chars encode decode_pairs
later-served = refl

-- the site is opened, and its journal in three more steps after the look at its file; the first poll brings a till, the second reaches the power failure; in the next run the file is synced, and its length asked
abbrev later_done : List Doing
later_done = Step ∷ Step ∷ Step ∷ Step ∷ Step ∷ Step ∷ Step ∷ Step ∷ Step ∷ Step ∷ Step ∷ []

later-turns : turns_of (moves_of (acts_of later_done plain_setup later_read.lines)) ≡ later_log
later-turns = refl

later-lawful : IsCourse at_first (map Make later_log)
later-lawful =
    course-append at_first (map Make (began plain_setup ++ Polled (pos 0) ∷ Opened 1 ∷ [])) (map Make (Crash first_file ∷ Start plain_setup ∷ Synced ∷ DiskFailed ∷ []))
    ((refl, setup-formed), (refl, ((WriteFirstGate, refl, refl), (refl, (record { running = refl; calls = refl; items = refl }, ((refl, omega arith), tt))))))
    ((file_image (began plain_setup ++ Polled (pos 0) ∷ Opened 1 ∷ []), bytes-tested first_file refl), ((refl, setup-formed), (refl, (inr refl, tt))))

pub later-of-script : LaterIsOfScript
later-of-script = record {
  script = later_read;
  script_is = later-served;
  acts = acts_of later_done plain_setup later_read.lines;
  done = record { lawful = later-lawful; due = due-of later_done plain_setup later_read.lines; log_is = later-turns };
  turns = turns-of later_done plain_setup later_read.lines;
  ends = inr (inr (before_last later_log, refl));
  power = power-of later_done plain_setup later_read.lines refl;
}

-- ---- a power failure

-- the script that was read
abbrev power_read : Script
power_read = record { given = nothing_given; lines = Power 0 (Junk 65) ∷ Poll (Open 1) ∷ [] }

power-served : script_of power_script ≡ Ok power_read
unfolding is_utf8 chars encode decode_pairs
power-served = refl

-- the site is opened, and its journal; the first poll reaches the power failure; in the next run so again, and then a poll brings a till, and the next the stop
abbrev power_done : List Doing
power_done = Step ∷ Step ∷ Step ∷ Step ∷ Step ∷ Step ∷ Step ∷ Step ∷ Step ∷ Step ∷ Step ∷ Step ∷ Step ∷ Step ∷ []

power-turns : turns_of (moves_of (acts_of power_done plain_setup power_read.lines)) ≡ power_log
power-turns = refl

power-lawful : IsCourse at_first (map Make power_log)
power-lawful =
    course-append at_first (map Make (began plain_setup)) (map Make (Crash first_file ∷ (began plain_setup ++ Polled (pos 0) ∷ Opened 1 ∷ Polled (pos 0) ∷ Stopped ∷ [])))
    ((refl, setup-formed), (refl, ((WriteFirstGate, refl, refl), (refl, tt))))
    ((file_image (began plain_setup), bytes-tested first_file refl), ((refl, setup-formed), (refl, ((WriteFirstGate, refl, refl), (refl, (record { running = refl; calls = refl; items = refl }, ((refl, omega arith), (record { running = refl; calls = refl; items = refl }, (refl, tt)))))))))

pub power-of-script : PowerIsOfScript
power-of-script = record {
  script = power_read;
  script_is = power-served;
  acts = acts_of power_done plain_setup power_read.lines;
  done = record { lawful = power-lawful; due = due-of power_done plain_setup power_read.lines; log_is = power-turns };
  turns = turns-of power_done plain_setup power_read.lines;
  ends = inl (before_last power_log, refl);
  power = power-of power_done plain_setup power_read.lines refl;
}

pub power-has-text : PowerHasText
unfolding digits encode_with
power-has-text = refl
