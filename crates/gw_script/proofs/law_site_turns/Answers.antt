-- Proof of the contract of `law_site_turns`.
use Rattle.std.proofs.Common.{refl}
use Rattle.gw_site.specs.Steps.{Junk}
use Rattle.gw_script.specs.site.CallExample.{disk_lines, disk_log, disk_steps}
use Rattle.gw_script.specs.site.StepTurnExample.{disk_parts}
use Rattle.gw_script.proofs.site.StepTurnLemmas.{call-or-power, first-has-its-turns, idle-is-decided, longer-turns-begin, longest-is-taken, more-have-their-turns, step-has-its-turns, steps-have-their-turns}
use Rattle.gw_script.proofs.law_site_turns.Goals as goal

pub returns-clause-idle : goal.returns-clause-idle
returns-clause-idle c = idle-is-decided

pub returns-clause-step : goal.returns-clause-step
returns-clause-step c = step-has-its-turns

pub returns-clause-steps : goal.returns-clause-steps
returns-clause-steps c = steps-have-their-turns

pub returns-clause-first : goal.returns-clause-first
returns-clause-first c = first-has-its-turns

pub returns-clause-more : goal.returns-clause-more
returns-clause-more c = more-have-their-turns

pub returns-clause-either : goal.returns-clause-either
returns-clause-either c = call-or-power

pub returns-clause-begin : goal.returns-clause-begin
returns-clause-begin c = longer-turns-begin

pub returns-clause-longest : goal.returns-clause-longest
returns-clause-longest c = longest-is-taken

pub returns-clause-disk : goal.returns-clause-disk
returns-clause-disk c = record {
  scripted = refl;
  computed = refl;
  in_parts = (steps-have-their-turns.in_parts disk_lines disk_steps disk_parts).1 (refl, refl);
  log_is = refl;
  plays = (steps-have-their-turns.computed disk_lines disk_steps disk_log).1 (refl, refl);
}

pub returns-clause-power : goal.returns-clause-power
returns-clause-power c = record { place = _; scripted = refl; reached = (_, _, (record { no_event = refl; no_failure = refl; power = refl }, refl), refl, (_, _, (record { no_event = refl; no_failure = refl; power = refl }, refl), refl, (_, _, (record { no_event = refl; no_failure = refl; power = refl }, refl), refl, (_, _, (record { no_event = refl; no_failure = refl; power = refl }, refl), refl, (_, _, (record { no_event = refl; no_failure = refl; power = refl }, refl), refl, (_, _, (record { no_event = refl; no_failure = refl; power = refl }, refl), refl, (_, _, (record { no_event = refl; no_failure = refl; power = refl }, refl), refl, (_, _, (record { no_event = refl; no_failure = refl; power = refl }, refl), refl, (_, _, (record { no_event = refl; no_failure = refl; power = refl }, refl), refl, (refl, refl)))))))))); fits = (Junk 165, refl, refl); more = refl; all = refl }

pub returns-clause-write : goal.returns-clause-write
returns-clause-write c = record { place = _; reached = (_, _, (record { no_event = refl; no_failure = refl; power = refl }, refl), refl, (_, _, (record { no_event = refl; no_failure = refl; power = refl }, refl), refl, (refl, refl))); fits = (record { no_event = refl; no_failure = refl; power = refl }, refl); first = refl }

pub returns-clause-dark : goal.returns-clause-dark
returns-clause-dark c = refl

pub returns-clause-beside : goal.returns-clause-beside
returns-clause-beside c = refl
