-- Proof of the contract of `law_site_powers`.
use Rattle.std.proofs.Common.{refl}
use Rattle.gw_site.specs.Steps.{Old, New}
use Rattle.gw_script.specs.site.Calls.{PlaysBy}
use Rattle.gw_script.specs.site.PowerExample.{twice_lines, twice_log, twice_steps}
use Rattle.gw_script.proofs.site.CallLemmas.{calls-play}
use Rattle.gw_script.proofs.site.PowerLemmas.{each-failure-leaves-fewer, failures-add-up, power-fails-once-per-line}
use Rattle.gw_script.proofs.law_site_powers.Goals as goal

pub returns-clause-per_line : goal.returns-clause-per_line
returns-clause-per_line c = power-fails-once-per-line

pub returns-clause-fewer : goal.returns-clause-fewer
returns-clause-fewer c = each-failure-leaves-fewer

pub returns-clause-sum : goal.returns-clause-sum
returns-clause-sum c = failures-add-up

pub returns-clause-left : goal.returns-clause-left
returns-clause-left c = record {
  place = _;
  reached = (_, _, (record { no_event = refl; no_failure = refl; power = refl }, refl), refl, (_, _, (record { no_event = refl; no_failure = refl; power = refl }, refl), refl, (_, _, (record { no_event = refl; no_failure = refl; power = refl }, refl), refl, (refl, refl))));
  off = refl;
  left = refl;
  left_then = refl;
}

pub returns-clause-twice : goal.returns-clause-twice
returns-clause-twice c =
    let played : PlaysBy twice_lines twice_steps twice_log = (_, (_, _, (record { no_event = refl; no_failure = refl; power = refl }, refl), refl, (_, _, (record { no_event = refl; no_failure = refl; power = refl }, refl), refl, (_, _, (record { no_event = refl; no_failure = refl; power = refl }, refl), refl, (New, _, refl, refl, (_, _, (record { no_event = refl; no_failure = refl; power = refl }, refl), refl, (_, _, (record { no_event = refl; no_failure = refl; power = refl }, refl), refl, (Old, _, refl, refl, (_, _, (record { no_event = refl; no_failure = refl; power = refl }, refl), refl, (_, _, (record { no_event = refl; no_failure = refl; power = refl }, refl), refl, (_, _, (record { no_event = refl; no_failure = refl; power = refl }, refl), refl, (refl, refl)))))))))))) in
    record {
      place = played.0;
      scripted = refl;
      reached = played.1;
      plays = calls-play twice_lines twice_steps twice_log refl played;
      twice = refl;
      as_often = refl;
      left = refl;
    }

pub returns-clause-once : goal.returns-clause-once
returns-clause-once c = record {
  place = _;
  scripted = refl;
  reached = (_, _, (record { no_event = refl; no_failure = refl; power = refl }, refl), refl, (_, _, (record { no_event = refl; no_failure = refl; power = refl }, refl), refl, (_, _, (record { no_event = refl; no_failure = refl; power = refl }, refl), refl, (Old, _, refl, refl, (_, _, (record { no_event = refl; no_failure = refl; power = refl }, refl), refl, (_, _, (record { no_event = refl; no_failure = refl; power = refl }, refl), refl, (refl, refl)))))));
  lines = refl;
  once = refl;
  left = refl;
}
