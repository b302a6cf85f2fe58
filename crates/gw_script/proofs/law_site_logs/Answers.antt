-- Proof of the contract of `law_site_logs`.
use Rattle.std.proofs.Common.{◌∷◌, refl, arith}
use Rattle.std.specs.Prelude.{◌≤◌}
use Rattle.gw_site.specs.declared.turn.Turn.TheVariants.{Start}
use Rattle.gw_script.specs.site.CallExample.{plain}
use Rattle.gw_script.specs.site.Playing.{PlaysLines, Sync}
use Rattle.gw_script.specs.site.RunExample.{failing_lines, failing_turns, plain_lines, plain_turns}
use Rattle.gw_script.proofs.site.ByLinesLemmas.{going-by-lines-plays, plain-lines-go-on}
use Rattle.gw_script.proofs.site.EventLemmas.{run-has-events}
use Rattle.gw_script.proofs.site.LeadsLemmas.{plays-on, prefixes-play, sends-take-theirs}
use Rattle.gw_script.proofs.law_site_logs.Goals as goal

le : 2 ≤ 2
le = omega arith

plain_plays : PlaysLines plain_lines (Start plain ∷ plain_turns)
plain_plays = (_, (Sync, (record { no_event = refl; no_failure = refl; power = refl }, refl), (Sync, (record { no_event = refl; no_failure = refl; power = refl }, refl), (Sync, (record { no_event = refl; no_failure = refl; power = refl }, refl, refl), (Sync, refl, (Sync, (record { no_event = refl; no_failure = refl; power = refl }, tt), (Sync, (record { no_event = refl; no_failure = refl; power = refl }, refl, refl), (Sync, refl, (Sync, record { no_event = refl; no_failure = refl; power = refl }, (Sync, (record { no_event = refl; no_failure = refl; power = refl }, refl, refl), (Sync, refl, refl)))))))))))

failing_plays : PlaysLines failing_lines (Start plain ∷ failing_turns)
failing_plays = (_, (Sync, (record { no_event = refl; no_failure = refl; power = refl }, refl), (Sync, (record { no_event = refl; no_failure = refl; power = refl }, refl, refl), (Sync, refl, (Sync, (record { no_event = refl; no_failure = refl; power = refl }, refl, refl), (Sync, (record { no_event = refl; no_failure = refl; power = refl }, le), (Sync, (record { no_event = refl; no_failure = refl; power = refl }, refl, refl), (Sync, refl, refl))))))))

pub returns : goal.returns
returns c = record {
  plays_on = plays-on;
  prefixes = prefixes-play;
  sends = sends-take-theirs;
  by_lines = plain-lines-go-on;
  lines_play = going-by-lines-plays;
  events = run-has-events;
  plain = record { lines = tt; run = refl; plays = plain_plays; goes = plain-lines-go-on plain_lines plain plain_turns tt refl plain_plays };
  failing = record { run = refl; plays = failing_plays; events = run-has-events failing_lines plain failing_turns refl failing_plays };
}
