-- What the loop of `write_log` keeps.
use Rattle.std.proofs.Common.{◌≤◌}
use Rattle.std.specs.Prelude.{string_bytes}
use Rattle.gw_run.proofs.TextLemmas.{Gathered}
use Rattle.gw_run.proofs.text.write_log.Given as goal

abbrev pub invariant-loop-turn : goal.invariant-loop-turn
invariant-loop-turn g l = record {
  gathered : Gathered l.log l.turn-index (string_bytes l.lines) (g.O.Sink.written l.fn.out) (g.O.Sink.written l.out);
  later : g.O.Sink.faults l.fn.out ≤ g.O.Sink.faults l.out;
}
