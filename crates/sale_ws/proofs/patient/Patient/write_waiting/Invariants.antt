-- What the loop of `Patient::write_waiting` keeps: no wait is taken back.
use Rattle.std.proofs.Common.{◌≤◌}
use Rattle.sale_ws.proofs.patient.Patient.write_waiting.Given as goal

abbrev pub invariant-loop : goal.invariant-loop
invariant-loop l = l.initial.self.waits ≤ l.self.waits
