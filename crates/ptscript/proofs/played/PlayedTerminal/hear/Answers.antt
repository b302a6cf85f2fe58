-- `hear` hears nothing where a read fails, or where nothing is left.
use Rattle.std.proofs.Common.{[], Ok, refl}
use Rattle.ptscript.specs.declared.fault.Fault.{Fault}
use Rattle.ptscript.specs.declared.played.LinkState.TheVariants as link
use Rattle.ptscript.proofs.LinkLemmas.{none_part, none_written, unheard}
use Rattle.ptscript.proofs.played.PlayedTerminal.hear.Goals as goal

pub returns-in-Err-clause-hears : goal.returns-in-Err-clause-hears
returns-in-Err-clause-hears g c = (
  [],
  λ all is. (all, refl),
  unheard {E = Fault} (g.O.Sink.written c.args.output.now) c.args.self.now.terminal (Ok link.Failed) (none_part (g.O.Sink.written c.args.output.now)) (λ setting met. tt),
)

pub returns-in-Ok-eq0-clause-hears : goal.returns-in-Ok-eq0-clause-hears
returns-in-Ok-eq0-clause-hears g c = (
  [],
  λ all is. c.in-Ok-eq0.ensures.end c.in-Ok-eq0.field-0-test all is,
  unheard {E = Fault} (g.O.Sink.written c.args.output.now) c.args.self.now.terminal (Ok link.ClosedByGateway) (none_written (g.O.Sink.written c.args.output.now)) (λ setting met. tt),
)
