-- `react_and_print` reacts to the chunk, also where printing fails.
use Rattle.std.proofs.Common.{[], Err, refl, sym, subst, append-nil}
use Rattle.pt_core.specs.Serving.{TerminalValue}
use Rattle.ptscript.specs.declared.fault.Fault.{Fault}
use Rattle.ptscript.specs.declared.fault.Fault.TheVariants as faults
use Rattle.ptscript.specs.inner.Link.{Reacts}
use Rattle.ptscript.proofs.LinkLemmas.{none_part, then_ended, unchanged}
use Rattle.ptscript.proofs.played.PlayedTerminal.react_and_print.Goals as goal

pub returns-in-Err-clause-reacts : goal.returns-in-Err-clause-reacts
returns-in-Err-clause-reacts g c = (
  [],
  (c.args.chunk.now, refl),
  tt,
  unchanged {E = Fault} (g.O.Sink.written c.args.output.now) (g.O.Sink.written c.react.new.output) c.args.self.now.terminal c.react.new.self.terminal (Err faults.Memory)
      c.in-Err.ensures.output c.in-Err.ensures.terminal (none_part (g.O.Sink.written c.args.output.now)) (λ setting met. tt),
)

pub returns-in-Err-print_book-clause-reacts : goal.returns-in-Err-print_book-clause-reacts
returns-in-Err-print_book-clause-reacts g c =
    let P : TerminalValue → Type 0 = λ t. Reacts {E = Fault} (g.O.Sink.written c.args.output.now) (g.O.Sink.written c.react.new.output) c.args.self.now.terminal t (Err c.in-Err-print_book.fault) c.args.chunk.now in (
      c.args.chunk.now,
      ([], sym (append-nil c.args.chunk.now)),
      tt,
      subst P (sym c.print_book.ensures.terminal) (then_ended _ c.in-Err-print_book.fault _ _ _ _ _ c.in-Ok.ensures.reacts),
    )
