-- `serve_link` serves chunk after chunk what the whole link comes to.
use Rattle.std.proofs.Common.{◌++◌, List, ℕ, [], Ok, Result, ap, refl, subst, sym, ◌∙◌, arith}
use Rattle.pt_core.specs.Serving.{TerminalValue}
use Rattle.ptscript.specs.declared.fault.Fault.{Fault}
use Rattle.ptscript.specs.declared.played.LinkState.{LinkState}
use Rattle.ptscript.specs.declared.played.LinkState.TheVariants as link
use Rattle.ptscript.specs.inner.Link.{IsHeard, Reacts}
use Rattle.ptscript.proofs.LinkLemmas.{link_after, more_heard, more_reacts, none_written, unheard, whole_link}
use Rattle.ptscript.proofs.played.PlayedTerminal.serve_link.Goals as goal

pub turns-init : goal.turns-init
turns-init g c = (
  refl,
  omega arith,
  [],
  λ all is. (all, refl, is),
  unheard {E = Fault} (g.O.Sink.written c.args.output.now) c.begin_link.new.self.terminal (Ok link.Open) (none_written (g.O.Sink.written c.args.output.now)) (λ setting met. tt),
)

pub turns-preserved : goal.turns-preserved
turns-preserved g c =
    let left = g.I.Source.left c.turns.input in
    let rest = g.I.Source.left c.hear.new.input in
    let between = g.O.Sink.written c.turns.output in
    let after = g.O.Sink.written c.hear.new.output in
    let P : Result LinkState Fault → Type 0 =
    λ r. (heard : List ℕ) × IsHeard r left rest heard × Reacts between after c.takes_turn.new.self.terminal c.hear.new.self.terminal r heard in
    let hears : P (Ok link.Open) = subst P (c.in-Ok-Open.is ∙ ap Ok c.in-Ok-Open.field-0-is) c.hear.ensures.hears in
    let Q : TerminalValue → Type 0 = λ t. Reacts {E = Fault} between after t c.hear.new.self.terminal (Ok link.Open) hears.0 in (
      c.hear.ensures.buf,
      omega (arith, c.hear.ensures.turns, c.takes_turn.ensures.turns, c.turns.invariant.1),
      c.turns.invariant.2 ++ hears.0,
      more_heard {E = Fault} (Ok link.Open) (g.I.Source.left c.args.input.now) left rest c.turns.invariant.2 hears.0 c.turns.invariant.3 hears.1,
      more_reacts {E = Fault} (Ok link.Open) (g.O.Sink.written c.args.output.now) between after c.begin_link.new.self.terminal c.turns.self.terminal c.hear.new.self.terminal c.turns.invariant.2 hears.0
          c.turns.invariant.4 (subst Q c.takes_turn.ensures.terminal hears.2),
    )

pub returns-in_default : goal.returns-in_default
returns-in_default g c =
    let hears = c.in_default.ensures.hears in record {
      turns = omega (arith, c.hear.ensures.turns, c.takes_turn.ensures.turns, c.turns.invariant.1, c.begin_link.ensures.turns);
      serves = link_after {E = Fault} c.law_decode_apdus.ensures.incomplete _ (g.I.Source.left c.args.input.now) (g.I.Source.left c.turns.input) (g.I.Source.left c.hear.new.input)
          (g.O.Sink.written c.args.output.now) (g.O.Sink.written c.turns.output) (g.O.Sink.written c.hear.new.output)
          c.args.self.now.terminal c.begin_link.new.self.terminal c.turns.self.terminal c.takes_turn.new.self.terminal c.hear.new.self.terminal c.turns.invariant.2 hears.0
          c.begin_link.ensures.link c.turns.invariant.3 c.turns.invariant.4 c.takes_turn.ensures.terminal hears.1 hears.2;
    }

pub returns-in_default-2-clause-serves : goal.returns-in_default-2-clause-serves
returns-in_default-2-clause-serves g c =
    let hears = c.hear.ensures.hears in
    link_after {E = Fault} c.law_decode_apdus.ensures.incomplete c.hear.result (g.I.Source.left c.args.input.now) (g.I.Source.left c.turns.input) (g.I.Source.left c.hear.new.input)
    (g.O.Sink.written c.args.output.now) (g.O.Sink.written c.turns.output) (g.O.Sink.written c.hear.new.output)
    c.args.self.now.terminal c.begin_link.new.self.terminal c.turns.self.terminal c.takes_turn.new.self.terminal c.hear.new.self.terminal c.turns.invariant.2 hears.0
    c.begin_link.ensures.link c.turns.invariant.3 c.turns.invariant.4 c.takes_turn.ensures.terminal hears.1 hears.2

pub returns-clause-serves : goal.returns-clause-serves
returns-clause-serves g c =
    let P : TerminalValue → Type 0 = λ t. Reacts {E = Fault} (g.O.Sink.written c.args.output.now) (g.O.Sink.written c.turns.output) c.begin_link.new.self.terminal t (Ok link.Open) c.turns.invariant.2 in
    whole_link {E = Fault} c.law_decode_apdus.ensures.incomplete (Ok link.Open) (g.I.Source.left c.args.input.now) (g.I.Source.left c.turns.input)
    (g.O.Sink.written c.args.output.now) (g.O.Sink.written c.turns.output) c.args.self.now.terminal c.begin_link.new.self.terminal c.takes_turn.new.self.terminal c.turns.invariant.2
    c.begin_link.ensures.link c.turns.invariant.3 (subst P (sym c.takes_turn.ensures.terminal) c.turns.invariant.4)
