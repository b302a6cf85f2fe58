-- What the loop of `serve_link` keeps: the bytes heard so far, and what was sent for them.
use Rattle.std.proofs.Common.{◌≡◌, ◌≤◌, ℕ, List, Ok, length}
use Rattle.ptscript.specs.declared.fault.Fault.{Fault}
use Rattle.ptscript.specs.declared.played.LinkState.TheVariants as link
use Rattle.ptscript.specs.inner.Link.{IsHeard, Reacts}
use Rattle.ptscript.proofs.played.PlayedTerminal.serve_link.Given as goal

abbrev pub invariant-turns : goal.invariant-turns
invariant-turns g l = (length l.buf ≡ 4096) × (l.self.turns ≤ l.initial.self.turns) × (heard : List ℕ) × IsHeard {E = Fault} (Ok link.Open) (g.I.Source.left l.initial.input) (g.I.Source.left l.input) heard
    × Reacts {E = Fault} (g.O.Sink.written l.initial.output) (g.O.Sink.written l.output) l.initial.self.terminal l.self.terminal (Ok link.Open) heard

abbrev pub decreases-turns : goal.decreases-turns
decreases-turns g l = l.self.turns
