-- Proof of the contract of `first_at`.
use Rattle.std.proofs.Common.{sym, arith, None}
use Rattle.gw_links.specs.declared.link.Order.TheVariants.{Terminal}
use Rattle.gw_links.specs.Waiting.{at_terminal}
use Rattle.gw_links.specs.inner.Table.{next_in, prev_in, ends_at, accepted_in}
use Rattle.gw_links.proofs.ChainLemmas.{next_first}
use Rattle.gw_links.proofs.FindLemmas.{no_terminal}
use Rattle.gw_links.proofs.lines.Lines.first_at.Goals as goal

pub returns-then-terminal-ge-MOST_TERMINALS : goal.returns-then-terminal-ge-MOST_TERMINALS
returns-then-terminal-ge-MOST_TERMINALS c =
    rw (← c.self.view_is) (sym (no_terminal _ _ _ _ _ _ c.self.invariant c.args.terminal (omega arith)))

pub returns : goal.returns
returns c =
    rw (← c.self.view_is, c.from-terminal.ensures) (next_first (next_in Terminal c.self.inside.nodes (ends_at c.self.inside.terminals c.args.terminal)) (prev_in Terminal c.self.inside.nodes (ends_at c.self.inside.terminals c.args.terminal)) None (at_terminal c.args.terminal (accepted_in c.self.inside.nodes c.self.inside.accepted)) (c.self.invariant.by_terminal c.args.terminal (omega arith)))
