-- Proof of the contract of `first_at_seat`.
use Rattle.std.proofs.Common.{sym, arith, None}
use Rattle.gw_links.specs.declared.link.Order.TheVariants.{Till}
use Rattle.gw_links.specs.Waiting.{of_seat}
use Rattle.gw_links.specs.inner.Table.{next_in, prev_in, ends_at, accepted_in}
use Rattle.gw_links.proofs.ChainLemmas.{next_first}
use Rattle.gw_links.proofs.FindLemmas.{no_seat}
use Rattle.gw_links.proofs.lines.Lines.first_at_seat.Goals as goal

pub returns-then-seat-ge-MOST_TILLS : goal.returns-then-seat-ge-MOST_TILLS
returns-then-seat-ge-MOST_TILLS c =
    rw (← c.self.view_is) (sym (no_seat _ _ _ _ _ _ c.self.invariant c.args.seat (omega arith)))

pub returns : goal.returns
returns c =
    rw (← c.self.view_is, c.from-seat.ensures) (next_first (next_in Till c.self.inside.nodes (ends_at c.self.inside.tills c.args.seat)) (prev_in Till c.self.inside.nodes (ends_at c.self.inside.tills c.args.seat)) None (of_seat c.args.seat (accepted_in c.self.inside.nodes c.self.inside.accepted)) (c.self.invariant.by_seat c.args.seat (omega arith)))
