-- Proof of the contract of `count`.
use Rattle.std.proofs.Common.{◌≡◌, ◌+◌, length, refl, sym, ap, ◌∙◌, arith}
use Rattle.gw_core.proofs.QueueLemmas.{all-below, at_terminals_below, below-fewer, none-below-zero, one-terminal-more, waits-length}
use Rattle.gw_core.proofs.queues.Queues.count.Goals as goal

pub loop-terminal-init : goal.loop-terminal-init
loop-terminal-init c = rw (none-below-zero c.self.inside.lines) refl

pub overflow_add-count : goal.overflow_add-count
overflow_add-count c =
    let more = one-terminal-more c.loop-terminal.terminal c.self.inside.lines in
    let fewer = below-fewer (c.loop-terminal.terminal + 1) c.self.inside.lines in
    record { fits = omega (arith, c.loop-terminal.invariant, c.count-count.ensures, more, fewer, c.self.invariant.few) }

pub loop-terminal-preserved : goal.loop-terminal-preserved
loop-terminal-preserved c =
    let more = one-terminal-more c.loop-terminal.terminal c.self.inside.lines in
    omega (arith, c.loop-terminal.invariant, c.count-count.ensures, more)

pub returns-clause-count : goal.returns-clause-count
returns-clause-count c =
    let end : c.loop-terminal.terminal ≡ 32 = omega (arith, c.loop-terminal.auto.terminal-end, c.loop-terminal-test.false) in
    rw (← c.self.view_is)
    (c.loop-terminal.invariant
    ∙ ap (λ n. length (at_terminals_below n c.self.inside.lines)) end
    ∙ ap length (all-below c.self.inside.lines (λ one is. (c.self.invariant.places one is).1))
    ∙ sym (waits-length c.self.inside.lines))

pub returns-clause-few : goal.returns-clause-few
returns-clause-few c =
    let fewer = below-fewer c.loop-terminal.terminal c.self.inside.lines in
    omega (arith, c.loop-terminal.invariant, fewer, c.self.invariant.few)
