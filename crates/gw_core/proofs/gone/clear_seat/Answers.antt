-- Proof of the contract of `clear_seat`.
use Rattle.std.proofs.Common.{eqb, not, refl, sym, ◌∙◌, arith}
use Rattle.gw_links.specs.Waiting.{Waiting}
use Rattle.gw_core.proofs.QueueLemmas.{fewer-at-seat, left-apart, left-at-seat, none-left-at}
use Rattle.gw_core.proofs.gone.clear_seat.Goals as goal

pub loop-id-smaller : goal.loop-id-smaller
loop-id-smaller g c = rw c.remove.ensures.removed (fewer-at-seat c.args.seat c.in-Some.id c.loop-id.lines c.in-Some.ensures.first)

pub loop-id-preserved : goal.loop-id-preserved
loop-id-preserved g c =
    let fewer = fewer-at-seat c.args.seat c.in-Some.id c.loop-id.lines c.in-Some.ensures.first in
    rw c.remove.ensures.removed
    (record {
      apart = left-apart (λ (w : Waiting). not (eqb w.id c.in-Some.id)) c.loop-id.lines c.loop-id.invariant.apart;
      others = left-at-seat c.args.seat c.in-Some.id c.loop-id.lines c.loop-id.invariant.apart c.in-Some.ensures.first ∙ c.loop-id.invariant.others;
      few = omega (arith, fewer, c.loop-id.invariant.few, c.remove.ensures.few);
    })

pub loop-id-init : goal.loop-id-init
loop-id-init g c = record { apart = c.requires; others = refl; few = omega arith }

pub returns-clause-cleared : goal.returns-clause-cleared
returns-clause-cleared g c = sym (none-left-at c.args.seat c.loop-id.lines c.in_default.ensures.first) ∙ c.loop-id.invariant.others

pub returns-clause-few : goal.returns-clause-few
returns-clause-few g c = omega (arith, c.loop-id.invariant.few, c.add.ensures)
