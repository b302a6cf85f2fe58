-- Proof of the contract of `sized_bodies`.
use Rattle.std.proofs.Common.{arith}
use Rattle.gw_site.specs.Outside.{outside_of}
use Rattle.jrn_log.proofs.StepLemmas.{steps-begin, steps-read-all}
use Rattle.jrn_log.proofs.journal.sized_bodies.Goals as goal

pub returns-then-size-le1-clause-steps : goal.returns-then-size-le1-clause-steps
returns-then-size-le1-clause-steps g c = λ before e size. steps-begin c.begin_file.result c.args.slots c.args.size before _ _ (omega (arith, c.if-size-le1.true)) c.begin_file.ensures.disk (c.begin_file.ensures.steps before e)

pub returns-clause-steps : goal.returns-clause-steps
returns-clause-steps g c = λ before e size.
    steps-read-all c.read_bodies.result c.args.slots c.args.size (outside_of before).file before _ _ (omega (arith, c.if-size-le1.false)) (omega (arith, c.if-size-from.false, c.from.ensures)) (c.read_bodies.ensures.reads before e size) (c.read_bodies.ensures.steps before e)
