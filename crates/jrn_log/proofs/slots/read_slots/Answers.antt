-- Proof of the contract of `read_slots`.
use Rattle.std.proofs.Common.{arith}
use Rattle.jrn_log.proofs.DecodeLemmas.{read_decoded, read_truncated}
use Rattle.jrn_log.proofs.slots.read_slots.Goals as goal

pub returns-clause-bodies : goal.returns-clause-bodies
returns-clause-bodies c = read_decoded c.args.file.now c.bodies_in.result c.bodies_in.ensures.reads

pub returns-clause-truncated : goal.returns-clause-truncated
returns-clause-truncated c =
    read_truncated c.args.slots c.args.file.now c.bodies_in.result (λ long. omega (arith, long, c.from.ensures, c.if-length-from.false)) c.bodies_in.ensures.reads
