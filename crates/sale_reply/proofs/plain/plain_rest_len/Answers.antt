-- Proof of the contract of `plain_rest_len`.
use Rattle.std.proofs.Common.{length, drop, replicate, arith}
use Rattle.sale_reply.proofs.PlainLemmas.{rest_plain}
use Rattle.sale_reply.proofs.plain.plain_rest_len.Goals as goal

pub returns-else-plain-rest-clause-plain : goal.returns-else-plain-rest-clause-plain
returns-else-plain-rest-clause-plain c =
    let rest = c.args.rest.now in
    rest_plain rest c.copy_from_slice.new.self (drop (length rest) (replicate 16 32)) c.plain_lanes-plain.result (omega (arith, c.if-plain-rest.false)) c.copy_from_slice.ensures.after c.plain_lanes-plain.ensures
