-- Proof of the contract of `pass_message`.
use Rattle.sale_ws.proofs.TurnLemmas.{writes-message}
use Rattle.sale_ws.proofs.bridge.pass_message.Goals as goal

pub returns-in-Ok-write-clause-sent : goal.returns-in-Ok-write-clause-sent
returns-in-Ok-write-clause-sent g c = writes-message (g.G.Gate.observed c.args.gate.now).sent (g.G.Gate.observed c.write.new.self).sent c.args.message.now c.deref.result.now
    (let is = c.has_frame.ensures in let has = c.if-not-has_frame.ensures in let yes = c.if-not-has_frame.false in cc)
    (let of = c.in-Ok.ensures in let bytes = c.deref.ensures.value in cc) (rw c.in-Ok-write.is at c.write.ensures.bytes)
