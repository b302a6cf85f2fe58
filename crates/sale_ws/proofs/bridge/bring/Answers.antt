-- Proof of the contract of `bring`.
use Rattle.sale_ws.proofs.TurnLemmas.{brings-end, brings-fault, brings-messages, brings-without-memory, delivery-has-no-gate-fault}
use Rattle.sale_ws.proofs.bridge.bring.Goals as goal

pub returns-then-is_empty-clause-brought : goal.returns-then-is_empty-clause-brought
returns-then-is_empty-clause-brought g c = brings-end g.W.Wire.observed g.W.Wire.sends c.args.wire.now c.args.reader.now c.args.chunk.now c.if-is_empty.ensures

pub returns-in-Err-clause-brought : goal.returns-in-Err-clause-brought
returns-in-Err-clause-brought g c = brings-without-memory g.W.Wire.observed g.W.Wire.sends c.args.wire.now c.args.reader.now c.feed.new.self c.args.chunk.now c.if-is_empty.ensures

pub returns-in-Ok-deliver-clause-brought : goal.returns-in-Ok-deliver-clause-brought
returns-in-Ok-deliver-clause-brought g c = brings-messages g.W.Wire.observed g.W.Wire.sends c.args.wire.now c.deliver.new.wire c.args.reader.now c.args.chunk.now c.feed.new.self c.deliver.new.reader c.if-is_empty.ensures c.in-Ok.ensures.ok c.in-Ok-deliver.ensures.delivered

pub returns-in-Err-deliver-clause-brought : goal.returns-in-Err-deliver-clause-brought
returns-in-Err-deliver-clause-brought g c = brings-fault g.W.Wire.observed g.W.Wire.sends c.args.wire.now c.deliver.new.wire c.args.reader.now c.args.chunk.now c.feed.new.self c.deliver.new.reader c.in-Err-deliver.fault c.if-is_empty.ensures c.in-Ok.ensures.ok c.in-Err-deliver.ensures.delivered

pub returns-in-Err-deliver-clause-fault : goal.returns-in-Err-deliver-clause-fault
returns-in-Err-deliver-clause-fault g c = λ is. delivery-has-no-gate-fault g.W.Wire.observed g.W.Wire.sends c.args.wire.now c.deliver.new.wire c.feed.new.self c.deliver.new.reader c.in-Err-deliver.fault c.in-Err-deliver.ensures.delivered cc
