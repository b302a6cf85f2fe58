-- Proof of the contract of `hear`.
use Rattle.std.proofs.Common.{take}
use Rattle.sale_ws.proofs.TurnLemmas.{hears-chunk, hears-failure, hears-nothing}
use Rattle.sale_ws.proofs.bridge.hear.Goals as goal

pub returns-in-Ok-Some-clause-heard : goal.returns-in-Ok-Some-clause-heard
returns-in-Ok-Some-clause-heard g c = hears-chunk g.W.Wire.observed g.W.Wire.sends (g.G.Gate.observed c.args.gate.now).left (g.G.Gate.observed c.read.new.self).left c.args.wire.now c.bring.new.wire c.args.reader.now c.bring.new.reader (take c.in-Ok-Some.count c.read.new.buf) c.bring.result (rw c.in-Ok-Some.field-0-is at c.in-Ok-Some.ensures.chunk) c.bring.ensures.brought

pub returns-in-Ok-None-clause-heard : goal.returns-in-Ok-None-clause-heard
returns-in-Ok-None-clause-heard g c = hears-nothing _ _ _ _ _ _ (rw c.in-Ok-None.field-0-is at c.in-Ok-None.ensures.chunk)

pub returns-in-Err-clause-heard : goal.returns-in-Err-clause-heard
returns-in-Err-clause-heard g c = hears-failure _ _ _ _ _ _ _ c.in-Err.ensures.chunk
