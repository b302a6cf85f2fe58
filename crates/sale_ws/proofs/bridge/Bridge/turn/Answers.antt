-- Proof of the contract of `Bridge::turn`.
use Rattle.sale_ws.proofs.TurnLemmas.{turn-heard-end, turn-heard-messages, turn-heard-nothing, turn-hearing-failed, turn-not-passed, turn-read-failed, turn-socket-ended, turn-without-memory}
use Rattle.sale_ws.proofs.bridge.Bridge.turn.Goals as goal

pub returns-in-Err-Failed-clause-turn : goal.returns-in-Err-Failed-clause-turn
returns-in-Err-Failed-clause-turn g c = turn-read-failed _ _ _ _ _ _ (rw c.in-Err-Failed.field-0-is at c.in-Err-Failed.ensures.reads) c.in-Err-Failed.ensures.got

pub returns-in-Err-Memory-clause-turn : goal.returns-in-Err-Memory-clause-turn
returns-in-Err-Memory-clause-turn g c = turn-without-memory _ _ _ _ _ _ (rw c.in-Err-Memory.field-0-is at c.in-Err-Memory.ensures.reads) c.in-Err-Memory.ensures.got

pub returns-then-is_end-clause-turn : goal.returns-then-is_end-clause-turn
returns-then-is_end-clause-turn g c = turn-socket-ended _ _ _ _ _ _ _ (c.is_end.ensures.0 c.if-is_end.true) c.in-Ok.ensures.reads c.in-Ok.ensures.got

pub returns-in-Err-clause-turn : goal.returns-in-Err-clause-turn
returns-in-Err-clause-turn g c = turn-not-passed _ _ _ _ _ _ _ _ _ (λ is. let yes = c.is_end.ensures.1 is in let none = c.if-is_end.false in cc) c.in-Ok.ensures.reads c.in-Ok.ensures.got c.in-Err.ensures.sent c.in-Err.ensures.left c.in-Err.ensures.passed

pub returns-in-Ok-Nothing-clause-turn : goal.returns-in-Ok-Nothing-clause-turn
returns-in-Ok-Nothing-clause-turn g c = turn-heard-nothing _ _ _ _ _ _ _ _ _ _ _ _ (record {
  not_end = λ is. let yes = c.is_end.ensures.1 is in let none = c.if-is_end.false in cc;
  read = c.in-Ok.ensures.reads;
  takes = c.in-Ok.ensures.got;
  adds = c.in-Ok-pass_on.ensures.sent;
  left = c.in-Ok-pass_on.ensures.left;
  passed = c.in-Ok-pass_on.ensures.passed;
}) c.in-Ok-Nothing.ensures.sent c.is_nothing-self.ensures (rw c.in-Ok-Nothing.field-0-is at c.in-Ok-Nothing.ensures.heard)

pub returns-in-Ok-Messages-clause-turn : goal.returns-in-Ok-Messages-clause-turn
returns-in-Ok-Messages-clause-turn g c = turn-heard-messages _ _ _ _ _ _ _ _ _ _ _ (record {
  not_end = λ is. let yes = c.is_end.ensures.1 is in let none = c.if-is_end.false in cc;
  read = c.in-Ok.ensures.reads;
  takes = c.in-Ok.ensures.got;
  adds = c.in-Ok-pass_on.ensures.sent;
  left = c.in-Ok-pass_on.ensures.left;
  passed = c.in-Ok-pass_on.ensures.passed;
}) c.in-Ok-Messages.ensures.sent (rw c.in-Ok-Messages.field-0-is at c.in-Ok-Messages.ensures.heard)

pub returns-in-Ok-Ended-clause-turn : goal.returns-in-Ok-Ended-clause-turn
returns-in-Ok-Ended-clause-turn g c = turn-heard-end _ _ _ _ _ _ _ _ _ _ _ (record {
  not_end = λ is. let yes = c.is_end.ensures.1 is in let none = c.if-is_end.false in cc;
  read = c.in-Ok.ensures.reads;
  takes = c.in-Ok.ensures.got;
  adds = c.in-Ok-pass_on.ensures.sent;
  left = c.in-Ok-pass_on.ensures.left;
  passed = c.in-Ok-pass_on.ensures.passed;
}) c.in-Ok-Ended.ensures.sent (rw c.in-Ok-Ended.field-0-is at c.in-Ok-Ended.ensures.heard)

pub returns-clause-turn : goal.returns-clause-turn
returns-clause-turn g c =
    turn-hearing-failed g.W.Wire.observed g.W.Wire.reads g.W.Wire.sends g.G.Gate.observed c.args.self.now c.read.new.self c.hear.new.wire c.pass_on.new.gate c.hear.new.gate c.hear.new.reader c.in-Ok.got c.in-Err-hear.fault
    (record {
      not_end = λ is. let yes = c.is_end.ensures.1 is in let none = c.if-is_end.false in cc;
      read = c.in-Ok.ensures.reads;
      takes = c.in-Ok.ensures.got;
      adds = c.in-Ok-pass_on.ensures.sent;
      left = c.in-Ok-pass_on.ensures.left;
      passed = c.in-Ok-pass_on.ensures.passed;
    }) c.in-Err-hear.ensures.sent c.in-Err-hear.ensures.heard
