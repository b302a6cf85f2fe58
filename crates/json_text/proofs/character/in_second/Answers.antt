-- Proof of the contract of `in_second`.
use Rattle.std.proofs.Common.{arith, sym}
use Rattle.json_text.proofs.CharacterLemmas.{second_four, second_three}
use Rattle.json_text.proofs.character.in_second.Goals as goal

pub returns-in-3 : goal.returns-in-3
returns-in-3 c = second_three c.args.high c.args.owed c.args.bits c.args.byte c.in-Some.value c.in-3.is c.if-bits-lt220.true (sym c.in-Some.ensures)

pub returns-in-4 : goal.returns-in-4
returns-in-4 c = second_four c.args.high c.args.owed c.args.bits c.args.byte c.in-Some.value c.in-4.is (omega arith) (sym c.in-Some.ensures)
