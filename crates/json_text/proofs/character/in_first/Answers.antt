-- Proof of the contract of `in_first`.
use Rattle.std.proofs.Common.{arith, sym, ◌+◌, ◌*◌}
use Rattle.std.proofs.lemmas.Bool.Decides.{nat_tests}
use Rattle.json_text.proofs.CharacterLemmas.{first_digit, first_no_digit, unit_high, unit_whole, lone_low, hex_range, whole_is, in_code_range}
use Rattle.json_text.proofs.character.in_first.Goals as goal
use Rattle.json_text.proofs.character.in_first.Goals.{in_default-owed-via-in-3+else-contains-2, in_default-owed-via-in_default-1}

pub returns-in_default : goal.returns-in_default
returns-in_default c = first_no_digit c.args.owed c.args.bits c.args.byte c.requires.some (sym c.in_default.ensures)

pub returns-in-1 : goal.returns-in-1
returns-in-1 c =
    let h = c.if-contains.ensures in
    unit_high c.args.owed c.args.bits c.args.byte c.in-Some.value c.in-1.is (sym c.in-Some.ensures) (grind (arith, nat_tests, h), grind (arith, nat_tests, h))

pub returns-in-1-2 : goal.returns-in-1-2
returns-in-1-2 c =
    let h = c.if-contains.ensures in
    let b = c.args.bits * 16 + c.in-Some.value in
    let r = hex_range c.args.byte c.in-Some.value (sym c.in-Some.ensures) in
    whole_is _ _ c.args.byte b c.whole.result c.whole.ensures
    (unit_whole c.args.owed c.args.bits c.args.byte c.in-Some.value c.in-1.is (sym c.in-Some.ensures)
    (in_code_range b (λ lt. grind (arith, nat_tests, h)) (λ le. omega arith) (omega arith)))

pub returns-in-3 : goal.returns-in-3
returns-in-3 c =
    let h = c.if-contains-2.ensures in
    lone_low c.args.owed c.args.bits c.args.byte c.in-Some.value c.in-3.is (sym c.in-Some.ensures) (grind (arith, nat_tests, h)) (grind (arith, nat_tests, h))

pub returns-in_default-owed : goal.returns-in_default-owed
returns-in_default-owed c =
    first_digit c.args.owed c.args.bits c.args.byte c.in-Some.value c.requires (omega arith) (sym c.in-Some.ensures)
    (λ is le.
    elim c.in_default-owed.branch [
      | in_default-owed-via-in-3+else-contains-2 w ↦ (let h = w.if-contains-2.ensures in grind (arith, nat_tests, h))
      | in_default-owed-via-in_default-1 w ↦ omega arith
    ])
