-- Proof of the contract of `payment_fits`.
use Rattle.std.proofs.Common.{◌≤◌, ◌∙◌, sym, arith}
use Rattle.std.proofs.lemmas.Bool.Decides.{nat_tests}
use Rattle.ledger_tests.proofs.adding_tests.payment_fits.Goals as goal

pub returns : goal.returns
returns c = λ yes.
    let le : c.last_number.result ≤ c.args.intent.now.before = grind (arith, nat_tests) in
    c.law_fits.ensures.payment c.args.ledger.now.records c.law_folded.ensures c.args.intent.now c.in-Payment.is (sym c.find.ensures ∙ c.in-None.is)
    (sym c.open_at.ensures ∙ c.in-None-open_at.is) (omega (arith, le, c.last_number.ensures))
