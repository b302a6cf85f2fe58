-- Proof of the contract of `outcome_fits`.
use Rattle.std.proofs.Common.{◌≡◌, ◌<◌, ◌∙◌, sym, arith}
use Rattle.std.proofs.lemmas.Bool.Decides.{nat_tests}
use Rattle.ledger_tests.proofs.adding_tests.outcome_fits.Goals as goal

pub returns-else-outcome-entry : goal.returns-else-outcome-entry
returns-else-outcome-entry c = λ yes.
    let same : c.args.outcome.now.slot ≡ c.in-Some.entry.slot = grind (arith, nat_tests) in
    let lt : c.in-Some.entry.intent.before < c.args.outcome.now.number = grind (arith, nat_tests) in
    c.law_fits.ensures.outcome c.args.ledger.now.records c.law_folded.ensures c.args.poi.now c.in-Some.entry c.args.outcome.now
    (sym c.open_at.ensures ∙ c.in-Some.is) same (λ approved. lt)
