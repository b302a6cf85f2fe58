-- Proof of the contract of `settled_fits`.
use Rattle.std.proofs.Common.{◌∙◌, sym}
use Rattle.ledger_tests.proofs.adding_tests.settled_fits.Goals as goal

pub returns-in-None : goal.returns-in-None
returns-in-None c = λ yes.
    c.law_fits.ensures.settled c.args.ledger.now.records c.law_folded.ensures c.args.settled.now (sym c.find.ensures ∙ c.in-None.is)
