-- The payment that is found fits a status, as each entry does.
use Rattle.std.proofs.Common.{Option, sym, subst}
use Rattle.std.specs.Prelude.{IfSome, IsTrue}
use Rattle.pt_core.specs.declared.book.BookEntry.{BookEntry}
use Rattle.pt_core.specs.Book.{fits_status}
use Rattle.pt_core.proofs.BookLemmas.{last_payment_fits}
use Rattle.pt_core.proofs.requests.last_payment.Goals as goal

pub returns-clause-fits : goal.returns-clause-fits
returns-clause-fits c =
    let Fits : Option BookEntry → Type 0 = λ o. IfSome o (λ e. IsTrue (fits_status e)) in
    subst Fits (sym c.find_payment.ensures) (last_payment_fits c.args.receipt c.args.entries.now c.requires)
