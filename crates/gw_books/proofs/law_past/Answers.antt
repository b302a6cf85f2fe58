-- A lawful log has one past, and a book that is honest for it is honest for that of each prefix.
use Rattle.gw_books.proofs.PastLawLemmas.{each-has-one-past, honest-for-prefix}
use Rattle.gw_books.proofs.law_past.Goals as goal

pub returns-clause-one : goal.returns-clause-one
returns-clause-one c = each-has-one-past

pub returns-clause-prefix : goal.returns-clause-prefix
returns-clause-prefix c = honest-for-prefix
