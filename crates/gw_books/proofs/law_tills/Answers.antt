-- Proof of the contract of `law_tills`.
use Rattle.gw_books.proofs.TillLemmas.{paid-is-said, refused-is-never-charged, refused-is-said, success-is-booked}
use Rattle.gw_books.proofs.law_tills.Goals as goal

pub returns-clause-success : goal.returns-clause-success
returns-clause-success c = success-is-booked c.law_headline.ensures.headline

pub returns-clause-refused : goal.returns-clause-refused
returns-clause-refused c = refused-is-never-charged c.law_headline.ensures.headline

pub returns-clause-paid : goal.returns-clause-paid
returns-clause-paid c = paid-is-said

pub returns-clause-declined : goal.returns-clause-declined
returns-clause-declined c = refused-is-said
