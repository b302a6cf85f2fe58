-- What a till is sent says.
use Rattle.gw_books.proofs.MessageLemmas.{reply-framed, one-message}
use Rattle.gw_books.proofs.SaidLemmas.{each-reply-says}
use Rattle.gw_books.proofs.law_said.Goals as goal

pub returns-clause-framed : goal.returns-clause-framed
returns-clause-framed c = reply-framed

pub returns-clause-one : goal.returns-clause-one
returns-clause-one c = one-message

pub returns-clause-says : goal.returns-clause-says
returns-clause-says c = each-reply-says
