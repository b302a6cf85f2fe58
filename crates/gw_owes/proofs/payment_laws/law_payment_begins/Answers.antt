-- Proof of the contract of `law_payment_begins`.
use Rattle.gw_owes.proofs.AskedLemmas.{each-accepted-begins}
use Rattle.gw_owes.proofs.BeginLawLemmas.{each-begun-reversed, each-begun-served, each-kept-first, each-intent-asked, each-next-reversed, each-next-served}
use Rattle.gw_owes.proofs.payment_laws.law_payment_begins.Goals as goal

pub returns-clause-kept_first : goal.returns-clause-kept_first
returns-clause-kept_first c = each-kept-first

pub returns-clause-asked : goal.returns-clause-asked
returns-clause-asked c = each-intent-asked

pub returns-clause-begins : goal.returns-clause-begins
returns-clause-begins c = each-accepted-begins

pub returns-clause-served : goal.returns-clause-served
returns-clause-served c = each-begun-served

pub returns-clause-reversed : goal.returns-clause-reversed
returns-clause-reversed c = each-begun-reversed

pub returns-clause-next_served : goal.returns-clause-next_served
returns-clause-next_served c = each-next-served

pub returns-clause-next_reversed : goal.returns-clause-next_reversed
returns-clause-next_reversed c = each-next-reversed
