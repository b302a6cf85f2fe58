-- Proof of the contract of `law_device_requests`.
use Rattle.gw_owes.proofs.DeviceLemmas.{each-link-leaves-number, each-request-counts, each-run-counts, each-shown-requested, no-link-requests, only-shown-requested, each-till-gone-leaves-number}
use Rattle.gw_owes.proofs.device_laws.law_device_requests.Goals as goal

pub returns-clause-exactly : goal.returns-clause-exactly
returns-clause-exactly c = each-shown-requested

pub returns-clause-only : goal.returns-clause-only
returns-clause-only c = only-shown-requested

pub returns-clause-links : goal.returns-clause-links
returns-clause-links c = no-link-requests

pub returns-clause-counted : goal.returns-clause-counted
returns-clause-counted c = each-request-counts

pub returns-clause-lost : goal.returns-clause-lost
returns-clause-lost c = each-link-leaves-number

pub returns-clause-along : goal.returns-clause-along
returns-clause-along c = each-run-counts

pub returns-clause-fits : goal.returns-clause-fits
returns-clause-fits c = λ apdu message within is. record { count = (c.law_read_fits.ensures.printed apdu message within is).0; size = (c.law_read_fits.ensures.printed apdu message within is).1 }

pub returns-clause-gone : goal.returns-clause-gone
returns-clause-gone c = each-till-gone-leaves-number
