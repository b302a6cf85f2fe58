-- Proof of the contract of `is_within_limits`.
use Rattle.sale_reply.proofs.limits.is_within_limits.Goals as goal

pub returns-in-PrintRequest-clause-within : goal.returns-in-PrintRequest-clause-within
returns-in-PrintRequest-clause-within c =
    let tested = c.are_within_limits.ensures in
    rw c.in-PrintRequest.is
    (λ yes. (c.law_header.ensures, (tested.0 yes).0, (tested.0 yes).1), λ limits. tested.1 (limits.1, limits.2))
