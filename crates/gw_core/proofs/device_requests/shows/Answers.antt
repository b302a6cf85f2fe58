-- Proof of the contract of `shows`.
use Rattle.std.proofs.Common.{refl}
use Rattle.gw_core.proofs.device_requests.shows.Goals as goal

pub returns-clause-request : goal.returns-clause-request
returns-clause-request c = rw (c.device_header.ensures, c.known.ensures) (_, (refl, λ never. absurd never), refl)
