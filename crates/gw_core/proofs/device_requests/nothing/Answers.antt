-- Proof of the contract of `nothing`.
use Rattle.std.proofs.Common.{[], refl}
use Rattle.gw_core.proofs.device_requests.nothing.Goals as goal

pub returns : goal.returns
returns c = (c.law_decode_block_lines.ensures.lines [] [] ([], refl, tt)).1 ([], [], refl, refl, refl)
