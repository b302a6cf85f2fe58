-- Proof of the contract of `ask`.
use Rattle.std.proofs.Common.{◌≡◌, ◌∙◌}
use Rattle.std.proofs.lemmas.Int.{to_z-of_z}
use Rattle.gw_owes.specs.Calls.{Ask, sending_bytes}
use Rattle.gw_dispatch.proofs.perform.ask.Goals as goal

pub returns-clause-triple : goal.returns-clause-triple
returns-clause-triple g c =
    let is : c.as_slice.result.now ≡ sending_bytes (Ask c.args.command.now) = c.as_slice.ensures.value ∙ c.write_command.ensures in
    simp (to_z-of_z, c.ranges.now) at (c.send.ensures.triple (Ask c.args.command.now) is)
