-- Proof of the contract of `acknowledge`.
use Rattle.std.proofs.Common.{◌≡◌, ◌∙◌, ◌++◌, ap}
use Rattle.std.proofs.lemmas.Int.{to_z-of_z}
use Rattle.zvt_msg.specs.Message.{value_of}
use Rattle.zvt_msg.specs.MessageCanonical.{canonical_pt_message}
use Rattle.gw_owes.specs.Calls.{sending_bytes}
use Rattle.gw_dispatch.proofs.perform.acknowledge.Goals as goal

pub returns-clause-triple : goal.returns-clause-triple
returns-clause-triple g c = λ sending same.
    let is : c.as_slice.result.now ≡ sending_bytes sending = c.as_slice.ensures.value ∙ c.write_pt.ensures ∙ ap (λ prefix. prefix ++ canonical_pt_message (value_of c.args.message.now)) c.new-out.ensures ∙ same in
    simp (to_z-of_z, c.ranges.now) at (c.send.ensures.triple sending is)
