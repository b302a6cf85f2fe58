-- Proof of the contract of `law_site_peers`.
use Rattle.std.proofs.Common.{refl}
use Rattle.gw_site.specs.Steps.{Old}
use Rattle.zvt_apdu.specs.DecodeStream.{decode_apdus, decode_apdus_within}
use Rattle.zvt_msg.specs.CommandDecode.{decode_command}
use Rattle.gw_script.proofs.law_site_peers.Goals as goal

pub returns-clause-comes : goal.returns-clause-comes
unfolding decode_apdus decode_apdus_within decode_command
returns-clause-comes c = record { place = _; reached = (_, _, (record { no_event = refl; no_failure = refl; power = refl }, refl), refl, (_, _, (record { no_event = refl; no_failure = refl; power = refl }, refl), refl, (_, _, (record { no_event = refl; no_failure = refl; power = refl }, refl), refl, (_, _, (record { no_event = refl; no_failure = refl; power = refl }, refl), refl, (_, _, (record { no_event = refl; no_failure = refl; power = refl }, refl), refl, (_, _, (record { no_event = refl; no_failure = refl; power = refl }, refl), refl, (_, _, (record { no_event = refl; no_failure = refl; power = refl }, refl), refl, (refl, refl)))))))); booked = refl }

pub returns-clause-silent : goal.returns-clause-silent
unfolding decode_apdus decode_apdus_within decode_command
returns-clause-silent c = record { place = _; reached = (_, _, (record { no_event = refl; no_failure = refl; power = refl }, refl), refl, (_, _, (record { no_event = refl; no_failure = refl; power = refl }, refl), refl, (_, _, (record { no_event = refl; no_failure = refl; power = refl }, refl), refl, (_, _, (record { no_event = refl; no_failure = refl; power = refl }, refl), refl, (_, _, (record { no_event = refl; no_failure = refl; power = refl }, refl), refl, (refl, refl)))))) }

pub returns-clause-cut : goal.returns-clause-cut
unfolding decode_apdus decode_apdus_within decode_command
returns-clause-cut c = record { place = _; reached = (_, _, (record { no_event = refl; no_failure = refl; power = refl }, refl), refl, (_, _, (record { no_event = refl; no_failure = refl; power = refl }, refl), refl, (_, _, (record { no_event = refl; no_failure = refl; power = refl }, refl), refl, (_, _, (record { no_event = refl; no_failure = refl; power = refl }, refl), refl, (_, _, (record { no_event = refl; no_failure = refl; power = refl }, refl), refl, (refl, refl)))))) }

pub returns-clause-power : goal.returns-clause-power
unfolding decode_apdus decode_apdus_within decode_command
returns-clause-power c = record { place = _; reached = (_, _, (record { no_event = refl; no_failure = refl; power = refl }, refl), refl, (_, _, (record { no_event = refl; no_failure = refl; power = refl }, refl), refl, (_, _, (record { no_event = refl; no_failure = refl; power = refl }, refl), refl, (Old, _, refl, refl, (refl, refl))))); coming = refl; booked = refl }
