-- Proof of the contract of `given_to_message`.
use Rattle.std.proofs.Common.{refl, subst}
use Rattle.std.proofs.lemmas.Int.{to_z-of_z}
use Rattle.json_text.specs.Fault.{RefusesText}
use Rattle.gw_owes.specs.ReadAs.{NoJson}
use Rattle.gw_core.proofs.till.given_to_message.Goals as goal

pub returns-in-Ok : goal.returns-in-Ok
returns-in-Ok c = simp (to_z-of_z, c.ranges.now) at (c.given_to_tree.ensures c.args.message.now c.in-Ok.ensures.spelled)

pub returns-in-Err-Fault : goal.returns-in-Err-Fault
returns-in-Err-Fault c = record {
  as_read = NoJson c.in-Err-Fault.fault;
  read = subst (RefusesText c.args.message.now) c.in-Err-Fault.field-0-is c.in-Err-Fault.ensures.fault;
  replied = λ known at. record { reply = rw (at.name_is, at.moment_is) (simp (to_z-of_z, c.ranges.now, c.in-Err-Fault.field-0-is) at c.reply_to_no_text-reply.ensures); begun = λ till. refl; prepared = tt };
}
