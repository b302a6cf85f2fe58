-- Proof of the contract of `given_to_tree`.
use Rattle.std.proofs.Common.{refl, subst}
use Rattle.std.proofs.lemmas.Int.{to_z-of_z}
use Rattle.json_text.specs.ValueOf.{value_of}
use Rattle.sale_msg.specs.Grammar.{IsTillMessage, RefusesTree}
use Rattle.gw_owes.specs.ReadAs.{Request, Silent, NoMessage}
use Rattle.gw_base.specs.Moment.{moment_of}
use Rattle.gw_core.proofs.OutputLemmas.{few-outputs}
use Rattle.gw_core.proofs.ReplyLemmas.{replied}
use Rattle.gw_core.proofs.till.given_to_tree.Goals as goal

pub given_to_request-requires : goal.given_to_request-requires
given_to_request-requires c = few-outputs (value_of c.args.json.now) c.in-Ok-Request.header c.in-Ok-Request.request (subst (IsTillMessage (value_of c.args.json.now)) c.in-Ok-Request.field-0-is c.in-Ok-Request.ensures.ok)

pub returns-in-Ok-Request : goal.returns-in-Ok-Request
returns-in-Ok-Request c = λ message spelled.
    replied c.args.gateway.now c.args.ledger.now.records c.args.core.now (moment_of c.args.now) message (Request c.in-Ok-Request.header c.in-Ok-Request.request) _
    (record { tree = value_of c.args.json.now; spelled = spelled; read = subst (IsTillMessage (value_of c.args.json.now)) c.in-Ok-Request.field-0-is c.in-Ok-Request.ensures.ok })
    (λ known at. c.given_to_request.ensures known (rw (to_z-of_z, c.ranges.now) at))

pub returns-in-Ok-Silent : goal.returns-in-Ok-Silent
returns-in-Ok-Silent c = λ message spelled. record {
  as_read = Silent;
  read = record { tree = value_of c.args.json.now; spelled = spelled; read = subst (IsTillMessage (value_of c.args.json.now)) c.in-Ok-Silent.field-0-is c.in-Ok-Silent.ensures.ok };
  replied = λ known at. record { reply = tt; begun = λ till. refl; prepared = tt };
}

pub returns-in_ok-reply-in-Err-Fault : goal.returns-in_ok-reply-in-Err-Fault
returns-in_ok-reply-in-Err-Fault c = λ message spelled. record {
  as_read = NoMessage c.in-Err-Fault.fault;
  read = record { tree = value_of c.args.json.now; spelled = spelled; faulty = subst (RefusesTree (value_of c.args.json.now)) c.in-Err-Fault.field-0-is c.in-Err-Fault.ensures.err };
  replied = λ known at. record { reply = rw (at.name_is, at.moment_is) (simp (to_z-of_z, c.ranges.now) at c.in_ok-reply-in-Err-Fault.ensures); begun = λ till. refl; prepared = tt };
}
