-- Proof of the contract of `on_till`.
use Rattle.std.proofs.Common.{subst}
use Rattle.std.proofs.lemmas.Int.{to_z-of_z}
use Rattle.gw_base.specs.Moment.{moment_of}
use Rattle.gw_core.specs.ReplyOf.{IsReplyTo}
use Rattle.gw_core.specs.declared.till.Given.{Given}
use Rattle.gw_core.proofs.ReplyLemmas.{all-limited, asked, begins-there}
use Rattle.gw_core.proofs.terminals.Core.on_till.Goals as goal

pub lies_within-requires : goal.lies_within-requires
lies_within-requires c =
    let is_reply : IsReplyTo c.args.gateway.now c.args.ledger.now.records c.args.self.now (moment_of c.args.now) c.args.message.now c.in_ok-given.given = simp (to_z-of_z, c.ranges.now) at c.in_ok-given.ensures in
    all-limited c.args.gateway.now c.args.ledger.now.records c.args.self.now (moment_of c.args.now) c.args.message.now c.in-Reply.reply
    (subst (λ (wanted : Given). IsReplyTo c.args.gateway.now c.args.ledger.now.records c.args.self.now (moment_of c.args.now) c.args.message.now wanted) c.in-Reply.is is_reply)

pub returns-clause-row : goal.returns-clause-row
returns-clause-row c = λ till.
    asked c.args.gateway.now c.args.ledger.now.records c.args.self.now (moment_of c.args.now) till c.args.message.now c.in_ok-given.given (simp (to_z-of_z, c.ranges.now) at c.in_ok-given.ensures)

pub returns-clause-begins : goal.returns-clause-begins
returns-clause-begins c =
    begins-there c.args.gateway.now c.args.ledger.now.records c.args.self.now (moment_of c.args.now) c.args.message.now c.in_ok-given.given (simp (to_z-of_z, c.ranges.now) at c.in_ok-given.ensures)
