-- Proof of the contract of `begin_payment`.
use Rattle.std.proofs.Common.{◌≡◌, subst}
use Rattle.std.proofs.lemmas.Int.{to_z-of_z}
use Rattle.gw_base.specs.Moment.{moment_of}
use Rattle.gw_owes.specs.Payments.{payment_intent}
use Rattle.gw_owes.specs.Row.{Row}
use Rattle.gw_owes.specs.Terminals.{with_terminal}
use Rattle.gw_core.specs.IsRow.{IsRow, known_with}
use Rattle.gw_core.proofs.BeginLemmas.{payment-begins}
use Rattle.gw_core.proofs.beginning.begin_payment.Goals as goal

pub returns-clause-row : goal.returns-clause-row
returns-clause-row c = λ setup core.
    let known = known_with setup c.args.ledger.now.records core (moment_of c.args.now) in
    let intent_is : c.payment_intent-intent.result ≡ payment_intent c.args.header.now c.args.payment.now c.args.terminal.now.pt.currency c.last_number-last.result (moment_of c.args.now) =
    simp (to_z-of_z, c.ranges.now) at c.payment_intent-intent.ensures in
    subst (λ (row : Row). IsRow c.args.ledger.now.records row (with_terminal core c.args.pt c.begin_asking.new.terminal) c.begin_asking.result)
    (payment-begins known c.args.pt c.args.till c.args.header.now c.args.payment.now c.args.terminal.now c.last_number-last.result c.payment_intent-intent.result c.last_number-last.ensures intent_is)
    (simp (to_z-of_z, c.ranges.now) at (c.begin_asking.ensures.row setup core))

pub payment_intent-intent-requires-clause-moment : goal.payment_intent-intent-requires-clause-moment
payment_intent-intent-requires-clause-moment c = simp (to_z-of_z, c.ranges.now) c.requires.moment

pub begin_asking-requires-clause-moment : goal.begin_asking-requires-clause-moment
begin_asking-requires-clause-moment c = simp (to_z-of_z, c.ranges.now) c.requires.moment
