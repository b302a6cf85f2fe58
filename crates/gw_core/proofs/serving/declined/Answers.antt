-- Proof of the contract of `declined`.
use Rattle.std.proofs.Common.{◌≡◌, ◌∙◌, ap, subst}
use Rattle.std.proofs.lemmas.Int.{to_z-of_z}
use Rattle.gw_base.specs.Moment.{moment_of}
use Rattle.jrn_record.specs.declared.records.Outcome.{Outcome}
use Rattle.gw_owes.specs.Row.{Row}
use Rattle.gw_owes.specs.Serving.{declined_outcome, declined_row, resolves, was_stopped}
use Rattle.gw_owes.specs.Terminals.{with_terminal}
use Rattle.gw_owes.specs.declared.terminal.Standing.TheVariants.{Ready}
use Rattle.gw_core.specs.IsRow.{IsRow, known_with}
use Rattle.gw_core.proofs.serving.declined.Goals as goal

pub returns-clause-row : goal.returns-clause-row
returns-clause-row c = λ setup core pt.
    let known = known_with setup c.args.ledger.now.records core (moment_of c.args.now) in
    let outcome_is : c.declined_outcome-outcome.result ≡ declined_outcome c.args.slot c.args.result_code c.was_stopped.result (moment_of c.args.now) = simp (to_z-of_z, c.ranges.now) at c.declined_outcome-outcome.ensures.outcome in
    let row_is : resolves known pt c.args.terminal.now (Ready c.last_after_decline.result) c.declined_outcome-outcome.result ≡ declined_row known pt c.args.terminal.now c.args.slot c.args.last c.args.result_code c.args.reported =
    ap (λ (outcome : Outcome). resolves known pt c.args.terminal.now (Ready c.last_after_decline.result) outcome) outcome_is
    ∙ ap (λ stopped. resolves known pt c.args.terminal.now (Ready c.last_after_decline.result) (declined_outcome c.args.slot c.args.result_code stopped (moment_of c.args.now))) c.was_stopped.ensures
    ∙ ap (λ last. resolves known pt c.args.terminal.now (Ready last) (declined_outcome c.args.slot c.args.result_code (was_stopped c.args.terminal.now.talk) (moment_of c.args.now))) c.last_after_decline.ensures in
    subst (λ (row : Row). IsRow c.args.ledger.now.records row (with_terminal core pt c.resolve.new.terminal) c.resolve.result) row_is (c.resolve.ensures.row setup core (moment_of c.args.now) pt)

pub declined_outcome-outcome-requires : goal.declined_outcome-outcome-requires
declined_outcome-outcome-requires c = record { moment = simp (to_z-of_z, c.ranges.now) c.requires.moment }
