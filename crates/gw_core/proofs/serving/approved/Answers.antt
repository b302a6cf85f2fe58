-- Proof of the contract of `approved`.
use Rattle.std.proofs.Common.{◌≡◌, ◌∙◌, ap, subst, sym}
use Rattle.std.proofs.lemmas.Int.{to_z-of_z}
use Rattle.gw_base.specs.Moment.{moment_of}
use Rattle.jrn_record.specs.declared.records.Outcome.{Outcome}
use Rattle.gw_owes.specs.Row.{Row}
use Rattle.gw_owes.specs.Serving.{approved_outcome, resolves}
use Rattle.gw_owes.specs.Terminals.{with_terminal}
use Rattle.gw_owes.specs.declared.terminal.Standing.TheVariants.{Ready}
use Rattle.gw_core.specs.IsRow.{IsRow, known_with}
use Rattle.gw_core.proofs.ServingLemmas.{approval-believed}
use Rattle.gw_core.proofs.serving.approved.Goals as goal

pub returns-then-last-figures-clause-row : goal.returns-then-last-figures-clause-row
returns-then-last-figures-clause-row c = λ setup core pt.
    let known = known_with setup c.args.ledger.now.records core (moment_of c.args.now) in
    let outcome_is : c.approved_outcome-outcome.result ≡ approved_outcome c.args.slot c.args.figures (moment_of c.args.now) = simp (to_z-of_z, c.ranges.now) at c.approved_outcome-outcome.ensures.outcome in
    let row_is : resolves known pt c.args.terminal.now (Ready c.args.figures.number) c.approved_outcome-outcome.result ≡ _ =
    ap (λ (outcome : Outcome). resolves known pt c.args.terminal.now (Ready c.args.figures.number) outcome) outcome_is
    ∙ sym (approval-believed known pt c.args.terminal.now c.args.slot c.args.last c.args.figures c.if-last-figures.true) in
    subst (λ (row : Row). IsRow c.args.ledger.now.records row (with_terminal core pt c.resolve.new.terminal) c.resolve.result) row_is (c.resolve.ensures.row setup core (moment_of c.args.now) pt)

pub approved_outcome-outcome-requires-clause-moment : goal.approved_outcome-outcome-requires-clause-moment
approved_outcome-outcome-requires-clause-moment c = simp (to_z-of_z, c.ranges.now) c.requires.moment
