-- Proof of the contract of `report_of_open`.
use Rattle.std.proofs.Common.{◌≡◌, ◌∙◌, ap, subst}
use Rattle.std.proofs.lemmas.Int.{to_z-of_z}
use Rattle.gw_base.specs.Moment.{moment_of}
use Rattle.jrn_record.specs.declared.records.Outcome.{Outcome}
use Rattle.gw_owes.specs.declared.terminal.Standing.{Standing}
use Rattle.gw_owes.specs.Reports.{Report, outcome_reported, report_of_open}
use Rattle.gw_owes.specs.Row.{Row}
use Rattle.gw_owes.specs.Serving.{resolves}
use Rattle.gw_owes.specs.Terminals.{with_terminal}
use Rattle.gw_core.specs.IsRow.{IsRow, known_with}
use Rattle.gw_core.proofs.ReportLemmas.{report-resolves}
use Rattle.gw_core.proofs.reports.report_of_open.Goals as goal

pub returns-clause-row : goal.returns-clause-row
returns-clause-row c = λ setup core pt.
    let known = known_with setup c.args.ledger.now.records core (moment_of c.args.now) in
    let reported : Report = record { trace = c.args.trace; approved = c.args.approved; result_code = c.args.result_code } in
    let outcome_is : c.outcome_reported-outcome.result ≡ outcome_reported c.args.entry.now reported (moment_of c.args.now) = simp (to_z-of_z, c.ranges.now) at c.outcome_reported-outcome.ensures.outcome in
    let row_is : resolves known pt c.args.terminal.now c.standing_reported-standing.result c.outcome_reported-outcome.result ≡ report_of_open known pt c.args.terminal.now reported c.args.entry.now =
    ap (λ (outcome : Outcome). resolves known pt c.args.terminal.now c.standing_reported-standing.result outcome) outcome_is
    ∙ ap (λ (standing : Standing). resolves known pt c.args.terminal.now standing (outcome_reported c.args.entry.now reported (moment_of c.args.now))) c.standing_reported-standing.ensures
    ∙ report-resolves known pt c.args.terminal.now reported c.args.entry.now c.if-trace-before.false in
    subst (λ (row : Row). IsRow c.args.ledger.now.records row (with_terminal core pt c.resolve.new.terminal) c.resolve.result) row_is (c.resolve.ensures.row setup core (moment_of c.args.now) pt)

pub outcome_reported-outcome-requires-clause-moment : goal.outcome_reported-outcome-requires-clause-moment
outcome_reported-outcome-requires-clause-moment c = simp (to_z-of_z, c.ranges.now) c.requires.moment
