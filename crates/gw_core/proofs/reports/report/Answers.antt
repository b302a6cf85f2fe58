-- Proof of the contract of `report`.
use Rattle.std.proofs.Common.{subst}
use Rattle.std.specs.Prelude.{Option}
use Rattle.std.proofs.lemmas.Int.{to_z-of_z}
use Rattle.gw_base.specs.Moment.{moment_of}
use Rattle.gw_ledger.specs.declared.entry.Entry.{Entry}
use Rattle.gw_ledger.specs.Accounts.{last_number_of}
use Rattle.gw_owes.specs.Reports.{report_against}
use Rattle.gw_owes.specs.Terminals.{with_terminal}
use Rattle.gw_core.specs.IsRow.{IsRow, known_with}
use Rattle.gw_core.proofs.reports.report.Goals as goal

pub returns-in-Some-clause-row : goal.returns-in-Some-clause-row
returns-in-Some-clause-row c = λ setup core pt.
    let records = c.args.ledger.now.records in
    subst (λ (opened : Option Entry). IsRow records
    (report_against opened (last_number_of records c.args.terminal.now.pt.poi) (known_with setup records core (moment_of c.args.now)) pt c.args.terminal.now
    (record { trace = c.args.trace; approved = c.args.approved; result_code = c.args.result_code }))
    (with_terminal core pt c.report_of_open.new.terminal) c.report_of_open.result) c.in-Some.ensures (simp (to_z-of_z, c.ranges.now) at (c.report_of_open.ensures.row setup core pt))

pub report_of_open-requires-clause-moment : goal.report_of_open-requires-clause-moment
report_of_open-requires-clause-moment c = simp (to_z-of_z, c.ranges.now) c.requires.moment
