-- The row of a terminal's report of its last transaction.
use Rattle.std.proofs.Common.{◌≡◌, ◌≤◌, ℕ, Bool, [], sym, ◌∙◌, ap}
use Rattle.std.specs.Prelude.{if◌then◌else◌}
use Rattle.std.proofs.lemmas.Bool.{le-leb}
use Rattle.gw_ledger.specs.declared.entry.Entry.{Entry}
use Rattle.gw_owes.specs.declared.terminal.Standing.TheVariants.{Ready, Aside}
use Rattle.gw_owes.specs.declared.terminal.Terminal.{Terminal}
use Rattle.gw_owes.specs.Reports.{Report, outcome_reported, report_of_open, standing_reported}
use Rattle.gw_owes.specs.Row.{Known}
use Rattle.gw_owes.specs.Serving.{at_rest, resolves}
use Rattle.gw_owes.specs.Terminals.{terminal_becomes}

-- a trace number that isn't below the one before resolves what is open
pub report-resolves : (known : Known) (number : ℕ) (terminal : Terminal) (report : Report) (entry : Entry) → entry.intent.before ≤ report.trace
    → resolves known number terminal (standing_reported entry.intent.before report.trace) (outcome_reported entry report known.moment) ≡ report_of_open known number terminal report entry
report-resolves known number terminal report entry least =
    ap (λ (b : Bool). resolves known number terminal (if b then Ready report.trace else Aside entry.intent.before report.trace) (outcome_reported entry report known.moment)) (le-leb entry.intent.before report.trace least)
    ∙ sym (ap (λ (b : Bool). if b then resolves known number terminal (Ready report.trace) (outcome_reported entry report known.moment)
    else terminal_becomes known number (at_rest terminal (Aside entry.intent.before report.trace)) []) (le-leb entry.intent.before report.trace least))
