-- What a terminal's report of its last transaction leads to, by what the records say of it.
use Rattle.std.specs.Prelude.{ℕ, nat_le, nat_lt, false, if◌then◌else◌, List, [], Option, Some, None}
use Rattle.gw_base.specs.declared.condition.Condition.TheVariants.{Aborted}
use Rattle.gw_base.specs.declared.figures.Figures.{Figures}
use Rattle.jrn_record.specs.declared.records.Outcome.{Outcome as TheOutcome}
use Rattle.jrn_record.specs.declared.records.Record.{Record}
use Rattle.gw_ledger.specs.declared.entry.Entry.{Entry}
use Rattle.gw_ledger.specs.Accounts.{last_number_of}
use Rattle.gw_ledger.specs.Fold.{open_entry}
use Rattle.gw_owes.specs.declared.terminal.Standing.{Standing}
use Rattle.gw_owes.specs.declared.terminal.Standing.TheVariants.{Ready, Aside}
use Rattle.gw_owes.specs.declared.terminal.Terminal.{Terminal}
use Rattle.gw_owes.specs.Row.{Known, Row}
use Rattle.gw_owes.specs.Serving.{at_rest, approved_outcome, declined_outcome, refused_outcome, resolves}
use Rattle.gw_owes.specs.Terminals.{terminal_becomes}

-- ---- what is reported, and what is on record

-- what a terminal reports of its last transaction
pub record Report : Type 0 where
  -- its trace number, 0 where there was none
  pub trace : ℕ
  -- its figures, where it was approved
  pub approved : Option Figures
  pub result_code : ℕ

-- what the records say of a terminal
pub record OnRecord : Type 0 where
  -- the greatest trace number of its POIID on record, 0 where there is none
  pub last : ℕ
  -- its payment or reversal that is open, where one is
  pub opened : Option Entry

-- what the records say of the terminal with this POIID
abbrev pub on_record : List Record → List ℕ → OnRecord
on_record kept poi = record { last = last_number_of kept poi; opened = open_entry kept poi }

-- the least trace number that may be reported: the one before what is open, or else the last one
abbrev pub least_against : Option Entry → ℕ → ℕ
least_against None last = last
least_against (Some entry) last = entry.intent.before

abbrev pub least_reported : OnRecord → ℕ
least_reported found = least_against found.opened found.last

-- a report's standing, by the least trace number that may be reported: the terminal is ready with the one reported, or else set aside
abbrev pub standing_reported : ℕ → ℕ → Standing
standing_reported least reported = if nat_le least reported then Ready reported else Aside least reported

-- ---- the Outcome of what is open

-- what is open is the last transaction: it is approved with the figures that are reported, or declined for the code
abbrev pub outcome_as_last : ℕ → Option Figures → ℕ → ℕ → TheOutcome
outcome_as_last slot (Some figures) result_code moment = approved_outcome slot figures moment
outcome_as_last slot None result_code moment = declined_outcome slot result_code false moment

-- Above the number before, the last transaction is the one that is open. Else nothing came of it; it is never asked for a number below.
abbrev pub outcome_reported : Entry → Report → ℕ → TheOutcome
outcome_reported entry report moment =
    if nat_lt entry.intent.before report.trace then outcome_as_last entry.slot report.approved report.result_code moment
    else refused_outcome entry.slot Aborted moment

-- ---- the row

-- a report while a payment or a reversal is open: its Outcome is kept, and its till gets the reply, where it is there; where the trace number is below the one before nothing is kept, and the terminal is set aside
abbrev pub report_of_open : Known → ℕ → Terminal → Report → Entry → Row
report_of_open known number terminal report entry =
    if nat_le entry.intent.before report.trace then resolves known number terminal (Ready report.trace) (outcome_reported entry report known.moment)
    else terminal_becomes known number (at_rest terminal (Aside entry.intent.before report.trace)) []

-- where nothing is open, no trace number below the last one may be reported
abbrev pub report_against : Option Entry → ℕ → Known → ℕ → Terminal → Report → Row
report_against None last known number terminal report = terminal_becomes known number (at_rest terminal (standing_reported last report.trace)) []
report_against (Some entry) last known number terminal report = report_of_open known number terminal report entry

-- what a report leaves and owes
abbrev pub report_row : OnRecord → Known → ℕ → Terminal → Report → Row
report_row found known number terminal report = report_against found.opened found.last known number terminal report
