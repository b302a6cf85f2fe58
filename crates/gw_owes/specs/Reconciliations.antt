-- A reconciliation: its Settled is kept, and then its till gets the totals; an end of day is asked of the terminal first.
use Rattle.std.specs.Prelude.{ℕ, pos, true, false, List, [], ◌∷◌, ◌++◌, length, Option, Some, unwrap_or}
use Rattle.gw_base.specs.declared.currency.Currency.{Currency}
use Rattle.gw_base.specs.declared.setup.Pt.{Pt}
use Rattle.sale_values.specs.declared.header.Header.{Header}
use Rattle.sale_values.specs.declared.names.Period.{Period}
use Rattle.sale_values.specs.declared.names.Period.TheVariants.{SaleReconciliation, AcquirerSynchronisation, AcquirerReconciliation, PreviousReconciliation}
use Rattle.sale_values.specs.declared.request.SaleRequest.TheVariants as requests
use Rattle.zvt_msg.specs.declared.command.Command.{Command}
use Rattle.zvt_msg.specs.declared.command.Command.TheVariants as command
use Rattle.zvt_talk.specs.declared.meaning.Heard.{Heard}
use Rattle.zvt_talk.specs.declared.meaning.Heard.TheVariants as heard
use Rattle.jrn_record.specs.declared.records.How.{How}
use Rattle.jrn_record.specs.declared.records.How.TheVariants as hows
use Rattle.jrn_record.specs.declared.records.Settled.{Settled as TheSettled}
use Rattle.jrn_record.specs.declared.records.Record.{Record}
use Rattle.jrn_record.specs.declared.records.Record.TheVariants.{Settled}
use Rattle.gw_ledger.specs.declared.entry.Closed.{Closed as TheClosed}
use Rattle.gw_ledger.specs.declared.entry.Found.TheVariants.{Closed}
use Rattle.gw_ledger.specs.Sums.{totals_of}
use Rattle.xlate.specs.Codes.{condition_of_code}
use Rattle.gw_owes.specs.declared.terminal.Service.TheVariants.{EndOfDay}
use Rattle.gw_owes.specs.declared.terminal.Standing.{Standing}
use Rattle.gw_owes.specs.declared.terminal.Standing.TheVariants.{Unlinked, Registering, Enquiring, Ready, Serving, Aside}
use Rattle.gw_owes.specs.declared.terminal.Terminal.{Terminal}
use Rattle.gw_owes.specs.Calls.{Ask, OwedCall, SendPt, keep_calls}
use Rattle.gw_owes.specs.KeptReplies.{kept_reply}
use Rattle.gw_owes.specs.Replies.{failure_reply}
use Rattle.gw_owes.specs.Reply.{ReplyValue}
use Rattle.gw_owes.specs.Row.{Known, Row, owing, owing_nothing, owing_where}
use Rattle.gw_owes.specs.Serving.{staying, breaking, stops, was_stopped, done_with}
use Rattle.gw_owes.specs.Steps.{is_beginning, step_result}
use Rattle.gw_owes.specs.Terminals.{terminal_becomes, after_command, reply_calls_to}

-- ---- the Settled

-- the Settled of a reconciliation in the terminal's currency, at this moment
abbrev pub settled_of : How → Header → Currency → ℕ → TheSettled
settled_of how header currency moment = record {
  how = how;
  sale = header.sale;
  poi = header.poi;
  service = unwrap_or header.service [];
  currency = currency;
  moment = pos moment;
}

-- the reconciliation that it is once it is kept after these records: with their totals since the terminal's last one
abbrev pub closed_after : List Record → TheSettled → TheClosed
closed_after kept settled = record { slot = length kept; settled = settled; totals = totals_of kept settled.poi settled.currency }

-- its reply, with these totals
abbrev pub reply_to_settled : List Record → TheSettled → Option ReplyValue
reply_to_settled kept settled = kept_reply (Closed (closed_after kept settled))

-- the Settled is kept in the next slot, and then the till gets the reply, where it is there
abbrev pub settle_calls : List Record → Option ℕ → TheSettled → List OwedCall
settle_calls kept asker settled = keep_calls (length kept) (Settled settled) ++ reply_calls_to asker (reply_to_settled kept settled)

-- ---- the beginning

-- the end of day
abbrev pub day_command : Pt → Command
day_command pt = command.EndOfDay pt.password

-- the terminal once it is asked for an end of day: it serves it for this till
abbrev pub asked_for_day : Known → ℕ → Terminal → ℕ → Header → Terminal
asked_for_day known till terminal last header =
    record (after_command terminal (day_command terminal.pt) (Serving (EndOfDay header AcquirerReconciliation) last) known.moment) { asker = Some till }

-- a terminal that is ready begins an end of day, of which nothing is kept yet, and another nothing
abbrev pub begins_day : Known → ℕ → ℕ → Header → Terminal → Standing → Row
begins_day known number till header terminal (Unlinked due) = owing_nothing known
begins_day known number till header terminal Registering = owing_nothing known
begins_day known number till header terminal Enquiring = owing_nothing known
begins_day known number till header terminal (Ready last) =
    terminal_becomes known number (asked_for_day known till terminal last header) (SendPt number (Ask (day_command terminal.pt)) ∷ [])
begins_day known number till header terminal (Serving service last) = owing_nothing known
begins_day known number till header terminal (Aside before reported) = owing_nothing known

-- a reconciliation of the till's own is settled at once, whatever the terminal does; an end of day is begun at it; the others aren't served
abbrev pub begins_period : Known → ℕ → ℕ → Header → Period → Terminal → Row
begins_period known number till header SaleReconciliation terminal =
    owing known (settle_calls known.kept (Some till) (settled_of hows.Sale header terminal.pt.currency known.moment))
begins_period known number till header AcquirerSynchronisation terminal = owing_nothing known
begins_period known number till header AcquirerReconciliation terminal = begins_day known number till header terminal terminal.standing
begins_period known number till header PreviousReconciliation terminal = owing_nothing known

-- what a Reconciliation leaves and owes at a terminal, where its steps say that it begins
abbrev pub reconciliation_row : Known → ℕ → ℕ → Header → Period → Terminal → Row
reconciliation_row known number till header period terminal =
    owing_where (is_beginning (step_result known header (requests.Reconciliation period) (Some (record { number = number; terminal = terminal })))) known
    (begins_period known number till header period terminal)

-- ---- the end

-- an end of day that is done: its Settled is kept, and then its till gets the totals; the terminal is ready as before
abbrev pub day_done : Known → ℕ → Terminal → ℕ → Header → Row
day_done known number terminal last header =
    terminal_becomes known number (done_with terminal (Ready last))
    (settle_calls known.kept terminal.asker (settled_of hows.Acquirer header terminal.pt.currency known.moment))

-- one that is declined: nothing is kept, and its till gets a Failure for the result code; the terminal is ready as before
abbrev pub day_declined : Known → ℕ → Terminal → ℕ → Header → ℕ → Row
day_declined known number terminal last header result_code =
    terminal_becomes known number (done_with terminal (Ready last))
    (reply_calls_to terminal.asker (Some (failure_reply header (condition_of_code result_code (was_stopped terminal.talk)))))

-- An end of day: a stop that was wished is sent once the command is acknowledged; once it is done it is settled; where its end is unclear the connection is cut. It is never approved, and reports nothing.
abbrev pub serving_day : Known → ℕ → Terminal → ℕ → Header → Heard → Row
serving_day known number terminal last header (heard.Begun true) = stops known number terminal
serving_day known number terminal last header (heard.Begun false) = staying known number terminal
serving_day known number terminal last header (heard.Note intermediate_status) = staying known number terminal
serving_day known number terminal last header heard.Line = staying known number terminal
serving_day known number terminal last header heard.Block = staying known number terminal
serving_day known number terminal last header heard.Seen = staying known number terminal
serving_day known number terminal last header (heard.Approved figures) = staying known number terminal
serving_day known number terminal last header heard.Done = day_done known number terminal last header
serving_day known number terminal last header (heard.Told reported approved result_code) = staying known number terminal
serving_day known number terminal last header (heard.Declined result_code reported) = day_declined known number terminal last header result_code
serving_day known number terminal last header heard.Unclear = breaking known number terminal
serving_day known number terminal last header heard.Stray = staying known number terminal
