-- What a message means for a payment or a reversal that a terminal serves: its end is kept, and then its till gets the reply.
use Rattle.std.specs.Prelude.{ℕ, pos, nat_lt, Bool, true, false, if◌then◌else◌, List, [], ◌∷◌, ◌++◌, length, Option, Some, None, option_and_then}
use Rattle.gw_base.specs.declared.condition.Condition.{Condition}
use Rattle.gw_base.specs.declared.figures.Figures.{Figures}
use Rattle.zvt_msg.specs.declared.command.Command.TheVariants as command
use Rattle.zvt_talk.specs.declared.meaning.Heard.{Heard}
use Rattle.zvt_talk.specs.declared.meaning.Heard.TheVariants as heard
use Rattle.zvt_talk.specs.Talk.{TalkFacts}
use Rattle.zvt_talk.specs.TalkSteps.{was_stop_sent}
use Rattle.jrn_record.specs.declared.records.Outcome.{Outcome as TheOutcome}
use Rattle.jrn_record.specs.declared.records.Record.{Record}
use Rattle.jrn_record.specs.declared.records.Record.TheVariants.{Outcome}
use Rattle.gw_ledger.specs.declared.entry.Entry.{Entry as TheEntry}
use Rattle.gw_ledger.specs.declared.entry.Found.TheVariants.{Entry}
use Rattle.gw_ledger.specs.Slots.{entry_at}
use Rattle.xlate.specs.Codes.{condition_of_code}
use Rattle.gw_owes.specs.declared.terminal.Standing.{Standing}
use Rattle.gw_owes.specs.declared.terminal.Standing.TheVariants.{Ready, Aside}
use Rattle.gw_owes.specs.declared.terminal.Terminal.{Terminal}
use Rattle.gw_owes.specs.Awaited.{one_more_awaited}
use Rattle.gw_owes.specs.Calls.{Ask, SendPt, CutPt, keep_calls}
use Rattle.gw_owes.specs.KeptReplies.{kept_reply}
use Rattle.gw_owes.specs.Reply.{ReplyValue}
use Rattle.gw_owes.specs.Row.{Known, Row}
use Rattle.gw_owes.specs.Terminals.{terminal_becomes, reply_calls_to}

-- ---- what stays

-- nothing follows: the terminal stays as it has become
abbrev pub staying : Known → ℕ → Terminal → Row
staying known number terminal = terminal_becomes known number terminal []

-- the cut of its connection
abbrev pub breaking : Known → ℕ → Terminal → Row
breaking known number terminal = terminal_becomes known number terminal (CutPt number ∷ [])

-- the stop of what is served, whose dialogue goes on
abbrev pub stops : Known → ℕ → Terminal → Row
stops known number terminal = terminal_becomes known number (record terminal { awaited = one_more_awaited terminal.awaited }) (SendPt number (Ask command.Stop) ∷ [])

-- ---- Outcomes

-- an approval with these figures
abbrev pub approved_outcome : ℕ → Figures → ℕ → TheOutcome
approved_outcome slot figures moment = record {
  approved = true;
  slot = slot;
  number = figures.number;
  receipt = figures.receipt;
  amount = figures.amount;
  condition = None;
  moment = pos moment;
}

-- `06 B0` was sent in the dialogue
abbrev pub was_stopped : Option TalkFacts → Bool
was_stopped None = false
was_stopped (Some talk) = was_stop_sent talk.phase

-- a refusal for this reason
abbrev pub refused_outcome : ℕ → Condition → ℕ → TheOutcome
refused_outcome slot condition moment = record {
  approved = false;
  slot = slot;
  number = 0;
  receipt = 0;
  amount = 0;
  condition = Some condition;
  moment = pos moment;
}

-- a decline for this result code
abbrev pub declined_outcome : ℕ → ℕ → Bool → ℕ → TheOutcome
declined_outcome slot result_code stop_sent moment = refused_outcome slot (condition_of_code result_code stop_sent) moment

-- the reply to the entry of this slot once it has this Outcome
abbrev pub reply_to_outcome : List Record → ℕ → TheOutcome → Option ReplyValue
reply_to_outcome kept slot outcome = option_and_then (λ (entry : TheEntry). kept_reply (Entry (record entry { result = Some outcome }))) (entry_at kept slot)

-- no dialogue runs any more, and the terminal has this standing
abbrev pub at_rest : Terminal → Standing → Terminal
at_rest terminal standing = record terminal { standing = standing; talk = None }

-- the dialogue is over and no till waits for its end any more: the terminal has this standing
abbrev pub done_with : Terminal → Standing → Terminal
done_with terminal standing = record (at_rest terminal standing) { asker = None }

-- the Outcome is kept in the next slot, and then the till gets the reply, where it is there
abbrev pub resolves : Known → ℕ → Terminal → Standing → TheOutcome → Row
resolves known number terminal standing outcome =
    terminal_becomes known number (done_with terminal standing)
    (keep_calls (length known.kept) (Outcome outcome) ++ reply_calls_to terminal.asker (reply_to_outcome known.kept outcome.slot outcome))

-- ---- ends

-- Approved: the terminal is ready with its trace number. One that isn't above the number before is not believed: nothing is kept, and the terminal is set aside.
abbrev pub approved_row : Known → ℕ → Terminal → ℕ → ℕ → Figures → Row
approved_row known number terminal slot last figures =
    if nat_lt last figures.number then resolves known number terminal (Ready figures.number) (approved_outcome slot figures known.moment)
    else terminal_becomes known number (at_rest terminal (Aside last figures.number)) []

-- the last trace number after a decline: that of the last status where it is greater
abbrev pub last_after_decline : ℕ → Option ℕ → ℕ
last_after_decline last None = last
last_after_decline last (Some reported) = if nat_lt last reported then reported else last

-- declined: the terminal is ready
abbrev pub declined_row : Known → ℕ → Terminal → ℕ → ℕ → ℕ → Option ℕ → Row
declined_row known number terminal slot last result_code reported =
    resolves known number terminal (Ready (last_after_decline last reported)) (declined_outcome slot result_code (was_stopped terminal.talk) known.moment)

-- A payment or a reversal: a stop that was wished is sent once the command is acknowledged; its end is kept, and its till gets the reply; where that is unclear the connection is cut and the key stays open. It is never done without an approval, and reports nothing.
abbrev pub serving_transaction : Known → ℕ → Terminal → ℕ → ℕ → Heard → Row
serving_transaction known number terminal slot last (heard.Begun true) = stops known number terminal
serving_transaction known number terminal slot last (heard.Begun false) = staying known number terminal
serving_transaction known number terminal slot last (heard.Note intermediate_status) = staying known number terminal
serving_transaction known number terminal slot last heard.Line = staying known number terminal
serving_transaction known number terminal slot last heard.Block = staying known number terminal
serving_transaction known number terminal slot last heard.Seen = staying known number terminal
serving_transaction known number terminal slot last (heard.Approved figures) = approved_row known number terminal slot last figures
serving_transaction known number terminal slot last heard.Done = staying known number terminal
serving_transaction known number terminal slot last (heard.Told reported approved result_code) = staying known number terminal
serving_transaction known number terminal slot last (heard.Declined result_code reported) = declined_row known number terminal slot last result_code reported
serving_transaction known number terminal slot last heard.Unclear = breaking known number terminal
serving_transaction known number terminal slot last heard.Stray = staying known number terminal
