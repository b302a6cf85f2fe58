-- A Display on a terminal: its steps, what it shows, and the results of its outputs.
use Rattle.std.specs.Prelude.{ℕ, is_some, not, bytes_eq, codes, Bool, if◌then◌else◌, List, [], ◌∷◌, Option, Some, None, option_map}
use Rattle.gw_base.specs.declared.condition.Condition.TheVariants.{Busy, UnavailableDevice}
use Rattle.sale_values.specs.declared.header.Header.{Header}
use Rattle.sale_values.specs.declared.request.Output.{Output}
use Rattle.sale_values.specs.declared.request.SaleRequest.TheVariants as requests
use Rattle.sale_reply.specs.declared.reply.Shown.{Shown}
use Rattle.sale_reply.specs.declared.reply.Verdict.{Verdict}
use Rattle.zvt_msg.specs.declared.command.Command.{Command}
use Rattle.zvt_talk.specs.declared.meaning.Heard.{Heard}
use Rattle.zvt_talk.specs.declared.meaning.Heard.TheVariants as heard
use Rattle.xlate.specs.Codes.{condition_of_code}
use Rattle.xlate.specs.Display.{show}
use Rattle.gw_owes.specs.declared.terminal.Service.TheVariants.{Display}
use Rattle.gw_owes.specs.declared.terminal.Standing.{Standing}
use Rattle.gw_owes.specs.declared.terminal.Standing.TheVariants.{Unlinked, Registering, Enquiring, Ready, Serving, Aside}
use Rattle.gw_owes.specs.declared.terminal.Terminal.{Terminal}
use Rattle.gw_owes.specs.Calls.{Ask, SendPt}
use Rattle.gw_owes.specs.Diagnosis.{NamedTerminal}
use Rattle.gw_owes.specs.Items.{RoundItem}
use Rattle.gw_owes.specs.Replies.{failure, success, refused_results, display_reply, display_refusal}
use Rattle.gw_owes.specs.Reply.{ReplyValue}
use Rattle.gw_owes.specs.Row.{Known, Row, owing_nothing, owing_where}
use Rattle.gw_owes.specs.Serving.{staying, breaking, was_stopped, done_with}
use Rattle.gw_owes.specs.Steps.{StepResult, KeptReply, Fails, Begins, Waits, RequestStep, first_result, is_beginning, is_unavailable, is_ready, items_of_result}
use Rattle.gw_owes.specs.Terminals.{terminal_becomes, after_command, reply_calls_to}

-- ---- the steps

-- the steps of a Display, by the terminal that its POIID names
abbrev pub display_steps : List Output → Option NamedTerminal → List RequestStep
display_steps outputs named =
    record { applies = not (is_some named); result = Fails UnavailableDevice }
    ∷ record { applies = not (is_some (show outputs)); result = Fails UnavailableDevice }
    ∷ record { applies = is_unavailable named; result = Fails UnavailableDevice }
    ∷ record { applies = is_ready named; result = Begins }
    ∷ []

-- the result of these steps: a terminal that serves another request is busy
abbrev pub display_result : List Output → Option NamedTerminal → StepResult
display_result outputs named = first_result (Fails Busy) (display_steps outputs named)

-- the reply that a result is: a refusal of each output, and none where the display begins
abbrev pub reply_of_display : Header → List Output → StepResult → Option ReplyValue
reply_of_display header outputs KeptReply = None
reply_of_display header outputs (Fails condition) = display_refusal condition header outputs
reply_of_display header outputs Begins = None
reply_of_display header outputs Waits = None

-- the reply to a Display that doesn't begin
abbrev pub display_reply_at : Header → List Output → Option NamedTerminal → Option ReplyValue
display_reply_at header outputs named = reply_of_display header outputs (display_result outputs named)

-- what a Display of a till begins
abbrev pub display_items : ℕ → Header → List Output → Option NamedTerminal → List RoundItem
display_items till header outputs named = items_of_result till header (requests.Display outputs) named (display_result outputs named)

-- ---- the results of the outputs

-- the result is that of an output for the customer's display
abbrev pub is_customer_result : Shown → Bool
is_customer_result output = bytes_eq output.device (codes "CustomerDisplay")

-- the results once the terminal's display has this verdict, which is that of the first output for the customer's display
abbrev pub with_customer_verdict : Verdict → List Shown → List Shown
with_customer_verdict verdict [] = []
with_customer_verdict verdict (output ∷ others) =
    if is_customer_result output then record output { verdict = verdict } ∷ others else output ∷ with_customer_verdict verdict others

-- ---- the beginning

-- the terminal once it is asked to show this: it serves the display for this till, and no output is shown yet
abbrev pub asked_to_show : Known → ℕ → Terminal → ℕ → Header → List Output → Command → Terminal
asked_to_show known till terminal last header outputs shown =
    record (after_command terminal shown (Serving (Display header (refused_results UnavailableDevice outputs)) last) known.moment) { asker = Some till }

-- a terminal is asked to show what there is to show, where there is anything
abbrev pub shows : Known → ℕ → ℕ → Header → List Output → Terminal → ℕ → Option Command → Row
shows known number till header outputs terminal last None = owing_nothing known
shows known number till header outputs terminal last (Some shown) =
    terminal_becomes known number (asked_to_show known till terminal last header outputs shown) (SendPt number (Ask shown) ∷ [])

-- a terminal that is ready begins to show the outputs, and another nothing
abbrev pub shows_in : Known → ℕ → ℕ → Header → List Output → Terminal → Standing → Row
shows_in known number till header outputs terminal (Unlinked due) = owing_nothing known
shows_in known number till header outputs terminal Registering = owing_nothing known
shows_in known number till header outputs terminal Enquiring = owing_nothing known
shows_in known number till header outputs terminal (Ready last) = shows known number till header outputs terminal last (show outputs)
shows_in known number till header outputs terminal (Serving service last) = owing_nothing known
shows_in known number till header outputs terminal (Aside before reported) = owing_nothing known

-- what a Display leaves and owes at a terminal, where its steps say that it begins
abbrev pub display_row : Known → ℕ → ℕ → Header → List Output → Terminal → Row
display_row known number till header outputs terminal =
    owing_where (is_beginning (display_result outputs (Some (record { number = number; terminal = terminal })))) known
    (shows_in known number till header outputs terminal terminal.standing)

-- ---- the end

-- a display ends with this verdict: its till gets the results, where it asked for any; the terminal is ready as before
abbrev pub display_ends : Known → ℕ → Terminal → ℕ → Header → Option (List Shown) → Verdict → Row
display_ends known number terminal last header results verdict =
    terminal_becomes known number (done_with terminal (Ready last))
    (reply_calls_to terminal.asker (display_reply header (option_map (with_customer_verdict verdict) results)))

-- A display: it is done or declined by the Ack or Nack of its command, and its till gets the results; where that is unclear the connection is cut. Nothing of it is stopped, and nothing else is heard in it.
abbrev pub serving_display : Known → ℕ → Terminal → ℕ → Header → Option (List Shown) → Heard → Row
serving_display known number terminal last header results (heard.Begun stop) = staying known number terminal
serving_display known number terminal last header results (heard.Note intermediate_status) = staying known number terminal
serving_display known number terminal last header results heard.Line = staying known number terminal
serving_display known number terminal last header results heard.Block = staying known number terminal
serving_display known number terminal last header results heard.Seen = staying known number terminal
serving_display known number terminal last header results (heard.Approved figures) = staying known number terminal
serving_display known number terminal last header results heard.Done = display_ends known number terminal last header results success
serving_display known number terminal last header results (heard.Told reported approved result_code) = staying known number terminal
serving_display known number terminal last header results (heard.Declined result_code reported) =
    display_ends known number terminal last header results (failure (condition_of_code result_code (was_stopped terminal.talk)))
serving_display known number terminal last header results heard.Unclear = breaking known number terminal
serving_display known number terminal last header results heard.Stray = staying known number terminal
