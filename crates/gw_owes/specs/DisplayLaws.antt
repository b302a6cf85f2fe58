-- Laws of Displays: which is refused and which begins, what the terminal is asked to show, what its till gets at the end, and that none is stopped.
use Rattle.std.specs.Prelude.{◌≡◌, ◌≢◌, ℕ, ◌+◌, true, false, if◌then◌else◌, List, [], ◌∷◌, map, take, slice_get, Option, Some, None}
use Rattle.std.specs.Option.{option_map}
use Rattle.gw_base.specs.declared.condition.Condition.{Condition}
use Rattle.gw_base.specs.declared.condition.Condition.TheVariants.{Busy, UnavailableDevice}
use Rattle.gw_site.specs.Outside.{Connection, is_connected}
use Rattle.sale_values.specs.declared.header.Header.{Header}
use Rattle.sale_values.specs.declared.request.Output.{Output}
use Rattle.sale_values.specs.declared.request.Reference.{Reference}
use Rattle.sale_values.specs.declared.request.SaleRequest.TheVariants as requests
use Rattle.sale_reply.specs.declared.reply.Shown.{Shown}
use Rattle.sale_reply.specs.declared.reply.Verdict.{Verdict}
use Rattle.zvt_apdu.specs.Grammar.{ApduValue}
use Rattle.zvt_msg.specs.Message.{Nack}
use Rattle.zvt_talk.specs.declared.meaning.Heard.TheVariants as heard
use Rattle.xlate.specs.Codes.{condition_of_code}
use Rattle.xlate.specs.Display.{is_for_customer, customer_output, display_line, show_lines}
use Rattle.gw_owes.specs.declared.terminal.Service.{Service}
use Rattle.gw_owes.specs.declared.terminal.Service.TheVariants.{Display}
use Rattle.gw_owes.specs.declared.terminal.Standing.TheVariants.{Unlinked, Ready, Serving}
use Rattle.gw_owes.specs.declared.terminal.Terminal.{Terminal}
use Rattle.gw_owes.specs.AbortLaws.{owes_stop}
use Rattle.gw_owes.specs.Calls.{Ask, SendPt, CutPt}
use Rattle.gw_owes.specs.Diagnosis.{NamedTerminal, named_terminal}
use Rattle.gw_owes.specs.Handling.{meaning_at, handle_row}
use Rattle.gw_owes.specs.Items.{Asked, Serve}
use Rattle.gw_owes.specs.Links.{LinkIsLost, link_row}
use Rattle.gw_owes.specs.PaymentLaws.{BeginsThere, MeansServed}
use Rattle.gw_owes.specs.ReadAs.{Request}
use Rattle.gw_owes.specs.Reply.{ReplyValue, Display as DisplayReply}
use Rattle.gw_owes.specs.Replies.{header_of_reply, success, failure, is_response_required}
use Rattle.gw_owes.specs.Row.{Known, Row, owing_nothing}
use Rattle.gw_owes.specs.Rows.{row_of}
use Rattle.gw_owes.specs.Serving.{was_stopped}
use Rattle.gw_owes.specs.Steps.{is_out_of_service}
use Rattle.gw_owes.specs.TerminalLaws.{GoesOnTo}
use Rattle.gw_owes.specs.Terminals.{terminal_at, reply_calls_to}

-- ---- results

-- the result of an output
abbrev pub result_of_output : Verdict → Output → Shown
result_of_output verdict output = record { device = output.device; qualify = output.qualify; verdict = verdict }

-- the results of outputs none of which is shown, for this reason
abbrev pub results_refused : Condition → List Output → List Shown
results_refused condition outputs = map (result_of_output (failure condition)) outputs

-- the results of outputs once the terminal has shown, or not, what is for the customer's display: the first such output has this verdict, and each other isn't shown, since there is no device for it
abbrev pub results_of : Verdict → List Output → List Shown
results_of verdict [] = []
results_of verdict (output ∷ outputs) =
    if is_for_customer output then result_of_output verdict output ∷ results_refused UnavailableDevice outputs
    else result_of_output (failure UnavailableDevice) output ∷ results_of verdict outputs

-- the reply to a Display with these results; none where no output asks for a response
abbrev pub reply_with_results : Header → List Output → List Shown → Option ReplyValue
reply_with_results header outputs results = if is_response_required outputs then Some (DisplayReply (header_of_reply header) results) else None

-- ---- which is refused, and which begins

-- a Display of a till is refused for this reason, with which each output has its result, and begins nothing; where no output asks for a response the till gets none
pub record DisplayIsRefused (till : ℕ) (header : Header) (outputs : List Output) (condition : Condition) (row : Row) : Type 0 where
  pub reply : row.calls ≡ reply_calls_to (Some till) (reply_with_results header outputs (results_refused condition outputs))
  pub none_more : row.items ≡ []

-- Where its POIID isn't configured, where no output is for the customer's display, and where its terminal isn't linked, not yet ready or set aside, a Display is refused since there is no device; where the terminal serves another request, since it is busy; and else it begins, and gets no reply yet.
pub record DisplayIsReplied (known : Known) (till : ℕ) (header : Header) (outputs : List Output) (row : Row) : Type 0 where
  pub unconfigured : named_terminal known.core header.poi ≡ None → DisplayIsRefused till header outputs UnavailableDevice row
  pub no_customer : customer_output outputs ≡ None → DisplayIsRefused till header outputs UnavailableDevice row
  pub out_of_service :
      (named : NamedTerminal) → named_terminal known.core header.poi ≡ Some named → is_out_of_service named.terminal.standing ≡ true
      → DisplayIsRefused till header outputs UnavailableDevice row
  pub busy :
      (named : NamedTerminal) (output : Output) (service : Service) (last : ℕ) → named_terminal known.core header.poi ≡ Some named → customer_output outputs ≡ Some output
      → named.terminal.standing ≡ Serving service last → DisplayIsRefused till header outputs Busy row
  pub begins :
      (named : NamedTerminal) (output : Output) (last : ℕ) → named_terminal known.core header.poi ≡ Some named → customer_output outputs ≡ Some output
      → named.terminal.standing ≡ Ready last → BeginsThere till header (requests.Display outputs) named.number row

-- so it is of each, of a till that is there
abbrev pub EachDisplayIsReplied : Type 0
EachDisplayIsReplied =
    (tills : List Connection) (known : Known) (till : ℕ) (header : Header) (outputs : List Output) → is_connected tills till ≡ true
    → DisplayIsReplied known till header outputs (row_of tills known (Asked till (Request header (requests.Display outputs))))

-- ---- what is shown

-- what is shown of an output's texts: the first eight, of each of which the first 40 characters
abbrev pub lines_shown : Option (List (List ℕ)) → List (List ℕ)
lines_shown None = []
lines_shown (Some texts) = map display_line (take 8 texts)

-- what is served of a Display: its header, and the results for the case that nothing is shown, where some output asks for a response
abbrev pub display_served : Header → List Output → Service
display_served header outputs = Display header (if is_response_required outputs then Some (results_refused UnavailableDevice outputs) else None)

-- the terminal of this number is asked to show this output for this till, and nothing else is owed, and nothing kept
pub record BeginsToShow (known : Known) (till : ℕ) (header : Header) (outputs : List Output) (output : Output) (number last : ℕ) (row : Row) : Type 0 where
  pub goes_on : GoesOnTo number (Serving (display_served header outputs) last) (SendPt number (Ask (show_lines (lines_shown output.texts))) ∷ []) row
  pub for_till : option_map (λ (serving : Terminal). serving.asker) (slice_get row.core.terminals number) ≡ Some (Some till)
  pub none_more : row.items ≡ []

-- a terminal that is ready is asked to show the first output for the customer's display
abbrev pub EachBegunIsShown : Type 0
EachBegunIsShown =
    (tills : List Connection) (known : Known) (till : ℕ) (header : Header) (outputs : List Output) (output : Output) (number : ℕ) (terminal : Terminal) (last : ℕ) → terminal_at known number ≡ Some terminal
    → terminal.standing ≡ Ready last → customer_output outputs ≡ Some output
    → BeginsToShow known till header outputs output number last (row_of tills known (Serve number till header (requests.Display outputs)))

-- ---- the end

-- once the terminal acknowledges it, the first output for the customer's display is shown
abbrev pub DoneIsShown : Type 0
DoneIsShown =
    (known : Known) (number : ℕ) (apdu : ApduValue) (terminal : Terminal) (header : Header) (outputs : List Output) (last : ℕ) → MeansServed known number apdu terminal (display_served header outputs) last heard.Done
    → GoesOnTo number (Ready last) (reply_calls_to terminal.asker (reply_with_results header outputs (results_of success outputs))) (handle_row known number apdu)

-- where the terminal declines it, that output has the condition of the code
abbrev pub DeclinedIsNotShown : Type 0
DeclinedIsNotShown =
    (known : Known) (number : ℕ) (apdu : ApduValue) (terminal : Terminal) (header : Header) (outputs : List Output) (last result_code : ℕ) (reported : Option ℕ)
    → MeansServed known number apdu terminal (display_served header outputs) last (heard.Declined result_code reported)
    → GoesOnTo number (Ready last)
    (reply_calls_to terminal.asker (reply_with_results header outputs (results_of (failure (condition_of_code result_code (was_stopped terminal.talk))) outputs))) (handle_row known number apdu)

-- where its end is unclear the connection is cut, and the till gets nothing yet
abbrev pub UnclearIsCut : Type 0
UnclearIsCut =
    (known : Known) (number : ℕ) (apdu : ApduValue) (terminal : Terminal) (header : Header) (outputs : List Output) (last : ℕ) → MeansServed known number apdu terminal (display_served header outputs) last heard.Unclear
    → GoesOnTo number (Serving (display_served header outputs) last) (CutPt number ∷ []) (handle_row known number apdu)

-- and once the link is lost no output is shown
abbrev pub LostIsNotShown : Type 0
LostIsNotShown =
    (known : Known) (number : ℕ) (terminal : Terminal) (header : Header) (outputs : List Output) (last : ℕ) → terminal_at known number ≡ Some terminal → terminal.standing ≡ Serving (display_served header outputs) last
    → GoesOnTo number (Unlinked (Some (known.moment + 5))) (reply_calls_to terminal.asker (reply_with_results header outputs (results_refused UnavailableDevice outputs))) (link_row known number LinkIsLost)

-- a refusal is never taken as the end of what is done, whatever is awaited and whatever is served
abbrev pub NackIsNeverDone : Type 0
NackIsNeverDone = (terminal : Terminal) (error_code : ℕ) → meaning_at terminal (Nack error_code) ≢ heard.Done

-- ---- no stop

-- a display that is served is never stopped: an Abort owes nothing at its terminal, and no message of that sends a stop
pub record DisplayIsNotStopped (known : Known) (number : ℕ) : Type 0 where
  pub aborted : (tills : List Connection) (till : ℕ) (asking : Header) (reference : Reference) → row_of tills known (Serve number till asking (requests.Abort reference)) ≡ owing_nothing known
  pub heard_of : (apdu : ApduValue) → owes_stop (handle_row known number apdu).calls ≡ false

-- so it is of each
abbrev pub NoDisplayIsStopped : Type 0
NoDisplayIsStopped =
    (known : Known) (number : ℕ) (terminal : Terminal) (header : Header) (results : Option (List Shown)) (last : ℕ) → terminal_at known number ≡ Some terminal → terminal.standing ≡ Serving (Display header results) last
    → DisplayIsNotStopped known number
