-- Closed examples of Displays: the results of several outputs, what is shown of long texts and of many, and how a display ends.
use Rattle.std.specs.Prelude.{◌≡◌, ℕ, true, false, List, [], ◌∷◌, ◌++◌, Some, None, codes}
use Rattle.gw_base.specs.declared.condition.Condition.TheVariants.{Busy, UnavailableDevice, UnavailableService}
use Rattle.gw_site.specs.Outside.{is_connected}
use Rattle.sale_values.specs.declared.header.Header.{Header}
use Rattle.sale_values.specs.declared.names.Class.TheVariants as classes
use Rattle.sale_values.specs.declared.request.Output.{Output}
use Rattle.sale_values.specs.declared.request.SaleRequest.TheVariants as requests
use Rattle.sale_reply.specs.declared.reply.Shown.{Shown}
use Rattle.sale_reply.specs.declared.reply.Verdict.{Verdict}
use Rattle.zvt_apdu.specs.Grammar.{ApduValue}
use Rattle.zvt_talk.specs.declared.meaning.Heard.{Heard}
use Rattle.zvt_talk.specs.declared.meaning.Heard.TheVariants as heard
use Rattle.xlate.specs.Display.{customer_output, show_lines}
use Rattle.gw_owes.specs.declared.terminal.Service.TheVariants.{Transaction}
use Rattle.gw_owes.specs.declared.terminal.Standing.{Standing}
use Rattle.gw_owes.specs.declared.terminal.Standing.TheVariants.{Unlinked, Ready, Serving}
use Rattle.gw_owes.specs.declared.terminal.Terminal.{Terminal}
use Rattle.gw_owes.specs.Calls.{OwedCall, Ask, SendTill, SendPt, CutPt}
use Rattle.gw_owes.specs.Diagnosis.{named_terminal}
use Rattle.gw_owes.specs.DisplayLaws.{display_served, lines_shown, results_of}
use Rattle.gw_owes.specs.Links.{LinkIsLost}
use Rattle.gw_owes.specs.PaymentExample.{Since, ComesTo, acknowledged_once, begun_calls, since_asked, since_begun, since_linked, since_ready, since_sent, till_header, two_tills}
use Rattle.owes_examples.specs.PaymentExample.{ready_terminal}
use Rattle.gw_owes.specs.PaymentLaws.{MeansServed}
use Rattle.gw_owes.specs.Reply.{Display as DisplayReply}
use Rattle.gw_owes.specs.Replies.{header_of_reply, success, failure}
use Rattle.gw_owes.specs.TerminalExample.{ack, completion}
use Rattle.gw_owes.specs.Terminals.{terminal_at}

-- ---- outputs

-- an output of one text for this device, which asks for a response
abbrev pub text_for : List ℕ → List ℕ → Output
text_for device text = record { device = device; qualify = codes "Display"; required = true; texts = Some (text ∷ []) }

-- one for the customer's display
abbrev pub text_for_customer : List ℕ → Output
text_for_customer text = text_for (codes "CustomerDisplay") text

-- one for the cashier's display
abbrev pub text_for_cashier : List ℕ → Output
text_for_cashier text = text_for (codes "CashierDisplay") text

-- one for the cashier's display, and then two for the customer's
abbrev pub three_outputs : List Output
three_outputs = text_for_cashier (codes "A") ∷ text_for_customer (codes "B") ∷ text_for_customer (codes "C") ∷ []

-- the result of an output for this device
abbrev pub result_for : List ℕ → Verdict → Shown
result_for device verdict = record { device = device; qualify = codes "Display"; verdict = verdict }

-- the results of these outputs, where the second has this one
abbrev pub three_results : Verdict → List Shown
three_results verdict =
    result_for (codes "CashierDisplay") (failure UnavailableDevice) ∷ result_for (codes "CustomerDisplay") verdict ∷ result_for (codes "CustomerDisplay") (failure UnavailableDevice) ∷ []

-- the first output for the customer's display has the result, and each other isn't shown
pub record ExampleResults : Type 0 where
  pub is_shown : results_of success three_outputs ≡ three_results success
  pub not_shown : results_of (failure UnavailableService) three_outputs ≡ three_results (failure UnavailableService)
  pub no_customer : results_of success (text_for_cashier (codes "A") ∷ []) ≡ result_for (codes "CashierDisplay") (failure UnavailableDevice) ∷ []
  pub first : customer_output three_outputs ≡ Some (text_for_customer (codes "B"))

-- ---- lines

-- ten letters
abbrev pub ten_letters : List ℕ
ten_letters = codes "abcdefghij"

-- of nine texts the first eight are shown, and of 41 characters the first 40; an umlaut has two bytes in the till's text and one in the terminal's; an empty text is an empty line
pub record ExampleShownLines : Type 0 where
  pub eight :
      lines_shown (Some (codes "1" ∷ codes "2" ∷ codes "3" ∷ codes "4" ∷ codes "5" ∷ codes "6" ∷ codes "7" ∷ codes "8" ∷ codes "9" ∷ []))
      ≡ codes "1" ∷ codes "2" ∷ codes "3" ∷ codes "4" ∷ codes "5" ∷ codes "6" ∷ codes "7" ∷ codes "8" ∷ []
  pub forty : lines_shown (Some ((ten_letters ++ ten_letters ++ ten_letters ++ ten_letters ++ codes "k") ∷ [])) ≡ (ten_letters ++ ten_letters ++ ten_letters ++ ten_letters) ∷ []
  pub umlaut : lines_shown (Some ((0xC3 ∷ 0xBC ∷ 0x6E ∷ []) ∷ [])) ≡ (0x81 ∷ 0x6E ∷ []) ∷ []
  pub empty : lines_shown (Some ([] ∷ [])) ≡ [] ∷ []
  pub no_texts : lines_shown None ≡ []

-- ---- a display ends

-- the header of the Display of till `S1` with ServiceID 1
abbrev pub three_header : Header
three_header = record (till_header (codes "Display") (codes "1")) { class = classes.Device; device = Some (codes "7") }

-- till 1 asks for it
abbrev pub since_display : List Output → Since → Since
since_display outputs since = since_asked 1 three_header (requests.Display outputs) since

-- at a terminal that is ready with trace number 122
abbrev pub since_showing : Since
since_showing = since_display three_outputs (since_ready 122)

-- the terminal is asked to show `B`
abbrev pub showing_calls : List OwedCall
showing_calls = SendPt 0 (Ask (show_lines (codes "B" ∷ []))) ∷ []

-- it serves the display then
abbrev pub showing_standing : Standing
showing_standing = Serving (display_served three_header three_outputs) 122

-- the till gets these results
abbrev pub gets_results : List Shown → OwedCall
gets_results results = SendTill 1 (DisplayReply (header_of_reply three_header) results)

-- the refusal of a command with the code 83
abbrev pub refusal_83 : List ℕ
refusal_83 = 0x84 ∷ 0x83 ∷ 0x00 ∷ []

-- It begins, and the till gets its results once the terminal acknowledges it or declines it, or once the link is lost; also a Display that is refused at once has them. A Display without a response gets nothing.
pub record ExampleDisplayEnds : Type 0 where
  pub begins : ComesTo since_showing showing_calls showing_standing
  pub done : ComesTo (since_sent ack since_showing) (showing_calls ++ gets_results (three_results success) ∷ []) (Ready 122)
  pub declined : ComesTo (since_sent refusal_83 since_showing) (showing_calls ++ gets_results (three_results (failure UnavailableService)) ∷ []) (Ready 122)
  pub unclear : ComesTo (since_sent completion since_showing) (showing_calls ++ acknowledged_once ++ CutPt 0 ∷ []) (Unlinked (Some 1741342269))
  pub lost : ComesTo (since_linked LinkIsLost since_showing) (showing_calls ++ gets_results (three_results (failure UnavailableDevice)) ∷ []) (Unlinked (Some 1741342269))
  pub busy :
      ComesTo (since_display (text_for_customer (codes "B") ∷ []) (since_begun 0)) (begun_calls 0 ++ gets_results (result_for (codes "CustomerDisplay") (failure Busy) ∷ []) ∷ []) (Serving (Transaction 0) 0)
  pub silent : ComesTo (since_display (record (text_for_cashier (codes "A")) { required = false } ∷ []) (since_ready 122)) [] (Ready 122)

-- ---- premises

-- the terminal that serves the display sends a message that means this
pub record MeansServes (since : Since) (apdu : ApduValue) (meant : Heard) : Type 0 where
  pub terminal : Terminal
  pub means : MeansServed since.known 0 apdu terminal (display_served three_header three_outputs) 122 meant

-- till 1 is there, its terminal is named and ready, and there is an output for the customer's display; the terminal that shows it acknowledges it, or refuses it
pub record ExampleDisplayPremises : Type 0 where
  pub there : is_connected two_tills 1 ≡ true
  pub named : named_terminal (since_ready 122).known.core (codes "T1") ≡ Some (record { number = 0; terminal = ready_terminal })
  pub found : terminal_at (since_ready 122).known 0 ≡ Some ready_terminal
  pub customer : customer_output three_outputs ≡ Some (text_for_customer (codes "B"))
  pub acknowledged : MeansServes since_showing (record { class = 0x80; instr = 0x00; body = [] }) heard.Done
  pub refused : MeansServes since_showing (record { class = 0x84; instr = 0x83; body = [] }) (heard.Declined 0x83 None)
