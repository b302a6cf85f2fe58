-- Displays: their steps, what is shown of them, how they end, and that none is stopped.
use Rattle.std.proofs.Common.{◌≡◌, ◌≢◌, ℕ, ◌+◌, Bool, true, false, List, [], ◌∷◌, refl, sym, ◌∙◌, ap, subst}
use Rattle.std.specs.Prelude.{is_some, nat_le, not, ◌==◌, ◌&&◌, ◌||◌, if◌then◌else◌, Option, Some, None, option_map, set, slice_get}
use Rattle.gw_base.specs.declared.condition.Condition.{Condition}
use Rattle.gw_base.specs.declared.condition.Condition.TheVariants.{Busy, UnavailableDevice}
use Rattle.sale_values.specs.declared.header.Header.{Header}
use Rattle.sale_values.specs.declared.request.Output.{Output}
use Rattle.sale_values.specs.declared.request.SaleRequest.TheVariants as requests
use Rattle.sale_values.specs.Key.{key_of}
use Rattle.sale_reply.specs.declared.reply.Shown.{Shown}
use Rattle.sale_reply.specs.declared.reply.Verdict.{Verdict}
use Rattle.zvt_msg.specs.Message.{Nack}
use Rattle.zvt_talk.specs.declared.meaning.Heard.{Heard}
use Rattle.zvt_talk.specs.declared.meaning.Heard.TheVariants as heard
use Rattle.zvt_talk.specs.declared.dialogue_kind.DialogueKind.{DialogueKind}
use Rattle.zvt_talk.specs.declared.phase.Phase.{Phase}
use Rattle.zvt_talk.specs.declared.phase.Phase.TheVariants as phases
use Rattle.zvt_talk.specs.Talk.{TalkFacts}
use Rattle.zvt_talk.specs.TalkSteps.{meaning_in_phase}
use Rattle.gw_ledger.specs.declared.entry.Found.{Found}
use Rattle.gw_ledger.specs.declared.entry.Found.TheVariants.{Entry, Closed}
use Rattle.gw_ledger.specs.Fold.{found_of}
use Rattle.xlate.specs.Codes.{condition_of_code}
use Rattle.xlate.specs.Display.{customer_output, display_lines, is_for_customer, show, show_lines}
use Rattle.gw_owes.specs.declared.terminal.Service.TheVariants.{Display}
use Rattle.gw_owes.specs.declared.terminal.Standing.{Standing}
use Rattle.gw_owes.specs.declared.terminal.Standing.TheVariants.{Unlinked, Ready, Serving}
use Rattle.gw_owes.specs.declared.terminal.Terminal.{Terminal}
use Rattle.gw_owes.specs.AbortLaws.{owes_stop}
use Rattle.gw_owes.specs.Calls.{Ask, SendPt}
use Rattle.gw_owes.specs.Days.{serves_day}
use Rattle.gw_owes.specs.Diagnosis.{NamedTerminal, named_terminal}
use Rattle.gw_owes.specs.DisplayLaws.{result_of_output, results_refused, results_of, reply_with_results, DisplayIsRefused, EachDisplayIsReplied, lines_shown, display_served, BeginsToShow, EachBegunIsShown, DoneIsShown, DeclinedIsNotShown, UnclearIsCut, LostIsNotShown, NackIsNeverDone, NoDisplayIsStopped}
use Rattle.gw_owes.specs.Displays.{asked_to_show, display_result, display_row, reply_of_display, serving_display, shows, shows_in, with_customer_verdict}
use Rattle.gw_owes.specs.Handling.{consequence, meaning_at, meaning_for, taken_as, taking}
use Rattle.gw_owes.specs.Items.{Asked}
use Rattle.gw_owes.specs.Links.{LinkIsLost, link_row}
use Rattle.gw_owes.specs.Payments.{serve_row}
use Rattle.gw_owes.specs.ReadAs.{Request}
use Rattle.gw_owes.specs.Replies.{display_reply, failure, header_of_reply, is_response_required, success}
use Rattle.gw_owes.specs.Reply.{ReplyValue, Display as DisplayReply}
use Rattle.gw_owes.specs.Row.{Known, Row, owing_where}
use Rattle.gw_owes.specs.Rows.{asked_row, row_of}
use Rattle.gw_owes.specs.Serving.{was_stopped}
use Rattle.gw_owes.specs.Steps.{StepResult, Fails, Begins, is_beginning, is_out_of_service, is_ready_standing, items_of_result}
use Rattle.gw_owes.specs.Stops.{serves_any, stops_key, wishes_stop}
use Rattle.gw_owes.specs.TerminalLaws.{GoesOnTo}
use Rattle.gw_owes.specs.Terminals.{terminal_at, of_terminal, reply_calls_to, reply_to_lost, unlinks}
use Rattle.gw_owes.proofs.HandlingLemmas.{each-handled}
use Rattle.gw_owes.proofs.PaymentLawLemmas.{served-leads, stopped-same}
use Rattle.gw_owes.proofs.PaymentLemmas.{shown_row}
use Rattle.gw_owes.proofs.SetLemmas.{new-is-there, same-some}

-- ---- results

-- the reply with results, where a response is asked for
replied-with : (header : Header) (outputs : List Output) (results : List Shown) → display_reply header (if is_response_required outputs then Some results else None) ≡ reply_with_results header outputs results
replied-with header outputs results = by-required (is_response_required outputs)
  where
    by-required : (required : Bool) → display_reply header (if required then Some results else None) ≡ (if required then Some (DisplayReply (header_of_reply header) results) else None)
    by-required true = refl
    by-required false = refl

with-verdict-is : (verdict : Verdict) (outputs : List Output) → with_customer_verdict verdict (results_refused UnavailableDevice outputs) ≡ results_of verdict outputs
with-verdict-is verdict [] = refl
with-verdict-is verdict (output ∷ outputs) = by-customer (is_for_customer output) (with-verdict-is verdict outputs)
  where
    by-customer : (customer : Bool) → with_customer_verdict verdict (results_refused UnavailableDevice outputs) ≡ results_of verdict outputs → (if customer then result_of_output verdict output ∷ results_refused UnavailableDevice outputs else result_of_output (failure UnavailableDevice) output ∷ with_customer_verdict verdict (results_refused UnavailableDevice outputs))
        ≡ (if customer then result_of_output verdict output ∷ results_refused UnavailableDevice outputs else result_of_output (failure UnavailableDevice) output ∷ results_of verdict outputs)
    by-customer true others_are = refl
    by-customer false others_are = ap (λ (others : List Shown). result_of_output (failure UnavailableDevice) output ∷ others) others_are

-- the reply at the end, where the display has this verdict
ended-with : (verdict : Verdict) (header : Header) (outputs : List Output)
    → display_reply header (option_map (with_customer_verdict verdict) (if is_response_required outputs then Some (results_refused UnavailableDevice outputs) else None)) ≡ reply_with_results header outputs (results_of verdict outputs)
ended-with verdict header outputs = by-required (is_response_required outputs)
  where
    by-required : (required : Bool)
        → display_reply header (option_map (with_customer_verdict verdict) (if required then Some (results_refused UnavailableDevice outputs) else None)) ≡ (if required then Some (DisplayReply (header_of_reply header) (results_of verdict outputs)) else None)
    by-required true = ap (λ (results : List Shown). Some (DisplayReply (header_of_reply header) results)) (with-verdict-is verdict outputs)
    by-required false = refl

-- ---- the steps

-- what a Display owes as it is read, by the terminal that is named and the result of its steps
abbrev asked_display : Known → ℕ → Header → List Output → Option NamedTerminal → StepResult → Row
asked_display known till header outputs named result =
    record { core = known.core; calls = reply_calls_to (Some till) (reply_of_display header outputs result); items = items_of_result till header (requests.Display outputs) named result }

no-items : (till : ℕ) (header : Header) (outputs : List Output) (named : Option NamedTerminal) (condition : Condition) → items_of_result till header (requests.Display outputs) named (Fails condition) ≡ []
no-items till header outputs None condition = refl
no-items till header outputs (Some named) condition = refl

refused-for : (known : Known) (till : ℕ) (header : Header) (outputs : List Output) (named : Option NamedTerminal) (condition : Condition) → DisplayIsRefused till header outputs condition (asked_display known till header outputs named (Fails condition))
refused-for known till header outputs named condition = record {
  reply = ap (reply_calls_to (Some till)) (replied-with header outputs (results_refused condition outputs));
  none_more = no-items till header outputs named condition;
}

-- the result at a terminal that is named, by whether there is anything to show and the terminal's standing
abbrev result_in : Bool → Standing → StepResult
result_in some standing =
    if not some then Fails UnavailableDevice else (if is_out_of_service standing then Fails UnavailableDevice else (if is_ready_standing standing then Begins else Fails Busy))

nothing-shown : (named : Option NamedTerminal) (outputs : List Output) → customer_output outputs ≡ None → display_result outputs named ≡ Fails UnavailableDevice
nothing-shown None outputs none = refl
nothing-shown (Some named) outputs none = ap (λ (output : Option Output). result_in (is_some (option_map (λ (o : Output). show_lines (display_lines o.texts)) output)) named.terminal.standing) none

out-of-service : (named : NamedTerminal) (outputs : List Output) → is_out_of_service named.terminal.standing ≡ true → display_result outputs (Some named) ≡ Fails UnavailableDevice
out-of-service named outputs out = by-tests (is_some (show outputs)) (is_out_of_service named.terminal.standing) out
  where
    by-tests : (some out_of_it : Bool) → out_of_it ≡ true → (if not some then Fails UnavailableDevice else (if out_of_it then Fails UnavailableDevice else (if is_ready_standing named.terminal.standing then Begins else Fails Busy))) ≡ Fails UnavailableDevice
    by-tests true true is = refl
    by-tests true false is = absurd cc
    by-tests false out_of_it is = refl

something-shown : (named : NamedTerminal) (outputs : List Output) (output : Output) (standing : Standing) → customer_output outputs ≡ Some output → named.terminal.standing ≡ standing → display_result outputs (Some named) ≡ result_in true standing
something-shown named outputs output standing some stands =
    ap (λ (found : Option Output). result_in (is_some (option_map (λ (o : Output). show_lines (display_lines o.texts)) found)) named.terminal.standing) some ∙ ap (result_in true) stands

pub each-display-replied : EachDisplayIsReplied
each-display-replied tills known till header outputs there = record {
  unconfigured = λ none. refused UnavailableDevice None none refl;
  no_customer = λ none. refused UnavailableDevice (named_terminal known.core header.poi) refl (nothing-shown (named_terminal known.core header.poi) outputs none);
  out_of_service = λ named named_is out. refused UnavailableDevice (Some named) named_is (out-of-service named outputs out);
  busy = λ named output service last named_is some serves. refused Busy (Some named) named_is (something-shown named outputs output (Serving service last) some serves);
  begins = λ named output last named_is some ready.
      let row = row_is (Some named) named_is Begins (something-shown named outputs output (Ready last) some ready) in
      record { items_are = ap (λ (r : Row). r.items) row; no_reply = ap (λ (r : Row). r.calls) row };
}
  where
    row_is : (named : Option NamedTerminal) → named_terminal known.core header.poi ≡ named → (result : StepResult) → display_result outputs named ≡ result
        → row_of tills known (Asked till (Request header (requests.Display outputs))) ≡ asked_display known till header outputs named result
    row_is named named_is result is =
        ap (λ (b : Bool). owing_where b known (asked_row known till (Request header (requests.Display outputs)))) there
        ∙ (ap (λ (n : Option NamedTerminal). asked_display known till header outputs n (display_result outputs n)) named_is ∙ ap (asked_display known till header outputs named) is)

    refused : (condition : Condition) (named : Option NamedTerminal) → named_terminal known.core header.poi ≡ named → display_result outputs named ≡ Fails condition
        → DisplayIsRefused till header outputs condition (row_of tills known (Asked till (Request header (requests.Display outputs))))
    refused condition named named_is is = subst (DisplayIsRefused till header outputs condition) (sym (row_is named named_is (Fails condition) is)) (refused-for known till header outputs named condition)

-- ---- the beginning

lines-are : (texts : Option (List (List ℕ))) → display_lines texts ≡ lines_shown texts
lines-are None = refl
lines-are (Some texts) = refl

begun-row : (known : Known) (number till : ℕ) (header : Header) (outputs : List Output) (output : Output) (terminal : Terminal) (last : ℕ) → terminal_at known number ≡ Some terminal → terminal.standing ≡ Ready last
    → customer_output outputs ≡ Some output → serve_row known number till header (requests.Display outputs) ≡ shown_row known number till header terminal last outputs (show_lines (display_lines output.texts))
begun-row known number till header outputs output terminal last found ready some =
    ap (of_terminal known (display_row known number till header outputs)) found
    ∙ (ap (λ (result : StepResult). owing_where (is_beginning result) known (shows_in known number till header outputs terminal terminal.standing))
    (something-shown (record { number = number; terminal = terminal }) outputs output (Ready last) some ready)
    ∙ (ap (shows_in known number till header outputs terminal) ready
    ∙ ap (λ (customer : Option Output). shows known number till header outputs terminal last (option_map (λ (o : Output). show_lines (display_lines o.texts)) customer)) some))

pub each-begun-shown : EachBegunIsShown
each-begun-shown tills known till header outputs output number terminal last found ready some =
    let asked : Terminal = asked_to_show known till terminal last header outputs (show_lines (display_lines output.texts)) in
    let there : slice_get (set known.core.terminals number asked) number ≡ Some asked = new-is-there known.core.terminals number terminal asked found in
    subst (BeginsToShow known till header outputs output number last) (sym (begun-row known number till header outputs output terminal last found ready some)) (record {
      goes_on = record { terminal = asked; found = there; standing_is = refl; calls_are = ap (λ (lines : List (List ℕ)). SendPt number (Ask (show_lines lines)) ∷ []) (lines-are output.texts) };
      for_till = ap (option_map (λ (serving : Terminal). serving.asker)) there;
      none_more = refl;
    })

-- ---- the end

pub done-shown : DoneIsShown
done-shown known number apdu terminal header outputs last at =
    served-leads known number apdu terminal (display_served header outputs) last heard.Done _ _ at (λ e. cc) (λ is_shown. is_shown)
    (record { terminal = _; found = new-is-there known.core.terminals number terminal _ at.found; standing_is = refl; calls_are = ap (reply_calls_to terminal.asker) (ended-with success header outputs) })

pub declined-not-shown : DeclinedIsNotShown
declined-not-shown known number apdu terminal header outputs last result_code reported at =
    served-leads known number apdu terminal (display_served header outputs) last (heard.Declined result_code reported) _ _ at (λ e. cc) (λ is_shown. is_shown)
    (record {
      terminal = _;
      found = new-is-there known.core.terminals number terminal _ at.found;
      standing_is = refl;
      calls_are =
          ap (reply_calls_to terminal.asker) (ended-with (failure (condition_of_code result_code (was_stopped (taking terminal at.message known.moment).talk))) header outputs)
          ∙ ap (λ (stopped : Bool). reply_calls_to terminal.asker (reply_with_results header outputs (results_of (failure (condition_of_code result_code stopped)) outputs)))
          (stopped-same terminal.talk (taken_as terminal.awaited at.message) known.moment result_code reported at.means);
    })

pub unclear-cut : UnclearIsCut
unclear-cut known number apdu terminal header outputs last at =
    served-leads known number apdu terminal (display_served header outputs) last heard.Unclear _ _ at (λ e. cc) (λ is_shown. is_shown)
    (record { terminal = _; found = new-is-there known.core.terminals number terminal _ at.found; standing_is = at.standing_is; calls_are = refl })

-- the row of a link that is lost
pub lost-is : (known : Known) (number : ℕ) (terminal : Terminal) → terminal_at known number ≡ Some terminal → link_row known number LinkIsLost ≡ unlinks known number terminal
lost-is known number terminal found = ap (of_terminal known (unlinks known number)) found

pub lost-not-shown : LostIsNotShown
lost-not-shown known number terminal header outputs last found serves =
    subst (GoesOnTo number (Unlinked (Some (known.moment + 5))) (reply_calls_to terminal.asker (reply_with_results header outputs (results_refused UnavailableDevice outputs)))) (sym (lost-is known number terminal found))
    (record {
      terminal = _;
      found = new-is-there known.core.terminals number terminal _ found;
      standing_is = refl;
      calls_are = ap (λ (standing : Standing). reply_calls_to terminal.asker (reply_to_lost standing)) serves ∙ ap (reply_calls_to terminal.asker) (replied-with header outputs (results_refused UnavailableDevice outputs));
    })

-- ---- a refusal

pub nack-never-done : NackIsNeverDone
nack-never-done terminal error_code = by-talk terminal.talk (if nat_le 2 terminal.awaited then 0 else error_code)
  where
    by-code : (code : ℕ) (none : Bool) → (if none then heard.Unclear else heard.Declined code None) ≢ heard.Done
    by-code code true e = cc
    by-code code false e = cc

    by-phase : (dialogue_kind : DialogueKind) (none code : ℕ) (phase : Phase) → meaning_in_phase dialogue_kind none phase (Nack code) ≢ heard.Done
    by-phase dialogue_kind none code (phases.Asked stop_wished) e = by-code code (code == 0) e
    by-phase dialogue_kind none code (phases.Begun stop_sent statuses) e = cc
    by-phase dialogue_kind none code (phases.Ended stop_sent) e = cc

    by-talk : (talk : Option TalkFacts) (code : ℕ) → meaning_for talk (Nack code) ≢ heard.Done
    by-talk None code e = cc
    by-talk (Some talk) code e = by-phase talk.dialogue_kind talk.none code talk.phase e

-- ---- no stop

reply-stops-none : (asker : Option ℕ) (reply : Option ReplyValue) → owes_stop (reply_calls_to asker reply) ≡ false
reply-stops-none None reply = refl
reply-stops-none (Some till) None = refl
reply-stops-none (Some till) (Some reply) = refl

showing-stops-none : (known : Known) (number : ℕ) (terminal : Terminal) (last : ℕ) (header : Header) (results : Option (List Shown)) (meant : Heard) → owes_stop (serving_display known number terminal last header results meant).calls ≡ false
showing-stops-none known number terminal last header results (heard.Begun stop) = refl
showing-stops-none known number terminal last header results (heard.Note intermediate_status) = refl
showing-stops-none known number terminal last header results heard.Line = refl
showing-stops-none known number terminal last header results heard.Block = refl
showing-stops-none known number terminal last header results heard.Seen = refl
showing-stops-none known number terminal last header results (heard.Approved figures) = refl
showing-stops-none known number terminal last header results heard.Done = reply-stops-none terminal.asker _
showing-stops-none known number terminal last header results (heard.Told reported approved result_code) = refl
showing-stops-none known number terminal last header results (heard.Declined result_code reported) = reply-stops-none terminal.asker _
showing-stops-none known number terminal last header results heard.Unclear = refl
showing-stops-none known number terminal last header results heard.Stray = refl

-- no key is served by a display
never-serves : (header : Header) (results : Option (List Shown)) (last : ℕ) (found : Option Found) → serves_any (Serving (Display header results) last) found ≡ false
never-serves header results last None = refl
never-serves header results last (Some (Entry entry)) = by-open (not (is_some entry.result))
  where
    by-open : (is_open : Bool) → (is_open && false) ≡ false
    by-open true = refl
    by-open false = refl
never-serves header results last (Some (Closed closed)) = refl

pub no-display-stopped : NoDisplayIsStopped
no-display-stopped known number terminal header results last found serves = record {
  aborted = λ tills till asking reference.
      ap (of_terminal known (stops_key known number (key_of asking reference))) found
      ∙ (ap (λ (standing : Standing). owing_where (serves_any standing (found_of known.kept (key_of asking reference)) || serves_day (key_of asking reference) standing) known (wishes_stop known number terminal terminal.talk)) serves
      ∙ ap (λ (any : Bool). owing_where (any || false) known (wishes_stop known number terminal terminal.talk)) (never-serves header results last (found_of known.kept (key_of asking reference))));
  heard_of = λ apdu. each-handled (λ (row : Row). owes_stop row.calls ≡ false) known number apdu refl
      (λ other message there linked is taken.
      let same : other.standing ≡ Serving (Display header results) last = ap (λ (t : Terminal). t.standing) (same-some other terminal (sym there ∙ found)) ∙ serves in
      ap (λ (standing : Standing). owes_stop (consequence known number (taking other message known.moment) (meaning_at other message) standing).calls) same
      ∙ showing-stops-none known number (taking other message known.moment) last header results (meaning_at other message))
      (λ other message there linked is taken at stays. refl);
}
