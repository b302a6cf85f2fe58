-- What is remembered of a terminal is what the transcript of its link says.
use Rattle.std.proofs.Common.{◌≡◌, ◌≢◌, ℕ, zero, suc, List, [], ◌∷◌, ◌++◌, refl, sym, ◌∙◌, ap, subst, Bool, true, false, cond, eqb}
use Rattle.std.proofs.lemmas.Bool.{eqb-true, eqb-false}
use Rattle.std.specs.Prelude.{map, slice_get, pos, nat_le, nat_lt, Option, Some, None, if◌then◌else◌, option_and_then, Result, Ok, Err}
use Rattle.std.specs.Option.{option_map}
use Rattle.gw_base.specs.declared.figures.Figures.{Figures}
use Rattle.gw_base.specs.declared.key.Key.{Key}
use Rattle.gw_base.specs.declared.setup.Pt.{Pt}
use Rattle.sale_reply.specs.declared.reply.Shown.{Shown}
use Rattle.sale_values.specs.declared.header.Header.{Header}
use Rattle.sale_values.specs.declared.names.Period.{Period}
use Rattle.sale_values.specs.declared.request.Output.{Output}
use Rattle.sale_values.specs.declared.request.SaleRequest.{SaleRequest}
use Rattle.sale_values.specs.declared.request.SaleRequest.TheVariants as requests
use Rattle.sale_values.specs.Key.{key_of}
use Rattle.zvt_apdu.specs.Grammar.{ApduValue}
use Rattle.zvt_msg.specs.declared.command.Command.{Command}
use Rattle.zvt_msg.specs.declared.command.Command.TheVariants as commands
use Rattle.zvt_msg.specs.declared.fault.PtFault.{PtFault}
use Rattle.zvt_msg.specs.Message.{MessageValue, Ack, Nack, Intermediate, Line, Block, Status, Completion, Abort, Other}
use Rattle.zvt_msg.specs.MessageDecode.{decode_pt_message}
use Rattle.zvt_talk.specs.declared.dialogue_kind.DialogueKind.{DialogueKind}
use Rattle.zvt_talk.specs.declared.dialogue_kind.DialogueKind.TheVariants.{Registration, Enquiry, Payment, Reversal, EndOfDay, Display}
use Rattle.zvt_talk.specs.declared.meaning.Heard.{Heard}
use Rattle.zvt_talk.specs.declared.meaning.Heard.TheVariants as heard
use Rattle.zvt_talk.specs.Came.{Came, is_taken}
use Rattle.zvt_talk.specs.Dialogue.{Dialogue}
use Rattle.zvt_talk.specs.Laws.{IsTransaction, IsEndOf, IsTransactionEnd, IsEnquiryEnd, IsServiceEnd}
use Rattle.zvt_talk.specs.Talk.{TalkFacts, meaning, is_end, end_of, talk_after}
use Rattle.zvt_talk.specs.TalkSteps.{may_send_stop, next_talk, talk_after_stop_wished}
use Rattle.jrn_record.specs.declared.records.How.TheVariants as hows
use Rattle.jrn_record.specs.declared.records.Deal.{Deal}
use Rattle.jrn_record.specs.declared.records.Deal.TheVariants as deals
use Rattle.jrn_record.specs.declared.records.Intent.{Intent as TheIntent}
use Rattle.jrn_record.specs.declared.records.Outcome.{Outcome as TheOutcome}
use Rattle.gw_ledger.specs.declared.entry.Entry.{Entry as TheEntry}
use Rattle.xlate.specs.Ask.{ask_for}
use Rattle.xlate.specs.Display.{show_lines}
use Rattle.gw_owes.specs.Awaited.{one_more_awaited}
use Rattle.gw_owes.specs.DeviceRequests.{requests_device}
use Rattle.gw_owes.specs.Displays.{asked_to_show, display_row, serving_display}
use Rattle.gw_owes.specs.Reconciliations.{settled_of, reply_to_settled, day_command, asked_for_day, reconciliation_row, serving_day}
use Rattle.gw_owes.specs.Reply.{ReplyValue}
use Rattle.gw_owes.specs.declared.terminal.Service.TheVariants as services
use Rattle.gw_owes.specs.declared.terminal.Standing.{Standing}
use Rattle.gw_owes.specs.declared.terminal.Standing.TheVariants.{Unlinked, Registering, Enquiring, Ready, Serving, Aside}
use Rattle.gw_owes.specs.declared.terminal.Terminal.{Terminal}
use Rattle.gw_owes.specs.Core.{Wait, Core, new_terminal}
use Rattle.gw_owes.specs.Items.{RoundItem, Crowded, Message, Asked, Unframed, Gone, Greet, Handle, Serve, Queue, NextWaiting, Oversized, LinkLost, Late, Overdue, Due}
use Rattle.gw_owes.specs.Row.{Known, Row, owing, owing_nothing, owing_where}
use Rattle.gw_owes.specs.Calls.{LinkPt}
use Rattle.gw_owes.specs.Terminals.{terminal_at, of_terminal, with_terminal, talk_of_command, registers, unlinks, unlinked_terminal, link_lost, link_made, reply_calls_to, reply_to_lost, terminal_becomes}
use Rattle.gw_owes.specs.Links.{is_linked, cutting, LinkEvent, link_row, LinkIsMade, LinkHasFailed, LinkIsLost}
use Rattle.gw_owes.specs.Reports.{Report, on_record, least_against, least_reported, standing_reported, outcome_reported, report_of_open, report_against}
use Rattle.gw_owes.specs.Serving.{at_rest, staying, stops, reply_to_outcome, done_with, resolves, approved_outcome, was_stopped, declined_outcome, approved_row, last_after_decline, serving_transaction}
use Rattle.gw_owes.specs.Payments.{Asking, asking_of, begins_asking, begins_in, begins_request, serve_row}
use Rattle.gw_owes.specs.Sessions.{is_session}
use Rattle.gw_owes.specs.SessionRows.{session_row}
use Rattle.gw_owes.specs.Steps.{is_beginning, step_result}
use Rattle.gw_owes.specs.Stops.{serves_key, stops_key, wishes_stop, wishing}
use Rattle.gw_owes.specs.Handling.{awaited_after, taken_as, meaning_for, meaning_at, taking, registering, enquiring, consequence, taken_row, handle_message, handle_decoded, handle_row}
use Rattle.gw_owes.specs.Greeting.{greeting, sending_calls, greet_decoded, greet_row, oversized_row}
use Rattle.gw_owes.specs.Deadlines.{is_late, late_row, is_due, due_row}
use Rattle.gw_owes.specs.TerminalLaws.{owes_cut, ChangesTerminalAlone}
use Rattle.gw_owes.specs.TerminalRows.{terminal_of, terminal_row}
use Rattle.gw_owes.specs.Transcript.{Carried, Commanded, Took, Wished, TerminalStep, StepAt, HandlesItem, ChangesLink, ChangesWaits, awaited_by, dialogue_by, came_by, talk_by, standing_taken, some_transaction, some_day, some_display, standing_asked, standing_commanded, standing_by, as_carried, FollowsTranscript, commanded_by, took_decoded, took_of, wished_of, wished_for, took_by, transcript_after, transcript_anew, core_with_cut, core_after, is_number, transcript_with_cut, transcript_after_step, known_before, known_after, core_along, transcript_along, known_new, NewCoreFollowsTranscript, EachRowFollowsTranscript, EachLinkBeginsTranscript, EachStepFollowsTranscript}
use Rattle.gw_owes.specs.WaitingRows.{next_waiting_row}
use Rattle.gw_owes.proofs.DialogueLemmas.{shown-lines}
use Rattle.gw_owes.proofs.HandlingLemmas.{by-where, each-terminal, each-linked, taken-cases}
use Rattle.gw_owes.proofs.NextLemmas.{each-next, known_without}
use Rattle.gw_owes.proofs.PaymentLemmas.{session-served, day_row, each-reconciled, shown_row, each-shown}
use Rattle.gw_owes.proofs.SetLemmas.{new-is-there, same-some}
use Rattle.gw_owes.proofs.StandingLemmas.{DialogueLaws, talk-is, GoesOn, talk-goes, ended-rests, rests-more, standing-took, rests-unended, runs-ends, wished-talk, StandsIn, stands-in}
use Rattle.gw_owes.proofs.TerminalLemmas.{link-changes-alone, row-changes-alone}

-- ---- what a terminal becomes

follows : (known : Known) (number : ℕ) (transcript : List Carried) (old new : Terminal) → terminal_at known number ≡ Some old → new.talk ≡ talk_by new.pt transcript → new.awaited ≡ awaited_by transcript
    → Some (as_carried new.standing) ≡ standing_by new.pt transcript → FollowsTranscript number transcript (with_terminal known.core number new)
follows known number transcript old new found talk awaited standing =
    record { terminal = new; found = new-is-there known.core.terminals number old new found; talk_is = talk; awaited_is = awaited; standing_is = standing }

-- the least trace number that the terminal may report
abbrev pub least_of : Known → Terminal → ℕ
least_of known terminal = least_reported (on_record known.kept terminal.pt.poi)

-- the terminal has taken a message in a dialogue that has such ends, which meant this
record HasTaken (known : Known) (number : ℕ) (transcript : List Carried) (ends : Heard → Type 0) (standing : Standing) (terminal : Terminal) (meant : Heard) : Type 0 where
  old : Terminal
  found : terminal_at known number ≡ Some old
  dialogue : Dialogue
  dialogue_is : dialogue_by terminal.pt transcript ≡ Some dialogue
  talk_is : terminal.talk ≡ Some (talk_after dialogue (came_by transcript))
  awaited_is : terminal.awaited ≡ awaited_by transcript
  standing_is : terminal.standing ≡ standing
  end_is : end_of dialogue (came_by transcript) ≡ cond (is_end meant) (Some meant) None
  may_end : is_end meant ≡ true → ends meant
  leads : standing_by terminal.pt transcript ≡ standing_taken (least_of known terminal) (cond (is_end meant) (Some meant) None) (as_carried standing)

-- a dialogue that goes on leaves its talk
goes-talk : (laws : DialogueLaws) (known : Known) (number : ℕ) (transcript : List Carried) (ends : Heard → Type 0) (standing : Standing) (terminal : Terminal) (meant : Heard)
    → HasTaken known number transcript ends standing terminal meant → is_end meant ≡ false → terminal.talk ≡ talk_by terminal.pt transcript
goes-talk laws known number transcript ends standing terminal meant taken goes =
    taken.talk_is ∙ sym (talk-is laws terminal.pt transcript taken.dialogue None taken.dialogue_is (taken.end_is ∙ ap (λ (b : Bool). cond b (Some meant) None) goes))

-- and its standing
goes-standing : (known : Known) (number : ℕ) (transcript : List Carried) (ends : Heard → Type 0) (standing : Standing) (terminal : Terminal) (meant : Heard)
    → HasTaken known number transcript ends standing terminal meant → is_end meant ≡ false → Some (as_carried terminal.standing) ≡ standing_by terminal.pt transcript
goes-standing known number transcript ends standing terminal meant taken goes =
    ap (λ (s : Standing). Some (as_carried s)) taken.standing_is
    ∙ sym (taken.leads ∙ ap (λ (b : Bool). standing_taken (least_of known terminal) (cond b (Some meant) None) (as_carried standing)) goes)

goes-on : (laws : DialogueLaws) (known : Known) (number : ℕ) (transcript : List Carried) (ends : Heard → Type 0) (standing : Standing) (terminal : Terminal) (meant : Heard)
    → HasTaken known number transcript ends standing terminal meant → is_end meant ≡ false → FollowsTranscript number transcript (with_terminal known.core number terminal)
goes-on laws known number transcript ends standing terminal meant taken goes =
    follows known number transcript taken.old terminal taken.found
    (goes-talk laws known number transcript ends standing terminal meant taken goes) taken.awaited_is
    (goes-standing known number transcript ends standing terminal meant taken goes)

-- a dialogue that has ended leaves no talk
ends-talk : (laws : DialogueLaws) (known : Known) (number : ℕ) (transcript : List Carried) (ends : Heard → Type 0) (standing : Standing) (terminal : Terminal) (meant : Heard)
    → HasTaken known number transcript ends standing terminal meant → is_end meant ≡ true → None ≡ talk_by terminal.pt transcript
ends-talk laws known number transcript ends standing terminal meant taken ended =
    sym (talk-is laws terminal.pt transcript taken.dialogue (Some meant) taken.dialogue_is (taken.end_is ∙ ap (λ (b : Bool). cond b (Some meant) None) ended))

-- what a row without a cut leaves
abbrev Follows : Known → ℕ → List Carried → Row → Type 0
Follows known number transcript row = owes_cut row.calls ≡ false → FollowsTranscript number (commanded_by known.moment row.calls ++ transcript) row.core

-- ---- a reply

pub reply-quiet : (moment : ℕ) (asker : Option ℕ) (reply : Option ReplyValue) → commanded_by moment (reply_calls_to asker reply) ≡ []
reply-quiet moment None reply = refl
reply-quiet moment (Some till) None = refl
reply-quiet moment (Some till) (Some reply) = refl

-- the terminal is done, its till gets the reply, and no command is sent
replied-follows : (known : Known) (number : ℕ) (transcript : List Carried) (old terminal : Terminal) (standing : Standing) (reply : Option ReplyValue) → terminal_at known number ≡ Some old → None ≡ talk_by terminal.pt transcript
    → terminal.awaited ≡ awaited_by transcript → Some (as_carried standing) ≡ standing_by terminal.pt transcript
    → FollowsTranscript number (commanded_by known.moment (reply_calls_to terminal.asker reply) ++ transcript) (with_terminal known.core number (done_with terminal standing))
replied-follows known number transcript old terminal standing reply found talk awaited stands =
    subst (λ (sent : List Carried). FollowsTranscript number (sent ++ transcript) (with_terminal known.core number (done_with terminal standing)))
    (sym (reply-quiet known.moment terminal.asker reply))
    (follows known number transcript old (done_with terminal standing) found talk awaited stands)

-- so it is where its Outcome is kept before
resolves-follows : (known : Known) (number : ℕ) (transcript : List Carried) (old terminal : Terminal) (standing : Standing) (outcome : TheOutcome) → terminal_at known number ≡ Some old → None ≡ talk_by terminal.pt transcript
    → terminal.awaited ≡ awaited_by transcript → Some (as_carried standing) ≡ standing_by terminal.pt transcript → Follows known number transcript (resolves known number terminal standing outcome)
resolves-follows known number transcript old terminal standing outcome found talk awaited stands no_cut =
    replied-follows known number transcript old terminal standing (reply_to_outcome known.kept outcome.slot outcome) found talk awaited stands

-- ---- a registration

registering-follows : (laws : DialogueLaws) (known : Known) (number : ℕ) (transcript : List Carried) (terminal : Terminal) (meant : Heard) → HasTaken known number transcript IsServiceEnd Registering terminal meant
    → Follows known number transcript (registering known number terminal meant)
registering-follows laws known number transcript terminal (heard.Begun stop) taken no_cut = goes-on laws known number transcript IsServiceEnd Registering terminal (heard.Begun stop) taken refl
registering-follows laws known number transcript terminal (heard.Note intermediate_status) taken no_cut = goes-on laws known number transcript IsServiceEnd Registering terminal (heard.Note intermediate_status) taken refl
registering-follows laws known number transcript terminal heard.Line taken no_cut = goes-on laws known number transcript IsServiceEnd Registering terminal heard.Line taken refl
registering-follows laws known number transcript terminal heard.Block taken no_cut = goes-on laws known number transcript IsServiceEnd Registering terminal heard.Block taken refl
registering-follows laws known number transcript terminal heard.Seen taken no_cut = goes-on laws known number transcript IsServiceEnd Registering terminal heard.Seen taken refl
registering-follows laws known number transcript terminal (heard.Approved figures) taken no_cut = absurd (taken.may_end refl)
registering-follows laws known number transcript terminal heard.Done taken no_cut = follows known number _ taken.old _ taken.found refl (ap one_more_awaited taken.awaited_is) refl
registering-follows laws known number transcript terminal (heard.Told reported approved result_code) taken no_cut = absurd (taken.may_end refl)
registering-follows laws known number transcript terminal (heard.Declined result_code reported) taken no_cut = absurd cc
registering-follows laws known number transcript terminal heard.Unclear taken no_cut = absurd cc
registering-follows laws known number transcript terminal heard.Stray taken no_cut = goes-on laws known number transcript IsServiceEnd Registering terminal heard.Stray taken refl

-- ---- an enquiry

-- a standing without a slot is carried as it is
ready-or-aside : (above : Bool) (last before reported : ℕ) → as_carried (if above then Ready last else Aside before reported) ≡ (if above then Ready last else Aside before reported)
ready-or-aside true last before reported = refl
ready-or-aside false last before reported = refl

-- a report while something is open resolves it, or sets the terminal aside
open-follows : (known : Known) (number : ℕ) (transcript : List Carried) (old terminal : Terminal) (report : Report) (entry : TheEntry) → terminal_at known number ≡ Some old → None ≡ talk_by terminal.pt transcript
    → terminal.awaited ≡ awaited_by transcript → standing_by terminal.pt transcript ≡ Some (standing_reported entry.intent.before report.trace) → Follows known number transcript (report_of_open known number terminal report entry)
open-follows known number transcript old terminal report entry found talk awaited stands = by-number (nat_le entry.intent.before report.trace) stands
  where
    by-number : (least : Bool) → standing_by terminal.pt transcript ≡ Some (if least then Ready report.trace else Aside entry.intent.before report.trace)
        → Follows known number transcript (if least then resolves known number terminal (Ready report.trace) (outcome_reported entry report known.moment) else terminal_becomes known number (at_rest terminal (Aside entry.intent.before report.trace)) [])
    by-number true stands = resolves-follows known number transcript old terminal (Ready report.trace) (outcome_reported entry report known.moment) found talk awaited (sym stands)
    by-number false stands = λ no_cut. follows known number transcript old (at_rest terminal (Aside entry.intent.before report.trace)) found talk awaited (sym stands)

report-follows : (known : Known) (number : ℕ) (transcript : List Carried) (old terminal : Terminal) (opened : Option TheEntry) (last : ℕ) (report : Report) → terminal_at known number ≡ Some old → None ≡ talk_by terminal.pt transcript
    → terminal.awaited ≡ awaited_by transcript → standing_by terminal.pt transcript ≡ Some (standing_reported (least_against opened last) report.trace)
    → Follows known number transcript (report_against opened last known number terminal report)
report-follows known number transcript old terminal None last report found talk awaited stands =
    λ no_cut. follows known number transcript old (at_rest terminal (standing_reported last report.trace)) found talk awaited
    (ap (λ (s : Standing). Some s) (ready-or-aside (nat_le last report.trace) report.trace last report.trace) ∙ sym stands)
report-follows known number transcript old terminal (Some entry) last report found talk awaited stands = open-follows known number transcript old terminal report entry found talk awaited stands

enquiring-follows : (laws : DialogueLaws) (known : Known) (number : ℕ) (transcript : List Carried) (terminal : Terminal) (meant : Heard) → HasTaken known number transcript IsEnquiryEnd Enquiring terminal meant
    → Follows known number transcript (enquiring known number terminal meant)
enquiring-follows laws known number transcript terminal (heard.Begun stop) taken no_cut = goes-on laws known number transcript IsEnquiryEnd Enquiring terminal (heard.Begun stop) taken refl
enquiring-follows laws known number transcript terminal (heard.Note intermediate_status) taken no_cut = goes-on laws known number transcript IsEnquiryEnd Enquiring terminal (heard.Note intermediate_status) taken refl
enquiring-follows laws known number transcript terminal heard.Line taken no_cut = goes-on laws known number transcript IsEnquiryEnd Enquiring terminal heard.Line taken refl
enquiring-follows laws known number transcript terminal heard.Block taken no_cut = goes-on laws known number transcript IsEnquiryEnd Enquiring terminal heard.Block taken refl
enquiring-follows laws known number transcript terminal heard.Seen taken no_cut = goes-on laws known number transcript IsEnquiryEnd Enquiring terminal heard.Seen taken refl
enquiring-follows laws known number transcript terminal (heard.Approved figures) taken no_cut = absurd (taken.may_end refl)
enquiring-follows laws known number transcript terminal heard.Done taken no_cut = absurd (taken.may_end refl)
enquiring-follows laws known number transcript terminal (heard.Told trace approved result_code) taken no_cut =
    report-follows known number transcript taken.old terminal (on_record known.kept terminal.pt.poi).opened (on_record known.kept terminal.pt.poi).last
    (record { trace = trace; approved = approved; result_code = result_code }) taken.found
    (ends-talk laws known number transcript IsEnquiryEnd Enquiring terminal (heard.Told trace approved result_code) taken refl) taken.awaited_is taken.leads no_cut
enquiring-follows laws known number transcript terminal (heard.Declined result_code reported) taken no_cut = absurd cc
enquiring-follows laws known number transcript terminal heard.Unclear taken no_cut = absurd cc
enquiring-follows laws known number transcript terminal heard.Stray taken no_cut = goes-on laws known number transcript IsEnquiryEnd Enquiring terminal heard.Stray taken refl

-- ---- a payment or a reversal

approved-follows : (laws : DialogueLaws) (known : Known) (number : ℕ) (transcript : List Carried) (terminal : Terminal) (slot last : ℕ) (figures : Figures) → HasTaken known number transcript IsTransactionEnd (Serving (services.Transaction slot) last) terminal (heard.Approved figures)
    → Follows known number transcript (approved_row known number terminal slot last figures)
approved-follows laws known number transcript terminal slot last figures taken = by-above (nat_lt last figures.number) taken.leads
  where
    rests : None ≡ talk_by terminal.pt transcript
    rests = ends-talk laws known number transcript IsTransactionEnd (Serving (services.Transaction slot) last) terminal (heard.Approved figures) taken refl

    by-above : (above : Bool) → standing_by terminal.pt transcript ≡ Some (if above then Ready figures.number else Aside last figures.number)
        → Follows known number transcript (if above then resolves known number terminal (Ready figures.number) (approved_outcome slot figures known.moment) else terminal_becomes known number (at_rest terminal (Aside last figures.number)) [])
    by-above true stands = resolves-follows known number transcript taken.old terminal (Ready figures.number) (approved_outcome slot figures known.moment) taken.found rests taken.awaited_is (sym stands)
    by-above false stands = λ no_cut. follows known number transcript taken.old (at_rest terminal (Aside last figures.number)) taken.found rests taken.awaited_is (sym stands)

-- a stop leaves the dialogue and the standing
stop-follows : (laws : DialogueLaws) (known : Known) (number : ℕ) (transcript : List Carried) (ends : Heard → Type 0) (standing : Standing) (terminal : Terminal) (meant : Heard)
    → HasTaken known number transcript ends standing terminal meant → is_end meant ≡ false → Follows known number transcript (stops known number terminal)
stop-follows laws known number transcript ends standing terminal meant taken goes no_cut =
    follows known number (Commanded commands.Stop known.moment ∷ transcript) taken.old (record terminal { awaited = one_more_awaited terminal.awaited }) taken.found
    (goes-talk laws known number transcript ends standing terminal meant taken goes) (ap one_more_awaited taken.awaited_is)
    (goes-standing known number transcript ends standing terminal meant taken goes)

serving-follows : (laws : DialogueLaws) (known : Known) (number : ℕ) (transcript : List Carried) (terminal : Terminal) (slot last : ℕ) (meant : Heard) → HasTaken known number transcript IsTransactionEnd (Serving (services.Transaction slot) last) terminal meant
    → Follows known number transcript (serving_transaction known number terminal slot last meant)
serving-follows laws known number transcript terminal slot last (heard.Begun true) taken = stop-follows laws known number transcript IsTransactionEnd (Serving (services.Transaction slot) last) terminal (heard.Begun true) taken refl
serving-follows laws known number transcript terminal slot last (heard.Begun false) taken = λ no_cut. goes-on laws known number transcript IsTransactionEnd (Serving (services.Transaction slot) last) terminal (heard.Begun false) taken refl
serving-follows laws known number transcript terminal slot last (heard.Note intermediate_status) taken = λ no_cut. goes-on laws known number transcript IsTransactionEnd (Serving (services.Transaction slot) last) terminal (heard.Note intermediate_status) taken refl
serving-follows laws known number transcript terminal slot last heard.Line taken = λ no_cut. goes-on laws known number transcript IsTransactionEnd (Serving (services.Transaction slot) last) terminal heard.Line taken refl
serving-follows laws known number transcript terminal slot last heard.Block taken = λ no_cut. goes-on laws known number transcript IsTransactionEnd (Serving (services.Transaction slot) last) terminal heard.Block taken refl
serving-follows laws known number transcript terminal slot last heard.Seen taken = λ no_cut. goes-on laws known number transcript IsTransactionEnd (Serving (services.Transaction slot) last) terminal heard.Seen taken refl
serving-follows laws known number transcript terminal slot last (heard.Approved figures) taken = approved-follows laws known number transcript terminal slot last figures taken
serving-follows laws known number transcript terminal slot last heard.Done taken = absurd (taken.may_end refl)
serving-follows laws known number transcript terminal slot last (heard.Told reported approved result_code) taken = absurd (taken.may_end refl)
serving-follows laws known number transcript terminal slot last (heard.Declined result_code reported) taken =
    resolves-follows known number transcript taken.old terminal (Ready (last_after_decline last reported)) (declined_outcome slot result_code (was_stopped terminal.talk) known.moment) taken.found
    (ends-talk laws known number transcript IsTransactionEnd (Serving (services.Transaction slot) last) terminal (heard.Declined result_code reported) taken refl) taken.awaited_is (sym taken.leads)
serving-follows laws known number transcript terminal slot last heard.Unclear taken = λ no_cut. absurd cc
serving-follows laws known number transcript terminal slot last heard.Stray taken = λ no_cut. goes-on laws known number transcript IsTransactionEnd (Serving (services.Transaction slot) last) terminal heard.Stray taken refl

-- ---- an end of day

day-follows : (laws : DialogueLaws) (known : Known) (number : ℕ) (transcript : List Carried) (terminal : Terminal) (header : Header) (period : Period) (last : ℕ) (meant : Heard)
    → HasTaken known number transcript IsServiceEnd (Serving (services.EndOfDay header period) last) terminal meant → Follows known number transcript (serving_day known number terminal last header meant)
day-follows laws known number transcript terminal header period last (heard.Begun true) taken = stop-follows laws known number transcript IsServiceEnd (Serving (services.EndOfDay header period) last) terminal (heard.Begun true) taken refl
day-follows laws known number transcript terminal header period last (heard.Begun false) taken = λ no_cut. goes-on laws known number transcript IsServiceEnd (Serving (services.EndOfDay header period) last) terminal (heard.Begun false) taken refl
day-follows laws known number transcript terminal header period last (heard.Note intermediate_status) taken = λ no_cut. goes-on laws known number transcript IsServiceEnd (Serving (services.EndOfDay header period) last) terminal (heard.Note intermediate_status) taken refl
day-follows laws known number transcript terminal header period last heard.Line taken = λ no_cut. goes-on laws known number transcript IsServiceEnd (Serving (services.EndOfDay header period) last) terminal heard.Line taken refl
day-follows laws known number transcript terminal header period last heard.Block taken = λ no_cut. goes-on laws known number transcript IsServiceEnd (Serving (services.EndOfDay header period) last) terminal heard.Block taken refl
day-follows laws known number transcript terminal header period last heard.Seen taken = λ no_cut. goes-on laws known number transcript IsServiceEnd (Serving (services.EndOfDay header period) last) terminal heard.Seen taken refl
day-follows laws known number transcript terminal header period last (heard.Approved figures) taken = absurd (taken.may_end refl)
day-follows laws known number transcript terminal header period last heard.Done taken = λ no_cut. replied-follows known number transcript taken.old terminal (Ready last) _ taken.found (ends-talk laws known number transcript IsServiceEnd (Serving (services.EndOfDay header period) last) terminal heard.Done taken refl) taken.awaited_is (sym taken.leads)
day-follows laws known number transcript terminal header period last (heard.Told reported approved result_code) taken = absurd (taken.may_end refl)
day-follows laws known number transcript terminal header period last (heard.Declined result_code reported) taken = λ no_cut. replied-follows known number transcript taken.old terminal (Ready last) _ taken.found (ends-talk laws known number transcript IsServiceEnd (Serving (services.EndOfDay header period) last) terminal (heard.Declined result_code reported) taken refl) taken.awaited_is (sym taken.leads)
day-follows laws known number transcript terminal header period last heard.Unclear taken = λ no_cut. absurd cc
day-follows laws known number transcript terminal header period last heard.Stray taken = λ no_cut. goes-on laws known number transcript IsServiceEnd (Serving (services.EndOfDay header period) last) terminal heard.Stray taken refl

-- ---- a display

display-follows : (laws : DialogueLaws) (known : Known) (number : ℕ) (transcript : List Carried) (terminal : Terminal) (header : Header) (results : Option (List Shown)) (last : ℕ) (meant : Heard)
    → HasTaken known number transcript IsServiceEnd (Serving (services.Display header results) last) terminal meant → Follows known number transcript (serving_display known number terminal last header results meant)
display-follows laws known number transcript terminal header results last (heard.Begun stop) taken = λ no_cut. goes-on laws known number transcript IsServiceEnd (Serving (services.Display header results) last) terminal (heard.Begun stop) taken refl
display-follows laws known number transcript terminal header results last (heard.Note intermediate_status) taken = λ no_cut. goes-on laws known number transcript IsServiceEnd (Serving (services.Display header results) last) terminal (heard.Note intermediate_status) taken refl
display-follows laws known number transcript terminal header results last heard.Line taken = λ no_cut. goes-on laws known number transcript IsServiceEnd (Serving (services.Display header results) last) terminal heard.Line taken refl
display-follows laws known number transcript terminal header results last heard.Block taken = λ no_cut. goes-on laws known number transcript IsServiceEnd (Serving (services.Display header results) last) terminal heard.Block taken refl
display-follows laws known number transcript terminal header results last heard.Seen taken = λ no_cut. goes-on laws known number transcript IsServiceEnd (Serving (services.Display header results) last) terminal heard.Seen taken refl
display-follows laws known number transcript terminal header results last (heard.Approved figures) taken = absurd (taken.may_end refl)
display-follows laws known number transcript terminal header results last heard.Done taken = λ no_cut. replied-follows known number transcript taken.old terminal (Ready last) _ taken.found (ends-talk laws known number transcript IsServiceEnd (Serving (services.Display header results) last) terminal heard.Done taken refl) taken.awaited_is (sym taken.leads)
display-follows laws known number transcript terminal header results last (heard.Told reported approved result_code) taken = absurd (taken.may_end refl)
display-follows laws known number transcript terminal header results last (heard.Declined result_code reported) taken = λ no_cut. replied-follows known number transcript taken.old terminal (Ready last) _ taken.found (ends-talk laws known number transcript IsServiceEnd (Serving (services.Display header results) last) terminal (heard.Declined result_code reported) taken refl) taken.awaited_is (sym taken.leads)
display-follows laws known number transcript terminal header results last heard.Unclear taken = λ no_cut. absurd cc
display-follows laws known number transcript terminal header results last heard.Stray taken = λ no_cut. goes-on laws known number transcript IsServiceEnd (Serving (services.Display header results) last) terminal heard.Stray taken refl

-- ---- what a message makes of a terminal

-- what the transcript says of a terminal that is there
pub record IsAsCarried (known : Known) (number : ℕ) (transcript : List Carried) (terminal : Terminal) : Type 0 where
  pub found : terminal_at known number ≡ Some terminal
  pub talk_is : terminal.talk ≡ talk_by terminal.pt transcript
  pub awaited_is : terminal.awaited ≡ awaited_by transcript
  pub standing_is : Some (as_carried terminal.standing) ≡ standing_by terminal.pt transcript

-- the transcript with a message of the terminal
abbrev pub with_message : Known → Terminal → MessageValue → List Carried → List Carried
with_message known terminal message transcript = Took message known.moment (least_of known terminal) ∷ transcript

-- a message is taken in a dialogue that goes on
takes-in : (laws : DialogueLaws) (known : Known) (number : ℕ) (transcript : List Carried) (terminal : Terminal) (message : MessageValue) (talk : TalkFacts) (standing : Standing) (ends : Heard → Type 0)
    → IsAsCarried known number transcript terminal → terminal.standing ≡ standing → talk_by terminal.pt transcript ≡ Some talk → (goes : GoesOn (dialogue_by terminal.pt transcript) (came_by transcript) talk)
    → ((end : Heard) → IsEndOf (GoesOn.dialogue goes).dialogue_kind end → ends end)
    → HasTaken known number (with_message known terminal message transcript) ends standing (taking terminal message known.moment) (meaning_at terminal message)
takes-in laws known number transcript terminal message talk standing ends is stands runs goes kinds =
    let dialogue : Dialogue = goes.dialogue in
    let came : List Came = came_by transcript in
    let handed : MessageValue = taken_as (awaited_by transcript) message in
    let longer : List Carried = with_message known terminal message transcript in
    let meant : Heard = meaning_at terminal message in
    let runs_after : terminal.talk ≡ Some (talk_after dialogue came) = is.talk_is ∙ runs ∙ ap (λ (t : TalkFacts). Some t) (sym goes.talk_is) in
    let means : meaning dialogue came handed ≡ meant =
    sym (ap (λ (t : Option TalkFacts). meaning_for t (taken_as terminal.awaited message)) runs_after
    ∙ ap (λ (n : ℕ). meaning_for (Some (talk_after dialogue came)) (taken_as n message)) is.awaited_is
    ∙ laws.means dialogue came handed goes.goes) in
    let ended : end_of dialogue (came_by longer) ≡ cond (is_end meant) (Some meant) None =
    laws.by_message dialogue came handed (pos known.moment) goes.goes ∙ ap (λ (m : Heard). cond (is_end m) (Some m) None) means in
    record {
      old = terminal;
      found = is.found;
      dialogue = dialogue;
      dialogue_is = goes.found_is;
      talk_is =
          ap (λ (t : Option TalkFacts). option_map (λ one. next_talk one (taken_as terminal.awaited message) (pos known.moment)) t) runs_after
          ∙ ap (λ (n : ℕ). Some (next_talk (talk_after dialogue came) (taken_as n message) (pos known.moment))) is.awaited_is
          ∙ ap (λ (t : TalkFacts). Some t) (laws.next dialogue came handed (pos known.moment) goes.goes);
      awaited_is = ap (λ (n : ℕ). awaited_after message n) is.awaited_is;
      standing_is = stands;
      end_is = ended;
      may_end = λ is_last. kinds meant (laws.kinds dialogue (came_by longer) meant (ended ∙ ap (λ (b : Bool). cond b (Some meant) None) is_last));
      leads =
          standing-took terminal.pt message known.moment (least_of known terminal) transcript (as_carried standing) (cond (is_end meant) (Some meant) None)
          (ap (λ (s : Standing). Some (as_carried s)) (sym stands) ∙ is.standing_is)
          (runs-ends terminal.pt message known.moment (least_of known terminal) transcript talk dialogue runs goes.found_is ∙ ended);
    }

-- a message that means nothing leaves the terminal as it is
stray-stays : (known : Known) (number : ℕ) (terminal : Terminal) (standing : Standing) → is_linked standing ≡ true → consequence known number terminal heard.Stray standing ≡ staying known number terminal
stray-stays known number terminal (Unlinked due) linked = absurd cc
stray-stays known number terminal Registering linked = refl
stray-stays known number terminal Enquiring linked = refl
stray-stays known number terminal (Ready last) linked = refl
stray-stays known number terminal (Serving (services.Transaction slot) last) linked = refl
stray-stays known number terminal (Serving (services.EndOfDay header period) last) linked = refl
stray-stays known number terminal (Serving (services.Display header results) last) linked = refl
stray-stays known number terminal (Aside before reported) linked = refl

-- a message changes nothing but what is awaited where no dialogue runs
rests-follows : (laws : DialogueLaws) (known : Known) (number : ℕ) (transcript : List Carried) (terminal : Terminal) (message : MessageValue) (standing : Standing) → IsAsCarried known number transcript terminal
    → terminal.standing ≡ standing → is_linked standing ≡ true → talk_by terminal.pt transcript ≡ None
    → Follows known number (with_message known terminal message transcript) (consequence known number (taking terminal message known.moment) (meaning_at terminal message) standing)
rests-follows laws known number transcript terminal message standing is stands linked rests =
    let least : ℕ = least_of known terminal in
    let none : terminal.talk ≡ None = is.talk_is ∙ rests in
    subst (Follows known number (with_message known terminal message transcript))
    (sym (ap (λ (t : Option TalkFacts). consequence known number (taking terminal message known.moment) (meaning_for t (taken_as terminal.awaited message)) standing) none
    ∙ stray-stays known number (taking terminal message known.moment) standing linked))
    (λ no_cut. follows known number (with_message known terminal message transcript) terminal (taking terminal message known.moment) is.found
    (ap (λ (t : Option TalkFacts). option_map (λ one. next_talk one (taken_as terminal.awaited message) (pos known.moment)) t) none
    ∙ sym (rests-more laws (dialogue_by terminal.pt transcript) (came_by transcript) _ rests))
    (ap (λ (n : ℕ). awaited_after message n) is.awaited_is)
    (sym (standing-took terminal.pt message known.moment least transcript (as_carried terminal.standing) None is.standing_is (rests-unended terminal.pt message known.moment transcript rests))))

-- ---- the row of a message

-- what holds where no dialogue runs, and where one goes on, holds
by-talk : (P : Type 0) (pt : Pt) (transcript : List Carried) → (talk_by pt transcript ≡ None → P) → ((talk : TalkFacts) → talk_by pt transcript ≡ Some talk → GoesOn (dialogue_by pt transcript) (came_by transcript) talk → P) → P
by-talk P pt transcript none some = by-run (talk_by pt transcript) refl
  where
    by-run : (talk : Option TalkFacts) → talk_by pt transcript ≡ talk → P
    by-run None is = none is
    by-run (Some talk) is = some talk is (talk-goes (dialogue_by pt transcript) (came_by transcript) talk is)

transaction-ends : (dialogue_kind : DialogueKind) → IsTransaction dialogue_kind → (end : Heard) → IsEndOf dialogue_kind end → IsTransactionEnd end
transaction-ends Registration transaction end ends = absurd transaction
transaction-ends Enquiry transaction end ends = absurd transaction
transaction-ends Payment transaction end ends = ends
transaction-ends Reversal transaction end ends = ends
transaction-ends EndOfDay transaction end ends = absurd transaction
transaction-ends Display transaction end ends = absurd transaction

-- the terminal's standing has its dialogue
pub carried-in : (laws : DialogueLaws) (known : Known) (number : ℕ) (transcript : List Carried) (terminal : Terminal) (standing : Standing) → IsAsCarried known number transcript terminal → terminal.standing ≡ standing
    → StandsIn (as_carried standing) (dialogue_by terminal.pt transcript) (came_by transcript)
carried-in laws known number transcript terminal standing is stands =
    stands-in laws terminal.pt transcript (as_carried standing) (sym (ap (λ (s : Standing). Some (as_carried s)) (sym stands) ∙ is.standing_is))

consequence-follows : (laws : DialogueLaws) (known : Known) (number : ℕ) (transcript : List Carried) (terminal : Terminal) (message : MessageValue) (standing : Standing) → IsAsCarried known number transcript terminal
    → terminal.standing ≡ standing → is_linked standing ≡ true
    → Follows known number (with_message known terminal message transcript) (consequence known number (taking terminal message known.moment) (meaning_at terminal message) standing)
consequence-follows laws known number transcript terminal message (Unlinked due) is stands linked = absurd cc
consequence-follows laws known number transcript terminal message Registering is stands linked =
    by-talk _ terminal.pt transcript (rests-follows laws known number transcript terminal message Registering is stands linked)
    (λ talk runs goes. registering-follows laws known number (with_message known terminal message transcript) (taking terminal message known.moment) (meaning_at terminal message)
    (takes-in laws known number transcript terminal message talk Registering IsServiceEnd is stands runs goes
    (λ end ends. subst (λ (k : DialogueKind). IsEndOf k end) (carried-in laws known number transcript terminal Registering is stands goes.dialogue goes.found_is) ends)))
consequence-follows laws known number transcript terminal message Enquiring is stands linked =
    by-talk _ terminal.pt transcript (rests-follows laws known number transcript terminal message Enquiring is stands linked)
    (λ talk runs goes. enquiring-follows laws known number (with_message known terminal message transcript) (taking terminal message known.moment) (meaning_at terminal message)
    (takes-in laws known number transcript terminal message talk Enquiring IsEnquiryEnd is stands runs goes
    (λ end ends. subst (λ (k : DialogueKind). IsEndOf k end) (carried-in laws known number transcript terminal Enquiring is stands goes.dialogue goes.found_is) ends)))
consequence-follows laws known number transcript terminal message (Ready last) is stands linked =
    rests-follows laws known number transcript terminal message (Ready last) is stands linked (ended-rests laws terminal.pt transcript (carried-in laws known number transcript terminal (Ready last) is stands))
consequence-follows laws known number transcript terminal message (Serving (services.Transaction slot) last) is stands linked =
    by-talk _ terminal.pt transcript (rests-follows laws known number transcript terminal message (Serving (services.Transaction slot) last) is stands linked)
    (λ talk runs goes. serving-follows laws known number (with_message known terminal message transcript) (taking terminal message known.moment) slot last (meaning_at terminal message)
    (takes-in laws known number transcript terminal message talk (Serving (services.Transaction slot) last) IsTransactionEnd is stands runs goes
    (transaction-ends _ (carried-in laws known number transcript terminal (Serving (services.Transaction slot) last) is stands goes.dialogue goes.found_is))))
consequence-follows laws known number transcript terminal message (Serving (services.EndOfDay header period) last) is stands linked =
    by-talk _ terminal.pt transcript (rests-follows laws known number transcript terminal message (Serving (services.EndOfDay header period) last) is stands linked)
    (λ talk runs goes. day-follows laws known number (with_message known terminal message transcript) (taking terminal message known.moment) header period last (meaning_at terminal message)
    (takes-in laws known number transcript terminal message talk (Serving (services.EndOfDay header period) last) IsServiceEnd is stands runs goes
    (λ end ends. subst (λ (k : DialogueKind). IsEndOf k end) (carried-in laws known number transcript terminal (Serving (services.EndOfDay header period) last) is stands goes.dialogue goes.found_is) ends)))
consequence-follows laws known number transcript terminal message (Serving (services.Display header results) last) is stands linked =
    by-talk _ terminal.pt transcript (rests-follows laws known number transcript terminal message (Serving (services.Display header results) last) is stands linked)
    (λ talk runs goes. display-follows laws known number (with_message known terminal message transcript) (taking terminal message known.moment) header results last (meaning_at terminal message)
    (takes-in laws known number transcript terminal message talk (Serving (services.Display header results) last) IsServiceEnd is stands runs goes
    (λ end ends. subst (λ (k : DialogueKind). IsEndOf k end) (carried-in laws known number transcript terminal (Serving (services.Display header results) last) is stands goes.dialogue goes.found_is) ends)))
consequence-follows laws known number transcript terminal message (Aside before reported) is stands linked =
    rests-follows laws known number transcript terminal message (Aside before reported) is stands linked (ended-rests laws terminal.pt transcript (carried-in laws known number transcript terminal (Aside before reported) is stands))

-- what holds where nothing is taken and owed, and where a message is taken, of its consequence and of a device request, holds of what is taken and of the row
pub each-taken : (P : List Carried → Row → Type 0) (known : Known) (number : ℕ) (apdu : ApduValue) (terminal : Terminal) → terminal_at known number ≡ Some terminal → P [] (owing_nothing known)
    → ((message : MessageValue) → is_taken message ≡ true → is_linked terminal.standing ≡ true → P (with_message known terminal message []) (consequence known number (taking terminal message known.moment) (meaning_at terminal message) terminal.standing))
    → ((message : MessageValue) (till : ℕ) (request : ReplyValue) → P (with_message known terminal message []) (staying known number (taking terminal message known.moment))
    → P (with_message known terminal message []) (requests_device known number (taking terminal message known.moment) till request))
    → P (took_by known (Handle number apdu)) (handle_row known number apdu)
each-taken P known number apdu terminal found none some asks = by-decoded (decode_pt_message apdu)
  where
    by-taken : (message : MessageValue) → is_linked terminal.standing ≡ true → (taken : Bool) → is_taken message ≡ taken
        → P (if taken then with_message known terminal message [] else []) (owing_where taken known (taken_row known number (taking terminal message known.moment) (meaning_at terminal message) message))
    by-taken message linked true taken =
        taken-cases (P (with_message known terminal message [])) known number (taking terminal message known.moment) (meaning_at terminal message) message
        (some message taken linked) (λ at stays. asks message at.till at.request stays)
    by-taken message linked false taken = none

    by-linked : (message : MessageValue) (linked : Bool) → is_linked terminal.standing ≡ linked
        → P (if linked then took_decoded known.moment (least_of known terminal) (Ok message) else []) (owing_where linked known (handle_message known number terminal message))
    by-linked message true is = by-taken message is (is_taken message) refl
    by-linked message false is = none

    outside : (linked : Bool) → P (if linked then [] else []) (owing_nothing known)
    outside true = none
    outside false = none

    by-decoded : (decoded : Result MessageValue PtFault) → P (took_of known (terminal_at known number) decoded) (handle_decoded known number decoded)
    by-decoded (Ok message) =
        subst (λ (o : Option Terminal). P (took_of known o (Ok message)) (of_terminal known (λ terminal. owing_where (is_linked terminal.standing) known (handle_message known number terminal message)) o))
        (sym found) (by-linked message (is_linked terminal.standing) refl)
    by-decoded (Err fault) =
        subst (λ (o : Option Terminal). P (took_of known o (Err fault)) (owing_nothing known)) (sym found) (outside (is_linked terminal.standing))

handle-follows : (laws : DialogueLaws) (known : Known) (number : ℕ) (apdu : ApduValue) (transcript : List Carried) → FollowsTranscript number transcript known.core
    → owes_cut (handle_row known number apdu).calls ≡ false
    → FollowsTranscript number (commanded_by known.moment (handle_row known number apdu).calls ++ (took_by known (Handle number apdu) ++ transcript)) (handle_row known number apdu).core
handle-follows laws known number apdu transcript has =
    each-taken (λ took (row : Row). Follows known number (took ++ transcript) row) known number apdu has.terminal has.found
    (λ no_cut. has)
    (λ message taken linked. consequence-follows laws known number transcript has.terminal message has.terminal.standing
    (record { found = has.found; talk_is = has.talk_is; awaited_is = has.awaited_is; standing_is = has.standing_is }) refl linked)
    (λ message till request stays no_cut. let there = stays refl in
    record { terminal = there.terminal; found = there.found; talk_is = there.talk_is; awaited_is = there.awaited_is; standing_is = there.standing_is })

-- ---- the row of a request that a terminal begins to serve

-- the command for an Intent begins its dialogue
asked-talk : (what : Deal) (intent : TheIntent) (original : Option TheEntry) (pt : Pt) (moment : ℕ) (transcript : List Carried)
    → talk_of_command pt (ask_for what intent original pt.password) moment ≡ talk_by pt (Commanded (ask_for what intent original pt.password) moment ∷ transcript)
asked-talk deals.Payment intent original pt moment transcript = refl
asked-talk deals.Reversal intent original pt moment transcript = refl

-- and is served by a terminal that is ready
asked-standing : (what : Deal) (intent : TheIntent) (original : Option TheEntry) (password : List ℕ) (standing : Option Standing) → standing_commanded (ask_for what intent original password) standing ≡ option_and_then (standing_asked some_transaction) standing
asked-standing deals.Payment intent original password standing = refl
asked-standing deals.Reversal intent original password standing = refl

asking-follows : (known : Known) (number till : ℕ) (transcript : List Carried) (terminal : Terminal) (last : ℕ) (asked : Option Asking) → IsAsCarried known number transcript terminal
    → FollowsTranscript number transcript known.core → terminal.standing ≡ Ready last → Follows known number transcript (begins_asking known number till terminal last asked)
asking-follows known number till transcript terminal last None is has stands no_cut = has
asking-follows known number till transcript terminal last (Some asking) is has stands no_cut =
    follows known number _ terminal _ is.found (asked-talk asking.intent.what asking.intent asking.original terminal.pt known.moment transcript) (ap one_more_awaited is.awaited_is)
    (ap (λ (s : Option Standing). option_and_then (standing_asked some_transaction) s) (ap (λ (s : Standing). Some (as_carried s)) (sym stands) ∙ is.standing_is)
    ∙ sym (asked-standing asking.intent.what asking.intent asking.original terminal.pt.password (standing_by terminal.pt transcript)))

begins-follows : (known : Known) (number till : ℕ) (header : Header) (request : SaleRequest) (transcript : List Carried) (terminal : Terminal) (standing : Standing) → IsAsCarried known number transcript terminal
    → FollowsTranscript number transcript known.core → terminal.standing ≡ standing → Follows known number transcript (begins_in known number till header request terminal standing)
begins-follows known number till header request transcript terminal (Unlinked due) is has stands no_cut = has
begins-follows known number till header request transcript terminal Registering is has stands no_cut = has
begins-follows known number till header request transcript terminal Enquiring is has stands no_cut = has
begins-follows known number till header request transcript terminal (Ready last) is has stands no_cut =
    asking-follows known number till transcript terminal last (asking_of known header request terminal last) is has stands no_cut
begins-follows known number till header request transcript terminal (Serving service last) is has stands no_cut = has
begins-follows known number till header request transcript terminal (Aside before reported) is has stands no_cut = has

pub as-carried : (known : Known) (number : ℕ) (transcript : List Carried) (has : FollowsTranscript number transcript known.core) → IsAsCarried known number transcript (FollowsTranscript.terminal has)
as-carried known number transcript has = record { found = has.found; talk_is = has.talk_is; awaited_is = has.awaited_is; standing_is = has.standing_is }

-- so it is of the terminal of this number, however it was found
pub carried-there : (known : Known) (number : ℕ) (transcript : List Carried) (terminal : Terminal) → FollowsTranscript number transcript known.core → terminal_at known number ≡ Some terminal → IsAsCarried known number transcript terminal
carried-there known number transcript terminal has found =
    subst (IsAsCarried known number transcript) (same-some has.terminal terminal (sym has.found ∙ found)) (as-carried known number transcript has)

request-follows : (known : Known) (number till : ℕ) (header : Header) (request : SaleRequest) (transcript : List Carried) → FollowsTranscript number transcript known.core
    → Follows known number transcript (of_terminal known (begins_request known number till header request) (terminal_at known number))
request-follows known number till header request transcript has =
    subst (λ (o : Option Terminal). Follows known number transcript (of_terminal known (begins_request known number till header request) o)) (sym has.found)
    (by-where (Follows known number transcript) known (begins_in known number till header request has.terminal has.terminal.standing)
    (is_beginning (step_result known header request (Some (record { number = number; terminal = has.terminal }))))
    (λ no_cut. has)
    (λ begins. begins-follows known number till header request transcript has.terminal has.terminal.standing (as-carried known number transcript has) has refl))

-- ---- the row of an Abort

-- the terminal once a stop is wished, with whatever else was sent
wishing-follows : (laws : DialogueLaws) (known : Known) (number : ℕ) (transcript longer : List Carried) (terminal : Terminal) (talk : TalkFacts) (awaited : ℕ) → IsAsCarried known number transcript terminal → terminal.talk ≡ Some talk
    → talk_by terminal.pt longer ≡ talk_by terminal.pt (Wished ∷ transcript) → awaited ≡ awaited_by longer → standing_by terminal.pt longer ≡ standing_by terminal.pt transcript
    → FollowsTranscript number longer (with_terminal known.core number (record (wishing terminal talk) { awaited = awaited }))
wishing-follows laws known number transcript longer terminal talk awaited is runs talk_same awaits stands_same =
    follows known number longer terminal (record (wishing terminal talk) { awaited = awaited }) is.found
    (ap (option_map talk_after_stop_wished) (sym runs ∙ is.talk_is) ∙ sym (wished-talk laws terminal.pt transcript) ∙ sym talk_same) awaits
    (is.standing_is ∙ sym stands_same)

wish-follows : (laws : DialogueLaws) (known : Known) (number : ℕ) (transcript : List Carried) (terminal : Terminal) (runs : Option TalkFacts) → IsAsCarried known number transcript terminal → terminal.talk ≡ runs
    → Follows known number (Wished ∷ transcript) (wishes_stop known number terminal runs)
wish-follows laws known number transcript terminal None is runs = λ no_cut. record {
  terminal = terminal;
  found = is.found;
  talk_is = runs ∙ ap (option_map talk_after_stop_wished) (sym runs ∙ is.talk_is) ∙ sym (wished-talk laws terminal.pt transcript);
  awaited_is = is.awaited_is;
  standing_is = is.standing_is;
}
wish-follows laws known number transcript terminal (Some talk) is runs = by-test (may_send_stop talk.phase)
  where
    by-test : (test : Bool) → Follows known number (Wished ∷ transcript) (if test then stops known number (wishing terminal talk) else staying known number (wishing terminal talk))
    by-test true no_cut =
        wishing-follows laws known number transcript (Commanded commands.Stop known.moment ∷ Wished ∷ transcript) terminal talk (one_more_awaited terminal.awaited) is runs refl (ap one_more_awaited is.awaited_is) refl
    by-test false no_cut = wishing-follows laws known number transcript (Wished ∷ transcript) terminal talk terminal.awaited is runs refl is.awaited_is refl

abort-follows : (laws : DialogueLaws) (known : Known) (number : ℕ) (key : Key) (transcript : List Carried) → FollowsTranscript number transcript known.core
    → Follows known number (wished_of known.kept key (terminal_at known number) ++ transcript) (of_terminal known (stops_key known number key) (terminal_at known number))
abort-follows laws known number key transcript has =
    subst (λ (o : Option Terminal). Follows known number (wished_of known.kept key o ++ transcript) (of_terminal known (stops_key known number key) o)) (sym has.found)
    (by-serves (serves_key known.kept key has.terminal))
  where
    by-serves : (serves : Bool) → Follows known number ((if serves then Wished ∷ [] else []) ++ transcript) (owing_where serves known (wishes_stop known number has.terminal has.terminal.talk))
    by-serves true = wish-follows laws known number transcript has.terminal has.terminal.talk (as-carried known number transcript has) refl
    by-serves false = λ no_cut. has

-- a Login and a Logout change no terminal
session-follows : (known : Known) (number till : ℕ) (header : Header) (request : SaleRequest) (transcript : List Carried) → is_session request ≡ true → FollowsTranscript number transcript known.core
    → Follows known number transcript (of_terminal known (session_row known number till header request) (terminal_at known number))
session-follows known number till header request transcript is has =
    session-served (Follows known number transcript) known number till header request is (λ no_cut. has)
    (λ success no_cut. record { terminal = has.terminal; found = has.found; talk_is = has.talk_is; awaited_is = has.awaited_is; standing_is = has.standing_is })

-- a terminal that is ready is asked for an end of day
day-asked : (known : Known) (number till : ℕ) (header : Header) (transcript : List Carried) (terminal : Terminal) (last : ℕ) → IsAsCarried known number transcript terminal → terminal.standing ≡ Ready last
    → Follows known number transcript (day_row known number till header terminal last)
day-asked known number till header transcript terminal last is stands no_cut =
    follows known number (Commanded (day_command terminal.pt) known.moment ∷ transcript) terminal (asked_for_day known till terminal last header) is.found refl (ap one_more_awaited is.awaited_is)
    (ap (λ (s : Option Standing). option_and_then (standing_asked some_day) s) (ap (λ (s : Standing). Some (as_carried s)) (sym stands) ∙ is.standing_is))

reconciliation-follows : (known : Known) (number till : ℕ) (header : Header) (period : Period) (transcript : List Carried) → FollowsTranscript number transcript known.core
    → Follows known number transcript (of_terminal known (reconciliation_row known number till header period) (terminal_at known number))
reconciliation-follows known number till header period transcript has =
    each-reconciled (Follows known number transcript) known number till header period (λ no_cut. has)
    (λ terminal at no_cut. subst (λ (sent : List Carried). FollowsTranscript number (sent ++ transcript) known.core) (sym (reply-quiet known.moment (Some till) (reply_to_settled known.kept (settled_of hows.Sale header terminal.pt.currency known.moment)))) has)
    (λ terminal last at. day-asked known number till header transcript terminal last (carried-there known number transcript terminal has at.found) at.standing_is)

-- lines are shown by a terminal that is ready
lines-asked : (known : Known) (number till : ℕ) (header : Header) (outputs : List Output) (transcript : List Carried) (terminal : Terminal) (last : ℕ) (command : Command) (lines : List (List ℕ)) → IsAsCarried known number transcript terminal
    → terminal.standing ≡ Ready last → command ≡ show_lines lines → Follows known number transcript (shown_row known number till header terminal last outputs command)
lines-asked known number till header outputs transcript terminal last command lines is stands shows =
    subst (λ (c : Command). Follows known number transcript (shown_row known number till header terminal last outputs c)) (sym shows)
    (λ no_cut. follows known number (Commanded (show_lines lines) known.moment ∷ transcript) terminal (asked_to_show known till terminal last header outputs (show_lines lines)) is.found refl (ap one_more_awaited is.awaited_is)
    (ap (λ (s : Option Standing). option_and_then (standing_asked some_display) s) (ap (λ (s : Standing). Some (as_carried s)) (sym stands) ∙ is.standing_is)))

display-begins : (known : Known) (number till : ℕ) (header : Header) (outputs : List Output) (transcript : List Carried) → FollowsTranscript number transcript known.core
    → Follows known number transcript (of_terminal known (display_row known number till header outputs) (terminal_at known number))
display-begins known number till header outputs transcript has =
    each-shown (Follows known number transcript) known number till header outputs (λ no_cut. has)
    (λ terminal last command at. let lines = shown-lines outputs command at.shown_is in
    lines-asked known number till header outputs transcript terminal last command lines.0 (carried-there known number transcript terminal has at.found) at.standing_is lines.1)

serve-follows : (laws : DialogueLaws) (known : Known) (number till : ℕ) (header : Header) (request : SaleRequest) (transcript : List Carried) → FollowsTranscript number transcript known.core
    → Follows known number (wished_for known number header request ++ transcript) (serve_row known number till header request)
serve-follows laws known number till header requests.Login transcript has = session-follows known number till header requests.Login transcript refl has
serve-follows laws known number till header requests.Logout transcript has = session-follows known number till header requests.Logout transcript refl has
serve-follows laws known number till header (requests.Payment payment) transcript has = request-follows known number till header (requests.Payment payment) transcript has
serve-follows laws known number till header (requests.Reversal reversal) transcript has = request-follows known number till header (requests.Reversal reversal) transcript has
serve-follows laws known number till header (requests.Abort reference) transcript has = abort-follows laws known number (key_of header reference) transcript has
serve-follows laws known number till header (requests.Status reference) transcript has = λ no_cut. has
serve-follows laws known number till header (requests.Reconciliation period) transcript has = reconciliation-follows known number till header period transcript has
serve-follows laws known number till header (requests.Display outputs) transcript has = display-begins known number till header outputs transcript has
serve-follows laws known number till header (requests.Print qualifier) transcript has = λ no_cut. has
serve-follows laws known number till header requests.Diagnosis transcript has = λ no_cut. has

-- ---- a request that has waited

-- another list of what waits changes no terminal
waits-follow : (number : ℕ) (transcript : List Carried) (core : Core) (waits : List Wait) → FollowsTranscript number transcript core → FollowsTranscript number transcript (record core { waits = waits })
waits-follow number transcript core waits has = record { terminal = has.terminal; found = has.found; talk_is = has.talk_is; awaited_is = has.awaited_is; standing_is = has.standing_is }

next-follows : (known : Known) (number : ℕ) (transcript : List Carried) → FollowsTranscript number transcript known.core → Follows known number transcript (next_waiting_row known number)
next-follows known number transcript has =
    each-next (Follows known number transcript) known number (record {
      none = λ no_cut. has;
      refused = λ terminal last wait condition first is no_cut. without wait;
      begins = λ terminal last wait asking at. asking-follows (known_without known wait) number wait.till transcript terminal last (Some asking) (carried wait terminal at.first.found) (without wait) at.first.standing_is;
      day = λ terminal last wait at. day-asked (known_without known wait) number wait.till wait.header transcript terminal last (carried wait terminal at.first.found) at.first.standing_is;
      left = λ terminal last wait first no_cut. without wait;
    })
  where
    without : (wait : Wait) → FollowsTranscript number transcript (known_without known wait).core
    without wait = waits-follow number transcript known.core _ has

    carried : (wait : Wait) (terminal : Terminal) → terminal_at known number ≡ Some terminal → IsAsCarried (known_without known wait) number transcript terminal
    carried wait terminal found = carried-there (known_without known wait) number transcript terminal (without wait) found

-- ---- rows that send no command

-- nothing is changed, and no command is sent
pub record IsQuiet (known : Known) (row : Row) : Type 0 where
  pub core_is : row.core ≡ known.core
  pub none : commanded_by known.moment row.calls ≡ []

sending-quiet : (known : Known) (number : ℕ) (message : MessageValue) → commanded_by known.moment (sending_calls number (greeting message)) ≡ []
sending-quiet known number Ack = refl
sending-quiet known number (Nack error_code) = refl
sending-quiet known number (Intermediate intermediate_status) = refl
sending-quiet known number (Line text) = refl
sending-quiet known number (Block objects) = refl
sending-quiet known number (Status fields) = refl
sending-quiet known number Completion = refl
sending-quiet known number (Abort result_code) = refl
sending-quiet known number Other = refl

pub greet-quiet : (known : Known) (number : ℕ) (decoded : Result MessageValue PtFault) → IsQuiet known (greet_decoded known number decoded)
greet-quiet known number (Ok message) =
    each-linked (IsQuiet known) known number (λ terminal. owing known (sending_calls number (greeting message))) (record { core_is = refl; none = refl }) (λ terminal found linked. record { core_is = refl; none = sending-quiet known number message })
greet-quiet known number (Err fault) = each-linked (IsQuiet known) known number (λ terminal. cutting known number) (record { core_is = refl; none = refl }) (λ terminal found linked. record { core_is = refl; none = refl })

pub late-quiet : (known : Known) (number : ℕ) → IsQuiet known (late_row known number)
late-quiet known number = each-terminal (IsQuiet known) known number (λ terminal. owing_where (is_late known.moment terminal.talk) known (cutting known number)) (record { core_is = refl; none = refl })
    (λ terminal found. by-where (IsQuiet known) known (cutting known number) (is_late known.moment terminal.talk) (record { core_is = refl; none = refl }) (λ late. record { core_is = refl; none = refl }))

pub due-quiet : (known : Known) (number : ℕ) → IsQuiet known (due_row known number)
due-quiet known number = each-terminal (IsQuiet known) known number (λ terminal. owing_where (is_due known.moment terminal.standing) known (owing known (LinkPt number ∷ []))) (record { core_is = refl; none = refl })
    (λ terminal found. by-where (IsQuiet known) known (owing known (LinkPt number ∷ [])) (is_due known.moment terminal.standing) (record { core_is = refl; none = refl }) (λ due. record { core_is = refl; none = refl }))

quiet-follows : (known : Known) (number : ℕ) (transcript : List Carried) (row : Row) → IsQuiet known row → FollowsTranscript number transcript known.core
    → FollowsTranscript number (commanded_by known.moment row.calls ++ ([] ++ transcript)) row.core
quiet-follows known number transcript row quiet has =
    subst (λ (core : Core). FollowsTranscript number (commanded_by known.moment row.calls ++ transcript) core) (sym quiet.core_is)
    (subst (λ (sent : List Carried). FollowsTranscript number (sent ++ transcript) known.core) (sym quiet.none) has)

-- ---- links

lost-follows : (known : Known) (number : ℕ) (terminal : Terminal) → terminal_at known number ≡ Some terminal → FollowsTranscript number [] (link_lost known number).core
lost-follows known number terminal found =
    subst (λ (o : Option Terminal). FollowsTranscript number [] (of_terminal known (unlinks known number) o).core) (sym found)
    (follows known number [] terminal (unlinked_terminal terminal known.moment) found refl refl refl)

pub lost-quiet : (known : Known) (number : ℕ) → commanded_by known.moment (link_lost known number).calls ≡ []
lost-quiet known number = each-terminal (λ (row : Row). commanded_by known.moment row.calls ≡ []) known number (unlinks known number) refl (λ terminal found. reply-quiet known.moment terminal.asker (reply_to_lost terminal.standing))

lost-begins : (known : Known) (number : ℕ) (terminal : Terminal) → terminal_at known number ≡ Some terminal → FollowsTranscript number (commanded_by known.moment (link_lost known number).calls) (link_lost known number).core
lost-begins known number terminal found =
    subst (λ (sent : List Carried). FollowsTranscript number sent (link_lost known number).core) (sym (lost-quiet known number)) (lost-follows known number terminal found)

made-begins : (known : Known) (number : ℕ) (terminal : Terminal) → terminal_at known number ≡ Some terminal → FollowsTranscript number (commanded_by known.moment (link_made known number).calls) (link_made known number).core
made-begins known number terminal found =
    subst (λ (o : Option Terminal). FollowsTranscript number (commanded_by known.moment (of_terminal known (registers known number) o).calls) (of_terminal known (registers known number) o).core) (sym found)
    (follows known number _ terminal _ found refl refl refl)

pub links-begin : EachLinkBeginsTranscript
links-begin known number LinkIsMade terminal found = made-begins known number terminal found
links-begin known number LinkHasFailed terminal found = lost-begins known number terminal found
links-begin known number LinkIsLost terminal found = lost-begins known number terminal found

-- ---- the rows

pub rows-follow : DialogueLaws → EachRowFollowsTranscript
rows-follow laws known (Crowded till) number transcript is has no_cut = absurd cc
rows-follow laws known (Message till bytes) number transcript is has no_cut = absurd cc
rows-follow laws known (Asked till as_read) number transcript is has no_cut = absurd cc
rows-follow laws known (Unframed till) number transcript is has no_cut = absurd cc
rows-follow laws known (Gone till) number transcript is has no_cut = absurd cc
rows-follow laws known (Greet pt apdu) number transcript is has no_cut = quiet-follows known number transcript (greet_row known pt apdu) (greet-quiet known pt (decode_pt_message apdu)) has
rows-follow laws known (Handle pt apdu) number transcript is has no_cut =
    let e : pt ≡ number = cc in
    subst (λ (n : ℕ). FollowsTranscript n transcript known.core → FollowsTranscript n (commanded_by known.moment (handle_row known pt apdu).calls ++ (took_by known (Handle pt apdu) ++ transcript)) (handle_row known pt apdu).core) e
    (λ there. handle-follows laws known pt apdu transcript there no_cut) has
rows-follow laws known (Serve pt till header request) number transcript is has no_cut =
    let e : pt ≡ number = cc in
    subst (λ (n : ℕ). FollowsTranscript n transcript known.core → FollowsTranscript n (commanded_by known.moment (serve_row known pt till header request).calls ++ (wished_for known pt header request ++ transcript)) (serve_row known pt till header request).core) e
    (λ there. serve-follows laws known pt till header request transcript there no_cut) has
rows-follow laws known (Queue pt till header request) number transcript is has no_cut = absurd cc
rows-follow laws known (NextWaiting pt) number transcript is has no_cut =
    let e : pt ≡ number = cc in
    subst (λ (n : ℕ). FollowsTranscript n transcript known.core → FollowsTranscript n (commanded_by known.moment (next_waiting_row known pt).calls ++ ([] ++ transcript)) (next_waiting_row known pt).core) e
    (λ there. next-follows known pt transcript there no_cut) has
rows-follow laws known (Oversized pt) number transcript is has no_cut =
    quiet-follows known number transcript (oversized_row known pt)
    (each-linked (IsQuiet known) known pt (λ terminal. cutting known pt) (record { core_is = refl; none = refl }) (λ terminal found linked. record { core_is = refl; none = refl })) has
rows-follow laws known (LinkLost pt) number transcript is has no_cut =
    let e : pt ≡ number = cc in
    subst (λ (n : ℕ). FollowsTranscript n [] (link_lost known pt).core) e (lost-follows known pt has.terminal (ap (terminal_at known) e ∙ has.found))
rows-follow laws known (Late pt) number transcript is has no_cut = quiet-follows known number transcript (late_row known pt) (late-quiet known pt) has
rows-follow laws known (Overdue key) number transcript is has no_cut = absurd cc
rows-follow laws known (Due pt) number transcript is has no_cut = quiet-follows known number transcript (due_row known pt) (due-quiet known pt) has

-- ---- as a run begins

pub new-follows : NewCoreFollowsTranscript
new-follows setup number pt found = record { terminal = new_terminal pt; found = in-list setup.terminals number found; talk_is = refl; awaited_is = refl; standing_is = refl }
  where
    in-list : (pts : List Pt) (number : ℕ) → slice_get pts number ≡ Some pt → slice_get (map new_terminal pts) number ≡ Some (new_terminal pt)
    in-list [] number f = absurd cc
    in-list (first ∷ pts) zero f = ap (λ (p : Pt). Some (new_terminal p)) (same-some first pt f)
    in-list (first ∷ pts) (suc number) f = in-list pts number f

-- ---- along a run

-- the element of a place is there where its image is
image-there : {A B : Type 0} → (f : A → B) (all : List A) (at : ℕ) (image : B) → slice_get (map f all) at ≡ Some image → (one : A) × (slice_get all at ≡ Some one)
image-there f [] at image found = absurd cc
image-there f (first ∷ rest) zero image found = (first, refl)
image-there f (first ∷ rest) (suc at) image found = image-there f rest at image found

there-image : {A B : Type 0} → (f : A → B) (all : List A) (at : ℕ) (one : A) → slice_get all at ≡ Some one → slice_get (map f all) at ≡ Some (f one)
there-image f [] at one found = absurd cc
there-image f (first ∷ rest) zero one found = ap (λ a. Some (f a)) (same-some first one found)
there-image f (first ∷ rest) (suc at) one found = there-image f rest at one found

-- a terminal that is there stays there
still-there : (number : ℕ) (old new : Core) (terminal : Terminal) → ChangesTerminalAlone number old new → slice_get old.terminals number ≡ Some terminal → (later : Terminal) × (slice_get new.terminals number ≡ Some later)
still-there number old new terminal alone found =
    image-there (λ (t : Terminal). t.pt) new.terminals number terminal.pt
    (ap (λ (pts : List Pt). slice_get pts number) alone.settings ∙ there-image (λ (t : Terminal). t.pt) old.terminals number terminal found)

-- another terminal keeps its transcript
others-follow : (number other : ℕ) (transcript : List Carried) (old new : Core) → ChangesTerminalAlone number old new → other ≢ number → FollowsTranscript other transcript old → FollowsTranscript other transcript new
others-follow number other transcript old new alone apart has =
    record { terminal = has.terminal; found = alone.others other apart ∙ has.found; talk_is = has.talk_is; awaited_is = has.awaited_is; standing_is = has.standing_is }

-- what is remembered after an item of no terminal
pub none-same : (known : Known) (item : RoundItem) → terminal_of item ≡ None → (terminal_row known item).core ≡ known.core
none-same known (Crowded till) is = refl
none-same known (Message till bytes) is = refl
none-same known (Asked till as_read) is = refl
none-same known (Unframed till) is = refl
none-same known (Gone till) is = refl
none-same known (Greet pt apdu) is = absurd cc
none-same known (Handle pt apdu) is = absurd cc
none-same known (Serve pt till header request) is = absurd cc
none-same known (Queue pt till header request) is = refl
none-same known (NextWaiting pt) is = absurd cc
none-same known (Oversized pt) is = absurd cc
none-same known (LinkLost pt) is = absurd cc
none-same known (Late pt) is = absurd cc
none-same known (Overdue key) is = refl
none-same known (Due pt) is = absurd cc

-- after an item of another terminal, with its cut
other-item : (known : Known) (item : RoundItem) (other number : ℕ) (transcript : List Carried) → terminal_of item ≡ Some other → number ≢ other → FollowsTranscript number transcript known.core
    → FollowsTranscript number transcript (core_with_cut known (terminal_row known item) (Some other))
other-item known item other number transcript is apart has = by-cut (owes_cut (terminal_row known item).calls)
  where
    by-cut : (cuts : Bool) → FollowsTranscript number transcript (if cuts then (link_row (record known { core = (terminal_row known item).core }) other LinkIsLost).core else (terminal_row known item).core)
    by-cut true =
        others-follow other number transcript (terminal_row known item).core _ (link-changes-alone (record known { core = (terminal_row known item).core }) other LinkIsLost) apart
        (others-follow other number transcript known.core (terminal_row known item).core (row-changes-alone known item other is) apart has)
    by-cut false = others-follow other number transcript known.core (terminal_row known item).core (row-changes-alone known item other is) apart has

-- after an item of the terminal, with its cut
own-item : (laws : DialogueLaws) (known : Known) (item : RoundItem) (number : ℕ) (transcript : List Carried) → terminal_of item ≡ Some number → FollowsTranscript number transcript known.core
    → FollowsTranscript number (transcript_with_cut known item transcript) (core_with_cut known (terminal_row known item) (Some number))
own-item laws known item number transcript is has = by-cut (owes_cut (terminal_row known item).calls) refl
  where
    by-cut : (cuts : Bool) → owes_cut (terminal_row known item).calls ≡ cuts
        → FollowsTranscript number (if cuts then [] else transcript_after known item transcript) (if cuts then (link_row (record known { core = (terminal_row known item).core }) number LinkIsLost).core else (terminal_row known item).core)
    by-cut true cuts =
        let there = still-there number known.core (terminal_row known item).core has.terminal (row-changes-alone known item number is) has.found in
        lost-follows (record known { core = (terminal_row known item).core }) number there.0 there.1
    by-cut false cuts = rows-follow laws known item number transcript is has cuts

item-follows : (laws : DialogueLaws) (known : Known) (item : RoundItem) (number : ℕ) (transcript : List Carried) → FollowsTranscript number transcript known.core
    → FollowsTranscript number (transcript_after_step number known (HandlesItem item) transcript) (core_after known (HandlesItem item))
item-follows laws known item number transcript has = by-terminal (terminal_of item) refl
  where
    by-number : (other : ℕ) (same : Bool) → eqb other number ≡ same → terminal_of item ≡ Some other
        → FollowsTranscript number (if same then transcript_with_cut known item transcript else transcript) (core_with_cut known (terminal_row known item) (Some other))
    by-number other true e is =
        let same : number ≡ other = sym (eqb-true other number e) in
        subst (λ (n : ℕ). FollowsTranscript number (transcript_with_cut known item transcript) (core_with_cut known (terminal_row known item) (Some n))) same
        (own-item laws known item number transcript (is ∙ ap (λ (n : ℕ). Some n) (sym same)) has)
    by-number other false e is = other-item known item other number transcript is (λ same. eqb-false other number e (sym same)) has

    by-terminal : (of : Option ℕ) → terminal_of item ≡ of
        → FollowsTranscript number (if is_number number of then transcript_with_cut known item transcript else transcript) (core_with_cut known (terminal_row known item) of)
    by-terminal None is = subst (FollowsTranscript number transcript) (sym (none-same known item is)) has
    by-terminal (Some other) is = by-number other (eqb other number) refl is

link-follows : (known : Known) (other : ℕ) (event : LinkEvent) (number : ℕ) (transcript : List Carried) → FollowsTranscript number transcript known.core
    → FollowsTranscript number (transcript_after_step number known (ChangesLink other event) transcript) (core_after known (ChangesLink other event))
link-follows known other event number transcript has = by-number (eqb other number) refl
  where
    by-number : (same : Bool) → eqb other number ≡ same → FollowsTranscript number (if same then transcript_anew known other event else transcript) (link_row known other event).core
    by-number true e =
        let same : other ≡ number = eqb-true other number e in
        subst (λ (n : ℕ). FollowsTranscript n (transcript_anew known other event) (link_row known other event).core) same
        (links-begin known other event has.terminal (ap (terminal_at known) same ∙ has.found))
    by-number false e = others-follow other number transcript known.core (link_row known other event).core (link-changes-alone known other event) (λ same. eqb-false other number e (sym same)) has

pub step-follows : (laws : DialogueLaws) (known : Known) (step : TerminalStep) (number : ℕ) (transcript : List Carried) → FollowsTranscript number transcript known.core
    → FollowsTranscript number (transcript_after_step number known step transcript) (core_after known step)
step-follows laws known (HandlesItem item) number transcript has = item-follows laws known item number transcript has
step-follows laws known (ChangesLink other event) number transcript has = link-follows known other event number transcript has
step-follows laws known (ChangesWaits waits) number transcript has = waits-follow number transcript known.core waits has

along-follows : (laws : DialogueLaws) (known : Known) (steps : List StepAt) (number : ℕ) (transcript : List Carried) → FollowsTranscript number transcript known.core
    → FollowsTranscript number (transcript_along number known transcript steps) (core_along known steps)
along-follows laws known [] number transcript has = has
along-follows laws known (first ∷ rest) number transcript has =
    along-follows laws (known_after known first) rest number (transcript_after_step number (known_before known first) first.step transcript)
    (step-follows laws (known_before known first) first.step number transcript has)

pub steps-follow : DialogueLaws → EachStepFollowsTranscript
steps-follow laws setup kept steps number pt found = along-follows laws (known_new setup kept) steps number [] (new-follows setup number pt found)
