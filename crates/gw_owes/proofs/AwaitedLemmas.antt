-- What is awaited on a link is of the stops that were sent on it, and of the command of the dialogue that runs.
use Rattle.std.proofs.Common.{◌≡◌, ◌≢◌, ◌≤◌, ℕ, zero, suc, ◌+◌, List, [], ◌∷◌, ◌++◌, refl, sym, ◌∙◌, ap, subst, arith, Bool, true, false, eqb}
use Rattle.std.proofs.lemmas.Bool.{eqb-true, eqb-false}
use Rattle.std.specs.Prelude.{map, slice_get, nat_le, nat_lt, Option, Some, None, if◌then◌else◌}
use Rattle.zvt_bmp.specs.Decode.{decode_field_value, decode_status_field, decode_status_within, decode_status}
use Rattle.gw_base.specs.declared.figures.Figures.{Figures}
use Rattle.gw_base.specs.declared.key.Key.{Key}
use Rattle.gw_base.specs.declared.setup.Pt.{Pt}
use Rattle.sale_reply.specs.declared.reply.Shown.{Shown}
use Rattle.sale_values.specs.declared.header.Header.{Header}
use Rattle.sale_values.specs.declared.names.Period.{Period}
use Rattle.sale_values.specs.declared.request.Output.{Output}
use Rattle.sale_values.specs.declared.request.SaleRequest.{SaleRequest}
use Rattle.sale_values.specs.declared.request.SaleRequest.TheVariants as requests
use Rattle.sale_values.specs.Key.{key_of}
use Rattle.zvt_apdu.specs.Grammar.{ApduValue}
use Rattle.zvt_msg.specs.declared.command.Command.{Command}
use Rattle.zvt_msg.specs.declared.command.Command.TheVariants as commands
use Rattle.zvt_msg.specs.Message.{MessageValue, Ack, Nack, Intermediate, Line, Block, Status, Completion, Abort, Other}
use Rattle.zvt_msg.specs.MessageDecode.{decode_pt_message}
use Rattle.zvt_talk.specs.declared.dialogue_kind.DialogueKind.{DialogueKind}
use Rattle.zvt_talk.specs.declared.meaning.Heard.{Heard}
use Rattle.zvt_talk.specs.declared.meaning.Heard.TheVariants as heard
use Rattle.zvt_talk.specs.declared.phase.Phase.{Phase}
use Rattle.zvt_talk.specs.declared.phase.Phase.TheVariants.{Asked as AskedPhase, Begun, Ended}
use Rattle.zvt_talk.specs.Came.{is_taken}
use Rattle.zvt_talk.specs.Table.{meaning_when_asked}
use Rattle.zvt_talk.specs.Talk.{TalkFacts}
use Rattle.zvt_talk.specs.TalkSteps.{may_send_stop, meaning_in_phase, phase_after_stop_wished}
use Rattle.jrn_record.specs.declared.records.Deal.{Deal}
use Rattle.jrn_record.specs.declared.records.Deal.TheVariants as deals
use Rattle.jrn_record.specs.declared.records.How.TheVariants as hows
use Rattle.jrn_record.specs.declared.records.Intent.{Intent as TheIntent}
use Rattle.jrn_record.specs.declared.records.Outcome.{Outcome as TheOutcome}
use Rattle.gw_ledger.specs.declared.entry.Entry.{Entry as TheEntry}
use Rattle.gw_ledger.specs.History.{history}
use Rattle.xlate.specs.Ask.{ask_for}
use Rattle.xlate.specs.Display.{show_lines}
use Rattle.gw_owes.specs.declared.terminal.Service.TheVariants as services
use Rattle.gw_owes.specs.declared.terminal.Standing.{Standing}
use Rattle.gw_owes.specs.declared.terminal.Standing.TheVariants.{Unlinked, Registering, Enquiring, Ready, Serving, Aside}
use Rattle.gw_owes.specs.declared.terminal.Terminal.{Terminal}
use Rattle.gw_owes.specs.AwaitedLaws.{stops_in, unacknowledged_in, unacknowledged, AwaitsWithin, AwaitsNoMore, EachRowAwaitsNoMore, EachLinkAwaitsNoMore, EachStepAwaitsNoMore, IsHandedItsOwn, EachUnstoppedIsHandedItsOwn, ExampleAwaitedOfStops}
use Rattle.gw_owes.specs.Awaited.{one_more_awaited, one_less_awaited}
use Rattle.gw_owes.specs.Core.{Wait, Core, new_terminal}
use Rattle.gw_owes.specs.Displays.{asked_to_show, display_row, serving_display}
use Rattle.gw_owes.specs.Reconciliations.{settled_of, reply_to_settled, day_command, asked_for_day, reconciliation_row, serving_day}
use Rattle.gw_owes.specs.Reply.{ReplyValue}
use Rattle.gw_owes.specs.Items.{RoundItem, Crowded, Message, Asked, Unframed, Gone, Greet, Handle, Serve, Queue, NextWaiting, Oversized, LinkLost, Late, Overdue, Due}
use Rattle.gw_owes.specs.Row.{Known, Row, owing_where}
use Rattle.gw_owes.specs.Terminals.{terminal_at, of_terminal, with_terminal, talk_of_command, after_command, registration, registers, unlinks, unlinked_terminal, link_lost, link_made, reply_calls_to, terminal_becomes}
use Rattle.gw_owes.specs.Links.{is_linked, cutting, LinkEvent, link_row, LinkIsMade, LinkHasFailed, LinkIsLost}
use Rattle.gw_owes.specs.Reports.{Report, on_record, standing_reported, outcome_reported, report_against}
use Rattle.gw_owes.specs.Serving.{at_rest, staying, stops, reply_to_outcome, done_with, resolves, approved_outcome, was_stopped, declined_outcome, approved_row, last_after_decline, serving_transaction}
use Rattle.gw_owes.specs.Payments.{Asking, asking_of, begins_asking, begins_in, begins_request, serve_row}
use Rattle.gw_owes.specs.Steps.{is_beginning, step_result}
use Rattle.gw_owes.specs.Stops.{serves_key, stops_key, wishes_stop, wishing}
use Rattle.gw_owes.specs.Handling.{awaited_after, taken_as, meaning_for, meaning_at, taking, enquiry_command, registering, enquiring, consequence, handle_row}
use Rattle.gw_owes.specs.Greeting.{greet_row, oversized_row}
use Rattle.gw_owes.specs.Deadlines.{late_row, due_row}
use Rattle.gw_owes.specs.TerminalLaws.{owes_cut, ChangesTerminalAlone}
use Rattle.gw_owes.specs.TerminalRows.{terminal_of, terminal_row}
use Rattle.gw_owes.specs.Transcript.{Carried, Commanded, Wished, TerminalStep, StepAt, HandlesItem, ChangesLink, ChangesWaits, FollowsTranscript, commanded_by, wished_of, wished_for, took_by, transcript_after, transcript_anew, core_with_cut, core_after, is_number, transcript_with_cut, transcript_after_step, known_before, known_after, core_along, transcript_along, known_new}
use Rattle.gw_owes.proofs.HandlingLemmas.{by-where, each-linked}
use Rattle.gw_owes.proofs.CountLemmas.{by-more, by-less}
use Rattle.gw_owes.specs.WaitingRows.{next_waiting_row}
use Rattle.gw_owes.proofs.DialogueLemmas.{shown-lines}
use Rattle.gw_owes.proofs.NextLemmas.{WaitsFirst, each-next, known_without}
use Rattle.gw_owes.proofs.PaymentLemmas.{session-served, each-reconciled, shown_row, each-shown}
use Rattle.gw_owes.proofs.SetLemmas.{new-is-there, same-some}
use Rattle.gw_owes.proofs.StandingLemmas.{DialogueLaws, ended-rests}
use Rattle.gw_owes.proofs.TerminalLemmas.{link-changes-alone, row-changes-alone}
use Rattle.gw_owes.proofs.TranscriptLemmas.{reply-quiet, IsAsCarried, with_message, carried-in, each-taken, as-carried, carried-there, IsQuiet, greet-quiet, late-quiet, due-quiet, lost-quiet, none-same, new-follows, step-follows}

-- ---- counts

-- one more that isn't acknowledged allows one more
within-more : (sent own awaited : ℕ) → AwaitsWithin sent 0 awaited → AwaitsWithin sent own awaited
within-more sent own awaited within = record { both = λ below. let less = within.both below in omega (arith, less); one_beside = within.one_beside }

-- a command that is sent, which is no stop, is one more of both
within-command : (sent awaited : ℕ) → AwaitsWithin sent 0 awaited → AwaitsWithin (sent + 0) 1 (one_more_awaited awaited)
within-command sent awaited within =
    let beside = within.one_beside in
    by-more (λ n. AwaitsWithin (sent + 0) 1 n) awaited
    (λ most. record { both = λ below. absurd (below most); one_beside = omega (arith, beside) })
    (λ below. let less = within.both below in record { both = λ under. omega (arith, less); one_beside = omega (arith, less) })

-- so is a stop
within-stop : (sent own awaited : ℕ) → AwaitsWithin sent own awaited → AwaitsWithin (sent + 1) own (one_more_awaited awaited)
within-stop sent own awaited within =
    let beside = within.one_beside in
    by-more (λ n. AwaitsWithin (sent + 1) own n) awaited
    (λ most. record { both = λ below. absurd (below most); one_beside = omega (arith, beside) })
    (λ below. let less = within.both below in record { both = λ under. omega (arith, less); one_beside = omega (arith, beside) })

-- an Ack or a Nack is one less, of the command where that isn't acknowledged yet
within-less : (sent awaited : ℕ) → AwaitsWithin sent 1 awaited → AwaitsWithin sent 0 (one_less_awaited awaited)
within-less sent awaited within =
    by-less (λ n. AwaitsWithin sent 0 n) awaited
    (λ most. record { both = λ below. absurd (below most); one_beside = within.one_beside })
    (λ below. let less = within.both below in record { both = λ under. omega (arith, less); one_beside = omega (arith, less) })

-- and of a stop where it is
within-falls : (sent awaited : ℕ) → AwaitsWithin sent 0 awaited → AwaitsWithin sent 0 (one_less_awaited awaited)
within-falls sent awaited within =
    by-less (λ n. AwaitsWithin sent 0 n) awaited
    (λ most. record { both = λ below. absurd (below most); one_beside = within.one_beside })
    (λ below. let less = within.both below in record { both = λ under. omega (arith, less); one_beside = omega (arith, less) })

-- nothing is awaited
within-none : (sent own : ℕ) → AwaitsWithin sent own 0
within-none sent own = record { both = λ below. omega arith; one_beside = omega arith }

-- ---- what a terminal becomes

-- no more is awaited of a terminal that becomes this one
awaits : (known : Known) (number : ℕ) (transcript : List Carried) (old new : Terminal) → terminal_at known number ≡ Some old → AwaitsWithin (stops_in transcript) (unacknowledged new.talk) new.awaited
    → AwaitsNoMore number transcript (with_terminal known.core number new)
awaits known number transcript old new found few terminal there =
    subst (λ (t : Terminal). AwaitsWithin (stops_in transcript) (unacknowledged t.talk) t.awaited) (same-some new terminal (sym (new-is-there known.core.terminals number old new found) ∙ there)) few

-- what a row without a cut leaves
abbrev Awaits : Known → ℕ → List Carried → Row → Type 0
Awaits known number transcript row = owes_cut row.calls ≡ false → AwaitsNoMore number (commanded_by known.moment row.calls ++ transcript) row.core

-- no more is awaited than stops were sent
abbrev IsFew : List Carried → Terminal → Type 0
IsFew transcript terminal = AwaitsWithin (stops_in transcript) 0 terminal.awaited

stays-few : (known : Known) (number : ℕ) (transcript : List Carried) (old terminal : Terminal) → terminal_at known number ≡ Some old → IsFew transcript terminal → Awaits known number transcript (staying known number terminal)
stays-few known number transcript old terminal found few no_cut = awaits known number transcript old terminal found (within-more (stops_in transcript) (unacknowledged terminal.talk) terminal.awaited few)

rests-few : (known : Known) (number : ℕ) (transcript : List Carried) (old terminal : Terminal) (standing : Standing) → terminal_at known number ≡ Some old → IsFew transcript terminal
    → Awaits known number transcript (terminal_becomes known number (at_rest terminal standing) [])
rests-few known number transcript old terminal standing found few no_cut = awaits known number transcript old (at_rest terminal standing) found few

-- a stop that is sent is one more of both
stops-few : (known : Known) (number : ℕ) (transcript : List Carried) (old terminal : Terminal) → terminal_at known number ≡ Some old → AwaitsWithin (stops_in transcript) (unacknowledged terminal.talk) terminal.awaited
    → Awaits known number transcript (stops known number terminal)
stops-few known number transcript old terminal found few no_cut =
    awaits known number (Commanded commands.Stop known.moment ∷ transcript) old (record terminal { awaited = one_more_awaited terminal.awaited }) found (within-stop (stops_in transcript) (unacknowledged terminal.talk) terminal.awaited few)

-- the terminal is done and its till gets a reply
replied-few : (known : Known) (number : ℕ) (transcript : List Carried) (old terminal : Terminal) (standing : Standing) (reply : Option ReplyValue) → terminal_at known number ≡ Some old → IsFew transcript terminal
    → AwaitsNoMore number (commanded_by known.moment (reply_calls_to terminal.asker reply) ++ transcript) (with_terminal known.core number (done_with terminal standing))
replied-few known number transcript old terminal standing reply found few =
    subst (λ (sent : List Carried). AwaitsNoMore number (sent ++ transcript) (with_terminal known.core number (done_with terminal standing)))
    (sym (reply-quiet known.moment terminal.asker reply))
    (awaits known number transcript old (done_with terminal standing) found few)

-- so it is where a record is kept before
resolves-few : (known : Known) (number : ℕ) (transcript : List Carried) (old terminal : Terminal) (standing : Standing) (outcome : TheOutcome) → terminal_at known number ≡ Some old → IsFew transcript terminal
    → Awaits known number transcript (resolves known number terminal standing outcome)
resolves-few known number transcript old terminal standing outcome found few no_cut = replied-few known number transcript old terminal standing (reply_to_outcome known.kept outcome.slot outcome) found few

-- ---- what a message means

-- it is no end that is unclear
abbrev IsClear : Heard → Type 0
IsClear (heard.Begun stop) = Unit {0}
IsClear (heard.Note intermediate_status) = Unit {0}
IsClear heard.Line = Unit {0}
IsClear heard.Block = Unit {0}
IsClear heard.Seen = Unit {0}
IsClear (heard.Approved figures) = Unit {0}
IsClear heard.Done = Unit {0}
IsClear (heard.Told reported approved result_code) = Unit {0}
IsClear (heard.Declined result_code reported) = Unit {0}
IsClear heard.Unclear = ⊥
IsClear heard.Stray = Unit {0}

falls : (message : MessageValue) (awaited sent : ℕ) → AwaitsWithin sent 0 awaited → AwaitsWithin sent 0 (awaited_after message awaited)
falls Ack awaited sent few = within-falls sent awaited few
falls (Nack error_code) awaited sent few = within-falls sent awaited few
falls (Intermediate intermediate_status) awaited sent few = few
falls (Line text) awaited sent few = few
falls (Block objects) awaited sent few = few
falls (Status fields) awaited sent few = few
falls Completion awaited sent few = few
falls (Abort result_code) awaited sent few = few
falls Other awaited sent few = few

-- before the command is acknowledged, a message that is taken and isn't unclear acknowledges or refuses it
phase-falls : (dialogue_kind : DialogueKind) (none : ℕ) (phase : Phase) (message : MessageValue) (awaited sent : ℕ) → is_taken message ≡ true → AwaitsWithin sent (unacknowledged_in phase) awaited
    → IsClear (meaning_in_phase dialogue_kind none phase (taken_as awaited message)) → AwaitsWithin sent 0 (awaited_after message awaited)
phase-falls dialogue_kind none (AskedPhase stop_wished) Ack awaited sent taken few clear = within-less sent awaited few
phase-falls dialogue_kind none (AskedPhase stop_wished) (Nack error_code) awaited sent taken few clear = within-less sent awaited few
phase-falls dialogue_kind none (AskedPhase stop_wished) (Intermediate intermediate_status) awaited sent taken few clear = absurd clear
phase-falls dialogue_kind none (AskedPhase stop_wished) (Line text) awaited sent taken few clear = absurd clear
phase-falls dialogue_kind none (AskedPhase stop_wished) (Block objects) awaited sent taken few clear = absurd clear
phase-falls dialogue_kind none (AskedPhase stop_wished) (Status fields) awaited sent taken few clear = absurd clear
phase-falls dialogue_kind none (AskedPhase stop_wished) Completion awaited sent taken few clear = absurd clear
phase-falls dialogue_kind none (AskedPhase stop_wished) (Abort result_code) awaited sent taken few clear = absurd clear
phase-falls dialogue_kind none (AskedPhase stop_wished) Other awaited sent taken few clear = absurd cc
phase-falls dialogue_kind none (Begun stop_sent statuses) message awaited sent taken few clear = falls message awaited sent few
phase-falls dialogue_kind none (Ended stop_sent) message awaited sent taken few clear = falls message awaited sent few

talk-falls : (talk : Option TalkFacts) (message : MessageValue) (awaited sent : ℕ) → is_taken message ≡ true → AwaitsWithin sent (unacknowledged talk) awaited → IsClear (meaning_for talk (taken_as awaited message))
    → AwaitsWithin sent 0 (awaited_after message awaited)
talk-falls None message awaited sent taken few clear = falls message awaited sent few
talk-falls (Some talk) message awaited sent taken few clear = phase-falls talk.dialogue_kind talk.none talk.phase message awaited sent taken few clear

-- ---- what follows from it

registering-few : (known : Known) (number : ℕ) (transcript : List Carried) (old terminal : Terminal) (meant : Heard) → terminal_at known number ≡ Some old → (IsClear meant → IsFew transcript terminal)
    → Awaits known number transcript (registering known number terminal meant)
registering-few known number transcript old terminal (heard.Begun stop) found few = stays-few known number transcript old terminal found (few tt)
registering-few known number transcript old terminal (heard.Note intermediate_status) found few = stays-few known number transcript old terminal found (few tt)
registering-few known number transcript old terminal heard.Line found few = stays-few known number transcript old terminal found (few tt)
registering-few known number transcript old terminal heard.Block found few = stays-few known number transcript old terminal found (few tt)
registering-few known number transcript old terminal heard.Seen found few = stays-few known number transcript old terminal found (few tt)
registering-few known number transcript old terminal (heard.Approved figures) found few = stays-few known number transcript old terminal found (few tt)
registering-few known number transcript old terminal heard.Done found few = λ no_cut.
    awaits known number (Commanded (enquiry_command terminal.pt) known.moment ∷ transcript) old (after_command terminal (enquiry_command terminal.pt) Enquiring known.moment) found (within-command (stops_in transcript) terminal.awaited (few tt))
registering-few known number transcript old terminal (heard.Told reported approved result_code) found few = stays-few known number transcript old terminal found (few tt)
registering-few known number transcript old terminal (heard.Declined result_code reported) found few = λ no_cut. absurd cc
registering-few known number transcript old terminal heard.Unclear found few = λ no_cut. absurd cc
registering-few known number transcript old terminal heard.Stray found few = stays-few known number transcript old terminal found (few tt)

report-few : (known : Known) (number : ℕ) (transcript : List Carried) (old terminal : Terminal) (opened : Option TheEntry) (last : ℕ) (report : Report) → terminal_at known number ≡ Some old → IsFew transcript terminal
    → Awaits known number transcript (report_against opened last known number terminal report)
report-few known number transcript old terminal None last report found few = rests-few known number transcript old terminal (standing_reported last report.trace) found few
report-few known number transcript old terminal (Some entry) last report found few = by-number (nat_le entry.intent.before report.trace)
  where
    by-number : (least : Bool)
        → Awaits known number transcript (if least then resolves known number terminal (Ready report.trace) (outcome_reported entry report known.moment) else terminal_becomes known number (at_rest terminal (Aside entry.intent.before report.trace)) [])
    by-number true = resolves-few known number transcript old terminal (Ready report.trace) (outcome_reported entry report known.moment) found few
    by-number false = rests-few known number transcript old terminal (Aside entry.intent.before report.trace) found few

enquiring-few : (known : Known) (number : ℕ) (transcript : List Carried) (old terminal : Terminal) (meant : Heard) → terminal_at known number ≡ Some old → (IsClear meant → IsFew transcript terminal)
    → Awaits known number transcript (enquiring known number terminal meant)
enquiring-few known number transcript old terminal (heard.Begun stop) found few = stays-few known number transcript old terminal found (few tt)
enquiring-few known number transcript old terminal (heard.Note intermediate_status) found few = stays-few known number transcript old terminal found (few tt)
enquiring-few known number transcript old terminal heard.Line found few = stays-few known number transcript old terminal found (few tt)
enquiring-few known number transcript old terminal heard.Block found few = stays-few known number transcript old terminal found (few tt)
enquiring-few known number transcript old terminal heard.Seen found few = stays-few known number transcript old terminal found (few tt)
enquiring-few known number transcript old terminal (heard.Approved figures) found few = stays-few known number transcript old terminal found (few tt)
enquiring-few known number transcript old terminal heard.Done found few = stays-few known number transcript old terminal found (few tt)
enquiring-few known number transcript old terminal (heard.Told trace approved result_code) found few =
    report-few known number transcript old terminal (on_record known.kept terminal.pt.poi).opened (on_record known.kept terminal.pt.poi).last
    (record { trace = trace; approved = approved; result_code = result_code }) found (few tt)
enquiring-few known number transcript old terminal (heard.Declined result_code reported) found few = λ no_cut. absurd cc
enquiring-few known number transcript old terminal heard.Unclear found few = λ no_cut. absurd cc
enquiring-few known number transcript old terminal heard.Stray found few = stays-few known number transcript old terminal found (few tt)

approved-few : (known : Known) (number : ℕ) (transcript : List Carried) (old terminal : Terminal) (slot last : ℕ) (figures : Figures) → terminal_at known number ≡ Some old → IsFew transcript terminal
    → Awaits known number transcript (approved_row known number terminal slot last figures)
approved-few known number transcript old terminal slot last figures found few = by-above (nat_lt last figures.number)
  where
    by-above : (above : Bool)
        → Awaits known number transcript (if above then resolves known number terminal (Ready figures.number) (approved_outcome slot figures known.moment) else terminal_becomes known number (at_rest terminal (Aside last figures.number)) [])
    by-above true = resolves-few known number transcript old terminal (Ready figures.number) (approved_outcome slot figures known.moment) found few
    by-above false = rests-few known number transcript old terminal (Aside last figures.number) found few

serving-few : (known : Known) (number : ℕ) (transcript : List Carried) (old terminal : Terminal) (slot last : ℕ) (meant : Heard) → terminal_at known number ≡ Some old → (IsClear meant → IsFew transcript terminal)
    → Awaits known number transcript (serving_transaction known number terminal slot last meant)
serving-few known number transcript old terminal slot last (heard.Begun true) found few =
    stops-few known number transcript old terminal found (within-more (stops_in transcript) (unacknowledged terminal.talk) terminal.awaited (few tt))
serving-few known number transcript old terminal slot last (heard.Begun false) found few = stays-few known number transcript old terminal found (few tt)
serving-few known number transcript old terminal slot last (heard.Note intermediate_status) found few = stays-few known number transcript old terminal found (few tt)
serving-few known number transcript old terminal slot last heard.Line found few = stays-few known number transcript old terminal found (few tt)
serving-few known number transcript old terminal slot last heard.Block found few = stays-few known number transcript old terminal found (few tt)
serving-few known number transcript old terminal slot last heard.Seen found few = stays-few known number transcript old terminal found (few tt)
serving-few known number transcript old terminal slot last (heard.Approved figures) found few = approved-few known number transcript old terminal slot last figures found (few tt)
serving-few known number transcript old terminal slot last heard.Done found few = stays-few known number transcript old terminal found (few tt)
serving-few known number transcript old terminal slot last (heard.Told reported approved result_code) found few = stays-few known number transcript old terminal found (few tt)
serving-few known number transcript old terminal slot last (heard.Declined result_code reported) found few =
    resolves-few known number transcript old terminal (Ready (last_after_decline last reported)) (declined_outcome slot result_code (was_stopped terminal.talk) known.moment) found (few tt)
serving-few known number transcript old terminal slot last heard.Unclear found few = λ no_cut. absurd cc
serving-few known number transcript old terminal slot last heard.Stray found few = stays-few known number transcript old terminal found (few tt)

day-few : (known : Known) (number : ℕ) (transcript : List Carried) (old terminal : Terminal) (header : Header) (last : ℕ) (meant : Heard) → terminal_at known number ≡ Some old → (IsClear meant → IsFew transcript terminal)
    → Awaits known number transcript (serving_day known number terminal last header meant)
day-few known number transcript old terminal header last (heard.Begun true) found few = stops-few known number transcript old terminal found (within-more (stops_in transcript) (unacknowledged terminal.talk) terminal.awaited (few tt))
day-few known number transcript old terminal header last (heard.Begun false) found few = stays-few known number transcript old terminal found (few tt)
day-few known number transcript old terminal header last (heard.Note intermediate_status) found few = stays-few known number transcript old terminal found (few tt)
day-few known number transcript old terminal header last heard.Line found few = stays-few known number transcript old terminal found (few tt)
day-few known number transcript old terminal header last heard.Block found few = stays-few known number transcript old terminal found (few tt)
day-few known number transcript old terminal header last heard.Seen found few = stays-few known number transcript old terminal found (few tt)
day-few known number transcript old terminal header last (heard.Approved figures) found few = stays-few known number transcript old terminal found (few tt)
day-few known number transcript old terminal header last heard.Done found few = λ no_cut. replied-few known number transcript old terminal (Ready last) _ found (few tt)
day-few known number transcript old terminal header last (heard.Told reported approved result_code) found few = stays-few known number transcript old terminal found (few tt)
day-few known number transcript old terminal header last (heard.Declined result_code reported) found few = λ no_cut. replied-few known number transcript old terminal (Ready last) _ found (few tt)
day-few known number transcript old terminal header last heard.Unclear found few = λ no_cut. absurd cc
day-few known number transcript old terminal header last heard.Stray found few = stays-few known number transcript old terminal found (few tt)

display-few : (known : Known) (number : ℕ) (transcript : List Carried) (old terminal : Terminal) (header : Header) (results : Option (List Shown)) (last : ℕ) (meant : Heard) → terminal_at known number ≡ Some old
    → (IsClear meant → IsFew transcript terminal) → Awaits known number transcript (serving_display known number terminal last header results meant)
display-few known number transcript old terminal header results last (heard.Begun stop) found few = stays-few known number transcript old terminal found (few tt)
display-few known number transcript old terminal header results last (heard.Note intermediate_status) found few = stays-few known number transcript old terminal found (few tt)
display-few known number transcript old terminal header results last heard.Line found few = stays-few known number transcript old terminal found (few tt)
display-few known number transcript old terminal header results last heard.Block found few = stays-few known number transcript old terminal found (few tt)
display-few known number transcript old terminal header results last heard.Seen found few = stays-few known number transcript old terminal found (few tt)
display-few known number transcript old terminal header results last (heard.Approved figures) found few = stays-few known number transcript old terminal found (few tt)
display-few known number transcript old terminal header results last heard.Done found few = λ no_cut. replied-few known number transcript old terminal (Ready last) _ found (few tt)
display-few known number transcript old terminal header results last (heard.Told reported approved result_code) found few = stays-few known number transcript old terminal found (few tt)
display-few known number transcript old terminal header results last (heard.Declined result_code reported) found few = λ no_cut. replied-few known number transcript old terminal (Ready last) _ found (few tt)
display-few known number transcript old terminal header results last heard.Unclear found few = λ no_cut. absurd cc
display-few known number transcript old terminal header results last heard.Stray found few = stays-few known number transcript old terminal found (few tt)

-- where no dialogue runs nothing is unclear
none-clear : (talk : Option TalkFacts) (message : MessageValue) → talk ≡ None → IsClear (meaning_for talk message)
none-clear talk message none = subst (λ (t : Option TalkFacts). IsClear (meaning_for t message)) (sym none) tt

consequence-few : (laws : DialogueLaws) (known : Known) (number : ℕ) (transcript : List Carried) (terminal : Terminal) (message : MessageValue) (standing : Standing) → IsAsCarried known number transcript terminal
    → terminal.standing ≡ standing → is_linked standing ≡ true → (IsClear (meaning_at terminal message) → IsFew transcript (taking terminal message known.moment))
    → Awaits known number (with_message known terminal message transcript) (consequence known number (taking terminal message known.moment) (meaning_at terminal message) standing)
consequence-few laws known number transcript terminal message (Unlinked due) is stands linked few = absurd cc
consequence-few laws known number transcript terminal message Registering is stands linked few =
    registering-few known number (with_message known terminal message transcript) terminal (taking terminal message known.moment) (meaning_at terminal message) is.found few
consequence-few laws known number transcript terminal message Enquiring is stands linked few =
    enquiring-few known number (with_message known terminal message transcript) terminal (taking terminal message known.moment) (meaning_at terminal message) is.found few
consequence-few laws known number transcript terminal message (Ready last) is stands linked few =
    stays-few known number (with_message known terminal message transcript) terminal (taking terminal message known.moment) is.found
    (few (none-clear terminal.talk _ (is.talk_is ∙ ended-rests laws terminal.pt transcript (carried-in laws known number transcript terminal (Ready last) is stands))))
consequence-few laws known number transcript terminal message (Serving (services.Transaction slot) last) is stands linked few =
    serving-few known number (with_message known terminal message transcript) terminal (taking terminal message known.moment) slot last (meaning_at terminal message) is.found few
consequence-few laws known number transcript terminal message (Serving (services.EndOfDay header period) last) is stands linked few =
    day-few known number (with_message known terminal message transcript) terminal (taking terminal message known.moment) header last (meaning_at terminal message) is.found few
consequence-few laws known number transcript terminal message (Serving (services.Display header results) last) is stands linked few =
    display-few known number (with_message known terminal message transcript) terminal (taking terminal message known.moment) header results last (meaning_at terminal message) is.found few
consequence-few laws known number transcript terminal message (Aside before reported) is stands linked few =
    stays-few known number (with_message known terminal message transcript) terminal (taking terminal message known.moment) is.found
    (few (none-clear terminal.talk _ (is.talk_is ∙ ended-rests laws terminal.pt transcript (carried-in laws known number transcript terminal (Aside before reported) is stands))))

handle-few : (laws : DialogueLaws) (known : Known) (number : ℕ) (apdu : ApduValue) (transcript : List Carried) → FollowsTranscript number transcript known.core → AwaitsNoMore number transcript known.core
    → owes_cut (handle_row known number apdu).calls ≡ false
    → AwaitsNoMore number (commanded_by known.moment (handle_row known number apdu).calls ++ (took_by known (Handle number apdu) ++ transcript)) (handle_row known number apdu).core
handle-few laws known number apdu transcript has few =
    each-taken (λ took (row : Row). Awaits known number (took ++ transcript) row) known number apdu has.terminal has.found
    (λ no_cut. few)
    (λ message taken linked. consequence-few laws known number transcript has.terminal message has.terminal.standing (as-carried known number transcript has) refl linked
    (talk-falls has.terminal.talk message has.terminal.awaited (stops_in transcript) taken (few has.terminal has.found)))
    (λ message till request stays. stays)

-- ---- the row of a request that a terminal begins to serve

-- its command is no stop, and isn't acknowledged
command-within : (what : Deal) (intent : TheIntent) (original : Option TheEntry) (pt : Pt) (moment : ℕ) (transcript : List Carried) (awaited : ℕ) → AwaitsWithin (stops_in transcript + 0) 1 awaited
    → AwaitsWithin (stops_in (Commanded (ask_for what intent original pt.password) moment ∷ transcript)) (unacknowledged (talk_of_command pt (ask_for what intent original pt.password) moment)) awaited
command-within deals.Payment intent original pt moment transcript awaited within = within
command-within deals.Reversal intent original pt moment transcript awaited within = within

asking-few : (known : Known) (number till : ℕ) (transcript : List Carried) (terminal : Terminal) (last : ℕ) (asked : Option Asking) → terminal_at known number ≡ Some terminal
    → AwaitsNoMore number transcript known.core → IsFew transcript terminal → Awaits known number transcript (begins_asking known number till terminal last asked)
asking-few known number till transcript terminal last None found few less no_cut = few
asking-few known number till transcript terminal last (Some asking) found few less no_cut =
    awaits known number (Commanded (ask_for asking.intent.what asking.intent asking.original terminal.pt.password) known.moment ∷ transcript) terminal _ found
    (command-within asking.intent.what asking.intent asking.original terminal.pt known.moment transcript (one_more_awaited terminal.awaited) (within-command (stops_in transcript) terminal.awaited less))

-- a terminal that is ready has no dialogue
ready-few : (laws : DialogueLaws) (known : Known) (number : ℕ) (transcript : List Carried) (terminal : Terminal) (last : ℕ) → IsAsCarried known number transcript terminal → AwaitsNoMore number transcript known.core
    → terminal.standing ≡ Ready last → IsFew transcript terminal
ready-few laws known number transcript terminal last is few stands =
    let none : terminal.talk ≡ None = is.talk_is ∙ ended-rests laws terminal.pt transcript (carried-in laws known number transcript terminal (Ready last) is stands) in
    subst (λ (t : Option TalkFacts). AwaitsWithin (stops_in transcript) (unacknowledged t) terminal.awaited) none (few terminal is.found)

begins-few : (laws : DialogueLaws) (known : Known) (number till : ℕ) (header : Header) (request : SaleRequest) (transcript : List Carried) (terminal : Terminal) (standing : Standing) → IsAsCarried known number transcript terminal
    → AwaitsNoMore number transcript known.core → terminal.standing ≡ standing → Awaits known number transcript (begins_in known number till header request terminal standing)
begins-few laws known number till header request transcript terminal (Unlinked due) is few stands no_cut = few
begins-few laws known number till header request transcript terminal Registering is few stands no_cut = few
begins-few laws known number till header request transcript terminal Enquiring is few stands no_cut = few
begins-few laws known number till header request transcript terminal (Ready last) is few stands no_cut =
    asking-few known number till transcript terminal last (asking_of known header request terminal last) is.found few (ready-few laws known number transcript terminal last is few stands) no_cut
begins-few laws known number till header request transcript terminal (Serving service last) is few stands no_cut = few
begins-few laws known number till header request transcript terminal (Aside before reported) is few stands no_cut = few

request-few : (laws : DialogueLaws) (known : Known) (number till : ℕ) (header : Header) (request : SaleRequest) (transcript : List Carried) → FollowsTranscript number transcript known.core → AwaitsNoMore number transcript known.core
    → Awaits known number transcript (of_terminal known (begins_request known number till header request) (terminal_at known number))
request-few laws known number till header request transcript has few =
    subst (λ (o : Option Terminal). Awaits known number transcript (of_terminal known (begins_request known number till header request) o)) (sym has.found)
    (by-where (Awaits known number transcript) known (begins_in known number till header request has.terminal has.terminal.standing)
    (is_beginning (step_result known header request (Some (record { number = number; terminal = has.terminal }))))
    (λ no_cut. few)
    (λ begins. begins-few laws known number till header request transcript has.terminal has.terminal.standing (as-carried known number transcript has) few refl))

-- ---- the row of an Abort

-- a stop that is wished acknowledges nothing
wished-unacknowledged : (phase : Phase) → unacknowledged_in (phase_after_stop_wished phase) ≡ unacknowledged_in phase
wished-unacknowledged (AskedPhase stop_wished) = refl
wished-unacknowledged (Begun stop_sent statuses) = refl
wished-unacknowledged (Ended stop_sent) = refl

wish-few : (known : Known) (number : ℕ) (transcript : List Carried) (terminal : Terminal) (runs : Option TalkFacts) → terminal_at known number ≡ Some terminal → AwaitsNoMore number transcript known.core
    → terminal.talk ≡ runs → Awaits known number (Wished ∷ transcript) (wishes_stop known number terminal runs)
wish-few known number transcript terminal None found few runs = λ no_cut. few
wish-few known number transcript terminal (Some talk) found few runs = by-test (may_send_stop talk.phase)
  where
    less : AwaitsWithin (stops_in transcript) (unacknowledged_in (phase_after_stop_wished talk.phase)) terminal.awaited
    less =
        subst (λ (n : ℕ). AwaitsWithin (stops_in transcript) n terminal.awaited) (ap unacknowledged runs ∙ sym (wished-unacknowledged talk.phase)) (few terminal found)

    by-test : (test : Bool) → Awaits known number (Wished ∷ transcript) (if test then stops known number (wishing terminal talk) else staying known number (wishing terminal talk))
    by-test true = stops-few known number (Wished ∷ transcript) terminal (wishing terminal talk) found less
    by-test false = λ no_cut. awaits known number (Wished ∷ transcript) terminal (wishing terminal talk) found less

abort-few : (known : Known) (number : ℕ) (key : Key) (transcript : List Carried) (terminal : Terminal) → terminal_at known number ≡ Some terminal → AwaitsNoMore number transcript known.core
    → Awaits known number (wished_of known.kept key (terminal_at known number) ++ transcript) (of_terminal known (stops_key known number key) (terminal_at known number))
abort-few known number key transcript terminal found few =
    subst (λ (o : Option Terminal). Awaits known number (wished_of known.kept key o ++ transcript) (of_terminal known (stops_key known number key) o)) (sym found)
    (by-serves (serves_key known.kept key terminal))
  where
    by-serves : (serves : Bool) → Awaits known number ((if serves then Wished ∷ [] else []) ++ transcript) (owing_where serves known (wishes_stop known number terminal terminal.talk))
    by-serves true = wish-few known number transcript terminal terminal.talk found few refl
    by-serves false = λ no_cut. few

-- a reconciliation is settled at once, or an end of day is asked of a terminal that is ready
reconciliation-few : (laws : DialogueLaws) (known : Known) (number till : ℕ) (header : Header) (period : Period) (transcript : List Carried) → FollowsTranscript number transcript known.core → AwaitsNoMore number transcript known.core
    → Awaits known number transcript (of_terminal known (reconciliation_row known number till header period) (terminal_at known number))
reconciliation-few laws known number till header period transcript has few =
    each-reconciled (Awaits known number transcript) known number till header period (λ no_cut. few)
    (λ terminal at no_cut. subst (λ (sent : List Carried). AwaitsNoMore number (sent ++ transcript) known.core)
    (sym (reply-quiet known.moment (Some till) (reply_to_settled known.kept (settled_of hows.Sale header terminal.pt.currency known.moment)))) few)
    (λ terminal last at no_cut. awaits known number (Commanded (day_command terminal.pt) known.moment ∷ transcript) terminal (asked_for_day known till terminal last header) at.found
    (within-command (stops_in transcript) terminal.awaited (ready-few laws known number transcript terminal last (carried-there known number transcript terminal has at.found) few at.standing_is)))

lines-few : (known : Known) (number till : ℕ) (header : Header) (outputs : List Output) (transcript : List Carried) (terminal : Terminal) (last : ℕ) (command : Command) (lines : List (List ℕ)) → terminal_at known number ≡ Some terminal
    → IsFew transcript terminal → command ≡ show_lines lines → Awaits known number transcript (shown_row known number till header terminal last outputs command)
lines-few known number till header outputs transcript terminal last command lines found few shows =
    subst (λ (c : Command). Awaits known number transcript (shown_row known number till header terminal last outputs c)) (sym shows)
    (λ no_cut. awaits known number (Commanded (show_lines lines) known.moment ∷ transcript) terminal (asked_to_show known till terminal last header outputs (show_lines lines)) found
    (within-command (stops_in transcript) terminal.awaited few))

-- a display is asked of a terminal that is ready
shown-few : (laws : DialogueLaws) (known : Known) (number till : ℕ) (header : Header) (outputs : List Output) (transcript : List Carried) → FollowsTranscript number transcript known.core → AwaitsNoMore number transcript known.core
    → Awaits known number transcript (of_terminal known (display_row known number till header outputs) (terminal_at known number))
shown-few laws known number till header outputs transcript has few =
    each-shown (Awaits known number transcript) known number till header outputs (λ no_cut. few)
    (λ terminal last command at. let lines = shown-lines outputs command at.shown_is in
    lines-few known number till header outputs transcript terminal last command lines.0 at.found
    (ready-few laws known number transcript terminal last (carried-there known number transcript terminal has at.found) few at.standing_is) lines.1)

serve-few : (laws : DialogueLaws) (known : Known) (number till : ℕ) (header : Header) (request : SaleRequest) (transcript : List Carried) → FollowsTranscript number transcript known.core → AwaitsNoMore number transcript known.core
    → Awaits known number (wished_for known number header request ++ transcript) (serve_row known number till header request)
serve-few laws known number till header requests.Login transcript has few = session-served (Awaits known number transcript) known number till header requests.Login refl (λ no_cut. few) (λ success no_cut. few)
serve-few laws known number till header requests.Logout transcript has few = session-served (Awaits known number transcript) known number till header requests.Logout refl (λ no_cut. few) (λ success no_cut. few)
serve-few laws known number till header (requests.Payment payment) transcript has few = request-few laws known number till header (requests.Payment payment) transcript has few
serve-few laws known number till header (requests.Reversal reversal) transcript has few = request-few laws known number till header (requests.Reversal reversal) transcript has few
serve-few laws known number till header (requests.Abort reference) transcript has few = abort-few known number (key_of header reference) transcript has.terminal has.found few
serve-few laws known number till header (requests.Status reference) transcript has few = λ no_cut. few
serve-few laws known number till header (requests.Reconciliation period) transcript has few = reconciliation-few laws known number till header period transcript has few
serve-few laws known number till header (requests.Display outputs) transcript has few = shown-few laws known number till header outputs transcript has few
serve-few laws known number till header (requests.Print qualifier) transcript has few = λ no_cut. few
serve-few laws known number till header requests.Diagnosis transcript has few = λ no_cut. few

-- ---- a request that has waited

next-few : (laws : DialogueLaws) (known : Known) (number : ℕ) (transcript : List Carried) → FollowsTranscript number transcript known.core → AwaitsNoMore number transcript known.core
    → Awaits known number transcript (next_waiting_row known number)
next-few laws known number transcript has few =
    each-next (Awaits known number transcript) known number (record {
      none = λ no_cut. few;
      refused = λ terminal last wait condition first is no_cut. few;
      begins = λ terminal last wait asking at. asking-few (known_without known wait) number wait.till transcript terminal last (Some asking) at.first.found few (rests terminal last wait at.first);
      day = λ terminal last wait at no_cut.
          awaits known number (Commanded (day_command terminal.pt) known.moment ∷ transcript) terminal (asked_for_day known wait.till terminal last wait.header) at.first.found
          (within-command (stops_in transcript) terminal.awaited (rests terminal last wait at.first));
      left = λ terminal last wait first no_cut. few;
    })
  where
    rests : (terminal : Terminal) (last : ℕ) (wait : Wait) → WaitsFirst known number terminal last wait → IsFew transcript terminal
    rests terminal last wait first = ready-few laws known number transcript terminal last (carried-there known number transcript terminal has first.found) few first.standing_is

-- ---- rows that send no command

quiet-few : (known : Known) (number : ℕ) (transcript : List Carried) (row : Row) → IsQuiet known row → AwaitsNoMore number transcript known.core
    → AwaitsNoMore number (commanded_by known.moment row.calls ++ ([] ++ transcript)) row.core
quiet-few known number transcript row quiet few =
    subst (λ (core : Core). AwaitsNoMore number (commanded_by known.moment row.calls ++ transcript) core) (sym quiet.core_is)
    (subst (λ (sent : List Carried). AwaitsNoMore number (sent ++ transcript) known.core) (sym quiet.none) few)

-- ---- links

lost-few : (known : Known) (number : ℕ) (terminal : Terminal) → terminal_at known number ≡ Some terminal → AwaitsNoMore number [] (link_lost known number).core
lost-few known number terminal found =
    subst (λ (o : Option Terminal). AwaitsNoMore number [] (of_terminal known (unlinks known number) o).core) (sym found)
    (awaits known number [] terminal (unlinked_terminal terminal known.moment) found (within-none 0 0))

lost-begins : (known : Known) (number : ℕ) (terminal : Terminal) → terminal_at known number ≡ Some terminal → AwaitsNoMore number (commanded_by known.moment (link_lost known number).calls) (link_lost known number).core
lost-begins known number terminal found = subst (λ (sent : List Carried). AwaitsNoMore number sent (link_lost known number).core) (sym (lost-quiet known number)) (lost-few known number terminal found)

made-begins : (known : Known) (number : ℕ) (terminal : Terminal) → terminal_at known number ≡ Some terminal → AwaitsNoMore number (commanded_by known.moment (link_made known number).calls) (link_made known number).core
made-begins known number terminal found =
    subst (λ (o : Option Terminal). AwaitsNoMore number (commanded_by known.moment (of_terminal known (registers known number) o).calls) (of_terminal known (registers known number) o).core) (sym found)
    (awaits known number (Commanded (registration terminal.pt) known.moment ∷ []) terminal (after_command (record terminal { awaited = 0 }) (registration terminal.pt) Registering known.moment) found (within-command 0 0 (within-none 0 0)))

pub links-await : EachLinkAwaitsNoMore
links-await known number LinkIsMade terminal found = made-begins known number terminal found
links-await known number LinkHasFailed terminal found = lost-begins known number terminal found
links-await known number LinkIsLost terminal found = lost-begins known number terminal found

-- ---- the rows

pub rows-await : DialogueLaws → EachRowAwaitsNoMore
rows-await laws known (Crowded till) number transcript is has few no_cut = absurd cc
rows-await laws known (Message till bytes) number transcript is has few no_cut = absurd cc
rows-await laws known (Asked till as_read) number transcript is has few no_cut = absurd cc
rows-await laws known (Unframed till) number transcript is has few no_cut = absurd cc
rows-await laws known (Gone till) number transcript is has few no_cut = absurd cc
rows-await laws known (Greet pt apdu) number transcript is has few no_cut = quiet-few known number transcript (greet_row known pt apdu) (greet-quiet known pt (decode_pt_message apdu)) few
rows-await laws known (Handle pt apdu) number transcript is has few no_cut =
    let e : pt ≡ number = cc in
    subst (λ (n : ℕ). FollowsTranscript n transcript known.core → AwaitsNoMore n transcript known.core → AwaitsNoMore n (commanded_by known.moment (handle_row known pt apdu).calls ++ (took_by known (Handle pt apdu) ++ transcript)) (handle_row known pt apdu).core) e
    (λ there less. handle-few laws known pt apdu transcript there less no_cut) has few
rows-await laws known (Serve pt till header request) number transcript is has few no_cut =
    let e : pt ≡ number = cc in
    subst (λ (n : ℕ). FollowsTranscript n transcript known.core → AwaitsNoMore n transcript known.core → AwaitsNoMore n (commanded_by known.moment (serve_row known pt till header request).calls ++ (wished_for known pt header request ++ transcript)) (serve_row known pt till header request).core) e
    (λ there less. serve-few laws known pt till header request transcript there less no_cut) has few
rows-await laws known (Queue pt till header request) number transcript is has few no_cut = absurd cc
rows-await laws known (NextWaiting pt) number transcript is has few no_cut =
    let e : pt ≡ number = cc in
    subst (λ (n : ℕ). FollowsTranscript n transcript known.core → AwaitsNoMore n transcript known.core → AwaitsNoMore n (commanded_by known.moment (next_waiting_row known pt).calls ++ ([] ++ transcript)) (next_waiting_row known pt).core) e
    (λ there less. next-few laws known pt transcript there less no_cut) has few
rows-await laws known (Oversized pt) number transcript is has few no_cut =
    quiet-few known number transcript (oversized_row known pt)
    (each-linked (IsQuiet known) known pt (λ terminal. cutting known pt) (record { core_is = refl; none = refl }) (λ terminal found linked. record { core_is = refl; none = refl })) few
rows-await laws known (LinkLost pt) number transcript is has few no_cut =
    let e : pt ≡ number = cc in
    subst (λ (n : ℕ). AwaitsNoMore n [] (link_lost known pt).core) e (lost-few known pt has.terminal (ap (terminal_at known) e ∙ has.found))
rows-await laws known (Late pt) number transcript is has few no_cut = quiet-few known number transcript (late_row known pt) (late-quiet known pt) few
rows-await laws known (Overdue key) number transcript is has few no_cut = absurd cc
rows-await laws known (Due pt) number transcript is has few no_cut = quiet-few known number transcript (due_row known pt) (due-quiet known pt) few

-- ---- along a run

-- another terminal awaits what it did
others-await : (number other : ℕ) (transcript : List Carried) (old new : Core) → ChangesTerminalAlone number old new → other ≢ number → AwaitsNoMore other transcript old → AwaitsNoMore other transcript new
others-await number other transcript old new alone apart few terminal found = few terminal (sym (alone.others other apart) ∙ found)

-- a terminal without a link awaits nothing
lost-awaits : (known : Known) (number : ℕ) → AwaitsNoMore number [] (link_lost known number).core
lost-awaits known number = by-found (terminal_at known number) refl
  where
    by-found : (found : Option Terminal) → terminal_at known number ≡ found → AwaitsNoMore number [] (link_lost known number).core
    by-found None is = λ terminal there. let core_is : (link_lost known number).core ≡ known.core = ap (λ (o : Option Terminal). (of_terminal known (unlinks known number) o).core) is in
        let none : Some terminal ≡ None = sym there ∙ ap (λ (core : Core). slice_get core.terminals number) core_is ∙ is in absurd cc
    by-found (Some terminal) is = lost-few known number terminal is

-- after an item of another terminal, with its cut
other-item : (known : Known) (item : RoundItem) (other number : ℕ) (transcript : List Carried) → terminal_of item ≡ Some other → number ≢ other → AwaitsNoMore number transcript known.core
    → AwaitsNoMore number transcript (core_with_cut known (terminal_row known item) (Some other))
other-item known item other number transcript is apart few = by-cut (owes_cut (terminal_row known item).calls)
  where
    by-cut : (cuts : Bool) → AwaitsNoMore number transcript (if cuts then (link_row (record known { core = (terminal_row known item).core }) other LinkIsLost).core else (terminal_row known item).core)
    by-cut true =
        others-await other number transcript (terminal_row known item).core _ (link-changes-alone (record known { core = (terminal_row known item).core }) other LinkIsLost) apart
        (others-await other number transcript known.core (terminal_row known item).core (row-changes-alone known item other is) apart few)
    by-cut false = others-await other number transcript known.core (terminal_row known item).core (row-changes-alone known item other is) apart few

-- after an item of the terminal, with its cut
own-item : (laws : DialogueLaws) (known : Known) (item : RoundItem) (number : ℕ) (transcript : List Carried) → terminal_of item ≡ Some number → FollowsTranscript number transcript known.core → AwaitsNoMore number transcript known.core
    → AwaitsNoMore number (transcript_with_cut known item transcript) (core_with_cut known (terminal_row known item) (Some number))
own-item laws known item number transcript is has few = by-cut (owes_cut (terminal_row known item).calls) refl
  where
    by-cut : (cuts : Bool) → owes_cut (terminal_row known item).calls ≡ cuts
        → AwaitsNoMore number (if cuts then [] else transcript_after known item transcript) (if cuts then (link_row (record known { core = (terminal_row known item).core }) number LinkIsLost).core else (terminal_row known item).core)
    by-cut true cuts = lost-awaits (record known { core = (terminal_row known item).core }) number
    by-cut false cuts = rows-await laws known item number transcript is has few cuts

item-awaits : (laws : DialogueLaws) (known : Known) (item : RoundItem) (number : ℕ) (transcript : List Carried) → FollowsTranscript number transcript known.core → AwaitsNoMore number transcript known.core
    → AwaitsNoMore number (transcript_after_step number known (HandlesItem item) transcript) (core_after known (HandlesItem item))
item-awaits laws known item number transcript has few = by-terminal (terminal_of item) refl
  where
    by-number : (other : ℕ) (same : Bool) → eqb other number ≡ same → terminal_of item ≡ Some other
        → AwaitsNoMore number (if same then transcript_with_cut known item transcript else transcript) (core_with_cut known (terminal_row known item) (Some other))
    by-number other true e is =
        let same : number ≡ other = sym (eqb-true other number e) in
        subst (λ (n : ℕ). AwaitsNoMore number (transcript_with_cut known item transcript) (core_with_cut known (terminal_row known item) (Some n))) same
        (own-item laws known item number transcript (is ∙ ap (λ (n : ℕ). Some n) (sym same)) has few)
    by-number other false e is = other-item known item other number transcript is (λ same. eqb-false other number e (sym same)) few

    by-terminal : (of : Option ℕ) → terminal_of item ≡ of
        → AwaitsNoMore number (if is_number number of then transcript_with_cut known item transcript else transcript) (core_with_cut known (terminal_row known item) of)
    by-terminal None is = subst (AwaitsNoMore number transcript) (sym (none-same known item is)) few
    by-terminal (Some other) is = by-number other (eqb other number) refl is

link-awaits : (known : Known) (other : ℕ) (event : LinkEvent) (number : ℕ) (transcript : List Carried) → FollowsTranscript number transcript known.core → AwaitsNoMore number transcript known.core
    → AwaitsNoMore number (transcript_after_step number known (ChangesLink other event) transcript) (core_after known (ChangesLink other event))
link-awaits known other event number transcript has few = by-number (eqb other number) refl
  where
    by-number : (same : Bool) → eqb other number ≡ same → AwaitsNoMore number (if same then transcript_anew known other event else transcript) (link_row known other event).core
    by-number true e =
        let same : other ≡ number = eqb-true other number e in
        subst (λ (n : ℕ). AwaitsNoMore n (transcript_anew known other event) (link_row known other event).core) same
        (links-await known other event has.terminal (ap (terminal_at known) same ∙ has.found))
    by-number false e = others-await other number transcript known.core (link_row known other event).core (link-changes-alone known other event) (λ same. eqb-false other number e (sym same)) few

step-awaits : (laws : DialogueLaws) (known : Known) (step : TerminalStep) (number : ℕ) (transcript : List Carried) → FollowsTranscript number transcript known.core → AwaitsNoMore number transcript known.core
    → AwaitsNoMore number (transcript_after_step number known step transcript) (core_after known step)
step-awaits laws known (HandlesItem item) number transcript has few = item-awaits laws known item number transcript has few
step-awaits laws known (ChangesLink other event) number transcript has few = link-awaits known other event number transcript has few
step-awaits laws known (ChangesWaits waits) number transcript has few = few

along-awaits : (laws : DialogueLaws) (known : Known) (steps : List StepAt) (number : ℕ) (transcript : List Carried) → FollowsTranscript number transcript known.core → AwaitsNoMore number transcript known.core
    → AwaitsNoMore number (transcript_along number known transcript steps) (core_along known steps)
along-awaits laws known [] number transcript has few = few
along-awaits laws known (first ∷ rest) number transcript has few =
    along-awaits laws (known_after known first) rest number (transcript_after_step number (known_before known first) first.step transcript)
    (step-follows laws (known_before known first) first.step number transcript has)
    (step-awaits laws (known_before known first) first.step number transcript has few)

-- as a run begins nothing is awaited
new-awaits : (pts : List Pt) (number : ℕ) (terminal : Terminal) → slice_get (map new_terminal pts) number ≡ Some terminal → AwaitsWithin 0 (unacknowledged terminal.talk) terminal.awaited
new-awaits [] number terminal found = absurd cc
new-awaits (first ∷ pts) zero terminal found = subst (λ (t : Terminal). AwaitsWithin 0 (unacknowledged t.talk) t.awaited) (same-some (new_terminal first) terminal found) (within-none 0 0)
new-awaits (first ∷ pts) (suc number) terminal found = new-awaits pts number terminal found

pub steps-await : DialogueLaws → EachStepAwaitsNoMore
steps-await laws setup kept steps number pt found =
    along-awaits laws (known_new setup kept) steps number [] (new-follows setup number pt found)
    (λ terminal there. new-awaits setup.terminals number terminal there)

-- ---- without a stop

-- where at most one is awaited a message is handed on as it came
one-as-came : (awaited : ℕ) (message : MessageValue) → awaited ≤ 1 → taken_as awaited message ≡ message
one-as-came awaited Ack few = refl
one-as-came zero (Nack error_code) few = refl
one-as-came (suc zero) (Nack error_code) few = refl
one-as-came (suc (suc awaited)) (Nack error_code) few = absurd (omega (arith, few))
one-as-came awaited (Intermediate intermediate_status) few = refl
one-as-came awaited (Line text) few = refl
one-as-came awaited (Block objects) few = refl
one-as-came awaited (Status fields) few = refl
one-as-came awaited Completion few = refl
one-as-came awaited (Abort result_code) few = refl
one-as-came awaited Other few = refl

-- a refusal before the command is acknowledged declines
refusal-declines : (dialogue_kind : DialogueKind) (stop_wished : Bool) (error_code : ℕ) → 1 ≤ error_code → meaning_when_asked dialogue_kind stop_wished (Nack error_code) ≡ heard.Declined error_code None
refusal-declines dialogue_kind stop_wished error_code above = by-code (eqb error_code 0) refl
  where
    by-code : (none : Bool) → eqb error_code 0 ≡ none → (if none then heard.Unclear else heard.Declined error_code None) ≡ heard.Declined error_code None
    by-code true is = let none : error_code ≡ 0 = eqb-true error_code 0 is in absurd (omega (arith, above, none))
    by-code false is = refl

one-is-handed : (terminal : Terminal) → terminal.awaited ≤ 1 → IsHandedItsOwn terminal
one-is-handed terminal few = record {
  as_came = λ message. one-as-came terminal.awaited message few;
  declines = λ talk stop_wished error_code runs asked above.
      ap (λ (m : MessageValue). meaning_for terminal.talk m) (one-as-came terminal.awaited (Nack error_code) few)
      ∙ ap (λ (t : Option TalkFacts). meaning_for t (Nack error_code)) runs
      ∙ ap (λ (p : Phase). meaning_in_phase talk.dialogue_kind talk.none p (Nack error_code)) asked
      ∙ refusal-declines talk.dialogue_kind stop_wished error_code above;
}

pub unstopped-is-handed : DialogueLaws → EachUnstoppedIsHandedItsOwn
unstopped-is-handed laws setup kept steps number pt terminal found none there =
    let beside = AwaitsWithin.one_beside (steps-await laws setup kept steps number pt found terminal there) in
    one-is-handed terminal (omega (arith, beside, none))

-- ---- the example

pub awaited-of-stops : ExampleAwaitedOfStops
unfolding decode_pt_message decode_status decode_status_within decode_status_field decode_field_value history
awaited-of-stops = record { unstopped = refl; unstopped_awaits = refl; declined = refl; stopped = refl; stopped_awaits = refl; unclear = refl }
