-- What a message of a terminal leaves and owes, in each of its standings.
use Rattle.std.proofs.Common.{◌≡◌, ◌≢◌, ◌≤◌, ◌⊎◌, ℕ, List, [], ◌∷◌, ◌++◌, refl, sym, ◌∙◌, ap, subst, inl, inr, Bool, true, false}
use Rattle.std.proofs.lemmas.Bool.{le-leb}
use Rattle.std.specs.Prelude.{length, nat_le, nat_lt, unwrap_or, option_and_then, option_map, Option, Some, None, Result, Ok, Err, if◌then◌else◌}
use Rattle.gw_base.specs.declared.figures.Figures.{Figures}
use Rattle.gw_base.specs.declared.key.Key.{Key}
use Rattle.sale_reply.specs.declared.reply.Shown.{Shown}
use Rattle.sale_values.specs.declared.header.Header.{Header}
use Rattle.zvt_apdu.specs.Grammar.{ApduValue}
use Rattle.zvt_msg.specs.declared.fault.PtFault.{PtFault}
use Rattle.zvt_msg.specs.Message.{MessageValue, Ack, Nack, Intermediate, Line, Block, Status, Completion, Abort, Other}
use Rattle.zvt_msg.specs.MessageDecode.{decode_pt_message}
use Rattle.zvt_talk.specs.declared.meaning.Heard.{Heard}
use Rattle.zvt_talk.specs.declared.meaning.Heard.TheVariants as heard
use Rattle.zvt_talk.specs.declared.phase.Phase.{Phase}
use Rattle.zvt_talk.specs.declared.phase.Phase.TheVariants.{Asked, Begun, Ended}
use Rattle.zvt_talk.specs.Came.{is_taken}
use Rattle.zvt_talk.specs.Laws.{IsAckOrNack}
use Rattle.zvt_talk.specs.Talk.{TalkFacts}
use Rattle.zvt_talk.specs.TalkSteps.{meaning_in_phase}
use Rattle.jrn_record.specs.declared.records.How.TheVariants as hows
use Rattle.jrn_record.specs.declared.records.Outcome.{Outcome as TheOutcome}
use Rattle.jrn_record.specs.declared.records.Record.{Record}
use Rattle.jrn_record.specs.declared.records.Record.TheVariants.{Outcome, Settled}
use Rattle.gw_ledger.specs.declared.entry.Entry.{Entry as TheEntry}
use Rattle.gw_owes.specs.Awaited.{most_awaited, many_more}
use Rattle.gw_owes.specs.Calls.{OwedCall, SendPt, CutPt, Ask, keep_calls}
use Rattle.gw_owes.specs.DeviceRequests.{key_of_service, key_served, device_request_of, device_request_in, requests_device}
use Rattle.gw_owes.specs.Displays.{serving_display}
use Rattle.gw_owes.specs.Reconciliations.{settled_of, reply_to_settled, serving_day}
use Rattle.gw_owes.specs.Reply.{ReplyValue}
use Rattle.gw_owes.specs.declared.terminal.Service.{Service}
use Rattle.gw_owes.specs.declared.terminal.Service.TheVariants.{Transaction, EndOfDay, Display}
use Rattle.gw_owes.specs.declared.terminal.Standing.{Standing}
use Rattle.gw_owes.specs.declared.terminal.Standing.TheVariants.{Unlinked, Registering, Enquiring, Ready, Serving, Aside}
use Rattle.gw_owes.specs.declared.terminal.Terminal.{Terminal}
use Rattle.gw_owes.specs.Row.{Known, Row, owing_nothing, owing_where}
use Rattle.gw_owes.specs.Terminals.{terminal_at, of_terminal, terminal_becomes, reply_calls_to}
use Rattle.gw_owes.specs.Links.{is_linked, of_linked}
use Rattle.gw_owes.specs.Reports.{Report, on_record, standing_reported, outcome_reported, report_of_open, report_against, report_row}
use Rattle.gw_owes.specs.Serving.{at_rest, staying, breaking, stops, approved_outcome, declined_outcome, was_stopped, reply_to_outcome, done_with, resolves, approved_row, last_after_decline, declined_row, serving_transaction}
use Rattle.gw_owes.specs.Handling.{awaited_after, taken_as, meaning_for, meaning_at, taking, enquiry_command, enquires, registering, enquiring, serving, consequence, taken_row, handle_message, handle_decoded, handle_row}
use Rattle.gw_owes.specs.Laws.{ends_in_one, EndsInOne}
use Rattle.gw_owes.specs.TerminalLaws.{ChangesTerminalAlone, HasNoEffect, TakesOne, EachAckTakesOne, commands_in, Awaits, owes_cut, IsBeforeReady, BreaksDialogue, HasDialogueOnlyIn, IsLinkedAt, GoesOnTo, ReportsAt, EnquiredIsReady}
use Rattle.gw_owes.proofs.CountLemmas.{less-suc, less-most, two-most}
use Rattle.gw_owes.proofs.RowLemmas.{reply-ends, reply-commands, reply-no-cut}
use Rattle.gw_owes.proofs.SetLemmas.{new-is-there, same-some, alone-same, alone-set}

-- ---- rows of a terminal that is linked

-- what holds of nothing owed, and of a row where it holds, holds of the row where it holds
pub by-where : (P : Row → Type 0) (known : Known) (row : Row) (holds : Bool) → P (owing_nothing known) → (holds ≡ true → P row) → P (owing_where holds known row)
by-where P known row true none some = some refl
by-where P known row false none some = none

by-terminal : (P : Row → Type 0) (known : Known) (row : Terminal → Row) (found : Option Terminal) → P (owing_nothing known) → ((terminal : Terminal) → found ≡ Some terminal → P (row terminal)) → P (of_terminal known row found)
by-terminal P known row None none some = none
by-terminal P known row (Some terminal) none some = some terminal refl

-- what holds of nothing owed, and of the row of each terminal, holds of the row where there is a terminal
pub each-terminal : (P : Row → Type 0) (known : Known) (number : ℕ) (row : Terminal → Row) → P (owing_nothing known)
    → ((terminal : Terminal) → terminal_at known number ≡ Some terminal → P (row terminal)) → P (of_terminal known row (terminal_at known number))
each-terminal P known number row none some = by-terminal P known row (terminal_at known number) none some

-- what holds of nothing owed, and of the row of each terminal that is linked, holds of the row where it is linked
pub each-linked : (P : Row → Type 0) (known : Known) (number : ℕ) (row : Terminal → Row) → P (owing_nothing known)
    → ((terminal : Terminal) → terminal_at known number ≡ Some terminal → is_linked terminal.standing ≡ true → P (row terminal)) → P (of_linked known number row)
each-linked P known number row none some =
    each-terminal P known number (λ terminal. owing_where (is_linked terminal.standing) known (row terminal)) none
    (λ terminal found. by-where P known (row terminal) (is_linked terminal.standing) none (some terminal found))

-- the row of a terminal that is linked
pub linked-row : (known : Known) (number : ℕ) (row : Terminal → Row) (terminal : Terminal) → terminal_at known number ≡ Some terminal → is_linked terminal.standing ≡ true → of_linked known number row ≡ row terminal
linked-row known number row terminal found linked = rw (found, linked) refl

-- ---- what a terminal becomes

-- the terminal becomes another with its settings, which awaits one Ack or Nack more for each command of the calls, and these end in one
pub record Becomes (known : Known) (number : ℕ) (old : Terminal) (row : Row) : Type 0 where
  pub new : Terminal
  pub calls : List OwedCall
  pub row_is : row ≡ terminal_becomes known number new calls
  pub settings : new.pt ≡ old.pt
  pub awaited : new.awaited ≡ many_more (commands_in calls) old.awaited
  pub ends : ends_in_one calls ≡ true

stays : (known : Known) (number : ℕ) (terminal : Terminal) → Becomes known number terminal (staying known number terminal)
stays known number terminal = record { new = terminal; calls = []; row_is = refl; settings = refl; awaited = refl; ends = refl }

breaks : (known : Known) (number : ℕ) (terminal : Terminal) → Becomes known number terminal (breaking known number terminal)
breaks known number terminal = record { new = terminal; calls = CutPt number ∷ []; row_is = refl; settings = refl; awaited = refl; ends = refl }

becomes-enquired : (known : Known) (number : ℕ) (terminal : Terminal) → Becomes known number terminal (enquires known number terminal)
becomes-enquired known number terminal = record { new = _; calls = SendPt number (Ask (enquiry_command terminal.pt)) ∷ []; row_is = refl; settings = refl; awaited = refl; ends = refl }

becomes-stopped : (known : Known) (number : ℕ) (terminal : Terminal) → Becomes known number terminal (stops known number terminal)
becomes-stopped known number terminal = record { new = _; calls = _; row_is = refl; settings = refl; awaited = refl; ends = refl }

-- nothing is owed, and the terminal has another standing without a dialogue
becomes-at-rest : (known : Known) (number : ℕ) (terminal : Terminal) (standing : Standing) → Becomes known number terminal (terminal_becomes known number (at_rest terminal standing) [])
becomes-at-rest known number terminal standing = record { new = at_rest terminal standing; calls = []; row_is = refl; settings = refl; awaited = refl; ends = refl }

-- the terminal is done and its till gets a reply
becomes-replied : (known : Known) (number : ℕ) (terminal : Terminal) (standing : Standing) (reply : Option ReplyValue)
    → Becomes known number terminal (terminal_becomes known number (done_with terminal standing) (reply_calls_to terminal.asker reply))
becomes-replied known number terminal standing reply = record {
  new = done_with terminal standing;
  calls = _;
  row_is = refl;
  settings = refl;
  awaited = ap (λ (n : ℕ). many_more n terminal.awaited) (sym (reply-commands terminal.asker reply));
  ends = reply-ends terminal.asker reply;
}

-- so it is where a record is kept before
becomes-kept : (known : Known) (number : ℕ) (terminal : Terminal) (standing : Standing) (slot : ℕ) (the_record : Record) (reply : Option ReplyValue)
    → Becomes known number terminal (terminal_becomes known number (done_with terminal standing) (keep_calls slot the_record ++ reply_calls_to terminal.asker reply))
becomes-kept known number terminal standing slot the_record reply = record {
  new = done_with terminal standing;
  calls = _;
  row_is = refl;
  settings = refl;
  awaited = ap (λ (n : ℕ). many_more n terminal.awaited) (sym (reply-commands terminal.asker reply));
  ends = reply-ends terminal.asker reply;
}

becomes-resolved : (known : Known) (number : ℕ) (terminal : Terminal) (standing : Standing) (outcome : TheOutcome) → Becomes known number terminal (resolves known number terminal standing outcome)
becomes-resolved known number terminal standing outcome = becomes-kept known number terminal standing (length known.kept) (Outcome outcome) (reply_to_outcome known.kept outcome.slot outcome)

-- a report while something is open resolves it, or sets the terminal aside
becomes-by-open : (known : Known) (number : ℕ) (terminal : Terminal) (report : Report) (entry : TheEntry) → Becomes known number terminal (report_of_open known number terminal report entry)
becomes-by-open known number terminal report entry = by-number (nat_le entry.intent.before report.trace)
  where
    by-number : (least : Bool) → Becomes known number terminal (if least then resolves known number terminal (Ready report.trace) (outcome_reported entry report known.moment) else terminal_becomes known number (at_rest terminal (Aside entry.intent.before report.trace)) [])
    by-number true = becomes-resolved known number terminal (Ready report.trace) (outcome_reported entry report known.moment)
    by-number false = becomes-at-rest known number terminal (Aside entry.intent.before report.trace)

becomes-reported : (known : Known) (number : ℕ) (terminal : Terminal) (opened : Option TheEntry) (last : ℕ) (report : Report) → Becomes known number terminal (report_against opened last known number terminal report)
becomes-reported known number terminal None last report = becomes-at-rest known number terminal (standing_reported last report.trace)
becomes-reported known number terminal (Some entry) last report = becomes-by-open known number terminal report entry

becomes-approved : (known : Known) (number : ℕ) (terminal : Terminal) (slot last : ℕ) (figures : Figures) → Becomes known number terminal (approved_row known number terminal slot last figures)
becomes-approved known number terminal slot last figures = by-number (nat_lt last figures.number)
  where
    by-number : (above : Bool) → Becomes known number terminal (if above then resolves known number terminal (Ready figures.number) (approved_outcome slot figures known.moment) else terminal_becomes known number (at_rest terminal (Aside last figures.number)) [])
    by-number true = becomes-resolved known number terminal (Ready figures.number) (approved_outcome slot figures known.moment)
    by-number false = becomes-at-rest known number terminal (Aside last figures.number)

becomes-declined : (known : Known) (number : ℕ) (terminal : Terminal) (slot last result_code : ℕ) (reported : Option ℕ) → Becomes known number terminal (declined_row known number terminal slot last result_code reported)
becomes-declined known number terminal slot last result_code reported =
    becomes-resolved known number terminal (Ready (last_after_decline last reported)) (declined_outcome slot result_code (was_stopped terminal.talk) known.moment)

registering-becomes : (known : Known) (number : ℕ) (terminal : Terminal) (meant : Heard) → Becomes known number terminal (registering known number terminal meant)
registering-becomes known number terminal (heard.Begun stop) = stays known number terminal
registering-becomes known number terminal (heard.Note intermediate_status) = stays known number terminal
registering-becomes known number terminal heard.Line = stays known number terminal
registering-becomes known number terminal heard.Block = stays known number terminal
registering-becomes known number terminal heard.Seen = stays known number terminal
registering-becomes known number terminal (heard.Approved figures) = stays known number terminal
registering-becomes known number terminal heard.Done = becomes-enquired known number terminal
registering-becomes known number terminal (heard.Told reported approved result_code) = stays known number terminal
registering-becomes known number terminal (heard.Declined result_code reported) = breaks known number terminal
registering-becomes known number terminal heard.Unclear = breaks known number terminal
registering-becomes known number terminal heard.Stray = stays known number terminal

enquiring-becomes : (known : Known) (number : ℕ) (terminal : Terminal) (meant : Heard) → Becomes known number terminal (enquiring known number terminal meant)
enquiring-becomes known number terminal (heard.Begun stop) = stays known number terminal
enquiring-becomes known number terminal (heard.Note intermediate_status) = stays known number terminal
enquiring-becomes known number terminal heard.Line = stays known number terminal
enquiring-becomes known number terminal heard.Block = stays known number terminal
enquiring-becomes known number terminal heard.Seen = stays known number terminal
enquiring-becomes known number terminal (heard.Approved figures) = stays known number terminal
enquiring-becomes known number terminal heard.Done = stays known number terminal
enquiring-becomes known number terminal (heard.Told trace approved result_code) =
    becomes-reported known number terminal (on_record known.kept terminal.pt.poi).opened (on_record known.kept terminal.pt.poi).last (record { trace = trace; approved = approved; result_code = result_code })
enquiring-becomes known number terminal (heard.Declined result_code reported) = breaks known number terminal
enquiring-becomes known number terminal heard.Unclear = breaks known number terminal
enquiring-becomes known number terminal heard.Stray = stays known number terminal

day-becomes : (known : Known) (number : ℕ) (terminal : Terminal) (last : ℕ) (header : Header) (meant : Heard) → Becomes known number terminal (serving_day known number terminal last header meant)
day-becomes known number terminal last header (heard.Begun true) = becomes-stopped known number terminal
day-becomes known number terminal last header (heard.Begun false) = stays known number terminal
day-becomes known number terminal last header (heard.Note intermediate_status) = stays known number terminal
day-becomes known number terminal last header heard.Line = stays known number terminal
day-becomes known number terminal last header heard.Block = stays known number terminal
day-becomes known number terminal last header heard.Seen = stays known number terminal
day-becomes known number terminal last header (heard.Approved figures) = stays known number terminal
day-becomes known number terminal last header heard.Done = becomes-kept known number terminal (Ready last) (length known.kept) (Settled (settled_of hows.Acquirer header terminal.pt.currency known.moment)) (reply_to_settled known.kept (settled_of hows.Acquirer header terminal.pt.currency known.moment))
day-becomes known number terminal last header (heard.Told reported approved result_code) = stays known number terminal
day-becomes known number terminal last header (heard.Declined result_code reported) = becomes-replied known number terminal (Ready last) _
day-becomes known number terminal last header heard.Unclear = breaks known number terminal
day-becomes known number terminal last header heard.Stray = stays known number terminal

display-becomes : (known : Known) (number : ℕ) (terminal : Terminal) (last : ℕ) (header : Header) (results : Option (List Shown)) (meant : Heard) → Becomes known number terminal (serving_display known number terminal last header results meant)
display-becomes known number terminal last header results (heard.Begun stop) = stays known number terminal
display-becomes known number terminal last header results (heard.Note intermediate_status) = stays known number terminal
display-becomes known number terminal last header results heard.Line = stays known number terminal
display-becomes known number terminal last header results heard.Block = stays known number terminal
display-becomes known number terminal last header results heard.Seen = stays known number terminal
display-becomes known number terminal last header results (heard.Approved figures) = stays known number terminal
display-becomes known number terminal last header results heard.Done = becomes-replied known number terminal (Ready last) _
display-becomes known number terminal last header results (heard.Told reported approved result_code) = stays known number terminal
display-becomes known number terminal last header results (heard.Declined result_code reported) = becomes-replied known number terminal (Ready last) _
display-becomes known number terminal last header results heard.Unclear = breaks known number terminal
display-becomes known number terminal last header results heard.Stray = stays known number terminal

transaction-becomes : (known : Known) (number : ℕ) (terminal : Terminal) (slot last : ℕ) (meant : Heard) → Becomes known number terminal (serving_transaction known number terminal slot last meant)
transaction-becomes known number terminal slot last (heard.Begun true) = becomes-stopped known number terminal
transaction-becomes known number terminal slot last (heard.Begun false) = stays known number terminal
transaction-becomes known number terminal slot last (heard.Note intermediate_status) = stays known number terminal
transaction-becomes known number terminal slot last heard.Line = stays known number terminal
transaction-becomes known number terminal slot last heard.Block = stays known number terminal
transaction-becomes known number terminal slot last heard.Seen = stays known number terminal
transaction-becomes known number terminal slot last (heard.Approved figures) = becomes-approved known number terminal slot last figures
transaction-becomes known number terminal slot last heard.Done = stays known number terminal
transaction-becomes known number terminal slot last (heard.Told reported approved result_code) = stays known number terminal
transaction-becomes known number terminal slot last (heard.Declined result_code reported) = becomes-declined known number terminal slot last result_code reported
transaction-becomes known number terminal slot last heard.Unclear = breaks known number terminal
transaction-becomes known number terminal slot last heard.Stray = stays known number terminal

serving-becomes : (known : Known) (number : ℕ) (terminal : Terminal) (service : Service) (last : ℕ) (meant : Heard) → Becomes known number terminal (serving known number terminal service last meant)
serving-becomes known number terminal (Transaction slot) last meant = transaction-becomes known number terminal slot last meant
serving-becomes known number terminal (EndOfDay header period) last meant = day-becomes known number terminal last header meant
serving-becomes known number terminal (Display header results) last meant = display-becomes known number terminal last header results meant

pub consequence-becomes : (known : Known) (number : ℕ) (terminal : Terminal) (meant : Heard) (standing : Standing) → is_linked standing ≡ true → Becomes known number terminal (consequence known number terminal meant standing)
consequence-becomes known number terminal meant (Unlinked due) linked = absurd cc
consequence-becomes known number terminal meant Registering linked = registering-becomes known number terminal meant
consequence-becomes known number terminal meant Enquiring linked = enquiring-becomes known number terminal meant
consequence-becomes known number terminal meant (Ready last) linked = stays known number terminal
consequence-becomes known number terminal meant (Serving service last) linked = serving-becomes known number terminal service last meant
consequence-becomes known number terminal meant (Aside before reported) linked = stays known number terminal

-- ---- why it is cut

-- an unclear end, or a declined registration or enquiry
abbrev BreaksBy : Heard → Standing → Type 0
BreaksBy meant standing = (meant ≡ heard.Unclear) ⊎ ((result_code : ℕ) × (trace : Option ℕ) × (meant ≡ heard.Declined result_code trace) × IsBeforeReady standing)

registering-breaks : (known : Known) (number : ℕ) (terminal : Terminal) (meant : Heard) → owes_cut (registering known number terminal meant).calls ≡ true → BreaksBy meant Registering
registering-breaks known number terminal (heard.Begun stop) cuts = absurd cc
registering-breaks known number terminal (heard.Note intermediate_status) cuts = absurd cc
registering-breaks known number terminal heard.Line cuts = absurd cc
registering-breaks known number terminal heard.Block cuts = absurd cc
registering-breaks known number terminal heard.Seen cuts = absurd cc
registering-breaks known number terminal (heard.Approved figures) cuts = absurd cc
registering-breaks known number terminal heard.Done cuts = absurd cc
registering-breaks known number terminal (heard.Told reported approved result_code) cuts = absurd cc
registering-breaks known number terminal (heard.Declined result_code reported) cuts = inr (result_code, reported, refl, inl refl)
registering-breaks known number terminal heard.Unclear cuts = inl refl
registering-breaks known number terminal heard.Stray cuts = absurd cc

contradicts : (cut : Bool) → cut ≡ false → cut ≡ true → ⊥
contradicts cut is_false is_true = let e : false ≡ true = sym is_false ∙ is_true in cc

open-no-cut : (known : Known) (number : ℕ) (terminal : Terminal) (report : Report) (entry : TheEntry) → owes_cut (report_of_open known number terminal report entry).calls ≡ false
open-no-cut known number terminal report entry = by-number (nat_le entry.intent.before report.trace)
  where
    by-number : (least : Bool) → owes_cut (if least then resolves known number terminal (Ready report.trace) (outcome_reported entry report known.moment) else terminal_becomes known number (at_rest terminal (Aside entry.intent.before report.trace)) []).calls ≡ false
    by-number true = reply-no-cut terminal.asker (reply_to_outcome known.kept (outcome_reported entry report known.moment).slot (outcome_reported entry report known.moment))
    by-number false = refl

-- a report cuts no connection
report-no-cut : (known : Known) (number : ℕ) (terminal : Terminal) (opened : Option TheEntry) (last : ℕ) (report : Report) → owes_cut (report_against opened last known number terminal report).calls ≡ false
report-no-cut known number terminal None last report = refl
report-no-cut known number terminal (Some entry) last report = open-no-cut known number terminal report entry

enquiring-breaks : (known : Known) (number : ℕ) (terminal : Terminal) (meant : Heard) → owes_cut (enquiring known number terminal meant).calls ≡ true → BreaksBy meant Enquiring
enquiring-breaks known number terminal (heard.Begun stop) cuts = absurd cc
enquiring-breaks known number terminal (heard.Note intermediate_status) cuts = absurd cc
enquiring-breaks known number terminal heard.Line cuts = absurd cc
enquiring-breaks known number terminal heard.Block cuts = absurd cc
enquiring-breaks known number terminal heard.Seen cuts = absurd cc
enquiring-breaks known number terminal (heard.Approved figures) cuts = absurd cc
enquiring-breaks known number terminal heard.Done cuts = absurd cc
enquiring-breaks known number terminal (heard.Told trace approved result_code) cuts =
    absurd (contradicts _ (report-no-cut known number terminal (on_record known.kept terminal.pt.poi).opened (on_record known.kept terminal.pt.poi).last (record { trace = trace; approved = approved; result_code = result_code })) cuts)
enquiring-breaks known number terminal (heard.Declined result_code reported) cuts = inr (result_code, reported, refl, inr refl)
enquiring-breaks known number terminal heard.Unclear cuts = inl refl
enquiring-breaks known number terminal heard.Stray cuts = absurd cc

approved-no-cut : (known : Known) (number : ℕ) (terminal : Terminal) (slot last : ℕ) (figures : Figures) → owes_cut (approved_row known number terminal slot last figures).calls ≡ false
approved-no-cut known number terminal slot last figures = by-number (nat_lt last figures.number)
  where
    by-number : (above : Bool) → owes_cut (if above then resolves known number terminal (Ready figures.number) (approved_outcome slot figures known.moment) else terminal_becomes known number (at_rest terminal (Aside last figures.number)) []).calls ≡ false
    by-number true = reply-no-cut terminal.asker (reply_to_outcome known.kept slot (approved_outcome slot figures known.moment))
    by-number false = refl

day-breaks : (known : Known) (number : ℕ) (terminal : Terminal) (last : ℕ) (header : Header) (meant : Heard) (standing : Standing) → owes_cut (serving_day known number terminal last header meant).calls ≡ true → BreaksBy meant standing
day-breaks known number terminal last header (heard.Begun true) standing cuts = absurd cc
day-breaks known number terminal last header (heard.Begun false) standing cuts = absurd cc
day-breaks known number terminal last header (heard.Note intermediate_status) standing cuts = absurd cc
day-breaks known number terminal last header heard.Line standing cuts = absurd cc
day-breaks known number terminal last header heard.Block standing cuts = absurd cc
day-breaks known number terminal last header heard.Seen standing cuts = absurd cc
day-breaks known number terminal last header (heard.Approved figures) standing cuts = absurd cc
day-breaks known number terminal last header heard.Done standing cuts = absurd (contradicts _ (reply-no-cut terminal.asker _) cuts)
day-breaks known number terminal last header (heard.Told reported approved result_code) standing cuts = absurd cc
day-breaks known number terminal last header (heard.Declined result_code reported) standing cuts = absurd (contradicts _ (reply-no-cut terminal.asker _) cuts)
day-breaks known number terminal last header heard.Unclear standing cuts = inl refl
day-breaks known number terminal last header heard.Stray standing cuts = absurd cc

display-breaks : (known : Known) (number : ℕ) (terminal : Terminal) (last : ℕ) (header : Header) (results : Option (List Shown)) (meant : Heard) (standing : Standing) → owes_cut (serving_display known number terminal last header results meant).calls ≡ true → BreaksBy meant standing
display-breaks known number terminal last header results (heard.Begun stop) standing cuts = absurd cc
display-breaks known number terminal last header results (heard.Note intermediate_status) standing cuts = absurd cc
display-breaks known number terminal last header results heard.Line standing cuts = absurd cc
display-breaks known number terminal last header results heard.Block standing cuts = absurd cc
display-breaks known number terminal last header results heard.Seen standing cuts = absurd cc
display-breaks known number terminal last header results (heard.Approved figures) standing cuts = absurd cc
display-breaks known number terminal last header results heard.Done standing cuts = absurd (contradicts _ (reply-no-cut terminal.asker _) cuts)
display-breaks known number terminal last header results (heard.Told reported approved result_code) standing cuts = absurd cc
display-breaks known number terminal last header results (heard.Declined result_code reported) standing cuts = absurd (contradicts _ (reply-no-cut terminal.asker _) cuts)
display-breaks known number terminal last header results heard.Unclear standing cuts = inl refl
display-breaks known number terminal last header results heard.Stray standing cuts = absurd cc

transaction-breaks : (known : Known) (number : ℕ) (terminal : Terminal) (slot last : ℕ) (meant : Heard) (standing : Standing) → owes_cut (serving_transaction known number terminal slot last meant).calls ≡ true → BreaksBy meant standing
transaction-breaks known number terminal slot last (heard.Begun true) standing cuts = absurd cc
transaction-breaks known number terminal slot last (heard.Begun false) standing cuts = absurd cc
transaction-breaks known number terminal slot last (heard.Note intermediate_status) standing cuts = absurd cc
transaction-breaks known number terminal slot last heard.Line standing cuts = absurd cc
transaction-breaks known number terminal slot last heard.Block standing cuts = absurd cc
transaction-breaks known number terminal slot last heard.Seen standing cuts = absurd cc
transaction-breaks known number terminal slot last (heard.Approved figures) standing cuts = absurd (contradicts _ (approved-no-cut known number terminal slot last figures) cuts)
transaction-breaks known number terminal slot last heard.Done standing cuts = absurd cc
transaction-breaks known number terminal slot last (heard.Told reported approved result_code) standing cuts = absurd cc
transaction-breaks known number terminal slot last (heard.Declined result_code reported) standing cuts = absurd (contradicts _ (reply-no-cut terminal.asker _) cuts)
transaction-breaks known number terminal slot last heard.Unclear standing cuts = inl refl
transaction-breaks known number terminal slot last heard.Stray standing cuts = absurd cc

serving-breaks : (known : Known) (number : ℕ) (terminal : Terminal) (service : Service) (last : ℕ) (meant : Heard) (standing : Standing) → owes_cut (serving known number terminal service last meant).calls ≡ true → BreaksBy meant standing
serving-breaks known number terminal (Transaction slot) last meant standing cuts = transaction-breaks known number terminal slot last meant standing cuts
serving-breaks known number terminal (EndOfDay header period) last meant standing cuts = day-breaks known number terminal last header meant standing cuts
serving-breaks known number terminal (Display header results) last meant standing cuts = display-breaks known number terminal last header results meant standing cuts

consequence-breaks : (known : Known) (number : ℕ) (terminal : Terminal) (meant : Heard) (standing : Standing) → owes_cut (consequence known number terminal meant standing).calls ≡ true → BreaksBy meant standing
consequence-breaks known number terminal meant (Unlinked due) cuts = absurd cc
consequence-breaks known number terminal meant Registering cuts = registering-breaks known number terminal meant cuts
consequence-breaks known number terminal meant Enquiring cuts = enquiring-breaks known number terminal meant cuts
consequence-breaks known number terminal meant (Ready last) cuts = absurd cc
consequence-breaks known number terminal meant (Serving service last) cuts = serving-breaks known number terminal service last meant (Serving service last) cuts
consequence-breaks known number terminal meant (Aside before reported) cuts = absurd cc

-- ---- what is cut

registering-cut : (known : Known) (number : ℕ) (terminal : Terminal) (meant : Heard) → BreaksBy meant Registering → (registering known number terminal meant).calls ≡ CutPt number ∷ []
registering-cut known number terminal meant (inl is) = ap (λ m. (registering known number terminal m).calls) is
registering-cut known number terminal meant (inr (result_code, trace, is, before)) = ap (λ m. (registering known number terminal m).calls) is

enquiring-cut : (known : Known) (number : ℕ) (terminal : Terminal) (meant : Heard) → BreaksBy meant Enquiring → (enquiring known number terminal meant).calls ≡ CutPt number ∷ []
enquiring-cut known number terminal meant (inl is) = ap (λ m. (enquiring known number terminal m).calls) is
enquiring-cut known number terminal meant (inr (result_code, trace, is, before)) = ap (λ m. (enquiring known number terminal m).calls) is

not-before : (service : Service) (last : ℕ) → IsBeforeReady (Serving service last) → ⊥
not-before service last (inl is) = cc
not-before service last (inr is) = cc

unclear-cut : (known : Known) (number : ℕ) (terminal : Terminal) (service : Service) (last : ℕ) → (serving known number terminal service last heard.Unclear).calls ≡ CutPt number ∷ []
unclear-cut known number terminal (Transaction slot) last = refl
unclear-cut known number terminal (EndOfDay header period) last = refl
unclear-cut known number terminal (Display header results) last = refl

serving-cut : (known : Known) (number : ℕ) (terminal : Terminal) (meant : Heard) (service : Service) (last : ℕ) → BreaksBy meant (Serving service last) → (serving known number terminal service last meant).calls ≡ CutPt number ∷ []
serving-cut known number terminal meant service last (inl is) = ap (λ m. (serving known number terminal service last m).calls) is ∙ unclear-cut known number terminal service last
serving-cut known number terminal meant service last (inr (result_code, trace, is, before)) = absurd (not-before service last before)

-- what leaves a dialogue unclear means something
not-stray : (meant : Heard) (standing : Standing) → BreaksBy meant standing → meant ≢ heard.Stray
not-stray meant standing (inl is) e = cc
not-stray meant standing (inr (result_code, trace, is, before)) e = cc

-- where no dialogue runs a message means nothing
means-none : (terminal : Terminal) (message : MessageValue) → terminal.talk ≡ None → meaning_at terminal message ≡ heard.Stray
means-none terminal message none = ap (λ (talk : Option TalkFacts). meaning_for talk (taken_as terminal.awaited message)) none

consequence-cut : (known : Known) (number : ℕ) (terminal : Terminal) (meant : Heard) (standing : Standing) (talk : Option TalkFacts) → BreaksBy meant standing → HasDialogueOnlyIn standing talk → (talk ≡ None → meant ≡ heard.Stray)
    → (consequence known number terminal meant standing).calls ≡ CutPt number ∷ []
consequence-cut known number terminal meant (Unlinked due) talk breaks only none = absurd (not-stray meant (Unlinked due) breaks (none only))
consequence-cut known number terminal meant Registering talk breaks only none = registering-cut known number terminal meant breaks
consequence-cut known number terminal meant Enquiring talk breaks only none = enquiring-cut known number terminal meant breaks
consequence-cut known number terminal meant (Ready last) talk breaks only none = absurd (not-stray meant (Ready last) breaks (none only))
consequence-cut known number terminal meant (Serving service last) talk breaks only none = serving-cut known number terminal meant service last breaks
consequence-cut known number terminal meant (Aside before reported) talk breaks only none = absurd (not-stray meant (Aside before reported) breaks (none only))

-- ---- device requests

-- what a message means is shown or printed
abbrev pub IsShown : Heard → Type 0
IsShown (heard.Begun stop) = ⊥
IsShown (heard.Note intermediate_status) = Unit {0}
IsShown heard.Line = Unit {0}
IsShown heard.Block = Unit {0}
IsShown heard.Seen = ⊥
IsShown (heard.Approved figures) = ⊥
IsShown heard.Done = ⊥
IsShown (heard.Told reported approved result_code) = ⊥
IsShown (heard.Declined result_code reported) = ⊥
IsShown heard.Unclear = ⊥
IsShown heard.Stray = ⊥

-- why a message becomes a device request: the till of what is served is there, what is served has a key, and what the message means is shown or printed; nothing else follows from it
pub record RequestsDevice (known : Known) (number : ℕ) (terminal : Terminal) (meant : Heard) (message : MessageValue) : Type 0 where
  pub till : ℕ
  pub asker_is : terminal.asker ≡ Some till
  pub service : Service
  pub last : ℕ
  pub standing_is : terminal.standing ≡ Serving service last
  pub key : Key
  pub key_is : key_of_service known.kept service ≡ Some key
  pub is_shown : IsShown meant
  pub request : ReplyValue
  pub request_is : device_request_of meant message known.core.device_requests key ≡ Some request
  pub stays : consequence known number terminal meant terminal.standing ≡ staying known number terminal

-- what a device request is about: the key of what is served
record IsOfServed (kept : List Record) (standing : Standing) (request_for : Key → Option ReplyValue) (request : ReplyValue) : Type 0 where
  service : Service
  last : ℕ
  standing_is : standing ≡ Serving service last
  key : Key
  key_is : key_of_service kept service ≡ Some key
  request_is : request_for key ≡ Some request

of-served : (kept : List Record) (standing : Standing) (request_for : Key → Option ReplyValue) (request : ReplyValue) → option_and_then request_for (key_served kept standing) ≡ Some request
    → IsOfServed kept standing request_for request
of-served kept (Unlinked due) request_for request is = absurd cc
of-served kept Registering request_for request is = absurd cc
of-served kept Enquiring request_for request is = absurd cc
of-served kept (Ready last) request_for request is = absurd cc
of-served kept (Serving service last) request_for request is = by-key (key_of_service kept service) refl is
  where
    by-key : (found : Option Key) → key_of_service kept service ≡ found → option_and_then request_for found ≡ Some request → IsOfServed kept (Serving service last) request_for request
    by-key None key_is asks = absurd cc
    by-key (Some key) key_is asks = record { service = service; last = last; standing_is = refl; key = key; key_is = key_is; request_is = asks }
of-served kept (Aside before reported) request_for request is = absurd cc

-- only what is shown or printed becomes one
request-shown : (meant : Heard) (message : MessageValue) (number : ℕ) (key : Key) (request : ReplyValue) → device_request_of meant message number key ≡ Some request → IsShown meant
request-shown (heard.Begun stop) message number key request is = absurd cc
request-shown (heard.Note intermediate_status) message number key request is = tt
request-shown heard.Line message number key request is = tt
request-shown heard.Block message number key request is = tt
request-shown heard.Seen message number key request is = absurd cc
request-shown (heard.Approved figures) message number key request is = absurd cc
request-shown heard.Done message number key request is = absurd cc
request-shown (heard.Told reported approved result_code) message number key request is = absurd cc
request-shown (heard.Declined result_code reported) message number key request is = absurd cc
request-shown heard.Unclear message number key request is = absurd cc
request-shown heard.Stray message number key request is = absurd cc

-- what is the same for each meaning that is shown
by-shown : (follows : Heard → Row) (row : Row) → ((intermediate_status : ℕ) → follows (heard.Note intermediate_status) ≡ row) → follows heard.Line ≡ row → follows heard.Block ≡ row → (meant : Heard) → IsShown meant → follows meant ≡ row
by-shown follows row note line block (heard.Begun stop) is_shown = absurd is_shown
by-shown follows row note line block (heard.Note intermediate_status) is_shown = note intermediate_status
by-shown follows row note line block heard.Line is_shown = line
by-shown follows row note line block heard.Block is_shown = block
by-shown follows row note line block heard.Seen is_shown = absurd is_shown
by-shown follows row note line block (heard.Approved figures) is_shown = absurd is_shown
by-shown follows row note line block heard.Done is_shown = absurd is_shown
by-shown follows row note line block (heard.Told reported approved result_code) is_shown = absurd is_shown
by-shown follows row note line block (heard.Declined result_code reported) is_shown = absurd is_shown
by-shown follows row note line block heard.Unclear is_shown = absurd is_shown
by-shown follows row note line block heard.Stray is_shown = absurd is_shown

-- what is served stays as it is then
pub shown-stays : (known : Known) (number : ℕ) (terminal : Terminal) (service : Service) (last : ℕ) (meant : Heard) → IsShown meant → serving known number terminal service last meant ≡ staying known number terminal
shown-stays known number terminal (Transaction slot) last meant is_shown =
    by-shown (λ m. serving_transaction known number terminal slot last m) (staying known number terminal) (λ status. refl) refl refl meant is_shown
shown-stays known number terminal (EndOfDay header period) last meant is_shown =
    by-shown (λ m. serving_day known number terminal last header m) (staying known number terminal) (λ status. refl) refl refl meant is_shown
shown-stays known number terminal (Display header results) last meant is_shown =
    by-shown (λ m. serving_display known number terminal last header results m) (staying known number terminal) (λ status. refl) refl refl meant is_shown

abbrev requests-at : (known : Known) (number : ℕ) (terminal : Terminal) (meant : Heard) (message : MessageValue) (till : ℕ) (request : ReplyValue) → terminal.asker ≡ Some till
    → IsOfServed known.kept terminal.standing (device_request_of meant message known.core.device_requests) request → RequestsDevice known number terminal meant message
requests-at known number terminal meant message till request asks served = record {
  till = till;
  asker_is = asks;
  service = served.service;
  last = served.last;
  standing_is = served.standing_is;
  key = served.key;
  key_is = served.key_is;
  is_shown = request-shown meant message known.core.device_requests served.key request served.request_is;
  request = request;
  request_is = served.request_is;
  stays =
      ap (λ (standing : Standing). consequence known number terminal meant standing) served.standing_is
      ∙ shown-stays known number terminal served.service served.last meant (request-shown meant message known.core.device_requests served.key request served.request_is);
}

-- what holds of the consequence of a message, and of a device request where the terminal stays, holds of what was taken
pub taken-cases : (P : Row → Type 0) (known : Known) (number : ℕ) (terminal : Terminal) (meant : Heard) (message : MessageValue) → P (consequence known number terminal meant terminal.standing)
    → ((at : RequestsDevice known number terminal meant message) → P (staying known number terminal) → P (requests_device known number terminal at.till at.request)) → P (taken_row known number terminal meant message)
taken-cases P known number terminal meant message follows asks = by-asker terminal.asker refl
  where
    by-request : (till : ℕ) (request : Option ReplyValue) → terminal.asker ≡ Some till → device_request_in known terminal.standing meant message ≡ request
        → P (unwrap_or (option_map (requests_device known number terminal till) request) (consequence known number terminal meant terminal.standing))
    by-request till None there is = follows
    by-request till (Some request) there is =
        let served = of-served known.kept terminal.standing (device_request_of meant message known.core.device_requests) request is in
        asks (requests-at known number terminal meant message till request there served) (subst P (RequestsDevice.stays (requests-at known number terminal meant message till request there served)) follows)

    by-asker : (asker : Option ℕ) → terminal.asker ≡ asker
        → P (unwrap_or (option_and_then (λ till. option_map (requests_device known number terminal till) (device_request_in known terminal.standing meant message)) asker) (consequence known number terminal meant terminal.standing))
    by-asker None is = follows
    by-asker (Some till) is = by-request till (device_request_in known terminal.standing meant message) is refl

-- what is neither shown nor printed has its consequence alone
pub taken-plain : (known : Known) (number : ℕ) (terminal : Terminal) (meant : Heard) (message : MessageValue) → (IsShown meant → ⊥) → taken_row known number terminal meant message ≡ consequence known number terminal meant terminal.standing
taken-plain known number terminal meant message plain =
    taken-cases (λ (row : Row). row ≡ consequence known number terminal meant terminal.standing) known number terminal meant message refl (λ at same. absurd (plain at.is_shown))

-- so has what a terminal sends that serves nothing with a key
pub taken-keyless : (known : Known) (number : ℕ) (terminal : Terminal) (meant : Heard) (message : MessageValue) → key_served known.kept terminal.standing ≡ None
    → taken_row known number terminal meant message ≡ consequence known number terminal meant terminal.standing
taken-keyless known number terminal meant message none =
    taken-cases (λ (row : Row). row ≡ consequence known number terminal meant terminal.standing) known number terminal meant message refl
    (λ at same. let keyed : Some at.key ≡ None = sym at.key_is ∙ sym (ap (key_served known.kept) at.standing_is) ∙ none in absurd cc)

-- ---- the row

-- what holds of nothing owed, of each consequence of a message, and of each device request where the terminal stays, holds of the row
pub each-handled : (P : Row → Type 0) (known : Known) (number : ℕ) (apdu : ApduValue) → P (owing_nothing known)
    → ((terminal : Terminal) (message : MessageValue) → terminal_at known number ≡ Some terminal → is_linked terminal.standing ≡ true → decode_pt_message apdu ≡ Ok message → is_taken message ≡ true
    → P (consequence known number (taking terminal message known.moment) (meaning_at terminal message) terminal.standing))
    → ((terminal : Terminal) (message : MessageValue) → terminal_at known number ≡ Some terminal → is_linked terminal.standing ≡ true → decode_pt_message apdu ≡ Ok message → is_taken message ≡ true
    → (at : RequestsDevice known number (taking terminal message known.moment) (meaning_at terminal message) message) → P (staying known number (taking terminal message known.moment))
    → P (requests_device known number (taking terminal message known.moment) at.till at.request))
    → P (handle_row known number apdu)
each-handled P known number apdu none some asks = by-decoded (decode_pt_message apdu) refl
  where
    by-decoded : (decoded : Result MessageValue PtFault) → decode_pt_message apdu ≡ decoded → P (handle_decoded known number decoded)
    by-decoded (Ok message) is =
        each-linked P known number (λ terminal. handle_message known number terminal message) none
        (λ terminal found linked. by-where P known _ (is_taken message) none
        (λ taken. taken-cases P known number (taking terminal message known.moment) (meaning_at terminal message) message
        (some terminal message found linked is taken) (asks terminal message found linked is taken)))
    by-decoded (Err fault) is = none

becomes-alone : (known : Known) (number : ℕ) (old terminal : Terminal) (row : Row) → terminal_at known number ≡ Some old → terminal.pt ≡ old.pt → Becomes known number terminal row → ChangesTerminalAlone number known.core row.core
becomes-alone known number old terminal row found same becomes =
    subst (λ (r : Row). ChangesTerminalAlone number known.core r.core) (sym becomes.row_is) (alone-set number known.core old becomes.new found (becomes.settings ∙ same))

-- a device request changes no terminal more
device-alone : (known : Known) (number : ℕ) (terminal : Terminal) (till : ℕ) (request : ReplyValue) → ChangesTerminalAlone number known.core (staying known number terminal).core
    → ChangesTerminalAlone number known.core (requests_device known number terminal till request).core
device-alone known number terminal till request alone = record { others = alone.others; settings = alone.settings; count = alone.count }

pub handle-alone : (known : Known) (number : ℕ) (apdu : ApduValue) → ChangesTerminalAlone number known.core (handle_row known number apdu).core
handle-alone known number apdu =
    each-handled (λ (row : Row). ChangesTerminalAlone number known.core row.core) known number apdu (alone-same number known.core)
    (λ terminal message found linked is taken. becomes-alone known number terminal (taking terminal message known.moment) _ found refl (consequence-becomes known number _ (meaning_at terminal message) terminal.standing linked))
    (λ terminal message found linked is taken at stays. device-alone known number (taking terminal message known.moment) at.till at.request stays)

-- what waits stays
pub handle-leaves : (known : Known) (number : ℕ) (apdu : ApduValue) → (handle_row known number apdu).core.waits ≡ known.core.waits
handle-leaves known number apdu =
    each-handled (λ (row : Row). row.core.waits ≡ known.core.waits) known number apdu refl
    (λ terminal message found linked is taken.
    ap (λ (row : Row). row.core.waits) (Becomes.row_is (consequence-becomes known number (taking terminal message known.moment) (meaning_at terminal message) terminal.standing linked)))
    (λ terminal message found linked is taken at stays. refl)

becomes-ends : (known : Known) (number : ℕ) (terminal : Terminal) (row : Row) → Becomes known number terminal row → EndsInOne row
becomes-ends known number terminal row becomes = subst EndsInOne (sym becomes.row_is) becomes.ends

pub handle-ends : (known : Known) (number : ℕ) (apdu : ApduValue) → EndsInOne (handle_row known number apdu)
handle-ends known number apdu =
    each-handled EndsInOne known number apdu refl
    (λ terminal message found linked is taken. becomes-ends known number _ _ (consequence-becomes known number (taking terminal message known.moment) (meaning_at terminal message) terminal.standing linked))
    (λ terminal message found linked is taken at stays. refl)

pub handle-cuts : (known : Known) (number : ℕ) (apdu : ApduValue) → owes_cut (handle_row known number apdu).calls ≡ true → BreaksDialogue known number apdu
handle-cuts known number apdu =
    each-handled (λ (row : Row). owes_cut row.calls ≡ true → BreaksDialogue known number apdu) known number apdu (λ cuts. absurd cc)
    (λ terminal message found linked is taken cuts. record {
      terminal = terminal;
      found = found;
      message = message;
      decoded = is;
      why = consequence-breaks known number (taking terminal message known.moment) (meaning_at terminal message) terminal.standing cuts;
    })
    (λ terminal message found linked is taken at stays cuts. absurd cc)

-- the row of a message that is taken
pub handled-is : (known : Known) (number : ℕ) (apdu : ApduValue) (terminal : Terminal) (message : MessageValue) → terminal_at known number ≡ Some terminal → is_linked terminal.standing ≡ true → decode_pt_message apdu ≡ Ok message
    → handle_row known number apdu ≡ handle_message known number terminal message
handled-is known number apdu terminal message found linked is =
    ap (handle_decoded known number) is ∙ linked-row known number (λ terminal. handle_message known number terminal message) terminal found linked

-- ---- messages without effect

pub no-effect : (known : Known) (number : ℕ) (apdu : ApduValue) → HasNoEffect known number apdu
no-effect known number apdu = record {
  other = λ is. ap (handle_decoded known number) is ∙ each-linked (λ row. row ≡ owing_nothing known) known number (λ terminal. handle_message known number terminal Other) refl (λ terminal found linked. refl);
  outside = λ fault is. ap (handle_decoded known number) is;
}

-- ---- what is awaited

no-ack : (message : MessageValue) → message ≢ Ack → ((error_code : ℕ) → message ≢ Nack error_code) → IsAckOrNack message → ⊥
no-ack message ack nack (inl is) = ack is
no-ack message ack nack (inr (error_code, is)) = nack error_code is

takes-none : (message : MessageValue) → ((awaited : ℕ) → awaited_after message awaited ≡ awaited) → message ≢ Ack → ((error_code : ℕ) → message ≢ Nack error_code) → TakesOne message
takes-none message same ack nack = record {
  one = λ awaited is below. absurd (no-ack message ack nack is);
  none = λ is. absurd (no-ack message ack nack is);
  most = λ is. absurd (no-ack message ack nack is);
  other = λ awaited never. same awaited;
}

pub acks-take-one : EachAckTakesOne
acks-take-one Ack = record { one = λ awaited is below. less-suc awaited below; none = λ is. refl; most = λ is. less-most; other = λ awaited never. absurd (never (inl refl)) }
acks-take-one (Nack error_code) = record { one = λ awaited is below. less-suc awaited below; none = λ is. refl; most = λ is. less-most; other = λ awaited never. absurd (never (inr (error_code, refl))) }
acks-take-one (Intermediate intermediate_status) = takes-none (Intermediate intermediate_status) (λ awaited. refl) (λ e. cc) (λ error_code e. cc)
acks-take-one (Line text) = takes-none (Line text) (λ awaited. refl) (λ e. cc) (λ error_code e. cc)
acks-take-one (Block objects) = takes-none (Block objects) (λ awaited. refl) (λ e. cc) (λ error_code e. cc)
acks-take-one (Status fields) = takes-none (Status fields) (λ awaited. refl) (λ e. cc) (λ error_code e. cc)
acks-take-one Completion = takes-none Completion (λ awaited. refl) (λ e. cc) (λ error_code e. cc)
acks-take-one (Abort result_code) = takes-none (Abort result_code) (λ awaited. refl) (λ e. cc) (λ error_code e. cc)
acks-take-one Other = takes-none Other (λ awaited. refl) (λ e. cc) (λ error_code e. cc)

becomes-awaits : (known : Known) (number : ℕ) (old terminal : Terminal) (row : Row) → terminal_at known number ≡ Some old → Becomes known number terminal row → Awaits number terminal.awaited row
becomes-awaits known number old terminal row found becomes =
    subst (λ (r : Row). Awaits number terminal.awaited r) (sym becomes.row_is) (record {
      terminal = becomes.new;
      found = new-is-there known.core.terminals number old becomes.new found;
      count = becomes.awaited;
    })

not-taken : (message : MessageValue) → is_taken message ≡ false → message ≡ Other
not-taken Ack not = absurd cc
not-taken (Nack error_code) not = absurd cc
not-taken (Intermediate intermediate_status) not = absurd cc
not-taken (Line text) not = absurd cc
not-taken (Block objects) not = absurd cc
not-taken (Status fields) not = absurd cc
not-taken Completion not = absurd cc
not-taken (Abort result_code) not = absurd cc
not-taken Other not = refl

message-counts : (known : Known) (number : ℕ) (terminal : Terminal) (message : MessageValue) → terminal_at known number ≡ Some terminal → is_linked terminal.standing ≡ true
    → Awaits number (awaited_after message terminal.awaited) (handle_message known number terminal message)
message-counts known number terminal message found linked = by-is (is_taken message) refl
  where
    by-is : (taken : Bool) → is_taken message ≡ taken
        → Awaits number (awaited_after message terminal.awaited) (owing_where taken known (taken_row known number (taking terminal message known.moment) (meaning_at terminal message) message))
    by-is true is =
        taken-cases (Awaits number (awaited_after message terminal.awaited)) known number (taking terminal message known.moment) (meaning_at terminal message) message
        (becomes-awaits known number terminal (taking terminal message known.moment) _ found (consequence-becomes known number _ (meaning_at terminal message) terminal.standing linked))
        (λ at stays. record { terminal = stays.terminal; found = stays.found; count = stays.count })
    by-is false is = record {
      terminal = terminal;
      found = found;
      count = ap (λ (m : MessageValue). awaited_after m terminal.awaited) (sym (not-taken message is));
    }

pub each-message-counts : (known : Known) (number : ℕ) (apdu : ApduValue) (terminal : Terminal) (message : MessageValue) → terminal_at known number ≡ Some terminal → is_linked terminal.standing ≡ true
    → decode_pt_message apdu ≡ Ok message → Awaits number (awaited_after message terminal.awaited) (handle_row known number apdu)
each-message-counts known number apdu terminal message found linked is =
    subst (Awaits number (awaited_after message terminal.awaited)) (sym (handled-is known number apdu terminal message found linked is)) (message-counts known number terminal message found linked)

late-in : (talk : TalkFacts) (stop_wished : Bool) → talk.phase ≡ Asked stop_wished → meaning_in_phase talk.dialogue_kind talk.none talk.phase (Nack 0) ≡ heard.Unclear
late-in talk stop_wished asked = ap (λ phase. meaning_in_phase talk.dialogue_kind talk.none phase (Nack 0)) asked

pub late-is-unclear : (terminal : Terminal) (talk : TalkFacts) (stop_wished : Bool) (error_code : ℕ) → terminal.talk ≡ Some talk → talk.phase ≡ Asked stop_wished → 2 ≤ terminal.awaited
    → meaning_at terminal (Nack error_code) ≡ heard.Unclear
late-is-unclear terminal talk stop_wished error_code runs asked more =
    ap (λ (t : Option TalkFacts). meaning_for t (taken_as terminal.awaited (Nack error_code))) runs
    ∙ ap (λ (b : Bool). meaning_for (Some talk) (Nack (if b then 0 else error_code))) (le-leb 2 terminal.awaited more)
    ∙ late-in talk stop_wished asked

pub most-is-unclear : (terminal : Terminal) (talk : TalkFacts) (stop_wished : Bool) (error_code : ℕ) → terminal.talk ≡ Some talk → talk.phase ≡ Asked stop_wished → terminal.awaited ≡ most_awaited
    → meaning_at terminal (Nack error_code) ≡ heard.Unclear
most-is-unclear terminal talk stop_wished error_code runs asked most = late-is-unclear terminal talk stop_wished error_code runs asked (subst (λ (n : ℕ). 2 ≤ n) (sym most) two-most)

-- ---- nothing is left out

-- a command of the terminal's own means nothing
other-stray : (terminal : Terminal) → meaning_at terminal Other ≡ heard.Stray
other-stray terminal = by-talk terminal.talk
  where
    by-talk : (talk : Option TalkFacts) → meaning_for talk Other ≡ heard.Stray
    by-talk None = refl
    by-talk (Some talk) = by-phase talk.phase
      where
        by-phase : (phase : Phase) → meaning_in_phase talk.dialogue_kind talk.none phase Other ≡ heard.Stray
        by-phase (Asked stop_wished) = refl
        by-phase (Begun stop_sent statuses) = refl
        by-phase (Ended stop_sent) = refl

-- a message that means anything is taken
pub means-taken : (terminal : Terminal) (message : MessageValue) (meant : Heard) → meaning_at terminal message ≡ meant → meant ≢ heard.Stray → is_taken message ≡ true
means-taken terminal message meant means some = by-is (is_taken message) refl
  where
    by-is : (taken : Bool) → is_taken message ≡ taken → taken ≡ true
    by-is true is = refl
    by-is false is = absurd (some (sym means ∙ ap (meaning_at terminal) (not-taken message is) ∙ other-stray terminal))

-- what breaks a dialogue is neither shown nor printed
breaks-plain : (meant : Heard) (standing : Standing) → BreaksBy meant standing → IsShown meant → ⊥
breaks-plain meant standing (inl is) is_shown = subst IsShown is is_shown
breaks-plain meant standing (inr (result_code, trace, is, before)) is_shown = subst IsShown is is_shown

-- the row of a message that is taken and neither shown nor printed
pub plain-row : (known : Known) (number : ℕ) (apdu : ApduValue) (terminal : Terminal) (message : MessageValue) → terminal_at known number ≡ Some terminal → is_linked terminal.standing ≡ true → decode_pt_message apdu ≡ Ok message
    → is_taken message ≡ true → (IsShown (meaning_at terminal message) → ⊥) → handle_row known number apdu ≡ consequence known number (taking terminal message known.moment) (meaning_at terminal message) terminal.standing
plain-row known number apdu terminal message found linked is taken plain =
    handled-is known number apdu terminal message found linked is
    ∙ ap (λ (b : Bool). owing_where b known (taken_row known number (taking terminal message known.moment) (meaning_at terminal message) message)) taken
    ∙ taken-plain known number (taking terminal message known.moment) (meaning_at terminal message) message plain

cut-by : (known : Known) (number : ℕ) (apdu : ApduValue) (terminal : Terminal) (message : MessageValue) → terminal_at known number ≡ Some terminal → is_linked terminal.standing ≡ true
    → decode_pt_message apdu ≡ Ok message → HasDialogueOnlyIn terminal.standing terminal.talk → BreaksBy (meaning_at terminal message) terminal.standing → (handle_row known number apdu).calls ≡ CutPt number ∷ []
cut-by known number apdu terminal message found linked is only why =
    ap (λ (row : Row). row.calls)
    (plain-row known number apdu terminal message found linked is
    (means-taken terminal message (meaning_at terminal message) refl (not-stray (meaning_at terminal message) terminal.standing why)) (breaks-plain (meaning_at terminal message) terminal.standing why))
    ∙ consequence-cut known number (taking terminal message known.moment) (meaning_at terminal message) terminal.standing terminal.talk why only (means-none terminal message)

-- a message that breaks its dialogue cuts the connection
pub breaks-cut : (known : Known) (number : ℕ) (apdu : ApduValue) → IsLinkedAt known number → BreaksDialogue known number apdu → (handle_row known number apdu).calls ≡ CutPt number ∷ []
breaks-cut known number apdu there breaks =
    let same : breaks.terminal ≡ there.terminal = same-some breaks.terminal there.terminal (sym breaks.found ∙ there.found) in
    cut-by known number apdu breaks.terminal breaks.message breaks.found (ap (λ (t : Terminal). is_linked t.standing) same ∙ there.linked) breaks.decoded
    (subst (λ (t : Terminal). HasDialogueOnlyIn t.standing t.talk) (sym same) there.dialogue) breaks.why

-- what a message leads to that is taken and neither shown nor printed
pub leads-by : (known : Known) (number : ℕ) (standing : Standing) (calls : List OwedCall) (apdu : ApduValue) (terminal : Terminal) (message : MessageValue) → terminal_at known number ≡ Some terminal → is_linked terminal.standing ≡ true
    → decode_pt_message apdu ≡ Ok message → is_taken message ≡ true → (IsShown (meaning_at terminal message) → ⊥)
    → GoesOnTo number standing calls (consequence known number (taking terminal message known.moment) (meaning_at terminal message) terminal.standing)
    → GoesOnTo number standing calls (handle_row known number apdu)
leads-by known number standing calls apdu terminal message found linked is taken plain leads =
    subst (GoesOnTo number standing calls) (sym (plain-row known number apdu terminal message found linked is taken plain)) leads

pub registered-is-enquired : (known : Known) (number : ℕ) (apdu : ApduValue) (terminal : Terminal) (message : MessageValue) → terminal_at known number ≡ Some terminal → terminal.standing ≡ Registering
    → decode_pt_message apdu ≡ Ok message → meaning_at terminal message ≡ heard.Done → GoesOnTo number Enquiring (SendPt number (Ask (enquiry_command terminal.pt)) ∷ []) (handle_row known number apdu)
registered-is-enquired known number apdu terminal message found standing is means =
    leads-by known number Enquiring _ apdu terminal message found (ap is_linked standing) is (means-taken terminal message heard.Done means (λ e. cc)) (λ is_shown. subst IsShown means is_shown)
    (rw (standing, means) (record { terminal = _; found = new-is-there known.core.terminals number terminal _ found; standing_is = refl; calls_are = refl }))

-- where a terminal that is enquired reports its last transaction, what follows goes by the records
pub reported-leads : (known : Known) (number : ℕ) (standing : Standing) (calls : List OwedCall) (apdu : ApduValue) (terminal : Terminal) (report : Report) (reports : ReportsAt known number apdu terminal report)
    → GoesOnTo number standing calls (report_row (on_record known.kept terminal.pt.poi) known number (taking terminal (ReportsAt.message reports) known.moment) report)
    → GoesOnTo number standing calls (handle_row known number apdu)
reported-leads known number standing calls apdu terminal report reports leads =
    let message : MessageValue = reports.message in
    leads-by known number standing calls apdu terminal message reports.found (ap is_linked reports.standing_is) reports.decoded (means-taken terminal message _ reports.means (λ e. cc)) (λ is_shown. subst IsShown reports.means is_shown)
    (subst (λ (at : Standing). GoesOnTo number standing calls (consequence known number (taking terminal message known.moment) (meaning_at terminal message) at)) (sym reports.standing_is)
    (subst (λ (meant : Heard). GoesOnTo number standing calls (enquiring known number (taking terminal message known.moment) meant)) (sym reports.means) leads))

pub enquired-is-ready : EnquiredIsReady
enquired-is-ready known number apdu terminal report reports none_open least =
    reported-leads known number (Ready report.trace) [] apdu terminal report reports (by-opened (on_record known.kept terminal.pt.poi).opened none_open)
  where
    stands : standing_reported (on_record known.kept terminal.pt.poi).last report.trace ≡ Ready report.trace
    stands = ap (λ (b : Bool). if b then Ready report.trace else Aside (on_record known.kept terminal.pt.poi).last report.trace) (le-leb (on_record known.kept terminal.pt.poi).last report.trace least)

    by-opened : (opened : Option TheEntry) → opened ≡ None
        → GoesOnTo number (Ready report.trace) [] (report_against opened (on_record known.kept terminal.pt.poi).last known number (taking terminal reports.message known.moment) report)
    by-opened None none = record { terminal = _; found = new-is-there known.core.terminals number terminal _ reports.found; standing_is = stands; calls_are = refl }
    by-opened (Some entry) none = absurd cc
