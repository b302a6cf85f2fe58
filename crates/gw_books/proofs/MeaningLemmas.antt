-- Only an enquiry reports, and what an end is by what its message means.
use Rattle.std.proofs.Common.{◌≡◌, ◌≢◌, ◌∙◌, ℕ, Bool, true, false, ◌||◌, cond, eqb, refl, sym, ap, subst}
use Rattle.std.specs.Prelude.{map, Option, Some, None}
use Rattle.std.specs.List.{list_any}
use Rattle.std.specs.Option.{option_map, option_to_list}
use Rattle.std.proofs.lemmas.Option.{same_Some}
use Rattle.gw_base.specs.declared.figures.Figures.{Figures}
use Rattle.zvt_bmp.specs.declared.fields.Fields.{Fields}
use Rattle.zvt_msg.specs.Message.{MessageValue, Ack, Nack, Intermediate, Line, Block, Status, Completion, Abort, Other}
use Rattle.zvt_talk.specs.declared.dialogue_kind.DialogueKind.{DialogueKind}
use Rattle.zvt_talk.specs.declared.dialogue_kind.DialogueKind.TheVariants.{Registration, Enquiry, Payment, Reversal, EndOfDay as EndOfDayDialogue, Display as DisplayDialogue}
use Rattle.zvt_talk.specs.declared.meaning.Heard.{Heard}
use Rattle.zvt_talk.specs.declared.meaning.Heard.TheVariants as heard
use Rattle.zvt_talk.specs.declared.phase.Phase.{Phase}
use Rattle.zvt_talk.specs.declared.phase.Phase.TheVariants.{Asked, Begun, Ended}
use Rattle.zvt_talk.specs.declared.statuses.Statuses.{Statuses}
use Rattle.zvt_talk.specs.Dialogue.{is_display}
use Rattle.zvt_talk.specs.Table.{acknowledged, approved_with, declined, declined_unless, full_figures, meaning_when_asked, service_completed, service_result, transaction_completed, transaction_result}
use Rattle.zvt_talk.specs.Talk.{TalkFacts}
use Rattle.zvt_talk.specs.TalkSteps.{meaning_in_phase}
use Rattle.gw_owes.specs.declared.terminal.Service.{Service}
use Rattle.gw_owes.specs.declared.terminal.Service.TheVariants.{Transaction, EndOfDay, Display}
use Rattle.gw_owes.specs.declared.terminal.Standing.{Standing}
use Rattle.gw_owes.specs.declared.terminal.Standing.TheVariants.{Unlinked, Registering, Enquiring, Ready, Serving, Aside}
use Rattle.gw_owes.specs.declared.terminal.Terminal.{Terminal}
use Rattle.gw_owes.specs.Dialogues.{IsDialogueOf, IsKindOfService, RunsService, runs_transaction}
use Rattle.gw_owes.specs.Handling.{meaning_at, meaning_for, taken_as}
use Rattle.gw_owes.proofs.HandlingLemmas.{IsShown}
use Rattle.gw_books.specs.Agrees.{is_report}
use Rattle.gw_books.specs.Past.{Ending, Approved, Declined, HeardEnd, Past, ending_at, ending_with, ends_by, numbering_at}

-- ---- what is reported

-- it is a report
abbrev pub IsReport : Heard → Type 0
IsReport (heard.Begun stop) = ⊥
IsReport (heard.Note intermediate_status) = ⊥
IsReport heard.Line = ⊥
IsReport heard.Block = ⊥
IsReport heard.Seen = ⊥
IsReport (heard.Approved figures) = ⊥
IsReport heard.Done = ⊥
IsReport (heard.Told trace figures result_code) = Unit {0}
IsReport (heard.Declined result_code trace) = ⊥
IsReport heard.Unclear = ⊥
IsReport heard.Stray = ⊥

-- it is none
abbrev pub IsNoReport : Heard → Type 0
IsNoReport meant = IsReport meant → ⊥

-- what is shown or printed is none
pub shown-no-report : (meant : Heard) → IsShown meant → IsNoReport meant
shown-no-report (heard.Begun stop) is_shown = absurd is_shown
shown-no-report (heard.Note intermediate_status) is_shown = λ as_report. as_report
shown-no-report heard.Line is_shown = λ as_report. as_report
shown-no-report heard.Block is_shown = λ as_report. as_report
shown-no-report heard.Seen is_shown = absurd is_shown
shown-no-report (heard.Approved figures) is_shown = absurd is_shown
shown-no-report heard.Done is_shown = absurd is_shown
shown-no-report (heard.Told trace figures result_code) is_shown = absurd is_shown
shown-no-report (heard.Declined result_code trace) is_shown = absurd is_shown
shown-no-report heard.Unclear is_shown = absurd is_shown
shown-no-report heard.Stray is_shown = absurd is_shown

neither : (b : Bool) (one other : Heard) → IsNoReport one → IsNoReport other → IsNoReport (cond b one other)
neither true one other p q = p
neither false one other p q = q

-- ---- no registration reports

service-result-no-report : (statuses : Statuses) (result : Option ℕ) → IsNoReport (service_result statuses result)
service-result-no-report statuses None = λ as_report. as_report
service-result-no-report statuses (Some result_code) = neither (eqb result_code 0) heard.Done (declined statuses result_code) (λ as_report. as_report) (λ as_report. as_report)

service-no-report : (statuses : Statuses) (last : Option Fields) → IsNoReport (service_completed statuses last)
service-no-report statuses None = λ as_report. as_report
service-no-report statuses (Some status) = service-result-no-report statuses status.result

acknowledged-no-report : (shows stop_wished : Bool) → IsNoReport (acknowledged shows stop_wished)
acknowledged-no-report true stop_wished = λ as_report. as_report
acknowledged-no-report false stop_wished = λ as_report. as_report

asked-no-report : (dialogue_kind : DialogueKind) (stop_wished : Bool) (message : MessageValue) → IsNoReport (meaning_when_asked dialogue_kind stop_wished message)
asked-no-report dialogue_kind stop_wished Ack = acknowledged-no-report (is_display dialogue_kind) stop_wished
asked-no-report dialogue_kind stop_wished (Nack error_code) = neither (eqb error_code 0) heard.Unclear (heard.Declined error_code None) (λ as_report. as_report) (λ as_report. as_report)
asked-no-report dialogue_kind stop_wished (Intermediate intermediate_status) = λ as_report. as_report
asked-no-report dialogue_kind stop_wished (Line text) = λ as_report. as_report
asked-no-report dialogue_kind stop_wished (Block objects) = λ as_report. as_report
asked-no-report dialogue_kind stop_wished (Status fields) = λ as_report. as_report
asked-no-report dialogue_kind stop_wished Completion = λ as_report. as_report
asked-no-report dialogue_kind stop_wished (Abort result_code) = λ as_report. as_report
asked-no-report dialogue_kind stop_wished Other = λ as_report. as_report

registration-no-report : (none : ℕ) (phase : Phase) (message : MessageValue) → IsNoReport (meaning_in_phase Registration none phase message)
registration-no-report none (Asked stop_wished) message = asked-no-report Registration stop_wished message
registration-no-report none (Begun stop_sent statuses) Ack = λ as_report. as_report
registration-no-report none (Begun stop_sent statuses) (Nack error_code) = λ as_report. as_report
registration-no-report none (Begun stop_sent statuses) (Intermediate intermediate_status) = λ as_report. as_report
registration-no-report none (Begun stop_sent statuses) (Line text) = λ as_report. as_report
registration-no-report none (Begun stop_sent statuses) (Block objects) = λ as_report. as_report
registration-no-report none (Begun stop_sent statuses) (Status fields) = λ as_report. as_report
registration-no-report none (Begun stop_sent statuses) Completion = service-no-report statuses statuses.last
registration-no-report none (Begun stop_sent statuses) (Abort None) = λ as_report. as_report
registration-no-report none (Begun stop_sent statuses) (Abort (Some result_code)) = neither (eqb result_code 0) heard.Unclear (declined statuses result_code) (λ as_report. as_report) (λ as_report. as_report)
registration-no-report none (Begun stop_sent statuses) Other = λ as_report. as_report
registration-no-report none (Ended stop_sent) message = λ as_report. as_report

-- ---- no payment reports

approved-no-report : (figures : Option Figures) → IsNoReport (approved_with figures)
approved-no-report None = λ as_report. as_report
approved-no-report (Some figures) = λ as_report. as_report

declined-no-report : (said_approved : Bool) (statuses : Statuses) (result_code : ℕ) → IsNoReport (declined_unless said_approved statuses result_code)
declined-no-report true statuses result_code = λ as_report. as_report
declined-no-report false statuses result_code = λ as_report. as_report

transaction-result-no-report : (statuses : Statuses) (status : Fields) (result : Option ℕ) → IsNoReport (transaction_result statuses status result)
transaction-result-no-report statuses status None = λ as_report. as_report
transaction-result-no-report statuses status (Some result_code) =
    neither (eqb result_code 0) (approved_with (full_figures status)) (declined_unless statuses.approved statuses result_code) (approved-no-report (full_figures status)) (declined-no-report statuses.approved statuses result_code)

transaction-no-report : (statuses : Statuses) (last : Option Fields) → IsNoReport (transaction_completed statuses last)
transaction-no-report statuses None = λ as_report. as_report
transaction-no-report statuses (Some status) = transaction-result-no-report statuses status status.result

payment-no-report : (none : ℕ) (phase : Phase) (message : MessageValue) → IsNoReport (meaning_in_phase Payment none phase message)
payment-no-report none (Asked stop_wished) message = asked-no-report Payment stop_wished message
payment-no-report none (Begun stop_sent statuses) Ack = λ as_report. as_report
payment-no-report none (Begun stop_sent statuses) (Nack error_code) = λ as_report. as_report
payment-no-report none (Begun stop_sent statuses) (Intermediate intermediate_status) = λ as_report. as_report
payment-no-report none (Begun stop_sent statuses) (Line text) = λ as_report. as_report
payment-no-report none (Begun stop_sent statuses) (Block objects) = λ as_report. as_report
payment-no-report none (Begun stop_sent statuses) (Status fields) = λ as_report. as_report
payment-no-report none (Begun stop_sent statuses) Completion = transaction-no-report statuses statuses.last
payment-no-report none (Begun stop_sent statuses) (Abort None) = λ as_report. as_report
payment-no-report none (Begun stop_sent statuses) (Abort (Some result_code)) =
    neither (eqb result_code 0) heard.Unclear (declined_unless statuses.approved statuses result_code) (λ as_report. as_report) (declined-no-report statuses.approved statuses result_code)
payment-no-report none (Begun stop_sent statuses) Other = λ as_report. as_report
payment-no-report none (Ended stop_sent) message = λ as_report. as_report

-- a message means the same of a reversal
as-of-payment : (none : ℕ) (phase : Phase) (message : MessageValue) → meaning_in_phase Reversal none phase message ≡ meaning_in_phase Payment none phase message
as-of-payment none (Asked stop_wished) Ack = refl
as-of-payment none (Asked stop_wished) (Nack error_code) = refl
as-of-payment none (Asked stop_wished) (Intermediate intermediate_status) = refl
as-of-payment none (Asked stop_wished) (Line text) = refl
as-of-payment none (Asked stop_wished) (Block objects) = refl
as-of-payment none (Asked stop_wished) (Status fields) = refl
as-of-payment none (Asked stop_wished) Completion = refl
as-of-payment none (Asked stop_wished) (Abort result_code) = refl
as-of-payment none (Asked stop_wished) Other = refl
as-of-payment none (Begun stop_sent statuses) Ack = refl
as-of-payment none (Begun stop_sent statuses) (Nack error_code) = refl
as-of-payment none (Begun stop_sent statuses) (Intermediate intermediate_status) = refl
as-of-payment none (Begun stop_sent statuses) (Line text) = refl
as-of-payment none (Begun stop_sent statuses) (Block objects) = refl
as-of-payment none (Begun stop_sent statuses) (Status fields) = refl
as-of-payment none (Begun stop_sent statuses) Completion = refl
as-of-payment none (Begun stop_sent statuses) (Abort None) = refl
as-of-payment none (Begun stop_sent statuses) (Abort (Some result_code)) = refl
as-of-payment none (Begun stop_sent statuses) Other = refl
as-of-payment none (Ended stop_sent) message = refl

-- so no payment and no reversal has such a report
transactions-no-report : (dialogue_kind : DialogueKind) → runs_transaction dialogue_kind ≡ true → (none : ℕ) (phase : Phase) (message : MessageValue) → IsNoReport (meaning_in_phase dialogue_kind none phase message)
transactions-no-report Registration is none phase message = absurd cc
transactions-no-report Enquiry is none phase message = absurd cc
transactions-no-report Payment is none phase message = payment-no-report none phase message
transactions-no-report Reversal is none phase message = λ as_report. payment-no-report none phase message (subst IsReport (as-of-payment none phase message) as_report)
transactions-no-report EndOfDayDialogue is none phase message = absurd cc
transactions-no-report DisplayDialogue is none phase message = absurd cc

-- ---- no end of day and no display reports

-- a message means the same of an end of day as of a registration
as-of-registration : (none : ℕ) (phase : Phase) (message : MessageValue) → meaning_in_phase EndOfDayDialogue none phase message ≡ meaning_in_phase Registration none phase message
as-of-registration none (Asked stop_wished) Ack = refl
as-of-registration none (Asked stop_wished) (Nack error_code) = refl
as-of-registration none (Asked stop_wished) (Intermediate intermediate_status) = refl
as-of-registration none (Asked stop_wished) (Line text) = refl
as-of-registration none (Asked stop_wished) (Block objects) = refl
as-of-registration none (Asked stop_wished) (Status fields) = refl
as-of-registration none (Asked stop_wished) Completion = refl
as-of-registration none (Asked stop_wished) (Abort result_code) = refl
as-of-registration none (Asked stop_wished) Other = refl
as-of-registration none (Begun stop_sent statuses) Ack = refl
as-of-registration none (Begun stop_sent statuses) (Nack error_code) = refl
as-of-registration none (Begun stop_sent statuses) (Intermediate intermediate_status) = refl
as-of-registration none (Begun stop_sent statuses) (Line text) = refl
as-of-registration none (Begun stop_sent statuses) (Block objects) = refl
as-of-registration none (Begun stop_sent statuses) (Status fields) = refl
as-of-registration none (Begun stop_sent statuses) Completion = refl
as-of-registration none (Begun stop_sent statuses) (Abort None) = refl
as-of-registration none (Begun stop_sent statuses) (Abort (Some result_code)) = refl
as-of-registration none (Begun stop_sent statuses) Other = refl
as-of-registration none (Ended stop_sent) message = refl

day-no-report : (none : ℕ) (phase : Phase) (message : MessageValue) → IsNoReport (meaning_in_phase EndOfDayDialogue none phase message)
day-no-report none phase message = λ as_report. registration-no-report none phase message (subst IsReport (as-of-registration none phase message) as_report)

display-no-report : (none : ℕ) (phase : Phase) (message : MessageValue) → IsNoReport (meaning_in_phase DisplayDialogue none phase message)
display-no-report none (Asked stop_wished) message = asked-no-report DisplayDialogue stop_wished message
display-no-report none (Begun stop_sent statuses) Ack = λ as_report. as_report
display-no-report none (Begun stop_sent statuses) (Nack error_code) = λ as_report. as_report
display-no-report none (Begun stop_sent statuses) (Intermediate intermediate_status) = λ as_report. as_report
display-no-report none (Begun stop_sent statuses) (Line text) = λ as_report. as_report
display-no-report none (Begun stop_sent statuses) (Block objects) = λ as_report. as_report
display-no-report none (Begun stop_sent statuses) (Status fields) = λ as_report. as_report
display-no-report none (Begun stop_sent statuses) Completion = λ as_report. as_report
display-no-report none (Begun stop_sent statuses) (Abort None) = λ as_report. as_report
display-no-report none (Begun stop_sent statuses) (Abort (Some result_code)) = neither (eqb result_code 0) heard.Unclear heard.Unclear (λ as_report. as_report) (λ as_report. as_report)
display-no-report none (Begun stop_sent statuses) Other = λ as_report. as_report
display-no-report none (Ended stop_sent) message = λ as_report. as_report

-- so nothing that is served has such a report
served-no-report : (service : Service) (dialogue_kind : DialogueKind) → IsKindOfService service dialogue_kind → (none : ℕ) (phase : Phase) (message : MessageValue) → IsNoReport (meaning_in_phase dialogue_kind none phase message)
served-no-report (Transaction slot) dialogue_kind is none phase message = transactions-no-report dialogue_kind is none phase message
served-no-report (EndOfDay header period) dialogue_kind is none phase message = subst (λ (k : DialogueKind). IsNoReport (meaning_in_phase k none phase message)) (sym is) (day-no-report none phase message)
served-no-report (Display header results) dialogue_kind is none phase message = subst (λ (k : DialogueKind). IsNoReport (meaning_in_phase k none phase message)) (sym is) (display-no-report none phase message)

-- ---- only an enquiry does

runs-no-report : (dialogue_kind : DialogueKind) (terminal : Terminal) (message : MessageValue) (facts : TalkFacts) → terminal.talk ≡ Some facts → facts.dialogue_kind ≡ dialogue_kind
    → ((none : ℕ) (phase : Phase) (one : MessageValue) → IsNoReport (meaning_in_phase dialogue_kind none phase one)) → IsNoReport (meaning_at terminal message)
runs-no-report dialogue_kind terminal message facts talk_is kind_is never as_report =
    let means : meaning_at terminal message ≡ meaning_in_phase dialogue_kind facts.none facts.phase (taken_as terminal.awaited message) =
    ap (λ (talk : Option TalkFacts). meaning_for talk (taken_as terminal.awaited message)) talk_is
    ∙ ap (λ (k : DialogueKind). meaning_in_phase k facts.none facts.phase (taken_as terminal.awaited message)) kind_is in
    never facts.none facts.phase (taken_as terminal.awaited message) (subst IsReport means as_report)

serves-no-report : (terminal : Terminal) (message : MessageValue) (service : Service) → RunsService service terminal.talk terminal.awaited → IsNoReport (meaning_at terminal message)
serves-no-report terminal message service runs = runs-no-report runs.facts.dialogue_kind terminal message runs.facts runs.talk_is refl (served-no-report service runs.facts.dialogue_kind runs.kind_is)

none-no-report : (terminal : Terminal) (message : MessageValue) → terminal.talk ≡ None → IsNoReport (meaning_at terminal message)
none-no-report terminal message none as_report = subst IsReport (ap (λ (talk : Option TalkFacts). meaning_for talk (taken_as terminal.awaited message)) none) as_report

-- only a terminal that is enquired reports
pub report-enquires : (terminal : Terminal) (message : MessageValue) (standing : Standing) → IsDialogueOf standing terminal.talk terminal.awaited → standing ≢ Enquiring → IsNoReport (meaning_at terminal message)
report-enquires terminal message (Unlinked due) runs apart = none-no-report terminal message runs.none
report-enquires terminal message Registering runs apart = runs-no-report Registration terminal message runs.facts runs.talk_is runs.kind_is registration-no-report
report-enquires terminal message Enquiring runs apart = absurd (apart refl)
report-enquires terminal message (Ready last) runs apart = none-no-report terminal message runs
report-enquires terminal message (Serving service last) runs apart = serves-no-report terminal message service runs
report-enquires terminal message (Aside before reported) runs apart = none-no-report terminal message runs

-- ---- ends

by-approval : (command : Option ℕ) (figures : Figures) (ending : Ending) → option_map (λ place. Approved place figures) command ≡ Some ending → is_report ending ≡ true → ⊥
by-approval None figures ending is reports = cc
by-approval (Some place) figures ending is reports = let same : Approved place figures ≡ ending = same_Some (Approved place figures) ending is in let e : false ≡ true = ap is_report same ∙ reports in cc

by-decline : (command trace : Option ℕ) (ending : Ending) → option_map (λ place. Declined place trace) command ≡ Some ending → is_report ending ≡ true → ⊥
by-decline None trace ending is reports = cc
by-decline (Some place) trace ending is reports = let same : Declined place trace ≡ ending = same_Some (Declined place trace) ending is in let e : false ≡ true = ap is_report same ∙ reports in cc

-- an end that is a report was reported
pub report-meant : (command : Option ℕ) (meant : Heard) (ending : Ending) → ending_with command meant ≡ Some ending → is_report ending ≡ true → IsReport meant
report-meant command (heard.Begun stop) ending is reports = cc
report-meant command (heard.Note intermediate_status) ending is reports = cc
report-meant command heard.Line ending is reports = cc
report-meant command heard.Block ending is reports = cc
report-meant command heard.Seen ending is reports = cc
report-meant command (heard.Approved figures) ending is reports = by-approval command figures ending is reports
report-meant command heard.Done ending is reports = cc
report-meant command (heard.Told trace figures result_code) ending is reports = tt
report-meant command (heard.Declined result_code trace) ending is reports = by-decline command trace ending is reports
report-meant command heard.Unclear ending is reports = cc
report-meant command heard.Stray ending is reports = cc

-- the end that a message of a terminal brings passes a test
pub record PassesHere (past : Past) (message : MessageValue) (terminal : Terminal) (test : HeardEnd → Bool) : Type 0 where
  pub ending : Ending
  pub ending_is : ending_at past terminal message ≡ Some ending
  pub passes : test (record { place = past.heard; numbering = numbering_at terminal.pt; ending = ending }) ≡ true

or-nothing : (b : Bool) → (b || false) ≡ true → b ≡ true
or-nothing true is = refl
or-nothing false is = is

pub end-here : (past : Past) (message : MessageValue) (terminal : Terminal) (test : HeardEnd → Bool) → list_any test (ends_by past message terminal) ≡ true → PassesHere past message terminal test
end-here past message terminal test some = by-ending (ending_at past terminal message) refl some
  where
    by-ending : (found : Option Ending) → ending_at past terminal message ≡ found
        → list_any test (map (λ (ending : Ending). record { place = past.heard; numbering = numbering_at terminal.pt; ending = ending }) (option_to_list found)) ≡ true → PassesHere past message terminal test
    by-ending None is any = absurd cc
    by-ending (Some ending) is any = record { ending = ending; ending_is = is; passes = or-nothing _ any }
