-- Only an intermediate status of the terminal is heard as one.
use Rattle.std.proofs.Common.{◌≡◌, ◌∙◌, ℕ, Bool, true, false, cond, eqb, refl, sym, ap}
use Rattle.std.specs.Prelude.{Option, Some, None}
use Rattle.gw_base.specs.declared.figures.Figures.{Figures}
use Rattle.zvt_bmp.specs.declared.fields.Fields.{Fields}
use Rattle.zvt_msg.specs.Message.{MessageValue, Ack, Nack, Intermediate, Line, Block, Status, Completion, Abort, Other}
use Rattle.zvt_talk.specs.declared.dialogue_kind.DialogueKind.{DialogueKind}
use Rattle.zvt_talk.specs.declared.dialogue_kind.DialogueKind.TheVariants.{Registration, Enquiry, Payment, Reversal, EndOfDay, Display}
use Rattle.zvt_talk.specs.declared.meaning.Heard.{Heard}
use Rattle.zvt_talk.specs.declared.meaning.Heard.TheVariants as heard
use Rattle.zvt_talk.specs.declared.phase.Phase.{Phase}
use Rattle.zvt_talk.specs.declared.phase.Phase.TheVariants.{Asked, Begun, Ended}
use Rattle.zvt_talk.specs.declared.statuses.Statuses.{Statuses}
use Rattle.zvt_talk.specs.Dialogue.{is_display}
use Rattle.zvt_talk.specs.Table.{acknowledged, approved_with, declined, declined_unless, enquiry_aborted, enquiry_approved, enquiry_completed, enquiry_result, full_figures, meaning_of_abort, meaning_of_abort_with, meaning_of_completion, meaning_when_asked, service_completed, service_result, transaction_completed, transaction_result}
use Rattle.zvt_talk.specs.Talk.{TalkFacts}
use Rattle.zvt_talk.specs.TalkSteps.{meaning_in_phase}
use Rattle.gw_owes.specs.Handling.{meaning_for, taken_as}

-- the intermediate status that is heard, where one is
abbrev note_in : Heard → Option ℕ
note_in (heard.Begun stop) = None
note_in (heard.Note intermediate_status) = Some intermediate_status
note_in heard.Line = None
note_in heard.Block = None
note_in heard.Seen = None
note_in (heard.Approved figures) = None
note_in heard.Done = None
note_in (heard.Told trace figures result_code) = None
note_in (heard.Declined result_code trace) = None
note_in heard.Unclear = None
note_in heard.Stray = None

-- ---- parts of the table

either : (b : Bool) (one other : Heard) → note_in one ≡ None → note_in other ≡ None → note_in (cond b one other) ≡ None
either true one other p q = p
either false one other p q = q

unless-approved : (approved : Bool) (statuses : Statuses) (result_code : ℕ) → note_in (declined_unless approved statuses result_code) ≡ None
unless-approved true statuses result_code = refl
unless-approved false statuses result_code = refl

with-figures : (figures : Option Figures) → note_in (approved_with figures) ≡ None
with-figures None = refl
with-figures (Some figures) = refl

reported-figures : (trace : ℕ) (figures : Option Figures) → note_in (enquiry_approved trace figures) ≡ None
reported-figures trace None = refl
reported-figures trace (Some figures) = refl

service-result : (statuses : Statuses) (result : Option ℕ) → note_in (service_result statuses result) ≡ None
service-result statuses None = refl
service-result statuses (Some result_code) = either (eqb result_code 0) heard.Done (declined statuses result_code) refl refl

service-ends : (statuses : Statuses) (last : Option Fields) → note_in (service_completed statuses last) ≡ None
service-ends statuses None = refl
service-ends statuses (Some status) = service-result statuses status.result

transaction-result : (statuses : Statuses) (status : Fields) (result : Option ℕ) → note_in (transaction_result statuses status result) ≡ None
transaction-result statuses status None = refl
transaction-result statuses status (Some result_code) =
    either (eqb result_code 0) (approved_with (full_figures status)) (declined_unless statuses.approved statuses result_code) (with-figures (full_figures status)) (unless-approved statuses.approved statuses result_code)

transaction-ends : (statuses : Statuses) (last : Option Fields) → note_in (transaction_completed statuses last) ≡ None
transaction-ends statuses None = refl
transaction-ends statuses (Some status) = transaction-result statuses status status.result

enquiry-result : (status : Fields) (result trace : Option ℕ) → note_in (enquiry_result status result trace) ≡ None
enquiry-result status None trace = refl
enquiry-result status (Some result_code) None = refl
enquiry-result status (Some result_code) (Some trace) =
    either (eqb result_code 0) (enquiry_approved trace (full_figures status)) (heard.Told trace None result_code) (reported-figures trace (full_figures status)) refl

enquiry-ends : (last : Option Fields) → note_in (enquiry_completed last) ≡ None
enquiry-ends None = refl
enquiry-ends (Some status) = enquiry-result status status.result status.trace

enquiry-aborts : (none : ℕ) (last : Option Fields) (result_code : ℕ) → note_in (enquiry_aborted none last result_code) ≡ None
enquiry-aborts none None result_code = either (eqb result_code none) (heard.Told 0 None result_code) heard.Unclear refl refl
enquiry-aborts none (Some status) result_code = refl

-- ---- messages

completed : (dialogue_kind : DialogueKind) (statuses : Statuses) → note_in (meaning_of_completion dialogue_kind statuses) ≡ None
completed Registration statuses = service-ends statuses statuses.last
completed Enquiry statuses = enquiry-ends statuses.last
completed Payment statuses = transaction-ends statuses statuses.last
completed Reversal statuses = transaction-ends statuses statuses.last
completed EndOfDay statuses = service-ends statuses statuses.last
completed Display statuses = refl

aborted-with : (dialogue_kind : DialogueKind) (none : ℕ) (statuses : Statuses) (result_code : ℕ) → note_in (meaning_of_abort_with dialogue_kind none statuses result_code) ≡ None
aborted-with Registration none statuses result_code = refl
aborted-with Enquiry none statuses result_code = enquiry-aborts none statuses.last result_code
aborted-with Payment none statuses result_code = unless-approved statuses.approved statuses result_code
aborted-with Reversal none statuses result_code = unless-approved statuses.approved statuses result_code
aborted-with EndOfDay none statuses result_code = refl
aborted-with Display none statuses result_code = refl

aborted : (dialogue_kind : DialogueKind) (none : ℕ) (statuses : Statuses) (result : Option ℕ) → note_in (meaning_of_abort dialogue_kind none statuses result) ≡ None
aborted dialogue_kind none statuses None = refl
aborted dialogue_kind none statuses (Some result_code) =
    either (eqb result_code 0) heard.Unclear (meaning_of_abort_with dialogue_kind none statuses result_code) refl (aborted-with dialogue_kind none statuses result_code)

acknowledges : (shows stop_wished : Bool) → note_in (acknowledged shows stop_wished) ≡ None
acknowledges true stop_wished = refl
acknowledges false stop_wished = refl

asked : (dialogue_kind : DialogueKind) (stop_wished : Bool) (message : MessageValue) → note_in (meaning_when_asked dialogue_kind stop_wished message) ≡ None
asked dialogue_kind stop_wished Ack = acknowledges (is_display dialogue_kind) stop_wished
asked dialogue_kind stop_wished (Nack error_code) = either (eqb error_code 0) heard.Unclear (heard.Declined error_code None) refl refl
asked dialogue_kind stop_wished (Intermediate intermediate_status) = refl
asked dialogue_kind stop_wished (Line text) = refl
asked dialogue_kind stop_wished (Block objects) = refl
asked dialogue_kind stop_wished (Status fields) = refl
asked dialogue_kind stop_wished Completion = refl
asked dialogue_kind stop_wished (Abort result_code) = refl
asked dialogue_kind stop_wished Other = refl

none-some : (found : Option ℕ) (status : ℕ) → found ≡ None → found ≡ Some status → ⊥
none-some found status none some = let clash : None ≡ Some status = sym none ∙ some in cc

in-phase : (dialogue_kind : DialogueKind) (none : ℕ) (phase : Phase) (message : MessageValue) (status : ℕ) → note_in (meaning_in_phase dialogue_kind none phase message) ≡ Some status → message ≡ Intermediate status
in-phase dialogue_kind none (Asked stop_wished) message status is = absurd (none-some _ status (asked dialogue_kind stop_wished message) is)
in-phase dialogue_kind none (Begun stop_sent statuses) Ack status is = absurd cc
in-phase dialogue_kind none (Begun stop_sent statuses) (Nack error_code) status is = absurd cc
in-phase dialogue_kind none (Begun stop_sent statuses) (Intermediate intermediate_status) status is = let same : intermediate_status ≡ status = cc in ap Intermediate same
in-phase dialogue_kind none (Begun stop_sent statuses) (Line text) status is = absurd cc
in-phase dialogue_kind none (Begun stop_sent statuses) (Block objects) status is = absurd cc
in-phase dialogue_kind none (Begun stop_sent statuses) (Status fields) status is = absurd cc
in-phase dialogue_kind none (Begun stop_sent statuses) Completion status is = absurd (none-some _ status (completed dialogue_kind statuses) is)
in-phase dialogue_kind none (Begun stop_sent statuses) (Abort result_code) status is = absurd (none-some _ status (aborted dialogue_kind none statuses result_code) is)
in-phase dialogue_kind none (Begun stop_sent statuses) Other status is = absurd cc
in-phase dialogue_kind none (Ended stop_sent) message status is = absurd cc

-- it is taken as it came
taken-noted : (awaited : ℕ) (message : MessageValue) (status : ℕ) → taken_as awaited message ≡ Intermediate status → message ≡ Intermediate status
taken-noted awaited Ack status is = absurd cc
taken-noted awaited (Nack error_code) status is = absurd cc
taken-noted awaited (Intermediate intermediate_status) status is = is
taken-noted awaited (Line text) status is = absurd cc
taken-noted awaited (Block objects) status is = absurd cc
taken-noted awaited (Status fields) status is = absurd cc
taken-noted awaited Completion status is = absurd cc
taken-noted awaited (Abort result_code) status is = absurd cc
taken-noted awaited Other status is = absurd cc

-- what is heard as an intermediate status came as that
pub noted : (talk : Option TalkFacts) (awaited : ℕ) (message : MessageValue) (status : ℕ) → meaning_for talk (taken_as awaited message) ≡ heard.Note status → message ≡ Intermediate status
noted None awaited message status is = absurd cc
noted (Some facts) awaited message status is = taken-noted awaited message status (in-phase facts.dialogue_kind facts.none facts.phase (taken_as awaited message) status (ap note_in is))
