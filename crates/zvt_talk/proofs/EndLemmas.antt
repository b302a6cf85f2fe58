-- What ends a dialogue.
use Rattle.std.proofs.Common.{◌≡◌, ℕ, ℤ, Bool, true, false, not, cond, eqb, Option, Some, None, refl, sym, ap}
use Rattle.gw_base.specs.declared.figures.Figures.{Figures}
use Rattle.zvt_bmp.specs.declared.fields.Fields.{Fields}
use Rattle.zvt_msg.specs.Message.{MessageValue, Ack, Nack, Intermediate, Line, Block, Status, Completion, Abort, Other}
use Rattle.zvt_talk.specs.declared.dialogue_kind.DialogueKind.{DialogueKind}
use Rattle.zvt_talk.specs.declared.dialogue_kind.DialogueKind.TheVariants.{Registration, Enquiry, Payment, Reversal, EndOfDay, Display}
use Rattle.zvt_talk.specs.declared.meaning.Heard.{Heard}
use Rattle.zvt_talk.specs.declared.meaning.Heard.TheVariants as heard
use Rattle.zvt_talk.specs.declared.phase.Phase.{Phase}
use Rattle.zvt_talk.specs.declared.phase.Phase.TheVariants.{Asked, Begun, Ended}
use Rattle.zvt_talk.specs.declared.statuses.Statuses.{Statuses}
use Rattle.zvt_talk.specs.Dialogue.{is_display}
use Rattle.zvt_talk.specs.Came.{is_taken}
use Rattle.zvt_talk.specs.Table.{approved_with, meaning_of_abort, meaning_of_abort_with, acknowledged, meaning_of_completion, declined, declined_unless, enquiry_aborted, enquiry_completed, enquiry_result, full_figures, service_completed, service_result, enquiry_approved, transaction_completed, transaction_result}
use Rattle.zvt_talk.specs.Talk.{TalkFacts, talk_goes_on, is_end, is_open_phase}
use Rattle.zvt_talk.specs.TalkSteps.{meaning_in_phase, next_phase, next_talk}

either_ends : (b : Bool) (x y : Heard) → is_end x ≡ true → is_end y ≡ true → is_end (cond b x y) ≡ true
either_ends true x y p q = p
either_ends false x y p q = q

unless_ends : (b : Bool) (statuses : Statuses) (result_code : ℕ) → is_end (declined_unless b statuses result_code) ≡ true
unless_ends true statuses result_code = refl
unless_ends false statuses result_code = refl

approved_ends : (figures : Option Figures) → is_end (approved_with figures) ≡ true
approved_ends None = refl
approved_ends (Some figures) = refl

reported_ends : (trace : ℕ) (figures : Option Figures) → is_end (enquiry_approved trace figures) ≡ true
reported_ends trace None = refl
reported_ends trace (Some figures) = refl

result_ends : (statuses : Statuses) (status : Fields) (result : Option ℕ) → is_end (transaction_result statuses status result) ≡ true
result_ends statuses status None = refl
result_ends statuses status (Some result_code) =
    either_ends (eqb result_code 0) (approved_with (full_figures status)) (declined_unless statuses.approved statuses result_code)
    (approved_ends (full_figures status)) (unless_ends statuses.approved statuses result_code)

transaction_ends : (statuses : Statuses) (last : Option Fields) → is_end (transaction_completed statuses last) ≡ true
transaction_ends statuses None = refl
transaction_ends statuses (Some status) = result_ends statuses status status.result

enquiry_ends : (status : Fields) (result trace : Option ℕ) → is_end (enquiry_result status result trace) ≡ true
enquiry_ends status None trace = refl
enquiry_ends status (Some result_code) None = refl
enquiry_ends status (Some result_code) (Some trace) = either_ends (eqb result_code 0) (enquiry_approved trace (full_figures status)) (heard.Told trace None result_code) (reported_ends trace (full_figures status)) refl

enquiry_over : (last : Option Fields) → is_end (enquiry_completed last) ≡ true
enquiry_over None = refl
enquiry_over (Some status) = enquiry_ends status status.result status.trace

service_ends : (statuses : Statuses) (result : Option ℕ) → is_end (service_result statuses result) ≡ true
service_ends statuses None = refl
service_ends statuses (Some result_code) = either_ends (eqb result_code 0) heard.Done (declined statuses result_code) refl refl

service_over : (statuses : Statuses) (last : Option Fields) → is_end (service_completed statuses last) ≡ true
service_over statuses None = refl
service_over statuses (Some status) = service_ends statuses status.result

pub completed_ends : (dialogue_kind : DialogueKind) (statuses : Statuses) → is_end (meaning_of_completion dialogue_kind statuses) ≡ true
completed_ends Registration statuses = service_over statuses statuses.last
completed_ends Enquiry statuses = enquiry_over statuses.last
completed_ends Payment statuses = transaction_ends statuses statuses.last
completed_ends Reversal statuses = transaction_ends statuses statuses.last
completed_ends EndOfDay statuses = service_over statuses statuses.last
completed_ends Display statuses = refl

none_ends : (none : ℕ) (last : Option Fields) (result_code : ℕ) → is_end (enquiry_aborted none last result_code) ≡ true
none_ends none None result_code = either_ends (eqb result_code none) (heard.Told 0 None result_code) heard.Unclear refl refl
none_ends none (Some status) result_code = refl

aborted_with_ends : (dialogue_kind : DialogueKind) (none : ℕ) (statuses : Statuses) (result_code : ℕ) → is_end (meaning_of_abort_with dialogue_kind none statuses result_code) ≡ true
aborted_with_ends Registration none statuses result_code = refl
aborted_with_ends Enquiry none statuses result_code = none_ends none statuses.last result_code
aborted_with_ends Payment none statuses result_code = unless_ends statuses.approved statuses result_code
aborted_with_ends Reversal none statuses result_code = unless_ends statuses.approved statuses result_code
aborted_with_ends EndOfDay none statuses result_code = refl
aborted_with_ends Display none statuses result_code = refl

pub aborted_ends : (dialogue_kind : DialogueKind) (none : ℕ) (statuses : Statuses) (result_code : Option ℕ) → is_end (meaning_of_abort dialogue_kind none statuses result_code) ≡ true
aborted_ends dialogue_kind none statuses None = refl
aborted_ends dialogue_kind none statuses (Some result_code) = either_ends (eqb result_code 0) heard.Unclear (meaning_of_abort_with dialogue_kind none statuses result_code) refl (aborted_with_ends dialogue_kind none statuses result_code)

acknowledged_ends : (display stop_wished : Bool) (statuses : Statuses) → is_open_phase (cond (not display) (Begun stop_wished statuses) (Ended false)) ≡ not (is_end (acknowledged display stop_wished))
acknowledged_ends true stop_wished statuses = refl
acknowledged_ends false stop_wished statuses = refl

asked_ends : (dialogue_kind : DialogueKind) (none : ℕ) (stop_wished : Bool) (message : MessageValue) → is_taken message ≡ true
    → is_open_phase (next_phase dialogue_kind (Asked stop_wished) message) ≡ not (is_end (meaning_in_phase dialogue_kind none (Asked stop_wished) message))
asked_ends dialogue_kind none stop_wished Ack is = acknowledged_ends (is_display dialogue_kind) stop_wished (record { last = None; approved = false })
asked_ends dialogue_kind none stop_wished (Nack error_code) is = sym (ap not (either_ends (eqb error_code 0) heard.Unclear (heard.Declined error_code None) refl refl))
asked_ends dialogue_kind none stop_wished (Intermediate intermediate_status) is = refl
asked_ends dialogue_kind none stop_wished (Line text) is = refl
asked_ends dialogue_kind none stop_wished (Block objects) is = refl
asked_ends dialogue_kind none stop_wished (Status fields) is = refl
asked_ends dialogue_kind none stop_wished Completion is = refl
asked_ends dialogue_kind none stop_wished (Abort result_code) is = refl
asked_ends dialogue_kind none stop_wished Other is = absurd cc

begun_ends : (dialogue_kind : DialogueKind) (none : ℕ) (stop_sent : Bool) (statuses : Statuses) (message : MessageValue) → is_taken message ≡ true
    → is_open_phase (next_phase dialogue_kind (Begun stop_sent statuses) message) ≡ not (is_end (meaning_in_phase dialogue_kind none (Begun stop_sent statuses) message))
begun_ends dialogue_kind none stop_sent statuses Ack is = refl
begun_ends dialogue_kind none stop_sent statuses (Nack error_code) is = refl
begun_ends dialogue_kind none stop_sent statuses (Intermediate intermediate_status) is = refl
begun_ends dialogue_kind none stop_sent statuses (Line text) is = refl
begun_ends dialogue_kind none stop_sent statuses (Block objects) is = refl
begun_ends dialogue_kind none stop_sent statuses (Status fields) is = refl
begun_ends dialogue_kind none stop_sent statuses Completion is = sym (ap not (completed_ends dialogue_kind statuses))
begun_ends dialogue_kind none stop_sent statuses (Abort result_code) is = sym (ap not (aborted_ends dialogue_kind none statuses result_code))
begun_ends dialogue_kind none stop_sent statuses Other is = absurd cc

phase_ends : (dialogue_kind : DialogueKind) (none : ℕ) (phase : Phase) (message : MessageValue) → is_taken message ≡ true → is_open_phase phase ≡ true
    → is_open_phase (next_phase dialogue_kind phase message) ≡ not (is_end (meaning_in_phase dialogue_kind none phase message))
phase_ends dialogue_kind none (Asked stop_wished) message is open_ = asked_ends dialogue_kind none stop_wished message is
phase_ends dialogue_kind none (Begun stop_sent statuses) message is open_ = begun_ends dialogue_kind none stop_sent statuses message is
phase_ends dialogue_kind none (Ended stop_sent) message is open_ = absurd cc

stray_open : (dialogue_kind : DialogueKind) (none : ℕ) (phase : Phase) → is_open_phase phase ≡ true → is_open_phase phase ≡ not (is_end (meaning_in_phase dialogue_kind none phase Other))
stray_open dialogue_kind none (Asked stop_wished) open_ = refl
stray_open dialogue_kind none (Begun stop_sent statuses) open_ = refl
stray_open dialogue_kind none (Ended stop_sent) open_ = absurd cc

-- a dialogue goes on exactly where the message did not end it
pub talk_ends : (talk : TalkFacts) (message : MessageValue) (now : ℤ) → talk_goes_on talk ≡ true
    → talk_goes_on (next_talk talk message now) ≡ not (is_end (meaning_in_phase talk.dialogue_kind talk.none talk.phase message))
talk_ends talk Ack now open_ = phase_ends talk.dialogue_kind talk.none talk.phase Ack refl open_
talk_ends talk (Nack error_code) now open_ = phase_ends talk.dialogue_kind talk.none talk.phase (Nack error_code) refl open_
talk_ends talk (Intermediate intermediate_status) now open_ = phase_ends talk.dialogue_kind talk.none talk.phase (Intermediate intermediate_status) refl open_
talk_ends talk (Line text) now open_ = phase_ends talk.dialogue_kind talk.none talk.phase (Line text) refl open_
talk_ends talk (Block objects) now open_ = phase_ends talk.dialogue_kind talk.none talk.phase (Block objects) refl open_
talk_ends talk (Status fields) now open_ = phase_ends talk.dialogue_kind talk.none talk.phase (Status fields) refl open_
talk_ends talk Completion now open_ = phase_ends talk.dialogue_kind talk.none talk.phase Completion refl open_
talk_ends talk (Abort result_code) now open_ = phase_ends talk.dialogue_kind talk.none talk.phase (Abort result_code) refl open_
talk_ends talk Other now open_ = stray_open talk.dialogue_kind talk.none talk.phase open_
