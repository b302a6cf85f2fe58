-- What a dialogue reports fits the fields that it came in.
use Rattle.std.proofs.Common.{◌≡◌, ℕ, ◌^◌, ◌<◌, ◌⊎◌, inl, inr, true, List, [], ◌∷◌, Option, None, Some, Ok, ap, subst, sym}
use Rattle.std.specs.Prelude.{IfSome}
use native.Mathlib.Omega.{arith}
use Rattle.std.specs.List.{filter_map, last_or}
use Rattle.gw_base.specs.Limits.{IsTrace}
use Rattle.gw_base.specs.declared.figures.Figures.{Figures}
use Rattle.zvt_apdu.specs.Grammar.{ApduValue}
use Rattle.zvt_bmp.specs.declared.fields.Fields.{Fields}
use Rattle.zvt_bmp.specs.Canonical.{HasFieldDigits}
use Rattle.zvt_msg.specs.MessageDecode.{decode_pt_message}
use Rattle.zvt_msg.specs.Numbers.{NumbersFitFields}
use Rattle.zvt_msg.specs.Message.{MessageValue, Ack, Nack, Intermediate, Line, Block, Status, Completion, Abort, Other}
use Rattle.zvt_talk.specs.declared.dialogue_kind.DialogueKind.{DialogueKind}
use Rattle.zvt_talk.specs.declared.dialogue_kind.DialogueKind.TheVariants.{Registration, Enquiry, Payment, Reversal, EndOfDay, Display}
use Rattle.zvt_talk.specs.declared.meaning.Heard.TheVariants as heard
use Rattle.zvt_talk.specs.Dialogue.{Dialogue}
use Rattle.zvt_talk.specs.Came.{Came, status_fields_of, last_status, messages}
use Rattle.zvt_talk.specs.Table.{trace_of}
use Rattle.zvt_talk.specs.Talk.{meaning, is_end}
use Rattle.zvt_talk.specs.Laws.{HasFigures, IsEndOf, IsEnquiry, IsEnquiryOrDisplay, IsService, IsTransaction, RefusedAtOnce, RefusesCommand, ReportsLastTransaction, ReportsNoTransaction}
use Rattle.zvt_talk.specs.Limits.{AreAtLeastOne, FiguresFitFields, FiguresFitRecord, AllNumbersFitFields, WereRead}

last_digits : (before : Option Fields) (taken : List MessageValue) → IfSome before HasFieldDigits → AllNumbersFitFields taken → IfSome (last_or before (filter_map status_fields_of taken)) HasFieldDigits
last_digits before [] has all = has
last_digits before (Ack ∷ taken) has all = last_digits before taken has all.1
last_digits before (Nack error_code ∷ taken) has all = last_digits before taken has all.1
last_digits before (Intermediate intermediate_status ∷ taken) has all = last_digits before taken has all.1
last_digits before (Line text ∷ taken) has all = last_digits before taken has all.1
last_digits before (Block objects ∷ taken) has all = last_digits before taken has all.1
last_digits before (Status fields ∷ taken) has all = last_digits (Some fields) taken all.0 all.1
last_digits before (Completion ∷ taken) has all = last_digits before taken has all.1
last_digits before (Abort result_code ∷ taken) has all = last_digits before taken has all.1
last_digits before (Other ∷ taken) has all = last_digits before taken has all.1

status_digits : (came : List Came) (status : Fields) → AllNumbersFitFields (messages came) → last_status came ≡ Some status → HasFieldDigits status
status_digits came status all last =
    let P : Option Fields → Type 0 = λ o. IfSome o HasFieldDigits in
    subst P last (last_digits None (messages came) tt all)

pub within_fields : (came : List Came) (status : Fields) (figures : Figures) → AllNumbersFitFields (messages came) → last_status came ≡ Some status → HasFigures status figures → FiguresFitFields figures
within_fields came status figures all last full =
    let digits : HasFieldDigits status = status_digits came status all last in
    let N : Option ℕ → Type 0 = λ o. IfSome o (λ n. n < 100 ^ 3) in
    let R : Option ℕ → Type 0 = λ o. IfSome o (λ n. n < 100 ^ 2) in
    let A : Option ℕ → Type 0 = λ o. IfSome o (λ n. n < 100 ^ 6) in
    record { trace = subst N full.trace digits.trace; receipt = subst R full.receipt digits.receipt; amount = subst A full.amount digits.amount }

-- full figures have a number and an amount above 0
pub at_least_one : (status : Fields) (figures : Figures) → HasFigures status figures → AreAtLeastOne figures
at_least_one status figures full = record { trace = full.first_trace; amount = full.some_amount }

-- ---- what an enquiry reports

only_enquiry_reports : (dialogue_kind : DialogueKind) (trace : ℕ) (approved : Option Figures) (result_code : ℕ) → IsEndOf dialogue_kind (heard.Told trace approved result_code) → IsEnquiry dialogue_kind
only_enquiry_reports Registration trace approved result_code is = absurd is
only_enquiry_reports Enquiry trace approved result_code is = tt
only_enquiry_reports Payment trace approved result_code is = absurd is
only_enquiry_reports Reversal trace approved result_code is = absurd is
only_enquiry_reports EndOfDay trace approved result_code is = absurd is
only_enquiry_reports Display trace approved result_code is = absurd is

-- only an enquiry reports a transaction
pub reported_by_enquiry : (dialogue : Dialogue) (came : List Came) (message : MessageValue) (trace : ℕ) (approved : Option Figures) (result_code : ℕ)
    → (is_end (meaning dialogue came message) ≡ true → IsEndOf dialogue.dialogue_kind (meaning dialogue came message))
    → meaning dialogue came message ≡ heard.Told trace approved result_code → IsEnquiry dialogue.dialogue_kind
reported_by_enquiry dialogue came message trace approved result_code means is =
    only_enquiry_reports dialogue.dialogue_kind trace approved result_code (subst (IsEndOf dialogue.dialogue_kind) is (means (ap is_end is)))

-- the figures are those of the last status
pub reported_figures : (dialogue : Dialogue) (came : List Came) (message : MessageValue) (trace : ℕ) (figures : Figures) (result_code : ℕ)
    → (ReportsLastTransaction came message trace (Some figures) result_code ⊎ ReportsNoTransaction dialogue came message trace (Some figures) result_code)
    → (status : Fields) × (last_status came ≡ Some status) × HasFigures status figures
reported_figures dialogue came message trace figures result_code (inl last) = (last.status, last.last, last.reported.1)
reported_figures dialogue came message trace figures result_code (inr none) = let no : Some figures ≡ None = none.no_figures in absurd cc

zero_fits : (trace : ℕ) → trace ≡ 0 → trace < 100 ^ 3
zero_fits trace is = omega arith

pub reported_trace : (dialogue : Dialogue) (came : List Came) (message : MessageValue) (trace : ℕ) (approved : Option Figures) (result_code : ℕ)
    → AllNumbersFitFields (messages came)
    → (ReportsLastTransaction came message trace approved result_code ⊎ ReportsNoTransaction dialogue came message trace approved result_code)
    → trace < 100 ^ 3
reported_trace dialogue came message trace approved result_code all (inl last) =
    let N : Option ℕ → Type 0 = λ o. IfSome o (λ n. n < 100 ^ 3) in
    subst N last.its_trace (status_digits came last.status all last.last).trace
reported_trace dialogue came message trace approved result_code all (inr none) = zero_fits trace none.no_trace

-- ---- the trace number of what is declined

trace_below : (last : Option Fields) → IfSome last HasFieldDigits → IfSome (trace_of last) (λ n. n < 100 ^ 3)
trace_below None digits = tt
trace_below (Some status) digits = digits.trace

refused_at_once_trace : (came : List Came) (message : MessageValue) (result_code trace : ℕ) → RefusedAtOnce came message result_code (Some trace) → trace < 100 ^ 3
refused_at_once_trace came message result_code trace refused = let no : Some trace ≡ None = refused.no_trace in absurd cc

refused_trace : (came : List Came) (message : MessageValue) (result_code trace : ℕ) → AllNumbersFitFields (messages came) → RefusesCommand came message result_code (Some trace) → trace < 100 ^ 3
refused_trace came message result_code trace all (some, inl refused) = refused_at_once_trace came message result_code trace refused
refused_trace came message result_code trace all (some, inr refused) =
    let N : Option ℕ → Type 0 = λ o. IfSome o (λ n. n < 100 ^ 3) in
    subst N (sym refused.its_trace) (trace_below (last_status came) (last_digits None (messages came) tt all))

-- by the kind of the dialogue: only what is refused later has a number
pub declined_trace : (dialogue_kind : DialogueKind) (came : List Came) (message : MessageValue) (result_code trace : ℕ)
    → AllNumbersFitFields (messages came)
    → (IsTransaction dialogue_kind → RefusesCommand came message result_code (Some trace))
    → (IsService dialogue_kind → RefusesCommand came message result_code (Some trace))
    → (IsEnquiryOrDisplay dialogue_kind → RefusedAtOnce came message result_code (Some trace))
    → trace < 100 ^ 3
declined_trace Registration came message result_code trace all transaction service other = refused_trace came message result_code trace all (service tt)
declined_trace Enquiry came message result_code trace all transaction service other = refused_at_once_trace came message result_code trace (other tt)
declined_trace Payment came message result_code trace all transaction service other = refused_trace came message result_code trace all (transaction tt)
declined_trace Reversal came message result_code trace all transaction service other = refused_trace came message result_code trace all (transaction tt)
declined_trace EndOfDay came message result_code trace all transaction service other = refused_trace came message result_code trace all (service tt)
declined_trace Display came message result_code trace all transaction service other = refused_at_once_trace came message result_code trace (other tt)

-- ---- messages that were read

-- what was read has its numbers within their fields
abbrev pub ReadFits : Type 0
ReadFits = (apdu : ApduValue) (message : MessageValue) → decode_pt_message apdu ≡ Ok message → NumbersFitFields message

pub read_fit : ReadFits → (messages : List MessageValue) → WereRead messages → AllNumbersFitFields messages
read_fit fits [] read = tt
read_fit fits (message ∷ messages) ((apdu, is), read) = (fits apdu message is, read_fit fits messages read)

pub fit_record : (figures : Figures) → FiguresFitFields figures → AreAtLeastOne figures → FiguresFitRecord figures
fit_record figures fit least = record {
  first_trace = least.trace;
  trace = omega (arith, fit.trace);
  receipt = omega (arith, fit.receipt);
  amount = (least.amount, omega (arith, fit.amount));
}

pub trace_within : (trace : ℕ) → trace < 100 ^ 3 → IsTrace trace
trace_within trace below = omega (arith, below)
