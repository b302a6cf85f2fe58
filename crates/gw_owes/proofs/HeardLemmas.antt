-- What a message that was read means lies within the limits of a record, and the dialogue goes on with what was read.
use Rattle.std.proofs.Common.{◌≡◌, ℕ, ◌^◌, ◌<◌, ◌≤◌, Bool, true, false, ◌&&◌, cond, eqb, leb, refl, arith}
use Rattle.std.specs.Prelude.{ℤ, Option, Some, None, IfSome, MatchOption, if◌then◌else◌, pos, ◌+ℤ◌}
use Rattle.std.specs.Option.{option_map}
use Rattle.std.proofs.lemmas.Bool.{and_parts, leb-true}
use Rattle.gw_base.specs.Limits.{IsTrace}
use Rattle.gw_base.specs.declared.figures.Figures.{Figures}
use Rattle.zvt_bmp.specs.declared.fields.Fields.{Fields}
use Rattle.zvt_msg.specs.Message.{MessageValue, Ack, Nack, Intermediate, Line, Block, Status, Completion, Abort, Other}
use Rattle.zvt_msg.specs.Numbers.{NumbersFitFields}
use Rattle.zvt_talk.specs.declared.dialogue_kind.DialogueKind.{DialogueKind}
use Rattle.zvt_talk.specs.declared.dialogue_kind.DialogueKind.TheVariants.{Registration, Enquiry, Payment, Reversal, EndOfDay, Display}
use Rattle.zvt_talk.specs.declared.meaning.Heard.TheVariants as heard
use Rattle.zvt_talk.specs.declared.phase.Phase.{Phase}
use Rattle.zvt_talk.specs.declared.phase.Phase.TheVariants.{Asked, Begun, Ended}
use Rattle.zvt_talk.specs.declared.statuses.Statuses.{Statuses}
use Rattle.zvt_talk.specs.Came.{is_taken}
use Rattle.zvt_talk.specs.Dialogue.{is_display}
use Rattle.zvt_talk.specs.Table.{acknowledged, approved_with, declined, declined_unless, enquiry_aborted, enquiry_approved, enquiry_completed, enquiry_result, figures_of, full_figures, meaning_of_abort, meaning_of_abort_with, meaning_of_completion, meaning_when_asked, meaning_when_begun, service_completed, service_result, trace_of, transaction_completed, transaction_result}
use Rattle.zvt_talk.specs.Talk.{TalkFacts}
use Rattle.zvt_talk.specs.TalkSteps.{meaning_in_phase, next_phase, next_talk, no_statuses}
use Rattle.gw_owes.specs.Handling.{meaning_for, taken_as}
use Rattle.gw_owes.specs.HeardLaws.{AreFiguresOf, FitsRecord, IsTraceOrNone}
use Rattle.gw_owes.specs.RecordLaws.{HasReadStatuses, IsTalkRead, WasLastRead}

-- what holds of both holds of each
pub of-both : {A : Type 0} (P : A → Type 0) (b : Bool) (one other : A) → P one → P other → P (cond b one other)
of-both P true one other p q = p
of-both P false one other p q = q

-- ---- what a message means

trace-fits : (trace : Option ℕ) → IfSome trace (λ n. n < 100 ^ 3) → IsTraceOrNone trace
trace-fits None digits = tt
trace-fits (Some trace) digits = omega (arith, digits)

last-trace-fits : (last : Option Fields) → WasLastRead last → IsTraceOrNone (trace_of last)
last-trace-fits None read = tt
last-trace-fits (Some status) read = trace-fits status.trace read.trace

-- the figures are those of the transaction with this trace number, which is there
abbrev AreFiguresOfStatus : Option ℕ → Figures → Type 0
AreFiguresOfStatus trace figures = MatchOption trace ⊥ (λ (number : ℕ). AreFiguresOf number figures)

figures-fit : (trace receipt amount : Option ℕ) → IfSome trace (λ n. n < 100 ^ 3) → IfSome receipt (λ n. n < 100 ^ 2) → IfSome amount (λ n. n < 100 ^ 6)
    → IfSome (figures_of trace receipt amount) (AreFiguresOfStatus trace)
figures-fit None receipt amount t r a = tt
figures-fit (Some trace) None amount t r a = tt
figures-fit (Some trace) (Some receipt) None t r a = tt
figures-fit (Some trace) (Some receipt) (Some amount) t r a = by-test (leb 1 trace && leb 1 amount) refl
  where
    by-test : (b : Bool) → (leb 1 trace && leb 1 amount) ≡ b → IfSome (if b then Some (record { number = trace; receipt = receipt; amount = amount }) else None) (AreFiguresOf trace)
    by-test false is = tt
    by-test true is =
        let parts = and_parts (leb 1 trace) (leb 1 amount) is in
        let first : 1 ≤ trace = leb-true 1 trace parts.0 in
        let some : 1 ≤ amount = leb-true 1 amount parts.1 in
        record {
          fit = record { first_trace = first; trace = omega (arith, t); receipt = omega (arith, r); amount = (some, omega (arith, a)) };
          number_is = refl;
        }

approved-with-fits : (trace : Option ℕ) (figures : Option Figures) → IfSome figures (AreFiguresOfStatus trace) → FitsRecord (approved_with figures)
approved-with-fits trace None are = tt
approved-with-fits None (Some figures) are = absurd are
approved-with-fits (Some trace) (Some figures) are = are.fit

declined-fits : (statuses : Statuses) (result_code : ℕ) → WasLastRead statuses.last → FitsRecord (declined statuses result_code)
declined-fits statuses result_code read = last-trace-fits statuses.last read

unless-fits : (approved : Bool) (statuses : Statuses) (result_code : ℕ) → WasLastRead statuses.last → FitsRecord (declined_unless approved statuses result_code)
unless-fits true statuses result_code read = tt
unless-fits false statuses result_code read = declined-fits statuses result_code read

transaction-result-fits : (statuses : Statuses) (status : Fields) (result : Option ℕ) → WasLastRead statuses.last → WasLastRead (Some status) → FitsRecord (transaction_result statuses status result)
transaction-result-fits statuses status None read digits = tt
transaction-result-fits statuses status (Some result_code) read digits =
    of-both FitsRecord (eqb result_code 0) (approved_with (full_figures status)) (declined_unless statuses.approved statuses result_code)
    (approved-with-fits status.trace (full_figures status) (figures-fit status.trace status.receipt status.amount digits.trace digits.receipt digits.amount)) (unless-fits statuses.approved statuses result_code read)

transaction-fits : (statuses : Statuses) (last : Option Fields) → WasLastRead statuses.last → WasLastRead last → FitsRecord (transaction_completed statuses last)
transaction-fits statuses None read digits = tt
transaction-fits statuses (Some status) read digits = transaction-result-fits statuses status status.result read digits

approved-fits : (trace : ℕ) (figures : Option Figures) → IsTrace trace → IfSome figures (AreFiguresOf trace) → FitsRecord (enquiry_approved trace figures)
approved-fits trace None within are = tt
approved-fits trace (Some figures) within are = record { within = within; figures = are }

enquiry-result-fits : (status : Fields) (result trace : Option ℕ) → IsTraceOrNone trace → IfSome (full_figures status) (AreFiguresOfStatus trace) → FitsRecord (enquiry_result status result trace)
enquiry-result-fits status None trace within are = tt
enquiry-result-fits status (Some result_code) None within are = tt
enquiry-result-fits status (Some result_code) (Some trace) within are =
    of-both FitsRecord (eqb result_code 0) (enquiry_approved trace (full_figures status)) (heard.Told trace None result_code)
    (approved-fits trace (full_figures status) within are) (record { within = within; figures = tt })

enquiry-fits : (last : Option Fields) → WasLastRead last → FitsRecord (enquiry_completed last)
enquiry-fits None read = tt
enquiry-fits (Some status) read =
    enquiry-result-fits status status.result status.trace (trace-fits status.trace read.trace) (figures-fit status.trace status.receipt status.amount read.trace read.receipt read.amount)

service-result-fits : (statuses : Statuses) (result : Option ℕ) → WasLastRead statuses.last → FitsRecord (service_result statuses result)
service-result-fits statuses None read = tt
service-result-fits statuses (Some result_code) read = of-both FitsRecord (eqb result_code 0) heard.Done (declined statuses result_code) tt (declined-fits statuses result_code read)

service-fits : (statuses : Statuses) (last : Option Fields) → WasLastRead statuses.last → FitsRecord (service_completed statuses last)
service-fits statuses None read = tt
service-fits statuses (Some status) read = service-result-fits statuses status.result read

completion-fits : (dialogue_kind : DialogueKind) (statuses : Statuses) → WasLastRead statuses.last → FitsRecord (meaning_of_completion dialogue_kind statuses)
completion-fits Registration statuses read = service-fits statuses statuses.last read
completion-fits Enquiry statuses read = enquiry-fits statuses.last read
completion-fits Payment statuses read = transaction-fits statuses statuses.last read read
completion-fits Reversal statuses read = transaction-fits statuses statuses.last read read
completion-fits EndOfDay statuses read = service-fits statuses statuses.last read
completion-fits Display statuses read = tt

aborted-fits : (none : ℕ) (last : Option Fields) (result_code : ℕ) → FitsRecord (enquiry_aborted none last result_code)
aborted-fits none None result_code = of-both FitsRecord (eqb result_code none) (heard.Told 0 None result_code) heard.Unclear (record { within = omega arith; figures = tt }) tt
aborted-fits none (Some status) result_code = tt

abort-with-fits : (dialogue_kind : DialogueKind) (none : ℕ) (statuses : Statuses) (result_code : ℕ) → WasLastRead statuses.last → FitsRecord (meaning_of_abort_with dialogue_kind none statuses result_code)
abort-with-fits Registration none statuses result_code read = declined-fits statuses result_code read
abort-with-fits Enquiry none statuses result_code read = aborted-fits none statuses.last result_code
abort-with-fits Payment none statuses result_code read = unless-fits statuses.approved statuses result_code read
abort-with-fits Reversal none statuses result_code read = unless-fits statuses.approved statuses result_code read
abort-with-fits EndOfDay none statuses result_code read = declined-fits statuses result_code read
abort-with-fits Display none statuses result_code read = tt

abort-fits : (dialogue_kind : DialogueKind) (none : ℕ) (statuses : Statuses) (result : Option ℕ) → WasLastRead statuses.last → FitsRecord (meaning_of_abort dialogue_kind none statuses result)
abort-fits dialogue_kind none statuses None read = tt
abort-fits dialogue_kind none statuses (Some result_code) read =
    of-both FitsRecord (eqb result_code 0) heard.Unclear (meaning_of_abort_with dialogue_kind none statuses result_code) tt (abort-with-fits dialogue_kind none statuses result_code read)

begun-fits : (dialogue_kind : DialogueKind) (none : ℕ) (statuses : Statuses) (message : MessageValue) → WasLastRead statuses.last → FitsRecord (meaning_when_begun dialogue_kind none statuses message)
begun-fits dialogue_kind none statuses Ack read = tt
begun-fits dialogue_kind none statuses (Nack error_code) read = tt
begun-fits dialogue_kind none statuses (Intermediate intermediate_status) read = tt
begun-fits dialogue_kind none statuses (Line text) read = tt
begun-fits dialogue_kind none statuses (Block objects) read = tt
begun-fits dialogue_kind none statuses (Status fields) read = tt
begun-fits dialogue_kind none statuses Completion read = completion-fits dialogue_kind statuses read
begun-fits dialogue_kind none statuses (Abort result) read = abort-fits dialogue_kind none statuses result read
begun-fits dialogue_kind none statuses Other read = tt

acknowledged-fits : (shows stop_wished : Bool) → FitsRecord (acknowledged shows stop_wished)
acknowledged-fits true stop_wished = tt
acknowledged-fits false stop_wished = tt

asked-fits : (dialogue_kind : DialogueKind) (stop_wished : Bool) (message : MessageValue) → FitsRecord (meaning_when_asked dialogue_kind stop_wished message)
asked-fits dialogue_kind stop_wished Ack = acknowledged-fits (is_display dialogue_kind) stop_wished
asked-fits dialogue_kind stop_wished (Nack error_code) = of-both FitsRecord (eqb error_code 0) heard.Unclear (heard.Declined error_code None) tt tt
asked-fits dialogue_kind stop_wished (Intermediate intermediate_status) = tt
asked-fits dialogue_kind stop_wished (Line text) = tt
asked-fits dialogue_kind stop_wished (Block objects) = tt
asked-fits dialogue_kind stop_wished (Status fields) = tt
asked-fits dialogue_kind stop_wished Completion = tt
asked-fits dialogue_kind stop_wished (Abort result_code) = tt
asked-fits dialogue_kind stop_wished Other = tt

phase-fits : (dialogue_kind : DialogueKind) (none : ℕ) (phase : Phase) (message : MessageValue) → HasReadStatuses phase → FitsRecord (meaning_in_phase dialogue_kind none phase message)
phase-fits dialogue_kind none (Asked stop_wished) message read = asked-fits dialogue_kind stop_wished message
phase-fits dialogue_kind none (Begun stop_sent statuses) message read = begun-fits dialogue_kind none statuses message read
phase-fits dialogue_kind none (Ended stop_sent) message read = tt

-- what a message means can be kept, where the last status of the dialogue was read
pub meant-fits : (talk : Option TalkFacts) (message : MessageValue) → IsTalkRead talk → FitsRecord (meaning_for talk message)
meant-fits None message read = tt
meant-fits (Some talk) message read = phase-fits talk.dialogue_kind talk.none talk.phase message read

-- ---- the dialogue after a message

next-read : (dialogue_kind : DialogueKind) (phase : Phase) (message : MessageValue) → HasReadStatuses phase → NumbersFitFields message → HasReadStatuses (next_phase dialogue_kind phase message)
next-read dialogue_kind (Asked stop_wished) message read numbers = of-both HasReadStatuses _ (Begun stop_wished no_statuses) (Ended false) tt tt
next-read dialogue_kind (Begun stop_sent statuses) Ack read numbers = read
next-read dialogue_kind (Begun stop_sent statuses) (Nack error_code) read numbers = read
next-read dialogue_kind (Begun stop_sent statuses) (Intermediate intermediate_status) read numbers = read
next-read dialogue_kind (Begun stop_sent statuses) (Line text) read numbers = read
next-read dialogue_kind (Begun stop_sent statuses) (Block objects) read numbers = read
next-read dialogue_kind (Begun stop_sent statuses) (Status fields) read numbers = numbers
next-read dialogue_kind (Begun stop_sent statuses) Completion read numbers = tt
next-read dialogue_kind (Begun stop_sent statuses) (Abort result_code) read numbers = tt
next-read dialogue_kind (Begun stop_sent statuses) Other read numbers = read
next-read dialogue_kind (Ended stop_sent) message read numbers = tt

taken-numbers : (awaited : ℕ) (message : MessageValue) → NumbersFitFields message → NumbersFitFields (taken_as awaited message)
taken-numbers awaited Ack numbers = tt
taken-numbers awaited (Nack error_code) numbers = tt
taken-numbers awaited (Intermediate intermediate_status) numbers = tt
taken-numbers awaited (Line text) numbers = tt
taken-numbers awaited (Block objects) numbers = tt
taken-numbers awaited (Status fields) numbers = numbers
taken-numbers awaited Completion numbers = tt
taken-numbers awaited (Abort result_code) numbers = tt
taken-numbers awaited Other numbers = tt

-- the dialogue was read after a message that was
pub taken-read : (talk : Option TalkFacts) (awaited : ℕ) (message : MessageValue) (moment : ℤ) → IsTalkRead talk → NumbersFitFields message
    → IsTalkRead (option_map (λ t. next_talk t (taken_as awaited message) moment) talk)
taken-read None awaited message moment read numbers = tt
taken-read (Some talk) awaited message moment read numbers =
    of-both (λ (t : TalkFacts). HasReadStatuses t.phase) (is_taken (taken_as awaited message))
    (record talk { phase = next_phase talk.dialogue_kind talk.phase (taken_as awaited message); deadline = moment +ℤ pos talk.command_time }) talk
    (next-read talk.dialogue_kind talk.phase (taken_as awaited message) read (taken-numbers awaited message numbers)) read
