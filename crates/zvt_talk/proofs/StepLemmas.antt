-- What a talk keeps after one more message, or after a stop is wished.
use Rattle.std.proofs.Common.{◌≡◌, ℕ, ℤ, pos, ◌+ℤ◌, Bool, true, false, not, ◌&&◌, ◌||◌, cond, List, [], ◌∷◌, ◌++◌, Option, Some, None, refl, sym, ap, ◌∙◌, append-nil}
use Rattle.std.specs.List.{cons_option, list_any, filter_map, last_or}
use Rattle.std.proofs.lemmas.List.Elements.{filter_map-append}
use Rattle.std.proofs.lemmas.List.Folds.{list_any-append}
use Rattle.zvt_bmp.specs.declared.fields.Fields.{Fields}
use Rattle.zvt_msg.specs.Message.{MessageValue, Ack, Nack, Intermediate, Line, Block, Status, Completion, Abort, Other}
use Rattle.zvt_talk.specs.declared.dialogue_kind.DialogueKind.{DialogueKind}
use Rattle.zvt_talk.specs.declared.phase.Phase.{Phase}
use Rattle.zvt_talk.specs.declared.phase.Phase.TheVariants.{Asked, Begun, Ended}
use Rattle.zvt_talk.specs.declared.statuses.Statuses.{Statuses}
use Rattle.zvt_talk.specs.Dialogue.{Dialogue, is_display}
use Rattle.zvt_talk.specs.Came.{Came, Message, StopWished, taken_message, taken_moment, messages, moments, status_fields_of, has_result, is_taken, is_ack, is_completion_or_abort, is_asked, was_begun, is_begun, is_stop_wished, due, deadline}
use Rattle.zvt_talk.specs.Table.{meaning_when_asked, meaning_when_begun}
use Rattle.zvt_talk.specs.Talk.{TalkFacts, meaning, talk_after, phase_of, talk_goes_on, is_open_phase}
use Rattle.zvt_talk.specs.TalkSteps.{meaning_in_phase, next_phase, next_talk, phase_after_stop_wished, with_status}

-- ---- tests

and_false : (b : Bool) → (b && false) ≡ false
and_false true = refl
and_false false = refl

or_false : (b : Bool) → (b || false) ≡ b
or_false true = refl
or_false false = refl

or_true : (b : Bool) → (b || true) ≡ true
or_true true = refl
or_true false = refl

-- ---- lists

last_push : {A : Type 0} (o : Option A) (xs : List A) (x : A) → last_or o (xs ++ x ∷ []) ≡ Some x
last_push o [] x = refl
last_push o (y ∷ xs) x = last_push (Some y) xs x

-- ---- what was taken

pub messages_more : (came : List Came) (message : MessageValue) (at : ℤ) → is_taken message ≡ true → messages (came ++ Message message at ∷ []) ≡ messages came ++ message ∷ []
messages_more came message at is =
    filter_map-append taken_message came (Message message at ∷ []) ∙ (rw is refl)

pub moments_more : (came : List Came) (message : MessageValue) (at : ℤ) → is_taken message ≡ true → moments (came ++ Message message at ∷ []) ≡ moments came ++ at ∷ []
moments_more came message at is =
    filter_map-append taken_moment came (Message message at ∷ []) ∙ (rw is refl)

pub messages_same : (came : List Came) (at : ℤ) → messages (came ++ Message Other at ∷ []) ≡ messages came
messages_same came at = filter_map-append taken_message came (Message Other at ∷ []) ∙ append-nil (messages came)

pub moments_same : (came : List Came) (at : ℤ) → moments (came ++ Message Other at ∷ []) ≡ moments came
moments_same came at = filter_map-append taken_moment came (Message Other at ∷ []) ∙ append-nil (moments came)

pub messages_stop_wished : (came : List Came) → messages (came ++ StopWished ∷ []) ≡ messages came
messages_stop_wished came = filter_map-append taken_message came (StopWished ∷ []) ∙ append-nil (messages came)

pub moments_stop_wished : (came : List Came) → moments (came ++ StopWished ∷ []) ≡ moments came
moments_stop_wished came = filter_map-append taken_moment came (StopWished ∷ []) ∙ append-nil (moments came)

-- ---- stops wished

pub stop_wished_message : (came : List Came) (message : MessageValue) (at : ℤ) → is_stop_wished (came ++ Message message at ∷ []) ≡ is_stop_wished came
stop_wished_message [] message at = and_false (not (is_completion_or_abort message))
stop_wished_message (StopWished ∷ came) message at = refl
stop_wished_message (Message first then ∷ came) message at = ap (λ (b : Bool). not (is_completion_or_abort first) && b) (stop_wished_message came message at)

pub stop_wished_more : (came : List Came) → is_stop_wished (came ++ StopWished ∷ []) ≡ (is_stop_wished came || not (list_any is_completion_or_abort (messages came)))
stop_wished_more [] = refl
stop_wished_more (StopWished ∷ came) = refl
stop_wished_more (Message Ack at ∷ came) = stop_wished_more came
stop_wished_more (Message (Nack error_code) at ∷ came) = stop_wished_more came
stop_wished_more (Message (Intermediate intermediate_status) at ∷ came) = stop_wished_more came
stop_wished_more (Message (Line text) at ∷ came) = stop_wished_more came
stop_wished_more (Message (Block objects) at ∷ came) = stop_wished_more came
stop_wished_more (Message (Status fields) at ∷ came) = stop_wished_more came
stop_wished_more (Message Completion at ∷ came) = refl
stop_wished_more (Message (Abort result_code) at ∷ came) = refl
stop_wished_more (Message Other at ∷ came) = stop_wished_more came

-- ---- statuses

abbrev statuses_in : List MessageValue → Statuses
statuses_in taken = record {
  last = last_or None (filter_map status_fields_of taken);
  approved = list_any (λ status. has_result 0 status.result) (filter_map status_fields_of taken);
}

abbrev summary : List Fields → Statuses
summary heard = record { last = last_or None heard; approved = list_any (λ status. has_result 0 status.result) heard }

summary_push : (heard : List Fields) (fields : Fields) → summary (heard ++ fields ∷ []) ≡ with_status (summary heard) (Status fields)
summary_push heard fields =
    ap (λ (last : Option Fields). record { last = last; approved = list_any (λ status. has_result 0 status.result) (heard ++ fields ∷ []) }) (last_push None heard fields)
    ∙ ap (λ (b : Bool). record { last = Some fields; approved = b })
    (list_any-append (λ status. has_result 0 status.result) heard (fields ∷ [])
    ∙ ap (λ (b : Bool). list_any (λ status. has_result 0 status.result) heard || b) (or_false (has_result 0 fields.result)))

none_push : (heard : List Fields) (o : Option Fields) → o ≡ None → heard ++ cons_option o [] ≡ heard
none_push heard o is = rw is (append-nil heard)

none_more : (taken : List MessageValue) (message : MessageValue) → status_fields_of message ≡ None → summary (filter_map status_fields_of (taken ++ message ∷ [])) ≡ summary (filter_map status_fields_of taken)
none_more taken message is =
    ap summary (filter_map-append status_fields_of taken (message ∷ []) ∙ none_push (filter_map status_fields_of taken) (status_fields_of message) is)

pub statuses_more : (taken : List MessageValue) (message : MessageValue) → statuses_in (taken ++ message ∷ []) ≡ with_status (statuses_in taken) message
statuses_more taken Ack = none_more taken Ack refl
statuses_more taken (Nack error_code) = none_more taken (Nack error_code) refl
statuses_more taken (Intermediate intermediate_status) = none_more taken (Intermediate intermediate_status) refl
statuses_more taken (Line text) = none_more taken (Line text) refl
statuses_more taken (Block objects) = none_more taken (Block objects) refl
statuses_more taken (Status fields) = ap summary (filter_map-append status_fields_of taken (Status fields ∷ [])) ∙ summary_push (filter_map status_fields_of taken) fields
statuses_more taken Completion = none_more taken Completion refl
statuses_more taken (Abort result_code) = none_more taken (Abort result_code) refl
statuses_more taken Other = none_more taken Other refl

-- ---- phases

-- the phase by the messages taken, and by whether a stop was wished in time
abbrev phase_in : DialogueKind → List MessageValue → Bool → Phase
phase_in dialogue_kind taken stop_wished =
    cond (is_asked taken) (Asked stop_wished)
    (cond (is_begun dialogue_kind taken) (Begun (was_begun dialogue_kind taken && stop_wished) (statuses_in taken)) (Ended (was_begun dialogue_kind taken && stop_wished)))

-- the first message
first_phase : (display : Bool) (stop_wished : Bool) → cond (not display && true) (Begun (not display && stop_wished) (summary [])) (Ended (not display && stop_wished)) ≡ cond (not display) (Begun stop_wished (summary [])) (Ended false)
first_phase true stop_wished = refl
first_phase false stop_wished = refl

phase_first : (dialogue_kind : DialogueKind) (stop_wished : Bool) (message : MessageValue) → phase_in dialogue_kind (message ∷ []) stop_wished ≡ next_phase dialogue_kind (Asked stop_wished) message
phase_first dialogue_kind stop_wished Ack = first_phase (is_display dialogue_kind) stop_wished
phase_first dialogue_kind stop_wished (Nack error_code) = refl
phase_first dialogue_kind stop_wished (Intermediate intermediate_status) = refl
phase_first dialogue_kind stop_wished (Line text) = refl
phase_first dialogue_kind stop_wished (Block objects) = refl
phase_first dialogue_kind stop_wished (Status fields) = refl
phase_first dialogue_kind stop_wished Completion = refl
phase_first dialogue_kind stop_wished (Abort result_code) = refl
phase_first dialogue_kind stop_wished Other = refl

-- a later message: `begun` is whether the dialogue was begun, `over` whether it has ended since, `last` whether it ends now
later_phase : (begun over last stop_wished : Bool) (statuses : Statuses) → begun && not over ≡ true
    → cond (begun && not (over || (last || false))) (Begun (begun && stop_wished) statuses) (Ended (begun && stop_wished))
    ≡ cond last (Ended (begun && stop_wished)) (Begun (begun && stop_wished) statuses)
later_phase true true last stop_wished statuses is = absurd cc
later_phase true false true stop_wished statuses is = refl
later_phase true false false stop_wished statuses is = refl
later_phase false over last stop_wished statuses is = absurd cc

open_begun : (begun stop_sent : Bool) (statuses : Statuses) → is_open_phase (cond begun (Begun stop_sent statuses) (Ended stop_sent)) ≡ true → begun ≡ true
open_begun true stop_sent statuses open_ = refl
open_begun false stop_sent statuses open_ = absurd cc

phase_later : (dialogue_kind : DialogueKind) (first : MessageValue) (rest : List MessageValue) (stop_wished : Bool) (message : MessageValue)
    → is_open_phase (phase_in dialogue_kind (first ∷ rest) stop_wished) ≡ true
    → phase_in dialogue_kind ((first ∷ rest) ++ message ∷ []) stop_wished ≡ next_phase dialogue_kind (phase_in dialogue_kind (first ∷ rest) stop_wished) message
phase_later dialogue_kind first rest stop_wished message open_ =
    let begun : Bool = is_ack first && not (is_display dialogue_kind) in
    let over : Bool = list_any is_completion_or_abort (first ∷ rest) in
    let old : Statuses = statuses_in (first ∷ rest) in
    let goes : (begun && not over) ≡ true = open_begun (begun && not over) (begun && stop_wished) old open_ in
    ap (λ (e : Bool). cond (begun && not e) (Begun (begun && stop_wished) (statuses_in ((first ∷ rest) ++ message ∷ []))) (Ended (begun && stop_wished))) (list_any-append is_completion_or_abort (first ∷ rest) (message ∷ []))
    ∙ ap (λ (n : Statuses). cond (begun && not (over || (is_completion_or_abort message || false))) (Begun (begun && stop_wished) n) (Ended (begun && stop_wished))) (statuses_more (first ∷ rest) message)
    ∙ later_phase begun over (is_completion_or_abort message) stop_wished (with_status old message) goes
    ∙ ap (λ (b : Bool). next_phase dialogue_kind (cond b (Begun (begun && stop_wished) old) (Ended (begun && stop_wished))) message) (sym goes)

phase_step : (dialogue_kind : DialogueKind) (taken : List MessageValue) (stop_wished : Bool) (message : MessageValue)
    → is_open_phase (phase_in dialogue_kind taken stop_wished) ≡ true
    → phase_in dialogue_kind (taken ++ message ∷ []) stop_wished ≡ next_phase dialogue_kind (phase_in dialogue_kind taken stop_wished) message
phase_step dialogue_kind [] stop_wished message open_ = phase_first dialogue_kind stop_wished message
phase_step dialogue_kind (first ∷ rest) stop_wished message open_ = phase_later dialogue_kind first rest stop_wished message open_

stop_wished_later : (begun over stop_wished : Bool) (statuses : Statuses)
    → cond (begun && not over) (Begun (begun && (stop_wished || not over)) statuses) (Ended (begun && (stop_wished || not over)))
    ≡ phase_after_stop_wished (cond (begun && not over) (Begun (begun && stop_wished) statuses) (Ended (begun && stop_wished)))
stop_wished_later true true stop_wished statuses = ap Ended (or_false stop_wished)
stop_wished_later true false stop_wished statuses = ap (λ (b : Bool). Begun b statuses) (or_true stop_wished)
stop_wished_later false over stop_wished statuses = refl

stop_wished_phase : (dialogue_kind : DialogueKind) (taken : List MessageValue) (stop_wished : Bool)
    → phase_in dialogue_kind taken (stop_wished || not (list_any is_completion_or_abort taken)) ≡ phase_after_stop_wished (phase_in dialogue_kind taken stop_wished)
stop_wished_phase dialogue_kind [] stop_wished = ap Asked (or_true stop_wished)
stop_wished_phase dialogue_kind (first ∷ rest) stop_wished = stop_wished_later (is_ack first && not (is_display dialogue_kind)) (list_any is_completion_or_abort (first ∷ rest)) stop_wished (statuses_in (first ∷ rest))

-- ---- talks

abbrev talk_in : Dialogue → ℤ → Phase → TalkFacts
talk_in dialogue due phase = record { dialogue_kind = dialogue.dialogue_kind; none = dialogue.none; command_time = dialogue.command_time; deadline = due; phase = phase }

same_talk : (dialogue : Dialogue) (a b : ℤ) (p q : Phase) → a ≡ b → p ≡ q → talk_in dialogue a p ≡ talk_in dialogue b q
same_talk dialogue a b p q e f = ap (λ (x : ℤ). talk_in dialogue x p) e ∙ ap (talk_in dialogue b) f

pub due_more : (dialogue : Dialogue) (came : List Came) (message : MessageValue) (at : ℤ) → is_taken message ≡ true → deadline dialogue (came ++ Message message at ∷ []) ≡ at +ℤ pos dialogue.command_time
due_more dialogue came message at is =
    ap (λ (all : List ℤ). due dialogue (last_or None all)) (moments_more came message at is)
    ∙ ap (due dialogue) (last_push None (moments came) at)

pub phase_more : (dialogue_kind : DialogueKind) (came : List Came) (message : MessageValue) (at : ℤ) → is_taken message ≡ true → is_open_phase (phase_of dialogue_kind came) ≡ true
    → phase_of dialogue_kind (came ++ Message message at ∷ []) ≡ next_phase dialogue_kind (phase_of dialogue_kind came) message
phase_more dialogue_kind came message at is open_ =
    ap (λ (taken : List MessageValue). phase_in dialogue_kind taken (is_stop_wished (came ++ Message message at ∷ []))) (messages_more came message at is)
    ∙ ap (phase_in dialogue_kind (messages came ++ message ∷ [])) (stop_wished_message came message at)
    ∙ phase_step dialogue_kind (messages came) (is_stop_wished came) message open_

after_taken : (dialogue : Dialogue) (came : List Came) (message : MessageValue) (at : ℤ) → is_taken message ≡ true → talk_goes_on (talk_after dialogue came) ≡ true
    → talk_after dialogue (came ++ Message message at ∷ []) ≡ talk_in dialogue (at +ℤ pos dialogue.command_time) (next_phase dialogue.dialogue_kind (phase_of dialogue.dialogue_kind came) message)
after_taken dialogue came message at is open_ =
    same_talk dialogue _ _ _ _ (due_more dialogue came message at is) (phase_more dialogue.dialogue_kind came message at is open_)

after_other : (dialogue : Dialogue) (came : List Came) (at : ℤ) → talk_after dialogue (came ++ Message Other at ∷ []) ≡ talk_after dialogue came
after_other dialogue came at =
    same_talk dialogue _ _ _ _ (ap (λ (all : List ℤ). due dialogue (last_or None all)) (moments_same came at))
    (ap (λ (taken : List MessageValue). phase_in dialogue.dialogue_kind taken (is_stop_wished (came ++ Message Other at ∷ []))) (messages_same came at)
    ∙ ap (phase_in dialogue.dialogue_kind (messages came)) (stop_wished_message came Other at))

-- a message more in the list is what the talk makes of it
pub after_message : (dialogue : Dialogue) (came : List Came) (message : MessageValue) (at : ℤ) → talk_goes_on (talk_after dialogue came) ≡ true
    → talk_after dialogue (came ++ Message message at ∷ []) ≡ next_talk (talk_after dialogue came) message at
after_message dialogue came Ack at open_ = after_taken dialogue came Ack at refl open_
after_message dialogue came (Nack error_code) at open_ = after_taken dialogue came (Nack error_code) at refl open_
after_message dialogue came (Intermediate intermediate_status) at open_ = after_taken dialogue came (Intermediate intermediate_status) at refl open_
after_message dialogue came (Line text) at open_ = after_taken dialogue came (Line text) at refl open_
after_message dialogue came (Block objects) at open_ = after_taken dialogue came (Block objects) at refl open_
after_message dialogue came (Status fields) at open_ = after_taken dialogue came (Status fields) at refl open_
after_message dialogue came Completion at open_ = after_taken dialogue came Completion at refl open_
after_message dialogue came (Abort result_code) at open_ = after_taken dialogue came (Abort result_code) at refl open_
after_message dialogue came Other at open_ = after_other dialogue came at

-- and so is a stop that is wished
pub after_stop_wished : (dialogue : Dialogue) (came : List Came)
    → talk_after dialogue (came ++ StopWished ∷ []) ≡ talk_in dialogue (deadline dialogue came) (phase_after_stop_wished (phase_of dialogue.dialogue_kind came))
after_stop_wished dialogue came =
    same_talk dialogue _ _ _ _ (ap (λ (all : List ℤ). due dialogue (last_or None all)) (moments_stop_wished came))
    (ap (λ (taken : List MessageValue). phase_in dialogue.dialogue_kind taken (is_stop_wished (came ++ StopWished ∷ []))) (messages_stop_wished came)
    ∙ ap (phase_in dialogue.dialogue_kind (messages came)) (stop_wished_more came)
    ∙ stop_wished_phase dialogue.dialogue_kind (messages came) (is_stop_wished came))

-- ---- what a message means

heard_at : (dialogue_kind : DialogueKind) (none : ℕ) (taken : List MessageValue) (stop_wished : Bool) (message : MessageValue) → is_open_phase (phase_in dialogue_kind taken stop_wished) ≡ true
    → meaning_in_phase dialogue_kind none (phase_in dialogue_kind taken stop_wished) message
    ≡ cond (is_asked taken) (meaning_when_asked dialogue_kind stop_wished message) (meaning_when_begun dialogue_kind none (statuses_in taken) message)
heard_at dialogue_kind none [] stop_wished message open_ = refl
heard_at dialogue_kind none (first ∷ rest) stop_wished message open_ =
    let stop_sent : Bool = (is_ack first && not (is_display dialogue_kind)) && stop_wished in
    let old : Statuses = statuses_in (first ∷ rest) in
    ap (λ (b : Bool). meaning_in_phase dialogue_kind none (cond b (Begun stop_sent old) (Ended stop_sent)) message)
    (open_begun (is_begun dialogue_kind (first ∷ rest)) stop_sent old open_)

-- for a talk that goes on, a message means what the table says after the list
pub heard_is : (dialogue : Dialogue) (came : List Came) (message : MessageValue) → talk_goes_on (talk_after dialogue came) ≡ true
    → meaning_in_phase dialogue.dialogue_kind dialogue.none (phase_of dialogue.dialogue_kind came) message ≡ meaning dialogue came message
heard_is dialogue came message open_ = heard_at dialogue.dialogue_kind dialogue.none (messages came) (is_stop_wished came) message open_
