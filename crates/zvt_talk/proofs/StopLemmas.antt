-- When `06 B0` is sent.
use Rattle.std.proofs.Common.{◌≡◌, ℕ, ℤ, Bool, true, false, not, ◌&&◌, ◌||◌, cond, eqb, List, [], ◌∷◌, ◌++◌, None, refl, sym, ap, ◌∙◌}
use Rattle.std.specs.List.{list_any}
use Rattle.std.proofs.lemmas.List.Elements.{filter_map-append}
use Rattle.zvt_msg.specs.Message.{MessageValue, Ack, Nack, Intermediate, Line, Block, Status, Completion, Abort, Other}
use Rattle.zvt_talk.specs.declared.dialogue_kind.DialogueKind.{DialogueKind}
use Rattle.zvt_talk.specs.declared.meaning.Heard.{Heard}
use Rattle.zvt_talk.specs.declared.meaning.Heard.TheVariants as heard
use Rattle.zvt_talk.specs.declared.phase.Phase.{Phase}
use Rattle.zvt_talk.specs.declared.phase.Phase.TheVariants.{Asked, Begun, Ended}
use Rattle.zvt_talk.specs.declared.statuses.Statuses.{Statuses}
use Rattle.zvt_talk.specs.Dialogue.{Dialogue, is_display}
use Rattle.zvt_talk.specs.Came.{Came, Message, StopWished, taken_message, messages, is_completion_or_abort, is_asked, is_taken, was_begun, is_begun, is_stop_sent, is_stop_wished}
use Rattle.zvt_talk.specs.Table.{meaning_of_abort, acknowledged, meaning_of_completion}
use Rattle.zvt_talk.specs.Talk.{TalkFacts, meaning, talk_goes_on, is_end, is_open_phase, phase_of, statuses_of, talk_after}
use Rattle.zvt_talk.specs.TalkSteps.{meaning_in_phase, next_phase, next_talk, was_stop_sent}
use Rattle.zvt_talk.specs.Laws.{says_stop}
use Rattle.zvt_talk.proofs.StepLemmas.{after_message, heard_is, messages_stop_wished, phase_more, stop_wished_more}
use Rattle.zvt_talk.proofs.EndLemmas.{aborted_ends, completed_ends}

-- ---- an acknowledgement or a refusal once begun

begun_taken : (dialogue_kind : DialogueKind) (taken : List MessageValue) (stop_wished stop_sent : Bool) (statuses : Statuses) → is_begun dialogue_kind taken ≡ true
    → cond (is_asked taken) (Asked stop_wished) (cond (is_begun dialogue_kind taken) (Begun stop_sent statuses) (Ended stop_sent)) ≡ Begun stop_sent statuses
begun_taken dialogue_kind [] stop_wished stop_sent statuses is = absurd cc
begun_taken dialogue_kind (first ∷ rest) stop_wished stop_sent statuses is = ap (λ (b : Bool). cond b (Begun stop_sent statuses) (Ended stop_sent)) is

begun_phase : (dialogue_kind : DialogueKind) (came : List Came) → is_begun dialogue_kind (messages came) ≡ true → phase_of dialogue_kind came ≡ Begun (is_stop_sent dialogue_kind came) (statuses_of came)
begun_phase dialogue_kind came is = begun_taken dialogue_kind (messages came) (is_stop_wished came) (is_stop_sent dialogue_kind came) (statuses_of came) is

begun_open : (dialogue_kind : DialogueKind) (came : List Came) → is_begun dialogue_kind (messages came) ≡ true → is_open_phase (phase_of dialogue_kind came) ≡ true
begun_open dialogue_kind came is = ap is_open_phase (begun_phase dialogue_kind came is)

pub ack_same : (dialogue_kind : DialogueKind) (came : List Came) (at : ℤ) → is_begun dialogue_kind (messages came) ≡ true → phase_of dialogue_kind (came ++ Message Ack at ∷ []) ≡ phase_of dialogue_kind came
ack_same dialogue_kind came at is =
    phase_more dialogue_kind came Ack at refl (begun_open dialogue_kind came is)
    ∙ ap (λ (p : Phase). next_phase dialogue_kind p Ack) (begun_phase dialogue_kind came is) ∙ sym (begun_phase dialogue_kind came is)

pub nack_same : (dialogue_kind : DialogueKind) (came : List Came) (error_code : ℕ) (at : ℤ) → is_begun dialogue_kind (messages came) ≡ true → phase_of dialogue_kind (came ++ Message (Nack error_code) at ∷ []) ≡ phase_of dialogue_kind came
nack_same dialogue_kind came error_code at is =
    phase_more dialogue_kind came (Nack error_code) at refl (begun_open dialogue_kind came is)
    ∙ ap (λ (p : Phase). next_phase dialogue_kind p (Nack error_code)) (begun_phase dialogue_kind came is) ∙ sym (begun_phase dialogue_kind came is)

pub stray : (dialogue : Dialogue) (came : List Came) (message : MessageValue) → is_begun dialogue.dialogue_kind (messages came) ≡ true
    → meaning_in_phase dialogue.dialogue_kind dialogue.none (Begun (is_stop_sent dialogue.dialogue_kind came) (statuses_of came)) message ≡ heard.Stray → meaning dialogue came message ≡ heard.Stray
stray dialogue came message is reported =
    sym (heard_is dialogue came message (begun_open dialogue.dialogue_kind came is))
    ∙ ap (λ (p : Phase). meaning_in_phase dialogue.dialogue_kind dialogue.none p message) (begun_phase dialogue.dialogue_kind came is) ∙ reported

-- ---- tests

and_true : (b : Bool) → (b && true) ≡ b
and_true true = refl
and_true false = refl

none_new : (b : Bool) → (b && not b) ≡ false
none_new true = refl
none_new false = refl

end_no_stop : (reported : Heard) → is_end reported ≡ true → says_stop reported ≡ false
end_no_stop (heard.Begun stop) is = absurd cc
end_no_stop (heard.Note intermediate_status) is = refl
end_no_stop heard.Line is = refl
end_no_stop heard.Block is = refl
end_no_stop heard.Seen is = refl
end_no_stop (heard.Approved figures) is = refl
end_no_stop heard.Done is = refl
end_no_stop (heard.Told trace approved result_code) is = refl
end_no_stop (heard.Declined result_code trace) is = refl
end_no_stop heard.Unclear is = refl
end_no_stop heard.Stray is = refl

either_no_stop : (b : Bool) (x y : Heard) → says_stop x ≡ false → says_stop y ≡ false → says_stop (cond b x y) ≡ false
either_no_stop true x y p q = p
either_no_stop false x y p q = q

-- ---- a message

first_stop : (display stop_wished : Bool) (statuses : Statuses) → says_stop (acknowledged display stop_wished) ≡ (was_stop_sent (cond (not display) (Begun stop_wished statuses) (Ended false)) && true)
first_stop true stop_wished statuses = refl
first_stop false stop_wished statuses = sym (and_true stop_wished)

asked_stop : (dialogue_kind : DialogueKind) (none : ℕ) (stop_wished : Bool) (message : MessageValue) → is_taken message ≡ true
    → says_stop (meaning_in_phase dialogue_kind none (Asked stop_wished) message) ≡ (was_stop_sent (next_phase dialogue_kind (Asked stop_wished) message) && true)
asked_stop dialogue_kind none stop_wished Ack is = first_stop (is_display dialogue_kind) stop_wished (record { last = None; approved = false })
asked_stop dialogue_kind none stop_wished (Nack error_code) is = either_no_stop (eqb error_code 0) heard.Unclear (heard.Declined error_code None) refl refl
asked_stop dialogue_kind none stop_wished (Intermediate intermediate_status) is = refl
asked_stop dialogue_kind none stop_wished (Line text) is = refl
asked_stop dialogue_kind none stop_wished (Block objects) is = refl
asked_stop dialogue_kind none stop_wished (Status fields) is = refl
asked_stop dialogue_kind none stop_wished Completion is = refl
asked_stop dialogue_kind none stop_wished (Abort result_code) is = refl
asked_stop dialogue_kind none stop_wished Other is = absurd cc

begun_stop : (dialogue_kind : DialogueKind) (none : ℕ) (stop_sent : Bool) (statuses : Statuses) (message : MessageValue) → is_taken message ≡ true
    → says_stop (meaning_in_phase dialogue_kind none (Begun stop_sent statuses) message) ≡ (was_stop_sent (next_phase dialogue_kind (Begun stop_sent statuses) message) && not stop_sent)
begun_stop dialogue_kind none stop_sent statuses Ack is = sym (none_new stop_sent)
begun_stop dialogue_kind none stop_sent statuses (Nack error_code) is = sym (none_new stop_sent)
begun_stop dialogue_kind none stop_sent statuses (Intermediate intermediate_status) is = sym (none_new stop_sent)
begun_stop dialogue_kind none stop_sent statuses (Line text) is = sym (none_new stop_sent)
begun_stop dialogue_kind none stop_sent statuses (Block objects) is = sym (none_new stop_sent)
begun_stop dialogue_kind none stop_sent statuses (Status fields) is = sym (none_new stop_sent)
begun_stop dialogue_kind none stop_sent statuses Completion is = end_no_stop (meaning_of_completion dialogue_kind statuses) (completed_ends dialogue_kind statuses) ∙ sym (none_new stop_sent)
begun_stop dialogue_kind none stop_sent statuses (Abort result_code) is = end_no_stop (meaning_of_abort dialogue_kind none statuses result_code) (aborted_ends dialogue_kind none statuses result_code) ∙ sym (none_new stop_sent)
begun_stop dialogue_kind none stop_sent statuses Other is = absurd cc

phase_stop : (dialogue_kind : DialogueKind) (none : ℕ) (phase : Phase) (message : MessageValue) → is_taken message ≡ true → is_open_phase phase ≡ true
    → says_stop (meaning_in_phase dialogue_kind none phase message) ≡ (was_stop_sent (next_phase dialogue_kind phase message) && not (was_stop_sent phase))
phase_stop dialogue_kind none (Asked stop_wished) message is open_ = asked_stop dialogue_kind none stop_wished message is
phase_stop dialogue_kind none (Begun stop_sent statuses) message is open_ = begun_stop dialogue_kind none stop_sent statuses message is
phase_stop dialogue_kind none (Ended stop_sent) message is open_ = absurd cc

other_stop : (dialogue_kind : DialogueKind) (none : ℕ) (phase : Phase) → is_open_phase phase ≡ true → says_stop (meaning_in_phase dialogue_kind none phase Other) ≡ (was_stop_sent phase && not (was_stop_sent phase))
other_stop dialogue_kind none (Asked stop_wished) open_ = refl
other_stop dialogue_kind none (Begun stop_sent statuses) open_ = sym (none_new stop_sent)
other_stop dialogue_kind none (Ended stop_sent) open_ = absurd cc

talk_stop : (talk : TalkFacts) (message : MessageValue) (now : ℤ) → talk_goes_on talk ≡ true
    → says_stop (meaning_in_phase talk.dialogue_kind talk.none talk.phase message) ≡ (was_stop_sent (next_talk talk message now).phase && not (was_stop_sent talk.phase))
talk_stop talk Ack now open_ = phase_stop talk.dialogue_kind talk.none talk.phase Ack refl open_
talk_stop talk (Nack error_code) now open_ = phase_stop talk.dialogue_kind talk.none talk.phase (Nack error_code) refl open_
talk_stop talk (Intermediate intermediate_status) now open_ = phase_stop talk.dialogue_kind talk.none talk.phase (Intermediate intermediate_status) refl open_
talk_stop talk (Line text) now open_ = phase_stop talk.dialogue_kind talk.none talk.phase (Line text) refl open_
talk_stop talk (Block objects) now open_ = phase_stop talk.dialogue_kind talk.none talk.phase (Block objects) refl open_
talk_stop talk (Status fields) now open_ = phase_stop talk.dialogue_kind talk.none talk.phase (Status fields) refl open_
talk_stop talk Completion now open_ = phase_stop talk.dialogue_kind talk.none talk.phase Completion refl open_
talk_stop talk (Abort result_code) now open_ = phase_stop talk.dialogue_kind talk.none talk.phase (Abort result_code) refl open_
talk_stop talk Other now open_ = other_stop talk.dialogue_kind talk.none talk.phase open_

stopped_later : (begun stop_sent : Bool) (statuses : Statuses) → was_stop_sent (cond begun (Begun stop_sent statuses) (Ended stop_sent)) ≡ stop_sent
stopped_later true stop_sent statuses = refl
stopped_later false stop_sent statuses = refl

stopped_taken : (dialogue_kind : DialogueKind) (taken : List MessageValue) (stop_wished : Bool) (statuses : Statuses)
    → was_stop_sent (cond (is_asked taken) (Asked stop_wished) (cond (is_begun dialogue_kind taken) (Begun (was_begun dialogue_kind taken && stop_wished) statuses) (Ended (was_begun dialogue_kind taken && stop_wished)))) ≡ (was_begun dialogue_kind taken && stop_wished)
stopped_taken dialogue_kind [] stop_wished statuses = refl
stopped_taken dialogue_kind (first ∷ rest) stop_wished statuses = stopped_later (is_begun dialogue_kind (first ∷ rest)) (was_begun dialogue_kind (first ∷ rest) && stop_wished) statuses

stopped_is : (dialogue_kind : DialogueKind) (came : List Came) → was_stop_sent (phase_of dialogue_kind came) ≡ is_stop_sent dialogue_kind came
stopped_is dialogue_kind came = stopped_taken dialogue_kind (messages came) (is_stop_wished came) (statuses_of came)

pub message_stop : (dialogue : Dialogue) (came : List Came) (message : MessageValue) (at : ℤ) → talk_goes_on (talk_after dialogue came) ≡ true
    → says_stop (meaning dialogue came message) ≡ (is_stop_sent dialogue.dialogue_kind (came ++ Message message at ∷ []) && not (is_stop_sent dialogue.dialogue_kind came))
message_stop dialogue came message at open_ =
    ap says_stop (sym (heard_is dialogue came message open_))
    ∙ talk_stop (talk_after dialogue came) message at open_
    ∙ ap (λ (t : TalkFacts). was_stop_sent t.phase && not (was_stop_sent (phase_of dialogue.dialogue_kind came))) (sym (after_message dialogue came message at open_))
    ∙ ap (λ (b : Bool). b && not (was_stop_sent (phase_of dialogue.dialogue_kind came))) (stopped_is dialogue.dialogue_kind (came ++ Message message at ∷ []))
    ∙ ap (λ (b : Bool). is_stop_sent dialogue.dialogue_kind (came ++ Message message at ∷ []) && not b) (stopped_is dialogue.dialogue_kind came)

-- ---- a stop wished

stop_wished_tests : (begun over stop_wished : Bool) → ((begun && not over) && not (begun && stop_wished)) ≡ ((begun && (stop_wished || not over)) && not (begun && stop_wished))
stop_wished_tests true true true = refl
stop_wished_tests true true false = refl
stop_wished_tests true false true = refl
stop_wished_tests true false false = refl
stop_wished_tests false over stop_wished = refl

pub stop_sent_by_stop_wished : (dialogue_kind : DialogueKind) (came : List Came)
    → (is_begun dialogue_kind (messages came) && not (is_stop_sent dialogue_kind came)) ≡ (is_stop_sent dialogue_kind (came ++ StopWished ∷ []) && not (is_stop_sent dialogue_kind came))
stop_sent_by_stop_wished dialogue_kind came =
    stop_wished_tests (was_begun dialogue_kind (messages came)) (list_any is_completion_or_abort (messages came)) (is_stop_wished came)
    ∙ ap (λ (b : Bool). (was_begun dialogue_kind (messages came) && b) && not (is_stop_sent dialogue_kind came)) (sym (stop_wished_more came))
    ∙ ap (λ (taken : List MessageValue). (was_begun dialogue_kind taken && is_stop_wished (came ++ StopWished ∷ [])) && not (is_stop_sent dialogue_kind came)) (sym (messages_stop_wished came))

-- ---- what was sent stays sent

both_left : (a b : Bool) → (a && b) ≡ true → a ≡ true
both_left true b is = refl
both_left false b is = absurd cc

both_right : (a b : Bool) → (a && b) ≡ true → b ≡ true
both_right true b is = is
both_right false b is = absurd cc

both : (a b : Bool) → a ≡ true → b ≡ true → (a && b) ≡ true
both a b p q = rw (p, q) refl

begun_with : (dialogue_kind : DialogueKind) (taken more : List MessageValue) → was_begun dialogue_kind taken ≡ true → was_begun dialogue_kind (taken ++ more) ≡ true
begun_with dialogue_kind [] more is = absurd cc
begun_with dialogue_kind (first ∷ rest) more is = is

stop_wished_with : (came more : List Came) → is_stop_wished came ≡ true → is_stop_wished (came ++ more) ≡ true
stop_wished_with [] more is = absurd cc
stop_wished_with (StopWished ∷ came) more is = refl
stop_wished_with (Message message at ∷ came) more is =
    both (not (is_completion_or_abort message)) (is_stop_wished (came ++ more)) (both_left (not (is_completion_or_abort message)) (is_stop_wished came) is)
    (stop_wished_with came more (both_right (not (is_completion_or_abort message)) (is_stop_wished came) is))

pub stopped_with : (dialogue_kind : DialogueKind) (came more : List Came) → is_stop_sent dialogue_kind came ≡ true → is_stop_sent dialogue_kind (came ++ more) ≡ true
stopped_with dialogue_kind came more is =
    both (was_begun dialogue_kind (messages (came ++ more))) (is_stop_wished (came ++ more))
    (ap (was_begun dialogue_kind) (filter_map-append taken_message came more) ∙ begun_with dialogue_kind (messages came) (messages more) (both_left (was_begun dialogue_kind (messages came)) (is_stop_wished came) is))
    (stop_wished_with came more (both_right (was_begun dialogue_kind (messages came)) (is_stop_wished came) is))
