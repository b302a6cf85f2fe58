-- Whether a stop is wished while the command isn't acknowledged, and which messages put the deadline off.
use Rattle.std.proofs.Common.{◌≡◌, ◌≢◌, Bool, true, false, ℤ, pos, ◌+ℤ◌, List, [], ◌∷◌, ◌++◌, None, refl, ap, subst}
use Rattle.std.specs.List.{last_or}
use Rattle.zvt_msg.specs.Message.{MessageValue, Ack, Nack, Intermediate, Line, Block, Status, Completion, Abort, Other}
use Rattle.zvt_talk.specs.Dialogue.{Dialogue}
use Rattle.zvt_talk.specs.Came.{Came, Message, StopWished, messages, is_stop_wished, is_taken, deadline, due}
use Rattle.zvt_talk.specs.Laws.{HasNoStopWished, HasStopWished}
use Rattle.zvt_talk.proofs.StepLemmas.{due_more, moments_same, moments_stop_wished}

-- ---- stops wished

abbrev StopWishedIs : Bool → List Came → Type 0
StopWishedIs true came = HasStopWished came
StopWishedIs false came = HasNoStopWished came

stop_wished_is_more : (stop_wished : Bool) (came : List Came) (at : ℤ) → StopWishedIs stop_wished came → StopWishedIs stop_wished (Message Other at ∷ came)
stop_wished_is_more true came at is = is
stop_wished_is_more false came at is = is

stop_wished_is : (came : List Came) → messages came ≡ [] → StopWishedIs (is_stop_wished came) came
stop_wished_is [] asked = tt
stop_wished_is (StopWished ∷ came) asked = tt
stop_wished_is (Message Ack at ∷ came) asked = absurd cc
stop_wished_is (Message (Nack error_code) at ∷ came) asked = absurd cc
stop_wished_is (Message (Intermediate intermediate_status) at ∷ came) asked = absurd cc
stop_wished_is (Message (Line text) at ∷ came) asked = absurd cc
stop_wished_is (Message (Block objects) at ∷ came) asked = absurd cc
stop_wished_is (Message (Status fields) at ∷ came) asked = absurd cc
stop_wished_is (Message Completion at ∷ came) asked = absurd cc
stop_wished_is (Message (Abort result_code) at ∷ came) asked = absurd cc
stop_wished_is (Message Other at ∷ came) asked = stop_wished_is_more (is_stop_wished came) came at (stop_wished_is came asked)

never_both : (came : List Came) → HasStopWished came → HasNoStopWished came → ⊥
never_both [] has_stop_wished none = has_stop_wished
never_both (Message message at ∷ came) has_stop_wished none = never_both came has_stop_wished none
never_both (StopWished ∷ came) has_stop_wished none = none

no_stop_is_wished : (stop_wished : Bool) (came : List Came) → StopWishedIs stop_wished came → HasNoStopWished came → stop_wished ≡ false
no_stop_is_wished true came is none = absurd (never_both came is none)
no_stop_is_wished false came is none = refl

stop_is_wished : (stop_wished : Bool) (came : List Came) → StopWishedIs stop_wished came → HasStopWished came → stop_wished ≡ true
stop_is_wished true came is has_stop_wished = refl
stop_is_wished false came is has_stop_wished = absurd (never_both came has_stop_wished is)

pub has_no_stop_wished : (came : List Came) → messages came ≡ [] → is_stop_wished came ≡ false → HasNoStopWished came
has_no_stop_wished came asked is = subst (λ (stop_wished : Bool). StopWishedIs stop_wished came) is (stop_wished_is came asked)

pub has_stop_wished : (came : List Came) → messages came ≡ [] → is_stop_wished came ≡ true → HasStopWished came
has_stop_wished came asked is = subst (λ (stop_wished : Bool). StopWishedIs stop_wished came) is (stop_wished_is came asked)

pub no_stop_was_wished : (came : List Came) → messages came ≡ [] → HasNoStopWished came → is_stop_wished came ≡ false
no_stop_was_wished came asked none = no_stop_is_wished (is_stop_wished came) came (stop_wished_is came asked) none

pub stop_wished : (came : List Came) → messages came ≡ [] → HasStopWished came → is_stop_wished came ≡ true
stop_wished came asked has = stop_is_wished (is_stop_wished came) came (stop_wished_is came asked) has

-- ---- deadlines

is_in_table : (message : MessageValue) → message ≢ Other → is_taken message ≡ true
is_in_table Ack not_other = refl
is_in_table (Nack error_code) not_other = refl
is_in_table (Intermediate intermediate_status) not_other = refl
is_in_table (Line text) not_other = refl
is_in_table (Block objects) not_other = refl
is_in_table (Status fields) not_other = refl
is_in_table Completion not_other = refl
is_in_table (Abort result_code) not_other = refl
is_in_table Other not_other = absurd (not_other refl)

pub due_after : (dialogue : Dialogue) (came : List Came) (message : MessageValue) (at : ℤ) → message ≢ Other
    → deadline dialogue (came ++ Message message at ∷ []) ≡ at +ℤ pos dialogue.command_time
due_after dialogue came message at not_other = due_more dialogue came message at (is_in_table message not_other)

pub due_same : (dialogue : Dialogue) (came : List Came) (at : ℤ) → deadline dialogue (came ++ Message Other at ∷ []) ≡ deadline dialogue came
due_same dialogue came at = ap (λ (all : List ℤ). due dialogue (last_or None all)) (moments_same came at)

pub due_stop_wished : (dialogue : Dialogue) (came : List Came) → deadline dialogue (came ++ StopWished ∷ []) ≡ deadline dialogue came
due_stop_wished dialogue came = ap (λ (all : List ℤ). due dialogue (last_or None all)) (moments_stop_wished came)
