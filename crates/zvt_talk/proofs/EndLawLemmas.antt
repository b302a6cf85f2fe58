-- How a dialogue ends, over all that came.
use Rattle.std.proofs.Common.{◌≡◌, ℤ, Bool, true, false, not, ◌&&◌, ◌||◌, cond, List, [], ◌∷◌, ◌++◌, Option, Some, None, is_some, refl, sym, ap, ◌∙◌, subst, append_assoc, append-nil}
use Rattle.std.specs.List.{list_any}
use Rattle.std.proofs.lemmas.List.Elements.{filter_map-append}
use Rattle.std.proofs.lemmas.List.Folds.{list_any-append}
use Rattle.zvt_msg.specs.Message.{MessageValue}
use Rattle.zvt_talk.specs.declared.dialogue_kind.DialogueKind.{DialogueKind}
use Rattle.zvt_talk.specs.declared.meaning.Heard.{Heard}
use Rattle.zvt_talk.specs.declared.phase.Phase.TheVariants.{Asked, Begun, Ended}
use Rattle.zvt_talk.specs.declared.statuses.Statuses.{Statuses}
use Rattle.zvt_talk.specs.Dialogue.{Dialogue, is_display}
use Rattle.zvt_talk.specs.Came.{Came, Message, StopWished, taken_message, messages, is_ack, is_completion_or_abort, is_asked, is_begun, has_ended, is_stop_sent, is_stop_wished}
use Rattle.zvt_talk.specs.Talk.{meaning, end_from, end_of, talk_goes_on, is_end, is_open_phase, statuses_of, talk_after}
use Rattle.zvt_talk.specs.Laws.{IsEndOf}
use Rattle.zvt_talk.proofs.StepLemmas.{after_message, heard_is, messages_stop_wished}
use Rattle.zvt_talk.proofs.EndLemmas.{talk_ends}

not_same : (a b : Bool) → not a ≡ not b → a ≡ b
not_same true true e = refl
not_same true false e = absurd cc
not_same false true e = absurd cc
not_same false false e = refl

-- ---- what has ended stays so

still_over : (begun over more : Bool) → not (begun && not over) ≡ true → not (begun && not (over || more)) ≡ true
still_over true true more e = refl
still_over true false more e = absurd cc
still_over false over more e = refl

still_ended : (dialogue_kind : DialogueKind) (taken more : List MessageValue) → has_ended dialogue_kind taken ≡ true → has_ended dialogue_kind (taken ++ more) ≡ true
still_ended dialogue_kind [] more e = absurd cc
still_ended dialogue_kind (first ∷ rest) more e =
    ap (λ (over : Bool). not ((is_ack first && not (is_display dialogue_kind)) && not over)) (list_any-append is_completion_or_abort (first ∷ rest) more)
    ∙ still_over (is_ack first && not (is_display dialogue_kind)) (list_any is_completion_or_abort (first ∷ rest)) (list_any is_completion_or_abort more) e

ended_with : (dialogue_kind : DialogueKind) (came more : List Came) → has_ended dialogue_kind (messages came) ≡ true → has_ended dialogue_kind (messages (came ++ more)) ≡ true
ended_with dialogue_kind came more e = ap (has_ended dialogue_kind) (filter_map-append taken_message came more) ∙ still_ended dialogue_kind (messages came) (messages more) e

-- ---- a talk goes on where it has not ended

open_phase : (b stop_sent : Bool) (statuses : Statuses) → is_open_phase (cond b (Begun stop_sent statuses) (Ended stop_sent)) ≡ not (not b)
open_phase true stop_sent statuses = refl
open_phase false stop_sent statuses = refl

open_taken : (dialogue_kind : DialogueKind) (taken : List MessageValue) (stop_wished stop_sent : Bool) (statuses : Statuses)
    → is_open_phase (cond (is_asked taken) (Asked stop_wished) (cond (is_begun dialogue_kind taken) (Begun stop_sent statuses) (Ended stop_sent))) ≡ not (has_ended dialogue_kind taken)
open_taken dialogue_kind [] stop_wished stop_sent statuses = refl
open_taken dialogue_kind (first ∷ rest) stop_wished stop_sent statuses = open_phase (is_begun dialogue_kind (first ∷ rest)) stop_sent statuses

pub goes_on_is : (dialogue : Dialogue) (came : List Came) → talk_goes_on (talk_after dialogue came) ≡ not (has_ended dialogue.dialogue_kind (messages came))
goes_on_is dialogue came =
    open_taken dialogue.dialogue_kind (messages came) (is_stop_wished came) (is_stop_sent dialogue.dialogue_kind came) (statuses_of came)

not_ended : (dialogue : Dialogue) (came : List Came) → talk_goes_on (talk_after dialogue came) ≡ true → has_ended dialogue.dialogue_kind (messages came) ≡ false
not_ended dialogue came e = not_same _ _ (sym (goes_on_is dialogue came) ∙ e)

is_going : (dialogue : Dialogue) (came : List Came) → has_ended dialogue.dialogue_kind (messages came) ≡ false → talk_goes_on (talk_after dialogue came) ≡ true
is_going dialogue came e = goes_on_is dialogue came ∙ ap not e

-- ---- a message ends a dialogue exactly where its meaning is an end

ended_more : (dialogue : Dialogue) (came : List Came) (message : MessageValue) (at : ℤ) → has_ended dialogue.dialogue_kind (messages came) ≡ false
    → has_ended dialogue.dialogue_kind (messages (came ++ Message message at ∷ [])) ≡ is_end (meaning dialogue came message)
ended_more dialogue came message at e =
    let open_ : talk_goes_on (talk_after dialogue came) ≡ true = is_going dialogue came e in
    not_same _ _
    (sym (goes_on_is dialogue (came ++ Message message at ∷ []))
    ∙ ap talk_goes_on (after_message dialogue came message at open_)
    ∙ talk_ends (talk_after dialogue came) message at open_
    ∙ ap (λ (h : Heard). not (is_end h)) (heard_is dialogue came message open_))

ended_stop_wished : (dialogue_kind : DialogueKind) (came : List Came) → has_ended dialogue_kind (messages (came ++ StopWished ∷ [])) ≡ has_ended dialogue_kind (messages came)
ended_stop_wished dialogue_kind came = ap (has_ended dialogue_kind) (messages_stop_wished came)

-- ---- the end

regroup : (dialogue_kind : DialogueKind) (before : List Came) (x : Came) (rest : List Came)
    → has_ended dialogue_kind (messages (before ++ x ∷ rest)) ≡ has_ended dialogue_kind (messages ((before ++ x ∷ []) ++ rest))
regroup dialogue_kind before x rest = ap (λ (all : List Came). has_ended dialogue_kind (messages all)) (sym (append_assoc before (x ∷ []) rest))

at_end : (over now : Bool) (end : Heard) (more : Option Heard) → (now ≡ true → over ≡ true) → (now ≡ false → over ≡ is_some more) → over ≡ is_some (cond now (Some end) more)
at_end over true end more ends goes = ends refl
at_end over false end more ends goes = goes refl

pub ended_from : (dialogue : Dialogue) (before rest : List Came) → has_ended dialogue.dialogue_kind (messages before) ≡ false
    → has_ended dialogue.dialogue_kind (messages (before ++ rest)) ≡ is_some (end_from dialogue before rest)
ended_from dialogue before [] e = ap (λ (all : List Came). has_ended dialogue.dialogue_kind (messages all)) (append-nil before) ∙ e
ended_from dialogue before (StopWished ∷ rest) e =
    regroup dialogue.dialogue_kind before StopWished rest ∙ ended_from dialogue (before ++ StopWished ∷ []) rest (ended_stop_wished dialogue.dialogue_kind before ∙ e)
ended_from dialogue before (Message message at ∷ rest) e =
    let more : has_ended dialogue.dialogue_kind (messages (before ++ Message message at ∷ [])) ≡ is_end (meaning dialogue before message) = ended_more dialogue before message at e in
    at_end _ (is_end (meaning dialogue before message)) (meaning dialogue before message) (end_from dialogue (before ++ Message message at ∷ []) rest)
    (λ now. regroup dialogue.dialogue_kind before (Message message at) rest ∙ ended_with dialogue.dialogue_kind (before ++ Message message at ∷ []) rest (more ∙ now))
    (λ now. regroup dialogue.dialogue_kind before (Message message at) rest ∙ ended_from dialogue (before ++ Message message at ∷ []) rest (more ∙ now))

pub ended_is : (dialogue : Dialogue) (came : List Came) → has_ended dialogue.dialogue_kind (messages came) ≡ is_some (end_of dialogue came)
ended_is dialogue came = ended_from dialogue [] came refl

-- ---- the end after one more message

at_push : (now : Bool) (end : Heard) (more pushed whole : Option Heard) → is_some (cond now (Some end) more) ≡ false → (is_some more ≡ false → pushed ≡ whole) → cond now (Some end) pushed ≡ whole
at_push true end more pushed whole none step = absurd cc
at_push false end more pushed whole none step = step none

from_push : (dialogue : Dialogue) (before rest : List Came) (x : Came) → is_some (end_from dialogue before rest) ≡ false
    → end_from dialogue before (rest ++ x ∷ []) ≡ end_from dialogue (before ++ rest) (x ∷ [])
from_push dialogue before [] x none = ap (λ (all : List Came). end_from dialogue all (x ∷ [])) (sym (append-nil before))
from_push dialogue before (StopWished ∷ rest) x none =
    from_push dialogue (before ++ StopWished ∷ []) rest x none ∙ ap (λ (all : List Came). end_from dialogue all (x ∷ [])) (append_assoc before (StopWished ∷ []) rest)
from_push dialogue before (Message message at ∷ rest) x none =
    at_push (is_end (meaning dialogue before message)) (meaning dialogue before message) (end_from dialogue (before ++ Message message at ∷ []) rest)
    (end_from dialogue (before ++ Message message at ∷ []) (rest ++ x ∷ [])) (end_from dialogue (before ++ Message message at ∷ rest) (x ∷ [])) none
    (λ later. from_push dialogue (before ++ Message message at ∷ []) rest x later
    ∙ ap (λ (all : List Came). end_from dialogue all (x ∷ [])) (append_assoc before (Message message at ∷ []) rest))

pub end_by_message : (dialogue : Dialogue) (came : List Came) (message : MessageValue) (at : ℤ) → talk_goes_on (talk_after dialogue came) ≡ true
    → end_of dialogue (came ++ Message message at ∷ []) ≡ cond (is_end (meaning dialogue came message)) (Some (meaning dialogue came message)) None
end_by_message dialogue came message at open_ =
    from_push dialogue [] came (Message message at) (sym (ended_is dialogue came) ∙ not_ended dialogue came open_)

-- ---- which ends there are

some_same : (a b : Heard) → Some a ≡ Some b → a ≡ b
some_same a b e = cc

dialogue_kind_at : (dialogue_kind : DialogueKind) (now : Bool) (heard end : Heard) (more : Option Heard) → is_end heard ≡ now → (is_end heard ≡ true → IsEndOf dialogue_kind heard) → (more ≡ Some end → IsEndOf dialogue_kind end)
    → cond now (Some heard) more ≡ Some end → IsEndOf dialogue_kind end
dialogue_kind_at dialogue_kind true heard end more over means later is = subst (IsEndOf dialogue_kind) (some_same heard end is) (means over)
dialogue_kind_at dialogue_kind false heard end more over means later is = later is

pub dialogue_kind_from : (dialogue : Dialogue) (means : (came : List Came) (message : MessageValue) → is_end (meaning dialogue came message) ≡ true → IsEndOf dialogue.dialogue_kind (meaning dialogue came message))
    → (before rest : List Came) (end : Heard) → end_from dialogue before rest ≡ Some end → IsEndOf dialogue.dialogue_kind end
dialogue_kind_from dialogue means before [] end is = absurd cc
dialogue_kind_from dialogue means before (StopWished ∷ rest) end is = dialogue_kind_from dialogue means (before ++ StopWished ∷ []) rest end is
dialogue_kind_from dialogue means before (Message message at ∷ rest) end is =
    dialogue_kind_at dialogue.dialogue_kind (is_end (meaning dialogue before message)) (meaning dialogue before message) end (end_from dialogue (before ++ Message message at ∷ []) rest)
    refl (means before message) (dialogue_kind_from dialogue means (before ++ Message message at ∷ []) rest end) is

-- ---- an end stays

at_stays : (now : Bool) (first : Heard) (rest longer : Option Heard) (end : Heard) → (rest ≡ Some end → longer ≡ Some end) → cond now (Some first) rest ≡ Some end → cond now (Some first) longer ≡ Some end
at_stays true first rest longer end later is = is
at_stays false first rest longer end later is = later is

from_stays : (dialogue : Dialogue) (before rest more : List Came) (end : Heard) → end_from dialogue before rest ≡ Some end → end_from dialogue before (rest ++ more) ≡ Some end
from_stays dialogue before [] more end is = absurd cc
from_stays dialogue before (StopWished ∷ rest) more end is = from_stays dialogue (before ++ StopWished ∷ []) rest more end is
from_stays dialogue before (Message message at ∷ rest) more end is =
    at_stays (is_end (meaning dialogue before message)) (meaning dialogue before message) (end_from dialogue (before ++ Message message at ∷ []) rest)
    (end_from dialogue (before ++ Message message at ∷ []) (rest ++ more)) end (from_stays dialogue (before ++ Message message at ∷ []) rest more end) is

pub end_stays : (dialogue : Dialogue) (came more : List Came) (end : Heard) → end_of dialogue came ≡ Some end → end_of dialogue (came ++ more) ≡ Some end
end_stays dialogue came more end is = from_stays dialogue [] came more end is

-- ---- a stop that is wished

-- it changes no end, whether there is one or not
pub stop_ends_nothing : (dialogue : Dialogue) (came : List Came) → end_of dialogue (came ++ StopWished ∷ []) ≡ end_of dialogue came
stop_ends_nothing dialogue came = by_end (end_of dialogue came) refl
  where
    by_end : (end : Option Heard) → end_of dialogue came ≡ end → end_of dialogue (came ++ StopWished ∷ []) ≡ end_of dialogue came
    by_end None is = from_push dialogue [] came StopWished (ap is_some is) ∙ sym is
    by_end (Some end) is = end_stays dialogue came (StopWished ∷ []) end is ∙ sym is
