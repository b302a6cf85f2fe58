-- Which dialogue a transcript has in each standing that it leads to.
use Rattle.std.proofs.Common.{◌≡◌, ℕ, List, [], ◌∷◌, ◌++◌, refl, sym, ◌∙◌, ap, subst, Bool, true, false, not, cond, is_some}
use Rattle.std.specs.Prelude.{ℤ, nat_le, nat_lt, Option, Some, None, if◌then◌else◌, option_and_then}
use Rattle.std.specs.Option.{option_map}
use Rattle.gw_base.specs.declared.setup.Pt.{Pt}
use Rattle.zvt_msg.specs.declared.command.Command.TheVariants as commands
use Rattle.zvt_msg.specs.Message.{MessageValue}
use Rattle.zvt_talk.specs.declared.dialogue_kind.DialogueKind.{DialogueKind}
use Rattle.zvt_talk.specs.declared.dialogue_kind.DialogueKind.TheVariants.{Registration, Enquiry, EndOfDay as EndOfDayDialogue, Display as DisplayDialogue}
use Rattle.zvt_talk.specs.declared.meaning.Heard.{Heard}
use Rattle.zvt_talk.specs.declared.meaning.Heard.TheVariants as heard
use Rattle.zvt_talk.specs.declared.phase.Phase.{Phase}
use Rattle.zvt_talk.specs.declared.phase.Phase.TheVariants.{Asked, Begun, Ended}
use Rattle.zvt_talk.specs.Came.{Came, Message as CameMessage, StopWished}
use Rattle.zvt_talk.specs.Dialogue.{Dialogue}
use Rattle.zvt_talk.specs.Laws.{IsTransaction, IsEndOf, MeansForTalkAsAfterAll, NextTalkIsAfterAll, TalkAfterStopWishedIsAfterAll, EndStays}
use Rattle.zvt_talk.specs.Talk.{TalkFacts, meaning, is_end, end_of, talk_after, is_open_phase, talk_goes_on}
use Rattle.zvt_talk.specs.TalkSteps.{phase_after_stop_wished, talk_after_stop_wished}
use Rattle.gw_owes.specs.declared.terminal.Service.{Service}
use Rattle.gw_owes.specs.declared.terminal.Service.TheVariants.{Transaction, EndOfDay, Display}
use Rattle.gw_owes.specs.declared.terminal.Standing.{Standing}
use Rattle.gw_owes.specs.declared.terminal.Standing.TheVariants.{Unlinked, Registering, Enquiring, Ready, Serving, Aside}
use Rattle.gw_owes.specs.Reports.{standing_reported}
use Rattle.gw_owes.specs.Serving.{last_after_decline}
use Rattle.gw_owes.specs.Transcript.{Carried, Commanded, Took, Wished, awaited_by, dialogue_by, came_with, came_by, talk_going_on, talk_by, standing_enquired, standing_served, standing_done, standing_of_service, standing_ended, standing_taken, ended_with, some_transaction, some_day, some_display, standing_asked, standing_by}
use Rattle.gw_owes.proofs.SetLemmas.{same-some}

-- ---- what is known of dialogues

-- how the end of a dialogue, and its talk, go by all that came
pub record DialogueLaws : Type 0 where
  pub goes_on : (dialogue : Dialogue) (came : List Came) → talk_goes_on (talk_after dialogue came) ≡ not (is_some (end_of dialogue came))
  pub means : MeansForTalkAsAfterAll
  pub next : NextTalkIsAfterAll
  pub stop_wished : TalkAfterStopWishedIsAfterAll
  pub stays : EndStays
  pub by_message : (dialogue : Dialogue) (came : List Came) (message : MessageValue) (at : ℤ) → talk_goes_on (talk_after dialogue came) ≡ true
      → end_of dialogue (came ++ CameMessage message at ∷ []) ≡ cond (is_end (meaning dialogue came message)) (Some (meaning dialogue came message)) None
  pub kinds : (dialogue : Dialogue) (came : List Came) (end : Heard) → end_of dialogue came ≡ Some end → IsEndOf dialogue.dialogue_kind end

-- ---- the talk by the transcript

pub talk-is : (laws : DialogueLaws) (pt : Pt) (transcript : List Carried) (dialogue : Dialogue) (end : Option Heard) → dialogue_by pt transcript ≡ Some dialogue → end_of dialogue (came_by transcript) ≡ end
    → talk_by pt transcript ≡ cond (not (is_some end)) (Some (talk_after dialogue (came_by transcript))) None
talk-is laws pt transcript dialogue end is ends =
    ap (λ (d : Option Dialogue). option_and_then (λ dialogue. talk_going_on dialogue (came_by transcript)) d) is
    ∙ ap (λ (b : Bool). cond b (Some (talk_after dialogue (came_by transcript))) None) (laws.goes_on dialogue (came_by transcript) ∙ ap (λ (e : Option Heard). not (is_some e)) ends)

-- a dialogue goes on, with this talk
pub record GoesOn (found : Option Dialogue) (came : List Came) (talk : TalkFacts) : Type 0 where
  pub dialogue : Dialogue
  pub found_is : found ≡ Some dialogue
  pub talk_is : talk_after dialogue came ≡ talk
  pub goes : talk_goes_on (talk_after dialogue came) ≡ true

going-talk : (dialogue : Dialogue) (came : List Came) (talk : TalkFacts) (goes : Bool) → talk_goes_on (talk_after dialogue came) ≡ goes → cond goes (Some (talk_after dialogue came)) None ≡ Some talk → GoesOn (Some dialogue) came talk
going-talk dialogue came talk true goes is = record { dialogue = dialogue; found_is = refl; talk_is = same-some (talk_after dialogue came) talk is; goes = goes }
going-talk dialogue came talk false goes is = absurd cc

-- a talk that runs is that of the dialogue
pub talk-goes : (found : Option Dialogue) (came : List Came) (talk : TalkFacts) → option_and_then (λ dialogue. talk_going_on dialogue came) found ≡ Some talk → GoesOn found came talk
talk-goes None came talk is = absurd cc
talk-goes (Some dialogue) came talk is = going-talk dialogue came talk (talk_goes_on (talk_after dialogue came)) refl is

-- a dialogue has ended
pub record HasEnded (found : Option Dialogue) (came : List Came) : Type 0 where
  pub dialogue : Dialogue
  pub found_is : found ≡ Some dialogue
  pub end : Heard
  pub ended : end_of dialogue came ≡ Some end

-- no talk runs then
pub ended-rests : (laws : DialogueLaws) (pt : Pt) (transcript : List Carried) → HasEnded (dialogue_by pt transcript) (came_by transcript) → talk_by pt transcript ≡ None
ended-rests laws pt transcript ended = talk-is laws pt transcript ended.dialogue (Some ended.end) ended.found_is ended.ended

-- once ended it stays so
pub ended-stays : (laws : DialogueLaws) (found : Option Dialogue) (came more : List Came) → HasEnded found came → HasEnded found (came ++ more)
ended-stays laws found came more ended = record { dialogue = ended.dialogue; found_is = ended.found_is; end = ended.end; ended = laws.stays ended.dialogue came more ended.end ended.ended }

rests-ended : (laws : DialogueLaws) (dialogue : Dialogue) (came : List Came) (end : Option Heard) → end_of dialogue came ≡ end → talk_going_on dialogue came ≡ None → HasEnded (Some dialogue) came
rests-ended laws dialogue came (Some end) ended rests = record { dialogue = dialogue; found_is = refl; end = end; ended = ended }
rests-ended laws dialogue came None ended rests =
    let goes : Some (talk_after dialogue came) ≡ None =
    sym (ap (λ (b : Bool). cond b (Some (talk_after dialogue came)) None) (laws.goes_on dialogue came ∙ ap (λ (e : Option Heard). not (is_some e)) ended)) ∙ rests in
    absurd cc

-- where no talk runs, none does whatever comes
pub rests-more : (laws : DialogueLaws) (found : Option Dialogue) (came more : List Came) → option_and_then (λ dialogue. talk_going_on dialogue came) found ≡ None → option_and_then (λ dialogue. talk_going_on dialogue (came ++ more)) found ≡ None
rests-more laws None came more rests = refl
rests-more laws (Some dialogue) came more rests =
    let ended = ended-stays laws (Some dialogue) came more (rests-ended laws dialogue came (end_of dialogue came) refl rests) in
    ap (λ (d : Dialogue). talk_going_on d (came ++ more)) (same-some dialogue ended.dialogue ended.found_is)
    ∙ ap (λ (b : Bool). cond b (Some (talk_after ended.dialogue (came ++ more))) None) (laws.goes_on ended.dialogue (came ++ more) ∙ ap (λ (e : Option Heard). not (is_some e)) ended.ended)

-- ---- a stop that is wished

open-same : (phase : Phase) → is_open_phase (phase_after_stop_wished phase) ≡ is_open_phase phase
open-same (Asked stop_wished) = refl
open-same (Begun stop_sent statuses) = refl
open-same (Ended stop_sent) = refl

wished-goes : (talk : TalkFacts) (goes : Bool) → talk_goes_on talk ≡ goes
    → cond (talk_goes_on (talk_after_stop_wished talk)) (Some (talk_after_stop_wished talk)) None ≡ option_map talk_after_stop_wished (cond goes (Some talk) None)
wished-goes talk true is = ap (λ (b : Bool). cond b (Some (talk_after_stop_wished talk)) None) (open-same talk.phase ∙ is)
wished-goes talk false is = ap (λ (b : Bool). cond b (Some (talk_after_stop_wished talk)) None) (open-same talk.phase ∙ is)

-- the talk that runs goes on with the wish, and where none runs none does
wished-going : (laws : DialogueLaws) (found : Option Dialogue) (came : List Came)
    → option_and_then (λ dialogue. talk_going_on dialogue (came ++ StopWished ∷ [])) found ≡ option_map talk_after_stop_wished (option_and_then (λ dialogue. talk_going_on dialogue came) found)
wished-going laws None came = refl
wished-going laws (Some dialogue) came =
    ap (λ (t : TalkFacts). cond (talk_goes_on t) (Some t) None) (sym (laws.stop_wished dialogue came))
    ∙ wished-goes (talk_after dialogue came) (talk_goes_on (talk_after dialogue came)) refl

-- so it is of the transcript
pub wished-talk : (laws : DialogueLaws) (pt : Pt) (transcript : List Carried) → talk_by pt (Wished ∷ transcript) ≡ option_map talk_after_stop_wished (talk_by pt transcript)
wished-talk laws pt transcript = wished-going laws (dialogue_by pt transcript) (came_by transcript)

-- ---- which standing a message leads to

-- by the end of its dialogue, where it has one with it
pub standing-took : (pt : Pt) (message : MessageValue) (moment last : ℕ) (earlier : List Carried) (before : Standing) (end : Option Heard) → Some before ≡ standing_by pt earlier → ended_with pt message moment earlier ≡ end
    → standing_by pt (Took message moment last ∷ earlier) ≡ standing_taken last end before
standing-took pt message moment last earlier before end stands ended =
    ap (λ (e : Option Heard). option_and_then (standing_taken last e) (standing_by pt earlier)) ended ∙ ap (λ (s : Option Standing). option_and_then (standing_taken last end) s) (sym stands)

-- where no dialogue runs none ends
pub rests-unended : (pt : Pt) (message : MessageValue) (moment : ℕ) (earlier : List Carried) → talk_by pt earlier ≡ None → ended_with pt message moment earlier ≡ None
rests-unended pt message moment earlier rests =
    ap (λ (t : Option TalkFacts). if is_some t then option_and_then (λ dialogue. end_of dialogue (came_with message moment (awaited_by earlier) (came_by earlier))) (dialogue_by pt earlier) else None) rests

-- and one that runs ends as it does after all that came
pub runs-ends : (pt : Pt) (message : MessageValue) (moment last : ℕ) (earlier : List Carried) (talk : TalkFacts) (dialogue : Dialogue) → talk_by pt earlier ≡ Some talk → dialogue_by pt earlier ≡ Some dialogue
    → ended_with pt message moment earlier ≡ end_of dialogue (came_by (Took message moment last ∷ earlier))
runs-ends pt message moment last earlier talk dialogue runs is =
    ap (λ (t : Option TalkFacts). if is_some t then option_and_then (λ dialogue. end_of dialogue (came_with message moment (awaited_by earlier) (came_by earlier))) (dialogue_by pt earlier) else None) runs
    ∙ ap (λ (d : Option Dialogue). option_and_then (λ dialogue. end_of dialogue (came_with message moment (awaited_by earlier) (came_by earlier))) d) is

ended-of : (runs : Bool) (found : Option Dialogue) (came : List Came) (end : Heard) → (if runs then option_and_then (λ dialogue. end_of dialogue came) found else None) ≡ Some end → HasEnded found came
ended-of false found came end is = absurd cc
ended-of true None came end is = absurd cc
ended-of true (Some dialogue) came end is = record { dialogue = dialogue; found_is = refl; end = end; ended = is }

-- ---- ready, or set aside

-- ready, or set aside
abbrev pub IsReported : Standing → Type 0
IsReported (Unlinked due) = ⊥
IsReported Registering = ⊥
IsReported Enquiring = ⊥
IsReported (Ready last) = Unit {0}
IsReported (Serving service last) = ⊥
IsReported (Aside before reported) = Unit {0}

ready-or-aside : (above : Bool) (last before reported : ℕ) → IsReported (if above then Ready last else Aside before reported)
ready-or-aside true last before reported = tt
ready-or-aside false last before reported = tt

enquired-reported : (least : ℕ) (end : Heard) (standing : Standing) → standing_enquired least end ≡ Some standing → IsReported standing
enquired-reported least (heard.Begun stop) standing is = absurd cc
enquired-reported least (heard.Note intermediate_status) standing is = absurd cc
enquired-reported least heard.Line standing is = absurd cc
enquired-reported least heard.Block standing is = absurd cc
enquired-reported least heard.Seen standing is = absurd cc
enquired-reported least (heard.Approved figures) standing is = absurd cc
enquired-reported least heard.Done standing is = absurd cc
enquired-reported least (heard.Told reported approved result_code) standing is =
    subst IsReported (same-some (standing_reported least reported) standing is) (ready-or-aside (nat_le least reported) reported least reported)
enquired-reported least (heard.Declined result_code reported) standing is = absurd cc
enquired-reported least heard.Unclear standing is = absurd cc
enquired-reported least heard.Stray standing is = absurd cc

served-reported : (end : Heard) (last : ℕ) (standing : Standing) → standing_served end last ≡ Some standing → IsReported standing
served-reported (heard.Begun stop) last standing is = absurd cc
served-reported (heard.Note intermediate_status) last standing is = absurd cc
served-reported heard.Line last standing is = absurd cc
served-reported heard.Block last standing is = absurd cc
served-reported heard.Seen last standing is = absurd cc
served-reported (heard.Approved figures) last standing is =
    subst IsReported (same-some (if nat_lt last figures.number then Ready figures.number else Aside last figures.number) standing is) (ready-or-aside (nat_lt last figures.number) figures.number last figures.number)
served-reported heard.Done last standing is = absurd cc
served-reported (heard.Told reported approved result_code) last standing is = absurd cc
served-reported (heard.Declined result_code reported) last standing is = subst IsReported (same-some (Ready (last_after_decline last reported)) standing is) tt
served-reported heard.Unclear last standing is = absurd cc
served-reported heard.Stray last standing is = absurd cc

done-reported : (end : Heard) (last : ℕ) (standing : Standing) → standing_done end last ≡ Some standing → IsReported standing
done-reported (heard.Begun stop) last standing is = absurd cc
done-reported (heard.Note intermediate_status) last standing is = absurd cc
done-reported heard.Line last standing is = absurd cc
done-reported heard.Block last standing is = absurd cc
done-reported heard.Seen last standing is = absurd cc
done-reported (heard.Approved figures) last standing is = absurd cc
done-reported heard.Done last standing is = subst IsReported (same-some (Ready last) standing is) tt
done-reported (heard.Told reported approved result_code) last standing is = absurd cc
done-reported (heard.Declined result_code reported) last standing is = subst IsReported (same-some (Ready last) standing is) tt
done-reported heard.Unclear last standing is = absurd cc
done-reported heard.Stray last standing is = absurd cc

service-reported : (end : Heard) (service : Service) (last : ℕ) (standing : Standing) → standing_of_service end service last ≡ Some standing → IsReported standing
service-reported end (Transaction slot) last standing is = served-reported end last standing is
service-reported end (EndOfDay header period) last standing is = done-reported end last standing is
service-reported end (Display header results) last standing is = done-reported end last standing is

ended-reported : (least : ℕ) (end : Heard) (before standing : Standing) → standing_ended least end before ≡ Some standing → IsReported standing
ended-reported least end (Unlinked due) standing is = absurd cc
ended-reported least end Registering standing is = absurd cc
ended-reported least end Enquiring standing is = enquired-reported least end standing is
ended-reported least end (Ready last) standing is = absurd cc
ended-reported least end (Serving service last) standing is = service-reported end service last standing is
ended-reported least end (Aside before reported) standing is = absurd cc

-- ---- the dialogue of a standing

-- the dialogue is of this kind
abbrev pub IsOfKind : DialogueKind → Option Dialogue → Type 0
IsOfKind dialogue_kind found = (dialogue : Dialogue) → found ≡ Some dialogue → dialogue.dialogue_kind ≡ dialogue_kind

-- it is that of a payment or a reversal
abbrev pub IsOfTransaction : Option Dialogue → Type 0
IsOfTransaction found = (dialogue : Dialogue) → found ≡ Some dialogue → IsTransaction dialogue.dialogue_kind

-- the dialogue of what is served
abbrev pub ServesIn : Service → Option Dialogue → Type 0
ServesIn (Transaction slot) found = IsOfTransaction found
ServesIn (EndOfDay header period) found = IsOfKind EndOfDayDialogue found
ServesIn (Display header results) found = IsOfKind DisplayDialogue found

-- the dialogue of a standing: where the terminal is ready or set aside it has ended
abbrev pub StandsIn : Standing → Option Dialogue → List Came → Type 0
StandsIn (Unlinked due) found came = Unit {0}
StandsIn Registering found came = IsOfKind Registration found
StandsIn Enquiring found came = IsOfKind Enquiry found
StandsIn (Ready last) found came = HasEnded found came
StandsIn (Serving service last) found came = ServesIn service found
StandsIn (Aside before reported) found came = HasEnded found came

reported-stands : (standing : Standing) (found : Option Dialogue) (came : List Came) → IsReported standing → HasEnded found came → StandsIn standing found came
reported-stands (Unlinked due) found came reported ended = absurd reported
reported-stands Registering found came reported ended = absurd reported
reported-stands Enquiring found came reported ended = absurd reported
reported-stands (Ready last) found came reported ended = ended
reported-stands (Serving service last) found came reported ended = absurd reported
reported-stands (Aside before reported) found came is ended = ended

-- more comes
stands-more : (laws : DialogueLaws) (standing : Standing) (found : Option Dialogue) (came more : List Came) → StandsIn standing found came → StandsIn standing found (came ++ more)
stands-more laws (Unlinked due) found came more stands = tt
stands-more laws Registering found came more stands = stands
stands-more laws Enquiring found came more stands = stands
stands-more laws (Ready last) found came more stands = ended-stays laws found came more stands
stands-more laws (Serving service last) found came more stands = stands
stands-more laws (Aside before reported) found came more stands = ended-stays laws found came more stands

of-kind : (one : Dialogue) (dialogue_kind : DialogueKind) → one.dialogue_kind ≡ dialogue_kind → IsOfKind dialogue_kind (Some one)
of-kind one dialogue_kind is dialogue found = ap (λ (d : Dialogue). d.dialogue_kind) (sym (same-some one dialogue found)) ∙ is

of-transaction : (one : Dialogue) → IsTransaction one.dialogue_kind → IsOfTransaction (Some one)
of-transaction one is dialogue found = subst (λ (d : Dialogue). IsTransaction d.dialogue_kind) (same-some one dialogue found) is

-- only a terminal that is ready serves after a command
asked-stands : (service : Service) (from : Option Standing) (standing : Standing) (found : Option Dialogue) (came : List Came) → ServesIn service found → option_and_then (standing_asked service) from ≡ Some standing → StandsIn standing found came
asked-stands service None standing found came serves is = absurd cc
asked-stands service (Some (Unlinked due)) standing found came serves is = absurd cc
asked-stands service (Some Registering) standing found came serves is = absurd cc
asked-stands service (Some Enquiring) standing found came serves is = absurd cc
asked-stands service (Some (Ready last)) standing found came serves is =
    subst (λ (s : Standing). StandsIn s found came) (same-some (Serving service last) standing is) serves
asked-stands service (Some (Serving other last)) standing found came serves is = absurd cc
asked-stands service (Some (Aside before reported)) standing found came serves is = absurd cc

took-stands : (laws : DialogueLaws) (runs : Bool) (found : Option Dialogue) (came more : List Came) (last : ℕ) (from : Option Standing) (end : Option Heard)
    → (if runs then option_and_then (λ dialogue. end_of dialogue (came ++ more)) found else None) ≡ end → ((before : Standing) → from ≡ Some before → StandsIn before found came)
    → (standing : Standing) → option_and_then (standing_taken last end) from ≡ Some standing → StandsIn standing found (came ++ more)
took-stands laws runs found came more last None end ends stands standing is = absurd cc
took-stands laws runs found came more last (Some before) None ends stands standing is =
    subst (λ (s : Standing). StandsIn s found (came ++ more)) (same-some before standing is) (stands-more laws before found came more (stands before refl))
took-stands laws runs found came more last (Some before) (Some end) ends stands standing is =
    reported-stands standing found (came ++ more) (ended-reported last end before standing is) (ended-of runs found (came ++ more) end ends)

-- the standing that a transcript leads to has its dialogue
pub stands-in : (laws : DialogueLaws) (pt : Pt) (transcript : List Carried) (standing : Standing) → standing_by pt transcript ≡ Some standing → StandsIn standing (dialogue_by pt transcript) (came_by transcript)
stands-in laws pt [] standing is = subst (λ (s : Standing). StandsIn s None []) (same-some (Unlinked None) standing is) tt
stands-in laws pt (Commanded (commands.Register password config currency) moment ∷ earlier) standing is =
    subst (λ (s : Standing). StandsIn s (dialogue_by pt (Commanded (commands.Register password config currency) moment ∷ earlier)) []) (same-some Registering standing is) (of-kind _ Registration refl)
stands-in laws pt (Commanded (commands.Authorise amount currency) moment ∷ earlier) standing is = asked-stands some_transaction (standing_by pt earlier) standing _ [] (of-transaction _ tt) is
stands-in laws pt (Commanded (commands.Enquire password) moment ∷ earlier) standing is =
    subst (λ (s : Standing). StandsIn s (dialogue_by pt (Commanded (commands.Enquire password) moment ∷ earlier)) []) (same-some Enquiring standing is) (of-kind _ Enquiry refl)
stands-in laws pt (Commanded (commands.Reverse password receipt) moment ∷ earlier) standing is = asked-stands some_transaction (standing_by pt earlier) standing _ [] (of-transaction _ tt) is
stands-in laws pt (Commanded (commands.EndOfDay password) moment ∷ earlier) standing is = asked-stands some_day (standing_by pt earlier) standing _ [] (of-kind _ EndOfDayDialogue refl) is
stands-in laws pt (Commanded commands.Stop moment ∷ earlier) standing is = stands-in laws pt earlier standing is
stands-in laws pt (Commanded (commands.Show lines) moment ∷ earlier) standing is = asked-stands some_display (standing_by pt earlier) standing _ [] (of-kind _ DisplayDialogue refl) is
stands-in laws pt (Took message moment last ∷ earlier) standing is =
    took-stands laws (is_some (talk_by pt earlier)) (dialogue_by pt earlier) (came_by earlier) _ last (standing_by pt earlier) (ended_with pt message moment earlier) refl
    (λ before stands. stands-in laws pt earlier before stands) standing is
stands-in laws pt (Wished ∷ earlier) standing is = stands-more laws standing (dialogue_by pt earlier) (came_by earlier) (StopWished ∷ []) (stands-in laws pt earlier standing is)
