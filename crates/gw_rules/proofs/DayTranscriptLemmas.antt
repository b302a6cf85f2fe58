-- What a transcript says of a terminal that serves an end of day: which command it was sent last, and by which message that is done.
use Rattle.std.proofs.Common.{◌≡◌, ℕ, List, [], ◌∷◌, refl, sym, ◌∙◌, ap, subst, true, false}
use Rattle.std.specs.Prelude.{Bool, ◌==◌, nat_le, nat_lt, if◌then◌else◌, option_and_then, Option, Some, None}
use Rattle.gw_base.specs.declared.setup.Pt.{Pt}
use Rattle.zvt_msg.specs.CommandCanonical.{canonical_command}
use Rattle.zvt_msg.specs.Message.{MessageValue, Ack, Nack, Intermediate, Line, Block, Status, Completion, Abort, Other}
use Rattle.zvt_msg.specs.declared.command.Command.{Command}
use Rattle.zvt_msg.specs.declared.command.Command.TheVariants as commands
use Rattle.zvt_talk.specs.declared.dialogue_kind.DialogueKind.TheVariants as kinds
use Rattle.zvt_talk.specs.declared.meaning.Heard.{Heard}
use Rattle.zvt_talk.specs.declared.meaning.Heard.TheVariants as heard
use Rattle.zvt_talk.specs.declared.phase.Phase.{Phase}
use Rattle.zvt_talk.specs.declared.phase.Phase.TheVariants.{Asked, Begun, Ended}
use Rattle.zvt_talk.specs.declared.statuses.Statuses.{Statuses}
use Rattle.zvt_talk.specs.Came.{Came}
use Rattle.zvt_talk.specs.Dialogue.{Dialogue}
use Rattle.zvt_talk.specs.Table.{trace_of, meaning_of_abort, meaning_when_asked, meaning_when_begun}
use Rattle.zvt_talk.specs.Talk.{TalkFacts, talk_after, talk_goes_on}
use Rattle.zvt_talk.specs.TalkSteps.{meaning_in_phase}
use Rattle.gw_owes.specs.Handling.{taken_as, meaning_for, meaning_at}
use Rattle.gw_owes.specs.Reports.{standing_reported}
use Rattle.gw_owes.specs.Transcript.{Carried, Commanded, Took, Wished, came_by, dialogue_by, talk_going_on, talk_by, standing_enquired, standing_served, standing_done, standing_of_service, standing_ended, standing_taken, ended_with, standing_asked, some_transaction, some_display, standing_by}
use Rattle.gw_owes.specs.declared.terminal.Service.{Service}
use Rattle.gw_owes.specs.declared.terminal.Service.TheVariants.{Transaction, EndOfDay, Display}
use Rattle.gw_owes.specs.declared.terminal.Standing.{Standing}
use Rattle.gw_owes.specs.declared.terminal.Standing.TheVariants.{Unlinked, Registering, Enquiring, Ready, Serving, Aside}
use Rattle.gw_owes.specs.declared.terminal.Terminal.{Terminal}
use Rattle.gw_rules.specs.DayLogs.{last_but_stops}
use Rattle.gw_rules.specs.TranscriptLaws.{spelled_commands}
use Rattle.gw_rules.proofs.StageLemmas.{no-true}

-- ---- standings

abbrev is_day_service : Service → Bool
is_day_service (Transaction slot) = false
is_day_service (EndOfDay header period) = true
is_day_service (Display header results) = false

-- an end of day is served
abbrev pub is_day_standing : Standing → Bool
is_day_standing (Unlinked due) = false
is_day_standing Registering = false
is_day_standing Enquiring = false
is_day_standing (Ready last) = false
is_day_standing (Serving service last) = is_day_service service
is_day_standing (Aside before reported) = false

abbrev pub is_day_any : Option Standing → Bool
is_day_any None = false
is_day_any (Some standing) = is_day_standing standing

reported-none : (least reported : ℕ) → is_day_standing (standing_reported least reported) ≡ false
reported-none least reported = by_test (nat_le least reported)
  where
    by_test : (test : Bool) → is_day_standing (if test then Ready reported else Aside least reported) ≡ false
    by_test true = refl
    by_test false = refl

enquired-none : (least : ℕ) (end : Heard) → is_day_any (standing_enquired least end) ≡ false
enquired-none least (heard.Begun stop) = refl
enquired-none least (heard.Note intermediate_status) = refl
enquired-none least heard.Line = refl
enquired-none least heard.Block = refl
enquired-none least heard.Seen = refl
enquired-none least (heard.Approved figures) = refl
enquired-none least heard.Done = refl
enquired-none least (heard.Told reported approved result_code) = reported-none least reported
enquired-none least (heard.Declined result_code reported) = refl
enquired-none least heard.Unclear = refl
enquired-none least heard.Stray = refl

approved-none : (last number : ℕ) → is_day_standing (if nat_lt last number then Ready number else Aside last number) ≡ false
approved-none last number = by_test (nat_lt last number)
  where
    by_test : (test : Bool) → is_day_standing (if test then Ready number else Aside last number) ≡ false
    by_test true = refl
    by_test false = refl

served-none : (end : Heard) (last : ℕ) → is_day_any (standing_served end last) ≡ false
served-none (heard.Begun stop) last = refl
served-none (heard.Note intermediate_status) last = refl
served-none heard.Line last = refl
served-none heard.Block last = refl
served-none heard.Seen last = refl
served-none (heard.Approved figures) last = approved-none last figures.number
served-none heard.Done last = refl
served-none (heard.Told reported approved result_code) last = refl
served-none (heard.Declined result_code reported) last = refl
served-none heard.Unclear last = refl
served-none heard.Stray last = refl

done-none : (end : Heard) (last : ℕ) → is_day_any (standing_done end last) ≡ false
done-none (heard.Begun stop) last = refl
done-none (heard.Note intermediate_status) last = refl
done-none heard.Line last = refl
done-none heard.Block last = refl
done-none heard.Seen last = refl
done-none (heard.Approved figures) last = refl
done-none heard.Done last = refl
done-none (heard.Told reported approved result_code) last = refl
done-none (heard.Declined result_code reported) last = refl
done-none heard.Unclear last = refl
done-none heard.Stray last = refl

service-none : (end : Heard) (service : Service) (last : ℕ) → is_day_any (standing_of_service end service last) ≡ false
service-none end (Transaction slot) last = served-none end last
service-none end (EndOfDay header period) last = done-none end last
service-none end (Display header results) last = done-none end last

-- the end of a dialogue leads to none in which an end of day is served
ended-none : (least : ℕ) (end : Heard) (standing : Standing) → is_day_any (standing_ended least end standing) ≡ false
ended-none least end (Unlinked due) = refl
ended-none least end Registering = refl
ended-none least end Enquiring = enquired-none least end
ended-none least end (Ready last) = refl
ended-none least end (Serving service last) = service-none end service last
ended-none least end (Aside before reported) = refl

-- so a message leaves an end of day that is served
taken-day : (least : ℕ) (end : Option Heard) (standing : Option Standing) → is_day_any (option_and_then (standing_taken least end) standing) ≡ true → is_day_any standing ≡ true
taken-day least end None e = no-true e
taken-day least None (Some standing) e = e
taken-day least (Some end) (Some standing) e = no-true (sym (ended-none least end standing) ∙ e)

-- a command begins to serve nothing but what it asks for
asked-none : (service : Service) (standing : Option Standing) → is_day_service service ≡ false → is_day_any (option_and_then (standing_asked service) standing) ≡ false
asked-none service None none = refl
asked-none service (Some (Unlinked due)) none = refl
asked-none service (Some Registering) none = refl
asked-none service (Some Enquiring) none = refl
asked-none service (Some (Ready last)) none = none
asked-none service (Some (Serving other last)) none = refl
asked-none service (Some (Aside before reported)) none = refl

-- ---- the last command

-- the last command but stops is an end of day, and its dialogue is the last
pub record IsDayAsked (pt : Pt) (transcript : List Carried) : Type 0 where
  pub password : List ℕ
  pub asked : last_but_stops (spelled_commands transcript) ≡ Some (canonical_command (commands.EndOfDay password))
  pub dialogue : Dialogue
  pub dialogue_is : dialogue_by pt transcript ≡ Some dialogue
  pub kind_is : dialogue.dialogue_kind ≡ kinds.EndOfDay

commanded-day : (pt : Pt) (command : Command) (moment : ℕ) (earlier : List Carried) → (is_day_any (standing_by pt earlier) ≡ true → IsDayAsked pt earlier) → is_day_any (standing_by pt (Commanded command moment ∷ earlier)) ≡ true
    → IsDayAsked pt (Commanded command moment ∷ earlier)
commanded-day pt (commands.Register password config currency) moment earlier before e = no-true e
commanded-day pt (commands.Authorise amount currency) moment earlier before e = no-true (sym (asked-none some_transaction (standing_by pt earlier) refl) ∙ e)
commanded-day pt (commands.Enquire password) moment earlier before e = no-true e
commanded-day pt (commands.Reverse password receipt) moment earlier before e = no-true (sym (asked-none some_transaction (standing_by pt earlier) refl) ∙ e)
commanded-day pt (commands.EndOfDay password) moment earlier before e = record { password = password; asked = refl; dialogue = _; dialogue_is = refl; kind_is = refl }
commanded-day pt commands.Stop moment earlier before e = let b = before e in record { password = b.password; asked = b.asked; dialogue = b.dialogue; dialogue_is = b.dialogue_is; kind_is = b.kind_is }
commanded-day pt (commands.Show texts) moment earlier before e = no-true (sym (asked-none some_display (standing_by pt earlier) refl) ∙ e)

-- where an end of day is served
pub day-asked : (pt : Pt) (transcript : List Carried) → is_day_any (standing_by pt transcript) ≡ true → IsDayAsked pt transcript
day-asked pt [] e = no-true e
day-asked pt (Commanded command moment ∷ earlier) e = commanded-day pt command moment earlier (day-asked pt earlier) e
day-asked pt (Took message moment least ∷ earlier) e =
    let before = day-asked pt earlier (taken-day least (ended_with pt message moment earlier) (standing_by pt earlier) e) in
    record { password = before.password; asked = before.asked; dialogue = before.dialogue; dialogue_is = before.dialogue_is; kind_is = before.kind_is }
day-asked pt (Wished ∷ earlier) e = let before = day-asked pt earlier e in record { password = before.password; asked = before.asked; dialogue = before.dialogue; dialogue_is = before.dialogue_is; kind_is = before.kind_is }

-- ---- by which message it is done

-- this means that a command is done
abbrev is_done : Heard → Bool
is_done (heard.Begun stop) = false
is_done (heard.Note intermediate_status) = false
is_done heard.Line = false
is_done heard.Block = false
is_done heard.Seen = false
is_done (heard.Approved figures) = false
is_done heard.Done = true
is_done (heard.Told reported approved result_code) = false
is_done (heard.Declined result_code reported) = false
is_done heard.Unclear = false
is_done heard.Stray = false

-- neither a refusal nor an abort by the terminal does
refused-none : (is_zero : Bool) (code : ℕ) (trace : Option ℕ) → is_done (if is_zero then heard.Unclear else heard.Declined code trace) ≡ false
refused-none true code trace = refl
refused-none false code trace = refl

abort-none : (none : ℕ) (statuses : Statuses) (result_code : Option ℕ) → is_done (meaning_of_abort kinds.EndOfDay none statuses result_code) ≡ false
abort-none none statuses None = refl
abort-none none statuses (Some code) = refused-none (code == 0) code (trace_of statuses.last)

-- an end of day is done with a Completion alone
asked-completes : (stop_wished : Bool) (message : MessageValue) → is_done (meaning_when_asked kinds.EndOfDay stop_wished message) ≡ true → message ≡ Completion
asked-completes stop_wished Ack e = no-true e
asked-completes stop_wished (Nack error_code) e = no-true (sym (refused-none (error_code == 0) error_code None) ∙ e)
asked-completes stop_wished (Intermediate intermediate_status) e = no-true e
asked-completes stop_wished (Line text) e = no-true e
asked-completes stop_wished (Block objects) e = no-true e
asked-completes stop_wished (Status fields) e = no-true e
asked-completes stop_wished Completion e = refl
asked-completes stop_wished (Abort result_code) e = no-true e
asked-completes stop_wished Other e = no-true e

begun-completes : (none : ℕ) (statuses : Statuses) (message : MessageValue) → is_done (meaning_when_begun kinds.EndOfDay none statuses message) ≡ true → message ≡ Completion
begun-completes none statuses Ack e = no-true e
begun-completes none statuses (Nack error_code) e = no-true e
begun-completes none statuses (Intermediate intermediate_status) e = no-true e
begun-completes none statuses (Line text) e = no-true e
begun-completes none statuses (Block objects) e = no-true e
begun-completes none statuses (Status fields) e = no-true e
begun-completes none statuses Completion e = refl
begun-completes none statuses (Abort result_code) e = no-true (sym (abort-none none statuses result_code) ∙ e)
begun-completes none statuses Other e = no-true e

phase-completes : (none : ℕ) (phase : Phase) (message : MessageValue) → is_done (meaning_in_phase kinds.EndOfDay none phase message) ≡ true → message ≡ Completion
phase-completes none (Asked stop_wished) message e = asked-completes stop_wished message e
phase-completes none (Begun stop_sent statuses) message e = begun-completes none statuses message e
phase-completes none (Ended stop_sent) message e = no-true e

-- however the dialogue is handed it
handed-completes : (awaited : ℕ) (message : MessageValue) → taken_as awaited message ≡ Completion → message ≡ Completion
handed-completes awaited Ack e = e
handed-completes awaited (Nack error_code) e = absurd (let n : Nack (if nat_le 2 awaited then 0 else error_code) ≡ Completion = e in cc)
handed-completes awaited (Intermediate intermediate_status) e = e
handed-completes awaited (Line text) e = e
handed-completes awaited (Block objects) e = e
handed-completes awaited (Status fields) e = e
handed-completes awaited Completion e = refl
handed-completes awaited (Abort result_code) e = e
handed-completes awaited Other e = e

talk-completes : (dialogue : Dialogue) (came : List Came) (message : MessageValue) → dialogue.dialogue_kind ≡ kinds.EndOfDay → is_done (meaning_for (talk_going_on dialogue came) message) ≡ true → message ≡ Completion
talk-completes dialogue came message kind_is e = by_test (talk_goes_on (talk_after dialogue came)) e
  where
    by_test : (test : Bool) → is_done (meaning_for (if test then Some (talk_after dialogue came) else None) message) ≡ true → message ≡ Completion
    by_test true e =
        phase-completes dialogue.none (talk_after dialogue came).phase message
        (subst (λ dialogue_kind. is_done (meaning_in_phase dialogue_kind dialogue.none (talk_after dialogue came).phase message) ≡ true) kind_is e)
    by_test false e = no-true e

-- where the transcript's last dialogue is that of an end of day, a message by which it is done is a Completion
pub done-completes : (transcript : List Carried) (terminal : Terminal) (message : MessageValue) → IsDayAsked terminal.pt transcript → terminal.talk ≡ talk_by terminal.pt transcript → meaning_at terminal message ≡ heard.Done → message ≡ Completion
done-completes transcript terminal message asked talk_is done =
    handed-completes terminal.awaited message
    (talk-completes asked.dialogue (came_by transcript) (taken_as terminal.awaited message) asked.kind_is
    (ap (λ (found : Option Dialogue). is_done (meaning_for (option_and_then (λ dialogue. talk_going_on dialogue (came_by transcript)) found) (taken_as terminal.awaited message))) (sym asked.dialogue_is)
    ∙ ap (λ (talk : Option TalkFacts). is_done (meaning_for talk (taken_as terminal.awaited message))) (sym talk_is) ∙ ap is_done done))
