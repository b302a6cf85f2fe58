-- The law that what is remembered of a terminal is what a flat list says: along each lawful log, of the commands that were sent to it, the messages that were taken of it and the stops that were wished since it was linked.
use Rattle.std.specs.Prelude.{◌≡◌, ℕ, ◌==◌, ◌||◌, Bool, true, false, if◌then◌else◌, List, [], ◌∷◌, ◌++◌, slice_get, Option, Some, None, Ok}
use Rattle.gw_base.specs.declared.setup.Setup.{Setup}
use Rattle.gw_site.specs.Outside.{outside_of}
use Rattle.gw_site.specs.declared.turn.Turn.{Turn}
use Rattle.gw_site.specs.declared.turn.Turn.TheVariants.{Start, OpenFailed, Polled, Opened, HeardTill, Closed, HeardPt, Lost, Stopped, Linked, LinkFailed, SentTill, SentPt, CutTill, CutPt, Wrote, Synced, DiskFailed, Crash}
use Rattle.sale_values.specs.declared.header.Header.{Header}
use Rattle.sale_values.specs.declared.request.Reference.{Reference}
use Rattle.sale_values.specs.declared.request.SaleRequest.TheVariants as requests
use Rattle.zvt_apdu.specs.Grammar.{ApduValue}
use Rattle.zvt_msg.specs.CommandCanonical.{canonical_command}
use Rattle.zvt_msg.specs.Message.{MessageValue, Ack, Completion}
use Rattle.zvt_msg.specs.MessageDecode.{decode_pt_message}
use Rattle.gw_owes.specs.Calls.{Ask, Acknowledge, OwedCall, SendTill, LinkPt, WriteBody, WriteGate, WriteFirstGate, Sync, keep_calls, SendPt as OwedSendPt, CutTill as OwedCutTill, CutPt as OwedCutPt}
use Rattle.gw_owes.specs.Handling.{enquiry_command}
use Rattle.gw_owes.specs.Items.{RoundItem}
use Rattle.gw_owes.specs.ReadAs.{Request}
use Rattle.gw_owes.specs.Row.{Known}
use Rattle.gw_owes.specs.TerminalRows.{terminal_of, is_link_lost}
use Rattle.gw_owes.specs.Terminals.{registration}
use Rattle.gw_owes.specs.Transcript.{Carried, Commanded, Took, Wished, FollowsTranscript, commanded, took_by, is_number, standing_by}
use Rattle.gw_owes.specs.declared.terminal.Standing.TheVariants.{Enquiring}
use Rattle.gw_owes.specs.declared.terminal.Terminal.{Terminal}
use Rattle.gw_rules.specs.CutCauses.{HasSaidApdu}
use Rattle.gw_rules.specs.Lawful.{IsClear, MayPoll, Stands}
use Rattle.gw_rules.specs.LinkLaws.{is_linked_after}
use Rattle.gw_rules.specs.RowExample.{example_pt, example_record, keep_view, gate_moves}
use Rattle.gw_rules.specs.Scene.{Scene, known_in}
use Rattle.gw_rules.specs.Stage.{is_broken}
use Rattle.gw_rules.specs.TerminalLogExample.{linked_course, enquired_course, declined_course}
use Rattle.gw_rules.specs.TillRounds.{HasAsked}
use Rattle.gw_rules.specs.View.{View, Move, Begin, Read, Make, after, view_from, at_first}

-- ---- what is owed to a terminal

-- the command of a call that sends this terminal one
abbrev pub command_to : ℕ → ℕ → OwedCall → List Carried
command_to pt moment (SendTill till reply) = []
command_to pt moment (OwedSendPt number sending) = if number == pt then commanded moment sending else []
command_to pt moment (OwedCutTill till) = []
command_to pt moment (OwedCutPt number) = []
command_to pt moment (LinkPt number) = []
command_to pt moment (WriteBody slot the_record) = []
command_to pt moment (WriteGate slot the_record) = []
command_to pt moment WriteFirstGate = []
command_to pt moment Sync = []

-- the command of the first of these calls
abbrev pub command_next : ℕ → ℕ → List OwedCall → List Carried
command_next pt moment [] = []
command_next pt moment (call ∷ calls) = command_to pt moment call

-- the commands that are owed to it, all of those among these calls, the newest first
abbrev pub command_owed : ℕ → ℕ → List OwedCall → List Carried
command_owed pt moment [] = []
command_owed pt moment (call ∷ calls) = command_owed pt moment calls ++ command_to pt moment call

-- the call cuts this terminal
abbrev pub cuts_terminal : ℕ → OwedCall → Bool
cuts_terminal pt (SendTill till reply) = false
cuts_terminal pt (OwedSendPt number sending) = false
cuts_terminal pt (OwedCutTill till) = false
cuts_terminal pt (OwedCutPt number) = number == pt
cuts_terminal pt (LinkPt number) = false
cuts_terminal pt (WriteBody slot the_record) = false
cuts_terminal pt (WriteGate slot the_record) = false
cuts_terminal pt WriteFirstGate = false
cuts_terminal pt Sync = false

-- its cut is owed, anywhere among these calls
abbrev pub cut_owed : ℕ → List OwedCall → Bool
cut_owed pt [] = false
cut_owed pt (call ∷ calls) = cuts_terminal pt call || cut_owed pt calls

-- ---- what is owed along a course

-- the calls that are owed after a move; where a call on the disk has failed, those that were owed before it, of which none is made any more
abbrev pub owed_after : View → Move → List OwedCall
owed_after v move = if is_broken (after v move).scene.stage then v.calls else (after v move).calls

-- the same after more moves; these calls, where there are none
abbrev pub owed_from : View → List OwedCall → List Move → List OwedCall
owed_from v calls [] = calls
owed_from v calls (move ∷ moves) = owed_from (after v move) (owed_after v move) moves

-- the same at the end of a course
abbrev pub owed_at : List Move → List OwedCall
owed_at moves = owed_from at_first [] moves

-- ---- the transcript of a terminal's link along a course

-- the transcript once an item of the terminal has begun: what it takes or wishes is added, and with the loss of the link there is none
abbrev pub transcript_with : Known → RoundItem → List Carried → List Carried
transcript_with known item transcript = if is_link_lost item then [] else took_by known item ++ transcript

-- the same of any item, by the run's setup: an item of another adds nothing
abbrev pub transcript_in : ℕ → Scene → RoundItem → List Carried → Option Setup → List Carried
transcript_in pt scene item transcript None = transcript
transcript_in pt scene item transcript (Some setup) = if is_number pt (terminal_of item) then transcript_with (known_in scene setup) item transcript else transcript

-- the transcript once the first item has begun
abbrev pub transcript_begun : ℕ → Scene → List RoundItem → List Carried → List Carried
transcript_begun pt scene [] transcript = transcript
transcript_begun pt scene (item ∷ items) transcript = transcript_in pt scene item transcript scene.setup

-- The transcript after a turn: a command that is sent whole is added. With each link, cut and start it begins anew.
abbrev pub transcript_made : ℕ → View → Turn → List Carried → List Carried
transcript_made pt v (Start setup) transcript = []
transcript_made pt v OpenFailed transcript = []
transcript_made pt v (Polled now) transcript = transcript
transcript_made pt v (Opened till) transcript = transcript
transcript_made pt v (HeardTill till bytes) transcript = transcript
transcript_made pt v (Closed till) transcript = transcript
transcript_made pt v (HeardPt number bytes) transcript = transcript
transcript_made pt v (Lost number) transcript = transcript
transcript_made pt v Stopped transcript = transcript
transcript_made pt v (Linked number) transcript = if number == pt then [] else transcript
transcript_made pt v (LinkFailed number) transcript = if number == pt then [] else transcript
transcript_made pt v (SentTill till bytes ok) transcript = transcript
transcript_made pt v (SentPt number bytes true) transcript = command_next pt v.scene.outside.moment v.calls ++ transcript
transcript_made pt v (SentPt number bytes false) transcript = transcript
transcript_made pt v (CutTill till) transcript = transcript
transcript_made pt v (CutPt number) transcript = if number == pt then [] else transcript
transcript_made pt v (Wrote offset bytes) transcript = transcript
transcript_made pt v Synced transcript = transcript
transcript_made pt v DiskFailed transcript = transcript
transcript_made pt v (Crash file) transcript = []

-- the transcript after a move
abbrev pub transcript_moved : ℕ → View → Move → List Carried → List Carried
transcript_moved pt v Begin transcript = transcript_begun pt v.scene v.items transcript
transcript_moved pt v (Read as_read) transcript = transcript
transcript_moved pt v (Make turn) transcript = transcript_made pt v turn transcript

-- the transcript after more moves
abbrev pub transcript_from : ℕ → View → List Carried → List Move → List Carried
transcript_from pt v transcript [] = transcript
transcript_from pt v transcript (move ∷ moves) = transcript_from pt (after v move) (transcript_moved pt v move transcript) moves

-- the transcript at the end of a course
abbrev pub transcript_of : ℕ → List Move → List Carried
transcript_of pt moves = transcript_from pt at_first [] moves

-- ---- the law

-- the calls owed after a lawful log are those of its view; but where a call on the disk has failed, since then the view has none
abbrev pub ClearOwesItsCalls : Type 0
ClearOwesItsCalls = (log : List Turn) (v : View) (s : Stands log v) → IsClear v → owed_at s.course ≡ v.calls

-- after each lawful log, each terminal's dialogue, what it awaits and its standing are those of its transcript, with the commands that are owed to it; but where its cut is owed
abbrev pub EachLogFollowsTranscript : Type 0
EachLogFollowsTranscript =
    (log : List Turn) (v : View) (s : Stands log v) (pt : ℕ) (terminal : Terminal) → slice_get v.scene.core.terminals pt ≡ Some terminal → cut_owed pt (owed_at s.course) ≡ false
    → FollowsTranscript pt (command_owed pt v.scene.outside.moment (owed_at s.course) ++ transcript_of pt s.course) v.scene.core

-- so where a poll may come they are those of what was sent, taken and wished, and no more
abbrev pub EachPollFollowsTranscript : Type 0
EachPollFollowsTranscript =
    (log : List Turn) (v : View) (s : Stands log v) (pt : ℕ) (terminal : Terminal) → MayPoll v → slice_get v.scene.core.terminals pt ≡ Some terminal → FollowsTranscript pt (transcript_of pt s.course) v.scene.core

-- ---- the commands by the log alone

-- the bytes are a command's, whose class is 06; those of an acknowledgement or a refusal aren't
abbrev pub is_command : List ℕ → Bool
is_command [] = false
is_command (class ∷ rest) = class == 0x06

-- the bytes are added where they are a command's
abbrev pub with_command : List ℕ → List (List ℕ) → List (List ℕ)
with_command bytes sent = if is_command bytes then bytes ∷ sent else sent

-- the commands that were sent whole to this terminal since it was linked, after one more turn, the newest first
abbrev pub sent_then : ℕ → Turn → List (List ℕ) → List (List ℕ)
sent_then pt (Start setup) sent = sent
sent_then pt OpenFailed sent = sent
sent_then pt (Polled now) sent = sent
sent_then pt (Opened till) sent = sent
sent_then pt (HeardTill till bytes) sent = sent
sent_then pt (Closed till) sent = sent
sent_then pt (HeardPt number bytes) sent = sent
sent_then pt (Lost number) sent = sent
sent_then pt Stopped sent = sent
sent_then pt (Linked number) sent = if number == pt then [] else sent
sent_then pt (LinkFailed number) sent = sent
sent_then pt (SentTill till bytes ok) sent = sent
sent_then pt (SentPt number bytes true) sent = if number == pt then with_command bytes sent else sent
sent_then pt (SentPt number bytes false) sent = sent
sent_then pt (CutTill till) sent = sent
sent_then pt (CutPt number) sent = sent
sent_then pt (Wrote offset bytes) sent = sent
sent_then pt Synced sent = sent
sent_then pt DiskFailed sent = sent
sent_then pt (Crash file) sent = sent

-- the same after more turns
abbrev pub sent_from : ℕ → List (List ℕ) → List Turn → List (List ℕ)
sent_from pt sent [] = sent
sent_from pt sent (turn ∷ turns) = sent_from pt (sent_then pt turn sent) turns

-- the commands of a transcript as they are spelled, the newest first
abbrev pub spelled_commands : List Carried → List (List ℕ)
spelled_commands [] = []
spelled_commands (Commanded command moment ∷ earlier) = canonical_command command ∷ spelled_commands earlier
spelled_commands (Took message moment least ∷ earlier) = spelled_commands earlier
spelled_commands (Wished ∷ earlier) = spelled_commands earlier

-- the commands of the transcript of a terminal that is linked are all that the log says were sent to it since it was linked
abbrev pub EachCommandWasSent : Type 0
EachCommandWasSent = (log : List Turn) (v : View) (s : Stands log v) (pt : ℕ) → is_linked_after log pt ≡ true → spelled_commands (transcript_of pt s.course) ≡ sent_from pt [] log

-- ---- the messages by the log alone

-- the terminal has said the message in a round of this log, at this moment
pub record WasSaid (log : List Turn) (pt : ℕ) (message : MessageValue) (moment : ℕ) : Type 0 where
  pub before : List Turn
  pub rest : List Turn
  pub log_is : log ≡ before ++ rest
  pub moment_is : (outside_of before).moment ≡ moment
  pub apdu : ApduValue
  pub said : HasSaidApdu before pt apdu
  pub decoded : decode_pt_message apdu ≡ Ok message

-- a till has said, in a round of this log, the Abort by which a stop is wished
pub record WasWished (log : List Turn) : Type 0 where
  pub before : List Turn
  pub rest : List Turn
  pub log_is : log ≡ before ++ rest
  pub till : ℕ
  pub header : Header
  pub reference : Reference
  pub asked : HasAsked before till (Request header (requests.Abort reference))

-- so each message of a transcript, and each stop that is wished
abbrev pub AreSaid : List Turn → ℕ → List Carried → Type 0
AreSaid log pt [] = Unit {0}
AreSaid log pt (Commanded command moment ∷ earlier) = AreSaid log pt earlier
AreSaid log pt (Took message moment least ∷ earlier) = WasSaid log pt message moment × AreSaid log pt earlier
AreSaid log pt (Wished ∷ earlier) = WasWished log × AreSaid log pt earlier

-- each message of a terminal's transcript was said by it, in a round at the message's moment, and each stop in it was wished by a till that has said an Abort
abbrev pub EachMessageWasSaid : Type 0
EachMessageWasSaid = (log : List Turn) (v : View) (s : Stands log v) (pt : ℕ) → AreSaid log pt (transcript_of pt s.course)

-- ---- an example

-- a record is to be kept, and then a command to be sent to the terminal
abbrev pub keep_then_ask : List OwedCall
keep_then_ask = keep_calls 0 example_record ++ OwedSendPt 0 (Ask (registration example_pt)) ∷ []

-- the gate of the record is written, and its sync fails
abbrev pub failed_keep_moves : List Move
failed_keep_moves = gate_moves ++ Make DiskFailed ∷ []

-- what is owed to a terminal: the commands and the cut among calls, after others too, and none of another terminal's; and what a failed sync has left
pub record ExampleOwed : Type 0 where
  pub own : command_owed 0 5 keep_then_ask ≡ Commanded (registration example_pt) 5 ∷ []
  pub other : command_owed 1 5 keep_then_ask ≡ []
  pub newest_first :
      command_owed 0 5 (OwedSendPt 0 (Ask (registration example_pt)) ∷ OwedSendPt 0 Acknowledge ∷ OwedSendPt 0 (Ask (enquiry_command example_pt)) ∷ []) ≡ Commanded (enquiry_command example_pt) 5 ∷ Commanded (registration example_pt) 5 ∷ []
  pub no_cut : cut_owed 0 keep_then_ask ≡ false
  pub own_cut : cut_owed 0 (keep_calls 0 example_record ++ OwedCutPt 0 ∷ []) ≡ true
  pub other_cut : cut_owed 1 (keep_calls 0 example_record ++ OwedCutPt 0 ∷ []) ≡ false
  pub left : owed_from (record keep_view { calls = keep_then_ask }) keep_then_ask failed_keep_moves ≡ Sync ∷ OwedSendPt 0 (Ask (registration example_pt)) ∷ []
  pub none_made : (view_from (record keep_view { calls = keep_then_ask }) failed_keep_moves).calls ≡ []

-- the transcript once the registration was sent; once it is done, and the enquiry sent, by which the terminal is enquired; and after a cut
pub record ExampleLogTranscript : Type 0 where
  pub linked : transcript_of 0 linked_course ≡ Commanded (registration example_pt) 0 ∷ []
  pub enquired : transcript_of 0 enquired_course ≡ Commanded (enquiry_command example_pt) 1 ∷ Took Completion 1 0 ∷ Took Ack 1 0 ∷ Commanded (registration example_pt) 0 ∷ []
  pub standing : standing_by example_pt (transcript_of 0 enquired_course) ≡ Some Enquiring
  pub cut : transcript_of 0 declined_course ≡ []
  pub owed : ExampleOwed
