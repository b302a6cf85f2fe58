-- The transcript of a terminal's link, which is all that was sent and taken on it, and the stops wished, and what the gateway remembers of the terminal by that flat list.
use Rattle.std.specs.Prelude.{◌≡◌, ℕ, pos, Bool, false, if◌then◌else◌, List, [], ◌∷◌, ◌++◌, nat_lt, slice_get, Option, Some, None, is_some, option_and_then, Result, Ok, Err, ◌==◌}
use Rattle.std.specs.Option.{option_or}
use Rattle.gw_base.specs.declared.key.Key.{Key}
use Rattle.gw_base.specs.declared.setup.Pt.{Pt}
use Rattle.gw_base.specs.declared.setup.Setup.{Setup}
use Rattle.sale_values.specs.declared.header.Header.{Header}
use Rattle.sale_values.specs.declared.names.Class.TheVariants as classes
use Rattle.sale_values.specs.declared.names.Kind.TheVariants as kinds
use Rattle.sale_values.specs.declared.names.Period.TheVariants.{AcquirerReconciliation}
use Rattle.sale_values.specs.declared.request.SaleRequest.{SaleRequest}
use Rattle.sale_values.specs.declared.request.SaleRequest.TheVariants as requests
use Rattle.sale_values.specs.Key.{key_of}
use Rattle.zvt_msg.specs.declared.command.Command.{Command}
use Rattle.zvt_msg.specs.declared.command.Command.TheVariants as commands
use Rattle.zvt_msg.specs.declared.fault.PtFault.{PtFault}
use Rattle.zvt_msg.specs.Message.{MessageValue}
use Rattle.zvt_msg.specs.MessageDecode.{decode_pt_message}
use Rattle.zvt_talk.specs.declared.meaning.Heard.{Heard}
use Rattle.zvt_talk.specs.declared.meaning.Heard.TheVariants as heard
use Rattle.zvt_talk.specs.Came.{Came, Message as CameMessage, StopWished, is_taken}
use Rattle.zvt_talk.specs.Dialogue.{Dialogue, dialogue_kind_of, dialogue_of}
use Rattle.zvt_talk.specs.Talk.{TalkFacts, end_of, talk_after, talk_goes_on}
use Rattle.jrn_record.specs.declared.records.Record.{Record}
use Rattle.gw_owes.specs.Awaited.{one_more_awaited}
use Rattle.gw_owes.specs.Calls.{Sending, Ask, Acknowledge, Refuse, OwedCall, SendTill, SendPt, CutTill, CutPt, LinkPt, WriteBody, WriteGate, WriteFirstGate, Sync, records_kept}
use Rattle.gw_owes.specs.declared.terminal.Service.{Service}
use Rattle.gw_owes.specs.declared.terminal.Service.TheVariants.{Transaction, EndOfDay, Display}
use Rattle.gw_owes.specs.declared.terminal.Standing.{Standing}
use Rattle.gw_owes.specs.declared.terminal.Standing.TheVariants.{Unlinked, Registering, Enquiring, Ready, Serving, Aside}
use Rattle.gw_owes.specs.declared.terminal.Terminal.{Terminal}
use Rattle.gw_owes.specs.Core.{Wait, Core, new_core}
use Rattle.gw_owes.specs.Items.{RoundItem, Crowded, Message, Asked, Unframed, Gone, Greet, Handle, Serve, Queue, NextWaiting, Oversized, LinkLost, Late, Overdue, Due}
use Rattle.gw_owes.specs.Row.{Known, Row}
use Rattle.gw_owes.specs.Terminals.{terminal_at}
use Rattle.gw_owes.specs.Links.{is_linked, LinkEvent, LinkIsLost, link_row}
use Rattle.gw_owes.specs.Reports.{standing_reported, on_record, least_reported}
use Rattle.gw_owes.specs.Serving.{last_after_decline}
use Rattle.gw_owes.specs.Handling.{awaited_after, taken_as}
use Rattle.gw_owes.specs.Stops.{serves_key}
use Rattle.gw_owes.specs.TerminalLaws.{owes_cut}
use Rattle.gw_owes.specs.TerminalRows.{terminal_of, terminal_row, is_link_lost}

-- what a link carries, at its moment, and a stop that is wished of what is served on it; a transcript is a list of these since the link was made, the newest first
pub data Carried : Type 0 where
  -- this command was sent
  Commanded : Command → ℕ → Carried
  -- this message was taken, when by the records this was the least trace number that the terminal might report
  Took : MessageValue → ℕ → ℕ → Carried
  -- a stop was wished
  Wished : Carried

-- ---- what is remembered, by the transcript

-- how many Acks and Nacks are awaited: the commands, less the Acks and Nacks after them; never below 0, at each message, and once it is the greatest count it stays
abbrev pub awaited_by : List Carried → ℕ
awaited_by [] = 0
awaited_by (Commanded command moment ∷ earlier) = one_more_awaited (awaited_by earlier)
awaited_by (Took message moment least ∷ earlier) = awaited_after message (awaited_by earlier)
awaited_by (Wished ∷ earlier) = awaited_by earlier

-- the dialogue of the last command that begins one
abbrev pub dialogue_by : Pt → List Carried → Option Dialogue
dialogue_by pt [] = None
dialogue_by pt (Commanded command moment ∷ earlier) = option_or (dialogue_of command pt.none pt.answer pt.command (pos moment)) (dialogue_by pt earlier)
dialogue_by pt (Took message moment least ∷ earlier) = dialogue_by pt earlier
dialogue_by pt (Wished ∷ earlier) = dialogue_by pt earlier

-- one message more, as the dialogue is handed it where so many Acks and Nacks are awaited
abbrev pub came_with : MessageValue → ℕ → ℕ → List Came → List Came
came_with message moment awaited came = came ++ CameMessage (taken_as awaited message) (pos moment) ∷ []

-- all that came since that command, the oldest first
abbrev pub came_by : List Carried → List Came
came_by [] = []
came_by (Commanded command moment ∷ earlier) = if is_some (dialogue_kind_of command) then [] else came_by earlier
came_by (Took message moment least ∷ earlier) = came_with message moment (awaited_by earlier) (came_by earlier)
came_by (Wished ∷ earlier) = came_by earlier ++ StopWished ∷ []

-- the talk of a dialogue after all that came, while it goes on
abbrev pub talk_going_on : Dialogue → List Came → Option TalkFacts
talk_going_on dialogue came = if talk_goes_on (talk_after dialogue came) then Some (talk_after dialogue came) else None

-- the talk that runs
abbrev pub talk_by : Pt → List Carried → Option TalkFacts
talk_by pt transcript = option_and_then (λ dialogue. talk_going_on dialogue (came_by transcript)) (dialogue_by pt transcript)

-- the standing that an enquiry's end leads to, by the least trace number that may be reported: only a report leads to one without a cut
abbrev pub standing_enquired : ℕ → Heard → Option Standing
standing_enquired least (heard.Begun stop) = None
standing_enquired least (heard.Note intermediate_status) = None
standing_enquired least heard.Line = None
standing_enquired least heard.Block = None
standing_enquired least heard.Seen = None
standing_enquired least (heard.Approved figures) = None
standing_enquired least heard.Done = None
standing_enquired least (heard.Told reported approved result_code) = Some (standing_reported least reported)
standing_enquired least (heard.Declined result_code reported) = None
standing_enquired least heard.Unclear = None
standing_enquired least heard.Stray = None

-- the standing that the end of a payment or a reversal leads to, by the last trace number before it: only an approval and a decline lead to one without a cut
abbrev pub standing_served : Heard → ℕ → Option Standing
standing_served (heard.Begun stop) last = None
standing_served (heard.Note intermediate_status) last = None
standing_served heard.Line last = None
standing_served heard.Block last = None
standing_served heard.Seen last = None
standing_served (heard.Approved figures) last = Some (if nat_lt last figures.number then Ready figures.number else Aside last figures.number)
standing_served heard.Done last = None
standing_served (heard.Told reported approved result_code) last = None
standing_served (heard.Declined result_code reported) last = Some (Ready (last_after_decline last reported))
standing_served heard.Unclear last = None
standing_served heard.Stray last = None

-- the standing that the end of an end of day or a display leads to, which leaves the last trace number: only one that is done and a decline lead to one without a cut
abbrev pub standing_done : Heard → ℕ → Option Standing
standing_done (heard.Begun stop) last = None
standing_done (heard.Note intermediate_status) last = None
standing_done heard.Line last = None
standing_done heard.Block last = None
standing_done heard.Seen last = None
standing_done (heard.Approved figures) last = None
standing_done heard.Done last = Some (Ready last)
standing_done (heard.Told reported approved result_code) last = None
standing_done (heard.Declined result_code reported) last = Some (Ready last)
standing_done heard.Unclear last = None
standing_done heard.Stray last = None

-- the standing that the end of what is served leads to
abbrev pub standing_of_service : Heard → Service → ℕ → Option Standing
standing_of_service end (Transaction slot) last = standing_served end last
standing_of_service end (EndOfDay header period) last = standing_done end last
standing_of_service end (Display header results) last = standing_done end last

-- the standing that the end of a dialogue leads to, by the one in which it ran and the least trace number that may be reported; what follows a registration's end is a command or a cut
abbrev pub standing_ended : ℕ → Heard → Standing → Option Standing
standing_ended least end (Unlinked due) = None
standing_ended least end Registering = None
standing_ended least end Enquiring = standing_enquired least end
standing_ended least end (Ready last) = None
standing_ended least end (Serving service last) = standing_of_service end service last
standing_ended least end (Aside before reported) = None

-- which standing a message leads to: another only where the dialogue has ended with it
abbrev pub standing_taken : ℕ → Option Heard → Standing → Option Standing
standing_taken least None standing = Some standing
standing_taken least (Some end) standing = standing_ended least end standing

-- how the dialogue that runs ends with this message, where it does
abbrev pub ended_with : Pt → MessageValue → ℕ → List Carried → Option Heard
ended_with pt message moment earlier =
    if is_some (talk_by pt earlier)
    then option_and_then (λ dialogue. end_of dialogue (came_with message moment (awaited_by earlier) (came_by earlier))) (dialogue_by pt earlier)
    else None

-- a payment or a reversal, in no slot of the records
abbrev pub some_transaction : Service
some_transaction = Transaction 0

-- the header of no request
abbrev pub blank_header : Header
blank_header = record { class = classes.Service; category = []; kind = kinds.Request; service = None; device = None; sale = []; poi = [] }

-- an end of day of no request
abbrev pub some_day : Service
some_day = EndOfDay blank_header AcquirerReconciliation

-- a display of no request
abbrev pub some_display : Service
some_display = Display blank_header None

-- a terminal that is ready serves this
abbrev pub standing_asked : Service → Standing → Option Standing
standing_asked service (Unlinked due) = None
standing_asked service Registering = None
standing_asked service Enquiring = None
standing_asked service (Ready last) = Some (Serving service last)
standing_asked service (Serving other last) = None
standing_asked service (Aside before reported) = None

-- which standing a command leads to: a stop leaves it
abbrev pub standing_commanded : Command → Option Standing → Option Standing
standing_commanded (commands.Register password config currency) standing = Some Registering
standing_commanded (commands.Authorise amount currency) standing = option_and_then (standing_asked some_transaction) standing
standing_commanded (commands.Enquire password) standing = Some Enquiring
standing_commanded (commands.Reverse password receipt) standing = option_and_then (standing_asked some_transaction) standing
standing_commanded (commands.EndOfDay password) standing = option_and_then (standing_asked some_day) standing
standing_commanded commands.Stop standing = standing
standing_commanded (commands.Show lines) standing = option_and_then (standing_asked some_display) standing

-- the standing, where the transcript leaves one: without a command the terminal is unlinked
abbrev pub standing_by : Pt → List Carried → Option Standing
standing_by pt [] = Some (Unlinked None)
standing_by pt (Commanded command moment ∷ earlier) = standing_commanded command (standing_by pt earlier)
standing_by pt (Took message moment least ∷ earlier) = option_and_then (standing_taken least (ended_with pt message moment earlier)) (standing_by pt earlier)
standing_by pt (Wished ∷ earlier) = standing_by pt earlier

-- what is served without that of which no transcript says anything: the slot of its Intent, or its request
abbrev pub service_as_carried : Service → Service
service_as_carried (Transaction slot) = some_transaction
service_as_carried (EndOfDay header period) = some_day
service_as_carried (Display header results) = some_display

-- a standing without that of which no transcript says anything: the moment at which the terminal is linked again, and that of what it serves
abbrev pub as_carried : Standing → Standing
as_carried (Unlinked due) = Unlinked None
as_carried Registering = Registering
as_carried Enquiring = Enquiring
as_carried (Ready last) = Ready last
as_carried (Serving service last) = Serving (service_as_carried service) last
as_carried (Aside before reported) = Aside before reported

-- the terminal of this number is there, and its dialogue, what it awaits and its standing are those of the transcript
pub record FollowsTranscript (number : ℕ) (transcript : List Carried) (core : Core) : Type 0 where
  pub terminal : Terminal
  pub found : slice_get core.terminals number ≡ Some terminal
  pub talk_is : terminal.talk ≡ talk_by terminal.pt transcript
  pub awaited_is : terminal.awaited ≡ awaited_by transcript
  pub standing_is : Some (as_carried terminal.standing) ≡ standing_by terminal.pt transcript

-- ---- what a row adds

-- a command that is sent
abbrev pub commanded : ℕ → Sending → List Carried
commanded moment (Ask command) = Commanded command moment ∷ []
commanded moment Acknowledge = []
commanded moment Refuse = []

-- the commands among these calls, the newest first
abbrev pub commanded_by : ℕ → List OwedCall → List Carried
commanded_by moment [] = []
commanded_by moment (SendTill till reply ∷ calls) = commanded_by moment calls
commanded_by moment (SendPt number sending ∷ calls) = commanded_by moment calls ++ commanded moment sending
commanded_by moment (CutTill till ∷ calls) = commanded_by moment calls
commanded_by moment (CutPt number ∷ calls) = commanded_by moment calls
commanded_by moment (LinkPt number ∷ calls) = commanded_by moment calls
commanded_by moment (WriteBody slot the_record ∷ calls) = commanded_by moment calls
commanded_by moment (WriteGate slot the_record ∷ calls) = commanded_by moment calls
commanded_by moment (WriteFirstGate ∷ calls) = commanded_by moment calls
commanded_by moment (Sync ∷ calls) = commanded_by moment calls

-- a message is taken but where it is outside the table; an APDU outside the grammar is none
abbrev pub took_decoded : ℕ → ℕ → Result MessageValue PtFault → List Carried
took_decoded moment least (Ok message) = if is_taken message then Took message moment least ∷ [] else []
took_decoded moment least (Err fault) = []

-- what is taken of a terminal, where there is one and it is linked
abbrev pub took_of : Known → Option Terminal → Result MessageValue PtFault → List Carried
took_of known None decoded = []
took_of known (Some terminal) decoded = if is_linked terminal.standing then took_decoded known.moment (least_reported (on_record known.kept terminal.pt.poi)) decoded else []

-- a stop is wished where the terminal serves the payment, the reversal or the end of day of this key
abbrev pub wished_of : List Record → Key → Option Terminal → List Carried
wished_of kept key None = []
wished_of kept key (Some terminal) = if serves_key kept key terminal then Wished ∷ [] else []

-- a request wishes a stop of the terminal of this number: only an Abort does
abbrev pub wished_for : Known → ℕ → Header → SaleRequest → List Carried
wished_for known number header requests.Login = []
wished_for known number header requests.Logout = []
wished_for known number header (requests.Payment ask) = []
wished_for known number header (requests.Reversal ask) = []
wished_for known number header (requests.Abort reference) = wished_of known.kept (key_of header reference) (terminal_at known number)
wished_for known number header (requests.Status reference) = []
wished_for known number header (requests.Reconciliation period) = []
wished_for known number header (requests.Display outputs) = []
wished_for known number header (requests.Print qualifier) = []
wished_for known number header requests.Diagnosis = []

-- the message that an item takes, or the stop that it wishes
abbrev pub took_by : Known → RoundItem → List Carried
took_by known (Crowded till) = []
took_by known (Message till bytes) = []
took_by known (Asked till as_read) = []
took_by known (Unframed till) = []
took_by known (Gone till) = []
took_by known (Greet number apdu) = []
took_by known (Handle number apdu) = took_of known (terminal_at known number) (decode_pt_message apdu)
took_by known (Serve number till header request) = wished_for known number header request
took_by known (Queue number till header request) = []
took_by known (NextWaiting number) = []
took_by known (Oversized number) = []
took_by known (LinkLost number) = []
took_by known (Late number) = []
took_by known (Overdue key) = []
took_by known (Due number) = []

-- the transcript after what an item takes, or wishes, and its row sends
abbrev pub transcript_grown : Known → RoundItem → List Carried → List Carried
transcript_grown known item transcript = commanded_by known.moment (terminal_row known item).calls ++ (took_by known item ++ transcript)

-- the transcript after an event of the link begins anew, with what is sent for it
abbrev pub transcript_anew : Known → ℕ → LinkEvent → List Carried
transcript_anew known number event = commanded_by known.moment (link_row known number event).calls

-- ---- the law

-- the transcript after an item of the terminal: with its link it begins anew
abbrev pub transcript_after : Known → RoundItem → List Carried → List Carried
transcript_after known item transcript = if is_link_lost item then [] else transcript_grown known item transcript

-- as a run begins each terminal has the transcript of no link
abbrev pub NewCoreFollowsTranscript : Type 0
NewCoreFollowsTranscript = (setup : Setup) (number : ℕ) (pt : Pt) → slice_get setup.terminals number ≡ Some pt → FollowsTranscript number [] (new_core setup)

-- an item of a terminal that cuts no connection adds to the terminal's transcript what it takes, wishes and sends, and what is remembered follows
abbrev pub EachRowFollowsTranscript : Type 0
EachRowFollowsTranscript =
    (known : Known) (item : RoundItem) (number : ℕ) (transcript : List Carried) → terminal_of item ≡ Some number → FollowsTranscript number transcript known.core
    → owes_cut (terminal_row known item).calls ≡ false → FollowsTranscript number (transcript_after known item transcript) (terminal_row known item).core

-- an event of its link begins the transcript anew, whatever was before: so a cut, with which the link is lost, leaves the terminal without one
abbrev pub EachLinkBeginsTranscript : Type 0
EachLinkBeginsTranscript =
    (known : Known) (number : ℕ) (event : LinkEvent) (terminal : Terminal) → terminal_at known number ≡ Some terminal
    → FollowsTranscript number (transcript_anew known number event) (link_row known number event).core

-- ---- after a list of steps

-- what happens to terminals: an item is handled, with the cut that it owes; a link is made, couldn't be made, or is lost; or other requests wait for them, whatever brings that
pub data TerminalStep : Type 0 where
  HandlesItem : RoundItem → TerminalStep
  ChangesLink : ℕ → LinkEvent → TerminalStep
  ChangesWaits : List Wait → TerminalStep

-- the same at its moment
pub record StepAt : Type 0 where
  pub moment : ℕ
  pub step : TerminalStep

-- what is remembered after a row: with a cut of the terminal its link is lost
abbrev pub core_with_cut : Known → Row → Option ℕ → Core
core_with_cut known row None = row.core
core_with_cut known row (Some number) = if owes_cut row.calls then (link_row (record known { core = row.core }) number LinkIsLost).core else row.core

-- what is remembered after a step
abbrev pub core_after : Known → TerminalStep → Core
core_after known (HandlesItem item) = core_with_cut known (terminal_row known item) (terminal_of item)
core_after known (ChangesLink number event) = (link_row known number event).core
core_after known (ChangesWaits waits) = record known.core { waits = waits }

-- this number is that of the terminal
abbrev pub is_number : ℕ → Option ℕ → Bool
is_number number None = false
is_number number (Some other) = other == number

-- the transcript of the terminal after an item of it: with a cut there is none
abbrev pub transcript_with_cut : Known → RoundItem → List Carried → List Carried
transcript_with_cut known item transcript = if owes_cut (terminal_row known item).calls then [] else transcript_after known item transcript

-- the transcript of the terminal of this number after a step: what happens to others adds nothing
abbrev pub transcript_after_step : ℕ → Known → TerminalStep → List Carried → List Carried
transcript_after_step number known (HandlesItem item) transcript = if is_number number (terminal_of item) then transcript_with_cut known item transcript else transcript
transcript_after_step number known (ChangesLink other event) transcript = if other == number then transcript_anew known other event else transcript
transcript_after_step number known (ChangesWaits waits) transcript = transcript

-- what is known before a step
abbrev pub known_before : Known → StepAt → Known
known_before known first = record known { moment = first.moment }

-- the records that an item's row keeps; nothing else keeps any
abbrev pub kept_in_step : Known → TerminalStep → List Record
kept_in_step known (HandlesItem item) = records_kept (terminal_row known item).calls
kept_in_step known (ChangesLink number event) = []
kept_in_step known (ChangesWaits waits) = []

-- what is known after it
abbrev pub known_after : Known → StepAt → Known
known_after known first = record known {
  moment = first.moment;
  core = core_after (known_before known first) first.step;
  kept = known.kept ++ kept_in_step (known_before known first) first.step;
}

-- what is remembered after these steps, the oldest first
abbrev pub core_along : Known → List StepAt → Core
core_along known [] = known.core
core_along known (first ∷ rest) = core_along (known_after known first) rest

-- the transcript of the terminal of this number after these steps
abbrev pub transcript_along : ℕ → Known → List Carried → List StepAt → List Carried
transcript_along number known transcript [] = transcript
transcript_along number known transcript (first ∷ rest) = transcript_along number (known_after known first) (transcript_after_step number (known_before known first) first.step transcript) rest

-- what is known as a run begins
abbrev pub known_new : Setup → List Record → Known
known_new setup kept = record { setup = setup; core = new_core setup; kept = kept; moment = 0 }

-- after every list of steps from where a run begins, whatever brings them, each terminal's dialogue, what it awaits and its standing are those of the flat list of what was sent and taken on its link
abbrev pub EachStepFollowsTranscript : Type 0
EachStepFollowsTranscript =
    (setup : Setup) (kept : List Record) (steps : List StepAt) (number : ℕ) (pt : Pt) → slice_get setup.terminals number ≡ Some pt
    → FollowsTranscript number (transcript_along number (known_new setup kept) [] steps) (core_along (known_new setup kept) steps)
