-- What a message of a terminal means in each of its standings, and what follows from it. It was acknowledged before.
use Rattle.std.specs.Prelude.{ℕ, pos, nat_le, if◌then◌else◌, [], ◌∷◌, Option, Some, None, unwrap_or, Result, Ok, Err}
use Rattle.std.specs.Option.{option_map}
use Rattle.gw_base.specs.declared.setup.Pt.{Pt}
use Rattle.zvt_apdu.specs.Grammar.{ApduValue}
use Rattle.zvt_msg.specs.declared.command.Command.{Command}
use Rattle.zvt_msg.specs.declared.command.Command.TheVariants as command
use Rattle.zvt_msg.specs.declared.fault.PtFault.{PtFault}
use Rattle.zvt_msg.specs.Message.{MessageValue, Ack, Nack, Intermediate, Line, Block, Status, Completion, Abort, Other}
use Rattle.zvt_msg.specs.MessageDecode.{decode_pt_message}
use Rattle.zvt_talk.specs.declared.meaning.Heard.{Heard}
use Rattle.zvt_talk.specs.declared.meaning.Heard.TheVariants as heard
use Rattle.zvt_talk.specs.Came.{is_taken}
use Rattle.zvt_talk.specs.Talk.{TalkFacts}
use Rattle.zvt_talk.specs.TalkSteps.{meaning_for_talk, next_talk}
use Rattle.gw_owes.specs.Awaited.{one_less_awaited}
use Rattle.gw_owes.specs.Calls.{Ask, SendPt}
use Rattle.gw_owes.specs.DeviceRequests.{device_row}
use Rattle.gw_owes.specs.Displays.{serving_display}
use Rattle.gw_owes.specs.Reconciliations.{serving_day}
use Rattle.gw_owes.specs.declared.terminal.Service.{Service}
use Rattle.gw_owes.specs.declared.terminal.Service.TheVariants.{Transaction, EndOfDay, Display}
use Rattle.gw_owes.specs.declared.terminal.Standing.{Standing}
use Rattle.gw_owes.specs.declared.terminal.Standing.TheVariants.{Unlinked, Registering, Enquiring, Ready, Serving, Aside}
use Rattle.gw_owes.specs.declared.terminal.Terminal.{Terminal}
use Rattle.gw_owes.specs.Row.{Known, Row, owing_nothing, owing_where}
use Rattle.gw_owes.specs.Terminals.{terminal_becomes, after_command}
use Rattle.gw_owes.specs.Links.{of_linked}
use Rattle.gw_owes.specs.Reports.{on_record, report_row}
use Rattle.gw_owes.specs.Serving.{staying, breaking, serving_transaction}

-- ---- what is awaited

-- how many Acks and Nacks are awaited after a message, by how many were before it: an Ack or a Nack is one of them in every standing, and pays for no later command where none was awaited
abbrev pub awaited_after : MessageValue → ℕ → ℕ
awaited_after Ack awaited = one_less_awaited awaited
awaited_after (Nack error_code) awaited = one_less_awaited awaited
awaited_after (Intermediate intermediate_status) awaited = awaited
awaited_after (Line text) awaited = awaited
awaited_after (Block objects) awaited = awaited
awaited_after (Status fields) awaited = awaited
awaited_after Completion awaited = awaited
awaited_after (Abort result_code) awaited = awaited
awaited_after Other awaited = awaited

-- The late Nack of a stop: where more than the last command's Ack or Nack is awaited, a Nack may be an earlier command's. The dialogue is handed it as one with the code 00, which is unclear before the command is acknowledged and has no effect after.
abbrev pub taken_as : ℕ → MessageValue → MessageValue
taken_as awaited Ack = Ack
taken_as awaited (Nack error_code) = Nack (if nat_le 2 awaited then 0 else error_code)
taken_as awaited (Intermediate intermediate_status) = Intermediate intermediate_status
taken_as awaited (Line text) = Line text
taken_as awaited (Block objects) = Block objects
taken_as awaited (Status fields) = Status fields
taken_as awaited Completion = Completion
taken_as awaited (Abort result_code) = Abort result_code
taken_as awaited Other = Other

-- ---- the dialogue

-- what a message means for the dialogue that runs; where none runs, nothing
abbrev pub meaning_for : Option TalkFacts → MessageValue → Heard
meaning_for None message = heard.Stray
meaning_for (Some talk) message = meaning_for_talk talk message

-- what a message means for the terminal's dialogue
abbrev pub meaning_at : Terminal → MessageValue → Heard
meaning_at terminal message = meaning_for terminal.talk (taken_as terminal.awaited message)

-- the terminal once the message was taken at this moment, which begins its next silence
abbrev pub taking : Terminal → MessageValue → ℕ → Terminal
taking terminal message moment = record terminal {
  talk = option_map (λ talk. next_talk talk (taken_as terminal.awaited message) (pos moment)) terminal.talk;
  awaited = awaited_after message terminal.awaited;
}

-- ---- what follows: the terminal has taken the message

-- the enquiry of a terminal's last transaction
abbrev pub enquiry_command : Pt → Command
enquiry_command pt = command.Enquire pt.password

-- the terminal is enquired
abbrev pub enquires : Known → ℕ → Terminal → Row
enquires known number terminal =
    terminal_becomes known number (after_command terminal (enquiry_command terminal.pt) Enquiring known.moment) (SendPt number (Ask (enquiry_command terminal.pt)) ∷ [])

-- A registration: once it is done the terminal is enquired; where it is declined or unclear the connection is cut. It is never approved, and reports nothing.
abbrev pub registering : Known → ℕ → Terminal → Heard → Row
registering known number terminal (heard.Begun stop) = staying known number terminal
registering known number terminal (heard.Note intermediate_status) = staying known number terminal
registering known number terminal heard.Line = staying known number terminal
registering known number terminal heard.Block = staying known number terminal
registering known number terminal heard.Seen = staying known number terminal
registering known number terminal (heard.Approved figures) = staying known number terminal
registering known number terminal heard.Done = enquires known number terminal
registering known number terminal (heard.Told reported approved result_code) = staying known number terminal
registering known number terminal (heard.Declined result_code reported) = breaking known number terminal
registering known number terminal heard.Unclear = breaking known number terminal
registering known number terminal heard.Stray = staying known number terminal

-- An enquiry: what it reports is compared with the records; where it is declined or unclear the connection is cut. It is never approved, and never done without a report.
abbrev pub enquiring : Known → ℕ → Terminal → Heard → Row
enquiring known number terminal (heard.Begun stop) = staying known number terminal
enquiring known number terminal (heard.Note intermediate_status) = staying known number terminal
enquiring known number terminal heard.Line = staying known number terminal
enquiring known number terminal heard.Block = staying known number terminal
enquiring known number terminal heard.Seen = staying known number terminal
enquiring known number terminal (heard.Approved figures) = staying known number terminal
enquiring known number terminal heard.Done = staying known number terminal
enquiring known number terminal (heard.Told trace approved result_code) =
    report_row (on_record known.kept terminal.pt.poi) known number terminal (record { trace = trace; approved = approved; result_code = result_code })
enquiring known number terminal (heard.Declined result_code reported) = breaking known number terminal
enquiring known number terminal heard.Unclear = breaking known number terminal
enquiring known number terminal heard.Stray = staying known number terminal

-- what is served, by its service and the last trace number before it
abbrev pub serving : Known → ℕ → Terminal → Service → ℕ → Heard → Row
serving known number terminal (Transaction slot) last meant = serving_transaction known number terminal slot last meant
serving known number terminal (EndOfDay header period) last meant = serving_day known number terminal last header meant
serving known number terminal (Display header results) last meant = serving_display known number terminal last header results meant

-- by the standing: where no dialogue runs nothing follows
abbrev pub consequence : Known → ℕ → Terminal → Heard → Standing → Row
consequence known number terminal meant (Unlinked due) = owing_nothing known
consequence known number terminal meant Registering = registering known number terminal meant
consequence known number terminal meant Enquiring = enquiring known number terminal meant
consequence known number terminal meant (Ready last) = staying known number terminal
consequence known number terminal meant (Serving service last) = serving known number terminal service last meant
consequence known number terminal meant (Aside before reported) = staying known number terminal

-- ---- the row

-- what a message that was taken leaves and owes: a device request, or else what follows by the standing
abbrev pub taken_row : Known → ℕ → Terminal → Heard → MessageValue → Row
taken_row known number terminal meant message = unwrap_or (device_row known number terminal meant message) (consequence known number terminal meant terminal.standing)

-- what a message that was acknowledged leaves and owes
abbrev pub handle_message : Known → ℕ → Terminal → MessageValue → Row
handle_message known number terminal message =
    owing_where (is_taken message) known (taken_row known number (taking terminal message known.moment) (meaning_at terminal message) message)

-- the same of the terminal of this number, where it is linked
abbrev pub handled_row : Known → ℕ → MessageValue → Row
handled_row known number message = of_linked known number (λ terminal. handle_message known number terminal message)

-- by the message that an APDU is; one outside the grammar has no effect but its cut
abbrev pub handle_decoded : Known → ℕ → Result MessageValue PtFault → Row
handle_decoded known number (Ok message) = handled_row known number message
handle_decoded known number (Err fault) = owing_nothing known

-- what an APDU of a terminal leaves and owes once it was acknowledged or refused
abbrev pub handle_row : Known → ℕ → ApduValue → Row
handle_row known number apdu = handle_decoded known number (decode_pt_message apdu)
