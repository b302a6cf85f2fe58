-- Example courses of a terminal that is linked, from where its link is owed, and along the turns that keep a record, from where they are owed. Beside them, examples of what a terminal is sent and who waits for it.
use Rattle.std.specs.Prelude.{◌≡◌, ℕ, ℤ, pos, false, true, List, [], ◌∷◌, ◌++◌, Option, Some, None, codes}
use Rattle.std.specs.Option.{option_map}
use Rattle.gw_base.specs.declared.condition.Condition.TheVariants.{UnavailableDevice}
use Rattle.gw_site.specs.declared.turn.Turn.{Turn}
use Rattle.gw_site.specs.declared.turn.Turn.TheVariants.{Start, Polled, Opened, HeardTill, HeardPt, Lost, Linked, LinkFailed, SentPt, CutTill, CutPt, Synced, DiskFailed, Crash, Stopped}
use Rattle.jrn_record.specs.declared.records.Record.{Record}
use Rattle.jrn_record.specs.Grammar.{record_body}
use Rattle.sale_values.specs.declared.header.Header.{Header}
use Rattle.sale_values.specs.declared.names.Period.{Period}
use Rattle.zvt_apdu.specs.Grammar.{ApduValue}
use Rattle.gw_owes.specs.declared.terminal.Service.{Service}
use Rattle.gw_owes.specs.declared.terminal.Service.TheVariants.{Transaction, EndOfDay}
use Rattle.gw_owes.specs.declared.terminal.Standing.{Standing}
use Rattle.gw_owes.specs.declared.terminal.Standing.TheVariants.{Unlinked, Registering, Serving}
use Rattle.gw_owes.specs.declared.terminal.Terminal.{Terminal}
use Rattle.gw_owes.specs.Calls.{Acknowledge, Refuse, sending_bytes, OwedCall, SendTill, LinkPt, CutPt as OwedCutPt}
use Rattle.gw_owes.specs.Core.{Wait, no_core, new_terminal}
use Rattle.gw_owes.specs.Events.{waits_by_deadline}
use Rattle.gw_owes.specs.Items.{Greet, Handle, NextWaiting, Late, Due}
use Rattle.gw_owes.specs.Replies.{failure_reply}
use Rattle.gw_owes.specs.StepExample.{euros, payment_header}
use Rattle.gw_owes.specs.Terminals.{core_without}
use Rattle.gw_rules.specs.Example.{IsUnlawfulAfter, began}
use Rattle.gw_rules.specs.Lawful.{IsCourse, IsLawful}
use Rattle.gw_rules.specs.View.{View, Move, Begin, Make, begun, view_from}
use Rattle.gw_rules.specs.CutCauseExample.{completion_apdu}
use Rattle.gw_rules.specs.RowExample.{example_pt, terminal_setup, link_view, first_terminal, first_standing, register_bytes, example_record, keep_view, gate_moves}

-- ---- a terminal

-- its link can't be made: it isn't tried again before five seconds have passed, and one poll follows the other
abbrev pub unlinked_log : List Turn
unlinked_log = began terminal_setup ++ Polled (pos 0) ∷ LinkFailed 0 ∷ Polled (pos 1) ∷ Stopped ∷ []

-- it is lawful
abbrev pub UnlinkedIsLawful : Type 0
UnlinkedIsLawful = IsLawful unlinked_log

-- a till opens and sends bytes that begin no frame, with a terminal there whose link can't be made
abbrev pub unframed_log : List Turn
unframed_log = began terminal_setup ++ Polled (pos 0) ∷ Opened 1 ∷ LinkFailed 0 ∷ Polled (pos 0) ∷ HeardTill 1 (0 ∷ 0 ∷ 0 ∷ 0 ∷ []) ∷ []

-- the till is cut, and then what may be due passes
abbrev pub UnframedIsLawful : Type 0
UnframedIsLawful = IsLawful (unframed_log ++ CutTill 1 ∷ Polled (pos 0) ∷ Stopped ∷ [])

-- no poll comes before that cut
abbrev pub PollBeforeUnframedCut : Type 0
PollBeforeUnframedCut = IsUnlawfulAfter unframed_log (Polled (pos 0))

-- an item begins that owes this row: the row's items come before those that were to come
abbrev pub RowItemsComeFirst : Type 0
RowItemsComeFirst = (begun link_view.scene (record { core = link_view.scene.core; calls = LinkPt 0 ∷ []; items = NextWaiting 0 ∷ Late 0 ∷ [] }) (Due 0 ∷ [])).items ≡ NextWaiting 0 ∷ Late 0 ∷ Due 0 ∷ []

-- how many Acks and Nacks of the terminal are awaited
abbrev pub first_awaited : View → Option ℕ
first_awaited v = option_map (λ (terminal : Terminal). terminal.awaited) (first_terminal v)

-- the course is lawful from this view on, and leads to a view in which nothing is owed and the terminal has this standing
pub record LeadsToStanding (v : View) (moves : List Move) (standing : Standing) : Type 0 where
  pub lawful : IsCourse v moves
  pub standing_is : first_standing (view_from v moves) ≡ Some standing
  pub calls_are : (view_from v moves).calls ≡ []

-- it is linked, and the registration is sent
abbrev pub linked_moves : List Move
linked_moves = Make (Linked 0) ∷ Make (SentPt 0 register_bytes true) ∷ []

-- it registers, and one Ack or Nack is awaited
pub record LinkRegisters : Type 0 where
  pub registers : LeadsToStanding link_view linked_moves Registering
  pub awaited : first_awaited (view_from link_view linked_moves) ≡ Some 1

-- where the link isn't made, it is due five seconds later
abbrev pub LinkIsDueAgain : Type 0
LinkIsDueAgain = LeadsToStanding link_view (Make (LinkFailed 0) ∷ []) (Unlinked (Some 5))

-- the send of the registration fails
abbrev pub failed_send_moves : List Move
failed_send_moves = Make (Linked 0) ∷ Make (SentPt 0 (0x06 ∷ []) false) ∷ Make (CutPt 0) ∷ []

-- where the send fails, the link is cut: no dialogue runs then, and nothing is awaited
pub record FailedSendCutsLink : Type 0 where
  pub cuts : LeadsToStanding link_view failed_send_moves (Unlinked (Some 5))
  pub awaited : first_awaited (view_from link_view failed_send_moves) ≡ Some 0
  pub talk : option_map (λ (terminal : Terminal). terminal.talk) (first_terminal (view_from link_view failed_send_moves)) ≡ Some None

-- where the link is lost, it is due five seconds after
abbrev pub LostIsDue : Type 0
LostIsDue = LeadsToStanding link_view (linked_moves ++ Make (Polled (pos 2)) ∷ Make (Lost 0) ∷ Begin ∷ []) (Unlinked (Some 7))

-- the terminal serves this for a till, and the cut of its connection is owed
abbrev pub serving_view : Service → View
serving_view service = record link_view {
  scene = record link_view.scene { core = record link_view.scene.core { terminals = record (new_terminal example_pt) { standing = Serving service 0; asker = Some 7 } ∷ [] } };
  calls = OwedCutPt 0 ∷ [];
}

-- the course is lawful from this view on, and leads to a view in which these calls are owed and this till is remembered as the one that asked
pub record LeadsToAsker (v : View) (moves : List Move) (calls : List OwedCall) (asker : Option ℕ) : Type 0 where
  pub lawful : IsCourse v moves
  pub calls_are : (view_from v moves).calls ≡ calls
  pub asker_is : option_map (λ (terminal : Terminal). terminal.asker) (first_terminal (view_from v moves)) ≡ Some asker

-- where the link is lost in an end of day, the till has its reply, and is remembered no longer
abbrev pub LostEndOfDayReplies : Type 0
LostEndOfDayReplies = (header : Header) (period : Period) → LeadsToAsker (serving_view (EndOfDay header period)) (Make (CutPt 0) ∷ []) (SendTill 7 (failure_reply header UnavailableDevice) ∷ []) None

-- where it is lost in a payment or a reversal, the till has no reply, and is remembered
abbrev pub LostTransactionKeepsAsker : Type 0
LostTransactionKeepsAsker = LeadsToAsker (serving_view (Transaction 0)) (Make (CutPt 0) ∷ []) [] (Some 7)

-- the registration is acknowledged and done: the terminal says both at once
abbrev pub both_bytes : List ℕ
both_bytes = 0x80 ∷ 0x00 ∷ 0x00 ∷ 0x06 ∷ 0x0F ∷ 0x00 ∷ []

-- both were heard
abbrev pub both_moves : List Move
both_moves = linked_moves ++ Make (Polled (pos 1)) ∷ Make (HeardPt 0 both_bytes) ∷ []

-- an Ack
abbrev pub ack_apdu : ApduValue
ack_apdu = record { class = 0x80; instr = 0x00; body = [] }

-- each is three items, and then come those that may be due
pub record BothAreItems : Type 0 where
  pub lawful : IsCourse link_view both_moves
  pub items : (view_from link_view both_moves).items ≡ Greet 0 ack_apdu ∷ Handle 0 ack_apdu ∷ NextWaiting 0 ∷ Greet 0 completion_apdu ∷ Handle 0 completion_apdu ∷ NextWaiting 0 ∷ Late 0 ∷ Due 0 ∷ []

-- how a terminal's message is acknowledged, and how it is refused
pub record SendingsAreSpelled : Type 0 where
  pub acknowledged : sending_bytes Acknowledge ≡ 0x80 ∷ 0x00 ∷ 0x00 ∷ []
  pub refused : sending_bytes Refuse ≡ 0x84 ∷ 0x83 ∷ 0x00 ∷ []

-- ---- who waits for a terminal

-- a payment of 10.99 that waits, by its ServiceID, its till and its deadline
abbrev pub waiting : List ℕ → ℕ → ℤ → Wait
waiting service till deadline = record {
  key = record { sale = codes "S1"; poi = codes "T1"; service = service };
  pt = 0;
  till = till;
  deadline = deadline;
  header = payment_header service;
  request = euros 1099;
}

-- the terminal, which this till has asked
abbrev pub asked_by : ℕ → Terminal
asked_by till = record (new_terminal example_pt) { asker = Some till }

-- where a till is gone, its requests wait no longer and it is remembered at no terminal; those of another till stay
abbrev pub GoneTillIsForgotten : Type 0
GoneTillIsForgotten = core_without (record no_core { terminals = asked_by 7 ∷ asked_by 8 ∷ []; waits = waiting (codes "1") 7 (pos 3) ∷ waiting (codes "2") 8 (pos 3) ∷ [] }) 7 ≡ record no_core { terminals = new_terminal example_pt ∷ asked_by 8 ∷ []; waits = waiting (codes "2") 8 (pos 3) ∷ [] }

-- the requests that wait come by their deadline, and those of one deadline by their acceptance
abbrev pub WaitsByDeadline : Type 0
WaitsByDeadline = waits_by_deadline (waiting (codes "1") 7 (pos 5) ∷ waiting (codes "2") 7 (pos 3) ∷ waiting (codes "3") 7 (pos 5) ∷ waiting (codes "4") 7 (pos 3) ∷ []) ≡ waiting (codes "2") 7 (pos 3) ∷ waiting (codes "4") 7 (pos 3) ∷ waiting (codes "1") 7 (pos 5) ∷ waiting (codes "3") 7 (pos 5) ∷ []

-- ---- a record

-- the course is lawful from this view on, and leads to a view with these records kept, and this one in flight
pub record LeadsToRecords (v : View) (moves : List Move) (kept : List Record) (flight : Option Record) : Type 0 where
  pub lawful : IsCourse v moves
  pub kept_are : (view_from v moves).scene.kept ≡ kept
  pub flight_is : (view_from v moves).scene.flight ≡ flight

-- the record is in flight once its gate is written
abbrev pub GateIsInFlight : Type 0
GateIsInFlight = LeadsToRecords keep_view gate_moves [] (Some example_record)

-- it is kept once the gate is synced
abbrev pub SyncKeeps : Type 0
SyncKeeps = LeadsToRecords keep_view (gate_moves ++ Make Synced ∷ []) (example_record ∷ []) None

-- a start without a power failure leaves it in flight
abbrev pub StartLeavesFlight : Type 0
StartLeavesFlight = LeadsToRecords keep_view (gate_moves ++ Make (Start terminal_setup) ∷ []) [] (Some example_record)

-- where the sync fails, a run may begin after a power failure alone
abbrev pub FailedSyncCrashes : Type 0
FailedSyncCrashes = LeadsToRecords keep_view (gate_moves ++ Make DiskFailed ∷ Make (Crash (0 ∷ (record_body example_record ++ 0 ∷ []))) ∷ Make (Start terminal_setup) ∷ []) [] None

-- a power failure that leaves the gate closed leaves no record
abbrev pub ClosedGateDrops : Type 0
ClosedGateDrops = LeadsToRecords keep_view (gate_moves ++ Make (Crash (0 ∷ (record_body example_record ++ 0 ∷ []))) ∷ []) [] None

-- a power failure that leaves the gate open leaves the record
abbrev pub OpenGateKeeps : Type 0
OpenGateKeeps = LeadsToRecords keep_view (gate_moves ++ Make (Crash (165 ∷ (record_body example_record ++ 0 ∷ []))) ∷ []) (example_record ∷ []) None
