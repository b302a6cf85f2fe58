-- Closed examples of the records beside what is remembered, in which the whole premise of each law holds: a payment that begins, its end, one whose end is unclear, a reversal that begins, a stop, and the end of an end of day.
use Rattle.std.specs.Prelude.{◌≡◌, ℕ, pos, true, false, [], ◌∷◌, All, Some, None, codes}
use Rattle.sale_values.specs.declared.names.Period.TheVariants.{AcquirerReconciliation}
use Rattle.jrn_record.specs.declared.records.How.TheVariants.{Acquirer}
use Rattle.jrn_record.specs.declared.records.Record.TheVariants.{Intent, Outcome, Settled}
use Rattle.jrn_record.specs.declared.records.Settled.{Settled as TheSettled}
use Rattle.zvt_msg.specs.declared.command.Command.TheVariants.{Stop}
use Rattle.zvt_talk.specs.declared.dialogue_kind.DialogueKind.TheVariants as kinds
use Rattle.zvt_talk.specs.declared.phase.Phase.TheVariants.{Begun}
use Rattle.zvt_talk.specs.Talk.{TalkFacts}
use Rattle.zvt_talk.specs.TalkSteps.{no_statuses}
use Rattle.gw_ledger.specs.Example.{day}
use Rattle.gw_ledger.specs.Premises.{day_opened, day_settled, fourth, fourth_approval, second_reversal}
use Rattle.gw_owes.specs.declared.terminal.Service.TheVariants.{Transaction, EndOfDay}
use Rattle.gw_owes.specs.declared.terminal.Standing.TheVariants.{Ready, Serving}
use Rattle.gw_owes.specs.declared.terminal.Terminal.{Terminal}
use Rattle.gw_owes.specs.Calls.{Ask, SendPt, records_kept}
use Rattle.gw_owes.specs.Core.{no_core, new_terminal}
use Rattle.gw_owes.specs.Items.{RoundItem, Asked, Handle, Serve}
use Rattle.gw_owes.specs.Links.{LinkIsLost, link_row}
use Rattle.gw_owes.specs.ReadAs.{ReadAs, Request}
use Rattle.gw_owes.specs.RecordLaws.{AreTerminalsInOrder, AreOthersInOrder, IsInOrder, IsReadItem, KeepsInOrder}
use Rattle.gw_owes.specs.Row.{Known}
use Rattle.gw_owes.specs.Rows.{row_of}
use Rattle.gw_owes.specs.StepExample.{euros, payment_header}
use Rattle.owes_examples.specs.StepExample.{abort_header, abort_of_service, day_known, day_pt, period_header, reversal_header, reversal_of_text}
use Rattle.gw_owes.specs.TerminalLaws.{owes_cut}
use Rattle.gw_owes.specs.TerminalRows.{terminal_row}

-- ---- what is known

-- the day of the records' own examples, whose terminal is ready with its last trace number
abbrev pub ready_known : Known
ready_known = record (day_known day (Ready 125)) { moment = 0 }

-- the dialogue of a payment of 1.00, which was acknowledged, and whose last status approves it
abbrev pub approving_talk : TalkFacts
approving_talk = record {
  dialogue_kind = kinds.Payment;
  none = 0x83;
  command_time = 180;
  deadline = pos 180;
  phase = Begun false (record { last = Some (record { result = Some 0; amount = Some 100; trace = Some 126; receipt = Some 17; currency = None; tail = 0 }); approved = true });
}

-- the terminal that serves it
abbrev pub paying_terminal : Terminal
paying_terminal = record (new_terminal day_pt) { standing = Serving (Transaction 6) 125; talk = Some approving_talk; asker = Some 3 }

-- the day with the payment that is open
abbrev pub serving_known : Known
serving_known = record (day_known day_opened (Ready 125)) { core = record no_core { terminals = paying_terminal ∷ [] }; moment = 0 }

-- the dialogue of an end of day, which was acknowledged
abbrev pub settling_talk : TalkFacts
settling_talk = record approving_talk { dialogue_kind = kinds.EndOfDay; phase = Begun false no_statuses }

-- the terminal that serves it
abbrev pub settling_terminal : Terminal
settling_terminal = record (new_terminal day_pt) { standing = Serving (EndOfDay (period_header (codes "4")) AcquirerReconciliation) 125; talk = Some settling_talk; asker = Some 3 }

-- the day, at whose terminal an end of day is served
abbrev pub settling_known : Known
settling_known = record ready_known { core = record no_core { terminals = settling_terminal ∷ [] } }

-- its Settled
abbrev pub day_ended : TheSettled
day_ended = record day_settled { how = Acquirer }

-- ---- items

-- what till 3 asks is read as
abbrev pub fourth_asked : ReadAs
fourth_asked = Request (payment_header (codes "4")) (euros 100)

-- the terminal begins to serve it
abbrev pub fourth_begins : RoundItem
fourth_begins = Serve 0 3 (payment_header (codes "4")) (euros 100)

-- the terminal begins to serve the reversal of the day's second payment
abbrev pub second_reverses : RoundItem
second_reverses = Serve 0 3 (reversal_header (codes "4")) (reversal_of_text (codes "000124-0017-2") None)

-- it is to stop the payment that it serves
abbrev pub fourth_stops : RoundItem
fourth_stops = Serve 0 3 abort_header (abort_of_service (codes "4"))

-- the terminal sends a message without data
abbrev pub sends : ℕ → ℕ → RoundItem
sends class instruction = Handle 0 (record { class = class; instr = instruction; body = [] })

-- ---- the examples

-- what a till's message begins was read, and is at the terminal that it names
pub record ExampleRequestBegins : Type 0 where
  pub in_order : IsInOrder ready_known
  pub read : IsReadItem ready_known.setup (Asked 3 fourth_asked)
  pub items : (row_of (record { number = 3; heard = [] } ∷ []) ready_known (Asked 3 fourth_asked)).items ≡ fourth_begins ∷ []
  pub items_read : All (IsReadItem ready_known.setup) (fourth_begins ∷ [])

-- a terminal that is ready begins a payment: its Intent is kept
pub record ExampleIntentKept : Type 0 where
  pub in_order : IsInOrder ready_known
  pub read : IsReadItem ready_known.setup fourth_begins
  pub uncut : owes_cut (terminal_row ready_known fourth_begins).calls ≡ false
  pub kept : records_kept (terminal_row ready_known fourth_begins).calls ≡ Intent fourth ∷ []
  pub keeps : KeepsInOrder ready_known (Intent fourth ∷ []) (terminal_row ready_known fourth_begins).core

-- the payment is completed: its Outcome is kept
pub record ExampleOutcomeKept : Type 0 where
  pub in_order : IsInOrder serving_known
  pub uncut : owes_cut (terminal_row serving_known (sends 0x06 0x0F)).calls ≡ false
  pub kept : records_kept (terminal_row serving_known (sends 0x06 0x0F)).calls ≡ Outcome fourth_approval ∷ []
  pub keeps : KeepsInOrder serving_known (Outcome fourth_approval ∷ []) (terminal_row serving_known (sends 0x06 0x0F)).core

-- its end is unclear: nothing is kept, and its connection is cut, with which its link is lost
pub record ExampleKeyStaysOpen : Type 0 where
  pub in_order : IsInOrder serving_known
  pub cut : owes_cut (terminal_row serving_known (sends 0x06 0x1E)).calls ≡ true
  pub none_kept : records_kept (terminal_row serving_known (sends 0x06 0x1E)).calls ≡ []
  pub others : AreOthersInOrder 0 day_opened (terminal_row serving_known (sends 0x06 0x1E)).core
  pub lost : AreTerminalsInOrder day_opened (link_row (record serving_known { core = (terminal_row serving_known (sends 0x06 0x1E)).core }) 0 LinkIsLost).core

-- the terminal begins a reversal in place of the payment: its Intent is kept
pub record ExampleReversalKept : Type 0 where
  pub in_order : IsInOrder ready_known
  pub read : IsReadItem ready_known.setup second_reverses
  pub uncut : owes_cut (terminal_row ready_known second_reverses).calls ≡ false
  pub kept : records_kept (terminal_row ready_known second_reverses).calls ≡ Intent second_reversal ∷ []
  pub keeps : KeepsInOrder ready_known (Intent second_reversal ∷ []) (terminal_row ready_known second_reverses).core

-- the payment is aborted: `06 B0` is sent, and nothing is kept
pub record ExampleStopKeepsNothing : Type 0 where
  pub in_order : IsInOrder serving_known
  pub read : IsReadItem serving_known.setup fourth_stops
  pub calls : (terminal_row serving_known fourth_stops).calls ≡ SendPt 0 (Ask Stop) ∷ []
  pub keeps : KeepsInOrder serving_known [] (terminal_row serving_known fourth_stops).core

-- the end of day is completed: its Settled is kept
pub record ExampleSettledKept : Type 0 where
  pub in_order : IsInOrder settling_known
  pub uncut : owes_cut (terminal_row settling_known (sends 0x06 0x0F)).calls ≡ false
  pub kept : records_kept (terminal_row settling_known (sends 0x06 0x0F)).calls ≡ Settled day_ended ∷ []
  pub keeps : KeepsInOrder settling_known (Settled day_ended ∷ []) (terminal_row settling_known (sends 0x06 0x0F)).core
