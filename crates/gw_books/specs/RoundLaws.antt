-- What is done before the next poll may come: of a payment that begins, and of a payment or a reversal that is approved or declined.
use Rattle.std.specs.Prelude.{◌≡◌, ◌⊎◌, ◌<◌, ℕ, pos, Bool, true, false, List, [], ◌∷◌, ◌++◌, length, Option, Some, None}
use Rattle.gw_bytes.specs.Bytes.{IsPrefix}
use Rattle.gw_base.specs.Currency.{currency_number}
use Rattle.gw_base.specs.declared.figures.Figures.{Figures}
use Rattle.gw_base.specs.declared.setup.Setup.{Setup}
use Rattle.gw_site.specs.Outside.{is_connected}
use Rattle.gw_site.specs.Sorts.{AreOfRound}
use Rattle.gw_site.specs.declared.turn.Turn.{Turn}
use Rattle.gw_site.specs.declared.turn.Turn.TheVariants.{Linked, LinkFailed, Synced, SentTill, SentPt, CutTill, CutPt}
use Rattle.sale_values.specs.declared.header.Header.{Header}
use Rattle.sale_values.specs.declared.request.PaymentAsk.{PaymentAsk}
use Rattle.sale_values.specs.declared.request.SaleRequest.TheVariants as requests
use Rattle.zvt_apdu.specs.Grammar.{ApduValue}
use Rattle.zvt_msg.specs.declared.command.Command.TheVariants as commands
use Rattle.zvt_talk.specs.declared.meaning.Heard.TheVariants as heard
use Rattle.jrn_record.specs.declared.records.Intent.{Intent as TheIntent}
use Rattle.jrn_record.specs.declared.records.Outcome.{Outcome as TheOutcome}
use Rattle.jrn_record.specs.declared.records.Record.TheVariants.{Intent}
use Rattle.xlate.specs.Codes.{condition_of_code}
use Rattle.gw_owes.specs.declared.terminal.Standing.TheVariants.{Ready}
use Rattle.gw_owes.specs.declared.terminal.Terminal.{Terminal}
use Rattle.gw_owes.specs.Calls.{sending_bytes, Ask, OwedCall, SendTill, SendPt, LinkPt, WriteBody, WriteGate, WriteFirstGate, Sync, write_turn, keep_calls, CutTill as OwedCutTill, CutPt as OwedCutPt}
use Rattle.gw_owes.specs.Diagnosis.{NamedTerminal, named_terminal}
use Rattle.gw_owes.specs.Items.{RoundItem, Message, Handle}
use Rattle.gw_owes.specs.PaymentLaws.{SaysWhatIsAsked, MeansAt, outcome_calls}
use Rattle.gw_owes.specs.ReadAs.{IsReadAs, Request}
use Rattle.gw_owes.specs.Reply.{ReplyValue, reply_value_bytes}
use Rattle.gw_owes.specs.Serving.{was_stopped, reply_to_outcome}
use Rattle.gw_owes.specs.Steps.{Begins, step_result}
use Rattle.gw_rules.specs.Lawful.{MayPoll, IsCourse, turns_of, Stands}
use Rattle.gw_rules.specs.Scene.{known_in}
use Rattle.gw_rules.specs.Stage.{Handling}
use Rattle.gw_rules.specs.View.{View, Move, view_from}

-- ---- what is owed is done

-- a send is made, or has failed after a part of it, which may have no byte
pub record IsSending (bytes whole : List ℕ) (sent : Bool) : Type 0 where
  pub prefix : IsPrefix bytes whole
  pub all : sent ≡ true → bytes ≡ whole

-- the turn is the outcome of the call: a call that fails counts as made, also a send of which no byte was sent
abbrev pub IsMadeIn : OwedCall → Turn → Type 0
IsMadeIn (SendTill till reply) turn = (bytes : List ℕ) × (sent : Bool) × (turn ≡ SentTill till bytes sent) × IsSending bytes (reply_value_bytes reply) sent
IsMadeIn (SendPt pt sending) turn = (bytes : List ℕ) × (sent : Bool) × (turn ≡ SentPt pt bytes sent) × IsSending bytes (sending_bytes sending) sent
IsMadeIn (OwedCutTill till) turn = turn ≡ CutTill till
IsMadeIn (OwedCutPt pt) turn = turn ≡ CutPt pt
IsMadeIn (LinkPt pt) turn = (turn ≡ Linked pt) ⊎ (turn ≡ LinkFailed pt)
IsMadeIn (WriteBody slot the_record) turn = write_turn (WriteBody slot the_record) ≡ Some turn
IsMadeIn (WriteGate slot the_record) turn = write_turn (WriteGate slot the_record) ≡ Some turn
IsMadeIn WriteFirstGate turn = write_turn WriteFirstGate ≡ Some turn
IsMadeIn Sync turn = turn ≡ Synced

-- the turns begin with the outcomes of these calls, one after the other
abbrev pub BeginWith : List OwedCall → List Turn → Type 0
BeginWith [] turns = Unit {0}
BeginWith (call ∷ calls) turns = (turn : Turn) × (rest : List Turn) × (turns ≡ turn ∷ rest) × IsMadeIn call turn × BeginWith calls rest

-- from this view, to which the log leads, the round goes on along these moves until the next poll may come
pub record EndsRound (log : List Turn) (v : View) (moves : List Move) : Type 0 where
  pub before : Stands log v
  pub lawful : IsCourse v moves
  pub round : AreOfRound (turns_of moves)
  pub may_poll : MayPoll (view_from v moves)

-- what is owed is done before the next poll may come, in its order, and before anything else
abbrev pub OwedIsDone : Type 0
OwedIsDone = (log : List Turn) (v : View) (moves : List Move) → EndsRound log v moves → BeginWith v.calls (turns_of moves)

-- ---- payments

-- while what a poll brought is handled, this item comes next
pub record ComesNext (v : View) (setup : Setup) (item : RoundItem) : Type 0 where
  pub setup_is : v.scene.setup ≡ Some setup
  pub stage : v.scene.stage ≡ Handling
  pub calls : v.calls ≡ []
  pub rest : List RoundItem
  pub items : v.items ≡ item ∷ rest

-- the Intent of what is asked is kept first in these turns, and then the terminal is asked
pub record IsKeptAndAsked (v : View) (header : Header) (payment : PaymentAsk) (named : NamedTerminal) (last : ℕ) (turns : List Turn) : Type 0 where
  pub intent : TheIntent
  pub says : SaysWhatIsAsked v.scene.outside.moment header payment named.terminal last intent
  pub done : BeginWith (keep_calls (length v.scene.kept) (Intent intent) ++ SendPt named.number (Ask (commands.Authorise payment.amount (currency_number named.terminal.pt.currency))) ∷ []) turns

-- a payment of a till that is there, which comes to the last step at the terminal that its POIID names, and that is ready, is kept and asked before the next poll
abbrev pub PaymentIsAsked : Type 0
PaymentIsAsked =
    (log : List Turn) (v : View) (moves : List Move) (setup : Setup) (till : ℕ) (bytes : List ℕ) (header : Header) (payment : PaymentAsk) (named : NamedTerminal) (last : ℕ) → EndsRound log v moves
    → ComesNext v setup (Message till bytes) → is_connected v.scene.outside.tills till ≡ true → IsReadAs bytes (Request header (requests.Payment payment)) → named_terminal v.scene.core header.poi ≡ Some named
    → named.terminal.standing ≡ Ready last → step_result (known_in v.scene setup) header (requests.Payment payment) (Some named) ≡ Begins → IsKeptAndAsked v header payment named last (turns_of moves)

-- an Outcome is kept first in these turns, and then the till that asked is sent its reply, where it is there
pub record IsKeptAndSaid (v : View) (setup : Setup) (terminal : Terminal) (outcome : TheOutcome) (turns : List Turn) : Type 0 where
  pub reply : ReplyValue
  pub reply_is : reply_to_outcome v.scene.kept outcome.slot outcome ≡ Some reply
  pub done : BeginWith (outcome_calls (known_in v.scene setup) terminal outcome) turns

-- an approval of a payment or a reversal with a trace number above the one before is kept, with its figures, and said before the next poll
abbrev pub ApprovalIsSaid : Type 0
ApprovalIsSaid =
    (log : List Turn) (v : View) (moves : List Move) (setup : Setup) (number : ℕ) (apdu : ApduValue) (terminal : Terminal) (slot last : ℕ) (figures : Figures) → EndsRound log v moves → ComesNext v setup (Handle number apdu)
    → MeansAt (known_in v.scene setup) number apdu terminal slot last (heard.Approved figures) → last < figures.number
    → IsKeptAndSaid v setup terminal (record { approved = true; slot = slot; number = figures.number; receipt = figures.receipt; amount = figures.amount; condition = None; moment = pos v.scene.outside.moment }) (turns_of moves)

-- and a decline with the condition of its code
abbrev pub DeclineIsSaid : Type 0
DeclineIsSaid =
    (log : List Turn) (v : View) (moves : List Move) (setup : Setup) (number : ℕ) (apdu : ApduValue) (terminal : Terminal) (slot last result_code : ℕ) (reported : Option ℕ) → EndsRound log v moves → ComesNext v setup (Handle number apdu)
    → MeansAt (known_in v.scene setup) number apdu terminal slot last (heard.Declined result_code reported)
    → IsKeptAndSaid v setup terminal (record { approved = false; slot = slot; number = 0; receipt = 0; amount = 0; condition = Some (condition_of_code result_code (was_stopped terminal.talk)); moment = pos v.scene.outside.moment }) (turns_of moves)
