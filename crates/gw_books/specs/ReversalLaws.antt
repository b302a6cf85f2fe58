-- Reversals and stops along a lawful log: what is asked of a terminal before the next poll, and, with an honest book, that a payment is reversed at most once.
use Rattle.std.specs.Prelude.{◌≡◌, ℕ, true, List, [], ◌∷◌, ◌++◌, length, slice_get, Some}
use Rattle.gw_base.specs.declared.setup.Setup.{Setup}
use Rattle.gw_site.specs.Outside.{is_connected}
use Rattle.gw_site.specs.declared.turn.Turn.{Turn}
use Rattle.sale_values.specs.Key.{key_of}
use Rattle.sale_values.specs.declared.header.Header.{Header}
use Rattle.sale_values.specs.declared.request.Reference.{Reference}
use Rattle.sale_values.specs.declared.request.ReversalAsk.{ReversalAsk}
use Rattle.sale_values.specs.declared.request.SaleRequest.TheVariants as requests
use Rattle.zvt_msg.specs.declared.command.Command.TheVariants as commands
use Rattle.zvt_talk.specs.Talk.{TalkFacts}
use Rattle.zvt_talk.specs.TalkSteps.{may_send_stop}
use Rattle.jrn_record.specs.declared.records.Intent.{Intent as TheIntent}
use Rattle.jrn_record.specs.declared.records.Record.{Record}
use Rattle.jrn_record.specs.declared.records.Record.TheVariants.{Intent}
use Rattle.gw_ledger.specs.declared.entry.Entry.{Entry as TheEntry}
use Rattle.gw_ledger.specs.Keys.{intent_key}
use Rattle.gw_ledger.specs.Laws.{IsOriginalOf}
use Rattle.gw_ledger.specs.Reversals.{IsReversalOf}
use Rattle.gw_ledger.specs.Slots.{entry_at, intent_at}
use Rattle.xlate.specs.Ask.{receipt_of}
use Rattle.gw_owes.specs.declared.terminal.Standing.TheVariants.{Ready}
use Rattle.gw_owes.specs.Calls.{Ask, SendPt, keep_calls}
use Rattle.gw_owes.specs.Diagnosis.{NamedTerminal, named_terminal}
use Rattle.gw_owes.specs.Items.{Message}
use Rattle.gw_owes.specs.ReadAs.{IsReadAs, Request}
use Rattle.gw_owes.specs.Reversals.{original_of, reversal_intent}
use Rattle.gw_owes.specs.Steps.{Begins, step_result}
use Rattle.gw_owes.specs.Stops.{serves_key}
use Rattle.gw_rules.specs.Laws.{IsLeanCourse}
use Rattle.gw_rules.specs.Lawful.{turns_of}
use Rattle.gw_rules.specs.Scene.{known_in}
use Rattle.gw_rules.specs.View.{View, Move, at_first, view_from}
use Rattle.gw_books.specs.Kinds.{BookedPayment, booked_kind_of}
use Rattle.gw_books.specs.Past.{Past, past_of}
use Rattle.gw_books.specs.Books.{BookedEntry, Honest}
use Rattle.gw_books.specs.Agrees.{entry_key}
use Rattle.gw_books.specs.RoundLaws.{BeginWith, ComesNext, EndsRound}

-- ---- what is asked before the next poll

-- the Intent of a reversal of this entry, which has its amount and its currency, is kept first in these turns, and then the terminal is asked to reverse the entry's receipt
abbrev pub IsKeptAndReversed : View → Header → TheEntry → NamedTerminal → ℕ → List Turn → Type 0
IsKeptAndReversed v header original named last turns =
    BeginWith (keep_calls (length v.scene.kept) (Intent (reversal_intent header original last v.scene.outside.moment)) ++ SendPt named.number (Ask (commands.Reverse named.terminal.pt.password (receipt_of (Some original)))) ∷ []) turns

-- a reversal of a till that is there, which comes to the last step at the terminal that its POIID names, and that is ready, is kept and asked before the next poll
abbrev pub ReversalIsAsked : Type 0
ReversalIsAsked =
    (log : List Turn) (v : View) (moves : List Move) (setup : Setup) (till : ℕ) (bytes : List ℕ) (header : Header) (reversal : ReversalAsk) (original : TheEntry) (named : NamedTerminal) (last : ℕ) → EndsRound log v moves
    → ComesNext v setup (Message till bytes) → is_connected v.scene.outside.tills till ≡ true → IsReadAs bytes (Request header (requests.Reversal reversal)) → named_terminal v.scene.core header.poi ≡ Some named
    → named.terminal.standing ≡ Ready last → step_result (known_in v.scene setup) header (requests.Reversal reversal) (Some named) ≡ Begins → original_of v.scene.kept header.poi reversal ≡ Some original
    → IsKeptAndReversed v header original named last (turns_of moves)

-- an Abort, by a till that is there, of a key that a terminal serves in a dialogue that is begun, and in which no stop was sent: `06 B0` is sent before the next poll
abbrev pub StopIsSent : Type 0
StopIsSent =
    (log : List Turn) (v : View) (moves : List Move) (setup : Setup) (till : ℕ) (bytes : List ℕ) (header : Header) (reference : Reference) (named : NamedTerminal) (talk : TalkFacts) → EndsRound log v moves
    → ComesNext v setup (Message till bytes) → is_connected v.scene.outside.tills till ≡ true → IsReadAs bytes (Request header (requests.Abort reference)) → named_terminal v.scene.core (key_of header reference).poi ≡ Some named
    → serves_key v.scene.kept (key_of header reference) named.terminal ≡ true → named.terminal.talk ≡ Some talk → may_send_stop talk.phase ≡ true → BeginWith (SendPt named.number (Ask commands.Stop) ∷ []) (turns_of moves)

-- ---- what an entry is

-- the records that are kept after a course
abbrev pub kept_after : List Move → List Record
kept_after moves = (view_from at_first moves).scene.kept

-- an entry whose command was sent in the log is of the kind of what was asked under its key
abbrev pub EntryIsAsAsked : Type 0
EntryIsAsAsked =
    (log : List Turn) (moves : List Move) (book : List BookedEntry) (at slot : ℕ) (entry : BookedEntry) (intent : TheIntent) → IsLeanCourse log moves → Honest (past_of moves) book → slice_get book at ≡ Some entry
    → intent_at (kept_after moves) slot ≡ Some intent → entry_key (past_of moves) entry ≡ Some (intent_key intent) → entry.kind ≡ booked_kind_of intent.what

-- ---- a payment is reversed at most once

-- the entry is approved, and its command was sent for the key of a reversal of the payment in this slot
pub record IsBookedReversal (kept : List Record) (past : Past) (payment : ℕ) (entry : BookedEntry) : Type 0 where
  pub reversal : TheEntry
  pub reverses : IsReversalOf kept payment reversal
  pub key_is : entry_key past entry ≡ Some (intent_key reversal.intent)
  pub approved : entry.approved ≡ true

-- whatever tills ask, and wherever the power fails: at most one approved entry is of a command that was sent in the log for a reversal of one payment; entries of commands that are sent after the log's end have no key here
abbrev pub BookedReversedOnce : Type 0
BookedReversedOnce =
    (log : List Turn) (moves : List Move) (book : List BookedEntry) (payment first second : ℕ) (one other : BookedEntry) → IsLeanCourse log moves → Honest (past_of moves) book → slice_get book first ≡ Some one → slice_get book second ≡ Some other
    → IsBookedReversal (kept_after moves) (past_of moves) payment one → IsBookedReversal (kept_after moves) (past_of moves) payment other → first ≡ second

-- what a reversal refers to is a payment, which is booked: an approved entry of its key, whose amount is that of the reversal's Intent
pub record IsOfPaid (kept : List Record) (past : Past) (book : List BookedEntry) (payment : ℕ) (reversal : TheEntry) : Type 0 where
  pub original : TheEntry
  pub kept_is : entry_at kept payment ≡ Some original
  pub is_original : IsOriginalOf reversal.intent original
  pub at : ℕ
  pub paid : BookedEntry
  pub found : slice_get book at ≡ Some paid
  pub key_is : entry_key past paid ≡ Some (intent_key original.intent)
  pub approved : paid.approved ≡ true
  pub is_payment : paid.kind ≡ BookedPayment
  pub whole : paid.amount ≡ reversal.intent.amount

-- so is each that was accepted
abbrev pub OnlyPaidIsReversed : Type 0
OnlyPaidIsReversed =
    (log : List Turn) (moves : List Move) (book : List BookedEntry) (payment : ℕ) (reversal : TheEntry) → IsLeanCourse log moves → Honest (past_of moves) book → IsReversalOf (kept_after moves) payment reversal
    → IsOfPaid (kept_after moves) (past_of moves) book payment reversal
