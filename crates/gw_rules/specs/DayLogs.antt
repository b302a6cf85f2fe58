-- The laws of lawful logs on ends of day: the Settled of one is kept only once the terminal has completed it, and where the terminal's link ends before that nothing is kept.
use Rattle.std.specs.Prelude.{◌≡◌, ℕ, true, bytes_eq, if◌then◌else◌, List, [], ◌∷◌, slice_get, Option, Some, None, Ok}
use Rattle.gw_base.specs.declared.condition.Condition.TheVariants.{UnavailableDevice}
use Rattle.gw_base.specs.declared.setup.Pt.{Pt}
use Rattle.gw_base.specs.declared.setup.Setup.{Setup}
use Rattle.gw_site.specs.declared.turn.Turn.{Turn}
use Rattle.gw_site.specs.declared.turn.Turn.TheVariants.{CutPt}
use Rattle.sale_values.specs.declared.header.Header.{Header}
use Rattle.sale_values.specs.declared.names.Period.{Period}
use Rattle.zvt_apdu.specs.Grammar.{ApduValue}
use Rattle.zvt_msg.specs.CommandCanonical.{canonical_command}
use Rattle.zvt_msg.specs.Message.{Completion}
use Rattle.zvt_msg.specs.MessageDecode.{decode_pt_message}
use Rattle.zvt_msg.specs.declared.command.Command.TheVariants as commands
use Rattle.jrn_record.specs.declared.records.How.TheVariants.{Acquirer}
use Rattle.jrn_record.specs.declared.records.Settled.{Settled as TheSettled}
use Rattle.jrn_record.specs.declared.records.Record.TheVariants.{Settled}
use Rattle.gw_owes.specs.Calls.{WriteBody}
use Rattle.gw_owes.specs.Items.{RoundItem, LinkLost}
use Rattle.gw_owes.specs.Reconciliations.{settle_calls}
use Rattle.gw_owes.specs.Replies.{failure_reply}
use Rattle.gw_owes.specs.Terminals.{reply_calls_to}
use Rattle.gw_owes.specs.declared.terminal.Service.TheVariants.{EndOfDay}
use Rattle.gw_owes.specs.declared.terminal.Standing.TheVariants.{Serving}
use Rattle.gw_owes.specs.declared.terminal.Terminal.{Terminal}
use Rattle.gw_rules.specs.CutCauses.{HasSaidApdu}
use Rattle.gw_rules.specs.Lawful.{IsNext, AllowedTurn, Begins, Stands}
use Rattle.gw_rules.specs.LinkLaws.{is_linked_after}
use Rattle.gw_rules.specs.TranscriptLaws.{sent_from}
use Rattle.gw_rules.specs.View.{View, Begin, after, after_turn}

-- ---- what is kept

-- the last of these commands, the newest first, that is no stop
abbrev pub last_but_stops : List (List ℕ) → Option (List ℕ)
last_but_stops [] = None
last_but_stops (bytes ∷ earlier) = if bytes_eq bytes (canonical_command commands.Stop) then last_but_stops earlier else Some bytes

-- After this log the terminal is linked; of the commands that it was sent since it was linked the last is an end of day, but for stops; and it has said a Completion with the bytes that began the round.
pub record HasCompletedDay (log : List Turn) (pt : ℕ) : Type 0 where
  pub linked : is_linked_after log pt ≡ true
  pub password : List ℕ
  pub asked : last_but_stops (sent_from pt [] log) ≡ Some (canonical_command (commands.EndOfDay password))
  pub apdu : ApduValue
  pub said : HasSaidApdu log pt apdu
  pub completion : decode_pt_message apdu ≡ Ok Completion

-- a terminal of the run's setup, whose POIID the Settled has, has completed an end of day; the Settled is to be kept after the records that are kept, and only then its till gets the totals, where it is there
pub record KeepsDay (log : List Turn) (v : View) (settled : TheSettled) : Type 0 where
  pub pt : ℕ
  pub completed : HasCompletedDay log pt
  pub setup : Setup
  pub setup_is : v.scene.setup ≡ Some setup
  pub settings : Pt
  pub settings_are : slice_get setup.terminals pt ≡ Some settings
  pub poi_is : settled.poi ≡ settings.poi
  pub asker : Option ℕ
  pub calls_are : v.calls ≡ settle_calls v.scene.kept asker settled

-- In a lawful log the Settled of an end of day is kept only so: where its body is to be written next, which comes before its gate.
abbrev pub EachDayKeptWasCompleted : Type 0
EachDayKeptWasCompleted =
    (log : List Turn) (v : View) (slot : ℕ) (settled : TheSettled) → Stands log v → IsNext v (WriteBody slot (Settled settled)) → settled.how ≡ Acquirer → KeepsDay log v settled

-- ---- a link that ends

-- the till of the end of day gets a Failure, where it is there; no other call is owed, and no record is kept or in flight that wasn't before
pub record FailsDay (v w : View) (terminal : Terminal) (header : Header) : Type 0 where
  pub calls_are : w.calls ≡ reply_calls_to terminal.asker (Some (failure_reply header UnavailableDevice))
  pub kept_is : w.scene.kept ≡ v.scene.kept
  pub flight_is : w.scene.flight ≡ v.scene.flight

-- in a lawful log, the cut of a terminal that serves an end of day leaves it so
abbrev pub CutDayFails : Type 0
CutDayFails =
    (log : List Turn) (v : View) (pt : ℕ) (terminal : Terminal) (header : Header) (period : Period) (last : ℕ) → Stands log v → slice_get v.scene.core.terminals pt ≡ Some terminal → terminal.standing ≡ Serving (EndOfDay header period) last
    → AllowedTurn v (CutPt pt) → FailsDay v (after_turn v (CutPt pt)) terminal header

-- and so does the loss of its link
abbrev pub LostDayFails : Type 0
LostDayFails =
    (log : List Turn) (v : View) (pt : ℕ) (items : List RoundItem) (terminal : Terminal) (header : Header) (period : Period) (last : ℕ) → Stands log v → slice_get v.scene.core.terminals pt ≡ Some terminal
    → terminal.standing ≡ Serving (EndOfDay header period) last → Begins v → v.items ≡ LinkLost pt ∷ items → FailsDay v (after v Begin) terminal header
