-- The calls of the site that are owed, by what they mean and not by their bytes.
use Rattle.std.specs.Prelude.{ℕ, ◌+◌, ◌*◌, List, [], ◌∷◌, ◌++◌, Option, Some, None}
use Rattle.gw_site.specs.Steps.{SiteCall, SendTillCall, SendPtCall, LinkCall, CutTillCall, CutPtCall, WriteCall, SyncCall}
use Rattle.gw_site.specs.declared.turn.Turn.{Turn}
use Rattle.zvt_msg.specs.declared.command.Command.{Command}
use Rattle.zvt_msg.specs.Message.{MessageValue}
use Rattle.zvt_msg.specs.CommandCanonical.{canonical_command}
use Rattle.zvt_msg.specs.MessageCanonical.{canonical_pt_message}
use Rattle.jrn_record.specs.declared.records.Record.{Record}
use Rattle.jrn_record.specs.Grammar.{record_body}
use Rattle.jrn_log.specs.JournalTurns.{body_write, gate_write, first_gate_write}
use Rattle.gw_owes.specs.Reply.{ReplyValue, reply_value_bytes}

-- what goes to a terminal
pub data Sending : Type 0 where
  -- a command
  Ask : Command → Sending
  -- its message is acknowledged, with `80 00 00`
  Acknowledge : Sending
  -- its message is refused, with `84 83 00`
  Refuse : Sending

-- the bytes that are sent
abbrev pub sending_bytes : Sending → List ℕ
sending_bytes (Ask command) = canonical_command command
sending_bytes Acknowledge = canonical_pt_message MessageValue.Ack
sending_bytes Refuse = canonical_pt_message (MessageValue.Nack 0x83)

-- a call that is owed
pub data OwedCall : Type 0 where
  -- send the till this
  SendTill : ℕ → ReplyValue → OwedCall
  -- send the terminal this
  SendPt : ℕ → Sending → OwedCall
  -- cut the till's connection
  CutTill : ℕ → OwedCall
  -- cut the terminal's connection
  CutPt : ℕ → OwedCall
  -- connect the terminal
  LinkPt : ℕ → OwedCall
  -- write the body of this record into this slot, and the closed gate after it
  WriteBody : ℕ → Record → OwedCall
  -- open the gate of this slot, by which this record counts
  WriteGate : ℕ → Record → OwedCall
  -- write the first gate of the file, closed
  WriteFirstGate : OwedCall
  -- sync the file
  Sync : OwedCall

-- the calls that keep a record in this slot
abbrev pub keep_calls : ℕ → Record → List OwedCall
keep_calls slot the_record = WriteBody slot the_record ∷ Sync ∷ WriteGate slot the_record ∷ Sync ∷ []

-- the records that these calls keep, the oldest first: those whose gates they open
abbrev pub records_kept : List OwedCall → List Record
records_kept [] = []
records_kept (SendTill till reply ∷ calls) = records_kept calls
records_kept (SendPt pt sending ∷ calls) = records_kept calls
records_kept (CutTill till ∷ calls) = records_kept calls
records_kept (CutPt pt ∷ calls) = records_kept calls
records_kept (LinkPt pt ∷ calls) = records_kept calls
records_kept (WriteBody slot the_record ∷ calls) = records_kept calls
records_kept (WriteGate slot the_record ∷ calls) = the_record ∷ records_kept calls
records_kept (WriteFirstGate ∷ calls) = records_kept calls
records_kept (Sync ∷ calls) = records_kept calls

-- the turn of a call that writes; every other call has none
abbrev pub write_turn : OwedCall → Option Turn
write_turn (SendTill till reply) = None
write_turn (SendPt pt sending) = None
write_turn (CutTill till) = None
write_turn (CutPt pt) = None
write_turn (LinkPt pt) = None
write_turn (WriteBody slot the_record) = Some (body_write slot (record_body the_record))
write_turn (WriteGate slot the_record) = Some (gate_write slot)
write_turn WriteFirstGate = Some first_gate_write
write_turn Sync = None

-- the call on the site by which it is made, with its bytes
abbrev pub site_call : OwedCall → SiteCall
site_call (SendTill till reply) = SendTillCall till (reply_value_bytes reply)
site_call (SendPt pt sending) = SendPtCall pt (sending_bytes sending)
site_call (CutTill till) = CutTillCall till
site_call (CutPt pt) = CutPtCall pt
site_call (LinkPt pt) = LinkCall pt
site_call (WriteBody slot the_record) = WriteCall (256 * slot + 1) (record_body the_record ++ 0 ∷ [])
site_call (WriteGate slot the_record) = WriteCall (256 * slot) (165 ∷ [])
site_call WriteFirstGate = WriteCall 0 (0 ∷ [])
site_call Sync = SyncCall
