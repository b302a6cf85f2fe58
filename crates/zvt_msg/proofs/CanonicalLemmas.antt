-- Commands and messages that were written are read again.
use Rattle.std.proofs.Common.{◌≡◌, ℕ, ◌<◌, ◌≤◌, List, [], ◌∷◌, ◌++◌, length, Option, None, Some, Ok, refl, subst, inl, arith}
use Rattle.std.specs.Prelude.{IfSome}
use Rattle.std.proofs.lemmas.List.{length-append}
use Rattle.zvt_apdu.specs.Grammar.{ApduValue, SpellsApdu, BeginsWithApdu, longest_apdu_data, canonical_apdu, canonical_apdu_length}
use Rattle.zvt_tlv.specs.Grammar.{ObjectValue, SpellsTlvObject, IsTag, canonical_tag, canonical_tlv_object, canonical_tlv_length}
use Rattle.zvt_bmp.specs.declared.fields.Fields.{Fields}
use Rattle.zvt_bmp.specs.Grammar.{SpellsStatusOrFault}
use Rattle.zvt_bmp.specs.Decode.{decode_status}
use Rattle.zvt_bmp.specs.Canonical.{HasFieldDigits, canonical_status}
use Rattle.zvt_bmp.proofs.DecodeLemmas.{fields_report}
use Rattle.zvt_msg.specs.declared.command.Command.{Command}
use Rattle.zvt_msg.specs.BlockGrammar.{container_tag}
use Rattle.zvt_msg.specs.Message.{MessageValue}
use Rattle.zvt_msg.specs.MessageGrammar.{IsFirstByte, SpellsPtMessage}
use Rattle.zvt_msg.specs.MessageCanonical.{canonical_abort_code, canonical_pt_message, HasPtMessageForm, HasPtMessageSizes, pt_message_read_again}
use Rattle.zvt_msg.specs.CommandGrammar as command
use Rattle.zvt_msg.specs.CommandCanonical as spelling
use Rattle.zvt_msg.proofs.CommandLemmas.{written_spells, data_size}

-- the laws of the crates below on what they write
abbrev pub ApduAgain : Type 0
ApduAgain = (apdu : ApduValue) → length apdu.body ≤ longest_apdu_data → SpellsApdu (canonical_apdu apdu.class apdu.instr apdu.body) apdu

abbrev pub ObjectAgain : Type 0
ObjectAgain = (object : ObjectValue) → IsTag object.tag → length object.value < 65536 → SpellsTlvObject (canonical_tlv_object object.tag object.value) object

abbrev pub FieldsAgain : Type 0
FieldsAgain = (fields : Fields) → HasFieldDigits fields → IfSome fields.currency (λ currency. length currency ≡ 2) → decode_status (canonical_status fields) ≡ Ok (record fields { tail = length (canonical_status fields) })

-- ---- commands

pub command_again : ApduAgain → (c : Command) (rest : List ℕ) → command.HasCommandDigits c → command.HasCommandSizes c → BeginsWithApdu (spelling.canonical_command c ++ rest) (spelling.command_apdu c) rest × command.SpellsCommand (spelling.command_apdu c) c
command_again again c rest digits sizes =
    ((spelling.canonical_command c, again (spelling.command_apdu c) (data_size c sizes), refl), written_spells c digits sizes)

-- ---- messages

abbrev ReadAgain : MessageValue → List ℕ → Type 0
ReadAgain message rest = (apdu : ApduValue) × BeginsWithApdu (canonical_pt_message message ++ rest) apdu rest × SpellsPtMessage apdu (pt_message_read_again message)

abbrev apdu : ℕ → ℕ → List ℕ → ApduValue
apdu class instr apdu_data = record { class = class; instr = instr; body = apdu_data }

begins : ApduAgain → (class instr : ℕ) (apdu_data rest : List ℕ) → length (canonical_apdu class instr apdu_data) ≤ 512 → BeginsWithApdu (canonical_apdu class instr apdu_data ++ rest) (apdu class instr apdu_data) rest
begins again class instr apdu_data rest fits =
    (canonical_apdu class instr apdu_data, again (apdu class instr apdu_data) (omega (arith, length-append (canonical_apdu_length (length apdu_data)) apdu_data)), refl)

code_first : (result_code : Option ℕ) → IsFirstByte (canonical_abort_code result_code) result_code
code_first None = refl
code_first (Some result_code) = ([], refl)

object_size : (tag : ℕ) (value : List ℕ) → length value ≤ length (canonical_tlv_object tag value)
object_size tag value = omega (arith, length-append (canonical_tag tag) (canonical_tlv_length (length value) ++ value), length-append (canonical_tlv_length (length value)) value)

data_within : (class instr : ℕ) (apdu_data : List ℕ) → length apdu_data ≤ length (canonical_apdu class instr apdu_data)
data_within class instr apdu_data = omega (arith, length-append (canonical_apdu_length (length apdu_data)) apdu_data)

is_container : IsTag container_tag
is_container = ((λ e. omega arith), refl)

pub message_again : ApduAgain → ObjectAgain → FieldsAgain → (message : MessageValue) (rest : List ℕ) → HasPtMessageForm message → HasPtMessageSizes message → length (canonical_pt_message message) ≤ 512 → ReadAgain message rest
message_again again objects fields MessageValue.Ack rest form sizes fits =
    (apdu 0x80 0x00 [], begins again 0x80 0x00 [] rest fits, (refl, refl))
message_again again objects fields (MessageValue.Nack error_code) rest form sizes fits =
    (apdu 0x84 error_code [], begins again 0x84 error_code [] rest fits, (refl, refl))
message_again again objects fields (MessageValue.Intermediate intermediate_status) rest form sizes fits =
    (apdu 0x04 0xFF (intermediate_status ∷ []), begins again 0x04 0xFF (intermediate_status ∷ []) rest fits, ((refl, refl), inl ([], refl)))
message_again again objects fields (MessageValue.Line text) rest form sizes fits =
    (apdu 0x06 0xD1 (0x00 ∷ text), begins again 0x06 0xD1 (0x00 ∷ text) rest fits, ((refl, refl), inl (0x00, refl)))
message_again again objects fields (MessageValue.Block block) rest form sizes fits =
    let apdu_data = canonical_tlv_object container_tag block in
    let small : length block < 65536 = omega (arith, fits, data_within 0x06 0xD3 apdu_data, object_size container_tag block) in
    (apdu 0x06 0xD3 apdu_data, begins again 0x06 0xD3 apdu_data rest fits, ((refl, refl), (objects (record { tag = container_tag; value = block }) is_container small, form)))
message_again again objects fields (MessageValue.Status values) rest form sizes fits =
    let apdu_data = canonical_status values in
    (apdu 0x04 0x0F apdu_data, begins again 0x04 0x0F apdu_data rest fits, ((refl, refl), subst (SpellsStatusOrFault apdu_data) (fields values form sizes) (fields_report apdu_data)))
message_again again objects fields MessageValue.Completion rest form sizes fits =
    (apdu 0x06 0x0F [], begins again 0x06 0x0F [] rest fits, (refl, refl))
message_again again objects fields (MessageValue.Abort result_code) rest form sizes fits =
    (apdu 0x06 0x1E (canonical_abort_code result_code), begins again 0x06 0x1E (canonical_abort_code result_code) rest fits, ((refl, refl), code_first result_code))
message_again again objects fields MessageValue.Other rest form sizes fits = absurd form
