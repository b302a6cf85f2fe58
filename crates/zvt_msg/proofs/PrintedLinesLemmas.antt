-- How many lines a message of a terminal prints, and how many bytes they have together.
use Rattle.std.proofs.Common.{◌≡◌, ℕ, ◌+◌, ◌≤◌, List, [], ◌∷◌, ◌++◌, length, Ok, inl, inr, arith, ap, length-append, length-take}
use Rattle.std.specs.Prelude.{sum_by, ◌⊎◌}
use Rattle.std.proofs.lemmas.Bool.{cases_eq, eq-eqb, ne_eqb}
use Rattle.std.proofs.lemmas.List.Sums.{sum_by-cons, sum_by-append, sum_by-take-le}
use Rattle.zvt_apdu.specs.Grammar.{ApduValue, longest_apdu_data}
use Rattle.zvt_tlv.specs.Grammar.{ObjectValue, BeginsWithTlvObject}
use Rattle.zvt_tlv.specs.ObjectsGrammar.{BeginsWithTlvObjects}
use Rattle.zvt_tlv.specs.ObjectsDecode.{decode_tlv_objects}
use Rattle.zvt_tlv.proofs.ObjectsDecodeLemmas.{split_is}
use Rattle.zvt_msg.specs.Message.{MessageValue}
use Rattle.zvt_msg.specs.MessageGrammar.{SpellsPtMessage, IsLineText}
use Rattle.zvt_msg.specs.MessageDecode.{decode_pt_message}
use Rattle.zvt_msg.specs.BlockGrammar.{text_tag, line_tag, most_block_lines, values_with_tag, SpellsContainer}
use Rattle.zvt_msg.specs.BlockDecode.{decode_values_with_tag, all_block_lines, decode_block_lines}
use Rattle.zvt_msg.specs.PrintedLines.{printed_lines}
use Rattle.zvt_msg.proofs.LimitLemmas.{decoded_spells}

-- the bytes that the lines have together
abbrev bytes_of : List (List ℕ) → ℕ
bytes_of lines = sum_by (λ line. length line) lines

-- ---- a block

object_size : (bytes : List ℕ) (object : ObjectValue) (rest : List ℕ) → BeginsWithTlvObject bytes object rest → length object.value + length rest ≤ length bytes
object_size bytes object rest (prefix, spells, parts) =
    omega (arith, ap length parts, length-append prefix rest, ap length spells.whole, length-append spells.tag_bytes (spells.length_bytes ++ object.value), length-append spells.length_bytes object.value)

with_value : (tag : ℕ) (object : ObjectValue) (objects : List ObjectValue) → (object.tag ≡ tag) ⊎ (object.tag ≡ tag → ⊥) → bytes_of (values_with_tag tag (object ∷ objects)) ≤ length object.value + bytes_of (values_with_tag tag objects)
with_value tag object objects (inl is) = rw (eq-eqb object.tag tag is) (omega (arith, sum_by-cons (λ line. length line) object.value (values_with_tag tag objects)))
with_value tag object objects (inr other) = rw (ne_eqb object.tag tag other) (omega arith)

values_size : (tag : ℕ) (bytes : List ℕ) (objects : List ObjectValue) (rest : List ℕ) → BeginsWithTlvObjects bytes objects rest → bytes_of (values_with_tag tag objects) ≤ length bytes
values_size tag bytes [] rest same = omega arith
values_size tag bytes (object ∷ objects) rest (more, begins, others) =
    omega (arith, with_value tag object objects (cases_eq object.tag tag), object_size bytes object more begins, values_size tag more objects rest others)

decoded_values_size : (tag : ℕ) (bytes : List ℕ) → bytes_of (decode_values_with_tag tag bytes) ≤ length bytes
unfolding decode_values_with_tag
decoded_values_size tag bytes = values_size tag bytes (decode_tlv_objects bytes).objects (decode_tlv_objects bytes).rest (split_is bytes).0

all_lines_size : (values : List (List ℕ)) → bytes_of (all_block_lines values) ≤ bytes_of values
all_lines_size [] = omega arith
all_lines_size (value ∷ values) =
    omega (arith, sum_by-append (λ line. length line) (decode_values_with_tag line_tag value) (all_block_lines values), sum_by-cons (λ line. length line) value values, decoded_values_size line_tag value, all_lines_size values)

pub block_lines_size : (block : List ℕ) → bytes_of (decode_block_lines block) ≤ length block
block_lines_size block =
    let all = decode_values_with_tag text_tag block in
    omega (arith, sum_by-take-le (λ line. length line) (all_block_lines all) most_block_lines, all_lines_size all, decoded_values_size text_tag block)

pub block_lines_count : (block : List ℕ) → length (decode_block_lines block) ≤ most_block_lines
block_lines_count block = let all = all_block_lines (decode_values_with_tag text_tag block) in omega (arith, length-take most_block_lines all)

-- ---- a message

container_size : (apdu_data bytes : List ℕ) → SpellsContainer apdu_data bytes → length bytes ≤ length apdu_data
container_size apdu_data bytes spells =
    omega (arith, ap length spells.whole, length-append spells.tag_bytes (spells.length_bytes ++ bytes), length-append spells.length_bytes bytes)

text_size : (apdu_data text : List ℕ) → IsLineText apdu_data text → length text ≤ length apdu_data
text_size apdu_data text (inl (attribute, parts)) = omega (arith, ap length parts)
text_size apdu_data text (inr (nothing, empty)) = omega (arith, ap length empty)

printed_size : (apdu : ApduValue) (message : MessageValue) → SpellsPtMessage apdu message → bytes_of (printed_lines message) ≤ length apdu.body
printed_size apdu MessageValue.Ack is = omega arith
printed_size apdu (MessageValue.Nack error_code) is = omega arith
printed_size apdu (MessageValue.Intermediate intermediate_status) is = omega arith
printed_size apdu (MessageValue.Line text) (is, holds) = omega (arith, text_size apdu.body text holds)
printed_size apdu (MessageValue.Block objects) (is, (container, whole)) = omega (arith, block_lines_size objects, container_size apdu.body objects container)
printed_size apdu (MessageValue.Status fields) is = omega arith
printed_size apdu MessageValue.Completion is = omega arith
printed_size apdu (MessageValue.Abort result_code) is = omega arith
printed_size apdu MessageValue.Other is = omega arith

printed_count : (message : MessageValue) → length (printed_lines message) ≤ most_block_lines
printed_count MessageValue.Ack = omega arith
printed_count (MessageValue.Nack error_code) = omega arith
printed_count (MessageValue.Intermediate intermediate_status) = omega arith
printed_count (MessageValue.Line text) = omega arith
printed_count (MessageValue.Block objects) = block_lines_count objects
printed_count (MessageValue.Status fields) = omega arith
printed_count MessageValue.Completion = omega arith
printed_count (MessageValue.Abort result_code) = omega arith
printed_count MessageValue.Other = omega arith

pub decoded_printed : (apdu : ApduValue) (message : MessageValue) → length apdu.body ≤ longest_apdu_data → decode_pt_message apdu ≡ Ok message → (length (printed_lines message) ≤ most_block_lines) × (sum_by (λ line. length line) (printed_lines message) ≤ longest_apdu_data)
decoded_printed apdu message short is =
    (printed_count message, omega (arith, short, printed_size apdu message (decoded_spells apdu message is)))
