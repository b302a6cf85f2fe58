-- What was read has a form that is written, and a status that was read has a written size.
use Rattle.std.proofs.Common.{◌≡◌, ◌≢◌, ℕ, ◌+◌, ◌<◌, ◌≤◌, true, ltb, List, length, Ok, arith, refl, subst}
use Rattle.std.proofs.lemmas.Bool.{lt-ltb}
use Rattle.zvt_apdu.specs.Grammar.{ApduValue, canonical_apdu}
use Rattle.zvt_bmp.specs.declared.fields.Fields.{Fields}
use Rattle.zvt_bmp.specs.Canonical.{canonical_status}
use Rattle.zvt_bmp.proofs.LimitLemmas.{spelled_digits, spelled_currency, spelled_size}
use Rattle.zvt_msg.specs.Message.{MessageValue}
use Rattle.zvt_msg.specs.Numbers.{NumbersFitFields}
use Rattle.zvt_msg.specs.MessageGrammar.{SpellsPtMessage, SpellsPtMessageOrFault}
use Rattle.zvt_msg.specs.MessageDecode.{decode_pt_message}
use Rattle.zvt_msg.specs.MessageCanonical.{HasPtMessageForm, HasPtMessageSizes, canonical_pt_message}
use Rattle.zvt_msg.proofs.MessageLemmas.{reports}

spelled_numbers : (apdu : ApduValue) (message : MessageValue) → SpellsPtMessage apdu message → NumbersFitFields message
spelled_numbers apdu MessageValue.Ack is = tt
spelled_numbers apdu (MessageValue.Nack error_code) is = tt
spelled_numbers apdu (MessageValue.Intermediate intermediate_status) is = tt
spelled_numbers apdu (MessageValue.Line text) is = tt
spelled_numbers apdu (MessageValue.Block objects) is = tt
spelled_numbers apdu (MessageValue.Status fields) (is, spells) = spelled_digits apdu.body fields spells
spelled_numbers apdu MessageValue.Completion is = tt
spelled_numbers apdu (MessageValue.Abort result_code) is = tt
spelled_numbers apdu MessageValue.Other is = tt

spelled_sizes : (apdu : ApduValue) (message : MessageValue) → SpellsPtMessage apdu message → HasPtMessageSizes message
spelled_sizes apdu MessageValue.Ack is = tt
spelled_sizes apdu (MessageValue.Nack error_code) is = tt
spelled_sizes apdu (MessageValue.Intermediate intermediate_status) is = tt
spelled_sizes apdu (MessageValue.Line text) is = tt
spelled_sizes apdu (MessageValue.Block objects) is = tt
spelled_sizes apdu (MessageValue.Status fields) (is, spells) = spelled_currency apdu.body fields spells
spelled_sizes apdu MessageValue.Completion is = tt
spelled_sizes apdu (MessageValue.Abort result_code) is = tt
spelled_sizes apdu MessageValue.Other is = tt

spelled_form : (apdu : ApduValue) (message : MessageValue) → SpellsPtMessage apdu message → message ≢ MessageValue.Other → HasPtMessageForm message
spelled_form apdu MessageValue.Ack is known = tt
spelled_form apdu (MessageValue.Nack error_code) is known = tt
spelled_form apdu (MessageValue.Intermediate intermediate_status) is known = tt
spelled_form apdu (MessageValue.Line text) is known = tt
spelled_form apdu (MessageValue.Block objects) (is, (container, whole)) known = whole
spelled_form apdu (MessageValue.Status fields) (is, spells) known = spelled_digits apdu.body fields spells
spelled_form apdu MessageValue.Completion is known = tt
spelled_form apdu (MessageValue.Abort result_code) is known = tt
spelled_form apdu MessageValue.Other is known = absurd (known refl)

short_apdu : (class instr : ℕ) (apdu_data : List ℕ) → length apdu_data < 255 → length (canonical_apdu class instr apdu_data) ≡ 3 + length apdu_data
short_apdu class instr apdu_data below = let test : ltb (length apdu_data) 255 ≡ true = lt-ltb _ _ below in rw test (omega arith)

spelled_status_size : (apdu : ApduValue) (fields : Fields) → SpellsPtMessage apdu (MessageValue.Status fields) → length (canonical_pt_message (MessageValue.Status fields)) ≤ 22
spelled_status_size apdu fields (is, spells) =
    let size : length (canonical_status fields) ≤ 19 = spelled_size apdu.body fields spells in
    omega (arith, short_apdu 0x04 0x0F (canonical_status fields) (omega (arith, size)), size)

pub decoded_spells : (apdu : ApduValue) (message : MessageValue) → decode_pt_message apdu ≡ Ok message → SpellsPtMessage apdu message
decoded_spells apdu message is = subst (SpellsPtMessageOrFault apdu) is (reports apdu)

pub decoded_numbers : (apdu : ApduValue) (message : MessageValue) → decode_pt_message apdu ≡ Ok message → NumbersFitFields message
decoded_numbers apdu message is = spelled_numbers apdu message (decoded_spells apdu message is)

pub decoded_sizes : (apdu : ApduValue) (message : MessageValue) → decode_pt_message apdu ≡ Ok message → HasPtMessageSizes message
decoded_sizes apdu message is = spelled_sizes apdu message (decoded_spells apdu message is)

pub decoded_form : (apdu : ApduValue) (message : MessageValue) → decode_pt_message apdu ≡ Ok message → message ≢ MessageValue.Other → HasPtMessageForm message
decoded_form apdu message is known = spelled_form apdu message (decoded_spells apdu message is) known

pub decoded_status_size : (apdu : ApduValue) (fields : Fields) → decode_pt_message apdu ≡ Ok (MessageValue.Status fields) → length (canonical_pt_message (MessageValue.Status fields)) ≤ 22
decoded_status_size apdu fields is = spelled_status_size apdu fields (decoded_spells apdu (MessageValue.Status fields) is)
