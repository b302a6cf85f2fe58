-- The function that computes the message of an APDU agrees with the definition.
use Rattle.std.proofs.Common.{◌≡◌, ℕ, Bool, true, false, cond, eqb, List, [], ◌∷◌, Option, Some, None, Result, Ok, Err, inl, inr, refl, sym, ap, subst, ◌∙◌}
use Rattle.std.specs.Prelude.{◌↔◌, unwrap_or}
use Rattle.std.proofs.lemmas.Bool.{eqb-true}
use Rattle.zvt_apdu.specs.Grammar.{ApduValue}
use Rattle.zvt_tlv.specs.declared.fault.TlvFault.{TlvFault}
use Rattle.zvt_bmp.specs.declared.fields.Fields.{Fields}
use Rattle.zvt_bmp.specs.declared.fields.FieldFault.{FieldFault}
use Rattle.zvt_bmp.specs.Grammar.{SpellsStatusOrFault}
use Rattle.zvt_bmp.specs.Decode.{decode_status}
use Rattle.zvt_bmp.proofs.DecodeLemmas.{fields_report, only_reported}
use Rattle.zvt_msg.specs.declared.fault.PtFault.{PtFault}
use Rattle.zvt_msg.specs.declared.fault.PtFault.TheVariants.{Field, Tlv}
use Rattle.zvt_msg.specs.declared.message.PtMessage.{PtMessage}
use Rattle.zvt_msg.specs.Message.{MessageValue, value_of}
use Rattle.zvt_msg.specs.MessageGrammar.{ControlField, HasControlField, IsFirstByte, IsFirstByteOrZero, IsLineText, SpellsPtMessage, HasPtFault, SpellsPtMessageOrFault}
use Rattle.zvt_msg.specs.BlockDecode.{decode_block}
use Rattle.zvt_msg.specs.MessageDecode.{control_field_of, first_byte_of, after_first_byte, status_or_fault, block_or_fault, decode_pt_message_by, decode_pt_message}
use Rattle.zvt_msg.specs.Results.{IsPtMessage, ReturnsPtMessage}
use Rattle.zvt_msg.proofs.BlockLemmas.{BlockIs, block_is, only_block, only_block_fault}

-- ---- the control field

control_field_found : (apdu : ApduValue) (control_field : ControlField) → HasControlField apdu control_field → control_field_of apdu.class apdu.instr ≡ Some control_field
control_field_found apdu ControlField.Ack (class, instr) = rw (class, instr) refl
control_field_found apdu ControlField.Nack class = rw class refl
control_field_found apdu ControlField.Intermediate (class, instr) = rw (class, instr) refl
control_field_found apdu ControlField.Line (class, instr) = rw (class, instr) refl
control_field_found apdu ControlField.Block (class, instr) = rw (class, instr) refl
control_field_found apdu ControlField.Status (class, instr) = rw (class, instr) refl
control_field_found apdu ControlField.Completion (class, instr) = rw (class, instr) refl
control_field_found apdu ControlField.Abort (class, instr) = rw (class, instr) refl

-- the APDU has this control field, if one was found
abbrev IsSome : ApduValue → Option ControlField → Type 0
IsSome apdu None = Unit {0}
IsSome apdu (Some control_field) = HasControlField apdu control_field

by_test : (apdu : ApduValue) (test : Bool) (x y : Option ControlField) → (test ≡ true → IsSome apdu x) → (test ≡ false → IsSome apdu y) → IsSome apdu (cond test x y)
by_test apdu true x y first second = first refl
by_test apdu false x y first second = second refl

found_some : (apdu : ApduValue) → IsSome apdu (control_field_of apdu.class apdu.instr)
found_some apdu =
    by_test apdu (eqb apdu.class 0x80) _ _ (λ class. by_test apdu (eqb apdu.instr 0x00) _ _ (λ instr. (eqb-true _ _ class, eqb-true _ _ instr)) (λ _. tt))
    (λ _. by_test apdu (eqb apdu.class 0x84) _ _ (λ class. eqb-true _ _ class)
    (λ _. by_test apdu (eqb apdu.class 0x04) _ _ (λ class. by_test apdu (eqb apdu.instr 0xFF) _ _ (λ instr. (eqb-true _ _ class, eqb-true _ _ instr))
    (λ _. by_test apdu (eqb apdu.instr 0x0F) _ _ (λ instr. (eqb-true _ _ class, eqb-true _ _ instr)) (λ _. tt)))
    (λ _. by_test apdu (eqb apdu.class 0x06) _ _ (λ class. by_test apdu (eqb apdu.instr 0xD1) _ _ (λ instr. (eqb-true _ _ class, eqb-true _ _ instr))
    (λ _. by_test apdu (eqb apdu.instr 0xD3) _ _ (λ instr. (eqb-true _ _ class, eqb-true _ _ instr))
    (λ _. by_test apdu (eqb apdu.instr 0x0F) _ _ (λ instr. (eqb-true _ _ class, eqb-true _ _ instr))
    (λ _. by_test apdu (eqb apdu.instr 0x1E) _ _ (λ instr. (eqb-true _ _ class, eqb-true _ _ instr)) (λ _. tt)))))
    (λ _. tt))))

-- the APDU has this control field, or none
abbrev ControlFieldIs : ApduValue → Option ControlField → Type 0
ControlFieldIs apdu None = (control_field : ControlField) → ¬ HasControlField apdu control_field
ControlFieldIs apdu (Some control_field) = HasControlField apdu control_field

control_field_by : (apdu : ApduValue) (found : Option ControlField) → control_field_of apdu.class apdu.instr ≡ found → IsSome apdu found → ControlFieldIs apdu found
control_field_by apdu None e is = λ control_field of. let some = control_field_found apdu control_field of in cc (some, e)
control_field_by apdu (Some control_field) e is = is

control_field_is : (apdu : ApduValue) → ControlFieldIs apdu (control_field_of apdu.class apdu.instr)
control_field_is apdu = control_field_by apdu (control_field_of apdu.class apdu.instr) refl (found_some apdu)

none_found : (apdu : ApduValue) (found : Option ControlField) → ((control_field : ControlField) → ¬ HasControlField apdu control_field) → ControlFieldIs apdu found → found ≡ None
none_found apdu None none is = refl
none_found apdu (Some control_field) none is = absurd (none control_field is)

-- ---- what the data carry

first_is : (apdu_data : List ℕ) → IsFirstByte apdu_data (first_byte_of apdu_data)
first_is [] = refl
first_is (byte ∷ bytes) = (bytes, refl)

only_first : (apdu_data : List ℕ) (first : Option ℕ) → IsFirstByte apdu_data first → first_byte_of apdu_data ≡ first
only_first apdu_data None empty = ap first_byte_of empty
only_first apdu_data (Some byte) (more, is) = ap first_byte_of is

code_is : (apdu_data : List ℕ) → IsFirstByteOrZero apdu_data (unwrap_or (first_byte_of apdu_data) 0)
code_is [] = inr (refl, refl)
code_is (byte ∷ bytes) = inl (bytes, refl)

only_code : (apdu_data : List ℕ) (result_code : ℕ) → IsFirstByteOrZero apdu_data result_code → unwrap_or (first_byte_of apdu_data) 0 ≡ result_code
only_code apdu_data result_code (inl (more, is)) = ap (λ (b : List ℕ). unwrap_or (first_byte_of b) 0) is
only_code apdu_data result_code (inr (empty, is)) = ap (λ (b : List ℕ). unwrap_or (first_byte_of b) 0) empty ∙ sym is

text_is : (apdu_data : List ℕ) → IsLineText apdu_data (after_first_byte apdu_data)
text_is [] = inr (refl, refl)
text_is (byte ∷ bytes) = inl (byte, refl)

only_text : (apdu_data text : List ℕ) → IsLineText apdu_data text → after_first_byte apdu_data ≡ text
only_text apdu_data text (inl (attribute, is)) = ap after_first_byte is
only_text apdu_data text (inr (empty, is)) = ap after_first_byte empty ∙ sym is

-- ---- what the APDU spells

reports_fields : (apdu : ApduValue) (reported : Result Fields FieldFault) → HasControlField apdu ControlField.Status → SpellsStatusOrFault apdu.body reported → SpellsPtMessageOrFault apdu (status_or_fault reported)
reports_fields apdu (Ok fields) is spells = (is, spells)
reports_fields apdu (Err fault) is spells = (is, spells)

reports_block : (apdu : ApduValue) (reported : Result (List ℕ) TlvFault) → HasControlField apdu ControlField.Block → BlockIs apdu.body reported → SpellsPtMessageOrFault apdu (block_or_fault reported)
reports_block apdu (Ok bytes) is block = (is, block)
reports_block apdu (Err fault) is block = (is, block)

reports_by : (apdu : ApduValue) (found : Option ControlField) → ControlFieldIs apdu found → SpellsPtMessageOrFault apdu (decode_pt_message_by found apdu)
reports_by apdu None is = is
reports_by apdu (Some ControlField.Ack) is = is
reports_by apdu (Some ControlField.Nack) is = (is, refl)
reports_by apdu (Some ControlField.Intermediate) is = (is, code_is apdu.body)
reports_by apdu (Some ControlField.Line) is = (is, text_is apdu.body)
reports_by apdu (Some ControlField.Block) is = reports_block apdu (decode_block apdu.body) is (block_is apdu.body)
reports_by apdu (Some ControlField.Status) is = reports_fields apdu (decode_status apdu.body) is (fields_report apdu.body)
reports_by apdu (Some ControlField.Completion) is = is
reports_by apdu (Some ControlField.Abort) is = (is, first_is apdu.body)

pub reports : (apdu : ApduValue) → SpellsPtMessageOrFault apdu (decode_pt_message apdu)
unfolding decode_pt_message
reports apdu = reports_by apdu (control_field_of apdu.class apdu.instr) (control_field_is apdu)

-- ---- and nothing else

of_control_field : (apdu : ApduValue) (control_field : ControlField) → HasControlField apdu control_field → decode_pt_message apdu ≡ decode_pt_message_by (Some control_field) apdu
unfolding decode_pt_message
of_control_field apdu control_field is = ap (λ (found : Option ControlField). decode_pt_message_by found apdu) (control_field_found apdu control_field is)

of_none : (apdu : ApduValue) → ((control_field : ControlField) → ¬ HasControlField apdu control_field) → decode_pt_message apdu ≡ Ok MessageValue.Other
unfolding decode_pt_message
of_none apdu none = ap (λ (found : Option ControlField). decode_pt_message_by found apdu) (none_found apdu (control_field_of apdu.class apdu.instr) none (control_field_is apdu))

only_says : (apdu : ApduValue) (message : MessageValue) → SpellsPtMessage apdu message → decode_pt_message apdu ≡ Ok message
only_says apdu MessageValue.Ack is = of_control_field apdu ControlField.Ack is
only_says apdu (MessageValue.Nack error_code) (is, same) = of_control_field apdu ControlField.Nack is ∙ ap (λ (c : ℕ). Ok (MessageValue.Nack c)) same
only_says apdu (MessageValue.Intermediate intermediate_status) (is, first) = of_control_field apdu ControlField.Intermediate is ∙ ap (λ (c : ℕ). Ok (MessageValue.Intermediate c)) (only_code apdu.body intermediate_status first)
only_says apdu (MessageValue.Line text) (is, is_text) = of_control_field apdu ControlField.Line is ∙ ap (λ (t : List ℕ). Ok (MessageValue.Line t)) (only_text apdu.body text is_text)
only_says apdu (MessageValue.Block objects) (is, block) = of_control_field apdu ControlField.Block is ∙ ap block_or_fault (only_block apdu.body objects block)
only_says apdu (MessageValue.Status fields) (is, are) = of_control_field apdu ControlField.Status is ∙ ap status_or_fault (only_reported apdu.body (Ok fields) are)
only_says apdu MessageValue.Completion is = of_control_field apdu ControlField.Completion is
only_says apdu (MessageValue.Abort result_code) (is, first) = of_control_field apdu ControlField.Abort is ∙ ap (λ (c : Option ℕ). Ok (MessageValue.Abort c)) (only_first apdu.body result_code first)
only_says apdu MessageValue.Other none = of_none apdu none

only_fault : (apdu : ApduValue) (fault : PtFault) → HasPtFault apdu fault → decode_pt_message apdu ≡ Err fault
only_fault apdu (Field fault) (is, first) = of_control_field apdu ControlField.Status is ∙ ap status_or_fault (only_reported apdu.body (Err fault) first)
only_fault apdu (Tlv fault) (is, first) = of_control_field apdu ControlField.Block is ∙ ap block_or_fault (only_block_fault apdu.body fault first)

pub only_reports : (apdu : ApduValue) (reported : Result MessageValue PtFault) → SpellsPtMessageOrFault apdu reported → decode_pt_message apdu ≡ reported
only_reports apdu (Ok message) says = only_says apdu message says
only_reports apdu (Err fault) has = only_fault apdu fault has

-- ---- the clauses of the call

abbrev said : MessageValue → Result MessageValue PtFault
said message = Ok message

said_is : (a b : MessageValue) → said a ≡ said b → a ≡ b
said_is a b e = cc

abbrev failed : PtFault → Result MessageValue PtFault
failed fault = Err fault

failed_is : (a b : PtFault) → failed a ≡ failed b → a ≡ b
failed_is a b e = cc

pub message_clause : (apdu : ApduValue) (result : Result PtMessage PtFault) → ReturnsPtMessage result (decode_pt_message apdu) → (message : MessageValue) → IsPtMessage result message ↔ SpellsPtMessage apdu message
message_clause apdu (Ok found) is message = (
  (λ same. subst (SpellsPtMessage apdu) same (subst (SpellsPtMessageOrFault apdu) is (reports apdu))),
  λ says. said_is (value_of found) message (sym is ∙ only_says apdu message says),
)
message_clause apdu (Err fault) is message =
    ((λ h. absurd h), λ says. let other = only_says apdu message says in absurd (cc (is, other)))

pub fault_clause : (apdu : ApduValue) (result : Result PtMessage PtFault) → ReturnsPtMessage result (decode_pt_message apdu) → (fault : PtFault) → (result ≡ Err fault) ↔ HasPtFault apdu fault
fault_clause apdu (Ok found) is fault =
    ((λ e. absurd cc), λ has. let other = only_fault apdu fault has in absurd (cc (is, other)))
fault_clause apdu (Err found) is fault = (
  (λ e. subst (HasPtFault apdu) (result_is found fault e) (subst (SpellsPtMessageOrFault apdu) is (reports apdu))),
  λ has. ap (λ (f : PtFault). Err f) (failed_is found fault (sym is ∙ only_fault apdu fault has)),
) where
  result_is : (a b : PtFault) → (let x : Result PtMessage PtFault = Err a in x) ≡ Err b → a ≡ b
  result_is a b e = cc
