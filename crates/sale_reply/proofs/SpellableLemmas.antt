-- Every reply within the limits has a text.
use Rattle.std.proofs.Common.{◌≡◌, ◌≢◌, ℕ, suc, ◌^◌, ◌<◌, List, [], ◌∷◌, ◌++◌, Option, Some, None, true, refl, arith, All, IfSome, codes, decimal, map, ℤ}
use Rattle.std.specs.Prelude.{map, option_map, false}
use Rattle.std.specs.Str.{IsUtf8}
use Rattle.std.proofs.lemmas.List.Elements.{All-head, All-tail}
use Rattle.std.proofs.lemmas.Str.{IsUtf8-append}
use Rattle.gw_base.specs.Condition.{name_of}
use Rattle.gw_base.specs.Currency.{currency_letters}
use Rattle.gw_base.specs.Ident.{IsIdent, IsPrintable}
use Rattle.gw_base.specs.Moment.{stamp_of}
use Rattle.gw_base.specs.declared.condition.Condition.{Condition}
use Rattle.gw_base.specs.declared.currency.Currency.{Currency}
use Rattle.gw_base.specs.declared.figures.Money.{Money}
use Rattle.json_text.specs.MemberNames.{are_distinct}
use Rattle.json_text.specs.Spellable.{IsSpellable, IsSpellableAt, AreSpellable}
use Rattle.json_text.specs.Tree.{Tree, boolean, string, array, object, Elements, no_elements, element, Members, no_members, member, names}
use Rattle.json_text.specs.ValueOf.{elements_onto}
use Rattle.sale_values.specs.HeaderTexts.{HasUtf8Texts}
use Rattle.sale_values.specs.MemberShapes.{text_member, optional_member, number_member, object_member, only}
use Rattle.sale_values.specs.Money.{money_text}
use Rattle.sale_values.specs.Names.{period_name}
use Rattle.sale_values.specs.declared.header.Header.{Header}
use Rattle.sale_values.specs.declared.names.Period.{Period}
use Rattle.sale_values.proofs.HeaderLemmas.{header_spellable}
use Rattle.sale_values.proofs.MoneyLemmas.{decimal_number, money_number}
use Rattle.sale_values.proofs.ObjectLemmas.{object_at, only_at, optional_have}
use Rattle.sale_values.proofs.Utf8Lemmas.{ascii_utf8, ident_utf8, period_utf8}
use Rattle.sale_reply.specs.declared.reply.Detail.{Detail}
use Rattle.sale_reply.specs.declared.reply.GlobalStatus.{GlobalStatus}
use Rattle.sale_reply.specs.declared.reply.PoiMark.{PoiMark}
use Rattle.sale_reply.specs.declared.reply.ReplyResult.{ReplyResult}
use Rattle.sale_reply.specs.declared.reply.ReplyResult.TheVariants as results
use Rattle.sale_reply.specs.declared.reply.SaleReply.{SaleReply}
use Rattle.sale_reply.specs.declared.reply.SaleReply.TheVariants as reply
use Rattle.sale_reply.specs.declared.reply.Shown.{Shown}
use Rattle.sale_reply.specs.declared.reply.Told.{Told}
use Rattle.sale_reply.specs.declared.reply.Told.TheVariants.{PaymentApproved, PaymentDeclined, ReversalApproved, ReversalDeclined, Reconciled}
use Rattle.sale_reply.specs.declared.reply.Verdict.{Verdict}
use Rattle.sale_reply.specs.Limits.{IsDetailWithinLimits, IsHeaderWithinLimits, IsMarkWithinLimits, IsShownWithinLimits, IsToldWithinLimits, IsTotalWithinLimits, IsVerdictWithinLimits, IsWithinLimits}
use Rattle.sale_reply.specs.Names.{paid_result, result_name, result_of, status_name}
use Rattle.sale_reply.specs.Reply.{approved_body, approved_data, content, declined_data, diagnosis_body, display_body, event_tree, event_body, event_header, failure_tree, header_tree, identified, line_trees, message_tree, output_result_tree, print_request_body, payment_result, plain_body, poi_data, print_body, repeated_message, result_tree, sale_data, display_request_body, status_body, success_tree, text_tree, result_body, total, totals, tree_of, verdict_tree}
use Rattle.gw_base.specs.Transaction.{transaction_text}
use Rattle.sale_reply.specs.Texts.{detail_text, line_text, intermediate_text}
use Rattle.sale_reply.proofs.LimitLemmas.{event_header_within}
use Rattle.sale_reply.proofs.TextLemmas.{code_utf8, condition_utf8, detail_utf8, line_utf8, notification_new, optional_ident_utf8, printable_utf8, request_new, response_new, result_utf8, status_text_utf8, status_utf8, transaction_utf8}

-- a stamp is printable
abbrev pub StampsPrintable : Type 0
StampsPrintable = (now : ℤ) → All IsPrintable (stamp_of now)

-- ---- results

result_distinct : (outcome : ReplyResult) (condition : Option Condition) (path : Option (List ℕ))
    → are_distinct (names (text_member (codes "Result") (result_name outcome)
    (optional_member (codes "ErrorCondition") (option_map name_of condition) (optional_member (codes "AdditionalResponse") path no_members)))) ≡ true
result_distinct outcome None None = refl
result_distinct outcome None (Some path) = refl
result_distinct outcome (Some condition) None = refl
result_distinct outcome (Some condition) (Some path) = refl

result_texts : (d : ℕ) (outcome : ReplyResult) (condition : Option Condition) (path : Option (List ℕ)) → d < 32 → IfSome path IsUtf8
    → IsSpellableAt d (result_tree outcome condition path)
unfolding result_tree
result_texts d outcome condition path room p =
    let last = optional_have (suc d) (codes "AdditionalResponse") path no_members (ascii_utf8 (codes "AdditionalResponse") refl) p tt in
    let more = optional_have (suc d) (codes "ErrorCondition") (option_map name_of condition) (optional_member (codes "AdditionalResponse") path no_members)
    (ascii_utf8 (codes "ErrorCondition") refl) (condition_utf8 condition) last in
    object_at d (text_member (codes "Result") (result_name outcome)
    (optional_member (codes "ErrorCondition") (option_map name_of condition) (optional_member (codes "AdditionalResponse") path no_members)))
    room (result_distinct outcome condition path) (ascii_utf8 (codes "Result") refl, result_utf8 outcome, more)

verdict_texts : (d : ℕ) (verdict : Verdict) → d < 32 → IsVerdictWithinLimits verdict → IsSpellableAt d (verdict_tree verdict)
verdict_texts d verdict room is =
    result_texts d (result_of verdict.condition) verdict.condition verdict.path room (optional_ident_utf8 100 verdict.path is)

success_texts : (d : ℕ) → d < 32 → IsSpellableAt d success_tree
success_texts d room = result_texts d results.Success None None room tt

failure_texts : (d : ℕ) (condition : Condition) → d < 32 → IsSpellableAt d (failure_tree condition)
failure_texts d condition room = result_texts d results.Failure (Some condition) None room tt

plain_texts : (d : ℕ) (verdict : Verdict) → d < 28 → IsVerdictWithinLimits verdict → IsSpellableAt d (plain_body (verdict_tree verdict))
plain_texts d verdict room is =
    only_at d (codes "Response") (verdict_tree verdict) (omega arith) (ascii_utf8 (codes "Response") refl) (verdict_texts (suc d) verdict (omega arith) is)

-- ---- result bodies

identified_texts : (d : ℕ) (transaction stamp : List ℕ) → d < 32 → IsUtf8 transaction → IsUtf8 stamp
    → IsSpellableAt d (object (identified transaction stamp))
identified_texts d transaction stamp room t s =
    object_at d (identified transaction stamp) room refl (ascii_utf8 (codes "TransactionID") refl, t, (ascii_utf8 (codes "TimeStamp") refl, s, tt))

sale_texts : (d : ℕ) (transaction stamp : List ℕ) → d < 30 → IsIdent 80 transaction → IsIdent 35 stamp
    → IsSpellableAt d (sale_data transaction stamp)
unfolding sale_data
sale_texts d transaction stamp room t s =
    only_at d (codes "SaleTransactionID") (object (identified transaction stamp)) (omega arith) (ascii_utf8 (codes "SaleTransactionID") refl)
    (identified_texts (suc d) transaction stamp (omega arith) (ident_utf8 80 transaction t) (ident_utf8 35 stamp s))

poi_texts : StampsPrintable → (d trace receipt : ℕ) (mark : PoiMark) → d < 30 → IsMarkWithinLimits mark → IsSpellableAt d (poi_data trace receipt mark)
unfolding poi_data
poi_texts stamps d trace receipt mark room is =
    only_at d (codes "POITransactionID") (object (identified (transaction_text trace receipt mark.slot) (stamp_of mark.moment))) (omega arith)
    (ascii_utf8 (codes "POITransactionID") refl)
    (identified_texts (suc d) (transaction_text trace receipt mark.slot) (stamp_of mark.moment) (omega arith)
    (transaction_utf8 trace receipt mark.slot is.slot_fits) (printable_utf8 (stamp_of mark.moment) (stamps mark.moment)))

payment_texts : (d : ℕ) (currency : Currency) (units : ℕ) → d < 30 → units < 2 ^ 64 → IsSpellableAt d (payment_result currency units)
unfolding payment_result
payment_texts d currency units room small =
    let members = text_member (codes "Currency") (currency_letters currency) (number_member (codes "AuthorizedAmount") (money_text units) no_members) in
    only_at d (codes "AmountsResp") (object members) (omega arith) (ascii_utf8 (codes "AmountsResp") refl)
    (object_at (suc d) members (omega arith) refl
    (ascii_utf8 (codes "Currency") refl, code_utf8 currency, (ascii_utf8 (codes "AuthorizedAmount") refl, money_number units small, tt)))

total_texts : (d : ℕ) (type : List ℕ) (sum : ℕ × ℕ) → d < 32 → IsUtf8 type → IsTotalWithinLimits sum → IsSpellableAt d (total type sum)
unfolding total
total_texts d type sum room t is =
    let count = is.0 in
    object_at d (text_member (codes "TransactionType") type (number_member (codes "TransactionCount") (decimal sum.0)
    (number_member (codes "TransactionAmount") (money_text sum.1) no_members))) room refl (
      ascii_utf8 (codes "TransactionType") refl,
      t,
      (
        ascii_utf8 (codes "TransactionCount") refl,
        decimal_number sum.0 (omega arith),
        (ascii_utf8 (codes "TransactionAmount") refl, money_number sum.1 is.1, tt),
      ),
    )

totals_texts : (d : ℕ) (currency : Currency) (debit reversed : ℕ × ℕ) → d < 29 → IsTotalWithinLimits debit → IsTotalWithinLimits reversed
    → IsSpellableAt d (totals currency debit reversed)
unfolding totals
totals_texts d currency debit reversed room p q =
    object_at d (text_member (codes "PaymentInstrumentType") (codes "Card") (text_member (codes "PaymentCurrency") (currency_letters currency)
    (member (codes "PaymentTotals")
    (array (element (total (codes "Debit") debit) (element (total (codes "ReverseDebit") reversed) no_elements))) no_members))) (omega arith) refl (
      ascii_utf8 (codes "PaymentInstrumentType") refl,
      ascii_utf8 (codes "Card") refl,
      (
        ascii_utf8 (codes "PaymentCurrency") refl,
        code_utf8 currency,
        (
          ascii_utf8 (codes "PaymentTotals") refl,
          (
            omega arith,
            (
              total_texts (suc (suc d)) (codes "Debit") debit (omega arith) (ascii_utf8 (codes "Debit") refl) p,
              (total_texts (suc (suc d)) (codes "ReverseDebit") reversed (omega arith) (ascii_utf8 (codes "ReverseDebit") refl) q, tt),
            ),
          ),
          tt,
        ),
      ),
    )

approved_texts : StampsPrintable → (d : ℕ) (transaction stamp : List ℕ) (mark : PoiMark) (outcome : ReplyResult) (paid : Money) → d < 26
    → IsIdent 80 transaction → IsIdent 35 stamp → IsMarkWithinLimits mark → paid.minor < 2 ^ 64
    → IsSpellableAt d (approved_body transaction stamp mark outcome paid)
unfolding approved_body
approved_texts stamps d transaction stamp mark outcome paid room t s m small =
    object_at d (member (codes "Response") (result_tree outcome None None) (member (codes "SaleData") (sale_data transaction stamp)
    (member (codes "POIData") (approved_data mark) (member (codes "PaymentResult") (payment_result paid.currency paid.minor) no_members))))
    (omega arith) refl (
      ascii_utf8 (codes "Response") refl,
      result_texts (suc d) outcome None None (omega arith) tt,
      (
        ascii_utf8 (codes "SaleData") refl,
        sale_texts (suc d) transaction stamp (omega arith) t s,
        (
          ascii_utf8 (codes "POIData") refl,
          poi_texts stamps (suc d) mark.number mark.receipt mark (omega arith) m,
          (ascii_utf8 (codes "PaymentResult") refl, payment_texts (suc d) paid.currency paid.minor (omega arith) small, tt),
        ),
      ),
    )

declined_texts : StampsPrintable → (d : ℕ) (transaction stamp : List ℕ) (mark : PoiMark) (condition : Condition) → d < 26
    → IsIdent 80 transaction → IsIdent 35 stamp → IsMarkWithinLimits mark → IsSpellableAt d (result_body (PaymentDeclined transaction stamp mark condition))
unfolding result_body
declined_texts stamps d transaction stamp mark condition room t s m =
    object_at d (member (codes "Response") (failure_tree condition) (member (codes "SaleData") (sale_data transaction stamp)
    (member (codes "POIData") (declined_data mark) no_members))) (omega arith) refl (
      ascii_utf8 (codes "Response") refl,
      failure_texts (suc d) condition (omega arith),
      (
        ascii_utf8 (codes "SaleData") refl,
        sale_texts (suc d) transaction stamp (omega arith) t s,
        (ascii_utf8 (codes "POIData") refl, poi_texts stamps (suc d) 0 0 mark (omega arith) m, tt),
      ),
    )

reversed_texts : StampsPrintable → (d : ℕ) (mark : PoiMark) (reversed : Money) → d < 26 → IsMarkWithinLimits mark → reversed.minor < 2 ^ 64
    → IsSpellableAt d (result_body (ReversalApproved mark reversed))
unfolding result_body
reversed_texts stamps d mark reversed room m small =
    object_at d (member (codes "Response") success_tree (member (codes "POIData") (approved_data mark)
    (number_member (codes "ReversedAmount") (money_text reversed.minor) no_members))) (omega arith) refl (
      ascii_utf8 (codes "Response") refl,
      success_texts (suc d) (omega arith),
      (
        ascii_utf8 (codes "POIData") refl,
        poi_texts stamps (suc d) mark.number mark.receipt mark (omega arith) m,
        (ascii_utf8 (codes "ReversedAmount") refl, money_number reversed.minor small, tt),
      ),
    )

unreversed_texts : StampsPrintable → (d : ℕ) (mark : PoiMark) (condition : Condition) → d < 26 → IsMarkWithinLimits mark
    → IsSpellableAt d (result_body (ReversalDeclined mark condition))
unfolding result_body
unreversed_texts stamps d mark condition room m =
    object_at d (member (codes "Response") (failure_tree condition) (member (codes "POIData") (declined_data mark) no_members)) (omega arith) refl (
      ascii_utf8 (codes "Response") refl,
      failure_texts (suc d) condition (omega arith),
      (ascii_utf8 (codes "POIData") refl, poi_texts stamps (suc d) 0 0 mark (omega arith) m, tt),
    )

reconciled_texts : (d : ℕ) (period : Period) (currency : Currency) (debit reversed : ℕ × ℕ) → d < 26 → IsTotalWithinLimits debit → IsTotalWithinLimits reversed
    → IsSpellableAt d (result_body (Reconciled period currency debit reversed))
unfolding result_body
reconciled_texts d period currency debit reversed room p q =
    object_at d (member (codes "Response") success_tree (text_member (codes "ReconciliationType") (period_name period)
    (member (codes "TransactionTotals") (array (element (totals currency debit reversed) no_elements)) no_members))) (omega arith) refl (
      ascii_utf8 (codes "Response") refl,
      success_texts (suc d) (omega arith),
      (
        ascii_utf8 (codes "ReconciliationType") refl,
        period_utf8 period,
        (
          ascii_utf8 (codes "TransactionTotals") refl,
          (omega arith, (totals_texts (suc (suc d)) currency debit reversed (omega arith) p q, tt)),
          tt,
        ),
      ),
    )

result_body_texts : StampsPrintable → (d : ℕ) (told : Told) → d < 26 → IsToldWithinLimits told → IsSpellableAt d (result_body told)
unfolding result_body
result_body_texts stamps d (PaymentApproved transaction stamp mark requested paid) room is =
    approved_texts stamps d transaction stamp mark (paid_result requested paid.minor) paid room is.0 is.1 is.2 is.3
result_body_texts stamps d (PaymentDeclined transaction stamp mark condition) room is =
    declined_texts stamps d transaction stamp mark condition room is.0 is.1 is.2
result_body_texts stamps d (ReversalApproved mark reversed) room is = reversed_texts stamps d mark reversed room is.0 is.1
result_body_texts stamps d (ReversalDeclined mark condition) room is = unreversed_texts stamps d mark condition room is
result_body_texts stamps d (Reconciled period currency debit reversed) room is = reconciled_texts d period currency debit reversed room is.0 is.1

-- ---- the other bodies

diagnosis_texts : (d : ℕ) (status : GlobalStatus) → d < 26 → IsSpellableAt d (diagnosis_body status)
unfolding diagnosis_body
diagnosis_texts d status room =
    object_at d (member (codes "Response") success_tree
    (object_member (codes "POIStatus") (text_member (codes "GlobalStatus") (status_name status) no_members) no_members)) (omega arith) refl (
      ascii_utf8 (codes "Response") refl,
      success_texts (suc d) (omega arith),
      (
        ascii_utf8 (codes "POIStatus") refl,
        only_at (suc d) (codes "GlobalStatus") (string (status_name status)) (omega arith) (ascii_utf8 (codes "GlobalStatus") refl) (status_utf8 status),
        tt,
      ),
    )

output_texts : (d : ℕ) (shown : Shown) → d < 30 → IsShownWithinLimits shown → IsSpellableAt d (output_result_tree shown)
unfolding output_result_tree
output_texts d shown room is =
    object_at d (text_member (codes "Device") shown.device (text_member (codes "InfoQualify") shown.qualify
    (member (codes "Response") (verdict_tree shown.verdict) no_members))) (omega arith) refl (
      ascii_utf8 (codes "Device") refl,
      ident_utf8 40 shown.device is.device,
      (
        ascii_utf8 (codes "InfoQualify") refl,
        ident_utf8 40 shown.qualify is.qualify,
        (ascii_utf8 (codes "Response") refl, verdict_texts (suc d) shown.verdict (omega arith) is.verdict, tt),
      ),
    )

outputs_texts : (d : ℕ) (outputs : List Shown) → d < 30 → All IsShownWithinLimits outputs → AreSpellable d (elements_onto (map output_result_tree outputs) no_elements)
outputs_texts d [] room is = tt
outputs_texts d (shown ∷ outputs) room is =
    (output_texts d shown room (All-head IsShownWithinLimits shown outputs is), outputs_texts d outputs room (All-tail IsShownWithinLimits shown outputs is))

display_texts : (d : ℕ) (outputs : List Shown) → d < 26 → All IsShownWithinLimits outputs → IsSpellableAt d (display_body outputs)
unfolding display_body
display_texts d outputs room is =
    only_at d (codes "OutputResult") (array (elements_onto (map output_result_tree outputs) no_elements)) (omega arith) (ascii_utf8 (codes "OutputResult") refl)
    (omega arith, outputs_texts (suc (suc d)) outputs (omega arith) is)

print_texts : (d : ℕ) (qualifier : List ℕ) (verdict : Verdict) → d < 26 → IsIdent 40 qualifier → IsVerdictWithinLimits verdict
    → IsSpellableAt d (print_body qualifier verdict)
unfolding print_body
print_texts d qualifier verdict room q v =
    object_at d (text_member (codes "DocumentQualifier") qualifier (member (codes "Response") (verdict_tree verdict) no_members)) (omega arith) refl (
      ascii_utf8 (codes "DocumentQualifier") refl,
      ident_utf8 40 qualifier q,
      (ascii_utf8 (codes "Response") refl, verdict_texts (suc d) verdict (omega arith) v, tt),
    )

-- ---- device requests

text_texts : (d : ℕ) (text : List ℕ) → d < 32 → IsUtf8 text → IsSpellableAt d (text_tree text)
unfolding text_tree
text_texts d text room t = only_at d (codes "Text") (string text) room (ascii_utf8 (codes "Text") refl) t

content_texts : (d : ℕ) (texts : Elements) → d < 30 → AreSpellable (suc (suc d)) texts → IsSpellableAt d (content texts)
unfolding content
content_texts d texts room ts =
    object_at d (text_member (codes "OutputFormat") (codes "Text") (member (codes "OutputText") (array texts) no_members)) (omega arith) refl
    (ascii_utf8 (codes "OutputFormat") refl, ascii_utf8 (codes "Text") refl, (ascii_utf8 (codes "OutputText") refl, (omega arith, ts), tt))

-- the output that shows a status
abbrev status_members : ℕ → Members
status_members code =
    member (codes "ResponseRequiredFlag") (boolean false) (text_member (codes "Device") (codes "CashierDisplay")
    (text_member (codes "InfoQualify") (codes "Status")
    (member (codes "OutputContent") (content (element (text_tree (intermediate_text code)) no_elements)) no_members)))

show_texts : (d code : ℕ) → d < 25 → code < 2 ^ 8 → IsSpellableAt d (display_request_body code)
unfolding display_request_body
show_texts d code room small =
    only_at d (codes "DisplayOutput") (array (element (object (status_members code)) no_elements)) (omega arith) (ascii_utf8 (codes "DisplayOutput") refl) (
      omega arith,
      (
        object_at (suc (suc d)) (status_members code) (omega arith) refl (
          ascii_utf8 (codes "ResponseRequiredFlag") refl,
          tt,
          (
            ascii_utf8 (codes "Device") refl,
            ascii_utf8 (codes "CashierDisplay") refl,
            (
              ascii_utf8 (codes "InfoQualify") refl,
              ascii_utf8 (codes "Status") refl,
              (
                ascii_utf8 (codes "OutputContent") refl,
                content_texts (suc (suc (suc d))) (element (text_tree (intermediate_text code)) no_elements) (omega arith)
                    (text_texts (suc (suc (suc (suc (suc d))))) (intermediate_text code) (omega arith) (status_text_utf8 code small), tt),
                tt,
              ),
            ),
          ),
        ),
        tt,
      ),
    )

lines_texts : (d : ℕ) (lines : List (List ℕ)) → d < 32 → AreSpellable d (elements_onto (line_trees lines) no_elements)
lines_texts d [] room = tt
lines_texts d (line ∷ lines) room = (text_texts d (line_text line) room (line_utf8 line), lines_texts d lines room)

-- the output that is printed
abbrev paper_members : List (List ℕ) → Members
paper_members lines =
    text_member (codes "DocumentQualifier") (codes "Document") (text_member (codes "ResponseMode") (codes "NotRequired")
    (member (codes "OutputContent") (content (elements_onto (line_trees lines) no_elements)) no_members))

paper_texts : (d : ℕ) (lines : List (List ℕ)) → d < 25 → IsSpellableAt d (print_request_body lines)
unfolding print_request_body
paper_texts d lines room =
    only_at d (codes "PrintOutput") (object (paper_members lines)) (omega arith) (ascii_utf8 (codes "PrintOutput") refl)
    (object_at (suc d) (paper_members lines) (omega arith) refl (
      ascii_utf8 (codes "DocumentQualifier") refl,
      ascii_utf8 (codes "Document") refl,
      (
        ascii_utf8 (codes "ResponseMode") refl,
        ascii_utf8 (codes "NotRequired") refl,
        (
          ascii_utf8 (codes "OutputContent") refl,
          content_texts (suc (suc d)) (elements_onto (line_trees lines) no_elements) (omega arith)
              (lines_texts (suc (suc (suc (suc d)))) lines (omega arith)),
          tt,
        ),
      ),
    ))

-- ---- messages

header_utf8 : (header : Header) → IsHeaderWithinLimits header → HasUtf8Texts header
header_utf8 header is = record {
  category = ident_utf8 40 header.category is.category;
  service = optional_ident_utf8 10 header.service is.service;
  device = optional_ident_utf8 10 header.device is.device;
  sale = ident_utf8 40 header.sale is.sale;
  poi = ident_utf8 40 header.poi is.poi;
}

header_texts : (d : ℕ) (header : Header) → d < 32 → IsHeaderWithinLimits header → IsSpellableAt d (header_tree header)
unfolding header_tree
header_texts d header room is = header_spellable d header (header_utf8 header is) room

message_texts : (envelope : List ℕ) (header : Header) (suffix : List ℕ) (body : Tree) → IsUtf8 envelope → IsUtf8 suffix
    → codes "MessageHeader" ≢ header.category ++ suffix → IsHeaderWithinLimits header → IsSpellableAt 2 body
    → IsSpellable (message_tree envelope header suffix body)
unfolding message_tree
message_texts envelope header suffix body e s new is b =
    only_at 0 envelope (object (member (codes "MessageHeader") (header_tree header) (member (header.category ++ suffix) body no_members)))
    (omega arith) e (
      omega arith,
      ((new, tt), (tt, tt)),
      (
        ascii_utf8 (codes "MessageHeader") refl,
        header_texts 2 header (omega arith) is,
        (IsUtf8-append header.category suffix (ident_utf8 40 header.category is.category) s, b, tt),
      ),
    )

response_texts : (header : Header) (body : Tree) → IsHeaderWithinLimits header → IsSpellableAt 2 body
    → IsSpellable (message_tree (codes "SaleToPOIResponse") header (codes "Response") body)
response_texts header body is b =
    message_texts (codes "SaleToPOIResponse") header (codes "Response") body (ascii_utf8 (codes "SaleToPOIResponse") refl)
    (ascii_utf8 (codes "Response") refl) (response_new header.category) is b

request_texts : (header : Header) (body : Tree) → IsHeaderWithinLimits header → IsSpellableAt 2 body
    → IsSpellable (message_tree (codes "SaleToPOIRequest") header (codes "Request") body)
request_texts header body is b =
    message_texts (codes "SaleToPOIRequest") header (codes "Request") body (ascii_utf8 (codes "SaleToPOIRequest") refl)
    (ascii_utf8 (codes "Request") refl) (request_new header.category) is b

repeated_texts : (d : ℕ) (header : Header) (body : Tree) → d < 26 → IsHeaderWithinLimits header → IsSpellableAt (suc (suc d)) body
    → IsSpellableAt d (repeated_message header body)
unfolding repeated_message
repeated_texts d header body room is b =
    object_at d (member (codes "MessageHeader") (header_tree header)
    (member (codes "RepeatedResponseMessageBody") (only (header.category ++ codes "Response") body) no_members)) (omega arith) refl (
      ascii_utf8 (codes "MessageHeader") refl,
      header_texts (suc d) header (omega arith) is,
      (
        ascii_utf8 (codes "RepeatedResponseMessageBody") refl,
        only_at (suc d) (header.category ++ codes "Response") body (omega arith)
            (IsUtf8-append header.category (codes "Response") (ident_utf8 40 header.category is.category) (ascii_utf8 (codes "Response") refl)) b,
        tt,
      ),
    )

status_texts : (header : Header) (body : Tree) → IsHeaderWithinLimits header → IsSpellableAt 5 body → IsSpellableAt 2 (status_body header body)
unfolding status_body
status_texts header body is b =
    object_at 2 (member (codes "Response") success_tree (member (codes "RepeatedMessageResponse") (repeated_message header body) no_members))
    (omega arith) refl (
      ascii_utf8 (codes "Response") refl,
      success_texts 3 (omega arith),
      (ascii_utf8 (codes "RepeatedMessageResponse") refl, repeated_texts 3 header body (omega arith) is b, tt),
    )

-- ---- events

event_body_texts : StampsPrintable → (moment : ℤ) (detail : Detail) → IsDetailWithinLimits detail → IsSpellableAt 2 (event_body moment detail)
unfolding event_body
event_body_texts stamps moment detail is =
    object_at 2 (text_member (codes "TimeStamp") (stamp_of moment) (text_member (codes "EventToNotify") (codes "Reject")
    (text_member (codes "EventDetails") (detail_text detail) no_members))) (omega arith) refl (
      ascii_utf8 (codes "TimeStamp") refl,
      printable_utf8 (stamp_of moment) (stamps moment),
      (
        ascii_utf8 (codes "EventToNotify") refl,
        ascii_utf8 (codes "Reject") refl,
        (ascii_utf8 (codes "EventDetails") refl, detail_utf8 detail is, tt),
      ),
    )

event_texts : StampsPrintable → (sale poi : List ℕ) (moment : ℤ) (detail : Detail) → IsIdent 40 sale → IsIdent 40 poi → IsDetailWithinLimits detail
    → IsSpellable (event_tree sale poi moment detail)
event_texts stamps sale poi moment detail s p is =
    message_texts (codes "SaleToPOIRequest") (event_header sale poi) (codes "Notification") (event_body moment detail)
    (ascii_utf8 (codes "SaleToPOIRequest") refl) (ascii_utf8 (codes "Notification") refl) (notification_new (codes "Event"))
    (event_header_within sale poi s p) (event_body_texts stamps moment detail is)

-- ---- every reply

pub reply_spellable : StampsPrintable → (r : SaleReply) → IsWithinLimits r → IsSpellable (tree_of r)
reply_spellable stamps (reply.Plain h verdict) is = response_texts h (plain_body (verdict_tree verdict)) is.0 (plain_texts 2 verdict (omega arith) is.1)
reply_spellable stamps (reply.Told h told) is = response_texts h (result_body told) is.0 (result_body_texts stamps 2 told (omega arith) is.1)
reply_spellable stamps (reply.Status h repeated told) is =
    response_texts h (status_body repeated (result_body told)) is.0
    (status_texts repeated (result_body told) is.1 (result_body_texts stamps 5 told (omega arith) is.2))
reply_spellable stamps (reply.Diagnosis h status) is = response_texts h (diagnosis_body status) is (diagnosis_texts 2 status (omega arith))
reply_spellable stamps (reply.Display h outputs) is =
    response_texts h (display_body outputs) is.0 (display_texts 2 outputs (omega arith) is.2)
reply_spellable stamps (reply.Print h qualifier verdict) is =
    response_texts h (print_body qualifier verdict) is.0 (print_texts 2 qualifier verdict (omega arith) is.1 is.2)
reply_spellable stamps (reply.DisplayRequest h code) is = request_texts h (display_request_body code) is.0 (show_texts 2 code (omega arith) is.1)
reply_spellable stamps (reply.PrintRequest h lines) is = request_texts h (print_request_body (map (λ line. line.now) lines.now)) is.0 (paper_texts 2 (map (λ line. line.now) lines.now) (omega arith))
reply_spellable stamps (reply.Reject sale poi moment detail) is = event_texts stamps sale poi moment detail is.0 is.1 is.2
