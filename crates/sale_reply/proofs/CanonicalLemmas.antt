-- The canonical spelling of each part of a message, put together from smaller ones.
use Rattle.std.proofs.Common.{◌≡◌, ℕ, List, [], ◌∷◌, ◌++◌, Option, Some, None, refl, append_assoc, codes, ℤ, length, ◌≤◌, arith}
use Rattle.std.specs.Prelude.{decimal, map, option_map}
use Rattle.std.specs.Borrow.{Bor}
use Rattle.sale_reply.proofs.PartLemmas.{canonical_outputs_is, canonical_lines_is}
use Rattle.json_text.specs.Tree.{Tree}
use Rattle.json_text.specs.Canonical.{canonical, canonical_string}
use Rattle.gw_base.specs.declared.condition.Condition.{Condition}
use Rattle.gw_base.specs.declared.currency.Currency.{Currency}
use Rattle.gw_base.specs.declared.figures.Money.{Money}
use Rattle.gw_base.specs.Condition.{name_of}
use Rattle.gw_base.specs.Currency.{currency_letters}
use Rattle.gw_base.specs.Moment.{stamp_of}
use Rattle.sale_values.specs.declared.header.Header.{Header}
use Rattle.sale_values.specs.declared.names.Period.{Period}
use Rattle.sale_values.specs.Names.{class_name, kind_name, period_name}
use Rattle.sale_reply.specs.declared.reply.PoiMark.{PoiMark}
use Rattle.sale_reply.specs.declared.reply.Verdict.{Verdict}
use Rattle.sale_reply.specs.declared.reply.Shown.{Shown}
use Rattle.sale_reply.specs.declared.reply.GlobalStatus.{GlobalStatus}
use Rattle.sale_reply.specs.declared.reply.Detail.{Detail}
use Rattle.sale_reply.specs.declared.reply.ReplyResult.{ReplyResult}
use Rattle.sale_reply.specs.declared.reply.Told.TheVariants.{PaymentApproved, PaymentDeclined, ReversalApproved, ReversalDeclined, Reconciled}
use Rattle.sale_reply.specs.Names.{result_name, status_name, paid_result}
use Rattle.sale_values.specs.Money.{money_text}
use Rattle.gw_base.specs.Transaction.{transaction_text}
use Rattle.sale_reply.specs.Texts.{intermediate_text, detail_text}
use Rattle.sale_reply.specs.inner.CanonicalMembers.{first_name, next_name, first_text, next_text, next_optional, next_number, message_prefix, content_prefix, canonical_outputs, canonical_lines}
use Rattle.sale_reply.specs.Reply.{header_tree, message_tree, result_tree, verdict_tree, success_tree, failure_tree, plain_body, sale_data, poi_data, approved_data, declined_data, payment_result, total, totals, approved_body, result_body, repeated_message, status_body, diagnosis_body, output_result_tree, print_body, text_tree, content, display_request_body, display_body, print_request_body, event_body, tree_of}
use Rattle.sale_reply.specs.declared.reply.SaleReply.{SaleReply}
use Rattle.sale_reply.specs.declared.reply.SaleReply.TheVariants as reply

abbrev prefix : List ℕ
prefix = 123 ∷ []

abbrev end : List ℕ
end = 125 ∷ []

header_with : (header : Header) (service device : Option (List ℕ)) → canonical (header_tree (record header { service = service; device = device })) ≡
    prefix ++ (first_text (codes "ProtocolVersion") (codes "3.0")
    ++ (next_text (codes "MessageClass") (class_name header.class)
    ++ (next_text (codes "MessageCategory") header.category
    ++ (next_text (codes "MessageType") (kind_name header.kind)
    ++ (next_optional (codes "ServiceID") service
    ++ (next_optional (codes "DeviceID") device
    ++ (next_text (codes "SaleID") header.sale
    ++ (next_text (codes "POIID") header.poi ++ end))))))))
unfolding header_tree first_text next_text next_optional
header_with header None None = refl
header_with header (Some service) None = simp append_assoc
header_with header None (Some device) = simp append_assoc
header_with header (Some service) (Some device) = simp append_assoc

pub header_parts : (header : Header) → canonical (header_tree header) ≡
    prefix ++ (first_text (codes "ProtocolVersion") (codes "3.0")
    ++ (next_text (codes "MessageClass") (class_name header.class)
    ++ (next_text (codes "MessageCategory") header.category
    ++ (next_text (codes "MessageType") (kind_name header.kind)
    ++ (next_optional (codes "ServiceID") header.service
    ++ (next_optional (codes "DeviceID") header.device
    ++ (next_text (codes "SaleID") header.sale
    ++ (next_text (codes "POIID") header.poi ++ end))))))))
header_parts header = header_with header header.service header.device

pub result_parts : (outcome : ReplyResult) (condition : Option Condition) (path : Option (List ℕ)) →
    prefix ++ (first_text (codes "Result") (result_name outcome)
    ++ (next_optional (codes "ErrorCondition") (option_map name_of condition)
    ++ (next_optional (codes "AdditionalResponse") path ++ end)))
    ≡ canonical (result_tree outcome condition path)
unfolding result_tree first_text next_text next_optional
result_parts outcome None None = refl
result_parts outcome None (Some path) = simp append_assoc
result_parts outcome (Some condition) None = simp append_assoc
result_parts outcome (Some condition) (Some path) = simp append_assoc

pub plain_parts : (outcome : Tree) →
    prefix ++ (first_name (codes "Response") ++ (canonical outcome ++ end)) ≡ canonical (plain_body outcome)
unfolding first_name
plain_parts outcome = refl

pub sale_data_parts : (transaction stamp : List ℕ) →
    prefix ++ (first_name (codes "SaleTransactionID") ++ (prefix ++ (first_text (codes "TransactionID") transaction
    ++ (next_text (codes "TimeStamp") stamp ++ 125 ∷ 125 ∷ []))))
    ≡ canonical (sale_data transaction stamp)
unfolding sale_data first_name first_text next_text
sale_data_parts transaction stamp = simp append_assoc

pub poi_data_parts : (trace receipt : ℕ) (mark : PoiMark) →
    prefix ++ (first_name (codes "POITransactionID") ++ (prefix
    ++ (first_text (codes "TransactionID") (transaction_text trace receipt mark.slot)
    ++ (next_text (codes "TimeStamp") (stamp_of mark.moment) ++ 125 ∷ 125 ∷ []))))
    ≡ canonical (poi_data trace receipt mark)
unfolding poi_data first_name first_text next_text
poi_data_parts trace receipt mark = simp append_assoc

pub payment_result_parts : (currency : Currency) (units : ℕ) →
    prefix ++ (first_name (codes "AmountsResp") ++ (prefix ++ (first_text (codes "Currency") (currency_letters currency)
    ++ (next_number (codes "AuthorizedAmount") (money_text units) ++ 125 ∷ 125 ∷ []))))
    ≡ canonical (payment_result currency units)
unfolding payment_result first_name first_text next_number
payment_result_parts currency units = simp append_assoc

pub approved_parts : (transaction stamp : List ℕ) (mark : PoiMark) (outcome : ReplyResult) (paid : Money) →
    prefix ++ (first_name (codes "Response") ++ (canonical (result_tree outcome None None)
    ++ (next_name (codes "SaleData") ++ (canonical (sale_data transaction stamp)
    ++ (next_name (codes "POIData") ++ (canonical (approved_data mark)
    ++ (next_name (codes "PaymentResult") ++ (canonical (payment_result paid.currency paid.minor) ++ end))))))))
    ≡ canonical (approved_body transaction stamp mark outcome paid)
unfolding approved_body first_name next_name
approved_parts transaction stamp mark outcome paid = refl

pub approved_result : (transaction stamp : List ℕ) (mark : PoiMark) (requested : ℕ) (paid : Money) →
    canonical (approved_body transaction stamp mark (paid_result requested paid.minor) paid)
    ≡ canonical (result_body (PaymentApproved transaction stamp mark requested paid))
unfolding result_body
approved_result transaction stamp mark requested paid = refl

pub declined_parts : (transaction stamp : List ℕ) (mark : PoiMark) (condition : Condition) →
    prefix ++ (first_name (codes "Response") ++ (canonical (failure_tree condition)
    ++ (next_name (codes "SaleData") ++ (canonical (sale_data transaction stamp)
    ++ (next_name (codes "POIData") ++ (canonical (declined_data mark) ++ end))))))
    ≡ canonical (result_body (PaymentDeclined transaction stamp mark condition))
unfolding result_body first_name next_name
declined_parts transaction stamp mark condition = refl

pub reversed_parts : (mark : PoiMark) (reversed : Money) →
    prefix ++ (first_name (codes "Response") ++ (canonical success_tree
    ++ (next_name (codes "POIData") ++ (canonical (approved_data mark)
    ++ (next_number (codes "ReversedAmount") (money_text reversed.minor) ++ end)))))
    ≡ canonical (result_body (ReversalApproved mark reversed))
unfolding result_body first_name next_name next_number
reversed_parts mark reversed = refl

pub unreversed_parts : (mark : PoiMark) (condition : Condition) →
    prefix ++ (first_name (codes "Response") ++ (canonical (failure_tree condition)
    ++ (next_name (codes "POIData") ++ (canonical (declined_data mark) ++ end))))
    ≡ canonical (result_body (ReversalDeclined mark condition))
unfolding result_body first_name next_name
unreversed_parts mark condition = refl

pub reconciled_parts : (period : Period) (currency : Currency) (debit reversed : ℕ × ℕ) →
    prefix ++ (first_name (codes "Response") ++ (canonical success_tree
    ++ (next_text (codes "ReconciliationType") (period_name period)
    ++ (next_name (codes "TransactionTotals") ++ (91 ∷ [] ++ (canonical (totals currency debit reversed) ++ 93 ∷ 125 ∷ []))))))
    ≡ canonical (result_body (Reconciled period currency debit reversed))
unfolding result_body first_name next_name next_text
reconciled_parts period currency debit reversed = simp append_assoc

pub totals_parts : (currency : Currency) (debit reversed : ℕ × ℕ) →
    prefix ++ (first_text (codes "PaymentInstrumentType") (codes "Card")
    ++ (next_text (codes "PaymentCurrency") (currency_letters currency)
    ++ (next_name (codes "PaymentTotals") ++ (91 ∷ [] ++ (canonical (total (codes "Debit") debit)
    ++ (44 ∷ [] ++ (canonical (total (codes "ReverseDebit") reversed) ++ 93 ∷ 125 ∷ [])))))))
    ≡ canonical (totals currency debit reversed)
unfolding totals first_text next_name next_text
totals_parts currency debit reversed = simp append_assoc

pub total_parts : (type : List ℕ) (sum : ℕ × ℕ) →
    prefix ++ (first_text (codes "TransactionType") type
    ++ (next_number (codes "TransactionCount") (decimal sum.0)
    ++ (next_number (codes "TransactionAmount") (money_text sum.1) ++ end)))
    ≡ canonical (total type sum)
unfolding total first_text next_number
total_parts type sum = refl

pub diagnosis_parts : (status : GlobalStatus) →
    prefix ++ (first_name (codes "Response") ++ (canonical success_tree
    ++ (next_name (codes "POIStatus") ++ (prefix ++ (first_text (codes "GlobalStatus") (status_name status) ++ 125 ∷ 125 ∷ [])))))
    ≡ canonical (diagnosis_body status)
unfolding diagnosis_body first_name next_name first_text
diagnosis_parts status = simp append_assoc

pub print_parts : (qualifier : List ℕ) (verdict : Verdict) →
    prefix ++ (first_text (codes "DocumentQualifier") qualifier
    ++ (next_name (codes "Response") ++ (canonical (verdict_tree verdict) ++ end)))
    ≡ canonical (print_body qualifier verdict)
unfolding print_body next_name first_text
print_parts qualifier verdict = refl

pub output_parts : (shown : Shown) →
    prefix ++ (first_text (codes "Device") shown.device ++ (next_text (codes "InfoQualify") shown.qualify
    ++ (next_name (codes "Response") ++ (canonical (verdict_tree shown.verdict) ++ end))))
    ≡ canonical (output_result_tree shown)
unfolding output_result_tree next_name first_text next_text
output_parts shown = refl

pub text_parts : (text : List ℕ) →
    prefix ++ (first_name (codes "Text") ++ (canonical_string text ++ end)) ≡ canonical (text_tree text)
unfolding text_tree first_name
text_parts text = refl

pub show_parts : (code : ℕ) →
    prefix ++ (first_name (codes "DisplayOutput") ++ (91 ∷ 123 ∷ [] ++ (first_name (codes "ResponseRequiredFlag")
    ++ (codes "false" ++ (next_text (codes "Device") (codes "CashierDisplay")
    ++ (next_text (codes "InfoQualify") (codes "Status") ++ (next_name (codes "OutputContent")
    ++ (content_prefix ++ (prefix ++ (first_text (codes "Text") (intermediate_text code) ++ (end ++ codes "]}}]}")))))))))))
    ≡ canonical (display_request_body code)
unfolding display_request_body content text_tree content_prefix next_name first_name first_text next_text
show_parts code = simp append_assoc

pub event_body_parts : (moment : ℤ) (detail : Detail) →
    prefix ++ (first_text (codes "TimeStamp") (stamp_of moment)
    ++ (next_text (codes "EventToNotify") (codes "Reject")
    ++ (next_text (codes "EventDetails") (detail_text detail) ++ end)))
    ≡ canonical (event_body moment detail)
unfolding event_body first_text next_text
event_body_parts moment detail = refl

pub prefix_parts : (envelope : List ℕ) (header : Header) (suffix : List ℕ) →
    prefix ++ (first_name envelope ++ (prefix ++ (first_name (codes "MessageHeader")
    ++ (canonical (header_tree header) ++ next_name (header.category ++ suffix)))))
    ≡ message_prefix envelope header suffix
unfolding message_prefix
prefix_parts envelope header suffix = refl

pub message_parts : (envelope : List ℕ) (header : Header) (suffix : List ℕ) (body : Tree) →
    message_prefix envelope header suffix ++ (canonical body ++ 125 ∷ 125 ∷ []) ≡ canonical (message_tree envelope header suffix body)
unfolding message_prefix message_tree first_name next_name
message_parts envelope header suffix body = simp append_assoc

pub status_parts : (header : Header) (body : Tree) →
    prefix ++ (first_name (codes "Response") ++ (canonical success_tree ++ (next_name (codes "RepeatedMessageResponse")
    ++ (prefix ++ (first_name (codes "MessageHeader") ++ (canonical (header_tree header)
    ++ (next_name (codes "RepeatedResponseMessageBody") ++ (prefix ++ (first_name (header.category ++ codes "Response")
    ++ (canonical body ++ 125 ∷ 125 ∷ 125 ∷ []))))))))))
    ≡ canonical (status_body header body)
unfolding status_body repeated_message first_name next_name
status_parts header body = simp append_assoc

pub content_prefix_parts :
    prefix ++ (first_text (codes "OutputFormat") (codes "Text") ++ (next_name (codes "OutputText") ++ 91 ∷ [])) ≡ content_prefix
unfolding content_prefix
content_prefix_parts = refl

pub display_parts : (outputs : List Shown) →
    prefix ++ (first_name (codes "OutputResult") ++ (91 ∷ [] ++ (canonical_outputs outputs ++ 93 ∷ 125 ∷ [])))
    ≡ canonical (display_body outputs)
unfolding display_body first_name
display_parts outputs = rw (← canonical_outputs_is outputs) (simp append_assoc)

pub paper_parts : (lines : List (Bor (List ℕ))) →
    prefix ++ (first_name (codes "PrintOutput") ++ (prefix ++ (first_text (codes "DocumentQualifier") (codes "Document")
    ++ (next_text (codes "ResponseMode") (codes "NotRequired") ++ (next_name (codes "OutputContent")
    ++ (content_prefix ++ (canonical_lines lines ++ 93 ∷ 125 ∷ 125 ∷ 125 ∷ [])))))))
    ≡ canonical (print_request_body (map (λ line. line.now) lines))
unfolding print_request_body content content_prefix next_name first_name first_text next_text
paper_parts lines = rw (← canonical_lines_is lines) (simp append_assoc)

-- no message is empty
pub reply_nonempty : (r : SaleReply) → 1 ≤ length (canonical (tree_of r))
unfolding message_tree
reply_nonempty (reply.Plain header verdict) = omega arith
reply_nonempty (reply.Told header told) = omega arith
reply_nonempty (reply.Status header repeated told) = omega arith
reply_nonempty (reply.Diagnosis header status) = omega arith
reply_nonempty (reply.Display header outputs) = omega arith
reply_nonempty (reply.Print header qualifier verdict) = omega arith
reply_nonempty (reply.DisplayRequest header code) = omega arith
reply_nonempty (reply.PrintRequest header lines) = omega arith
reply_nonempty (reply.Reject sale poi moment detail) = omega arith
