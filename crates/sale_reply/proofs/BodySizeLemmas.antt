-- How long a message within the limits is at most.
use Rattle.std.proofs.Common.{◌≡◌, ℕ, suc, ◌*◌, ◌<◌, ◌≤◌, ◌^◌, List, [], ◌∷◌, length, Option, Some, None, sym, arith, length-append, lit≤, codes, ℤ}
use Rattle.std.specs.Prelude.{option_map, IfSome, All}
use Rattle.json_text.specs.declared.fault.FaultKind.{FaultKind}
use Rattle.json_text.specs.declared.fault.FaultKind.TheVariants as fault
use Rattle.json_text.specs.Canonical.{canonical}
use Rattle.gw_base.specs.declared.condition.Condition.{Condition}
use Rattle.gw_base.specs.declared.condition.Condition.TheVariants as condition
use Rattle.gw_base.specs.declared.currency.Currency.{Currency}
use Rattle.gw_base.specs.declared.currency.Currency.TheVariants as currency
use Rattle.gw_base.specs.Condition.{name_of}
use Rattle.gw_base.specs.Currency.{currency_letters}
use Rattle.gw_base.specs.Ident.{IsIdent}
use Rattle.gw_base.specs.Moment.{stamp_of}
use Rattle.sale_values.specs.declared.header.Header.{Header}
use Rattle.sale_values.specs.declared.names.Class.{Class}
use Rattle.sale_values.specs.declared.names.Class.TheVariants as class
use Rattle.sale_values.specs.declared.names.Kind.{Kind}
use Rattle.sale_values.specs.declared.names.Kind.TheVariants as kinds
use Rattle.sale_values.specs.declared.names.Period.{Period}
use Rattle.sale_values.specs.declared.names.Period.TheVariants as period
use Rattle.sale_values.specs.Names.{class_name, kind_name, period_name}
use Rattle.sale_reply.specs.declared.reply.PoiMark.{PoiMark}
use Rattle.sale_reply.specs.declared.reply.ReplyResult.{ReplyResult}
use Rattle.sale_reply.specs.declared.reply.ReplyResult.TheVariants as result
use Rattle.sale_reply.specs.declared.reply.GlobalStatus.{GlobalStatus}
use Rattle.sale_reply.specs.declared.reply.GlobalStatus.TheVariants as status
use Rattle.sale_reply.specs.declared.reply.Verdict.{Verdict}
use Rattle.sale_reply.specs.declared.reply.Shown.{Shown}
use Rattle.sale_reply.specs.declared.reply.Told.{Told}
use Rattle.sale_reply.specs.declared.reply.Told.TheVariants.{PaymentApproved, PaymentDeclined, ReversalApproved, ReversalDeclined, Reconciled}
use Rattle.gw_base.specs.declared.figures.Money.{Money}
use Rattle.json_text.specs.FaultText.{kind_text}
use Rattle.sale_reply.specs.Names.{result_name, status_name, result_of, paid_result}
use Rattle.sale_reply.specs.inner.CanonicalMembers.{more_outputs, canonical_outputs}
use Rattle.sale_reply.specs.Limits.{IsHeaderWithinLimits, IsVerdictWithinLimits, IsTotalWithinLimits, IsToldWithinLimits, IsShownWithinLimits}
use Rattle.sale_reply.specs.Reply.{header_tree, result_tree, success_tree, verdict_tree, sale_data, poi_data, payment_result, total, totals, approved_body, result_body, diagnosis_body, print_body, plain_body, output_result_tree, display_body}
use Rattle.sale_reply.proofs.CanonicalLemmas.{header_parts, result_parts, sale_data_parts, poi_data_parts, payment_result_parts, total_parts, totals_parts, approved_parts, approved_result, declined_parts, reversed_parts, unreversed_parts, reconciled_parts, diagnosis_parts, print_parts, plain_parts, output_parts, display_parts}
use Rattle.sale_reply.proofs.SizeLemmas.{IsAtMost, within, same_size, sized, both, known, first_name_size, next_name_size, first_text_size, next_text_size, next_number_size, next_optional_size, decimal_size, money_size, transaction_size}

-- every stamp has 20 bytes
abbrev pub StampSizes : Type 0
StampSizes = (now : ℤ) → length (stamp_of now) ≡ 20

class_size : (c : Class) → length (class_name c) ≤ 20
class_size class.Service = lit≤ tt
class_size class.Device = lit≤ tt
class_size class.Event = lit≤ tt

kind_size : (k : Kind) → length (kind_name k) ≤ 20
kind_size kinds.Request = lit≤ tt
kind_size kinds.Response = lit≤ tt
kind_size kinds.Notification = lit≤ tt

pub period_size : (p : Period) → length (period_name p) ≤ 30
period_size period.SaleReconciliation = lit≤ tt
period_size period.AcquirerSynchronisation = lit≤ tt
period_size period.AcquirerReconciliation = lit≤ tt
period_size period.PreviousReconciliation = lit≤ tt

condition_size : (c : Condition) → length (name_of c) ≤ 20
condition_size condition.Aborted = lit≤ tt
condition_size condition.Busy = lit≤ tt
condition_size condition.Cancel = lit≤ tt
condition_size condition.InProgress = lit≤ tt
condition_size condition.InsertedCard = lit≤ tt
condition_size condition.InvalidCard = lit≤ tt
condition_size condition.LoggedOut = lit≤ tt
condition_size condition.MessageFormat = lit≤ tt
condition_size condition.NotAllowed = lit≤ tt
condition_size condition.NotFound = lit≤ tt
condition_size condition.Refusal = lit≤ tt
condition_size condition.UnavailableDevice = lit≤ tt
condition_size condition.UnavailableService = lit≤ tt

pub code_size : (c : Currency) → length (currency_letters c) ≤ 3
code_size currency.Eur = lit≤ tt
code_size currency.Chf = lit≤ tt
code_size currency.Gbp = lit≤ tt
code_size currency.Usd = lit≤ tt
code_size currency.Dkk = lit≤ tt
code_size currency.Sek = lit≤ tt
code_size currency.Nok = lit≤ tt
code_size currency.Pln = lit≤ tt
code_size currency.Czk = lit≤ tt

pub fault_size : (k : FaultKind) → length (kind_text k) ≤ 10
fault_size fault.NotJson = lit≤ tt
fault_size fault.TooDeep = lit≤ tt
fault_size fault.Repeated = lit≤ tt
fault_size fault.BadUtf8 = lit≤ tt

result_size : (r : ReplyResult) → length (result_name r) ≤ 10
result_size result.Success = lit≤ tt
result_size result.Partial = lit≤ tt
result_size result.Failure = lit≤ tt

status_size : (s : GlobalStatus) → length (status_name s) ≤ 20
status_size status.Ready = lit≤ tt
status_size status.Busy = lit≤ tt
status_size status.Maintenance = lit≤ tt
status_size status.Unreachable = lit≤ tt

-- an identifier
pub ident_size : {most : ℕ} (text : List ℕ) → IsIdent most text → IsAtMost text most
ident_size {most} text is = sized text most is.1

optional_size : (most : ℕ) (text : Option (List ℕ)) → IfSome text (λ t. IsIdent most t) → IfSome text (λ t. IsAtMost t most)
optional_size most None is = is
optional_size most (Some text) is = ident_size text is

optional_condition_size : (c : Option Condition) → IfSome (option_map name_of c) (λ t. IsAtMost t 20)
optional_condition_size None = tt
optional_condition_size (Some c) = sized (name_of c) 20 (condition_size c)

pub header_size : (h : Header) → IsHeaderWithinLimits h → IsAtMost (canonical (header_tree h)) 2000
header_size h is = within 2000 (same_size (sym (header_parts h))
    (both (known (123 ∷ [])) (both (first_text_size (known (codes "ProtocolVersion")) (known (codes "3.0")))
    (both (next_text_size (known (codes "MessageClass")) (sized (class_name h.class) 20 (class_size h.class)))
    (both (next_text_size (known (codes "MessageCategory")) (ident_size h.category is.category))
    (both (next_text_size (known (codes "MessageType")) (sized (kind_name h.kind) 20 (kind_size h.kind)))
    (both (next_optional_size 10 h.service (known (codes "ServiceID")) (optional_size 10 h.service is.service))
    (both (next_optional_size 10 h.device (known (codes "DeviceID")) (optional_size 10 h.device is.device))
    (both (next_text_size (known (codes "SaleID")) (ident_size h.sale is.sale))
    (both (next_text_size (known (codes "POIID")) (ident_size h.poi is.poi)) (known (125 ∷ [])))))))))))) (lit≤ tt)

pub result_tree_size : (outcome : ReplyResult) (c : Option Condition) (path : Option (List ℕ)) → IfSome path (λ t. IsIdent 100 t) → IsAtMost (canonical (result_tree outcome c path)) 1200
result_tree_size outcome c path is = within 1200 (same_size (result_parts outcome c path)
    (both (known (123 ∷ [])) (both (first_text_size (known (codes "Result")) (sized (result_name outcome) 10 (result_size outcome)))
    (both (next_optional_size 20 (option_map name_of c) (known (codes "ErrorCondition")) (optional_condition_size c))
    (both (next_optional_size 100 path (known (codes "AdditionalResponse")) (optional_size 100 path is)) (known (125 ∷ []))))))) (lit≤ tt)

pub sale_data_size : (transaction stamp : List ℕ) → IsIdent 80 transaction → IsIdent 35 stamp → IsAtMost (canonical (sale_data transaction stamp)) 1200
sale_data_size transaction stamp t s = within 1200 (same_size (sale_data_parts transaction stamp)
    (both (known (123 ∷ [])) (both (first_name_size (known (codes "SaleTransactionID"))) (both (known (123 ∷ []))
    (both (first_text_size (known (codes "TransactionID")) (ident_size transaction t))
    (both (next_text_size (known (codes "TimeStamp")) (ident_size stamp s)) (known (125 ∷ 125 ∷ [])))))))) (lit≤ tt)

pub poi_data_size : StampSizes → (trace receipt : ℕ) (mark : PoiMark) → mark.slot < 2 ^ 32 → IsAtMost (canonical (poi_data trace receipt mark)) 800
poi_data_size stamps trace receipt mark slot = within 800 (same_size (poi_data_parts trace receipt mark)
    (both (known (123 ∷ [])) (both (first_name_size (known (codes "POITransactionID"))) (both (known (123 ∷ []))
    (both (first_text_size (known (codes "TransactionID")) (transaction_size trace receipt mark.slot slot))
    (both (next_text_size (known (codes "TimeStamp")) (sized (stamp_of mark.moment) 20 (omega (arith, stamps mark.moment)))) (known (125 ∷ 125 ∷ [])))))))) (lit≤ tt)

pub payment_result_size : (c : Currency) (units : ℕ) → units < 2 ^ 64 → IsAtMost (canonical (payment_result c units)) 400
payment_result_size c units fits = within 400 (same_size (payment_result_parts c units)
    (both (known (123 ∷ [])) (both (first_name_size (known (codes "AmountsResp"))) (both (known (123 ∷ []))
    (both (first_text_size (known (codes "Currency")) (sized (currency_letters c) 3 (code_size c)))
    (both (next_number_size (known (codes "AuthorizedAmount")) (money_size units fits)) (known (125 ∷ 125 ∷ [])))))))) (lit≤ tt)

total_size : (type : List ℕ) (sum : ℕ × ℕ) → length type ≤ 20 → IsTotalWithinLimits sum → IsAtMost (canonical (total type sum)) 600
total_size type sum fits is = within 600 (same_size (total_parts type sum)
    (both (known (123 ∷ [])) (both (first_text_size (known (codes "TransactionType")) (sized type 20 fits))
    (both (next_number_size (known (codes "TransactionCount")) (decimal_size sum.0 (omega (arith, is.0))))
    (both (next_number_size (known (codes "TransactionAmount")) (money_size sum.1 is.1)) (known (125 ∷ []))))))) (lit≤ tt)

totals_size : (c : Currency) (debit reversed : ℕ × ℕ) → IsTotalWithinLimits debit → IsTotalWithinLimits reversed → IsAtMost (canonical (totals c debit reversed)) 2000
totals_size c debit reversed d r = within 2000 (same_size (totals_parts c debit reversed)
    (both (known (123 ∷ [])) (both (first_text_size (known (codes "PaymentInstrumentType")) (known (codes "Card")))
    (both (next_text_size (known (codes "PaymentCurrency")) (sized (currency_letters c) 3 (code_size c)))
    (both (next_name_size (known (codes "PaymentTotals"))) (both (known (91 ∷ []))
    (both (total_size (codes "Debit") debit (lit≤ tt) d) (both (known (44 ∷ []))
    (both (total_size (codes "ReverseDebit") reversed (lit≤ tt) r) (known (93 ∷ 125 ∷ []))))))))))) (lit≤ tt)

pub success_size : IsAtMost (canonical success_tree) 1200
success_size = result_tree_size result.Success None None tt

result_body_approved : StampSizes → (transaction stamp : List ℕ) (mark : PoiMark) (outcome : ReplyResult) (paid : Money) → IsIdent 80 transaction → IsIdent 35 stamp → mark.slot < 2 ^ 32 → paid.minor < 2 ^ 64
    → IsAtMost (canonical (approved_body transaction stamp mark outcome paid)) 6000
result_body_approved stamps transaction stamp mark outcome paid t s slot units = within 6000 (same_size (approved_parts transaction stamp mark outcome paid)
    (both (known (123 ∷ [])) (both (first_name_size (known (codes "Response"))) (both (result_tree_size outcome None None tt)
    (both (next_name_size (known (codes "SaleData"))) (both (sale_data_size transaction stamp t s)
    (both (next_name_size (known (codes "POIData"))) (both (poi_data_size stamps mark.number mark.receipt mark slot)
    (both (next_name_size (known (codes "PaymentResult"))) (both (payment_result_size paid.currency paid.minor units) (known (125 ∷ [])))))))))))) (lit≤ tt)

pub result_body_size : StampSizes → (told : Told) → IsToldWithinLimits told → IsAtMost (canonical (result_body told)) 6000
result_body_size stamps (PaymentApproved transaction stamp mark requested paid) is =
    same_size (approved_result transaction stamp mark requested paid)
    (result_body_approved stamps transaction stamp mark (paid_result requested paid.minor) paid is.0 is.1 is.2.slot_fits is.3)
result_body_size stamps (PaymentDeclined transaction stamp mark condition) is = within 6000 (same_size (declined_parts transaction stamp mark condition)
    (both (known (123 ∷ [])) (both (first_name_size (known (codes "Response"))) (both (result_tree_size result.Failure (Some condition) None tt)
    (both (next_name_size (known (codes "SaleData"))) (both (sale_data_size transaction stamp is.0 is.1)
    (both (next_name_size (known (codes "POIData"))) (both (poi_data_size stamps 0 0 mark is.2.slot_fits) (known (125 ∷ [])))))))))) (lit≤ tt)
result_body_size stamps (ReversalApproved mark reversed) is = within 6000 (same_size (reversed_parts mark reversed)
    (both (known (123 ∷ [])) (both (first_name_size (known (codes "Response"))) (both success_size
    (both (next_name_size (known (codes "POIData"))) (both (poi_data_size stamps mark.number mark.receipt mark is.0.slot_fits)
    (both (next_number_size (known (codes "ReversedAmount")) (money_size reversed.minor is.1)) (known (125 ∷ []))))))))) (lit≤ tt)
result_body_size stamps (ReversalDeclined mark condition) is = within 6000 (same_size (unreversed_parts mark condition)
    (both (known (123 ∷ [])) (both (first_name_size (known (codes "Response"))) (both (result_tree_size result.Failure (Some condition) None tt)
    (both (next_name_size (known (codes "POIData"))) (both (poi_data_size stamps 0 0 mark is.slot_fits) (known (125 ∷ [])))))))) (lit≤ tt)
result_body_size stamps (Reconciled period currency debit reversed) is = within 6000 (same_size (reconciled_parts period currency debit reversed)
    (both (known (123 ∷ [])) (both (first_name_size (known (codes "Response"))) (both success_size
    (both (next_text_size (known (codes "ReconciliationType")) (sized (period_name period) 30 (period_size period)))
    (both (next_name_size (known (codes "TransactionTotals"))) (both (known (91 ∷ []))
    (both (totals_size currency debit reversed is.0 is.1) (known (93 ∷ 125 ∷ [])))))))))) (lit≤ tt)

pub diagnosis_size : (status : GlobalStatus) → IsAtMost (canonical (diagnosis_body status)) 2000
diagnosis_size status = within 2000 (same_size (diagnosis_parts status)
    (both (known (123 ∷ [])) (both (first_name_size (known (codes "Response"))) (both success_size
    (both (next_name_size (known (codes "POIStatus"))) (both (known (123 ∷ []))
    (both (first_text_size (known (codes "GlobalStatus")) (sized (status_name status) 20 (status_size status))) (known (125 ∷ 125 ∷ []))))))))) (lit≤ tt)

verdict_size : (verdict : Verdict) → IsVerdictWithinLimits verdict → IsAtMost (canonical (verdict_tree verdict)) 1200
verdict_size verdict is = result_tree_size (result_of verdict.condition) verdict.condition verdict.path is

pub print_size : (qualifier : List ℕ) (verdict : Verdict) → IsIdent 40 qualifier → IsVerdictWithinLimits verdict → IsAtMost (canonical (print_body qualifier verdict)) 2000
print_size qualifier verdict q v = within 2000 (same_size (print_parts qualifier verdict)
    (both (known (123 ∷ [])) (both (first_text_size (known (codes "DocumentQualifier")) (ident_size qualifier q))
    (both (next_name_size (known (codes "Response"))) (both (verdict_size verdict v) (known (125 ∷ []))))))) (lit≤ tt)

pub plain_size : (verdict : Verdict) → IsVerdictWithinLimits verdict → IsAtMost (canonical (plain_body (verdict_tree verdict))) 2000
plain_size verdict is = within 2000 (same_size (plain_parts (verdict_tree verdict))
    (both (known (123 ∷ [])) (both (first_name_size (known (codes "Response"))) (both (verdict_size verdict is) (known (125 ∷ [])))))) (lit≤ tt)

output_size : (shown : Shown) → IsShownWithinLimits shown → IsAtMost (canonical (output_result_tree shown)) 2000
output_size shown is = within 2000 (same_size (output_parts shown)
    (both (known (123 ∷ [])) (both (first_text_size (known (codes "Device")) (ident_size shown.device is.device))
    (both (next_text_size (known (codes "InfoQualify")) (ident_size shown.qualify is.qualify))
    (both (next_name_size (known (codes "Response"))) (both (verdict_size shown.verdict is.verdict) (known (125 ∷ [])))))))) (lit≤ tt)

more_outputs_size : (outputs : List Shown) → All IsShownWithinLimits outputs → length (more_outputs outputs) ≤ 2001 * length outputs
unfolding more_outputs
more_outputs_size [] all = lit≤ tt
more_outputs_size (shown ∷ outputs) all =
    let first : IsShownWithinLimits shown = all 0 shown (omega arith) in
    let others : All IsShownWithinLimits outputs = λ k d h. all (suc k) d (omega (arith, h)) in
    omega (
      arith,
      (output_size shown first).holds,
      more_outputs_size outputs others,
      length-append (44 ∷ canonical (output_result_tree shown)) (more_outputs outputs),
    )

outputs_size : (outputs : List Shown) → All IsShownWithinLimits outputs → length outputs ≤ 16 → IsAtMost (canonical_outputs outputs) 33000
unfolding canonical_outputs
outputs_size [] all few = record { holds = lit≤ tt }
outputs_size (shown ∷ outputs) all few =
    let first : IsShownWithinLimits shown = all 0 shown (omega arith) in
    let others : All IsShownWithinLimits outputs = λ k d h. all (suc k) d (omega (arith, h)) in
    record {
      holds = omega (
        arith,
        few,
        (output_size shown first).holds,
        more_outputs_size outputs others,
        length-append (canonical (output_result_tree shown)) (more_outputs outputs),
      );
    }

pub display_size : (outputs : List Shown) → All IsShownWithinLimits outputs → length outputs ≤ 16 → IsAtMost (canonical (display_body outputs)) 34000
display_size outputs all few = within 34000 (same_size (display_parts outputs)
    (both (known (123 ∷ [])) (both (first_name_size (known (codes "OutputResult"))) (both (known (91 ∷ []))
    (both (outputs_size outputs all few) (known (93 ∷ 125 ∷ []))))))) (lit≤ tt)
