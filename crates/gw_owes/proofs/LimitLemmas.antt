-- What a till's request asks for lies within the limits of a record, where it was read.
use Rattle.std.proofs.Common.{◌≡◌, ◌∙◌, ℕ, ◌^◌, ◌<◌, ◌≤◌, Bool, true, false, ◌&&◌, eqb, leb, List, [], ◌∷◌, refl, sym, ap, subst, arith}
use Rattle.std.specs.Prelude.{◌==◌, Option, Some, None, IfSome, MatchOption, if◌then◌else◌, option_and_then, option_map, drop, codes, pos, unwrap_or}
use Rattle.std.specs.List.{list_all}
use Rattle.std.proofs.lemmas.Bool.{and_parts, leb-true}
use Rattle.std.proofs.lemmas.Option.{same_Some}
use Rattle.gw_base.specs.Amount.{fraction_of, is_amount, is_whole, minor_units, minor_units_of, minor_units_with, rest_of, whole_of}
use Rattle.gw_base.specs.declared.condition.Condition.{Condition}
use Rattle.gw_base.specs.declared.condition.Condition.TheVariants.{Aborted}
use Rattle.gw_base.specs.declared.currency.Currency.{Currency}
use Rattle.gw_base.specs.declared.figures.Figures.{Figures}
use Rattle.gw_base.specs.declared.key.Key.{Key}
use Rattle.gw_base.specs.Ident.{IsIdent}
use Rattle.gw_base.specs.Limits.{IsAmount, IsTrace}
use Rattle.gw_base.specs.Moment.{IsMoment}
use Rattle.json_text.specs.Tree.{Tree, string_of}
use Rattle.sale_values.specs.declared.header.Header.{Header}
use Rattle.sale_values.specs.declared.names.Period.{Period}
use Rattle.sale_values.specs.declared.request.PaymentAsk.{PaymentAsk}
use Rattle.sale_values.specs.declared.request.ReversalAsk.{ReversalAsk}
use Rattle.sale_values.specs.declared.request.SaleRequest.TheVariants as requests
use Rattle.sale_msg.specs.Flaw.{IsMet, MayBeAbsent}
use Rattle.sale_msg.specs.Form.{HasForm}
use Rattle.sale_msg.specs.Grammar.{IsRequest, IsRequestOf}
use Rattle.sale_msg.specs.Path.{text_at, tree_at}
use Rattle.sale_msg.specs.Table.{MemberRow, service_row}
use Rattle.sale_reply.specs.Limits.{IsHeaderWithinLimits}
use Rattle.jrn_record.specs.Limits.{IsIntent, IsOutcome, IsPresentAs, IsSettled, reason_code}
use Rattle.jrn_record.specs.declared.records.How.{How}
use Rattle.jrn_record.specs.declared.records.Outcome.{Outcome as TheOutcome}
use Rattle.zvt_talk.specs.Limits.{FiguresFitRecord}
use Rattle.gw_ledger.specs.declared.entry.Entry.{Entry as TheEntry}
use Rattle.gw_ledger.specs.Keys.{settled_key}
use Rattle.gw_ledger.specs.Laws.{IsEntryWithin}
use Rattle.xlate.specs.Ask.{IsApproval}
use Rattle.xlate.specs.Codes.{CodeRow, abort_result_code, code_rows, condition_in_rows, condition_of_code}
use Rattle.gw_owes.specs.KeptReplies.{own_key}
use Rattle.gw_owes.specs.Payments.{payment_intent}
use Rattle.gw_owes.specs.ReadAs.{Request}
use Rattle.gw_owes.specs.Reconciliations.{settled_of}
use Rattle.gw_owes.specs.RecordLaws.{IsReadFromTill}
use Rattle.gw_owes.specs.Reversals.{amount_in, reversal_intent}
use Rattle.gw_owes.specs.Serving.{approved_outcome, declined_outcome, refused_outcome}
use Rattle.gw_owes.proofs.HeardLemmas.{of-both}

-- ---- texts and amounts of a tree

-- the tree has a text, which is an identifier
abbrev pub HasIdent : ℕ → Tree → Type 0
HasIdent most tree = MatchOption (string_of tree) ⊥ (IsIdent most)

text-is : (most : ℕ) (found : Option (List ℕ)) (text : List ℕ) → MatchOption found ⊥ (IsIdent most) → found ≡ Some text → IsIdent most text
text-is most None text met is = absurd met
text-is most (Some other) text met is = subst (IsIdent most) (same_Some other text is) met

tree-is : (most : ℕ) (absent : Type 0) (found : Option Tree) (text : List ℕ) → MatchOption found absent (HasIdent most) → option_and_then string_of found ≡ Some text → IsIdent most text
tree-is most absent None text met is = absurd cc
tree-is most absent (Some tree) text met is = text-is most (string_of tree) text met is

form-weaker : (found : Option Tree) (absent : Type 0) (P Q : Tree → Type 0) → ((tree : Tree) → P tree → Q tree) → MatchOption found absent P → MatchOption found absent Q
form-weaker None absent P Q weaker met = met
form-weaker (Some tree) absent P Q weaker met = weaker tree met

-- the text of a member that is an identifier by its row, where that is met
pub ident-at : (row : MemberRow) (most : ℕ) (body : Tree) (text : List ℕ) → ((tree : Tree) → HasForm row.form tree → HasIdent most tree) → IsMet row body → text_at row.within body ≡ Some text → IsIdent most text
unfolding IsMet
ident-at row most body text form met is =
    tree-is most (MayBeAbsent row.presence body) (tree_at row.within body) text (form-weaker (tree_at row.within body) (MayBeAbsent row.presence body) (HasForm row.form) (HasIdent most) form met) is

-- a text that is an identifier
pub record IsTextThere (most : ℕ) (found : Option (List ℕ)) : Type 0 where
  pub text : List ℕ
  pub is : found ≡ Some text
  pub ident : IsIdent most text

text-there : (most : ℕ) (found : Option (List ℕ)) → MatchOption found ⊥ (IsIdent most) → IsTextThere most found
text-there most None met = absurd met
text-there most (Some text) met = record { text = text; is = refl; ident = met }

tree-there : (most : ℕ) (found : Option Tree) → MatchOption found ⊥ (HasIdent most) → IsTextThere most (option_and_then string_of found)
tree-there most None met = absurd met
tree-there most (Some tree) met = text-there most (string_of tree) met

-- the ServiceID is there
pub service-there : (body : Tree) → IsMet service_row body → IsTextThere 10 (text_at (codes "MessageHeader.ServiceID") body)
unfolding IsMet
service-there body met = tree-there 10 (tree_at (codes "MessageHeader.ServiceID") body) met

amount-with : (whole : List ℕ) (fraction : Option (List ℕ)) (units : ℕ) → minor_units_with whole fraction ≡ Some units → IsAmount units
amount-with whole None units is = absurd cc
amount-with whole (Some fraction) units is = by-test (is_whole whole && list_all (λ digit. digit == 0x30) (drop 2 fraction) && is_amount (minor_units_of whole fraction)) refl is
  where
    by-test : (b : Bool) → (is_whole whole && list_all (λ digit. digit == 0x30) (drop 2 fraction) && is_amount (minor_units_of whole fraction)) ≡ b
        → (if b then Some (minor_units_of whole fraction) else None) ≡ Some units → IsAmount units
    by-test false fails there = absurd cc
    by-test true passes there =
        let last = and_parts (is_whole whole && list_all (λ digit. digit == 0x30) (drop 2 fraction)) (is_amount (minor_units_of whole fraction)) passes in
        let ends = and_parts (leb 1 (minor_units_of whole fraction)) (leb (minor_units_of whole fraction) 999999999999) last.1 in
        subst IsAmount (same_Some (minor_units_of whole fraction) units there) (leb-true 1 (minor_units_of whole fraction) ends.0, leb-true (minor_units_of whole fraction) 999999999999 ends.1)

amount-of : (text : List ℕ) (units : ℕ) → minor_units text ≡ Some units → IsAmount units
unfolding minor_units
amount-of text units is = amount-with (whole_of text) (fraction_of (rest_of text)) units is

amount-read : (numeral : Option (List ℕ)) (units : ℕ) → option_and_then minor_units numeral ≡ Some units → IsAmount units
amount-read None units is = absurd cc
amount-read (Some numeral) units is = amount-of numeral units is

-- ---- a request

-- the texts of a request's header, which has a ServiceID, lie within the limits of an Intent's
pub record IsHeaderWithin (header : Header) : Type 0 where
  pub service : List ℕ
  pub service_is : header.service ≡ Some service
  pub service_within : IsIdent 10 service
  pub sale : IsIdent 40 header.sale
  pub poi : IsIdent 40 header.poi

header-of : (message body : Tree) (header : Header) → IsRequestOf message body header → IsMet service_row body → IsHeaderWithin header
header-of message body header request met =
    let values = request.header_is.values in
    let members = request.header_is.members in
    let service = service-there body met in
    record {
      service = service.text;
      service_is = sym values.service ∙ service.is;
      service_within = service.ident;
      sale = ident-at _ 40 body header.sale (λ tree form. form) members.1.1.1.1.1.1.1.0 values.sale;
      poi = ident-at _ 40 body header.poi (λ tree form. form) members.1.1.1.1.1.1.1.1.0 values.poi;
    }

-- the ServiceID that an Intent has
service-within : (header : Header) → IsHeaderWithin header → IsIdent 10 (unwrap_or header.service [])
service-within header within = subst (λ (s : Option (List ℕ)). IsIdent 10 (unwrap_or s [])) (sym within.service_is) within.service_within

-- ---- a Payment

-- the fields of a Payment lie within the limits of an Intent's
pub record IsPaymentWithin (header : Header) (payment : PaymentAsk) : Type 0 where
  pub heading : IsHeaderWithin header
  pub transaction : IsIdent 80 payment.transaction
  pub stamp : IsIdent 35 payment.stamp
  pub amount : IsAmount payment.amount

payment-of : (message body : Tree) (header : Header) (payment : PaymentAsk) → IsRequest message body header (requests.Payment payment) → IsPaymentWithin header payment
payment-of message body header payment request =
    let met = request.members.members in
    record {
      heading = header-of message body header request.request_of met.0;
      transaction = ident-at _ 80 body payment.transaction (λ tree form. form) met.1.1.1.1.0 request.asks.transaction;
      stamp = ident-at _ 35 body payment.stamp (λ tree form. form) met.1.1.1.1.1.0 request.asks.stamp;
      amount = amount-read _ payment.amount request.asks.amount;
    }

-- so they do where it was read
pub payment-within : (header : Header) (payment : PaymentAsk) → IsReadFromTill (Request header (requests.Payment payment)) → IsPaymentWithin header payment
payment-within header payment read =
    let message = read.1 in
    let request = message.read in
    payment-of message.tree request.0 header payment request.1

-- and the Intent does
pub intent-within : (header : Header) (payment : PaymentAsk) (currency : Currency) (last moment : ℕ) → IsPaymentWithin header payment → IsTrace last → IsMoment (pos moment)
    → IsIntent (payment_intent header payment currency last moment)
intent-within header payment currency last moment within trace at = record {
  sale = within.heading.sale;
  poi = within.heading.poi;
  service = service-within header within.heading;
  transaction = within.transaction;
  stamp = within.stamp;
  amount = within.amount;
  before = trace;
  original = tt;
  moment = at;
}

-- ---- a Reversal

-- the header of a Reversal that was read lies within its limits
pub reversal-within : (header : Header) (reversal : ReversalAsk) → IsReadFromTill (Request header (requests.Reversal reversal)) → IsHeaderWithin header
reversal-within header reversal read =
    let message = read.1 in
    let request = message.read in
    let asked = request.1 in
    header-of message.tree request.0 header asked.request_of asked.members.members.0

-- the amount of an approval lies within its limits
approved-amount : (result : Option TheOutcome) → IfSome result IsOutcome → IsApproval result → IsAmount (amount_in result)
approved-amount None within approved = absurd approved
approved-amount (Some outcome) within approved = subst (λ (b : Bool). IsPresentAs b IsAmount outcome.amount) approved within.amount

-- and so does the Intent of a reversal of an entry that is approved
pub reversal-intent-within : (header : Header) (original : TheEntry) (last moment : ℕ) → IsHeaderWithin header → IsEntryWithin original → IsApproval original.result → original.slot < 2 ^ 32 → IsTrace last → IsMoment (pos moment)
    → IsIntent (reversal_intent header original last moment)
reversal-intent-within header original last moment within entry approved small trace at = record {
  sale = within.sale;
  poi = within.poi;
  service = service-within header within;
  transaction = tt;
  stamp = tt;
  amount = approved-amount original.result entry.result approved;
  before = trace;
  original = small;
  moment = at;
}

-- ---- a Reconciliation

-- the header of a Reconciliation that was read lies within its limits
pub reconciliation-within : (header : Header) (period : Period) → IsReadFromTill (Request header (requests.Reconciliation period)) → IsHeaderWithin header
reconciliation-within header period read =
    let message = read.1 in
    let request = message.read in
    let asked = request.1 in
    header-of message.tree request.0 header asked.request_of asked.members.members.0

-- a header within the limits of a reply that has a key lies within those of a record
pub keyed-within : (header : Header) (key : Key) → IsHeaderWithinLimits header → own_key header ≡ Some key → IsHeaderWithin header
keyed-within header key within is = by-service header.service refl is within.service
  where
    by-service : (service : Option (List ℕ)) → header.service ≡ service → option_map (λ (s : List ℕ). record { sale = header.sale; poi = header.poi; service = s }) service ≡ Some key → IfSome service (λ (id : List ℕ). IsIdent 10 id)
        → IsHeaderWithin header
    by-service None there none ident = absurd cc
    by-service (Some service) there same ident = record { service = service; service_is = there; service_within = ident; sale = within.sale; poi = within.poi }

-- the Settled of a reconciliation does, too
pub settled-within : (how : How) (header : Header) (currency : Currency) (moment : ℕ) → IsHeaderWithin header → IsMoment (pos moment) → IsSettled (settled_of how header currency moment)
settled-within how header currency moment within at = record { sale = within.sale; poi = within.poi; service = service-within header within; moment = at }

-- and has the key of its request
pub settled-key-is : (how : How) (header : Header) (currency : Currency) (moment : ℕ) (key : Key) → own_key header ≡ Some key → settled_key (settled_of how header currency moment) ≡ key
settled-key-is how header currency moment key is = by-service header.service is
  where
    by-service : (service : Option (List ℕ)) → option_map (λ (s : List ℕ). record { sale = header.sale; poi = header.poi; service = s }) service ≡ Some key → record { sale = header.sale; poi = header.poi; service = unwrap_or service [] } ≡ key
    by-service None none = absurd cc
    by-service (Some service) same = same_Some (record { sale = header.sale; poi = header.poi; service = service }) key same

-- ---- the key of a request

-- a header with a ServiceID has one
pub own-key-is : (header : Header) (within : IsHeaderWithin header) → own_key header ≡ Some (record { sale = header.sale; poi = header.poi; service = within.service })
own-key-is header within = ap (option_map (λ (service : List ℕ). record { sale = header.sale; poi = header.poi; service = service })) within.service_is

-- ---- an Outcome

-- an approval with figures that fit
pub approval-within : (slot : ℕ) (figures : Figures) (moment : ℕ) → slot < 2 ^ 32 → FiguresFitRecord figures → IsMoment (pos moment) → IsOutcome (approved_outcome slot figures moment)
approval-within slot figures moment small fit at = record {
  slot = small;
  number = (fit.first_trace, fit.trace);
  receipt = (omega arith, fit.receipt);
  amount = fit.amount;
  condition = tt;
  moment = at;
}

-- each code has a condition that a refusal can have
reason-of : (result_code : ℕ) (stop_sent : Bool) → 1 ≤ reason_code (condition_of_code result_code stop_sent)
reason-of result_code stop_sent = of-both IsReason (eqb result_code abort_result_code && stop_sent) Aborted (condition_in_rows code_rows result_code) (omega arith) (in-rows code_rows each)
  where
    IsReason : Condition → Type 0
    IsReason condition = 1 ≤ reason_code condition

    EachReason : List CodeRow → Type 0
    EachReason [] = Unit {0}
    EachReason (row ∷ rows) = IsReason row.condition × EachReason rows

    each : EachReason code_rows
    each = (omega arith, (omega arith, (omega arith, (omega arith, (omega arith, (omega arith, (omega arith, tt)))))))

    in-rows : (rows : List CodeRow) → EachReason rows → IsReason (condition_in_rows rows result_code)
    in-rows [] reasons = omega arith
    in-rows (row ∷ rows) reasons = of-both IsReason (eqb row.result_code result_code) row.condition (condition_in_rows rows result_code) reasons.0 (in-rows rows reasons.1)

-- a refusal for a reason that it can have
pub refusal-within : (slot : ℕ) (condition : Condition) (moment : ℕ) → slot < 2 ^ 32 → 1 ≤ reason_code condition → IsMoment (pos moment) → IsOutcome (refused_outcome slot condition moment)
refusal-within slot condition moment small reason at = record {
  slot = small;
  number = refl;
  receipt = refl;
  amount = refl;
  condition = reason;
  moment = at;
}

-- a decline
pub decline-within : (slot result_code : ℕ) (stop_sent : Bool) (moment : ℕ) → slot < 2 ^ 32 → IsMoment (pos moment) → IsOutcome (declined_outcome slot result_code stop_sent moment)
decline-within slot result_code stop_sent moment small at = refusal-within slot (condition_of_code result_code stop_sent) moment small (reason-of result_code stop_sent) at
