-- What each message to a till says.
use Rattle.std.proofs.Common.{◌≡◌, ℕ, Bool, true, false, List, [], ◌∷◌, ◌++◌, refl, ap, ◌∙◌}
use Rattle.std.specs.Prelude.{ℤ, Option, Some, None, unwrap_or, codes, is_some, bytes_eq, if◌then◌else◌}
use Rattle.std.specs.Option.{option_and_then, option_map}
use Rattle.gw_base.specs.declared.condition.Condition.{Condition}
use Rattle.gw_base.specs.declared.key.Key.{Key}
use Rattle.gw_base.specs.Condition.{name_of}
use Rattle.json_text.specs.Tree.{Tree, numeral_of}
use Rattle.sale_msg.specs.Path.{text_at, tree_at}
use Rattle.sale_values.specs.declared.header.Header.{Header}
use Rattle.sale_reply.specs.Names.{result_name, result_of, paid_result}
use Rattle.sale_reply.specs.Reply.{response_tree, message_tree, header_tree, result_tree, verdict_tree, plain_body, approved_body, result_body, status_body, repeated_message, diagnosis_body, display_body, print_body, device_request, display_request_body, print_request_body, event_tree}
use Rattle.sale_reply.specs.declared.reply.Detail.{Detail}
use Rattle.sale_reply.specs.declared.reply.GlobalStatus.{GlobalStatus}
use Rattle.sale_reply.specs.declared.reply.Shown.{Shown}
use Rattle.sale_reply.specs.declared.reply.Told.{Told as ResultBody}
use Rattle.sale_reply.specs.declared.reply.Told.TheVariants.{PaymentApproved, PaymentDeclined, ReversalApproved, ReversalDeclined, Reconciled}
use Rattle.sale_reply.specs.declared.reply.Verdict.{Verdict}
use Rattle.sale_seen.specs.ReplyMembers.{OutcomeValue, by_category, outcome_of, transaction_in, amount_text_in, repeated_in}
use Rattle.sale_values.specs.Money.{money_text}
use Rattle.sale_seen.specs.Expected.{expected_amount, expected_transaction}
use Rattle.sale_seen.proofs.BodyLemmas.{body_outcome, status_repeats}
use Rattle.sale_seen.proofs.HeaderLemmas.{bodied}
use Rattle.gw_owes.specs.Reply.{Plain, Finished, Repeated, Diagnosis, Display, Print, DisplayRequest, PrintRequest, Reject}
use Rattle.gw_books.specs.Said.{Said, text_in, said_under, said_of, all_said}
use Rattle.gw_books.specs.SaidLaws.{header_key, plain_said, finished_said, display_said, EachReplySays}

-- the header of the reply that is repeated in a body
abbrev repeated_header : OutcomeValue → Option Tree
repeated_header outcome = tree_at (codes "RepeatedMessageResponse.MessageHeader") outcome.body

-- the body that is repeated in one
abbrev repeated_body : OutcomeValue → Option OutcomeValue
repeated_body outcome = repeated_in outcome.body

-- what a body says under a header, and then what it repeats
parts : Header → Option OutcomeValue → List Said
parts header outcome = (said_of (Some (header_tree header)) outcome ++ said_of (option_and_then repeated_header outcome) (option_and_then repeated_body outcome)) ++ []

reply-said : (header : Header) (body : Tree)
    → all_said (response_tree header body) ≡ said_under (header_tree header) (outcome_of header.category body) ∷ (said_of (repeated_header (outcome_of header.category body)) (repeated_in body) ++ [])
unfolding message_tree header_tree tree_at parts
reply-said header body = ap (λ found. parts header (option_map (outcome_of header.category) found)) (bodied header body)

-- the key that a written header names
key-parts : (header : Header) (service device : Option (List ℕ)) (body : Tree)
    → (said_under (header_tree (record header { service = service; device = device })) (outcome_of header.category body)).key ≡ header_key (record header { service = service })
unfolding header_tree tree_at
key-parts header None None body = refl
key-parts header None (Some device) body = refl
key-parts header (Some service) None body = refl
key-parts header (Some service) (Some device) body = refl

key-said : (header : Header) (body : Tree) → (said_under (header_tree header) (outcome_of header.category body)).key ≡ header_key header
key-said header body = key-parts header header.service header.device body

-- what is said, by its parts
abbrev said_with : List ℕ → List ℕ → List ℕ → Bool → Key → Option (List ℕ) → Option (List ℕ) → Said
said_with category result condition has_poi_data key transaction amount = record {
  category = category;
  key = key;
  result = result;
  condition = condition;
  has_poi_data = has_poi_data;
  transaction = unwrap_or transaction [];
  amount = unwrap_or amount [];
}

said-same : (category result condition : List ℕ) (has_poi_data : Bool) (key other : Key) (transaction text amount units : Option (List ℕ)) → key ≡ other → transaction ≡ text → amount ≡ units
    → said_with category result condition has_poi_data key transaction amount ≡ said_with category result condition has_poi_data other text units
said-same category result condition has_poi_data key other transaction text amount units e f g =
    ap (λ k. said_with category result condition has_poi_data k transaction amount) e
    ∙ (ap (λ t. said_with category result condition has_poi_data other t amount) f ∙ ap (λ a. said_with category result condition has_poi_data other text a) g)

-- a result body under a header
finished-said : (header : Header) (result : ResultBody) → said_under (header_tree header) (outcome_of header.category (result_body result)) ≡ finished_said header result
unfolding tree_at result_body approved_body result_tree
finished-said header result = by_result result
  where
    same : (name condition : List ℕ) (has_poi_data : Bool) (result : ResultBody)
        → said_with header.category name condition has_poi_data (said_under (header_tree header) (outcome_of header.category (result_body result))).key (transaction_in (outcome_of header.category (result_body result))) (amount_text_in (outcome_of header.category (result_body result)))
        ≡ said_with header.category name condition has_poi_data (header_key header) (expected_transaction header.category result) (option_map money_text (expected_amount header.category result))
    same name condition has_poi_data result =
        let outcome = body_outcome header.category result in
        said-same header.category name condition has_poi_data _ _ _ _ _ _ (key-said header (result_body result)) outcome.transaction outcome.amount_text

    by_result : (result : ResultBody) → said_under (header_tree header) (outcome_of header.category (result_body result)) ≡ finished_said header result
    by_result (PaymentApproved transaction stamp mark requested paid) = same (result_name (paid_result requested paid.minor)) [] true (PaymentApproved transaction stamp mark requested paid)
    by_result (PaymentDeclined transaction stamp mark condition) = same (codes "Failure") (name_of condition) true (PaymentDeclined transaction stamp mark condition)
    by_result (ReversalApproved mark reversed) = same (codes "Success") [] true (ReversalApproved mark reversed)
    by_result (ReversalDeclined mark condition) = same (codes "Failure") (name_of condition) true (ReversalDeclined mark condition)
    by_result (Reconciled period currency debit reversed) = same (codes "Success") [] false (Reconciled period currency debit reversed)

-- ---- replies without a result body

-- a body without what a result body has, but for its result and its condition
record IsPlain (body : Tree) (result condition : List ℕ) : Type 0 where
  result_is : text_in (codes "Response.Result") body ≡ result
  condition_is : text_in (codes "Response.ErrorCondition") body ≡ condition
  poi_data : tree_at (codes "POIData") body ≡ None
  transaction : text_at (codes "POIData.POITransactionID.TransactionID") body ≡ None
  paid : tree_at (codes "PaymentResult.AmountsResp.AuthorizedAmount") body ≡ None
  reversed : tree_at (codes "ReversedAmount") body ≡ None

-- nothing of either is nothing
neither : {A : Type 0} (category : List ℕ) (payment reversal : Option A) → payment ≡ None → reversal ≡ None → by_category category payment reversal ≡ None
neither category payment reversal e f = by (bytes_eq category (codes "Payment")) (bytes_eq category (codes "Reversal"))
  where
    by : (p r : Bool) → (if p then payment else (if r then reversal else None)) ≡ None
    by true r = e
    by false true = f
    by false false = refl

plain-with : (header : Header) (body : Tree) (result condition : List ℕ) → IsPlain body result condition
    → said_under (header_tree header) (outcome_of header.category body) ≡ said_with header.category result condition false (header_key header) None None
plain-with header body result condition is =
    let key = (said_under (header_tree header) (outcome_of header.category body)).key in
    let outcome = outcome_of header.category body in
    let transaction : transaction_in outcome ≡ None = neither header.category _ _ is.transaction is.transaction in
    let amount : amount_text_in outcome ≡ None = neither header.category _ _ (ap (option_and_then numeral_of) is.paid) (ap (option_and_then numeral_of) is.reversed) in
    ap (λ r. said_with header.category r (text_in (codes "Response.ErrorCondition") body) (is_some (tree_at (codes "POIData") body)) key (transaction_in outcome) (amount_text_in outcome)) is.result_is
    ∙ (ap (λ c. said_with header.category result c (is_some (tree_at (codes "POIData") body)) key (transaction_in outcome) (amount_text_in outcome)) is.condition_is
    ∙ (ap (λ b. said_with header.category result condition (is_some b) key (transaction_in outcome) (amount_text_in outcome)) is.poi_data
    ∙ said-same header.category result condition false key (header_key header) (transaction_in outcome) None (amount_text_in outcome) None (key-said header body) transaction amount))

verdict-plain : (condition : Option Condition) (path : Option (List ℕ)) → IsPlain (plain_body (result_tree (result_of condition) condition path)) (result_name (result_of condition)) (unwrap_or (option_map name_of condition) [])
unfolding tree_at result_tree
verdict-plain None None = record { result_is = refl; condition_is = refl; poi_data = refl; transaction = refl; paid = refl; reversed = refl }
verdict-plain None (Some path) = record { result_is = refl; condition_is = refl; poi_data = refl; transaction = refl; paid = refl; reversed = refl }
verdict-plain (Some condition) None = record { result_is = refl; condition_is = refl; poi_data = refl; transaction = refl; paid = refl; reversed = refl }
verdict-plain (Some condition) (Some path) = record { result_is = refl; condition_is = refl; poi_data = refl; transaction = refl; paid = refl; reversed = refl }

print-plain : (qualifier : List ℕ) (condition : Option Condition) (path : Option (List ℕ))
    → IsPlain (print_body qualifier (record { condition = condition; path = path })) (result_name (result_of condition)) (unwrap_or (option_map name_of condition) [])
unfolding tree_at result_tree print_body
print-plain qualifier None None = record { result_is = refl; condition_is = refl; poi_data = refl; transaction = refl; paid = refl; reversed = refl }
print-plain qualifier None (Some path) = record { result_is = refl; condition_is = refl; poi_data = refl; transaction = refl; paid = refl; reversed = refl }
print-plain qualifier (Some condition) None = record { result_is = refl; condition_is = refl; poi_data = refl; transaction = refl; paid = refl; reversed = refl }
print-plain qualifier (Some condition) (Some path) = record { result_is = refl; condition_is = refl; poi_data = refl; transaction = refl; paid = refl; reversed = refl }

status-plain : (repeated : Header) (body : Tree) → IsPlain (status_body repeated body) (codes "Success") []
unfolding tree_at result_tree status_body
status-plain repeated body = record { result_is = refl; condition_is = refl; poi_data = refl; transaction = refl; paid = refl; reversed = refl }

diagnosis-plain : (status : GlobalStatus) → IsPlain (diagnosis_body status) (codes "Success") []
unfolding tree_at result_tree diagnosis_body
diagnosis-plain status = record { result_is = refl; condition_is = refl; poi_data = refl; transaction = refl; paid = refl; reversed = refl }

display-plain : (outputs : List Shown) → IsPlain (display_body outputs) [] []
unfolding tree_at display_body
display-plain outputs = record { result_is = refl; condition_is = refl; poi_data = refl; transaction = refl; paid = refl; reversed = refl }

-- ---- each reply

-- a reply that repeats none
alone : (header : Header) (body : Tree) (said : Said) → repeated_header (outcome_of header.category body) ≡ None → said_under (header_tree header) (outcome_of header.category body) ≡ said → all_said (response_tree header body) ≡ said ∷ []
alone header body said e f = reply-said header body ∙ (ap (λ found. said_under (header_tree header) (outcome_of header.category body) ∷ (said_of found (repeated_in body) ++ [])) e ∙ ap (λ one. one ∷ []) f)

result-alone : (category : List ℕ) (result : ResultBody) → repeated_header (outcome_of category (result_body result)) ≡ None
unfolding tree_at result_body approved_body
result-alone category (PaymentApproved transaction stamp mark requested paid) = refl
result-alone category (PaymentDeclined transaction stamp mark condition) = refl
result-alone category (ReversalApproved mark reversed) = refl
result-alone category (ReversalDeclined mark condition) = refl
result-alone category (Reconciled period currency debit reversed) = refl

print-alone : (category qualifier : List ℕ) (verdict : Verdict) → repeated_header (outcome_of category (print_body qualifier verdict)) ≡ None
unfolding tree_at print_body
print-alone category qualifier verdict = refl

diagnosis-alone : (category : List ℕ) (status : GlobalStatus) → repeated_header (outcome_of category (diagnosis_body status)) ≡ None
unfolding tree_at diagnosis_body
diagnosis-alone category status = refl

display-alone : (category : List ℕ) (outputs : List Shown) → repeated_header (outcome_of category (display_body outputs)) ≡ None
unfolding tree_at display_body
display-alone category outputs = refl

plain-alone : (category : List ℕ) (verdict : Tree) → repeated_header (outcome_of category (plain_body verdict)) ≡ None
unfolding tree_at
plain-alone category verdict = refl

status-repeats : (category : List ℕ) (repeated : Header) (body : Tree) → repeated_header (outcome_of category (status_body repeated body)) ≡ Some (header_tree repeated)
unfolding tree_at status_body repeated_message
status-repeats category repeated body = refl

repeated-said : (header repeated : Header) (result : ResultBody) → all_said (response_tree header (status_body repeated (result_body result))) ≡ plain_said header None ∷ finished_said repeated result ∷ []
repeated-said header repeated result =
    let body = status_body repeated (result_body result) in
    let first = said_under (header_tree header) (outcome_of header.category body) in
    reply-said header body
    ∙ (ap (λ found. first ∷ (said_of found (repeated_in body) ++ [])) (status-repeats header.category repeated (result_body result))
    ∙ (ap (λ found. first ∷ (said_of (Some (header_tree repeated)) found ++ [])) (status_repeats repeated (result_body result))
    ∙ (ap (λ one. first ∷ one ∷ []) (finished-said repeated result) ∙ ap (λ one. one ∷ finished_said repeated result ∷ []) (plain-with header body (codes "Success") [] (status-plain repeated (result_body result))))))

-- a device request and an event are no reply
requested : (header : Header) (body : Tree) → all_said (device_request header body) ≡ []
unfolding message_tree
requested header body = refl

no-reply : (sale poi : List ℕ) (moment : ℤ) (detail : Detail) → all_said (event_tree sale poi moment detail) ≡ []
unfolding message_tree
no-reply sale poi moment detail = refl

-- what each reply says
pub each-reply-says : EachReplySays
each-reply-says (Plain header verdict) =
    alone header (plain_body (verdict_tree verdict)) (plain_said header verdict.condition) (plain-alone header.category (verdict_tree verdict)) (plain-with header (plain_body (verdict_tree verdict)) _ _ (verdict-plain verdict.condition verdict.path))
each-reply-says (Finished header result) = alone header (result_body result) (finished_said header result) (result-alone header.category result) (finished-said header result)
each-reply-says (Repeated header repeated result) = repeated-said header repeated result
each-reply-says (Diagnosis header status) = alone header (diagnosis_body status) (plain_said header None) (diagnosis-alone header.category status) (plain-with header (diagnosis_body status) (codes "Success") [] (diagnosis-plain status))
each-reply-says (Display header outputs) = alone header (display_body outputs) (display_said header) (display-alone header.category outputs) (plain-with header (display_body outputs) [] [] (display-plain outputs))
each-reply-says (Print header qualifier verdict) =
    alone header (print_body qualifier verdict) (plain_said header verdict.condition) (print-alone header.category qualifier verdict) (plain-with header (print_body qualifier verdict) _ _ (print-plain qualifier verdict.condition verdict.path))
each-reply-says (DisplayRequest header code) = requested header (display_request_body code)
each-reply-says (PrintRequest header lines) = requested header (print_request_body lines)
each-reply-says (Reject sale poi moment detail) = no-reply sale poi moment detail
