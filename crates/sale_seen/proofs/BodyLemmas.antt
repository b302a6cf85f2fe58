-- What is read of the bodies of written replies.
use Rattle.std.proofs.Common.{◌≡◌, ℕ, ◌^◌, ◌<◌, List, ◌++◌, Option, Some, None, refl, sym, ap, ◌∙◌, codes, IfSome, bytes_eq, Bool, true, false, if◌then◌else◌, option_map, nat_le}
use Rattle.std.specs.Option.{option_and_then}
use Rattle.gw_base.specs.Condition.{name_of}
use Rattle.gw_base.specs.declared.condition.Condition.{Condition}
use Rattle.json_text.specs.Tree.{Tree, numeral_of}
use Rattle.sale_values.specs.Money.{money_text}
use Rattle.sale_values.specs.declared.header.Header.{Header}
use Rattle.sale_msg.specs.Path.{text_at, tree_at}
use Rattle.sale_reply.specs.Limits.{IsToldWithinLimits}
use Rattle.sale_reply.specs.Names.{result_name, result_of}
use Rattle.sale_reply.specs.Reply.{approved_body, diagnosis_body, header_tree, payment_result, plain_body, poi_data, print_body, repeated_message, result_tree, sale_data, status_body, result_body}
use Rattle.sale_reply.specs.declared.reply.GlobalStatus.{GlobalStatus}
use Rattle.sale_reply.specs.declared.reply.ReplyResult.{ReplyResult}
use Rattle.sale_reply.specs.declared.reply.ReplyResult.TheVariants as results
use Rattle.sale_reply.specs.declared.reply.Told.{Told}
use Rattle.sale_reply.specs.declared.reply.Told.TheVariants.{PaymentApproved, PaymentDeclined, ReversalApproved, ReversalDeclined, Reconciled}
use Rattle.sale_reply.specs.declared.reply.Verdict.{Verdict}
use Rattle.sale_seen.specs.ReplyMembers.{OutcomeValue, amount_text_in, by_category, condition_in, outcome_in, outcome_of, repeated_in, transaction_in}
use Rattle.sale_seen.specs.Transaction.{IsTransactionIdentifier}
use Rattle.sale_seen.specs.Grammar.{FindsMember, NamesCondition, IsAmountMember, IsTransactionText}
use Rattle.sale_seen.specs.Expected.{expected_condition, expected_amount, expected_result, expected_transaction, paid_units, reversed_units, text_of_outcome}
use Rattle.sale_seen.proofs.NameLemmas.{same_eq}
use Rattle.sale_seen.proofs.TransactionLemmas.{transaction_is}

-- ---- what is found

no_condition : FindsMember (NamesCondition None) None
no_condition = λ c named. let nothing : Option (List ℕ) = None in let f : nothing ≡ Some (name_of c) = named in absurd cc

finds_condition : (condition : Option Condition) (body : Tree) → text_at (codes "Response.ErrorCondition") body ≡ option_map name_of condition
    → FindsMember (NamesCondition (condition_in (result_of condition) body)) condition
finds_condition None body e = no_condition
finds_condition (Some c) body e = e

-- a payment that was made has no condition
paid_condition : (whole : Bool) (body : Tree) → FindsMember (NamesCondition (condition_in (if whole then results.Success else results.Partial) body)) None
paid_condition true body = no_condition
paid_condition false body = no_condition

pub finds_transaction : (text transaction : Option (List ℕ)) → text ≡ transaction → IfSome transaction IsTransactionIdentifier → FindsMember (IsTransactionText text) transaction
finds_transaction text None e h = λ t named. let nothing : Option (List ℕ) = None in let f : nothing ≡ Some t = sym e ∙ named.0 in absurd cc
finds_transaction text (Some t) e h = (e, h)

pub finds_units : (numeral : Option (List ℕ)) (units : Option ℕ) → numeral ≡ option_map money_text units → IfSome units (λ m. m < 2 ^ 64) → FindsMember (IsAmountMember numeral) units
finds_units numeral None e h = λ m named. let nothing : Option (List ℕ) = None in let f : nothing ≡ Some (money_text m) = sym e ∙ named.0 in absurd cc
finds_units numeral (Some m) e h = (e, h)

-- a body has this result and condition
pub record HasResult (body : Tree) (outcome : ReplyResult) (why : Option Condition) : Type 0 where
  pub result : text_at (codes "Response.Result") body ≡ Some (result_name outcome)
  pub condition : FindsMember (NamesCondition (condition_in outcome body)) why

-- a body has no outcome, and repeats none
pub record IsAlone (body : Tree) : Type 0 where
  pub repeated : repeated_in body ≡ None
  pub transaction : text_at (codes "POIData.POITransactionID.TransactionID") body ≡ None
  pub paid : tree_at (codes "PaymentResult.AmountsResp.AuthorizedAmount") body ≡ None
  pub reversed : tree_at (codes "ReversedAmount") body ≡ None

-- a body of this category has this outcome
pub record HasOutcome (outcome : OutcomeValue) (told : Told) : Type 0 where
  pub transaction : transaction_in outcome ≡ expected_transaction outcome.category told
  pub amount_text : amount_text_in outcome ≡ option_map money_text (expected_amount outcome.category told)

-- ---- by category

-- nothing of either is nothing
neither : {A : Type 0} (category : List ℕ) (payment reversal : Option A) → payment ≡ None → reversal ≡ None → by_category category payment reversal ≡ None
neither category payment reversal e f = by (bytes_eq category (codes "Payment")) (bytes_eq category (codes "Reversal"))
  where
    by : (p r : Bool) → (if p then payment else (if r then reversal else None)) ≡ None
    by true r = e
    by false true = f
    by false false = refl

-- what is written of both is written of the one by the category
either : {A B : Type 0} (write : A → B) (category : List ℕ) (payment reversal : Option A) (paid reversed : Option B)
    → paid ≡ option_map write payment → reversed ≡ option_map write reversal
    → by_category category paid reversed ≡ option_map write (by_category category payment reversal)
either write category payment reversal paid reversed e f = by (bytes_eq category (codes "Payment")) (bytes_eq category (codes "Reversal"))
  where
    by : (p r : Bool) → (if p then paid else (if r then reversed else None)) ≡ option_map write (if p then payment else (if r then reversal else None))
    by true r = e
    by false true = f
    by false false = refl

-- what fits both fits the one by the category
fits_either : {A : Type 0} (Fits : A → Type 0) (category : List ℕ) (payment reversal : Option A) → IfSome payment Fits → IfSome reversal Fits
    → IfSome (by_category category payment reversal) Fits
fits_either Fits category payment reversal h k = by (bytes_eq category (codes "Payment")) (bytes_eq category (codes "Reversal"))
  where
    by : (p r : Bool) → IfSome (if p then payment else (if r then reversal else None)) Fits
    by true r = h
    by false true = k
    by false false = tt

-- ---- members

alone : {A : Type 0} (read : OutcomeValue → Option A) (category : List ℕ) (body : Tree) → repeated_in body ≡ None → read (outcome_of category body) ≡ None
    → option_and_then read (outcome_in category body) ≡ None
alone read category body repeated own = by (bytes_eq category (codes "TransactionStatus"))
  where
    by : (b : Bool) → option_and_then read (if b then repeated_in body else Some (outcome_of category body)) ≡ None
    by true = ap (option_and_then read) repeated
    by false = own

pub alone_transaction : (category : List ℕ) (body : Tree) → IsAlone body → option_and_then transaction_in (outcome_in category body) ≡ None
alone_transaction category body own =
    let text = text_at (codes "POIData.POITransactionID.TransactionID") body in
    alone transaction_in category body own.repeated (neither category text text own.transaction own.transaction)

pub alone_amount : (category : List ℕ) (body : Tree) → IsAlone body → option_and_then amount_text_in (outcome_in category body) ≡ None
alone_amount category body own =
    alone amount_text_in category body own.repeated
    (neither category (option_and_then numeral_of (tree_at (codes "PaymentResult.AmountsResp.AuthorizedAmount") body))
    (option_and_then numeral_of (tree_at (codes "ReversedAmount") body)) (ap (option_and_then numeral_of) own.paid) (ap (option_and_then numeral_of) own.reversed))

-- ---- results

result_condition : (outcome : ReplyResult) (condition : Option Condition) (path : Option (List ℕ))
    → text_at (codes "ErrorCondition") (result_tree outcome condition path) ≡ option_map name_of condition
unfolding tree_at result_tree
result_condition outcome None None = refl
result_condition outcome None (Some path) = refl
result_condition outcome (Some c) path = refl

result_first : (outcome : ReplyResult) (condition : Option Condition) (path : Option (List ℕ))
    → text_at (codes "Result") (result_tree outcome condition path) ≡ Some (result_name outcome)
unfolding tree_at result_tree
result_first outcome condition path = refl

-- ---- bodies

pub plain_shows : (condition : Option Condition) (path : Option (List ℕ))
    → HasResult (plain_body (result_tree (result_of condition) condition path)) (result_of condition) condition
unfolding tree_at
plain_shows condition path = record {
  result = result_first (result_of condition) condition path;
  condition = finds_condition condition (plain_body (result_tree (result_of condition) condition path)) (result_condition (result_of condition) condition path);
}

pub plain_alone : (outcome : Tree) → IsAlone (plain_body outcome)
unfolding tree_at
plain_alone outcome = record { repeated = refl; transaction = refl; paid = refl; reversed = refl }

pub diagnosis_shows : (status : GlobalStatus) → HasResult (diagnosis_body status) results.Success None
unfolding tree_at diagnosis_body result_tree
diagnosis_shows status = record { result = refl; condition = no_condition }

pub diagnosis_alone : (status : GlobalStatus) → IsAlone (diagnosis_body status)
unfolding tree_at diagnosis_body
diagnosis_alone status = record { repeated = refl; transaction = refl; paid = refl; reversed = refl }

pub print_shows : (qualifier : List ℕ) (verdict : Verdict) → HasResult (print_body qualifier verdict) (result_of verdict.condition) verdict.condition
unfolding tree_at print_body
print_shows qualifier verdict = record {
  result = result_first (result_of verdict.condition) verdict.condition verdict.path;
  condition = finds_condition verdict.condition (print_body qualifier verdict) (result_condition (result_of verdict.condition) verdict.condition verdict.path);
}

pub print_alone : (qualifier : List ℕ) (verdict : Verdict) → IsAlone (print_body qualifier verdict)
unfolding tree_at print_body
print_alone qualifier verdict = record { repeated = refl; transaction = refl; paid = refl; reversed = refl }

pub status_shows : (repeated : Header) (body : Tree) → HasResult (status_body repeated body) results.Success None
unfolding tree_at status_body result_tree
status_shows repeated body = record { result = refl; condition = no_condition }

-- a status repeats its body
pub status_repeats : (repeated : Header) (body : Tree) → repeated_in (status_body repeated body) ≡ Some (outcome_of repeated.category body)
unfolding tree_at status_body repeated_message header_tree
status_repeats repeated body = rw (same_eq (repeated.category ++ codes "Response")) refl

pub body_shows : (told : Told) → HasResult (result_body told) (expected_result told) (expected_condition told)
unfolding tree_at result_body approved_body result_tree
body_shows (PaymentApproved transaction stamp mark requested paid) = record {
  result = refl;
  condition = paid_condition (nat_le requested paid.minor) (result_body (PaymentApproved transaction stamp mark requested paid));
}
body_shows (PaymentDeclined transaction stamp mark condition) = record { result = refl; condition = refl }
body_shows (ReversalApproved mark reversed) = record { result = refl; condition = no_condition }
body_shows (ReversalDeclined mark condition) = record { result = refl; condition = refl }
body_shows (Reconciled period currency debit reversed) = record { result = refl; condition = no_condition }

body_text : (told : Told) → text_at (codes "POIData.POITransactionID.TransactionID") (result_body told) ≡ text_of_outcome told
unfolding tree_at result_body approved_body poi_data
body_text (PaymentApproved transaction stamp mark requested paid) = refl
body_text (PaymentDeclined transaction stamp mark condition) = refl
body_text (ReversalApproved mark reversed) = refl
body_text (ReversalDeclined mark condition) = refl
body_text (Reconciled period currency debit reversed) = refl

body_paid : (told : Told) → option_and_then numeral_of (tree_at (codes "PaymentResult.AmountsResp.AuthorizedAmount") (result_body told))
    ≡ option_map money_text (paid_units told)
unfolding tree_at result_body approved_body payment_result
body_paid (PaymentApproved transaction stamp mark requested paid) = refl
body_paid (PaymentDeclined transaction stamp mark condition) = refl
body_paid (ReversalApproved mark reversed) = refl
body_paid (ReversalDeclined mark condition) = refl
body_paid (Reconciled period currency debit reversed) = refl

body_reversed : (told : Told) → option_and_then numeral_of (tree_at (codes "ReversedAmount") (result_body told)) ≡ option_map money_text (reversed_units told)
unfolding tree_at result_body approved_body
body_reversed (PaymentApproved transaction stamp mark requested paid) = refl
body_reversed (PaymentDeclined transaction stamp mark condition) = refl
body_reversed (ReversalApproved mark reversed) = refl
body_reversed (ReversalDeclined mark condition) = refl
body_reversed (Reconciled period currency debit reversed) = refl

pub body_outcome : (category : List ℕ) (told : Told) → HasOutcome (outcome_of category (result_body told)) told
body_outcome category told = record {
  transaction = ap (λ text. by_category category text text) (body_text told);
  amount_text = either money_text category (paid_units told) (reversed_units told)
      (option_and_then numeral_of (tree_at (codes "PaymentResult.AmountsResp.AuthorizedAmount") (result_body told)))
      (option_and_then numeral_of (tree_at (codes "ReversedAmount") (result_body told))) (body_paid told) (body_reversed told);
}

-- ---- what an outcome is identified by, and its amount

text_fits : (told : Told) → IsToldWithinLimits told → IfSome (text_of_outcome told) IsTransactionIdentifier
text_fits (PaymentApproved transaction stamp mark requested paid) h = transaction_is mark.number mark.receipt mark.slot h.2.slot_fits
text_fits (PaymentDeclined transaction stamp mark condition) h = transaction_is 0 0 mark.slot h.2.slot_fits
text_fits (ReversalApproved mark reversed) h = transaction_is mark.number mark.receipt mark.slot h.0.slot_fits
text_fits (ReversalDeclined mark condition) h = transaction_is 0 0 mark.slot h.slot_fits
text_fits (Reconciled period currency debit reversed) h = tt

pub transaction_fits : (category : List ℕ) (told : Told) → IsToldWithinLimits told → IfSome (expected_transaction category told) IsTransactionIdentifier
transaction_fits category told h =
    fits_either IsTransactionIdentifier category (text_of_outcome told) (text_of_outcome told) (text_fits told h) (text_fits told h)

paid_fits : (told : Told) → IsToldWithinLimits told → IfSome (paid_units told) (λ m. m < 2 ^ 64)
paid_fits (PaymentApproved transaction stamp mark requested paid) h = h.3
paid_fits (PaymentDeclined transaction stamp mark condition) h = tt
paid_fits (ReversalApproved mark reversed) h = tt
paid_fits (ReversalDeclined mark condition) h = tt
paid_fits (Reconciled period currency debit reversed) h = tt

reversed_fits : (told : Told) → IsToldWithinLimits told → IfSome (reversed_units told) (λ m. m < 2 ^ 64)
reversed_fits (PaymentApproved transaction stamp mark requested paid) h = tt
reversed_fits (PaymentDeclined transaction stamp mark condition) h = tt
reversed_fits (ReversalApproved mark reversed) h = h.1
reversed_fits (ReversalDeclined mark condition) h = tt
reversed_fits (Reconciled period currency debit reversed) h = tt

pub units_fit : (category : List ℕ) (told : Told) → IsToldWithinLimits told → IfSome (expected_amount category told) (λ m. m < 2 ^ 64)
units_fit category told h =
    fits_either (λ m. m < 2 ^ 64) category (paid_units told) (reversed_units told) (paid_fits told h) (reversed_fits told h)
