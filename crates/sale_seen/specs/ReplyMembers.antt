-- The members of a reply: where each value is found.
use Rattle.std.specs.Prelude.{ℕ, List, ◌++◌, codes, Option, Some, None, option_map, bytes_eq, if◌then◌else◌}
use Rattle.std.specs.Option.{option_and_then}
use Rattle.json_text.specs.Tree.{Tree, get_of, numeral_of}
use Rattle.sale_msg.specs.Path.{text_at, tree_at}
use Rattle.sale_reply.specs.declared.reply.ReplyResult.{ReplyResult}
use Rattle.sale_reply.specs.declared.reply.ReplyResult.TheVariants.{Success, Partial, Failure}

-- the body of a reply of this category, beside its header
abbrev pub response_of : List ℕ → Tree → Option Tree
response_of category tree = get_of (category ++ codes "Response") tree

-- the body that has an outcome, and its category, which says where
pub record OutcomeValue : Type 0 where
  pub category : List ℕ
  pub body : Tree

-- a body of this category
abbrev pub outcome_of : List ℕ → Tree → OutcomeValue
outcome_of category body = record { category = category; body = body }

-- the body that a status repeats, of the category in the repeated header
abbrev pub repeated_in : Tree → Option OutcomeValue
repeated_in status = option_and_then
    (λ category. option_map (outcome_of category) (option_and_then (response_of category)
    (tree_at (codes "RepeatedMessageResponse.RepeatedResponseMessageBody") status)))
    (text_at (codes "RepeatedMessageResponse.MessageHeader.MessageCategory") status)

-- the outcome of a reply: its own body, but for a status the one that it repeats
abbrev pub outcome_in : List ℕ → Tree → Option OutcomeValue
outcome_in category body =
    if bytes_eq category (codes "TransactionStatus") then repeated_in body else Some (outcome_of category body)

-- what is a payment's or a reversal's, by the category; nothing of any other
abbrev pub by_category : {A : Type 0} → List ℕ → Option A → Option A → Option A
by_category category payment reversal =
    if bytes_eq category (codes "Payment") then payment
    else (if bytes_eq category (codes "Reversal") then reversal else None)

-- the text that identifies the transaction of a payment or a reversal
abbrev pub transaction_in : OutcomeValue → Option (List ℕ)
transaction_in outcome =
    let text = text_at (codes "POIData.POITransactionID.TransactionID") outcome.body in
    by_category outcome.category text text

-- the number that is the amount: what was paid, or what was reversed
abbrev pub amount_text_in : OutcomeValue → Option (List ℕ)
amount_text_in outcome = by_category outcome.category
    (option_and_then numeral_of (tree_at (codes "PaymentResult.AmountsResp.AuthorizedAmount") outcome.body))
    (option_and_then numeral_of (tree_at (codes "ReversedAmount") outcome.body))

-- the text that says why a reply failed; none where it didn't
abbrev pub condition_in : ReplyResult → Tree → Option (List ℕ)
condition_in Success body = None
condition_in Partial body = None
condition_in Failure body = text_at (codes "Response.ErrorCondition") body
