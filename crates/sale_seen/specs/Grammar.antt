-- The relation of a reply's tree and what a till reads of it.
use Rattle.std.specs.Prelude.{◌≡◌, ℕ, ◌^◌, ◌<◌, List, codes, Option, Some, None, option_map}
use Rattle.std.specs.Option.{option_and_then}
use Rattle.gw_base.specs.Condition.{name_of}
use Rattle.gw_base.specs.declared.condition.Condition.{Condition}
use Rattle.json_text.specs.Tree.{Tree}
use Rattle.sale_values.specs.Money.{money_text}
use Rattle.sale_values.specs.declared.header.Header.{Header}
use Rattle.sale_msg.specs.Grammar.{IsHeaded}
use Rattle.sale_msg.specs.Path.{text_at}
use Rattle.sale_msg.specs.declared.table.Envelope.{Envelope}
use Rattle.sale_reply.specs.Names.{result_name}
use Rattle.sale_reply.specs.declared.reply.ReplyResult.{ReplyResult}
use Rattle.sale_seen.specs.ReplyMembers.{amount_text_in, condition_in, outcome_in, response_of, transaction_in}
use Rattle.sale_seen.specs.Transaction.{IsTransactionIdentifier}
use Rattle.sale_seen.specs.declared.reply.ReplySeen.{ReplySeen}

-- what is read of a reply
pub record ReadReply : Type 0 where
  pub category : List ℕ
  pub result : ReplyResult
  pub condition : Option Condition
  pub transaction : Option (List ℕ)
  pub minor : Option ℕ

-- the program's value, its text a list
abbrev pub read_reply_value : ReplySeen → ReadReply
read_reply_value seen = record {
  category = seen.category;
  result = seen.result;
  condition = seen.condition;
  transaction = option_map (λ text. text.items) seen.transaction;
  minor = seen.minor;
}

-- the value that holds of the member; none exactly where no value does
abbrev pub FindsMember : {A : Type 0} → (A → Type 0) → Option A → Type 0
FindsMember {A} Holds None = (x : A) → ¬ Holds x
FindsMember Holds (Some x) = Holds x

-- the text is the name of the result
abbrev pub NamesResult : Option (List ℕ) → ReplyResult → Type 0
NamesResult text outcome = text ≡ Some (result_name outcome)

-- the text is the name of the condition
abbrev pub NamesCondition : Option (List ℕ) → Condition → Type 0
NamesCondition text condition = text ≡ Some (name_of condition)

-- the text is this one, of the form in which a transaction is written
abbrev pub IsTransactionText : Option (List ℕ) → List ℕ → Type 0
IsTransactionText text transaction = (text ≡ Some transaction) × IsTransactionIdentifier transaction

-- the number is how so many minor units are written, and they have 64 bits
abbrev pub IsAmountMember : Option (List ℕ) → ℕ → Type 0
IsAmountMember numeral units = (numeral ≡ Some (money_text units)) × (units < 2 ^ 64)

-- the message has this header beside this body, of which this is read
pub record ReadsReplyIn (message : Tree) (envelope : Envelope) (holder : Tree) (header : Header) (body : Tree) (seen : ReadReply) : Type 0 where
  pub headed : IsHeaded message envelope holder header
  pub body_is : response_of header.category holder ≡ Some body
  pub category : seen.category ≡ header.category
  pub result : NamesResult (text_at (codes "Response.Result") body) seen.result
  pub condition : FindsMember (NamesCondition (condition_in seen.result body)) seen.condition
  pub transaction : FindsMember (IsTransactionText (option_and_then transaction_in (outcome_in header.category body))) seen.transaction
  pub minor : FindsMember (IsAmountMember (option_and_then amount_text_in (outcome_in header.category body))) seen.minor

-- this is read of the message
abbrev pub ReadsReply : Tree → ReadReply → Type 0
ReadsReply message seen =
    (envelope : Envelope) × (holder : Tree) × (header : Header) × (body : Tree) × ReadsReplyIn message envelope holder header body seen
