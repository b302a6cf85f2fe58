-- What a message to a till says, by its JSON tree.
use Rattle.std.specs.Prelude.{◌≡◌, ℕ, Bool, is_some, codes, List, [], ◌++◌, map, Option, unwrap_or}
use Rattle.std.specs.List.{flat_map}
use Rattle.std.specs.Option.{option_and_then, option_map, option_to_list}
use Rattle.gw_base.specs.declared.key.Key.{Key}
use Rattle.json_text.specs.Tree.{Tree, get_of}
use Rattle.json_text.specs.Grammar.{Spells}
use Rattle.sale_frame.specs.Grammar.{frame}
use Rattle.sale_msg.specs.Path.{text_at, tree_at}
use Rattle.sale_seen.specs.ReplyMembers.{OutcomeValue, outcome_of, response_of, repeated_in, transaction_in, amount_text_in}

-- what a reply says of a request; a text that is absent is empty
pub record Said : Type 0 where
  pub category : List ℕ
  -- the key of the request
  pub key : Key
  -- `Success`, `Partial` or `Failure`
  pub result : List ℕ
  -- the `ErrorCondition`
  pub condition : List ℕ
  -- there is `POIData`, as in the reply to a finished payment or reversal
  pub has_poi_data : Bool
  -- its `TransactionID`
  pub transaction : List ℕ
  -- the `AuthorizedAmount` or the `ReversedAmount`
  pub amount : List ℕ

-- the text at a path
abbrev pub text_in : List ℕ → Tree → List ℕ
text_in path tree = unwrap_or (text_at path tree) []

-- what a header and a body of its category say
abbrev pub said_under : Tree → OutcomeValue → Said
said_under header outcome = record {
  category = outcome.category;
  key = record { sale = text_in (codes "SaleID") header; poi = text_in (codes "POIID") header; service = text_in (codes "ServiceID") header };
  result = text_in (codes "Response.Result") outcome.body;
  condition = text_in (codes "Response.ErrorCondition") outcome.body;
  has_poi_data = is_some (tree_at (codes "POIData") outcome.body);
  transaction = unwrap_or (transaction_in outcome) [];
  amount = unwrap_or (amount_text_in outcome) [];
}

-- the same where there are both
abbrev pub said_of : Option Tree → Option OutcomeValue → List Said
said_of header outcome = flat_map (λ header. map (said_under header) (option_to_list outcome)) (option_to_list header)

-- the body of a reply, by the category in its header
abbrev pub body_in : Tree → Option OutcomeValue
body_in reply = let category = text_in (codes "MessageHeader.MessageCategory") reply in option_map (outcome_of category) (response_of category reply)

-- what a reply says, and then what the reply says that is repeated in its body
abbrev pub said_in : Tree → List Said
said_in reply =
    let body = body_in reply in
    said_of (tree_at (codes "MessageHeader") reply) body
    ++ said_of (option_and_then (λ (outcome : OutcomeValue). tree_at (codes "RepeatedMessageResponse.MessageHeader") outcome.body) body) (option_and_then (λ (outcome : OutcomeValue). repeated_in outcome.body) body)

-- all that a message says; one that is no reply says nothing
abbrev pub all_said : Tree → List Said
all_said message = flat_map said_in (option_to_list (get_of (codes "SaleToPOIResponse") message))

-- the bytes are the frame of a text that spells this message
pub record IsFramed (bytes : List ℕ) (message : Tree) : Type 0 where
  pub text : List ℕ
  pub framed : bytes ≡ frame text
  pub spelled : Spells message text
