-- What each message to a till says, by the reply that it is.
use Rattle.std.specs.Prelude.{◌≡◌, ℕ, Bool, true, false, List, [], ◌∷◌, ◌++◌, Option, None, unwrap_or}
use Rattle.std.specs.Option.{option_map}
use Rattle.gw_base.specs.Condition.{name_of}
use Rattle.gw_base.specs.declared.condition.Condition.{Condition}
use Rattle.gw_base.specs.declared.key.Key.{Key}
use Rattle.gw_site.specs.declared.turn.Turn.{Turn}
use Rattle.gw_site.specs.declared.turn.Turn.TheVariants.{SentTill}
use Rattle.json_text.specs.Tree.{Tree}
use Rattle.sale_values.specs.Money.{money_text}
use Rattle.sale_values.specs.declared.header.Header.{Header}
use Rattle.sale_reply.specs.Limits.{IsWithinLimits}
use Rattle.sale_reply.specs.Names.{result_name, result_of}
use Rattle.sale_reply.specs.Reply.{tree_of}
use Rattle.sale_reply.specs.declared.reply.SaleReply.{SaleReply}
use Rattle.sale_reply.specs.declared.reply.Told.{Told as ResultBody}
use Rattle.sale_reply.specs.declared.reply.Told.TheVariants.{PaymentApproved, PaymentDeclined, ReversalApproved, ReversalDeclined, Reconciled}
use Rattle.sale_seen.specs.Expected.{expected_amount, expected_condition, expected_result, expected_transaction}
use Rattle.gw_owes.specs.Reply.{ReplyValue, Plain, Finished, Repeated, Diagnosis, Display, Print, DisplayRequest, PrintRequest, Reject, reply_value_bytes, reply_value_tree}
use Rattle.gw_rules.specs.Lawful.{IsLawful}
use Rattle.gw_books.specs.Said.{Said, all_said, IsFramed}

-- ---- what each reply says

-- the key that a header names
abbrev pub header_key : Header → Key
header_key header = record { sale = header.sale; poi = header.poi; service = unwrap_or header.service [] }

-- a reply without the result body of a request says whether it succeeds, or why it fails
abbrev pub plain_said : Header → Option Condition → Said
plain_said header condition = record {
  category = header.category;
  key = header_key header;
  result = result_name (result_of condition);
  condition = unwrap_or (option_map name_of condition) [];
  has_poi_data = false;
  transaction = [];
  amount = [];
}

-- the result body of a payment or a reversal has `POIData`
abbrev pub has_mark : ResultBody → Bool
has_mark (PaymentApproved transaction stamp mark requested paid) = true
has_mark (PaymentDeclined transaction stamp mark condition) = true
has_mark (ReversalApproved mark reversed) = true
has_mark (ReversalDeclined mark condition) = true
has_mark (Reconciled period currency debit reversed) = false

-- what a result body says under a header
abbrev pub finished_said : Header → ResultBody → Said
finished_said header result = record {
  category = header.category;
  key = header_key header;
  result = result_name (expected_result result);
  condition = unwrap_or (option_map name_of (expected_condition result)) [];
  has_poi_data = has_mark result;
  transaction = unwrap_or (expected_transaction header.category result) [];
  amount = unwrap_or (option_map money_text (expected_amount header.category result)) [];
}

-- a reply to a Display has a result for each output, and none of its own
abbrev pub display_said : Header → Said
display_said header = record (plain_said header None) { result = [] }

-- what a reply says; a device request and an event say nothing of a request
abbrev pub said_by_reply : ReplyValue → List Said
said_by_reply (Plain header verdict) = plain_said header verdict.condition ∷ []
said_by_reply (Finished header result) = finished_said header result ∷ []
said_by_reply (Repeated header repeated result) = plain_said header None ∷ finished_said repeated result ∷ []
said_by_reply (Diagnosis header status) = plain_said header None ∷ []
said_by_reply (Display header outputs) = display_said header ∷ []
said_by_reply (Print header qualifier verdict) = plain_said header verdict.condition ∷ []
said_by_reply (DisplayRequest header code) = []
said_by_reply (PrintRequest header lines) = []
said_by_reply (Reject sale poi moment detail) = []

-- so it is of each
abbrev pub EachReplySays : Type 0
EachReplySays = (reply : ReplyValue) → all_said (reply_value_tree reply) ≡ said_by_reply reply

-- ---- bytes

-- the bytes of a reply within its limits are the frame of its message
abbrev pub EachReplyIsFramed : Type 0
EachReplyIsFramed = (reply : ReplyValue) (value : SaleReply) → reply_value_tree reply ≡ tree_of value → IsWithinLimits value → IsFramed (reply_value_bytes reply) (reply_value_tree reply)

-- in a lawful log all bytes that are sent to a till, whole, are the frame of the message of a reply
abbrev pub EachSentIsFramed : Type 0
EachSentIsFramed = (before rest : List Turn) (till : ℕ) (bytes : List ℕ) → IsLawful (before ++ SentTill till bytes true ∷ rest) → (reply : ReplyValue) × IsFramed bytes (reply_value_tree reply)

-- bytes are the frame of one message at most
abbrev pub OneMessageIsFramed : Type 0
OneMessageIsFramed = (bytes : List ℕ) (message other : Tree) → IsFramed bytes message → IsFramed bytes other → message ≡ other
