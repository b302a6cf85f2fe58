-- Why a tree is no reply with a result.
use Rattle.std.specs.Prelude.{◌≡◌, ℕ, List, ◌++◌, codes, Option, IsSome, None}
use Rattle.std.specs.Option.{option_and_then}
use Rattle.json_text.specs.Tree.{Tree, string_of}
use Rattle.sale_values.specs.declared.header.Header.{Header}
use Rattle.sale_values.specs.declared.fault.SaleFault.{SaleFault}
use Rattle.sale_values.specs.declared.fault.SaleFault.TheVariants as faults
use Rattle.sale_msg.specs.Grammar.{IsHeaded, LacksHeader}
use Rattle.sale_msg.specs.Path.{tree_at}
use Rattle.sale_msg.specs.declared.table.Envelope.{Envelope}
use Rattle.sale_reply.specs.declared.reply.ReplyResult.{ReplyResult}
use Rattle.sale_seen.specs.ReplyMembers.{response_of}
use Rattle.sale_seen.specs.Grammar.{NamesResult}

-- the path of a reply's result
abbrev pub result_path : List ℕ → List ℕ
result_path category = category ++ codes "Response.Response.Result"

-- the result of a reply
abbrev pub result_in : List ℕ → Tree → Option Tree
result_in category holder = option_and_then (tree_at (codes "Response.Result")) (response_of category holder)

-- the message has this header, and its result is absent
pub record LacksResultIn (message : Tree) (envelope : Envelope) (holder : Tree) (header : Header) (path : List ℕ) : Type 0 where
  pub headed : IsHeaded message envelope holder header
  pub absent : result_in header.category holder ≡ None
  pub path_is : path ≡ result_path header.category

-- the message has this header, and its result is none of the three
pub record HasOtherResultIn (message : Tree) (envelope : Envelope) (holder : Tree) (header : Header) (path : List ℕ) : Type 0 where
  pub headed : IsHeaded message envelope holder header
  pub present : IsSome (result_in header.category holder)
  pub other : (outcome : ReplyResult) → ¬ NamesResult (option_and_then string_of (result_in header.category holder)) outcome
  pub path_is : path ≡ result_path header.category

-- a result is missing, and the fault has this header and path
abbrev pub LacksResult : Tree → Header → List ℕ → Type 0
LacksResult message header path = (envelope : Envelope) × (holder : Tree) × LacksResultIn message envelope holder header path

-- a result is of another form, and the fault has this header and path
abbrev pub HasOtherResult : Tree → Header → List ℕ → Type 0
HasOtherResult message header path = (envelope : Envelope) × (holder : Tree) × HasOtherResultIn message envelope holder header path

-- Inner: nothing is read of the message, and this is why
abbrev pub IsReplyFault : Tree → SaleFault → Type 0
IsReplyFault message (faults.NoHeader path) = LacksHeader message path
IsReplyFault message (faults.Missing header path) = LacksResult message header path
IsReplyFault message (faults.Wrong header path) = HasOtherResult message header path
IsReplyFault message (faults.Unserved header) = ⊥
