-- What a till reads in the reply of a resolved entry: what its records say.
use Rattle.std.specs.Prelude.{◌≡◌, ℕ, ◌^◌, ◌<◌, nat_le, Bool, true, false, if◌then◌else◌, Option, Some, None}
use Rattle.gw_base.specs.Transaction.{transaction_text}
use Rattle.jrn_record.specs.declared.records.Deal.{Deal}
use Rattle.jrn_record.specs.declared.records.Deal.TheVariants.{Payment, Reversal}
use Rattle.jrn_record.specs.declared.records.Intent.{Intent as TheIntent}
use Rattle.jrn_record.specs.declared.records.Outcome.{Outcome as TheOutcome}
use Rattle.gw_ledger.specs.declared.entry.Entry.{Entry as TheEntry}
use Rattle.gw_ledger.specs.declared.entry.Found.TheVariants.{Entry}
use Rattle.sale_reply.specs.Reply.{tree_of}
use Rattle.sale_reply.specs.declared.reply.ReplyResult.{ReplyResult}
use Rattle.sale_reply.specs.declared.reply.ReplyResult.TheVariants.{Success, Partial, Failure}
use Rattle.sale_reply.specs.declared.reply.SaleReply.{SaleReply}
use Rattle.sale_seen.specs.Grammar.{ReadReply, ReadsReply}
use Rattle.xlate.specs.Finished.{IsResolved}
use Rattle.xlate.specs.Reply.{deal_category, reply_for}

-- an approved payment of less than was asked for is partial; a decline is a failure
abbrev pub entry_result : Deal → Bool → TheIntent → TheOutcome → ReplyResult
entry_result Payment true intent outcome = if nat_le intent.amount outcome.amount then Success else Partial
entry_result Payment false intent outcome = Failure
entry_result Reversal true intent outcome = Success
entry_result Reversal false intent outcome = Failure

-- an approval has an amount
abbrev pub entry_amount : Bool → ℕ → Option ℕ
entry_amount true amount = Some amount
entry_amount false amount = None

-- the category, the result, the condition, the text with number, receipt and slot, and the amount that the records have
abbrev pub entry_reply_read : TheEntry → TheOutcome → ReadReply
entry_reply_read entry outcome = record {
  category = deal_category entry.intent.what;
  result = entry_result entry.intent.what outcome.approved entry.intent outcome;
  condition = outcome.condition;
  transaction = Some (transaction_text outcome.number outcome.receipt entry.slot);
  minor = entry_amount outcome.approved outcome.amount;
}

-- an entry that is resolved has one reply, and what a till reads in it is what its records say
abbrev pub RepliesSayRecords : Type 0
RepliesSayRecords = (entry : TheEntry) (outcome : TheOutcome) → entry.slot < 2 ^ 32 → entry.result ≡ Some outcome → IsResolved entry
    → (only : SaleReply) × (reply_for (Entry entry) ≡ Some only) × ReadsReply (tree_of only) (entry_reply_read entry outcome)
