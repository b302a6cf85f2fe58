-- Closed examples: what a till reads in the replies to the first payment of the examples of `xlate`, and the premises of the law.
use Rattle.std.specs.Prelude.{◌≡◌, ◌^◌, ◌<◌, [], ◌∷◌, map, Some, None, refl, codes}
use Rattle.sale_reply.specs.declared.reply.ReplyResult.TheVariants.{Success, Partial, Failure}
use Rattle.sale_seen.specs.Grammar.{ReadReply}
use Rattle.xlate.specs.Example.{decline, entry, paid}
use Rattle.xlate.specs.Finished.{IsResolved}
use Rattle.entry_seen.specs.ReplyRead.{entry_reply_read}

-- an approval of at least what was asked for is a success, one of less is partial, and a decline is a failure
pub results_read : map (λ outcome. let read = entry_reply_read (entry outcome) outcome in read.result) (paid 1099 ∷ paid 1100 ∷ paid 1098 ∷ decline 0 ∷ [])
    ≡ Success ∷ Success ∷ Partial ∷ Failure ∷ []
results_read = refl

-- what a till reads where 9.00 of the first payment is approved
abbrev partial_read : ReadReply
partial_read = record { category = codes "Payment"; result = Partial; condition = None; transaction = Some (codes "000123-0017-0"); minor = Some 900 }

-- a resolved entry within the limits, of which less was approved than was asked for, and what a till reads of its reply
pub record ExampleReplies : Type 0 where
  pub slot_fits : let the_entry = entry (paid 900) in the_entry.slot < 2 ^ 32
  pub outcome : let the_entry = entry (paid 900) in the_entry.result ≡ Some (paid 900)
  pub resolved : IsResolved (entry (paid 900))
  pub read : entry_reply_read (entry (paid 900)) (paid 900) ≡ partial_read
