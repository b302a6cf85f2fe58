-- A key that is finished keeps its reply, the one that was owed to its till first.
use Rattle.std.specs.Prelude.{◌≡◌, pos, true, List, [], ◌∷◌, ◌++◌, Some, codes, option_and_then}
use Rattle.gw_base.specs.declared.key.Key.{Key}
use Rattle.jrn_record.specs.declared.records.Intent.{Intent as TheIntent}
use Rattle.jrn_record.specs.declared.records.Outcome.{Outcome as TheOutcome}
use Rattle.jrn_record.specs.declared.records.Record.{Record}
use Rattle.jrn_record.specs.declared.records.Record.TheVariants.{Intent, Outcome}
use Rattle.gw_ledger.specs.declared.entry.Found.{Found}
use Rattle.gw_ledger.specs.declared.entry.Found.TheVariants.{Entry}
use Rattle.gw_ledger.specs.Fold.{AreFolded, found_of}
use Rattle.gw_ledger.specs.Keys.{intent_key}
use Rattle.gw_ledger.specs.Slots.{intent_at}
use Rattle.gw_owes.specs.KeptReplies.{is_finished, kept_reply}
use Rattle.gw_owes.specs.Reply.{ReplyValue}
use Rattle.gw_owes.specs.Serving.{reply_to_outcome}
use Rattle.gw_books.specs.Example.{paying_intent, kept_approval, paid_reply}

-- whatever records come later, what is finished under a key stays, and with it its kept reply
abbrev pub FinishedStays : Type 0
FinishedStays = (records more : List Record) (key : Key) (found : Found) → AreFolded (records ++ more) → found_of records key ≡ Some found → is_finished found ≡ true → found_of (records ++ more) key ≡ Some found

-- this reply is kept under the key of the Intent once the Outcome is kept, and its till is sent it
pub record KeepsFirstReply (kept : List Record) (outcome : TheOutcome) (intent : TheIntent) : Type 0 where
  pub reply : ReplyValue
  pub is_kept : option_and_then kept_reply (found_of (kept ++ Outcome outcome ∷ []) (intent_key intent)) ≡ Some reply
  pub is_sent : reply_to_outcome kept outcome.slot outcome ≡ Some reply

-- each key has a reply as its Outcome is kept: the kept one is the one that its till is sent
abbrev pub FirstReplyIsKept : Type 0
FirstReplyIsKept =
    (kept : List Record) (outcome : TheOutcome) (intent : TheIntent) → AreFolded (kept ++ Outcome outcome ∷ []) → intent_at kept outcome.slot ≡ Some intent → KeepsFirstReply kept outcome intent

-- ---- an example

-- the record of a payment
abbrev pub asked_records : List Record
asked_records = Intent paying_intent ∷ []

-- and then that of its approval
abbrev pub paid_records : List Record
paid_records = asked_records ++ Outcome kept_approval ∷ []

-- what has its key
abbrev pub paid_found : Found
paid_found = Entry (record { slot = 0; intent = paying_intent; result = Some kept_approval })

-- a payment that comes later, with a key of its own
abbrev pub later_intent : TheIntent
later_intent = record paying_intent { service = codes "8"; before = 123; moment = pos 6 }

-- the whole premise of both holds of a payment that is approved, with one more payment after it: what is found stays, and its kept reply is the one that its till is sent
pub record PaidStays : Type 0 where
  pub folded : AreFolded paid_records
  pub asked : intent_at asked_records kept_approval.slot ≡ Some paying_intent
  pub sent : reply_to_outcome asked_records kept_approval.slot kept_approval ≡ Some paid_reply
  pub kept : option_and_then kept_reply (found_of paid_records (intent_key paying_intent)) ≡ Some paid_reply
  pub later : AreFolded (paid_records ++ Intent later_intent ∷ [])
  pub found : found_of paid_records (intent_key paying_intent) ≡ Some paid_found
  pub finished : is_finished paid_found ≡ true
  pub stays : found_of (paid_records ++ Intent later_intent ∷ []) (intent_key paying_intent) ≡ Some paid_found
