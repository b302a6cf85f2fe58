-- What a till may rely on to which the end of a payment or a reversal is said, along a lawful log and an honest book.
use Rattle.std.specs.Prelude.{◌≡◌, ◌≤◌, ℕ, Bool, true, false, List, [], ◌∷◌, ◌++◌, length, slice_get, Some, codes}
use Rattle.gw_base.specs.Transaction.{transaction_text}
use Rattle.gw_site.specs.declared.turn.Turn.{Turn}
use Rattle.gw_site.specs.declared.turn.Turn.TheVariants.{SentTill}
use Rattle.json_text.specs.Tree.{Tree}
use Rattle.sale_values.specs.Money.{money_text}
use Rattle.gw_ledger.specs.Keys.{is_key}
use Rattle.gw_rules.specs.Lawful.{turns_of}
use Rattle.gw_books.specs.Past.{Past}
use Rattle.gw_books.specs.Books.{BookedEntry, Honest}
use Rattle.gw_books.specs.Said.{Said, all_said, IsFramed}
use Rattle.gw_books.specs.Agrees.{entry_key, is_of_category, is_transaction, is_success, is_failure}
use Rattle.gw_books.specs.Headline.{HasPast}
use Rattle.gw_books.specs.Example.{payment_key, paid_course, paid_past, paid_entry, refused_course, refused_past}

-- in the log a till was sent the whole frame of a message that says this
pub record IsSaidTo (log : List Turn) (till : ℕ) (said : Said) : Type 0 where
  pub before : List Turn
  pub after : List Turn
  pub bytes : List ℕ
  pub sent : Bool
  pub log_is : log ≡ before ++ SentTill till bytes sent ∷ after
  pub message : Tree
  pub framed : IsFramed bytes message
  pub at : ℕ
  pub says : slice_get (all_said message) at ≡ Some said

-- the book has an approved entry of the key that is said, a reversal where it is said of one, with the amount that is said, and the number and the receipt in its TransactionID; it was booked before the turn after these, in which it is said. Of the slot in that text nothing is said.
pub record IsBooked (past : Past) (book : List BookedEntry) (before : List Turn) (said : Said) : Type 0 where
  pub at : ℕ
  pub entry : BookedEntry
  pub found : slice_get book at ≡ Some entry
  pub key_is : is_key said.key (entry_key past entry) ≡ true
  pub approved : entry.approved ≡ true
  pub category : is_of_category said entry ≡ true
  pub placed : entry.place ≤ length before
  pub amount : said.amount ≡ money_text entry.amount
  pub slot : ℕ
  pub transaction : said.transaction ≡ transaction_text entry.number entry.receipt slot

-- where it is said to a till that a payment or a reversal has succeeded, it was booked by then, with that amount and that receipt
abbrev pub SuccessIsBooked : Type 0
SuccessIsBooked =
    (log : List Turn) (past : Past) (book : List BookedEntry) (till : ℕ) (said : Said) → HasPast log past → Honest past book → (is_said : IsSaidTo log till said)
    → is_transaction said ≡ true → is_success said ≡ true → IsBooked past book is_said.before said

-- where its failure is said with the mark of a transaction, no entry for that key is approved, and none ever will be
abbrev pub RefusedIsNeverCharged : Type 0
RefusedIsNeverCharged =
    (log : List Turn) (past : Past) (book : List BookedEntry) (till : ℕ) (said : Said) → HasPast log past → Honest past book → IsSaidTo log till said
    → is_transaction said ≡ true → is_failure said ≡ true → said.has_poi_data ≡ true
    → (at : ℕ) (entry : BookedEntry) → slice_get book at ≡ Some entry → is_key said.key (entry_key past entry) ≡ true → entry.approved ≡ false

-- ---- examples

-- what the approved payment's reply says
abbrev pub paid_said : Said
paid_said = record { category = codes "Payment"; key = payment_key; result = codes "Success"; condition = []; has_poi_data = true; transaction = codes "000123-0017-0"; amount = codes "10.99" }

-- its success is said to the till, along the log of the example whose book is honest
pub record PaidIsSaid : Type 0 where
  pub is_said : IsSaidTo (turns_of paid_course) 1 paid_said
  pub transaction : is_transaction paid_said ≡ true
  pub success : is_success paid_said ≡ true
  pub booked : IsBooked paid_past (paid_entry ∷ []) is_said.before paid_said

-- what the declined payment's reply says
abbrev pub refused_said : Said
refused_said = record { category = codes "Payment"; key = payment_key; result = codes "Failure"; condition = codes "Cancel"; has_poi_data = true; transaction = codes "000000-0000-0"; amount = [] }

-- an entry of its command that is not approved
abbrev pub declined_entry : BookedEntry
declined_entry = record paid_entry { approved = false }

-- its failure is said to the till with the mark of a transaction, along the log of the example; a book with an entry of its key is honest
pub record RefusedIsSaid : Type 0 where
  pub is_said : IsSaidTo (turns_of refused_course) 1 refused_said
  pub transaction : is_transaction refused_said ≡ true
  pub failure : is_failure refused_said ≡ true
  pub mark : refused_said.has_poi_data ≡ true
  pub honest : Honest refused_past (declined_entry ∷ [])
  pub key_is : is_key refused_said.key (entry_key refused_past declined_entry) ≡ true
