-- What those who operate a gateway may rely on after power failures, along a lawful log and an honest book: what was open is resolved by the terminal's report, as its book has it, and no terminal is set aside.
use Rattle.std.specs.Prelude.{◌≡◌, ◌<◌, ◌≤◌, ℕ, Bool, true, false, ◌&&◌, ◌==◌, not, if◌then◌else◌, List, slice_get, Some}
use Rattle.std.specs.List.{list_any}
use Rattle.gw_base.specs.Transaction.{transaction_text}
use Rattle.gw_base.specs.declared.setup.Setup.{Setup}
use Rattle.gw_site.specs.declared.turn.Turn.{Turn}
use Rattle.json_text.specs.Tree.{Tree}
use Rattle.sale_values.specs.Money.{money_text}
use Rattle.zvt_apdu.specs.Grammar.{ApduValue}
use Rattle.jrn_record.specs.declared.records.Intent.{Intent as TheIntent}
use Rattle.jrn_record.specs.declared.records.Outcome.{Outcome as TheOutcome}
use Rattle.jrn_record.specs.declared.records.Record.{Record}
use Rattle.jrn_record.specs.declared.records.Record.TheVariants.{Outcome}
use Rattle.gw_ledger.specs.declared.entry.Entry.{Entry as TheEntry}
use Rattle.gw_ledger.specs.declared.entry.Found.TheVariants.{Entry}
use Rattle.gw_ledger.specs.Fold.{found_of}
use Rattle.gw_ledger.specs.Keys.{intent_key}
use Rattle.gw_ledger.specs.Slots.{intent_at}
use Rattle.gw_owes.specs.declared.terminal.Standing.TheVariants.{Aside}
use Rattle.gw_owes.specs.declared.terminal.Terminal.{Terminal}
use Rattle.gw_owes.specs.Items.{Handle}
use Rattle.gw_owes.specs.PaymentLaws.{ReportsOfOpen}
use Rattle.gw_owes.specs.Reports.{Report, outcome_reported}
use Rattle.gw_rules.specs.Laws.{IsLeanCourse}
use Rattle.gw_rules.specs.Lawful.{turns_of}
use Rattle.gw_rules.specs.Scene.{known_in}
use Rattle.gw_rules.specs.View.{View, Move, at_first, view_from}
use Rattle.gw_books.specs.Kinds.{is_kind, booked_kind_of}
use Rattle.gw_books.specs.Past.{MadeLink, MadePoll, Past, SentReply, past_of}
use Rattle.gw_books.specs.Books.{BookedEntry, Honest}
use Rattle.gw_books.specs.Said.{IsFramed, Said, all_said}
use Rattle.gw_books.specs.Agrees.{is_approved_entry, is_report_on, is_success, is_transaction}
use Rattle.gw_books.specs.Headline.{HasPast}
use Rattle.gw_books.specs.RoundLaws.{ComesNext, EndsRound, IsKeptAndSaid}

-- ---- the report resolves

-- at this poll a link lasts whose enquiry has reported, and this Intent of its terminal, in this slot, was kept before the link was made, in whatever run
pub record IsReportedAt (past : Past) (poll : MadePoll) (link : MadeLink) (slot : ℕ) (intent : TheIntent) : Type 0 where
  pub polled : ℕ
  pub poll_is : slice_get past.polls polled ≡ Some poll
  pub lasting : ℕ
  pub link_is : slice_get poll.links lasting ≡ Some link
  pub reported : list_any (is_report_on poll link) past.ends ≡ true
  pub intent_is : intent_at poll.kept slot ≡ Some intent
  pub poi_is : intent.poi ≡ link.numbering.poi
  pub before : slot < link.records

-- the entry is of the kind that the Intent asks for
abbrev pub is_as_asked : TheIntent → BookedEntry → Bool
is_as_asked intent entry = is_kind (booked_kind_of intent.what) entry.kind

-- the entry is approved, for the key of the Intent, of its kind, and with the numbers and the amount of the Outcome
abbrev pub is_entry_of : Past → TheIntent → TheOutcome → BookedEntry → Bool
is_entry_of past intent outcome entry =
    is_approved_entry past (intent_key intent) entry && (is_as_asked intent entry && (entry.number == outcome.number && (entry.receipt == outcome.receipt && entry.amount == outcome.amount)))

-- the Outcome of the Intent is the terminal's: an approval has its entry, and a decline has no approved entry of its key in the whole book, and so never will have one
abbrev pub agrees_outcome : Past → List BookedEntry → TheIntent → TheOutcome → Bool
agrees_outcome past book intent outcome = if outcome.approved then list_any (is_entry_of past intent outcome) book else not (list_any (is_approved_entry past (intent_key intent)) book)

-- the key of the Intent has an Outcome on record, which is the terminal's
pub record HasTrueOutcome (past : Past) (book : List BookedEntry) (kept : List Record) (slot : ℕ) (intent : TheIntent) : Type 0 where
  pub outcome : TheOutcome
  pub found : found_of kept (intent_key intent) ≡ Some (Entry (record { slot = slot; intent = intent; result = Some outcome }))
  pub true_outcome : agrees_outcome past book intent outcome ≡ true

-- each Outcome that is on record at a poll, in whatever run, is the terminal's
abbrev pub EachOutcomeIsTrue : Type 0
EachOutcomeIsTrue =
    (log : List Turn) (past : Past) (book : List BookedEntry) (polled : ℕ) (poll : MadePoll) (at : ℕ) (outcome : TheOutcome) (intent : TheIntent) → HasPast log past → Honest past book → slice_get past.polls polled ≡ Some poll
    → slice_get poll.kept at ≡ Some (Outcome outcome) → intent_at poll.kept outcome.slot ≡ Some intent → agrees_outcome past book intent outcome ≡ true

-- after any power failures, at whatever places and with whatever images: once the terminal has reported on the enquiry of a link that lasts, what was kept before the link has its Outcome
abbrev pub ReportedIsResolved : Type 0
ReportedIsResolved =
    (log : List Turn) (past : Past) (book : List BookedEntry) (poll : MadePoll) (link : MadeLink) (slot : ℕ) (intent : TheIntent) → HasPast log past → Honest past book → IsReportedAt past poll link slot intent
    → HasTrueOutcome past book poll.kept slot intent

-- a report of what is open, whose trace number isn't below the one before, is kept, and said to the till that still waits, before the next poll
abbrev pub ReportIsSaid : Type 0
ReportIsSaid =
    (log : List Turn) (v : View) (moves : List Move) (setup : Setup) (number : ℕ) (apdu : ApduValue) (terminal : Terminal) (report : Report) (entry : TheEntry) → EndsRound log v moves → ComesNext v setup (Handle number apdu)
    → ReportsOfOpen (known_in v.scene setup) number apdu terminal report entry → entry.intent.before ≤ report.trace
    → IsKeptAndSaid v setup terminal (outcome_reported entry report v.scene.outside.moment) (turns_of moves)

-- ---- every status says the same

-- a till was sent a reply, in whatever run, that says this, itself or in what it repeats
pub record IsSaidAlong (past : Past) (said : Said) : Type 0 where
  pub sent : ℕ
  pub reply : SentReply
  pub reply_is : slice_get past.replies sent ≡ Some reply
  pub message : Tree
  pub framed : IsFramed reply.bytes message
  pub number : ℕ
  pub says : slice_get (all_said message) number ≡ Some said

-- the Outcome is an approval, and its numbers, the slot and its amount are said
pub record SaysApproval (said : Said) (slot : ℕ) (outcome : TheOutcome) : Type 0 where
  pub approved : outcome.approved ≡ true
  pub transaction : said.transaction ≡ transaction_text outcome.number outcome.receipt slot
  pub amount : said.amount ≡ money_text outcome.amount

-- a success says the Outcome of the slot, which is an approval; and where a failure has the mark of a transaction, the Outcome is a decline
pub record SaysOutcomeKept (said : Said) (slot : ℕ) (outcome : TheOutcome) : Type 0 where
  pub success : is_success said ≡ true → SaysApproval said slot outcome
  pub refusal : (not (is_success said) && said.has_poi_data) ≡ true → outcome.approved ≡ false

-- whatever is said of the end of a key that a report has resolved, in any run, before that poll or after it, is its one Outcome; so also what a TransactionStatus repeats
abbrev pub SaidAsKept : Type 0
SaidAsKept =
    (log : List Turn) (past : Past) (book : List BookedEntry) (poll : MadePoll) (link : MadeLink) (slot : ℕ) (intent : TheIntent) (said : Said) → HasPast log past → Honest past book → IsReportedAt past poll link slot intent
    → (has : HasTrueOutcome past book poll.kept slot intent) → IsSaidAlong past said → said.key ≡ intent_key intent → is_transaction said ≡ true → SaysOutcomeKept said slot has.outcome

-- ---- no terminal is set aside

-- a terminal of this number is set aside
pub record IsAsideIn (v : View) (number before reported : ℕ) : Type 0 where
  pub terminal : Terminal
  pub found : slice_get v.scene.core.terminals number ≡ Some terminal
  pub standing_is : terminal.standing ≡ Aside before reported

-- after a lawful log, where the book is honest, none is
abbrev pub HonestSetsNoneAside : Type 0
HonestSetsNoneAside =
    (log : List Turn) (moves : List Move) (book : List BookedEntry) (number before reported : ℕ) → IsLeanCourse log moves → Honest (past_of moves) book → IsAsideIn (view_from at_first moves) number before reported → ⊥
