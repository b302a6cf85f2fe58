-- Along a lawful log the kept records match an honest book whose commands are all of the log, and what is approved in an Intent's window has its key.
use Rattle.std.specs.Prelude.{◌≡◌, ℕ, true, List, slice_get, Some}
use Rattle.std.specs.List.{list_all}
use Rattle.gw_site.specs.declared.turn.Turn.{Turn}
use Rattle.jrn_record.specs.declared.records.Intent.{Intent as TheIntent}
use Rattle.jrn_record.specs.declared.records.Record.{Record}
use Rattle.gw_ledger.specs.Keys.{intent_key}
use Rattle.gw_ledger.specs.Slots.{intent_at}
use Rattle.gw_rules.specs.Laws.{IsLeanCourse}
use Rattle.gw_rules.specs.View.{Move}
use Rattle.gw_books.specs.Past.{Past, past_of}
use Rattle.gw_books.specs.Books.{BookedEntry, Honest}
use Rattle.gw_books.specs.Agrees.{entry_key}
use Rattle.gw_books.specs.ReversalLaws.{kept_after}
use Rattle.gw_books.specs.Windows.{IsApprovedInWindow, Matches, is_caused_before}

-- the records and the book match, and by the commands of the past each approved entry in a window is the Intent's own
pub record MatchesByKey (past : Past) (records : List Record) (book : List BookedEntry) : Type 0 where
  pub matches : Matches records book
  -- an approved entry in the window of an Intent has its key
  pub owned : (slot : ℕ) (intent : TheIntent) (at : ℕ) (entry : BookedEntry) → intent_at records slot ≡ Some intent → slice_get book at ≡ Some entry → IsApprovedInWindow records slot intent entry
      → entry_key past entry ≡ Some (intent_key intent)

-- whatever was asked, and wherever the power failed: if the book is honest and no entry's command is still to come after the log's end, the records that are kept match it, by key. Entries that are placed after the end, of commands in the log, do no harm.
abbrev pub HonestMatches : Type 0
HonestMatches =
    (log : List Turn) (moves : List Move) (book : List BookedEntry) → IsLeanCourse log moves → Honest (past_of moves) book → list_all (is_caused_before (past_of moves).place) book ≡ true → MatchesByKey (past_of moves) (kept_after moves) book
