-- What no lawful log has: a lean course along which an honest book doesn't agree.
use Rattle.std.specs.Prelude.{List}
use Rattle.gw_site.specs.declared.turn.Turn.{Turn}
use Rattle.gw_rules.specs.Laws.{IsLeanCourse}
use Rattle.gw_rules.specs.View.{Move}
use Rattle.gw_books.specs.Past.{past_of}
use Rattle.gw_books.specs.Books.{BookedEntry, Honest}
use Rattle.gw_books.specs.Agrees.{Agrees}

-- the book is honest for what has happened along the course, and doesn't agree with it
pub record BreaksAgreement (course : List Move) (book : List BookedEntry) : Type 0 where
  pub honest : Honest (past_of course) book
  pub disagrees : ¬ Agrees (past_of course) book

-- a course along which an honest book doesn't agree is the lean course of no log
abbrev pub NotLawful : Type 0
NotLawful = (log : List Turn) (course : List Move) (book : List BookedEntry) → IsLeanCourse log course → BreaksAgreement course book → ⊥
