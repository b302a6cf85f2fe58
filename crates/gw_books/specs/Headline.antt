-- The headline.
use Rattle.std.specs.Prelude.{◌≡◌, List}
use Rattle.gw_site.specs.declared.turn.Turn.{Turn}
use Rattle.gw_rules.specs.Laws.{IsLeanCourse}
use Rattle.gw_rules.specs.View.{Move}
use Rattle.gw_books.specs.Past.{Past, past_of}
use Rattle.gw_books.specs.Books.{BookedEntry, Honest}
use Rattle.gw_books.specs.Agrees.{Agrees}

-- the log is lawful, and this is what has happened along it: the past of its one lean course
pub record HasPast (log : List Turn) (past : Past) : Type 0 where
  pub moves : List Move
  pub lean : IsLeanCourse log moves
  pub past_is : past ≡ past_of moves

-- along a lawful log, each book that is honest agrees with what was done and said
abbrev pub HonestAgrees : Type 0
HonestAgrees = (log : List Turn) (past : Past) (book : List BookedEntry) → HasPast log past → Honest past book → Agrees past book
