-- A lawful log has one past, and what the headline says of it.
use Rattle.std.specs.Prelude.{◌≡◌, List}
use Rattle.gw_bytes.specs.Bytes.{IsPrefix}
use Rattle.gw_site.specs.declared.turn.Turn.{Turn}
use Rattle.gw_rules.specs.Lawful.{IsLawful}
use Rattle.gw_books.specs.Past.{Past}
use Rattle.gw_books.specs.Books.{BookedEntry, Honest}
use Rattle.gw_books.specs.Agrees.{Agrees}
use Rattle.gw_books.specs.Headline.{HasPast}

-- the log has this past, and no other
pub record HasOnePast (log : List Turn) : Type 0 where
  pub past : Past
  pub has : HasPast log past
  pub one : (other : Past) → HasPast log other → other ≡ past

-- so has each lawful log
abbrev pub EachHasOnePast : Type 0
EachHasOnePast = (log : List Turn) → IsLawful log → HasOnePast log

-- the log has a past, and each book that is honest for it agrees with it
abbrev pub AgreesAlong : List Turn → Type 0
AgreesAlong log = (past : Past) × HasPast log past × ((book : List BookedEntry) → Honest past book → Agrees past book)

-- so it is of each of its prefixes, each with a past of its own
abbrev pub AgreesThroughout : List Turn → Type 0
AgreesThroughout log = (prefix : List Turn) → IsPrefix prefix log → AgreesAlong prefix

-- so it is of each lawful log
abbrev pub EachLogAgrees : Type 0
EachLogAgrees = (log : List Turn) → IsLawful log → AgreesThroughout log

-- a book that is honest for what has happened along a log is honest for what had happened along each of its prefixes
abbrev pub HonestForPrefix : Type 0
HonestForPrefix = (prefix log : List Turn) (earlier past : Past) (book : List BookedEntry) → IsPrefix prefix log → HasPast prefix earlier → HasPast log past → Honest past book → Honest earlier book
