-- The books of played terminals: what each of them books along a course, with its places.
use Rattle.std.specs.Prelude.{◌≡◌, ℕ, ◌+◌, Bool, true, false, bytes_eq, if◌then◌else◌, List, [], ◌∷◌, ◌++◌, map, length, drop, slice_get, Some}
use Rattle.std.specs.List.{flat_map, list_any}
use Rattle.gw_site.specs.declared.turn.Turn.{Turn}
use Rattle.gw_site.specs.declared.turn.Turn.TheVariants.{Start, OpenFailed, Polled, Opened, HeardTill, Closed, HeardPt, Lost, Stopped, Linked, LinkFailed, SentTill, SentPt, CutTill, CutPt, Wrote, Synced, DiskFailed, Crash}
use Rattle.pt_core.specs.declared.book.BookEntry.{BookEntry}
use Rattle.pt_core.specs.Exchange.{Exchange, Links, Sends, Hears, HearsSent, met_of}
use Rattle.pt_core.specs.History.{Setting, Chunk, book_after}
use Rattle.gw_rules.specs.Laws.{IsLeanCourse}
use Rattle.gw_rules.specs.Scene.{Scene}
use Rattle.gw_rules.specs.View.{View, Move, Begin, Read, Make, after, at_first}
use Rattle.gw_books.specs.Kinds.{BookedKind, BookedPayment, BookedReversal}
use Rattle.gw_books.specs.Agrees.{Agrees}
use Rattle.gw_books.specs.Books.{BookedEntry, Honest}
use Rattle.gw_books.specs.Past.{Numbering, MadeLink, Past, past_of, poi_of_number}

-- ---- the connection of a terminal

-- one thing that is done on the connection of a terminal, at a place
pub record PlacedExchange : Type 0 where
  pub place : ℕ
  pub exchange : Exchange

-- without their places
abbrev pub exchanges_in : List PlacedExchange → List Exchange
exchanges_in placed = map (λ (one : PlacedExchange). one.exchange) placed

-- this, where the terminal of this number has the POIID
abbrev pub where_poi : Scene → List ℕ → ℕ → Exchange → List Exchange
where_poi scene poi pt exchange = if bytes_eq (poi_of_number scene pt) poi then exchange ∷ [] else []

-- what a turn does on the connection of the terminal with this POIID: the gateway links, sends bytes, which the terminal hears also where the send fails, and hears bytes
abbrev pub done_by : Scene → List ℕ → Turn → List Exchange
done_by scene poi (Start setup) = []
done_by scene poi OpenFailed = []
done_by scene poi (Polled now) = []
done_by scene poi (Opened till) = []
done_by scene poi (HeardTill till bytes) = []
done_by scene poi (Closed till) = []
done_by scene poi (HeardPt pt bytes) = where_poi scene poi pt (Hears bytes)
done_by scene poi (Lost pt) = []
done_by scene poi Stopped = []
done_by scene poi (Linked pt) = where_poi scene poi pt Links
done_by scene poi (LinkFailed pt) = []
done_by scene poi (SentTill till bytes sent) = []
done_by scene poi (SentPt pt bytes sent) = where_poi scene poi pt (Sends bytes)
done_by scene poi (CutTill till) = []
done_by scene poi (CutPt pt) = []
done_by scene poi (Wrote offset bytes) = []
done_by scene poi Synced = []
done_by scene poi DiskFailed = []
done_by scene poi (Crash file) = []

-- what was done once one more move was made, the newest first; so many turns were before it
abbrev pub exchanges_after : List ℕ → View → ℕ → List PlacedExchange → Move → List PlacedExchange
exchanges_after poi v place exchanges Begin = exchanges
exchanges_after poi v place exchanges (Read as_read) = exchanges
exchanges_after poi v place exchanges (Make turn) = map (λ exchange. record { place = place; exchange = exchange }) (done_by v.scene poi turn) ++ exchanges

-- how many turns there are once one more move was made
abbrev pub place_then : ℕ → Move → ℕ
place_then place Begin = place
place_then place (Read as_read) = place
place_then place (Make turn) = place + 1

-- what was done once more moves were made
abbrev pub exchanges_from : List ℕ → View → ℕ → List PlacedExchange → List Move → List PlacedExchange
exchanges_from poi v place exchanges [] = exchanges
exchanges_from poi v place exchanges (move ∷ moves) = exchanges_from poi (after v move) (place_then place move) (exchanges_after poi v place exchanges move) moves

-- what is done on the connection of a terminal along a course
abbrev pub exchanges_of : List ℕ → List Move → List PlacedExchange
exchanges_of poi moves = exchanges_from poi at_first 0 [] moves

-- ---- its book

-- the entries that an exchange adds to the book of a played terminal
abbrev pub booked_by : Setting → List Exchange → Exchange → List BookEntry
booked_by setting before Links = []
booked_by setting before (Sends bytes) = drop (length (book_after setting (met_of before))) (book_after setting (Chunk bytes ∷ met_of before))
booked_by setting before (Hears bytes) = []

-- the one numbering of a played terminal
abbrev pub played_numbering : List ℕ → Numbering
played_numbering poi = record { poi = poi }

-- the kind of what it books: a reversal, or else a payment
abbrev pub kind_played : Bool → BookedKind
kind_played true = BookedReversal
kind_played false = BookedPayment

-- an entry of the terminal with this POIID that the send at this place has caused: it is older than the next turn
abbrev pub placed_entry : List ℕ → ℕ → BookEntry → BookedEntry
placed_entry poi place entry = record {
  numbering = played_numbering poi;
  place = place + 1;
  cause = Some place;
  kind = kind_played entry.reversal;
  number = entry.number;
  receipt = entry.receipt;
  amount = entry.amount;
  approved = entry.approved;
}

-- what a played terminal books, with its places
abbrev pub book_along : Setting → List ℕ → List PlacedExchange → List BookedEntry
book_along setting poi [] = []
book_along setting poi (one ∷ before) = book_along setting poi before ++ map (placed_entry poi one.place) (booked_by setting (exchanges_in before) one.exchange)

-- what the terminals with these POIIDs book along a course, each by its setting
abbrev pub played_book : (List ℕ → Setting) → List (List ℕ) → List Move → List BookedEntry
played_book settings pois moves = flat_map (λ poi. book_along (settings poi) poi (exchanges_of poi moves)) pois

-- ---- the law

-- each terminal is a played one: at each hearing, what was heard on its link is a prefix of what it had sent there
abbrev pub ArePlayed : (List ℕ → Setting) → List Move → Type 0
ArePlayed settings moves = (poi : List ℕ) → HearsSent (settings poi) (exchanges_in (exchanges_of poi moves))

-- no POIID comes twice
abbrev pub AreApart : List (List ℕ) → Type 0
AreApart [] = Unit {0}
AreApart (poi ∷ pois) = (list_any (bytes_eq poi) pois ≡ false) × AreApart pois

-- those of all terminals that were linked are among these
abbrev pub HaveAllLinked : List (List ℕ) → Past → Type 0
HaveAllLinked pois past = (at : ℕ) (link : MadeLink) → slice_get past.links at ≡ Some link → list_any (bytes_eq link.numbering.poi) pois ≡ true

-- along each lawful log whose terminals are played ones, with whatever settings, their book is honest
abbrev pub PlayedIsHonest : Type 0
PlayedIsHonest =
    (log : List Turn) (moves : List Move) (settings : List ℕ → Setting) (pois : List (List ℕ)) → IsLeanCourse log moves → ArePlayed settings moves → AreApart pois → HaveAllLinked pois (past_of moves)
    → Honest (past_of moves) (played_book settings pois moves)

-- so what was done and said agrees with it
abbrev pub PlayedAgrees : Type 0
PlayedAgrees =
    (log : List Turn) (moves : List Move) (settings : List ℕ → Setting) (pois : List (List ℕ)) → IsLeanCourse log moves → ArePlayed settings moves → AreApart pois → HaveAllLinked pois (past_of moves)
    → Agrees (past_of moves) (played_book settings pois moves)
