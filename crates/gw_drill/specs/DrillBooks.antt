-- The books of the drill's terminals, by its log.
use Rattle.std.specs.Prelude.{◌≡◌, ℕ, ◌==◌, true, bytes_eq, if◌then◌else◌, List, [], ◌∷◌, ◌++◌, reverse, Some}
use Rattle.std.specs.List.{flat_map}
use Rattle.gw_base.specs.declared.setup.Setup.{Setup}
use Rattle.gw_site.specs.Steps.{SiteStep}
use Rattle.gw_site.specs.declared.turn.Turn.{Turn}
use Rattle.gw_site.specs.declared.turn.Turn.TheVariants.{Start, OpenFailed, Polled, Opened, HeardTill, Closed, HeardPt, Lost, Stopped, Linked, LinkFailed, SentTill, SentPt, CutTill, CutPt, Wrote, Synced, DiskFailed, Crash}
use Rattle.pt_core.specs.Exchange.{Exchange, Links, Sends, Hears, HearsSent, met_of}
use Rattle.pt_core.specs.History.{Setting, book_after}
use Rattle.pt_core.specs.declared.book.BookEntry.{BookEntry}
use Rattle.gw_script.specs.site.Calls.{LeadsBy, are_scripted}
use Rattle.gw_script.specs.site.Drill.{drill_begins, drill_given, drill_payments, drill_poi, drill_setting}
use Rattle.gw_script.specs.site.Peers.{book_of_peer}
use Rattle.gw_script.specs.site.Playing.{Play}
use Rattle.gw_script.specs.site.ScriptLine.{setup_of}
use Rattle.gw_rules.specs.Laws.{IsLeanCourse}
use Rattle.gw_rules.specs.View.{Move}
use Rattle.gw_books.specs.Agrees.{Agrees}
use Rattle.gw_books.specs.Books.{Honest}
use Rattle.gw_books.specs.Past.{past_of}
use Rattle.gw_played.specs.Played.{exchanges_in, exchanges_of, played_book}

-- ---- the connection of a terminal

-- this, where the turn is of the terminal of this number
abbrev pub where_number : ℕ → ℕ → Exchange → List Exchange
where_number number pt exchange = if pt == number then exchange ∷ [] else []

-- what a turn does on the connection of the terminal of this number
abbrev pub exchange_at : ℕ → Turn → List Exchange
exchange_at number (Start setup) = []
exchange_at number OpenFailed = []
exchange_at number (Polled now) = []
exchange_at number (Opened till) = []
exchange_at number (HeardTill till bytes) = []
exchange_at number (Closed till) = []
exchange_at number (HeardPt pt bytes) = where_number number pt (Hears bytes)
exchange_at number (Lost pt) = []
exchange_at number Stopped = []
exchange_at number (Linked pt) = where_number number pt Links
exchange_at number (LinkFailed pt) = []
exchange_at number (SentTill till bytes sent) = []
exchange_at number (SentPt pt bytes sent) = where_number number pt (Sends bytes)
exchange_at number (CutTill till) = []
exchange_at number (CutPt pt) = []
exchange_at number (Wrote offset bytes) = []
exchange_at number Synced = []
exchange_at number DiskFailed = []
exchange_at number (Crash file) = []

-- what a log does on it, the newest first
abbrev pub exchanges_at : ℕ → List Turn → List Exchange
exchanges_at number log = reverse (flat_map (exchange_at number) log)

-- ---- its book

-- how the drill's terminal of this number is played
abbrev pub setting_at : ℕ → ℕ → ℕ → Setting
setting_at from payments pt = drill_setting pt (drill_payments from payments)

-- its book, by the commands that it was sent along a log
abbrev pub drill_book : ℕ → ℕ → ℕ → List Turn → List BookEntry
drill_book from payments pt log = book_after (setting_at from payments pt) (met_of (exchanges_at pt log))

-- ---- both

-- the setup of the drill
abbrev pub drill_setup : Setup
drill_setup = setup_of drill_given

-- the POIIDs of its terminals
abbrev pub drill_pois : List (List ℕ)
drill_pois = drill_poi 0 ∷ drill_poi 1 ∷ []

-- how the terminal with this POIID is played
abbrev pub drill_settings : ℕ → ℕ → List ℕ → Setting
drill_settings from payments poi = if bytes_eq poi (drill_poi 0) then setting_at from payments 0 else setting_at from payments 1

-- along the one lean course of a log the books of the drill's terminals, with their places, are honest, and so what was done and said agrees with them
pub record AreHonest (from payments : ℕ) (log : List Turn) : Type 0 where
  pub moves : List Move
  pub lean : IsLeanCourse log moves
  pub honest : Honest (past_of moves) (played_book (drill_settings from payments) drill_pois moves)
  pub agrees : Agrees (past_of moves) (played_book (drill_settings from payments) drill_pois moves)
  -- they are the books of the terminals by their numbers
  pub first : exchanges_in (exchanges_of (drill_poi 0) moves) ≡ exchanges_at 0 log
  pub second : exchanges_in (exchanges_of (drill_poi 1) moves) ≡ exchanges_at 1 log

-- each run starts with this setup
abbrev pub StartWith : Setup → List Turn → Type 0
StartWith own log = (before after : List Turn) (setup : Setup) → log ≡ before ++ Start setup ∷ after → setup ≡ own

-- at this place of the drill, with this log, the books of its terminals are those by the log, and at each hearing of one what was heard is a prefix of what it had sent
pub record IsDrillAt (from payments : ℕ) (log : List Turn) (place : Play) : Type 0 where
  pub first_book : book_of_peer place.peers 0 ≡ Some (drill_book from payments 0 log)
  pub second_book : book_of_peer place.peers 1 ≡ Some (drill_book from payments 1 log)
  pub first_hears : HearsSent (setting_at from payments 0) (exchanges_at 0 log)
  pub second_hears : HearsSent (setting_at from payments 1) (exchanges_at 1 log)

-- ---- the laws

-- so it is wherever steps have led, none of which was beside the drill
abbrev pub DrillIsAt : Type 0
DrillIsAt = (from payments : ℕ) (steps : List SiteStep) (log : List Turn) (place : Play) → are_scripted steps ≡ true → LeadsBy [] (drill_begins from payments) steps log place → IsDrillAt from payments log place

-- the books of the drill's terminals are honest for each lawful log whose runs start with the drill's setup, and in which at each hearing of a terminal what was heard is a prefix of what it had sent
abbrev pub DrillIsHonest : Type 0
DrillIsHonest = (from payments : ℕ) (log : List Turn) (moves : List Move) → IsLeanCourse log moves → StartWith drill_setup log
    → HearsSent (setting_at from payments 0) (exchanges_at 0 log) → HearsSent (setting_at from payments 1) (exchanges_at 1 log) → AreHonest from payments log
