-- The turns of each call of a site, and what an event promises.
use Rattle.std.specs.Prelude.{◌≡◌, ◌⊎◌, ℕ, ◌<◌, ◌≤◌, List, [], ◌∷◌, take, true, false, Result, Ok, Err}
use Rattle.gw_site.specs.Outside.{Outside, is_connected, outside_of}
use Rattle.gw_site.specs.Image.{Image}
use Rattle.gw_bytes.specs.Bytes.{AreBytes, IsPrefix}
use Rattle.gw_base.specs.declared.setup.Setup.{Setup}
use Rattle.gw_site.specs.declared.turn.Turn.{Turn}
use Rattle.gw_site.specs.declared.turn.Turn.TheVariants.{Start, OpenFailed, Polled, Opened, HeardTill, Closed, HeardPt, Lost, Stopped, Linked, LinkFailed, SentTill, SentPt, Wrote, Synced, DiskFailed, Crash}
use Rattle.gw_site.specs.declared.site.Polled.{Polled as PollResult}
use Rattle.gw_site.specs.declared.site.What.{What}
use Rattle.gw_site.specs.declared.site.What.TheVariants.{TillOpened, TillBytes, TillClosed, PtBytes, PtClosed, Nothing, Stopped as StoppedEvent}

-- opening: a start, or the power failure before it, which leaves an image of the log before, in bytes, and a start; or a failure
abbrev pub OpenTurns : {E : Type 0} → Setup → Result (Unit {0}) E → List Turn → List Turn → Type 0
OpenTurns setup (Ok done) before turns = (turns ≡ Start setup ∷ []) ⊎ ((file : List ℕ) × Image (outside_of before) file × AreBytes file × (turns ≡ Crash file ∷ Start setup ∷ []))
OpenTurns setup (Err failed) before turns = turns ≡ OpenFailed ∷ []

-- the turn of an event, where it has one
abbrev pub event_turns : What → List ℕ → List Turn
event_turns (TillOpened till) buf = Opened till ∷ []
event_turns (TillBytes till count) buf = HeardTill till (take count buf) ∷ []
event_turns (TillClosed till) buf = Closed till ∷ []
event_turns (PtBytes pt count) buf = HeardPt pt (take count buf) ∷ []
event_turns (PtClosed pt) buf = Lost pt ∷ []
event_turns Nothing buf = []
event_turns StoppedEvent buf = Stopped ∷ []

-- a poll, and then its event
abbrev pub PolledTurns : PollResult → List ℕ → List Turn → Type 0
PolledTurns result buf turns = turns ≡ Polled result.now ∷ event_turns result.what buf

-- a count of bytes is 1 to 4,096
abbrev pub IsCount : ℕ → Type 0
IsCount count = (0 < count) × (count ≤ 4096)

-- the bytes that an event counts lie in the buffer
abbrev pub IsWithinBuf : What → Type 0
IsWithinBuf (TillOpened till) = Unit {0}
IsWithinBuf (TillBytes till count) = IsCount count
IsWithinBuf (TillClosed till) = Unit {0}
IsWithinBuf (PtBytes pt count) = IsCount count
IsWithinBuf (PtClosed pt) = Unit {0}
IsWithinBuf Nothing = Unit {0}
IsWithinBuf StoppedEvent = Unit {0}

-- what an event promises: a till opens with a number above all of this run, and everything else comes of a connection that is open
abbrev pub IsPromised : Outside → What → Type 0
IsPromised o (TillOpened till) = o.next_till ≤ till
IsPromised o (TillBytes till count) = is_connected o.tills till ≡ true
IsPromised o (TillClosed till) = is_connected o.tills till ≡ true
IsPromised o (PtBytes pt count) = is_connected o.links pt ≡ true
IsPromised o (PtClosed pt) = is_connected o.links pt ≡ true
IsPromised o Nothing = Unit {0}
IsPromised o StoppedEvent = Unit {0}

-- a send to a till: all bytes, or where it failed the prefix of them that it has taken
abbrev pub SentTillTurns : {E : Type 0} → ℕ → List ℕ → Result (Unit {0}) E → List Turn → Type 0
SentTillTurns till bytes (Ok done) turns = turns ≡ SentTill till bytes true ∷ []
SentTillTurns till bytes (Err failed) turns = (taken : List ℕ) × IsPrefix taken bytes × (turns ≡ SentTill till taken false ∷ [])

-- a send to a terminal: all bytes, or where it failed the prefix of them that it has taken
abbrev pub SentPtTurns : {E : Type 0} → ℕ → List ℕ → Result (Unit {0}) E → List Turn → Type 0
SentPtTurns pt bytes (Ok done) turns = turns ≡ SentPt pt bytes true ∷ []
SentPtTurns pt bytes (Err failed) turns = (taken : List ℕ) × IsPrefix taken bytes × (turns ≡ SentPt pt taken false ∷ [])

-- linking a terminal leaves a turn whether it is linked or not
abbrev pub LinkTurns : {E : Type 0} → ℕ → Result (Unit {0}) E → List Turn → Type 0
LinkTurns pt (Ok done) turns = turns ≡ Linked pt ∷ []
LinkTurns pt (Err failed) turns = turns ≡ LinkFailed pt ∷ []

-- a look at the disk leaves a turn only where it failed
abbrev pub DiskTurns : {T E : Type 0} → Result T E → List Turn → Type 0
DiskTurns (Ok given) turns = turns ≡ []
DiskTurns (Err failed) turns = turns ≡ DiskFailed ∷ []

-- a write, which is in the log also where it failed
abbrev pub WroteTurns : {E : Type 0} → ℕ → List ℕ → Result (Unit {0}) E → List Turn → Type 0
WroteTurns offset bytes (Ok done) turns = turns ≡ Wrote offset bytes ∷ []
WroteTurns offset bytes (Err failed) turns = turns ≡ Wrote offset bytes ∷ DiskFailed ∷ []

-- a sync leaves its turn, or where it failed that of a failure of the disk
abbrev pub SyncedTurns : {E : Type 0} → Result (Unit {0}) E → List Turn → Type 0
SyncedTurns (Ok done) turns = turns ≡ Synced ∷ []
SyncedTurns (Err failed) turns = turns ≡ DiskFailed ∷ []

-- a call that cannot fail has just this turn
abbrev pub IsTurn : Turn → List Turn → Type 0
IsTurn turn turns = turns ≡ turn ∷ []
