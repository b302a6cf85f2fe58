-- What holds between rounds, as an event comes, and once it was handled.
use Rattle.std.specs.Prelude.{◌≡◌, ◌⊎◌, ℕ, ◌≤◌, ℤ, true, List, [], ◌∷◌, ◌++◌, length, Some, None, Result, Ok, Err}
use Rattle.gw_base.specs.declared.key.Key.{Key}
use Rattle.gw_base.specs.declared.setup.Setup.{Setup}
use Rattle.gw_site.specs.Observed.{Observed}
use Rattle.gw_site.specs.Outside.{Outside, outside_after, is_connected, heard_on}
use Rattle.gw_site.specs.declared.site.What.{What}
use Rattle.gw_site.specs.declared.site.What.TheVariants.{TillOpened, TillBytes, TillClosed, PtBytes, PtClosed, Nothing, Stopped as StopPolled}
use Rattle.gw_site.specs.declared.turn.Turn.{Turn}
use Rattle.gw_site.specs.declared.turn.Turn.TheVariants.{Opened, HeardTill, Polled, Stopped as StopTurn}
use Rattle.gw_owes.specs.Core.{new_core}
use Rattle.gw_owes.specs.Events.{till_bytes_items, till_opened_items}
use Rattle.gw_owes.specs.Items.{RoundItem}
use Rattle.gw_owes.specs.Row.{Known}
use Rattle.gw_rules.specs.Scene.{Scene}
use Rattle.gw_rules.specs.Stage.{Over, is_running}
use Rattle.gw_rules.specs.Triple.{Owing, AtEvent}
use Rattle.gw_rules.specs.View.{View}
use Rattle.gw_dispatch.specs.Growth.{MakesPolls}
use Rattle.gw_dispatch.specs.RunState.{IsWell}
use Rattle.gw_dispatch.specs.MidRound.{AllHear, AreLinked, AreReady, BeforePtChunk, BeforePtClosed, MidRound, due_items, keys_waiting}
use Rattle.gw_dispatch.specs.Round.{HoldsTills, InRound, known_at}
use Rattle.gw_dispatch.specs.Serving.{AfterFault}
use Rattle.gw_dispatch.specs.Tills.{AreWaiting}
use Rattle.gw_dispatch.specs.declared.fault.TurnFault.{TurnFault}
use Rattle.gw_dispatch.specs.declared.engine.Dispatch.{Dispatch}
use Rattle.gw_dispatch.specs.declared.engine.RoundEnd.{RoundEnd}
use Rattle.gw_dispatch.specs.declared.engine.RoundEnd.TheVariants.{Went, Stopped}

-- ---- once a run is opened

-- a run with this setup goes on, and nothing has happened in it but its opening: no till is there, no terminal is linked, no poll was made, and no record is in flight
pub record IsNewlyOpened (setup : Setup) (scene : Scene) : Type 0 where
  pub setup_is : scene.setup ≡ Some setup
  pub running : is_running scene.stage ≡ true
  pub tills : scene.outside.tills ≡ []
  pub links : scene.outside.links ≡ []
  pub polls : scene.polls ≡ 0
  pub core_is : scene.core ≡ new_core setup
  pub flight : scene.flight ≡ None

-- its opening is done, and nothing is owed
abbrev pub IsRunOpened : Setup → View → Type 0
IsRunOpened setup v = (scene : Scene) × Owing scene [] [] v × IsNewlyOpened setup scene

-- ---- between rounds

-- what is held is in order, its journal stands for the site, each till's reader holds less than a frame, and each terminal's less than an APDU
pub record IsReady (dispatch : Dispatch) (observed : Observed) : Type 0 where
  pub well : IsWell dispatch.state observed
  pub tills : AreWaiting dispatch.tills.list.items
  pub terminals : AreReady dispatch.state.core dispatch.readers.items

-- what is held is that of the outside: its tills, its links, and the rest of what was heard on each link
pub record MatchesOutside (dispatch : Dispatch) (o : Outside) : Type 0 where
  pub tills_are : HoldsTills dispatch.tills.list.items o
  pub linked : AreLinked dispatch.state.core o
  pub hear : AllHear dispatch.readers.items o

-- a run with this setup goes on, with so many polls, and this is held in it: what is kept is what the ledger has, and no record is in flight
pub record IsHeldRun (setup : Setup) (dispatch : Dispatch) (polls : ℕ) (scene : Scene) : Type 0 where
  pub setup_is : scene.setup ≡ Some setup
  pub running : is_running scene.stage ≡ true
  pub polls_are : scene.polls ≡ polls
  pub core_is : scene.core ≡ dispatch.state.core
  pub kept_is : scene.kept ≡ dispatch.state.records.ledger.records
  pub flight : scene.flight ≡ None
  pub matches : MatchesOutside dispatch scene.outside

-- between two rounds nothing is owed
abbrev pub IsBetweenRounds : Setup → Dispatch → ℕ → View → Type 0
IsBetweenRounds setup dispatch polls v = (scene : Scene) × Owing scene [] [] v × IsHeldRun setup dispatch polls scene

-- Inner: the site was polled, and nothing of its event was handled yet
abbrev pub IsPolled : Setup → Dispatch → ℕ → ℤ → What → List ℕ → View → Type 0
IsPolled setup dispatch polls now what buf v = (scene : Scene) × AtEvent scene now what buf v × IsHeldRun setup dispatch polls scene

-- ---- events

-- Inner: what is known in a run with this setup at this moment, by what is held: what is kept is what the ledger has
abbrev pub known_by : Setup → Dispatch → ℤ → Known
known_by setup dispatch now = known_at setup dispatch.state.core dispatch.state.records.ledger.records now

-- Inner: what may be due after an event
abbrev pub due_in : Dispatch → List RoundItem
due_in dispatch = due_items (length dispatch.state.core.terminals) (keys_waiting dispatch.state.core)

-- Inner: a till that is there has sent this chunk, and nothing of it was handled yet
pub record BringsChunk (setup : Setup) (dispatch : Dispatch) (polls : ℕ) (now : ℤ) (till : ℕ) (chunk : List ℕ) (before : Outside) (v : View) : Type 0 where
  pub round : InRound (known_by setup dispatch now) polls (outside_after before (HeardTill till chunk)) (till_bytes_items till (heard_on before.tills till) chunk ++ due_in dispatch) v
  pub matches : MatchesOutside dispatch before
  pub connected : is_connected before.tills till ≡ true

-- Inner: this chunk of a till has come, and nothing of it was handled yet
abbrev pub BeforeChunk : Setup → Dispatch → ℕ → ℤ → ℕ → List ℕ → View → Type 0
BeforeChunk setup dispatch polls now till chunk v = (before : Outside) × BringsChunk setup dispatch polls now till chunk before v

-- Inner: a till has opened, and nothing of it was handled yet
pub record BringsTill (setup : Setup) (dispatch : Dispatch) (polls : ℕ) (now : ℤ) (till : ℕ) (before : Outside) (v : View) : Type 0 where
  pub round : InRound (known_by setup dispatch now) polls (outside_after before (Opened till)) (till_opened_items till before.tills ++ due_in dispatch) v
  pub matches : MatchesOutside dispatch before
  pub above : before.next_till ≤ till

-- Inner: a till has opened after some outside, and nothing of it was handled yet
abbrev pub BeforeOpen : Setup → Dispatch → ℕ → ℤ → ℕ → View → Type 0
BeforeOpen setup dispatch polls now till v = (before : Outside) × BringsTill setup dispatch polls now till before v

-- Inner: a terminal has sent this chunk, and nothing of it was handled yet
abbrev pub BeforePtBytes : Setup → Dispatch → ℕ → ℤ → ℕ → List ℕ → View → Type 0
BeforePtBytes setup dispatch polls now pt chunk v = BeforePtChunk setup dispatch.state.core dispatch.state.records.ledger.records dispatch.readers.items dispatch.tills.list.items polls now pt chunk (due_in dispatch) v

-- Inner: a terminal has closed its connection, and nothing of it was handled yet
abbrev pub BeforePtEnd : Setup → Dispatch → ℕ → ℤ → ℕ → View → Type 0
BeforePtEnd setup dispatch polls now pt v = BeforePtClosed setup dispatch.state.core dispatch.state.records.ledger.records dispatch.readers.items dispatch.tills.list.items polls now pt (due_in dispatch) v

-- Inner: what the event has brought was handled, and these items come; this is held
abbrev pub IsHandling : Setup → Dispatch → ℕ → ℤ → List RoundItem → View → Type 0
IsHandling setup dispatch polls now items v = MidRound setup dispatch.state.core dispatch.state.records.ledger.records dispatch.tills.list.items polls now (AllHear dispatch.readers.items) [] items v

-- Inner: what the event has brought was handled, and what may be due comes, of the requests that waited as it came
abbrev pub IsHandled : Setup → Dispatch → ℕ → ℤ → View → Type 0
IsHandled setup dispatch polls now v = (keys : List Key) × IsHandling setup dispatch polls now (due_items (length dispatch.state.core.terminals) keys) v

-- Inner: a till has opened, or bytes of one have come
abbrev pub IsOfTill : What → Type 0
IsOfTill StopPolled = ⊥
IsOfTill (TillOpened till) = Unit {0}
IsOfTill (TillBytes till count) = Unit {0}
IsOfTill (TillClosed till) = ⊥
IsOfTill (PtBytes pt count) = ⊥
IsOfTill (PtClosed pt) = ⊥
IsOfTill Nothing = ⊥

-- the stop was polled, and what is kept is what the ledger has
pub record HasStopped (dispatch : Dispatch) (v : View) : Type 0 where
  pub over : v.scene.stage ≡ Over
  pub kept : v.scene.kept ≡ dispatch.state.records.ledger.records

-- Inner: after what an event has brought
abbrev pub AfterEvent : Result RoundEnd TurnFault → Setup → Dispatch → ℕ → ℤ → View → Type 0
AfterEvent (Ok Went) setup dispatch polls now v = IsHandled setup dispatch polls now v
AfterEvent (Ok Stopped) setup dispatch polls now v = HasStopped dispatch v
AfterEvent (Err fault) setup dispatch polls now v = AfterFault fault v

-- a round that has ended so has made one poll, and nothing after it where that has brought the stop; or the site is dark
abbrev pub HasPolledOnce : RoundEnd → List Turn → Observed → Type 0
HasPolledOnce Went before new = MakesPolls 1 before new
HasPolledOnce Stopped before new = (new.dark ≡ true) ⊎ ((now : ℤ) × (new.log ≡ Some (before ++ Polled now ∷ StopTurn ∷ [])))

-- after a round
abbrev pub AfterRound : Result RoundEnd TurnFault → Setup → Dispatch → ℕ → View → Type 0
AfterRound (Ok Went) setup dispatch polls v = IsBetweenRounds setup dispatch polls v
AfterRound (Ok Stopped) setup dispatch polls v = HasStopped dispatch v
AfterRound (Err fault) setup dispatch polls v = AfterFault fault v
