-- The contract of whatever drives a site: a triple over the view, from before its calls to after them.
use Rattle.std.specs.Prelude.{◌≡◌, ◌⊎◌, ℕ, ℤ, map, Bool, Result, Ok, Err, true, false, List, [], ◌∷◌, ◌++◌, Some, None}
use Rattle.gw_base.specs.declared.setup.Setup.{Setup}
use Rattle.gw_site.specs.Observed.{Observed}
use Rattle.gw_site.specs.declared.turn.Turn.{Turn}
use Rattle.gw_site.specs.declared.turn.Turn.TheVariants.{Start, OpenFailed, Polled, Linked, LinkFailed, SentTill, SentPt, CutPt, Crash}
use Rattle.gw_site.specs.Turns.{event_turns, IsPromised}
use Rattle.gw_site.specs.declared.site.What.{What}
use Rattle.gw_owes.specs.Calls.{OwedCall, CutTill, CutPt as OwedCutPt}
use Rattle.gw_owes.specs.Core.{new_core}
use Rattle.gw_owes.specs.Items.{RoundItem}
use Rattle.gw_owes.specs.Row.{Row}
use Rattle.gw_site.specs.Steps.{Takes}
use Rattle.gw_rules.specs.Acts.{Act, AreDue, AreOwed, IsDone, Unopened}
use Rattle.gw_rules.specs.Lawful.{IsCourse, turns_of, Stands, IsClear}
use Rattle.gw_rules.specs.Opening.{opening}
use Rattle.gw_rules.specs.Scene.{Scene, records_of, link_made_at, link_lost_at}
use Rattle.gw_rules.specs.Stage.{Opening}
use Rattle.gw_site.specs.Sorts.{IsQuiet}
use Rattle.gw_rules.specs.View.{View, Move, Make, view_from, called}

-- the log goes on from this view by allowed moves, none of which begins a run or fails the power; what is done is due by this; and where the site isn't dark then, Q holds of the view
pub record ExtendsBy (Due : Bool → View → List Act → Type 0) (old : Observed) (before : List Turn) (v : View) (new : Observed) (Q : View → Type 0) : Type 0 where
  pub moves : List Move
  pub log_is : new.log ≡ Some (before ++ turns_of moves)
  pub lawful : IsCourse v moves
  pub quiet : IsQuiet (turns_of moves)
  pub done : IsDone (Due new.dark) old.plan new.plan v moves
  pub owed : new.dark ≡ false → Q (view_from v moves)

-- Where a lawful log is observed, and P holds of its view unless the site is dark, the log goes on lawfully, by what is due, and Q holds of the view then unless the site is dark. A dark site adds nothing and stays dark.
pub record TripleBy (Due : Bool → View → List Act → Type 0) (old new : Observed) (P Q : View → Type 0) : Type 0 where
  pub observed : (before : List Turn) (v : View) → old.log ≡ Some before → Stands before v → (old.dark ≡ false → P v) → ExtendsBy Due old before v new Q
  pub unobserved : old.log ≡ None → new.log ≡ None
  pub stays : old.dark ≡ true → new.dark ≡ true
  pub still : old.dark ≡ true → new.log ≡ old.log
  pub rests : old.dark ≡ true → Takes old.plan new.plan []
  pub origin : new.origin ≡ old.origin

-- what is done is owed
abbrev pub IsOwedBy : Bool → View → List Act → Type 0
IsOwedBy dark v acts = AreOwed v acts

-- the log goes on so by what is owed
abbrev pub Extends : Observed → List Turn → View → Observed → (View → Type 0) → Type 0
Extends old before v new Q = ExtendsBy IsOwedBy old before v new Q

-- the triple by what is owed
abbrev pub Triple : Observed → Observed → (View → Type 0) → (View → Type 0) → Type 0
Triple old new P Q = TripleBy IsOwedBy old new P Q

-- the view has this scene, these calls and these items
abbrev pub Owing : Scene → List OwedCall → List RoundItem → View → Type 0
Owing scene calls items v = v ≡ record { scene = scene; calls = calls; items = items }

-- Inner: after the reply that is owed last was sent to a till: nothing is owed before these items, or where the send failed and took these bytes, the cut of the connection
abbrev pub Sent : {E : Type 0} → Result (Unit {0}) E → Scene → ℕ → List ℕ → List RoundItem → View → Type 0
Sent (Ok done) scene till bytes items v = Owing (called scene (SentTill till bytes true)) [] items v
Sent (Err failed) scene till bytes items v = (taken : List ℕ) × Owing (called scene (SentTill till taken false)) (CutTill till ∷ []) items v

-- Inner: after what is owed last was sent to a terminal: nothing is owed before these items, or where the send failed and took these bytes, the cut of the connection
abbrev pub SentToPt : {E : Type 0} → Result (Unit {0}) E → Scene → ℕ → List ℕ → List RoundItem → View → Type 0
SentToPt (Ok done) scene pt bytes items v = Owing (called scene (SentPt pt bytes true)) [] items v
SentToPt (Err failed) scene pt bytes items v = (taken : List ℕ) × Owing (called scene (SentPt pt taken false)) (OwedCutPt pt ∷ []) items v

-- Inner: in this scene what this row says is remembered and owed, before these items
abbrev pub OwingRow : Scene → Row → List RoundItem → View → Type 0
OwingRow scene row items v = Owing (record scene { core = row.core }) row.calls (row.items ++ items) v

-- Inner: after a terminal's connection was cut: what the loss of its link leaves and owes, before these items
abbrev pub CutOfPt : Scene → ℕ → List RoundItem → View → Type 0
CutOfPt scene pt items v = OwingRow (called scene (CutPt pt)) (link_lost_at scene pt) items v

-- Inner: after the connection of a terminal was tried: what the link that is made leaves and owes, or where it isn't made what a loss does, before these items
abbrev pub LinkTried : {E : Type 0} → Result (Unit {0}) E → Scene → ℕ → List RoundItem → View → Type 0
LinkTried (Ok done) scene pt items v = OwingRow (called scene (Linked pt)) (link_made_at scene pt) items v
LinkTried (Err failed) scene pt items v = OwingRow (called scene (LinkFailed pt)) (link_lost_at scene pt) items v

-- Inner: the view after a poll and its event
abbrev pub event_view : Scene → ℤ → What → List ℕ → View
event_view scene now what buf = view_from (record { scene = scene; calls = []; items = [] }) (map Make (Polled now ∷ event_turns what buf))

-- Inner: after a poll and its event, which was promised
abbrev pub AtEvent : Scene → ℤ → What → List ℕ → View → Type 0
AtEvent scene now what buf v = (v ≡ event_view scene now what buf) × IsPromised scene.outside what

-- a run with this setup has just begun
pub record IsNewRun (setup : Setup) (scene : Scene) : Type 0 where
  pub setup_is : scene.setup ≡ Some setup
  pub stage : scene.stage ≡ Opening (opening setup scene.outside.file (records_of scene)).refused
  pub tills : scene.outside.tills ≡ []
  pub links : scene.outside.links ≡ []
  pub polls : scene.polls ≡ 0
  pub core_is : scene.core ≡ new_core setup

-- and the calls of its opening are owed
abbrev pub JustBegun : Setup → View → Type 0
JustBegun setup v = (scene : Scene) × Owing scene (opening setup scene.outside.file (records_of scene)).calls [] v × IsNewRun setup scene

-- these turns are a start with this setup and then the turns of its run
abbrev pub IsFromStart : Setup → List Turn → List Turn → Type 0
IsFromStart setup run turns = turns ≡ Start setup ∷ run

-- these turns are a power failure, then a start with this setup, and then the turns of its run
abbrev pub IsFromCrash : Setup → List Turn → List Turn → Type 0
IsFromCrash setup run turns = (file : List ℕ) × (turns ≡ Crash file ∷ Start setup ∷ run)

-- these turns are one run with this setup, with one power failure before it at most
abbrev pub IsStarted : Setup → List Turn → Type 0
IsStarted setup turns = (run : List Turn) × IsQuiet run × (IsFromStart setup run turns ⊎ IsFromCrash setup run turns)

-- Inner: nothing, or the turns of one run with this setup
abbrev pub IsBegun : Setup → List Turn → Type 0
IsBegun setup turns = (turns ≡ []) ⊎ IsStarted setup turns

-- what one run of the engine adds to a log: nothing, one failed opening, or the turns of one run
abbrev pub IsRun : Setup → List Turn → Type 0
IsRun setup turns = (turns ≡ []) ⊎ ((turns ≡ OpenFailed ∷ []) ⊎ IsStarted setup turns)

-- the log goes on from this view by allowed moves, with turns of this shape; what is done is due by this; where there are no turns the site is dark, and where it isn't, Q holds of the view
pub record RanBy (Due : Bool → View → List Act → Type 0) (old : Observed) (before : List Turn) (v : View) (new : Observed) (Shape : List Turn → Type 0) (Q : View → Type 0) : Type 0 where
  pub moves : List Move
  pub log_is : new.log ≡ Some (before ++ turns_of moves)
  pub lawful : IsCourse v moves
  pub shape : Shape (turns_of moves)
  pub done : IsDone (Due new.dark) old.plan new.plan v moves
  pub none : turns_of moves ≡ [] → new.dark ≡ true
  pub owed : new.dark ≡ false → Q (view_from v moves)

-- Where a lawful and clear log is observed, one run at most is added to it, lawfully, by what is due.
pub record RunTripleBy (Due : Bool → View → List Act → Type 0) (old new : Observed) (Shape : List Turn → Type 0) (Q : View → Type 0) : Type 0 where
  pub observed : (before : List Turn) (v : View) → old.log ≡ Some before → Stands before v → IsClear v → RanBy Due old before v new Shape Q
  pub unobserved : old.log ≡ None → new.log ≡ None
  pub origin : new.origin ≡ old.origin

-- what is done is due in a gateway whose runs start with this setup, from the opening of the site on
abbrev pub IsDueFromOpening : Setup → Bool → View → List Act → Type 0
IsDueFromOpening own dark v acts = AreDue own v Unopened acts

-- the log goes on so by a run with this setup
abbrev pub Ran : Setup → Observed → List Turn → View → Observed → (List Turn → Type 0) → (View → Type 0) → Type 0
Ran own old before v new Shape Q = RanBy (IsDueFromOpening own) old before v new Shape Q

-- one run at most, with this setup
abbrev pub RunTriple : Setup → Observed → Observed → (List Turn → Type 0) → (View → Type 0) → Type 0
RunTriple own old new Shape Q = RunTripleBy (IsDueFromOpening own) old new Shape Q
