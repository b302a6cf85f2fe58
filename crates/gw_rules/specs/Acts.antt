-- What is done along a course: items begin and are read, and the site takes steps, each of which is due.
use Rattle.std.specs.Prelude.{◌≡◌, ◌⊎◌, ℕ, ◌+◌, ◌*◌, nat_le, nat_lt, Bool, true, false, ◌&&◌, if◌then◌else◌, List, [], ◌∷◌, ◌++◌, length, map, Option}
use Rattle.gw_base.specs.declared.setup.Setup.{Setup}
use Rattle.gw_site.specs.Steps.{Plan, SiteCall, OpenCall, PollCall, SendTillCall, SendPtCall, LinkCall, CutTillCall, CutPtCall, LengthCall, ReadCall, WriteCall, SyncCall, SiteStep, Made, PowerBack, StopAfter, Holding, TakenStep, Takes}
use Rattle.gw_owes.specs.Calls.{OwedCall, site_call}
use Rattle.gw_owes.specs.ReadAs.{ReadAs}
use Rattle.gw_rules.specs.Lawful.{IsNext, MayPoll}
use Rattle.gw_rules.specs.Stage.{is_looking}
use Rattle.gw_rules.specs.View.{View, Move, Begin, Read, Make, after, view_from}

-- ---- acts

-- one thing that is done
pub data Act : Type 0 where
  -- the first item begins
  ToBegin : Act
  -- the first item is read as this
  ToRead : ReadAs → Act
  -- the site takes a step, with its turns
  ToTake : TakenStep → Act

-- the moves that they are
abbrev pub moves_of : List Act → List Move
moves_of [] = []
moves_of (ToBegin ∷ acts) = Begin ∷ moves_of acts
moves_of (ToRead as_read ∷ acts) = Read as_read ∷ moves_of acts
moves_of (ToTake taken ∷ acts) = map Make taken.turns ++ moves_of acts

-- the steps that are taken
abbrev pub taken_of : List Act → List TakenStep
taken_of [] = []
taken_of (ToBegin ∷ acts) = taken_of acts
taken_of (ToRead as_read ∷ acts) = taken_of acts
taken_of (ToTake taken ∷ acts) = taken ∷ taken_of acts

-- the view after one more act
abbrev pub after_act : View → Act → View
after_act v ToBegin = after v Begin
after_act v (ToRead as_read) = after v (Read as_read)
after_act v (ToTake taken) = view_from v (map Make taken.turns)

-- ---- calls that are owed

-- the call makes the first that is owed, with its bytes; or where nothing is owed in a run that goes on, it polls
abbrev pub IsOwedCall : View → SiteCall → Type 0
IsOwedCall v call = ((owed : OwedCall) × IsNext v owed × (call ≡ site_call owed)) ⊎ (MayPoll v × (call ≡ PollCall))

-- the step is a call that is owed
abbrev pub IsOwedStep : View → SiteStep → Type 0
IsOwedStep v (Made call) = IsOwedCall v call
IsOwedStep v PowerBack = ⊥
IsOwedStep v (StopAfter calls kind) = ⊥
IsOwedStep v (Holding file) = ⊥

-- the act takes no step, or one that is owed
abbrev pub IsOwedAct : View → Act → Type 0
IsOwedAct v ToBegin = Unit {0}
IsOwedAct v (ToRead as_read) = Unit {0}
IsOwedAct v (ToTake taken) = IsOwedStep v taken.step

-- each step that is taken is a call that is owed where it comes
abbrev pub AreOwed : View → List Act → Type 0
AreOwed v [] = Unit {0}
AreOwed v (act ∷ acts) = IsOwedAct v act × AreOwed (after_act v act) acts

-- ---- calls that are due, from the opening of the site on

-- how far a run has looked at the journal's file, which leaves no turn
pub data Look : Type 0 where
  -- the site is to be opened
  Unopened : Look
  -- the file's length is to be asked once the file was synced
  Unmeasured : Look
  -- the file is to be read
  Measured : Look
  -- no more need be looked at
  Looked : Look

-- the file has slots to read: it is looked at, and its length is more than one byte and no more than the slots take
abbrev pub is_to_read : ℕ → View → Bool
is_to_read slots v = is_looking v.scene.stage && nat_lt 1 (length v.scene.outside.file) && nat_le (length v.scene.outside.file) (256 * slots + 1)

-- how far it has looked after a call
abbrev pub look_after_call : Setup → View → Look → SiteCall → Look
look_after_call own v look (OpenCall setup) = Unmeasured
look_after_call own v look PollCall = look
look_after_call own v look (SendTillCall till bytes) = look
look_after_call own v look (SendPtCall pt bytes) = look
look_after_call own v look (LinkCall pt) = look
look_after_call own v look (CutTillCall till) = look
look_after_call own v look (CutPtCall pt) = look
look_after_call own v look LengthCall = if is_to_read own.slots v then Measured else Looked
look_after_call own v look (ReadCall offset size) = Looked
look_after_call own v look (WriteCall offset bytes) = look
look_after_call own v look SyncCall = look

-- how far it has looked after a step; once the power is there again the site is to be opened
abbrev pub look_after_step : Setup → View → Look → SiteStep → Look
look_after_step own v look (Made call) = look_after_call own v look call
look_after_step own v look PowerBack = Unopened
look_after_step own v look (StopAfter calls kind) = look
look_after_step own v look (Holding file) = look

-- how far it has looked after an act
abbrev pub look_after : Setup → View → Look → Act → Look
look_after own v look ToBegin = look
look_after own v look (ToRead as_read) = look
look_after own v look (ToTake taken) = look_after_step own v look taken.step

-- how far it has looked after acts
abbrev pub look_from : Setup → View → Look → List Act → Look
look_from own v look [] = look
look_from own v look (act ∷ acts) = look_from own (after_act v act) (look_after own v look act) acts

-- a part of the file is read, of one that has slots to read
pub record IsReading (slots : ℕ) (v : View) (call : SiteCall) : Type 0 where
  pub to_read : is_to_read slots v ≡ true
  pub offset : ℕ
  pub size : ℕ
  pub call_is : call ≡ ReadCall offset size

-- while the file is looked at its length is asked, else what is owed is done
abbrev pub IsMeasuring : Bool → View → SiteCall → Type 0
IsMeasuring true v call = call ≡ LengthCall
IsMeasuring false v call = IsOwedCall v call

-- the call is due in a gateway whose runs start with this setup: it is opened; once it was synced its file is measured and read; and else what is owed is done
abbrev pub IsDueCall : Setup → View → Look → SiteCall → Type 0
IsDueCall own v Unopened call = call ≡ OpenCall own
IsDueCall own v Unmeasured call = IsMeasuring (is_looking v.scene.stage) v call
IsDueCall own v Measured call = IsReading own.slots v call
IsDueCall own v Looked call = IsOwedCall v call ⊎ IsReading own.slots v call

-- the step is due; that the power is there again may come at any time
abbrev pub IsDueStep : Setup → View → Look → SiteStep → Type 0
IsDueStep own v look (Made call) = IsDueCall own v look call
IsDueStep own v look PowerBack = Unit {0}
IsDueStep own v look (StopAfter calls kind) = ⊥
IsDueStep own v look (Holding file) = ⊥

-- the act takes no step, or one that is due
abbrev pub IsDueAct : Setup → View → Look → Act → Type 0
IsDueAct own v look ToBegin = Unit {0}
IsDueAct own v look (ToRead as_read) = Unit {0}
IsDueAct own v look (ToTake taken) = IsDueStep own v look taken.step

-- each step that is taken is due where it comes
abbrev pub AreDue : Setup → View → Look → List Act → Type 0
AreDue own v look [] = Unit {0}
AreDue own v look (act ∷ acts) = IsDueAct own v look act × AreDue own (after_act v act) (look_after own v look act) acts

-- each step is due, from one look on; and where the site isn't dark then, up to another
pub record AreDueTo (own : Setup) (first last : Look) (dark : Bool) (v : View) (acts : List Act) : Type 0 where
  pub due : AreDue own v first acts
  pub ends : dark ≡ false → look_from own v first acts ≡ last

-- ---- what is done along moves

-- the moves are those of acts, each of which may come, and whose steps the site has taken
pub record IsDone (Due : View → List Act → Type 0) (before plan : Option Plan) (v : View) (moves : List Move) : Type 0 where
  pub acts : List Act
  pub moves_are : moves_of acts ≡ moves
  pub due : Due v acts
  pub taken : Takes before plan (taken_of acts)
