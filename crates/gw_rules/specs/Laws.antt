-- Laws of lawful logs.
use Rattle.std.specs.Prelude.{◌≡◌, ◌≤◌, ℕ, ℤ, true, List, [], ◌∷◌, ◌++◌, length, Some}
use Rattle.gw_base.specs.Setup.{IsSetup}
use Rattle.gw_base.specs.declared.setup.Setup.{Setup}
use Rattle.gw_bytes.specs.Bytes.{AreBytes, IsPrefix}
use Rattle.gw_site.specs.Image.{Image}
use Rattle.gw_site.specs.Outside.{Outside, heard_on, outside_of}
use Rattle.gw_site.specs.declared.turn.Turn.{Turn}
use Rattle.gw_site.specs.declared.turn.Turn.TheVariants.{Start, Polled, Opened, HeardTill, HeardPt, CutTill, Crash}
use Rattle.sale_frame.specs.Grammar.{BeginsWithBadLength, Frames}
use Rattle.zvt_apdu.specs.Grammar.{ApduValue}
use Rattle.zvt_apdu.specs.Stream.{SpellsApdus}
use Rattle.gw_owes.specs.Events.{items_due}
use Rattle.gw_owes.specs.Items.{RoundItem}
use Rattle.gw_owes.specs.Laws.{ends_in_one, BringsFrames, BringsApdus}
use Rattle.gw_rules.specs.Lawful.{AllowedTurn, IsCourse, turns_of, Stands, IsLawful}
use Rattle.gw_rules.specs.Lean.{IsLean}
use Rattle.gw_site.specs.Sorts.{AreOfRound}
use Rattle.gw_rules.specs.View.{View, Move, after_turn, at_first}

-- ---- one course

-- a course along the log in which nothing begins unless a turn of its run follows
pub record IsLeanCourse (log : List Turn) (moves : List Move) : Type 0 where
  pub turns_are : turns_of moves ≡ log
  pub lawful : IsCourse at_first moves
  pub lean : IsLean moves

-- along the log there is exactly one such course
pub record HasOneLeanCourse (log : List Turn) : Type 0 where
  pub moves : List Move
  pub is_course : IsLeanCourse log moves
  pub one : (other : List Move) → IsLeanCourse log other → other ≡ moves

-- along each lawful log
abbrev pub EachHasOneLeanCourse : Type 0
EachHasOneLeanCourse = (log : List Turn) → IsLawful log → HasOneLeanCourse log

-- ---- prefixes, and what may follow

-- each prefix of a lawful log is lawful
abbrev pub PrefixIsLawful : Type 0
PrefixIsLawful = (prefix log : List Turn) → IsPrefix prefix log → IsLawful log → IsLawful prefix

-- after a lawful log, a power failure that leaves one of its images, and a start with a setup within the limits, are lawful
abbrev pub RestartIsLawful : Type 0
RestartIsLawful =
    (log : List Turn) (file : List ℕ) (setup : Setup) → IsLawful log → Image (outside_of log) file → AreBytes file → IsSetup setup → IsLawful (log ++ Crash file ∷ Start setup ∷ [])

-- the setup of a run of a lawful log lies within the limits
abbrev pub SetupIsWithinLimits : Type 0
SetupIsWithinLimits = (log : List Turn) (v : View) (setup : Setup) → Stands log v → v.scene.setup ≡ Some setup → IsSetup setup

-- what is owed at once at the end of a lawful log is calls on the disk, and then one other call at most: a send that fails is the last
abbrev pub CallsEndInOne : Type 0
CallsEndInOne = (log : List Turn) (v : View) → Stands log v → ends_in_one v.calls ≡ true

-- ---- what newly heard bytes bring

-- what was heard of a till and of a terminal is bytes
pub record HeardAreBytes (o : Outside) : Type 0 where
  pub tills : (till : ℕ) → AreBytes (heard_on o.tills till)
  pub links : (pt : ℕ) → AreBytes (heard_on o.links pt)

-- after each lawful log
abbrev pub EachHeardIsBytes : Type 0
EachHeardIsBytes = (log : List Turn) → IsLawful log → HeardAreBytes (outside_of log)

-- no call is owed, and the items are these, and then what may be due
pub record BringsItems (v : View) (Are : List RoundItem → Type 0) : Type 0 where
  pub items : List RoundItem
  pub are : Are items
  pub calls_are : v.calls ≡ []
  pub items_are : v.items ≡ items ++ items_due v.scene.core

-- what a till's bytes bring after a lawful log is said by the frames of all that was heard of it before, and of all with them
abbrev pub TillBytesBring : Type 0
TillBytesBring =
    (log : List Turn) (v : View) (till : ℕ) (chunk : List ℕ) (before all : List (List ℕ)) (rest left : List ℕ) → Stands log v → AllowedTurn v (HeardTill till chunk)
    → Frames (heard_on (outside_of log).tills till) before rest → Frames (heard_on (outside_of log).tills till ++ chunk) all left
    → BringsItems (after_turn v (HeardTill till chunk)) (BringsFrames till before all rest left)

-- what a terminal's bytes bring after a lawful log is said by the APDUs of all that was heard of it before, and of all with them
abbrev pub PtBytesBring : Type 0
PtBytesBring =
    (log : List Turn) (v : View) (pt : ℕ) (chunk : List ℕ) (before all : List ApduValue) (rest left : List ℕ) → Stands log v → AllowedTurn v (HeardPt pt chunk)
    → SpellsApdus (heard_on (outside_of log).links pt) before rest → SpellsApdus (heard_on (outside_of log).links pt ++ chunk) all left
    → BringsItems (after_turn v (HeardPt pt chunk)) (BringsApdus pt before all rest left)

-- ---- cuts of tills

-- the till is cut in these turns
abbrev pub IsCutIn : ℕ → List Turn → Type 0
IsCutIn till turns = (first : List Turn) × (rest : List Turn) × (turns ≡ first ++ CutTill till ∷ rest)

-- in a lawful log, after bytes with which what was heard of a till ends in bytes that begin no frame, the till is cut before the next poll
abbrev pub BadFrameCuts : Type 0
BadFrameCuts =
    (before inside rest : List Turn) (till : ℕ) (chunk : List ℕ) (now : ℤ) (payloads : List (List ℕ)) (left : List ℕ)
    → IsLawful (before ++ HeardTill till chunk ∷ (inside ++ Polled now ∷ rest)) → AreOfRound inside
    → Frames (heard_on (outside_of before).tills till ++ chunk) payloads left → BeginsWithBadLength left → IsCutIn till inside

-- in a lawful log, after a till opens while 64 others are there, it is cut before the next poll
abbrev pub CrowdedCuts : Type 0
CrowdedCuts =
    (before inside rest : List Turn) (till : ℕ) (now : ℤ) → IsLawful (before ++ Opened till ∷ (inside ++ Polled now ∷ rest)) → AreOfRound inside
    → 64 ≤ length (outside_of before).tills → IsCutIn till inside
