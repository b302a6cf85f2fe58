-- Laws of lawful logs on dialogues that end: a registration that is done is followed by the enquiry, and an enquiry that reports the last transaction makes the terminal ready.
use Rattle.std.specs.Prelude.{◌≡◌, ◌⊎◌, ◌≤◌, ℕ, true, false, List, [], ◌∷◌, ◌++◌, if◌then◌else◌, slice_get, Option, Some, Ok}
use Rattle.gw_base.specs.declared.figures.Figures.{Figures}
use Rattle.gw_base.specs.declared.setup.Pt.{Pt}
use Rattle.gw_site.specs.Outside.{outside_of}
use Rattle.gw_site.specs.Sorts.{AreOfRound}
use Rattle.gw_site.specs.declared.turn.Turn.{Turn}
use Rattle.gw_site.specs.declared.turn.Turn.TheVariants.{HeardPt, SentPt}
use Rattle.zvt_apdu.specs.Grammar.{ApduValue}
use Rattle.zvt_msg.specs.CommandCanonical.{canonical_command}
use Rattle.zvt_msg.specs.Message.{MessageValue}
use Rattle.zvt_msg.specs.MessageDecode.{decode_pt_message}
use Rattle.zvt_talk.specs.Came.{is_taken}
use Rattle.zvt_talk.specs.Talk.{is_end}
use Rattle.zvt_talk.specs.declared.meaning.Heard.{Heard}
use Rattle.zvt_talk.specs.declared.meaning.Heard.TheVariants.{Done, Told}
use Rattle.gw_owes.specs.Core.{Core, Wait}
use Rattle.gw_owes.specs.Handling.{meaning_at, taking, enquiry_command}
use Rattle.gw_owes.specs.Items.{RoundItem, NextWaiting}
use Rattle.gw_owes.specs.Reports.{on_record, least_reported}
use Rattle.gw_owes.specs.Waits.{first_waiting, queue_of}
use Rattle.gw_owes.specs.declared.terminal.Standing.{Standing}
use Rattle.gw_owes.specs.declared.terminal.Standing.TheVariants.{Registering, Enquiring, Ready}
use Rattle.gw_owes.specs.declared.terminal.Terminal.{Terminal}
use Rattle.gw_rules.specs.Lawful.{MayPoll, IsCourse, turns_of, Stands}
use Rattle.gw_rules.specs.LinkLaws.{EndsNone, HasSaid}
use Rattle.gw_rules.specs.View.{View, Move, Begin, Make, after_turn, view_from}

-- ---- what newly said APDUs mean

-- the terminal after it has said a message: one outside the table changes nothing
abbrev pub with_message : Terminal → MessageValue → ℕ → Terminal
with_message terminal message moment = if is_taken message then taking terminal message moment else terminal

-- these APDUs, said at this moment, end the terminal's dialogue with such a meaning: one of them does, and those before it leave it going on
abbrev pub EndsWith : (Heard → Type 0) → Terminal → ℕ → List ApduValue → Type 0
EndsWith IsSuch terminal moment [] = ⊥
EndsWith IsSuch terminal moment (apdu ∷ apdus) =
    (message : MessageValue) × (decode_pt_message apdu ≡ Ok message)
    × (IsSuch (meaning_at terminal message) ⊎ ((is_end (meaning_at terminal message) ≡ false) × EndsWith IsSuch (with_message terminal message moment) moment apdus))

-- the command is done
abbrev pub IsDone : Heard → Type 0
IsDone meant = meant ≡ Done

-- this is the report of a transaction with this trace number
abbrev pub IsReport : ℕ → Heard → Type 0
IsReport reported meant = (approved : Option Figures) × (result_code : ℕ) × (meant ≡ Told reported approved result_code)

-- Along this lawful course after the log, bytes of a terminal come while its standing is this one, with which it newly says APDUs that end its dialogue so; the course goes on until the next poll may come, and the terminal's link doesn't end in it. Whatever was said before these bytes, they may split the APDUs as they like.
pub record EndsAlong (IsSuch : Heard → Type 0) (log : List Turn) (v : View) (moves : List Move) (pt : ℕ) (terminal : Terminal) (standing : Standing) : Type 0 where
  pub chunk : List ℕ
  pub new : List ApduValue
  pub left : List ℕ
  pub before : Stands log v
  pub lawful : IsCourse v (Make (HeardPt pt chunk) ∷ moves)
  pub round : AreOfRound (turns_of moves)
  pub lasts : EndsNone pt (turns_of moves)
  pub found : slice_get v.scene.core.terminals pt ≡ Some terminal
  pub standing_is : terminal.standing ≡ standing
  pub said : HasSaid (outside_of log) pt chunk new left
  pub ends : EndsWith IsSuch terminal (outside_of log).moment new
  pub may_poll : MayPoll (view_from v (Make (HeardPt pt chunk) ∷ moves))

-- ---- registrations

-- in these turns the terminal is sent the enquiry of its last transaction, by its settings
abbrev pub IsEnquiredIn : Pt → ℕ → List Turn → Type 0
IsEnquiredIn settings pt turns = (first rest : List Turn) × (turns ≡ first ++ SentPt pt (canonical_command (enquiry_command settings)) true ∷ rest)

-- a terminal whose registration is done is enquired before the next poll
abbrev pub DoneRegistrationIsEnquired : Type 0
DoneRegistrationIsEnquired = (log : List Turn) (v : View) (moves : List Move) (pt : ℕ) (terminal : Terminal) → EndsAlong IsDone log v moves pt terminal Registering → IsEnquiredIn terminal.pt pt (turns_of moves)

-- ---- enquiries

-- the terminal of this number has this standing
abbrev pub HasStanding : Core → ℕ → Standing → Type 0
HasStanding core pt standing = (terminal : Terminal) × (slice_get core.terminals pt ≡ Some terminal) × (terminal.standing ≡ standing)

-- the view at the end of the course, after the bytes that began it
abbrev pub view_along : View → ℕ → List ℕ → List Move → View
view_along v pt chunk moves = view_from v (Make (HeardPt pt chunk) ∷ moves)

-- along this course the first request that waits for the terminal is looked at while it is ready with this number
pub record LooksWhileReady (v : View) (moves : List Move) (pt reported : ℕ) : Type 0 where
  pub earlier : List Move
  pub later : List Move
  pub moves_are : moves ≡ earlier ++ Begin ∷ later
  pub rest : List RoundItem
  pub items_are : (view_from v earlier).items ≡ NextWaiting pt ∷ rest
  pub ready : HasStanding (view_from v earlier).scene.core pt (Ready reported)
  pub wait : Wait
  pub first_is : first_waiting (queue_of pt (view_from v earlier).scene.core.waits) ≡ Some wait

-- a terminal whose enquiry reports a trace number is ready with it when the next poll may come, or was as the first request was looked at that waited for it, where that is no less than the least which it may report, by the records as the bytes come
abbrev pub ReportMakesReady : Type 0
ReportMakesReady =
    (log : List Turn) (v : View) (moves : List Move) (pt : ℕ) (terminal : Terminal) (reported : ℕ) (e : EndsAlong (IsReport reported) log v moves pt terminal Enquiring)
    → least_reported (on_record v.scene.kept terminal.pt.poi) ≤ reported → HasStanding (view_along v pt e.chunk moves).scene.core pt (Ready reported) ⊎ LooksWhileReady (after_turn v (HeardPt pt e.chunk)) moves pt reported
