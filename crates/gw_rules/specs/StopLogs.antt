-- The laws of lawful logs on stops: `06 B0` is sent only once an Ack has come since the command of what is served and a till has aborted that, and once a dialogue.
use Rattle.std.specs.Prelude.{◌≡◌, ℕ, ◌||◌, Bool, true, false, if◌then◌else◌, List, [], ◌∷◌, ◌++◌}
use Rattle.gw_site.specs.declared.turn.Turn.{Turn}
use Rattle.gw_site.specs.declared.turn.Turn.TheVariants.{SentPt}
use Rattle.zvt_msg.specs.CommandCanonical.{canonical_command}
use Rattle.zvt_msg.specs.Message.{Ack, Completion}
use Rattle.zvt_msg.specs.declared.command.Command.TheVariants as commands
use Rattle.zvt_talk.specs.Came.{is_ack}
use Rattle.gw_owes.specs.AbortLaws.{is_stop}
use Rattle.gw_owes.specs.Calls.{Ask, SendPt as OwedSendPt}
use Rattle.gw_owes.specs.Transcript.{Carried, Commanded, Took, Wished}
use Rattle.gw_rules.specs.Lawful.{IsNext, Stands, IsLawful}
use Rattle.gw_rules.specs.TranscriptLaws.{transcript_of}
use Rattle.gw_rules.specs.View.{View}

-- ---- since the last command

-- what a link has carried since its last command but stops, the newest first
abbrev pub since_command : List Carried → List Carried
since_command [] = []
since_command (Commanded command moment ∷ earlier) = if is_stop command then Commanded command moment ∷ since_command earlier else []
since_command (Took message moment least ∷ earlier) = Took message moment least ∷ since_command earlier
since_command (Wished ∷ earlier) = Wished ∷ since_command earlier

-- an Ack was taken
abbrev pub has_ack : List Carried → Bool
has_ack [] = false
has_ack (Commanded command moment ∷ earlier) = has_ack earlier
has_ack (Took message moment least ∷ earlier) = is_ack message || has_ack earlier
has_ack (Wished ∷ earlier) = has_ack earlier

-- a stop was wished
abbrev pub has_wish : List Carried → Bool
has_wish [] = false
has_wish (Commanded command moment ∷ earlier) = has_wish earlier
has_wish (Took message moment least ∷ earlier) = has_wish earlier
has_wish (Wished ∷ earlier) = true

-- a stop was sent
abbrev pub has_stop : List Carried → Bool
has_stop [] = false
has_stop (Commanded command moment ∷ earlier) = is_stop command || has_stop earlier
has_stop (Took message moment least ∷ earlier) = has_stop earlier
has_stop (Wished ∷ earlier) = has_stop earlier

-- ---- the law

-- since its last command but stops a terminal's link has carried an Ack, a till has wished a stop of what is served on it, and none was sent
pub record MayStop (transcript : List Carried) : Type 0 where
  pub acknowledged : has_ack (since_command transcript) ≡ true
  pub wished : has_wish (since_command transcript) ≡ true
  pub first : has_stop (since_command transcript) ≡ false

-- in a lawful log `06 B0` is owed only then
abbrev pub EachStopIsWishedOnce : Type 0
EachStopIsWishedOnce = (log : List Turn) (v : View) (s : Stands log v) (pt : ℕ) → IsNext v (OwedSendPt pt (Ask commands.Stop)) → MayStop (transcript_of pt s.course)

-- so a terminal is sent it only then: along a course to there
abbrev pub StopIsSentOnce : Type 0
StopIsSentOnce =
    (before rest : List Turn) (pt : ℕ) → IsLawful (before ++ SentPt pt (canonical_command commands.Stop) true ∷ rest) → (v : View) × (s : Stands before v) × MayStop (transcript_of pt s.course)

-- ---- the example

-- a payment was sent
abbrev pub example_payment : List Carried
example_payment = Commanded (commands.Authorise 1099 978) 1 ∷ []

-- it is acknowledged and a stop is wished, before that or after, and the stop may be sent; without the one or the other it may not, nor once it was sent; and none of the payment counts for the next command
pub record ExampleStops : Type 0 where
  pub wished_after : MayStop (Wished ∷ Took Ack 2 0 ∷ example_payment)
  pub wished_before : MayStop (Took Ack 2 0 ∷ Wished ∷ example_payment)
  pub unwished : has_wish (since_command (Took Ack 2 0 ∷ example_payment)) ≡ false
  pub unacknowledged : has_ack (since_command (Wished ∷ example_payment)) ≡ false
  pub stopped : has_stop (since_command (Took Ack 4 0 ∷ Commanded commands.Stop 3 ∷ Wished ∷ Took Ack 2 0 ∷ example_payment)) ≡ true
  pub anew : since_command (Commanded (commands.Authorise 500 978) 5 ∷ Took Completion 4 0 ∷ Wished ∷ Took Ack 2 0 ∷ example_payment) ≡ []
