-- Laws of lawful logs on terminals that say no whole APDU: such bytes don't put off a deadline.
use Rattle.std.specs.Prelude.{◌≡◌, ◌≢◌, ◌≤◌, ℕ, ◌+◌, ℤ, pos, int_le, true, List, [], ◌∷◌, ◌++◌, slice_get, Some}
use Rattle.gw_base.specs.Moment.{moment_of}
use Rattle.gw_base.specs.declared.setup.Pt.{Pt}
use Rattle.gw_base.specs.declared.setup.Setup.{Setup}
use Rattle.gw_site.specs.Outside.{Outside, outside_after, outside_of}
use Rattle.gw_site.specs.Sorts.{IsQuiet, AreOfRound}
use Rattle.gw_site.specs.declared.turn.Turn.{Turn}
use Rattle.gw_site.specs.declared.turn.Turn.TheVariants.{Start, Polled, HeardPt, Lost, Linked}
use Rattle.zvt_apdu.specs.Grammar.{IsProperApduPrefix}
use Rattle.zvt_talk.specs.Talk.{TalkFacts}
use Rattle.gw_owes.specs.TerminalLaws.{HasDialogueOnlyIn}
use Rattle.gw_owes.specs.declared.terminal.Terminal.{Terminal}
use Rattle.gw_rules.specs.Lawful.{MayPoll, IsCourse, turns_of, Stands, IsLawful}
use Rattle.gw_rules.specs.LinkLaws.{IsPtCutIn, EndsNone, HasSaid}
use Rattle.gw_rules.specs.View.{View, Move, Make, view_from}

-- with this chunk the terminal completes no APDU, and begins none above the limit
abbrev pub CompletesNone : Outside → ℕ → List ℕ → Type 0
CompletesNone o pt chunk = (left : List ℕ) × HasSaid o pt chunk [] left × IsProperApduPrefix left

-- nor with any that these turns bring
abbrev pub CompleteNone : Outside → ℕ → List Turn → Type 0
CompleteNone o pt [] = Unit {0}
CompleteNone o pt (turn ∷ turns) = ((chunk : List ℕ) → turn ≡ HeardPt pt chunk → CompletesNone o pt chunk) × CompleteNone (outside_after o turn) pt turns

-- in these turns of a run, after this outside, the terminal says no whole APDU, and its link doesn't end
pub record SaysNothingIn (o : Outside) (pt : ℕ) (turns : List Turn) : Type 0 where
  pub quiet : IsQuiet turns
  pub completes_none : CompleteNone o pt turns
  pub lasts : EndsNone pt turns

-- in none of these turns is the terminal's link lost
abbrev pub IsNotLostIn : ℕ → List Turn → Type 0
IsNotLostIn pt [] = Unit {0}
IsNotLostIn pt (turn ∷ turns) = (turn ≢ Lost pt) × IsNotLostIn pt turns

-- Along this lawful course, from where a poll may come after the log, this dialogue of the terminal runs, in a standing that has one: it registers, is enquired, or serves what a till asked for. A poll comes after the first moves that is at its deadline or later, and the course goes on until the next poll may come. Before that poll and with what it brings the terminal says no whole APDU, whatever bytes come of it, and its link isn't lost.
pub record IsSilentAlong (log : List Turn) (v : View) (first second : List Move) (now : ℤ) (pt : ℕ) : Type 0 where
  pub before : Stands log v
  pub may_poll : MayPoll v
  pub terminal : Terminal
  pub found : slice_get v.scene.core.terminals pt ≡ Some terminal
  pub standing_has : HasDialogueOnlyIn terminal.standing terminal.talk
  pub facts : TalkFacts
  pub talk_is : terminal.talk ≡ Some facts
  pub lawful : IsCourse v (first ++ Make (Polled now) ∷ second)
  pub silent : SaysNothingIn (outside_of log) pt (turns_of first)
  pub late : int_le facts.deadline (pos (moment_of now)) ≡ true
  pub round : AreOfRound (turns_of second)
  pub completes_none : CompleteNone (outside_of (log ++ turns_of first ++ Polled now ∷ [])) pt (turns_of second)
  pub unlost : IsNotLostIn pt (turns_of second)
  pub ends : MayPoll (view_from v (first ++ Make (Polled now) ∷ second))

-- such a terminal is cut in that round
abbrev pub SilentDialogueIsCut : Type 0
SilentDialogueIsCut = (log : List Turn) (v : View) (first second : List Move) (now : ℤ) (pt : ℕ) → IsSilentAlong log v first second now pt → IsPtCutIn pt (turns_of second)

-- ---- in words of the log alone

-- the turns of a run, the link of a terminal, and then these
abbrev pub linked_turns : List Turn → Setup → List Turn → ℕ → List Turn → List Turn
linked_turns before setup run pt turns = before ++ Start setup ∷ (run ++ Linked pt ∷ turns)

-- in a lawful log, a terminal that has said no whole APDU since it was linked, and so since its registration was sent, is cut before the next poll once a poll comes as many seconds later as its settings give it to acknowledge a command, where with what that brings it says none either; so it is unless it begins an APDU above the limit, or its link ends before
abbrev pub SilentRegistrationIsCut : Type 0
SilentRegistrationIsCut =
    (before run silent inside rest : List Turn) (setup : Setup) (settings : Pt) (pt : ℕ) (now later : ℤ) → IsLawful (linked_turns before setup run pt (silent ++ Polled now ∷ (inside ++ Polled later ∷ rest))) → IsQuiet run
    → SaysNothingIn (outside_of (linked_turns before setup run pt [])) pt silent → AreOfRound inside → CompleteNone (outside_of (linked_turns before setup run pt (silent ++ Polled now ∷ []))) pt inside → IsNotLostIn pt inside
    → slice_get setup.terminals pt ≡ Some settings → (outside_of (before ++ Start setup ∷ run)).moment + settings.answer ≤ moment_of now → IsPtCutIn pt inside
