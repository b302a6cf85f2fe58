-- A law of lawful logs on a registration that is acknowledged and done with the same bytes, however these are split.
use Rattle.std.specs.Prelude.{◌≡◌, ℕ, ℤ, List, [], ◌∷◌, ◌++◌, slice_get, Some}
use Rattle.gw_base.specs.declared.setup.Pt.{Pt}
use Rattle.gw_base.specs.declared.setup.Setup.{Setup}
use Rattle.gw_site.specs.Outside.{outside_of}
use Rattle.gw_site.specs.Sorts.{IsQuiet, AreOfRound}
use Rattle.gw_site.specs.declared.turn.Turn.{Turn}
use Rattle.gw_site.specs.declared.turn.Turn.TheVariants.{Start, Polled, HeardPt}
use Rattle.zvt_apdu.specs.Grammar.{ApduValue}
use Rattle.gw_owes.specs.Core.{new_terminal}
use Rattle.gw_owes.specs.Terminals.{registration, after_command}
use Rattle.gw_owes.specs.declared.terminal.Standing.TheVariants.{Registering}
use Rattle.gw_owes.specs.declared.terminal.Terminal.{Terminal}
use Rattle.gw_rules.specs.DialogueLaws.{EndsWith, IsDone, IsEnquiredIn}
use Rattle.gw_rules.specs.Lawful.{IsLawful}
use Rattle.gw_rules.specs.LinkLaws.{EndsNone, HasSaid}
use Rattle.gw_rules.specs.SilenceLaws.{SaysNothingIn, linked_turns}

-- a terminal with these settings, to which its registration was sent at this moment
abbrev pub registering_terminal : Pt → ℕ → Terminal
registering_terminal settings moment = after_command (new_terminal settings) (registration settings) Registering moment

-- in a lawful log, a terminal that was linked and has said no whole APDU, and then says APDUs with the bytes of a round that end its registration as done, is enquired before the next poll, unless its link ends before
abbrev pub DoneAtOnceIsEnquired : Type 0
DoneAtOnceIsEnquired =
    (before run first inside rest : List Turn) (setup : Setup) (settings : Pt) (pt : ℕ) (chunk : List ℕ) (new : List ApduValue) (left : List ℕ) (now : ℤ) → IsLawful (linked_turns before setup run pt (first ++ HeardPt pt chunk ∷ (inside ++ Polled now ∷ rest))) → IsQuiet run
    → slice_get setup.terminals pt ≡ Some settings → SaysNothingIn (outside_of (linked_turns before setup run pt [])) pt first → AreOfRound inside → EndsNone pt inside → HasSaid (outside_of (linked_turns before setup run pt first)) pt chunk new left
    → EndsWith IsDone (registering_terminal settings (outside_of (before ++ Start setup ∷ run)).moment) (outside_of (linked_turns before setup run pt first)).moment new → IsEnquiredIn settings pt inside
