-- A terminal that was linked and has said no whole APDU since still registers, and is cut at its deadline.
use Rattle.std.proofs.Common.{◌≡◌, ℕ, List, [], ◌∷◌, ◌++◌, sym, ◌∙◌, ap, subst, append_assoc}
use Rattle.std.specs.Prelude.{slice_get, Some}
use Rattle.gw_base.specs.Moment.{moment_of}
use Rattle.gw_base.specs.declared.setup.Pt.{Pt}
use Rattle.gw_base.specs.declared.setup.Setup.{Setup}
use Rattle.gw_site.specs.Outside.{Outside, outside_of}
use Rattle.gw_site.specs.Sorts.{IsQuiet}
use Rattle.gw_site.specs.declared.turn.Turn.{Turn}
use Rattle.gw_site.specs.declared.turn.Turn.TheVariants.{Start, Polled, Linked}
use Rattle.gw_owes.specs.declared.terminal.Terminal.{Terminal}
use Rattle.gw_rules.specs.Lawful.{AllowedTurn, turns_of, IsLawful, Stands}
use Rattle.gw_rules.specs.LinkLaws.{EndsNone}
use Rattle.gw_rules.specs.SilenceLaws.{CompleteNone, SaysNothingIn, linked_turns, SilentRegistrationIsCut}
use Rattle.gw_rules.specs.View.{View, Make, after_turn, view_from}
use Rattle.gw_rules.proofs.CourseLemmas.{stands-more, stands-outside}
use Rattle.gw_rules.proofs.HeardLemmas.{stands-bytes}
use Rattle.gw_rules.proofs.KeptLemmas.{KeptHere, kept-here}
use Rattle.gw_rules.proofs.LinkedLemmas.{Agrees, course-agrees}
use Rattle.gw_rules.proofs.PrefixLemmas.{Along}
use Rattle.gw_rules.proofs.RegistrationLemmas.{registered, registered-late, registers-linked}
use Rattle.gw_rules.proofs.SilenceLemmas.{stays-before-poll}
use Rattle.gw_rules.proofs.SplitLemmas.{split-at}
use Rattle.gw_rules.proofs.UnsaidLemmas.{SaysNone, says-none-stays, moves-unsaid}

-- this is kept of the terminal up to a turn of a run, and these turns come after it
pub record UnsaidUpTo (pt : ℕ) (terminal : Terminal) (log : List Turn) (turn : Turn) (rest : List Turn) : Type 0 where
  pub view : View
  pub before : Stands log view
  pub agrees : Agrees view
  pub kept : KeptHere pt terminal view
  pub allowed : AllowedTurn view turn
  pub onward : Along (after_turn view turn) rest

pub registers-unsaid : (before run silent rest : List Turn) (setup : Setup) (settings : Pt) (pt : ℕ) (turn : Turn) → IsLawful (linked_turns before setup run pt (silent ++ turn ∷ rest)) → IsQuiet run → SaysNothingIn (outside_of (linked_turns before setup run pt [])) pt silent
    → slice_get setup.terminals pt ≡ Some settings → UnsaidUpTo pt (registered settings (outside_of (before ++ Start setup ∷ run)).moment) (linked_turns before setup run pt silent) turn rest
registers-unsaid before run silent rest setup settings pt turn lawful quiet says configured =
    let start : List Turn = before ++ Start setup ∷ run in
    let linked_is : start ++ Linked pt ∷ [] ≡ linked_turns before setup run pt [] = append_assoc before (Start setup ∷ run) (Linked pt ∷ []) in
    let k = registers-linked before run (silent ++ turn ∷ rest) setup settings pt lawful quiet configured in
    let w : View = k.view in
    let terminal : Terminal = registered settings (outside_of start).moment in
    let x = split-at w k.onward.moves silent turn rest k.onward.turns_are k.onward.lawful in
    let v : View = view_from w x.first in
    let none : CompleteNone w.scene.outside pt (turns_of x.first) =
    subst (λ turns. CompleteNone w.scene.outside pt turns) (sym x.first_are) (subst (λ (o : Outside). CompleteNone o pt silent) (sym (stands-outside (start ++ Linked pt ∷ []) w k.before ∙ ap outside_of linked_is)) says.completes_none) in
    let log_is : (start ++ Linked pt ∷ []) ++ silent ≡ linked_turns before setup run pt silent = append_assoc start (Linked pt ∷ []) silent ∙ append_assoc before (Start setup ∷ run) (Linked pt ∷ silent) in
    record {
      view = v;
      before = subst (λ l. Stands l v) (ap (λ l. (start ++ Linked pt ∷ []) ++ l) x.first_are ∙ log_is) (stands-more (start ++ Linked pt ∷ []) w x.first k.before x.lawful);
      agrees = course-agrees w x.first k.agrees x.lawful;
      kept =
          moves-unsaid pt terminal w x.first k.agrees (stands-bytes (start ++ Linked pt ∷ []) w k.before) (kept-here pt terminal [] w k.kept) x.lawful (subst IsQuiet (sym x.first_are) says.quiet) none (subst (EndsNone pt) (sym x.first_are) says.lasts);
      allowed = x.allowed;
      onward = x.onward;
    }

-- a log that goes on after the link
linked-more : (before run silent more : List Turn) (setup : Setup) (pt : ℕ) → linked_turns before setup run pt silent ++ more ≡ linked_turns before setup run pt (silent ++ more)
linked-more before run silent more setup pt = append_assoc before (Start setup ∷ (run ++ Linked pt ∷ silent)) more ∙ ap (λ l. before ++ Start setup ∷ l) (append_assoc run (Linked pt ∷ silent) more)

pub silent-registration-is-cut : SilentRegistrationIsCut
silent-registration-is-cut before run silent inside rest setup settings pt now later lawful quiet says round none unlost configured late =
    let sent : ℕ = (outside_of (before ++ Start setup ∷ run)).moment in
    let terminal : Terminal = registered settings sent in
    let u = registers-unsaid before run silent (inside ++ Polled later ∷ rest) setup settings pt (Polled now) lawful quiet says configured in
    let log : List Turn = linked_turns before setup run pt silent ++ Polled now ∷ [] in
    let polled : View = after_turn u.view (Polled now) in
    let stands : Stands log polled = stands-more (linked_turns before setup run pt silent) u.view (Make (Polled now) ∷ []) u.before (u.allowed, tt) in
    let at : polled.scene.outside ≡ outside_of (linked_turns before setup run pt (silent ++ Polled now ∷ [])) = stands-outside log polled stands ∙ ap outside_of (linked-more before run silent (Polled now ∷ []) setup pt) in
    let here : SaysNone pt polled inside = record { bytes = stands-bytes log polled stands; none = subst (λ (o : Outside). CompleteNone o pt inside) (sym at) none; unlost = unlost } in
    stays-before-poll pt terminal (SaysNone pt) now later inside rest u.view (says-none-stays pt terminal) u.agrees u.kept u.allowed here u.onward round tt (registered-late settings sent (moment_of now) late)
