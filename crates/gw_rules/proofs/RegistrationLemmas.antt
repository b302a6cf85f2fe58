-- What is remembered of a terminal that was linked in a run, and so registers.
use Rattle.std.proofs.Common.{◌≡◌, ℕ, ◌+◌, ◌≤◌, List, [], ◌∷◌, ◌++◌, refl, sym, ◌∙◌, ap, subst, true, false}
use Rattle.std.proofs.lemmas.Bool.{eq-eqb, le-leb}
use Rattle.std.specs.Prelude.{Bool, ◌==◌, slice_get, Option, Some, None}
use Rattle.std.specs.Option.{option_map}
use Rattle.gw_base.specs.declared.setup.Pt.{Pt}
use Rattle.gw_base.specs.declared.setup.Setup.{Setup}
use Rattle.gw_site.specs.Outside.{Connection, Outside, without, heard_on, new_connection, outside_from, outside_of}
use Rattle.gw_site.specs.Sorts.{IsQuiet}
use Rattle.gw_site.specs.declared.turn.Turn.{Turn}
use Rattle.gw_site.specs.declared.turn.Turn.TheVariants.{Start, Linked}
use Rattle.gw_site.proofs.OutsideLemmas.{outside_of-append}
use Rattle.gw_owes.specs.Calls.{LinkPt}
use Rattle.gw_owes.specs.Row.{Known}
use Rattle.gw_owes.specs.TerminalLaws.{settings_of}
use Rattle.gw_owes.specs.Terminals.{registration, talk_of_command, link_made}
use Rattle.gw_owes.specs.declared.terminal.Standing.TheVariants.{Registering}
use Rattle.gw_owes.specs.declared.terminal.Terminal.{Terminal}
use Rattle.gw_owes.proofs.SetLemmas.{new-is-there}
use Rattle.gw_rules.specs.Lawful.{AllowedTurn, IsLawful, Stands}
use Rattle.gw_rules.specs.LinkLaws.{IsSilentIn, BringNothing, EndsNone}
use Rattle.gw_rules.specs.Scene.{known_in, row_in, link_made_at}
use Rattle.gw_rules.specs.View.{View, Make, after_turn, view_from, at_first}
use Rattle.gw_rules.proofs.BusyLemmas.{linked-free}
use Rattle.gw_rules.proofs.CourseLemmas.{outside_from-moves, stands-more, stands-outside}
use Rattle.gw_rules.proofs.KeptLemmas.{Kept, kept_in, without_asker, lasting, change_none, moves-kept}
use Rattle.gw_rules.proofs.LinkLawLemmas.{found-by, get-setting}
use Rattle.gw_rules.proofs.LinkedLemmas.{Agrees, AreConfigured, call-settled, course-agrees, first-fits, made-at-turns, turn-agrees}
use Rattle.gw_rules.proofs.PrefixLemmas.{Along}
use Rattle.gw_rules.proofs.SilenceLemmas.{IsLateTalk}
use Rattle.gw_rules.proofs.SplitLemmas.{split-at, split-log, split-agrees, split-stands, moves-setup}

-- ---- a terminal that registers

-- what is remembered of a terminal with these settings that was linked at this moment
abbrev pub registered : Pt → ℕ → Terminal
registered settings moment = record { pt = settings; standing = Registering; talk = talk_of_command settings (registration settings) moment; awaited = 1; asker = None }

row-registers : (known : Known) (pt : ℕ) (terminal : Terminal) → slice_get known.core.terminals pt ≡ Some terminal → kept_in (link_made known pt).core pt ≡ Some (registered terminal.pt known.moment)
row-registers known pt terminal found = rw found (ap (option_map without_asker) (new-is-there known.core.terminals pt terminal _ found))

heard-linked : (links : List Connection) (pt : ℕ) → heard_on (without links pt ++ new_connection pt ∷ []) pt ≡ []
heard-linked [] pt = rw (eq-eqb pt pt refl) refl
heard-linked (connection ∷ links) pt = by_test (connection.number == pt) refl (heard-linked links pt)
  where
    by_test : (test : Bool) → (connection.number == pt) ≡ test → heard_on (without links pt ++ new_connection pt ∷ []) pt ≡ [] → heard_on (without (connection ∷ links) pt ++ new_connection pt ∷ []) pt ≡ []
    by_test true t h = rw t h
    by_test false t h = rw (t, t) h

-- the turn that links it leaves that
linked-kept : (u : View) (setup : Setup) (settings : Pt) (pt : ℕ) → Agrees u → AllowedTurn u (Linked pt) → u.scene.setup ≡ Some setup → slice_get setup.terminals pt ≡ Some settings → change_none pt u.items ≡ true
    → Kept pt (registered settings u.scene.outside.moment) [] (after_turn u (Linked pt))
linked-kept u setup settings pt a ok is configured none =
    let s = call-settled u (LinkPt pt) a ok in
    let fit = first-fits u.scene.outside.moment u.scene.core u.calls (LinkPt pt) s.fits ok in
    let found = found-by fit.0 (slice_get u.scene.core.terminals pt) fit.1 in
    let terminal : Terminal = found.0 in
    let same_settings : settings_of u.scene.core ≡ setup.terminals = subst (λ o. AreConfigured o u.scene.core) is s.settings in
    let both : Some terminal.pt ≡ Some settings = sym (get-setting u.scene.core.terminals pt terminal found.1) ∙ ap (λ l. slice_get l pt) same_settings ∙ configured in
    let own : terminal.pt ≡ settings = cc in
    let row : kept_in (link_made_at u.scene pt).core pt ≡ Some (registered settings u.scene.outside.moment) =
    ap (λ (o : Option Setup). kept_in (row_in u.scene (λ known. link_made known pt) o).core pt) is ∙ row-registers (known_in u.scene setup) pt terminal found.1 ∙ ap (λ p. Some (registered p u.scene.outside.moment)) own in
    record {
      kept = ap (option_map lasting) row;
      linked = refl;
      unready = refl;
      items = ap (λ l. change_none pt (l ++ u.items)) (made-at-turns u.scene pt setup is).items ∙ none;
      heard_is = heard-linked u.scene.outside.links pt;
    }

-- ---- the way there

-- up to a turn of a run this was kept of the terminal, and this was heard on its link
pub record KeptUpTo (setup : Setup) (pt : ℕ) (terminal : Terminal) (heard : List ℕ) (log : List Turn) (turn : Turn) (rest : List Turn) : Type 0 where
  pub view : View
  pub agrees : Agrees view
  pub setup_is : view.scene.setup ≡ Some setup
  pub kept : Kept pt terminal heard view
  pub outside_is : view.scene.outside ≡ outside_of log
  pub allowed : AllowedTurn view turn
  pub onward : Along (after_turn view turn) rest

-- so it is after turns in which nothing is heard of it
pub kept-silent : (setup : Setup) (pt : ℕ) (terminal : Terminal) (heard : List ℕ) (log silent rest : List Turn) (turn : Turn) (v : View) → Agrees v → v.scene.setup ≡ Some setup → Kept pt terminal heard v → v.scene.outside ≡ outside_of log
    → Along v (silent ++ turn ∷ rest) → IsSilentIn pt silent → KeptUpTo setup pt terminal heard (log ++ silent) turn rest
kept-silent setup pt terminal heard log silent rest turn v a is k at onward silence =
    let z = split-at v onward.moves silent turn rest onward.turns_are onward.lawful in
    record {
      view = view_from v z.first;
      agrees = course-agrees v z.first a z.lawful;
      setup_is = moves-setup v z.first (subst IsQuiet (sym z.first_are) silence.quiet) ∙ is;
      kept = moves-kept pt terminal heard v z.first a k z.lawful (subst IsQuiet (sym z.first_are) silence.quiet) (subst (BringNothing pt) (sym z.first_are) silence.unheard) (subst (EndsNone pt) (sym z.first_are) silence.lasts);
      outside_is = outside_from-moves v z.first ∙ ap (λ l. outside_from v.scene.outside l) z.first_are ∙ ap (λ o. outside_from o silent) at ∙ sym (outside_of-append log silent);
      allowed = z.allowed;
      onward = z.onward;
    }

-- after a turn of a run this was kept of the terminal, and this was heard on its link, and these turns come
pub record KeptFrom (setup : Setup) (pt : ℕ) (terminal : Terminal) (heard : List ℕ) (log turns : List Turn) : Type 0 where
  pub view : View
  pub before : Stands log view
  pub agrees : Agrees view
  pub setup_is : view.scene.setup ≡ Some setup
  pub kept : Kept pt terminal heard view
  pub onward : Along view turns

-- a terminal that was linked in a run
pub registers-linked : (before run turns : List Turn) (setup : Setup) (settings : Pt) (pt : ℕ) → IsLawful (before ++ Start setup ∷ (run ++ Linked pt ∷ turns)) → IsQuiet run → slice_get setup.terminals pt ≡ Some settings
    → KeptFrom setup pt (registered settings (outside_of (before ++ Start setup ∷ run)).moment) [] ((before ++ Start setup ∷ run) ++ Linked pt ∷ []) turns
registers-linked before run turns setup settings pt lawful quiet configured =
    let x = split-log before (Start setup) (run ++ Linked pt ∷ turns) lawful in
    let v = view_from at_first x.first in
    let began = after_turn v (Start setup) in
    let began_agrees = turn-agrees v (Start setup) (split-agrees before (Start setup) (run ++ Linked pt ∷ turns) x) x.allowed in
    let y = split-at began x.onward.moves run (Linked pt) turns x.onward.turns_are x.onward.lawful in
    let u = view_from began y.first in
    let u_agrees = course-agrees began y.first began_agrees y.lawful in
    let u_setup : u.scene.setup ≡ Some setup = moves-setup began y.first (subst IsQuiet (sym y.first_are) quiet) in
    let log : List Turn = before ++ Start setup ∷ run in
    let u_stands : Stands log u = subst (λ l. Stands (before ++ Start setup ∷ l) u) y.first_are (stands-more before v (Make (Start setup) ∷ y.first) (split-stands before (Start setup) (run ++ Linked pt ∷ turns) x) (x.allowed, y.lawful)) in
    let s = call-settled u (LinkPt pt) u_agrees y.allowed in
    let none = linked-free pt began y.first began_agrees refl y.lawful y.allowed s in
    let w = after_turn u (Linked pt) in
    record {
      view = w;
      before = stands-more log u (Make (Linked pt) ∷ []) u_stands (y.allowed, tt);
      agrees = turn-agrees u (Linked pt) u_agrees y.allowed;
      setup_is = u_setup;
      kept = subst (λ (o : Outside). Kept pt (registered settings o.moment) [] w) (stands-outside log u u_stands) (linked-kept u setup settings pt u_agrees y.allowed u_setup configured none);
      onward = y.onward;
    }

-- a terminal that was linked in a run, and of which nothing was heard since
pub registers-silent : (before run silent rest : List Turn) (setup : Setup) (settings : Pt) (pt : ℕ) (turn : Turn) → IsLawful (before ++ Start setup ∷ (run ++ Linked pt ∷ (silent ++ turn ∷ rest))) → IsQuiet run → IsSilentIn pt silent → slice_get setup.terminals pt ≡ Some settings
    → KeptUpTo setup pt (registered settings (outside_of (before ++ Start setup ∷ run)).moment) [] (((before ++ Start setup ∷ run) ++ Linked pt ∷ []) ++ silent) turn rest
registers-silent before run silent rest setup settings pt turn lawful quiet silence configured =
    let log : List Turn = before ++ Start setup ∷ run in
    let k = registers-linked before run (silent ++ turn ∷ rest) setup settings pt lawful quiet configured in
    kept-silent setup pt (registered settings (outside_of log).moment) [] (log ++ Linked pt ∷ []) silent rest turn k.view k.agrees k.setup_is k.kept (stands-outside (log ++ Linked pt ∷ []) k.view k.before) k.onward silence

-- ---- its deadline

pub registered-late : (settings : Pt) (sent moment : ℕ) → sent + settings.answer ≤ moment → IsLateTalk moment (registered settings sent).talk
registered-late settings sent moment late = (_, refl, le-leb (sent + settings.answer) moment late)
