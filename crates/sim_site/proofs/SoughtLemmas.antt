-- The lines that a poll passes.
use Rattle.std.proofs.Common.{◌≡◌, ℕ, zero, suc, ◌+◌, ◌<◌, ◌≤◌, length, get_or, drop, arith, List, [], ◌∷◌, refl, sym, ◌∙◌, ap, true, false}
use Rattle.std.specs.Prelude.{Bool, ◌==◌, if◌then◌else◌}
use Rattle.gw_site.specs.Outside.{Outside}
use Rattle.gw_script.specs.site.Hazards.{armed, is_reached}
use Rattle.gw_script.specs.site.Playing.{Play, applies, brings, fails_next, is_off, met, power_forgotten, powered}
use Rattle.gw_script.specs.site.ScriptLine.{PlayedLine, At, Poll, Fail, Power, ForgetPower}
use Rattle.std.proofs.lemmas.List.{drop_more}
use Rattle.gw_site.specs.declared.turn.Turn.TheVariants.{Stopped}
use Rattle.sim_script.specs.declared.line.ScriptLine.{ScriptLine}
use Rattle.sim_script.specs.Values.{lines_value, script_line_value}
use Rattle.sim_site.specs.Places.{left, place_value}
use Rattle.sim_site.specs.Sought.{Passes, bare, line_due}
use Rattle.sim_site.specs.declared.place.Place.{Place}

-- what a poll meets doesn't hang on the lines of the place
pub met_bare : (o : Outside) (p : Play) (lines : List PlayedLine) → met o p lines ≡ met o (record p { lines = [] }) lines
met_bare o p [] = refl
met_bare o p (At now ∷ lines) = met_bare o (record p { moment = now }) lines
met_bare o p (Poll event ∷ lines) = by_test (applies o event) (met_bare o p lines)
  where
    by_test : (test : Bool) → met o p lines ≡ met o (record p { lines = [] }) lines → (if test then record p { lines = lines; due = brings event } else met o p lines) ≡ (if test then record p { lines = lines; due = brings event } else met o (record p { lines = [] }) lines)
    by_test true later = refl
    by_test false later = later
met_bare o p (Fail failing ∷ lines) = met_bare o (fails_next o failing p) lines ∙ ap (λ x. met o x lines) (by_test (is_reached o failing))
  where
    by_test : (test : Bool) → record (if test then record p { hazard = armed failing p.hazard } else p) { lines = [] } ≡ (if test then record p { lines = []; hazard = armed failing p.hazard } else record p { lines = [] })
    by_test true = refl
    by_test false = refl
met_bare o p (Power calls kind ∷ lines) = by_test (calls == 0) (met_bare o (powered calls kind p) lines)
  where
    by_test : (test : Bool) → met o (powered calls kind p) lines ≡ met o (powered calls kind (record p { lines = [] })) lines → (if test then is_off kind (record p { lines = lines }) else met o (powered calls kind p) lines) ≡ (if test then is_off kind (record p { lines = lines }) else met o (powered calls kind (record p { lines = [] })) lines)
    by_test true later = refl
    by_test false later = later
met_bare o p (ForgetPower ∷ lines) = met_bare o (power_forgotten p) lines

-- ---- the lines of the code

-- the line at an index, and those after it
line_there : (lines : List ScriptLine) (at : ℕ) (line : ScriptLine) → at < length lines → line ≡ get_or lines at line → drop at lines ≡ line ∷ drop (at + 1) lines
line_there lines at line lt is = drop_more lines at line lt ∙ ap (λ x. x ∷ drop (at + 1) lines) (sym is)

-- what a poll from this place on meets
abbrev pub met_from : Outside → List ScriptLine → Place → Play
met_from o lines place = met o (bare place) (left place.early (lines_value (drop place.at lines)))

-- the place after one more line
pub passed_on : (o : Outside) (lines : List ScriptLine) (mid new : Place) (line : ScriptLine) → mid.at < length lines → line ≡ get_or lines mid.at line → new.at ≡ mid.at + 1 → Passes o false mid new (script_line_value line) → met_from o lines mid ≡ met_from o lines new
passed_on o lines mid new line lt is at passes =
    ap (λ ls. met o (bare mid) (left mid.early (lines_value ls))) (line_there lines mid.at line lt is) ∙ passes (lines_value (drop (mid.at + 1) lines)) ∙ ap (λ n. met o (bare new) (left new.early (lines_value (drop n lines)))) (sym at)

-- the line ends the poll
pub passed_last : (o : Outside) (lines : List ScriptLine) (mid new : Place) (line : ScriptLine) → mid.at < length lines → line ≡ get_or lines mid.at line → new.at ≡ mid.at + 1 → Passes o true mid new (script_line_value line) →
    met_from o lines mid ≡ record (bare new) { lines = left new.early (lines_value (drop new.at lines)); due = line_due (script_line_value line) }
passed_last o lines mid new line lt is at passes =
    ap (λ ls. met o (bare mid) (left mid.early (lines_value ls))) (line_there lines mid.at line lt is) ∙ passes (lines_value (drop (mid.at + 1) lines))
    ∙ ap (λ n. record (bare new) { lines = left new.early (lines_value (drop n lines)); due = line_due (script_line_value line) }) (sym at)

none_left : (lines : List ScriptLine) (n : ℕ) → length lines ≤ n → drop n lines ≡ []
none_left [] zero le = refl
none_left [] (suc n) le = refl
none_left (line ∷ lines) zero le = absurd (omega (arith, le))
none_left (line ∷ lines) (suc n) le = none_left lines n (omega (arith, le))

-- after the last line
pub passed_all : (o : Outside) (lines : List ScriptLine) (mid : Place) → length lines ≤ mid.at → met_from o lines mid ≡ record (bare mid) { lines = left mid.early (lines_value (drop mid.at lines)); due = Stopped ∷ [] }
passed_all o lines mid le = rw (none_left lines mid.at le) (by_early mid.early)
  where
    by_early : (early : Bool) → met o (bare mid) (left early []) ≡ record (bare mid) { lines = left early []; due = Stopped ∷ [] }
    by_early true = refl
    by_early false = refl

-- a poll goes on from the place
pub polled_from : (o : Outside) (lines : List ScriptLine) (place : Place) → met o (place_value lines place) (place_value lines place).lines ≡ met_from o lines place
polled_from o lines place = met_bare o (place_value lines place) (left place.early (lines_value (drop place.at lines)))
