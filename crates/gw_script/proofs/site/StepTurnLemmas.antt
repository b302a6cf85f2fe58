-- The steps of a site determine the turns of each, and these determine the log.
use Rattle.std.proofs.Common.{◌≡◌, suc, length, List, [], ◌∷◌, ◌++◌, refl, sym, ◌∙◌, ap, subst, inl, inr, true, false, arith, append-nil, append_assoc, length-append}
use Rattle.std.proofs.lemmas.Bool.Decides.{Decides-and, Decides-like}
use Rattle.std.specs.Prelude.{◌⊎◌, ◌+◌, ◌&&◌, Bool, Decides, not, if◌then◌else◌, Option, Some, None, is_none}
use Rattle.gw_bytes.specs.Bytes.{IsPrefix}
use Rattle.gw_site.specs.Outside.{Outside, outside_of}
use Rattle.gw_site.specs.declared.turn.Turn.{Turn}
use Rattle.gw_site.specs.declared.turn.Turn.TheVariants.{Crash}
use Rattle.gw_site.specs.Steps.{ImageKind, SiteCall, SiteStep, Made, PowerBack, StopAfter, Holding, log_of_parts}
use Rattle.gw_script.specs.Decode.{is_empty}
use Rattle.gw_script.specs.site.ScriptLine.{PlayedLine}
use Rattle.gw_script.specs.site.Hazards.{crash_file}
use Rattle.gw_script.specs.site.Playing.{Idle, Play, begins, restarted}
use Rattle.gw_script.specs.site.Calls.{LeadsBy, PlaysBy, call_turns, set_to_fail}
use Rattle.gw_script.specs.site.StepTurns.{CanTake, LeadsInParts, PlaysInParts, StepFits, is_idle, place_after_step, power_turns, site_turns, step_turns, turns_by, with_those_after}
use Rattle.gw_script.specs.site.StepTurnLaws.{CallOrPower, FirstHasItsTurns, IdleIsDecided, LongerTurnsBegin, LongestIsTaken, MoreHaveTheirTurns, StepHasItsTurns, StepsHaveTheirTurns}
use Rattle.gw_script.proofs.site.CallLemmas.{IsQuiet}
use Rattle.gw_script.proofs.site.QuietLemmas.{on_or_off, step-leaves-quiet}

-- ---- the tests

empty_decided : {A : Type 0} (xs : List A) → Decides (is_empty xs) (xs ≡ [])
empty_decided [] = (λ e. refl, λ e. refl)
empty_decided (x ∷ xs) = (λ (e : false ≡ true). absurd (cc), λ (e : x ∷ xs ≡ []). absurd (cc))

not_decided : (b : Bool) → Decides (not b) (b ≡ false)
not_decided true = (λ e. sym e, λ e. sym e)
not_decided false = (λ e. refl, λ e. refl)

none_decided : {A : Type 0} (x : Option A) → Decides (is_none x) (x ≡ None)
none_decided None = (λ e. refl, λ e. refl)
none_decided (Some a) = (λ (e : false ≡ true). absurd (cc), λ (e : Some a ≡ None). absurd (cc))

pub idle-is-decided : IdleIsDecided
idle-is-decided p =
    Decides-like (is_idle p)
    (λ (h : ((p.due ≡ []) × (p.failing ≡ false)) × (p.off ≡ None)). record { no_event = h.0.0; no_failure = h.0.1; power = h.1 })
    (λ (idle : Idle p). ((idle.no_event, idle.no_failure), idle.power))
    (Decides-and (is_empty p.due && not p.failing) (is_none p.off) (Decides-and (is_empty p.due) (not p.failing) (empty_decided p.due) (not_decided p.failing)) (none_decided p.off))

-- ---- one step

some_same : (a b : List Turn) → Some a ≡ Some b → a ≡ b
some_same a b e = cc

-- turns, where a test is true
abbrev turns_if : Bool → List Turn → Option (List Turn)
turns_if test turns = if test then Some turns else None

from_test : (test : Bool) (made turns : List Turn) → turns_if test made ≡ Some turns → (test ≡ true) × (turns ≡ made)
from_test true made turns e = (refl, sym (some_same made turns e))
from_test false made turns e = absurd (let h : None ≡ Some turns = e in cc)

from_power : (o : Outside) (off : Option ImageKind) (turns : List Turn) → power_turns o off ≡ Some turns → (kind : ImageKind) × (off ≡ Some kind) × (turns ≡ Crash (crash_file kind o) ∷ [])
from_power o None turns e = absurd (let h : None ≡ Some turns = e in cc)
from_power o (Some kind) turns e = (kind, refl, sym (some_same (Crash (crash_file kind o) ∷ []) turns e))

has_turns : (past : List Turn) (p : Play) (step : SiteStep) (turns : List Turn) → StepFits past p step turns → step_turns past p step ≡ Some turns
has_turns past p (Made call) turns (idle, is) = ap (λ test. turns_if test (call_turns (outside_of past) p call)) ((idle-is-decided p).1 idle) ∙ ap (λ t. Some t) (sym is)
has_turns past p PowerBack turns (kind, off, is) = ap (power_turns (outside_of past)) off ∙ ap (λ t. Some t) (sym is)
has_turns past p (StopAfter calls kind) turns is = ap (λ t. Some t) (sym is)
has_turns past p (Holding file) turns (none, is) = ap (λ log. turns_if (is_empty log) (Crash file ∷ [])) none ∙ ap (λ t. Some t) (sym is)

fits : (past : List Turn) (p : Play) (step : SiteStep) (turns : List Turn) → step_turns past p step ≡ Some turns → StepFits past p step turns
fits past p (Made call) turns e = let x = from_test (is_idle p) (call_turns (outside_of past) p call) turns e in ((idle-is-decided p).0 x.0, x.1)
fits past p PowerBack turns e = from_power (outside_of past) p.off turns e
fits past p (StopAfter calls kind) turns e = sym (some_same [] turns e)
fits past p (Holding file) turns e = let x = from_test (is_empty past) (Crash file ∷ []) turns e in ((empty_decided past).0 x.0, x.1)

pub step-has-its-turns : StepHasItsTurns
step-has-its-turns past p step turns = (has_turns past p step turns, fits past p step turns)

-- ---- the first step, and those after it

-- the turns of steps after one with these turns
abbrev later_turns : List Turn → Play → SiteStep → List SiteStep → List Turn → List (List Turn)
later_turns past p step steps turns = turns_by (past ++ turns) (place_after_step past p step) steps

taken_first : (past : List Turn) (p : Play) (step : SiteStep) (steps : List SiteStep) (turns : List Turn) → step_turns past p step ≡ Some turns → turns_by past p (step ∷ steps) ≡ turns ∷ later_turns past p step steps turns
taken_first past p step steps turns e = ap (λ t. with_those_after t (later_turns past p step steps)) e

none_taken : (past : List Turn) (p : Play) (step : SiteStep) (steps : List SiteStep) → step_turns past p step ≡ None → turns_by past p (step ∷ steps) ≡ []
none_taken past p step steps e = ap (λ t. with_those_after t (later_turns past p step steps)) e

-- turns are there or not
none_or_some : (turns : Option (List Turn)) → (turns ≡ None) ⊎ ((some : List Turn) × (turns ≡ Some some))
none_or_some None = inl refl
none_or_some (Some some) = inr (some, refl)

pub first-has-its-turns : FirstHasItsTurns
first-has-its-turns = record {
  taken = λ past p step turns steps fit. taken_first past p step steps turns (has_turns past p step turns fit);
  not_taken = λ past p step steps none. (elim (none_or_some (step_turns past p step)) [
    | inl e ↦ none_taken past p step steps e
    | inr x ↦ absurd (none x.0 (fits past p step x.0 x.1))
  ]);
}

-- ---- parts

are_computed : (steps : List SiteStep) (parts : List (List Turn)) (past : List Turn) (p : Play) → LeadsInParts past p steps parts → (turns_by past p steps ≡ parts) × (length parts ≡ length steps)
are_computed [] parts past p none = (sym none, ap length none)
are_computed (step ∷ steps) [] past p leads = absurd leads
are_computed (step ∷ steps) (turns ∷ parts) past p (first, rest) =
    let later = are_computed steps parts (past ++ turns) (place_after_step past p step) rest in
    (taken_first past p step steps turns (has_turns past p step turns first) ∙ ap (λ ts. turns ∷ ts) later.0, ap suc later.1)

pub from_computed : (steps : List SiteStep) (parts : List (List Turn)) (past : List Turn) (p : Play) → turns_by past p steps ≡ parts → length parts ≡ length steps → LeadsInParts past p steps parts
from_computed [] parts past p is size = sym is
from_computed (step ∷ steps) parts past p is size = elim (none_or_some (step_turns past p step)) [
  | inl e ↦ (
      let none : length parts ≡ 0 = ap length (sym is ∙ none_taken past p step steps e) in
      absurd (omega (arith, none, size)))
  | inr x ↦ (
      let later = later_turns past p step steps x.0 in
      let same : x.0 ∷ later ≡ parts = sym (taken_first past p step steps x.0 x.1) ∙ is in
      let same_size : suc (length later) ≡ length parts = ap length same in
      let later_size : length later ≡ length steps = omega (arith, same_size, size) in
      subst (LeadsInParts past p (step ∷ steps)) same (fits past p step x.0 x.1, from_computed steps later (past ++ x.0) (place_after_step past p step) refl later_size))
]

-- ---- parts and the log

-- the first of some steps
record First (past : List Turn) (p : Play) (step : SiteStep) (steps : List SiteStep) (turns : List Turn) (after : Play) : Type 0 where
  made : List Turn
  later : List Turn
  first : StepFits past p step made
  is : turns ≡ made ++ later
  leads : LeadsBy (past ++ made) (place_after_step past p step) steps later after

first_of_steps : (step : SiteStep) (steps : List SiteStep) (past : List Turn) (p : Play) (turns : List Turn) (after : Play) → LeadsBy past p (step ∷ steps) turns after → First past p step steps turns after
first_of_steps (Made call) steps past p turns after (made, later, fit, is, rest) = record { made = made; later = later; first = fit; is = is; leads = rest }
first_of_steps PowerBack steps past p turns after (kind, later, off, is, rest) = record { made = Crash (crash_file kind (outside_of past)) ∷ []; later = later; first = (kind, off, refl); is = is; leads = rest }
first_of_steps (StopAfter calls kind) steps past p turns after leads =
    record { made = []; later = turns; first = refl; is = refl; leads = subst (λ log. LeadsBy log (set_to_fail calls kind p) steps turns after) (sym (append-nil past)) leads }
first_of_steps (Holding file) steps past p turns after (later, none, is, rest) = record { made = Crash file ∷ []; later = later; first = (none, refl); is = is; leads = rest }

before_steps : (step : SiteStep) (steps : List SiteStep) (past : List Turn) (p : Play) (made later : List Turn) (after : Play) → StepFits past p step made → LeadsBy (past ++ made) (place_after_step past p step) steps later after →
    LeadsBy past p (step ∷ steps) (made ++ later) after
before_steps (Made call) steps past p made later after fit rest = (made, later, fit, refl, rest)
before_steps PowerBack steps past p made later after (kind, off, is) rest = (kind, later, off, ap (λ m. m ++ later) is, subst (λ m. LeadsBy (past ++ m) (restarted p) steps later after) is rest)
before_steps (StopAfter calls kind) steps past p made later after is rest =
    let none : LeadsBy (past ++ []) (set_to_fail calls kind p) steps later after = subst (λ m. LeadsBy (past ++ m) (set_to_fail calls kind p) steps later after) is rest in
    let here : LeadsBy past (set_to_fail calls kind p) steps later after = subst (λ log. LeadsBy log (set_to_fail calls kind p) steps later after) (append-nil past) none in
    subst (λ m. LeadsBy past (set_to_fail calls kind p) steps (m ++ later) after) (sym is) here
before_steps (Holding file) steps past p made later after (none, is) rest = (later, none, ap (λ m. m ++ later) is, subst (λ m. LeadsBy (past ++ m) p steps later after) is rest)

pub to_log : (steps : List SiteStep) (parts : List (List Turn)) (past : List Turn) (p : Play) → LeadsInParts past p steps parts → (after : Play) × LeadsBy past p steps (log_of_parts parts) after
to_log [] parts past p none = (p, (ap log_of_parts none, refl))
to_log (step ∷ steps) [] past p leads = absurd leads
to_log (step ∷ steps) (turns ∷ parts) past p (first, rest) =
    let (after, leads) = to_log steps parts (past ++ turns) (place_after_step past p step) rest in
    (after, before_steps step steps past p turns (log_of_parts parts) after first leads)

to_parts : (steps : List SiteStep) (past : List Turn) (p : Play) (turns : List Turn) (after : Play) → LeadsBy past p steps turns after → (parts : List (List Turn)) × LeadsInParts past p steps parts × (turns ≡ log_of_parts parts)
to_parts [] past p turns after (none, same) = ([], refl, none)
to_parts (step ∷ steps) past p turns after leads =
    let x = first_of_steps step steps past p turns after leads in
    let (parts, rest, is) = to_parts steps (past ++ x.made) (place_after_step past p step) x.later after x.leads in
    (x.made ∷ parts, (x.first, rest), x.is ∙ ap (λ l. x.made ++ l) is)

log_from : (lines : List PlayedLine) (steps : List SiteStep) (log : List Turn) (parts : List (List Turn)) → PlaysInParts lines steps parts → log ≡ log_of_parts parts → PlaysBy lines steps log
log_from lines steps log parts played is =
    let (after, leads) = to_log steps parts [] (begins lines) played in
    (after, subst (λ l. LeadsBy [] (begins lines) steps l after) (sym is) leads)

pub steps-have-their-turns : StepsHaveTheirTurns
steps-have-their-turns = record {
  in_parts = λ lines steps parts. (are_computed steps parts [] (begins lines), λ h. from_computed steps parts [] (begins lines) h.0 h.1);
  log_in_parts = λ lines steps log. (λ h. to_parts steps [] (begins lines) log h.0 h.1, λ h. log_from lines steps log h.0 h.1 h.2);
  computed = λ lines steps log. (
    λ h.
        let (parts, played, is) = to_parts steps [] (begins lines) log h.0 h.1 in
        let (same, size) = are_computed steps parts [] (begins lines) played in
        (ap length same ∙ size, is ∙ ap log_of_parts (sym same)),
    λ h. log_from lines steps log (site_turns lines steps) (from_computed steps (site_turns lines steps) [] (begins lines) refl h.0) h.1,
  );
}

-- ---- more steps

more_turns : (steps : List SiteStep) (past : List Turn) (p : Play) (turns : List Turn) (place : Play) (more : List SiteStep) → LeadsBy past p steps turns place →
    turns_by past p (steps ++ more) ≡ turns_by past p steps ++ turns_by (past ++ turns) place more
more_turns [] past p turns place more (none, same) =
    let there : past ++ turns ≡ past = ap (λ t. past ++ t) none ∙ append-nil past in
    ap (λ x. turns_by past x more) same ∙ ap (λ log. turns_by log place more) (sym there)
more_turns (first ∷ steps) past p turns place more leads =
    let x = first_of_steps first steps past p turns place leads in
    let e = has_turns past p first x.made x.first in
    let there : past ++ turns ≡ (past ++ x.made) ++ x.later = ap (λ t. past ++ t) x.is ∙ sym (append_assoc past x.made x.later) in
    let later = more_turns steps (past ++ x.made) (place_after_step past p first) x.later place more x.leads in
    taken_first past p first (steps ++ more) x.made e
    ∙ ap (λ ts. x.made ∷ ts) (later ∙ ap (λ log. later_turns past p first steps x.made ++ turns_by log place more) (sym there))
    ∙ sym (ap (λ ts. ts ++ turns_by (past ++ turns) place more) (taken_first past p first steps x.made e))

pub more-have-their-turns : MoreHaveTheirTurns
more-have-their-turns lines steps more log place leads = more_turns steps [] (begins lines) log place more leads

-- ---- the first of more steps

begin : (steps more : List SiteStep) (past : List Turn) (p : Play) → IsPrefix (turns_by past p steps) (turns_by past p (steps ++ more))
begin [] more past p = (turns_by past p more, refl)
begin (step ∷ steps) more past p = elim (none_or_some (step_turns past p step)) [
  | inl e ↦ ([], none_taken past p step (steps ++ more) e ∙ sym (ap (λ ts. ts ++ []) (none_taken past p step steps e)))
  | inr x ↦ (
      let (rest, is) = begin steps more (past ++ x.0) (place_after_step past p step) in
      (rest, taken_first past p step (steps ++ more) x.0 x.1 ∙ ap (λ ts. x.0 ∷ ts) is ∙ sym (ap (λ ts. ts ++ rest) (taken_first past p step steps x.0 x.1))))
]

pub longer-turns-begin : LongerTurnsBegin
longer-turns-begin lines steps more = begin steps more [] (begins lines)

-- the first of the steps, which can be taken with all turns that steps have
record Taken (past : List Turn) (p : Play) (steps : List SiteStep) : Type 0 where
  taken : List SiteStep
  rest : List SiteStep
  steps_are : steps ≡ taken ++ rest
  leads : LeadsInParts past p taken (turns_by past p steps)

taken_of : (steps : List SiteStep) (past : List Turn) (p : Play) → Taken past p steps
taken_of [] past p = record { taken = []; rest = []; steps_are = refl; leads = refl }
taken_of (step ∷ steps) past p = elim (none_or_some (step_turns past p step)) [
  | inl e ↦ record { taken = []; rest = step ∷ steps; steps_are = refl; leads = none_taken past p step steps e }
  | inr x ↦ (
      let later = taken_of steps (past ++ x.0) (place_after_step past p step) in
      record {
        taken = step ∷ later.taken;
        rest = later.rest;
        steps_are = ap (λ s. step ∷ s) later.steps_are;
        leads = subst (LeadsInParts past p (step ∷ later.taken)) (sym (taken_first past p step steps x.0 x.1)) (fits past p step x.0 x.1, later.leads);
      })
]

no_steps : (steps : List SiteStep) → length steps ≡ 0 → steps ≡ []
no_steps [] e = refl
no_steps (step ∷ steps) e = absurd (omega (arith, e))

no_more_taken : (lines : List PlayedLine) (steps : List SiteStep) (t : Taken [] (begins lines) steps) (more later : List SiteStep) → t.rest ≡ more ++ later → CanTake lines (t.taken ++ more) → more ≡ []
no_more_taken lines steps t more later is (parts, played) =
    let taken_size : length (site_turns lines steps) ≡ length t.taken = (are_computed t.taken (site_turns lines steps) [] (begins lines) t.leads).1 in
    let (same, size) = are_computed (t.taken ++ more) parts [] (begins lines) played in
    let steps_are : steps ≡ (t.taken ++ more) ++ later = t.steps_are ∙ ap (λ s. t.taken ++ s) is ∙ sym (append_assoc t.taken more later) in
    let (rest, whole) = begin (t.taken ++ more) later [] (begins lines) in
    let all : site_turns lines steps ≡ parts ++ rest = ap (site_turns lines) steps_are ∙ whole ∙ ap (λ ts. ts ++ rest) same in
    let all_size : length (site_turns lines steps) ≡ length parts + length rest = ap length all ∙ length-append parts rest in
    let more_size : length (t.taken ++ more) ≡ length t.taken + length more = length-append t.taken more in
    no_steps more (omega (arith, taken_size, size, all_size, more_size))

pub longest-is-taken : LongestIsTaken
longest-is-taken lines steps =
    let t = taken_of steps [] (begins lines) in (
      t.taken,
      t.rest,
      record { steps_are = t.steps_are; can = (site_turns lines steps, t.leads); no_more = no_more_taken lines steps t },
      sym (are_computed t.taken (site_turns lines steps) [] (begins lines) t.leads).0,
    )

-- ---- a call or the power

-- nothing is due where steps have led
quiet_at : (steps : List SiteStep) (past : List Turn) (p : Play) (turns : List Turn) (after : Play) → IsQuiet p → LeadsBy past p steps turns after → IsQuiet after
quiet_at [] past p turns after quiet (none, same) = subst IsQuiet same quiet
quiet_at (step ∷ steps) past p turns after quiet leads =
    let x = first_of_steps step steps past p turns after leads in
    quiet_at steps (past ++ x.made) (place_after_step past p step) x.later after (step-leaves-quiet past p step x.made quiet x.first) x.leads

call_or_power : (log : List Turn) (place : Play) (call : SiteCall) → IsQuiet place → (off : Option ImageKind) → place.off ≡ off → ((turns : List Turn) × StepFits log place (Made call) turns) ⊎ ((turns : List Turn) × StepFits log place PowerBack turns)
call_or_power log place call quiet None e = inl (call_turns (outside_of log) place call, (record { no_event = quiet.no_event; no_failure = quiet.no_failure; power = e }, refl))
call_or_power log place call quiet (Some kind) e = inr (Crash (crash_file kind (outside_of log)) ∷ [], (kind, e, refl))

pub call-or-power : CallOrPower
call-or-power = record {
  either = λ lines steps log place call leads. call_or_power log place call (quiet_at steps [] (begins lines) log place (record { no_event = refl; no_failure = refl }) leads) place.off refl;
  never_both = λ past p call turns other made back. on_or_off p back.0 made.0.power back.1;
}
