-- The setup that a script gives lies within the limits.
use Rattle.std.proofs.Common.{◌≡◌, ℕ, ◌≤◌, List, [], ◌∷◌, ◌++◌, Option, Some, None, Bool, true, false, get_or, refl, sym, ap, subst, arith}
use Rattle.std.proofs.lemmas.List.Elements.{All-from_recursion}
use Rattle.std.specs.List.{AllByRecursion, flat_map}
use Rattle.std.specs.Option.{option_to_list}
use Rattle.std.specs.Prelude.{◌≢◌, ◌==◌, if◌then◌else◌, Result, Ok, Err, IfOk, codes, unwrap_or}
use Rattle.gw_base.specs.Bcd.{IsBcdByte}
use Rattle.gw_base.specs.Ident.{IsIdent, IsPrintable}
use Rattle.gw_base.specs.declared.setup.Pt.{Pt}
use Rattle.gw_script.specs.site.Drill.{drill_given, drill_pt, drill_script}
use Rattle.gw_base.specs.Setup.{IsPt, IsSetup}
use Rattle.gw_base.specs.declared.setup.Setup.{Setup}
use Rattle.gw_script.specs.site.Decode.{script_of}
use Rattle.gw_script.specs.site.Grammar.{AreEntries, AreScript, SpellsSetting, given_name, given_queue, given_slots, given_terminal, given_wait, settings}
use Rattle.gw_script.specs.site.ScriptLine.{SetupLine, Name, Queue, Wait, Slots, Terminal, Entry, Blank, Setting, Playing, Given, Script, setup_of}
use Rattle.gw_script.proofs.site.ScriptLemmas.{reads-scripts}
use Rattle.sim_script.specs.Values.{whole_script_value}
use Rattle.sim_site.specs.Sources.{source_script}
use Rattle.sim_site.specs.declared.drill.Drill.{Drill}
use Rattle.sim_site.specs.declared.played.Played.{Played}

-- what the line gives lies within the limits
abbrev pub IsWithin : SetupLine → Type 0
IsWithin (Name name) = IsIdent 40 name
IsWithin (Queue n) = n ≤ 8
IsWithin (Wait n) = (1 ≤ n) × (n ≤ 3600)
IsWithin (Slots n) = (2 ≤ n) × (n ≤ 1000000)
IsWithin (Terminal pt) = IsPt pt

setting_within : (line : SetupLine) (text : List ℕ) → SpellsSetting line text → IsWithin line
setting_within (Name name) text h = h.0.0
setting_within (Queue n) text h = h.0
setting_within (Wait n) text h = (h.0, h.1)
setting_within (Slots n) text h = (h.0, h.1)
setting_within (Terminal pt) text h = record {
  poi = h.poi.0;
  password = (h.password_is.1, h.password_is.2);
  config = h.config;
  none = h.none;
  answer = (let e = h.defaults.1 in omega arith, let e = h.defaults.1 in omega arith);
  command = (let e = h.defaults.2 in omega arith, let e = h.defaults.2 in omega arith);
}

entries_within : (entries : List Entry) (texts : List (List ℕ)) → AreEntries entries texts → AllByRecursion IsWithin (settings entries)
entries_within [] [] h = tt
entries_within [] (text ∷ texts) h = absurd h
entries_within (entry ∷ entries) [] h = absurd h
entries_within (Blank ∷ entries) (text ∷ texts) h = entries_within entries texts h.1
entries_within (Setting line ∷ entries) (text ∷ texts) h = (setting_within line text h.0.1, entries_within entries texts h.1)
entries_within (Playing line ∷ entries) (text ∷ texts) h = entries_within entries texts h.1

all_joined : {A : Type 0} (P : A → Type 0) (xs ys : List A) → AllByRecursion P xs → AllByRecursion P ys → AllByRecursion P (xs ++ ys)
all_joined P [] ys p q = q
all_joined P (x ∷ xs) ys p q = (p.0, all_joined P xs ys p.1 q)

all_given : {A : Type 0} (P : A → Type 0) (give : SetupLine → List A) → ((line : SetupLine) → IsWithin line → AllByRecursion P (give line)) → (lines : List SetupLine) → AllByRecursion IsWithin lines → AllByRecursion P (flat_map give lines)
all_given P give each [] h = tt
all_given P give each (line ∷ lines) h = all_joined P (give line) (flat_map give lines) (each line h.0) (all_given P give each lines h.1)

one_given : {A : Type 0} (P : A → Type 0) (option : Option A) (default : A) → AllByRecursion P (option_to_list option) → P default → P (unwrap_or option default)
one_given P None default h d = d
one_given P (Some value) default h d = h.0

-- what the lines give, or the default, lies within the limits
given_within : {A : Type 0} (P : A → Type 0) (give : SetupLine → List A) → ((line : SetupLine) → IsWithin line → AllByRecursion P (give line)) → (lines : List SetupLine) → AllByRecursion IsWithin lines
    → (option : Option A) (default : A) → flat_map give lines ≡ option_to_list option → P default → P (unwrap_or option default)
given_within P give each lines h option default e d = one_given P option default (subst (AllByRecursion P) e (all_given P give each lines h)) d

name_within : (line : SetupLine) → IsWithin line → AllByRecursion (IsIdent 40) (given_name line)
name_within (Name name) h = (h, tt)
name_within (Queue n) h = tt
name_within (Wait n) h = tt
name_within (Slots n) h = tt
name_within (Terminal pt) h = tt

queue_within : (line : SetupLine) → IsWithin line → AllByRecursion (λ n. n ≤ 8) (given_queue line)
queue_within (Name name) h = tt
queue_within (Queue n) h = (h, tt)
queue_within (Wait n) h = tt
queue_within (Slots n) h = tt
queue_within (Terminal pt) h = tt

wait_within : (line : SetupLine) → IsWithin line → AllByRecursion (λ n. (1 ≤ n) × (n ≤ 3600)) (given_wait line)
wait_within (Name name) h = tt
wait_within (Queue n) h = tt
wait_within (Wait n) h = (h, tt)
wait_within (Slots n) h = tt
wait_within (Terminal pt) h = tt

slots_within : (line : SetupLine) → IsWithin line → AllByRecursion (λ n. (2 ≤ n) × (n ≤ 1000000)) (given_slots line)
slots_within (Name name) h = tt
slots_within (Queue n) h = tt
slots_within (Wait n) h = tt
slots_within (Slots n) h = (h, tt)
slots_within (Terminal pt) h = tt

terminal_within : (line : SetupLine) → IsWithin line → AllByRecursion IsPt (given_terminal line)
terminal_within (Name name) h = tt
terminal_within (Queue n) h = tt
terminal_within (Wait n) h = tt
terminal_within (Slots n) h = tt
terminal_within (Terminal pt) h = (h, tt)

default_name : IsIdent 40 (codes "GATEWAY")
default_name = (omega arith, omega arith, All-from_recursion IsPrintable (codes "GATEWAY") ((omega arith, omega arith), ((omega arith, omega arith), ((omega arith, omega arith), ((omega arith, omega arith), ((omega arith, omega arith), ((omega arith, omega arith), ((omega arith, omega arith), tt))))))))

lines_within : (texts : List (List ℕ)) (script : Script) → AreScript texts script → IsSetup (setup_of script.given)
lines_within texts script are =
    let lines = settings are.entries in
    let h = entries_within are.entries texts are.spelled in
    let g = script.given in
    record {
      name = given_within (IsIdent 40) given_name name_within lines h g.name (codes "GATEWAY") are.name default_name;
      line = given_within (λ n. n ≤ 8) given_queue queue_within lines h g.queue 0 are.queue (omega arith);
      wait = given_within (λ n. (1 ≤ n) × (n ≤ 3600)) given_wait wait_within lines h g.wait 60 are.wait (omega arith, omega arith);
      slots = given_within (λ n. (2 ≤ n) × (n ≤ 1000000)) given_slots slots_within lines h g.slots 1000000 are.slots (omega arith, omega arith);
      count = are.few;
      each = All-from_recursion IsPt g.terminals (subst (AllByRecursion IsPt) are.terminals (all_given IsPt given_terminal terminal_within lines h));
      distinct = are.distinct;
    }

-- the setup of each script that is read
pub script_within : (text : List ℕ) (script : Script) → script_of text ≡ Ok script → IsSetup (setup_of script.given)
script_within text script e = let spells = (reads-scripts.script text script).0 e in lines_within spells.0 script spells.2

-- ---- the drill's setup

poi_within : (test : Bool) → IsIdent 40 (if test then codes "T0" else codes "T1")
poi_within true = (omega arith, omega arith, All-from_recursion IsPrintable (codes "T0") ((omega arith, omega arith), ((omega arith, omega arith), tt)))
poi_within false = (omega arith, omega arith, All-from_recursion IsPrintable (codes "T1") ((omega arith, omega arith), ((omega arith, omega arith), tt)))

pt_within : (pt : ℕ) → IsPt (drill_pt pt)
pt_within pt = record {
  poi = poi_within (pt == 0);
  password = (refl, All-from_recursion IsBcdByte (0 ∷ 0 ∷ 0 ∷ []) ((omega arith, omega arith), ((omega arith, omega arith), ((omega arith, omega arith), tt))));
  config = omega arith;
  none = omega arith;
  answer = (omega arith, omega arith);
  command = (omega arith, omega arith);
}

pois_differ : codes "T0" ≢ codes "T1"
pois_differ e = absurd (omega (arith, ap (λ (text : List ℕ). get_or text 1 0) e))

-- the setup of a drill lies within the limits
pub drill_within : IsSetup (setup_of drill_given)
drill_within = record {
  name = default_name;
  line = omega arith;
  wait = (omega arith, omega arith);
  slots = (omega arith, omega arith);
  count = omega arith;
  each = All-from_recursion IsPt (drill_pt 0 ∷ drill_pt 1 ∷ []) (pt_within 0, (pt_within 1, tt));
  distinct = (All-from_recursion (λ (other : Pt). (drill_pt 0).poi ≢ other.poi) (drill_pt 1 ∷ []) (pois_differ, tt), (All-from_recursion (λ (other : Pt). (drill_pt 1).poi ≢ other.poi) [] tt, tt));
}

-- ---- what is played

ok_same : (a b : Script) → ◌≡◌ {A = Result Script ℕ} (Ok a) (Ok b) → a ≡ b
ok_same a b e = cc

source_within : (drill : Option Drill) (text : List ℕ) (script : Script) → source_script drill text ≡ Ok script → IsSetup (setup_of script.given)
source_within None text script source = script_within text script source
source_within (Some drill) text script source = subst (λ (given : Given). IsSetup (setup_of given)) (ap (λ (one : Script). one.given) (ok_same (drill_script drill.from drill.payments) script source)) drill_within

-- the setup with which the runs of what is played start
pub setup_limits : {E : Type 0} (played : Played) (result : Result Setup E) → IfOk result (λ setup. setup ≡ setup_of (whole_script_value played.script).given) → IfOk result IsSetup
setup_limits played (Ok setup) is = subst IsSetup (sym is) (source_within played.drill played.text.value (whole_script_value played.script) played.source)
setup_limits played (Err error) is = tt
