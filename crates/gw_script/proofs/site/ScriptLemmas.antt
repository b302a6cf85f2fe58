-- A text is read as the script that its lines make, and the first wrong line is reported exactly where they make none.
use Rattle.std.proofs.Common.{◌≡◌, ℕ, zero, suc, ◌+◌, ◌-◌, ◌<◌, ◌≤◌, List, [], ◌∷◌, ◌++◌, length, take, refl, sym, ◌∙◌, ap, subst, arith, inl, inr, true, false, append_assoc, append-nil, length-append}
use Rattle.std.proofs.lemmas.Bool.{and_parts}
use Rattle.std.proofs.lemmas.Bool.Decides.{nat_tests}
use Rattle.std.proofs.lemmas.Slice.Eq.{bytes_eq-Decides}
use Rattle.std.proofs.lemmas.List.Elements.{All-nil, All-head, All-tail, All-push}
use Rattle.std.specs.List.{flat_map}
use Rattle.std.specs.Option.{option_to_list}
use Rattle.std.specs.Prelude.{◌≢◌, All, Bool, ◌&&◌, not, nat_lt, if◌then◌else◌, Option, Some, None, is_some, option_map, option_and_then, Ok, Err, bytes_eq}
use Rattle.gw_base.specs.Setup.{HaveDistinctPois}
use Rattle.gw_base.specs.declared.setup.Pt.{Pt}
use Rattle.gw_script.specs.Decode.{split_lines}
use Rattle.gw_script.specs.site.ScriptLine.{SetupLine, Name, Queue, Wait, Slots, Terminal, PlayedLine, Entry, Blank, Setting, Playing, Given, Script, nothing_given}
use Rattle.gw_script.specs.site.Decode.{entry_of, script_goes_on, lacks_poi, no_lines, script_from, with_entry, with_setting}
use Rattle.gw_script.specs.site.Grammar.{AreEntries, AreLinesOf, AreScript, IsFirstWrong, SetupComesFirst, given_name, played_lines, settings, given_slots, given_terminal, given_wait, given_queue}
use Rattle.gw_script.specs.site.Laws.{ReadsSiteScripts}
use Rattle.gw_script.proofs.site.ExactLemmas.{chosen, mapped, none_some, some_is, through}
use Rattle.gw_script.proofs.site.FormLemmas.{entry_read, entry_spelled}
use Rattle.gw_script.proofs.site.LinesLemmas.{splits-lines}
use Rattle.gw_script.proofs.site.WordLemmas.{is_word}

-- ---- reading entry by entry

abbrev with_entries : Script → List Entry → Option Script
with_entries script [] = Some script
with_entries script (entry ∷ entries) = option_and_then (λ more. with_entries more entries) (with_entry script entry)

abbrev with_text : Script → List ℕ → Option Script
with_text script text = option_and_then (with_entry script) (entry_of text)

-- the script with the lines of these texts, where they all may come there
abbrev with_texts : Script → List (List ℕ) → Option Script
with_texts script [] = Some script
with_texts script (text ∷ texts) = option_and_then (λ more. with_texts more texts) (with_text script text)

-- the entries that texts are
record Entered (script : Script) (texts : List (List ℕ)) (result : Script) : Type 0 where
  entries : List Entry
  spelled : AreEntries entries texts
  taken : with_entries script entries ≡ Some result

entered : (script : Script) (texts : List (List ℕ)) (result : Script) → with_texts script texts ≡ Some result → Entered script texts result
entered script [] result e = record { entries = []; spelled = tt; taken = e }
entered script (text ∷ texts) result e =
    let x = through (with_text script text) (λ more. with_texts more texts) result e in
    let y = through (entry_of text) (with_entry script) x.middle x.first_is in
    let later = entered x.middle texts result x.next_is in
    record {
      entries = y.middle ∷ later.entries;
      spelled = (entry_spelled text y.middle y.first_is, later.spelled);
      taken = ap (option_and_then (λ more. with_entries more later.entries)) y.next_is ∙ later.taken;
    }

texts_taken : (script : Script) (entries : List Entry) (texts : List (List ℕ)) → AreEntries entries texts → with_texts script texts ≡ with_entries script entries
texts_taken script [] [] are = refl
texts_taken script [] (text ∷ texts) are = absurd are
texts_taken script (entry ∷ entries) [] are = absurd are
texts_taken script (entry ∷ entries) (text ∷ texts) are =
    ap (λ e. option_and_then (λ more. with_texts more texts) (option_and_then (with_entry script) e)) (entry_read entry text are.0)
    ∙ by_step (with_entry script entry) (λ more. texts_taken more entries texts are.1)
  where
    by_step : (step : Option Script) → ((more : Script) → with_texts more texts ≡ with_entries more entries) → option_and_then (λ more. with_texts more texts) step ≡ option_and_then (λ more. with_entries more entries) step
    by_step None later = refl
    by_step (Some more) later = later more

-- ---- what one setup line gives

-- one setup line more was given
record IsGiven (given : Given) (line : SetupLine) (more : Given) : Type 0 where
  name : option_to_list more.name ≡ option_to_list given.name ++ given_name line
  queue : option_to_list more.queue ≡ option_to_list given.queue ++ given_queue line
  wait : option_to_list more.wait ≡ option_to_list given.wait ++ given_wait line
  slots : option_to_list more.slots ≡ option_to_list given.slots ++ given_slots line
  terminals : more.terminals ≡ given.terminals ++ given_terminal line
  few : length given.terminals ≤ 32 → length more.terminals ≤ 32
  distinct : HaveDistinctPois given.terminals → HaveDistinctPois more.terminals

empty : {A : Type 0} (o : Option A) → is_some o ≡ false → [] ≡ option_to_list o
empty None e = refl
empty (Some a) e = absurd (let h : true ≡ false = e in cc)

first_given : {A : Type 0} (o : Option A) (a : A) → is_some o ≡ false → a ∷ [] ≡ option_to_list o ++ a ∷ []
first_given o a e = ap (λ xs. xs ++ a ∷ []) (empty o e)

same_given : {A : Type 0} (xs : List A) → xs ≡ xs ++ []
same_given xs = sym (append-nil xs)

other_poi : (first pt : Pt) → not (bytes_eq first.poi pt.poi) ≡ true → first.poi ≢ pt.poi
other_poi first pt e same = absurd_test (bytes_eq first.poi pt.poi) ((bytes_eq-Decides first.poi pt.poi).1 same) e
  where
    absurd_test : (b : Bool) → b ≡ true → not b ≡ true → ⊥
    absurd_test true passed failed = let h : false ≡ true = failed in cc
    absurd_test false passed failed = let h : false ≡ true = passed in cc

poi_other : (first pt : Pt) → first.poi ≢ pt.poi → not (bytes_eq first.poi pt.poi) ≡ true
poi_other first pt other = by_test (bytes_eq first.poi pt.poi) (λ same. other (is_word first.poi pt.poi same))
  where
    by_test : (b : Bool) → (b ≡ true → ⊥) → not b ≡ true
    by_test true none = absurd (none refl)
    by_test false none = refl

distinct_more : (pts : List Pt) (pt : Pt) → HaveDistinctPois pts → lacks_poi pts pt.poi ≡ true → HaveDistinctPois (pts ++ pt ∷ [])
distinct_more [] pt distinct lacks = (All-nil (λ (other : Pt). pt.poi ≢ other.poi), tt)
distinct_more (first ∷ pts) pt distinct lacks =
    let p = and_parts (not (bytes_eq first.poi pt.poi)) (lacks_poi pts pt.poi) lacks in
    (All-push (λ (other : Pt). first.poi ≢ other.poi) pts pt distinct.0 (other_poi first pt p.0), distinct_more pts pt distinct.1 p.1)

all_middle : {A : Type 0} (P : A → Type 0) (xs : List A) (y : A) (ys : List A) → All P (xs ++ y ∷ ys) → P y
all_middle P [] y ys all = All-head P y ys all
all_middle P (x ∷ xs) y ys all = all_middle P xs y ys (All-tail P x (xs ++ y ∷ ys) all)

lacks_from : (pts : List Pt) (pt : Pt) (more : List Pt) → HaveDistinctPois (pts ++ pt ∷ more) → lacks_poi pts pt.poi ≡ true
lacks_from [] pt more distinct = refl
lacks_from (first ∷ pts) pt more distinct =
    rw (poi_other first pt (all_middle (λ (other : Pt). first.poi ≢ other.poi) pts pt more distinct.0)) (lacks_from pts pt more distinct.1)

below : (a b : ℕ) → nat_lt a b ≡ true → a < b
below a b e = grind (arith, nat_tests)

is_below : (a b : ℕ) → a < b → nat_lt a b ≡ true
is_below a b h = grind (arith, nat_tests)

more_few : (pts : List Pt) (pt : Pt) → nat_lt (length pts) 32 ≡ true → length (pts ++ pt ∷ []) ≤ 32
more_few pts pt e = (let h = below (length pts) 32 e in let l = length-append pts (pt ∷ []) in omega (arith, h, l))

is_given : (given : Given) (line : SetupLine) (more : Given) → with_setting given line ≡ Some more → IsGiven given line more
is_given given (Name name) more e = elim (chosen (is_some given.name) None (Some (record given { name = Some name })) more e) [
  | inl x ↦ none_some more x.1
  | inr x ↦ subst (IsGiven given (Name name)) (some_is (record given { name = Some name }) more x.1) (record {
    name = first_given given.name name x.0;
    queue = same_given (option_to_list given.queue);
    wait = same_given (option_to_list given.wait);
    slots = same_given (option_to_list given.slots);
    terminals = same_given given.terminals;
    few = λ h. h;
    distinct = λ h. h;
  })
]
is_given given (Queue n) more e = elim (chosen (is_some given.queue) None (Some (record given { queue = Some n })) more e) [
  | inl x ↦ none_some more x.1
  | inr x ↦ subst (IsGiven given (Queue n)) (some_is (record given { queue = Some n }) more x.1) (record {
    name = same_given (option_to_list given.name);
    queue = first_given given.queue n x.0;
    wait = same_given (option_to_list given.wait);
    slots = same_given (option_to_list given.slots);
    terminals = same_given given.terminals;
    few = λ h. h;
    distinct = λ h. h;
  })
]
is_given given (Wait n) more e = elim (chosen (is_some given.wait) None (Some (record given { wait = Some n })) more e) [
  | inl x ↦ none_some more x.1
  | inr x ↦ subst (IsGiven given (Wait n)) (some_is (record given { wait = Some n }) more x.1) (record {
    name = same_given (option_to_list given.name);
    queue = same_given (option_to_list given.queue);
    wait = first_given given.wait n x.0;
    slots = same_given (option_to_list given.slots);
    terminals = same_given given.terminals;
    few = λ h. h;
    distinct = λ h. h;
  })
]
is_given given (Slots n) more e = elim (chosen (is_some given.slots) None (Some (record given { slots = Some n })) more e) [
  | inl x ↦ none_some more x.1
  | inr x ↦ subst (IsGiven given (Slots n)) (some_is (record given { slots = Some n }) more x.1) (record {
    name = same_given (option_to_list given.name);
    queue = same_given (option_to_list given.queue);
    wait = same_given (option_to_list given.wait);
    slots = first_given given.slots n x.0;
    terminals = same_given given.terminals;
    few = λ h. h;
    distinct = λ h. h;
  })
]
is_given given (Terminal pt) more e = elim (chosen (nat_lt (length given.terminals) 32 && lacks_poi given.terminals pt.poi) (Some (record given { terminals = given.terminals ++ pt ∷ [] })) None more e) [
  | inl x ↦ (let p = and_parts (nat_lt (length given.terminals) 32) (lacks_poi given.terminals pt.poi) x.0 in
      subst (IsGiven given (Terminal pt)) (some_is (record given { terminals = given.terminals ++ pt ∷ [] }) more x.1) (record {
        name = same_given (option_to_list given.name);
        queue = same_given (option_to_list given.queue);
        wait = same_given (option_to_list given.wait);
        slots = same_given (option_to_list given.slots);
        terminals = refl;
        few = λ h. more_few given.terminals pt p.0;
        distinct = λ h. distinct_more given.terminals pt h p.1;
      }))
  | inr x ↦ none_some more x.1
]

-- ---- what entries make of a script

-- no setup line comes after a line that is played
abbrev OnlyFirst : List PlayedLine → List Entry → Type 0
OnlyFirst [] entries = SetupComesFirst entries
OnlyFirst (line ∷ lines) entries = settings entries ≡ []

-- the entries make this script of one with this setup and these lines
record Makes (given : Given) (lines : List PlayedLine) (entries : List Entry) (result : Script) : Type 0 where
  name : option_to_list given.name ++ flat_map given_name (settings entries) ≡ option_to_list result.given.name
  queue : option_to_list given.queue ++ flat_map given_queue (settings entries) ≡ option_to_list result.given.queue
  wait : option_to_list given.wait ++ flat_map given_wait (settings entries) ≡ option_to_list result.given.wait
  slots : option_to_list given.slots ++ flat_map given_slots (settings entries) ≡ option_to_list result.given.slots
  terminals : given.terminals ++ flat_map given_terminal (settings entries) ≡ result.given.terminals
  few : length result.given.terminals ≤ 32
  distinct : HaveDistinctPois result.given.terminals
  first : OnlyFirst lines entries
  all : lines ++ played_lines entries ≡ result.lines

abbrev so_far : Given → List PlayedLine → Script
so_far given lines = record { given = given; lines = lines }

none_left : (lines : List PlayedLine) → OnlyFirst lines []
none_left [] = tt
none_left (line ∷ lines) = refl

skip_blank : (lines : List PlayedLine) (entries : List Entry) → OnlyFirst lines entries → OnlyFirst lines (Blank ∷ entries)
skip_blank [] entries h = h
skip_blank (line ∷ lines) entries h = h

after_blank : (lines : List PlayedLine) (entries : List Entry) → OnlyFirst lines (Blank ∷ entries) → OnlyFirst lines entries
after_blank [] entries h = h
after_blank (line ∷ lines) entries h = h

before_line : (lines : List PlayedLine) (line : PlayedLine) (entries : List Entry) → OnlyFirst (lines ++ line ∷ []) entries → OnlyFirst lines (Playing line ∷ entries)
before_line [] line entries h = h
before_line (first ∷ lines) line entries h = h

after_line : (lines : List PlayedLine) (line : PlayedLine) (entries : List Entry) → OnlyFirst lines (Playing line ∷ entries) → OnlyFirst (lines ++ line ∷ []) entries
after_line [] line entries h = h
after_line (first ∷ lines) line entries h = h

-- what was given before, one line, and what later lines give
joined : {A : Type 0} (before line later result : List A) (more : List A) → more ≡ before ++ line → more ++ later ≡ result → before ++ (line ++ later) ≡ result
joined before line later result more is whole = sym (append_assoc before line later) ∙ ap (λ xs. xs ++ later) (sym is) ∙ whole

parted : {A : Type 0} (before line later result : List A) (more : List A) → more ≡ before ++ line → before ++ (line ++ later) ≡ result → more ++ later ≡ result
parted before line later result more is whole = ap (λ xs. xs ++ later) is ∙ append_assoc before line later ∙ whole

made_more : (given more : Given) (line : SetupLine) (entries : List Entry) (result : Script) → IsGiven given line more → Makes more [] entries result → Makes given [] (Setting line ∷ entries) result
made_more given more line entries result g m = record {
  name = joined (option_to_list given.name) (given_name line) (flat_map given_name (settings entries)) (option_to_list result.given.name) (option_to_list more.name) g.name m.name;
  queue = joined (option_to_list given.queue) (given_queue line) (flat_map given_queue (settings entries)) (option_to_list result.given.queue) (option_to_list more.queue) g.queue m.queue;
  wait = joined (option_to_list given.wait) (given_wait line) (flat_map given_wait (settings entries)) (option_to_list result.given.wait) (option_to_list more.wait) g.wait m.wait;
  slots = joined (option_to_list given.slots) (given_slots line) (flat_map given_slots (settings entries)) (option_to_list result.given.slots) (option_to_list more.slots) g.slots m.slots;
  terminals = joined given.terminals (given_terminal line) (flat_map given_terminal (settings entries)) result.given.terminals more.terminals g.terminals m.terminals;
  few = m.few;
  distinct = m.distinct;
  first = m.first;
  all = m.all;
}

makes_more : (given more : Given) (line : SetupLine) (entries : List Entry) (result : Script) → IsGiven given line more → Makes given [] (Setting line ∷ entries) result → Makes more [] entries result
makes_more given more line entries result g m = record {
  name = parted (option_to_list given.name) (given_name line) (flat_map given_name (settings entries)) (option_to_list result.given.name) (option_to_list more.name) g.name m.name;
  queue = parted (option_to_list given.queue) (given_queue line) (flat_map given_queue (settings entries)) (option_to_list result.given.queue) (option_to_list more.queue) g.queue m.queue;
  wait = parted (option_to_list given.wait) (given_wait line) (flat_map given_wait (settings entries)) (option_to_list result.given.wait) (option_to_list more.wait) g.wait m.wait;
  slots = parted (option_to_list given.slots) (given_slots line) (flat_map given_slots (settings entries)) (option_to_list result.given.slots) (option_to_list more.slots) g.slots m.slots;
  terminals = parted given.terminals (given_terminal line) (flat_map given_terminal (settings entries)) result.given.terminals more.terminals g.terminals m.terminals;
  few = m.few;
  distinct = m.distinct;
  first = m.first;
  all = m.all;
}

made : (given : Given) (lines : List PlayedLine) (entries : List Entry) (result : Script) → length given.terminals ≤ 32 → HaveDistinctPois given.terminals → with_entries (so_far given lines) entries ≡ Some result → Makes given lines entries result
made given lines [] result few distinct e =
    let same : so_far given lines ≡ result = some_is (so_far given lines) result e in
    record {
      name = append-nil (option_to_list given.name) ∙ ap (λ (s : Script). option_to_list s.given.name) same;
      queue = append-nil (option_to_list given.queue) ∙ ap (λ (s : Script). option_to_list s.given.queue) same;
      wait = append-nil (option_to_list given.wait) ∙ ap (λ (s : Script). option_to_list s.given.wait) same;
      slots = append-nil (option_to_list given.slots) ∙ ap (λ (s : Script). option_to_list s.given.slots) same;
      terminals = append-nil given.terminals ∙ ap (λ (s : Script). s.given.terminals) same;
      few = subst (λ (s : Script). length s.given.terminals ≤ 32) same few;
      distinct = subst (λ (s : Script). HaveDistinctPois s.given.terminals) same distinct;
      first = none_left lines;
      all = append-nil lines ∙ ap (λ (s : Script). s.lines) same;
    }
made given lines (Blank ∷ entries) result few distinct e =
    let later = made given lines entries result few distinct e in
    record { name = later.name; queue = later.queue; wait = later.wait; slots = later.slots; terminals = later.terminals; few = later.few; distinct = later.distinct; first = skip_blank lines entries later.first; all = later.all }
made given (line ∷ lines) (Setting setting ∷ entries) result few distinct e = none_some result e
made given [] (Setting setting ∷ entries) result few distinct e =
    let x = through (option_map (λ more. so_far more []) (with_setting given setting)) (λ more. with_entries more entries) result e in
    let m = mapped (with_setting given setting) (λ more. so_far more []) x.middle x.first_is in
    let g = is_given given setting m.middle m.first_is in
    let next : with_entries (so_far m.middle []) entries ≡ Some result = subst (λ s. with_entries s entries ≡ Some result) (sym m.made_is) x.next_is in
    made_more given m.middle setting entries result g (made m.middle [] entries result (g.few few) (g.distinct distinct) next)
made given lines (Playing line ∷ entries) result few distinct e =
    let later = made given (lines ++ line ∷ []) entries result few distinct e in
    record { name = later.name; queue = later.queue; wait = later.wait; slots = later.slots; terminals = later.terminals; few = later.few; distinct = later.distinct; first = before_line lines line entries later.first; all = sym (append_assoc lines (line ∷ []) (played_lines entries)) ∙ later.all }

option_is : {A : Type 0} (one other : Option A) → option_to_list one ≡ option_to_list other → one ≡ other
option_is None None e = refl
option_is None (Some other) e = absurd (let h : [] ≡ other ∷ [] = e in cc)
option_is (Some one) None e = absurd (let h : one ∷ [] ≡ [] = e in cc)
option_is (Some one) (Some other) e = let h : one ∷ [] ≡ other ∷ [] = e in let k : one ≡ other = cc in ap Some k

-- where a value is given after others, none was given before
none_before : {A : Type 0} (before : Option A) (a : A) (later : List A) (result : Option A) → option_to_list before ++ a ∷ later ≡ option_to_list result → before ≡ None
none_before None a later result e = refl
none_before (Some b) a later None e = absurd (let h : b ∷ a ∷ later ≡ [] = e in cc)
none_before (Some b) a later (Some r) e = absurd (let h : b ∷ a ∷ later ≡ r ∷ [] = e in let k : a ∷ later ≡ [] = cc in cc)

few_before : (pts : List Pt) (pt : Pt) (more result : List Pt) → pts ++ pt ∷ more ≡ result → length result ≤ 32 → nat_lt (length pts) 32 ≡ true
few_before pts pt more result is few = is_below (length pts) 32 (let l = length-append pts (pt ∷ more) in let n = ap length is in omega (arith, few, l, n))

taken : (given : Given) (line : SetupLine) (entries : List Entry) (result : Script) → Makes given [] (Setting line ∷ entries) result → (more : Given) × (with_setting given line ≡ Some more)
taken given (Name name) entries result m =
    (record given { name = Some name }, ap (λ (o : Option (List ℕ)). if is_some o then None else Some (record given { name = Some name })) (none_before given.name name (flat_map given_name (settings entries)) result.given.name m.name))
taken given (Queue n) entries result m =
    (record given { queue = Some n }, ap (λ (o : Option ℕ). if is_some o then None else Some (record given { queue = Some n })) (none_before given.queue n (flat_map given_queue (settings entries)) result.given.queue m.queue))
taken given (Wait n) entries result m =
    (record given { wait = Some n }, ap (λ (o : Option ℕ). if is_some o then None else Some (record given { wait = Some n })) (none_before given.wait n (flat_map given_wait (settings entries)) result.given.wait m.wait))
taken given (Slots n) entries result m =
    (record given { slots = Some n }, ap (λ (o : Option ℕ). if is_some o then None else Some (record given { slots = Some n })) (none_before given.slots n (flat_map given_slots (settings entries)) result.given.slots m.slots))
taken given (Terminal pt) entries result m =
    let later = flat_map given_terminal (settings entries) in (
      record given { terminals = given.terminals ++ pt ∷ [] },
      rw (few_before given.terminals pt later result.given.terminals m.terminals m.few, lacks_from given.terminals pt later (subst HaveDistinctPois (sym m.terminals) m.distinct)) refl,
    )

given_is : (one other : Given) → one.name ≡ other.name → one.queue ≡ other.queue → one.wait ≡ other.wait → one.slots ≡ other.slots → one.terminals ≡ other.terminals → one ≡ other
given_is one other name queue wait slots terminals =
    ap (λ (x : Option (List ℕ)). record one { name = x }) name
    ∙ ap (λ (x : Option ℕ). record one { name = other.name; queue = x }) queue
    ∙ ap (λ (x : Option ℕ). record one { name = other.name; queue = other.queue; wait = x }) wait
    ∙ ap (λ (x : Option ℕ). record one { name = other.name; queue = other.queue; wait = other.wait; slots = x }) slots
    ∙ ap (λ (x : List Pt). record other { terminals = x }) terminals

makes : (given : Given) (lines : List PlayedLine) (entries : List Entry) (result : Script) → Makes given lines entries result → with_entries (so_far given lines) entries ≡ Some result
makes given lines [] result m =
    let g = given_is given result.given
    (option_is given.name result.given.name (sym (append-nil (option_to_list given.name)) ∙ m.name))
    (option_is given.queue result.given.queue (sym (append-nil (option_to_list given.queue)) ∙ m.queue))
    (option_is given.wait result.given.wait (sym (append-nil (option_to_list given.wait)) ∙ m.wait))
    (option_is given.slots result.given.slots (sym (append-nil (option_to_list given.slots)) ∙ m.slots))
    (sym (append-nil given.terminals) ∙ m.terminals) in
    let l = sym (append-nil lines) ∙ m.all in
    ap Some (ap (λ g. so_far g lines) g ∙ ap (so_far result.given) l)
makes given lines (Blank ∷ entries) result m =
    makes given lines entries result (record { name = m.name; queue = m.queue; wait = m.wait; slots = m.slots; terminals = m.terminals; few = m.few; distinct = m.distinct; first = after_blank lines entries m.first; all = m.all })
makes given (line ∷ lines) (Setting setting ∷ entries) result m = absurd (let h : setting ∷ settings entries ≡ [] = m.first in cc)
makes given [] (Setting setting ∷ entries) result m =
    let t = taken given setting entries result m in
    ap (λ step. option_and_then (λ more. with_entries more entries) (option_map (λ more. so_far more []) step)) t.1
    ∙ makes t.0 [] entries result (makes_more given t.0 setting entries result (is_given given setting t.0 t.1) m)
makes given lines (Playing line ∷ entries) result m =
    makes given (lines ++ line ∷ []) entries result (record { name = m.name; queue = m.queue; wait = m.wait; slots = m.slots; terminals = m.terminals; few = m.few; distinct = m.distinct; first = after_line lines line entries m.first; all = append_assoc lines (line ∷ []) (played_lines entries) ∙ m.all })

-- the lines of these texts make a script exactly where they all may come there
texts_script : (texts : List (List ℕ)) (script : Script) → with_texts no_lines texts ≡ Some script → AreScript texts script
texts_script texts script e =
    let x = entered no_lines texts script e in
    let m = made nothing_given [] x.entries script (omega arith) tt x.taken in
    record { entries = x.entries; spelled = x.spelled; first = m.first; name = m.name; queue = m.queue; wait = m.wait; slots = m.slots; terminals = m.terminals; few = m.few; distinct = m.distinct; lines = m.all }

script_texts : (texts : List (List ℕ)) (script : Script) → AreScript texts script → with_texts no_lines texts ≡ Some script
script_texts texts script s =
    texts_taken no_lines s.entries texts s.spelled
    ∙ makes nothing_given [] s.entries script (record { name = s.name; queue = s.queue; wait = s.wait; slots = s.slots; terminals = s.terminals; few = s.few; distinct = s.distinct; first = s.first; all = s.lines })

-- ---- the function that reads scripts

ok_texts : (script : Script) (number : ℕ) (texts : List (List ℕ)) (result : Script) → script_from script number texts ≡ Ok result → with_texts script texts ≡ Some result
ok_texts script number [] result e = (let h : Ok script ≡ Ok result = e in let k : script ≡ result = cc in ap Some k)
ok_texts script number (text ∷ texts) result e = by_step (with_text script text) (λ more. ok_texts more (number + 1) texts result) e
  where
    by_step : (step : Option Script) → ((more : Script) → script_from more (number + 1) texts ≡ Ok result → with_texts more texts ≡ Some result) → script_goes_on step number (λ more. script_from more (number + 1) texts) ≡ Ok result → option_and_then (λ more. with_texts more texts) step ≡ Some result
    by_step None later e = absurd (let h : Err number ≡ Ok result = e in cc)
    by_step (Some more) later e = later more e

texts_ok : (script : Script) (number : ℕ) (texts : List (List ℕ)) (result : Script) → with_texts script texts ≡ Some result → script_from script number texts ≡ Ok result
texts_ok script number [] result e = ap Ok (some_is script result e)
texts_ok script number (text ∷ texts) result e = by_step (with_text script text) (λ more. texts_ok more (number + 1) texts result) e
  where
    by_step : (step : Option Script) → ((more : Script) → with_texts more texts ≡ Some result → script_from more (number + 1) texts ≡ Ok result) → option_and_then (λ more. with_texts more texts) step ≡ Some result → script_goes_on step number (λ more. script_from more (number + 1) texts) ≡ Ok result
    by_step None later e = none_some result e
    by_step (Some more) later e = later more e

-- so many texts may come there, and not one more
record StopsAt (script : Script) (texts : List (List ℕ)) (count : ℕ) : Type 0 where
  there : count < length texts
  result : Script
  before : with_texts script (take count texts) ≡ Some result
  wrong : with_texts script (take (suc count) texts) ≡ None

record WrongAt (script : Script) (number : ℕ) (texts : List (List ℕ)) (wrong : ℕ) : Type 0 where
  count : ℕ
  is : wrong ≡ number + count
  stops : StopsAt script texts count

err_texts : (script : Script) (number : ℕ) (texts : List (List ℕ)) (wrong : ℕ) → script_from script number texts ≡ Err wrong → WrongAt script number texts wrong
err_texts script number [] wrong e = absurd (let h : Ok script ≡ Err wrong = e in cc)
err_texts script number (text ∷ texts) wrong e = by_step (with_text script text) refl (λ more. err_texts more (number + 1) texts wrong) e
  where
    by_step : (step : Option Script) → with_text script text ≡ step → ((more : Script) → script_from more (number + 1) texts ≡ Err wrong → WrongAt more (number + 1) texts wrong) → script_goes_on step number (λ more. script_from more (number + 1) texts) ≡ Err wrong → WrongAt script number (text ∷ texts) wrong
    by_step None step later e =
        let h : Err number ≡ Err wrong = e in
        let same : number ≡ wrong = cc in
        record { count = 0; is = omega arith; stops = record { there = omega arith; result = script; before = refl; wrong = rw step refl } }
    by_step (Some more) step later e =
        let w = later more e in
        record { count = suc w.count; is = omega (arith, w.is); stops = record { there = omega (arith, w.stops.there); result = w.stops.result; before = rw step w.stops.before; wrong = rw step w.stops.wrong } }

none_next : (step : Option Script) → option_and_then (λ (more : Script). Some more) step ≡ None → step ≡ None
none_next None e = refl
none_next (Some more) e = absurd (let h : Some more ≡ None = e in cc)

texts_err : (script : Script) (number count : ℕ) (texts : List (List ℕ)) → StopsAt script texts count → script_from script number texts ≡ Err (number + count)
texts_err script number count [] s = absurd (omega (arith, s.there))
texts_err script number zero (text ∷ texts) s = rw (none_next (with_text script text) s.wrong) (ap Err (omega arith))
texts_err script number (suc count) (text ∷ texts) s =
    let x = through (with_text script text) (λ more. with_texts more (take count texts)) s.result s.before in
    let wrong : with_texts x.middle (take (suc count) texts) ≡ None = rw x.first_is at s.wrong in
    rw x.first_is (texts_err x.middle (number + 1) count texts (record { there = omega (arith, s.there); result = s.result; before = x.next_is; wrong = wrong }) ∙ ap Err (omega arith))

first_wrong : (texts : List (List ℕ)) (number : ℕ) → WrongAt no_lines 1 texts number → IsFirstWrong number texts
first_wrong texts number w =
    let s = w.stops in
    let before : number - 1 ≡ w.count = omega (arith, w.is) in
    let whole : number ≡ suc w.count = omega (arith, w.is) in
    record {
      counted = omega (arith, w.is);
      there = omega (arith, w.is, s.there);
      before = (s.result, rw before (texts_script (take w.count texts) s.result s.before));
      wrong = λ script are. none_some script (sym s.wrong ∙ script_texts (take (suc w.count) texts) script (rw whole at are));
    }

no_script : (read : Option Script) → ((script : Script) → read ≡ Some script → ⊥) → read ≡ None
no_script None none = refl
no_script (Some script) none = absurd (none script refl)

wrong_first : (texts : List (List ℕ)) (number : ℕ) → IsFirstWrong number texts → script_from no_lines 1 texts ≡ Err number
wrong_first texts number w =
    let whole : suc (number - 1) ≡ number = omega (arith, w.counted) in
    let none = no_script (with_texts no_lines (take number texts)) (λ script e. w.wrong script (texts_script (take number texts) script e)) in
    texts_err no_lines 1 (number - 1) texts (record { there = omega (arith, w.counted, w.there); result = w.before.0; before = script_texts (take (number - 1) texts) w.before.0 w.before.1; wrong = rw whole none })
    ∙ ap Err (omega (arith, w.counted))

-- the texts are the lines of the text
text_lines : (text : List ℕ) (lines : List (List ℕ)) → AreLinesOf lines text → split_lines text ≡ lines
text_lines text lines are = (splits-lines text lines).1 are

lines_text : (text : List ℕ) → AreLinesOf (split_lines text) text
lines_text text = (splits-lines text (split_lines text)).0 refl

pub reads-scripts : ReadsSiteScripts
reads-scripts = record {
  script = λ text script. (
    λ e. (split_lines text, lines_text text, texts_script (split_lines text) script (ok_texts no_lines 1 (split_lines text) script e)),
    λ s. texts_ok no_lines 1 (split_lines text) script (script_texts (split_lines text) script (subst (λ ls. AreScript ls script) (sym (text_lines text s.0 s.1)) s.2)),
  );
  wrong = λ text number. (
    λ e. (split_lines text, lines_text text, first_wrong (split_lines text) number (err_texts no_lines 1 (split_lines text) number e)),
    λ w. wrong_first (split_lines text) number (subst (IsFirstWrong number) (sym (text_lines text w.0 w.1)) w.2),
  );
}
