-- The first fault that is computed is the first in the words of the format.
use Rattle.std.proofs.Common.{◌≡◌, ℕ, ◌≤◌, Ordering, Less, Equal, Greater, Bool, true, false, cond, ltb, List, [], ◌∷◌, ◌++◌, length, Option, Some, None, refl, sym, ap, subst, ◌∙◌, append_assoc, inl, inr}
use Rattle.std.specs.Prelude.{◌⊎◌, ◌↔◌, ◌||◌, fold, not, option_map}
use Rattle.std.specs.List.{list_any, flat_map}
use Rattle.std.specs.Option.{option_or}
use Rattle.std.specs.Ordering.{nat_cmp, is_lt, ordering_reverse}
use Rattle.std.specs.Cmp.Lexicographic.{slice_cmp}
use Rattle.std.specs.Str.{bytes_eq}
use Rattle.std.proofs.lemmas.Bool.{cases_lt, le-ltb, lt-ltb}
use Rattle.std.proofs.lemmas.Cmp.{nat_list_cmp_total, tied_itself}
use Rattle.std.proofs.lemmas.List.{append-nil}
use Rattle.std.proofs.lemmas.Map.Lookups.{exact_bytes}
use Rattle.std.proofs.lemmas.Slice.Eq.{bytes_eq-Decides}
use Rattle.toml.specs.Data.{Members}
use Rattle.gw_config.specs.declared.fault.ConfigFault.{ConfigFault}
use Rattle.gw_config.specs.declared.fault.ConfigFault.TheVariants.{Long, NotToml, Wrong, Twice}
use Rattle.gw_config.specs.Keys.{document_names, terminal_names, terminal_prefix}
use Rattle.gw_config.specs.Grammar.{document_of}
use Rattle.gw_config.specs.Faults.{document_faults, terminal_faults, first_some, terminal_fault, each_fault, repeated_after, pois_of, twice_fault, terminals_fault, smaller, smallest, keys_in, keys_outside, unknown_keys, unknown_fault, unknown_faults, terminals_of, table_fault, document_fault, document_limit, fault_in}
use Rattle.gw_config.specs.FirstFault.{AreFaultless, IsFirstOf, HaveFaultlessKeys, IsFirstOfTerminals, IsAmong, AllDiffer, IsRepeatedPoi, IsBeforeByBytes, IsSmallestOf, HaveKnownKeys, IsUnknownKey, IsFaultlessTable, IsFirstFault, DocumentKey, TerminalKey, RepeatedPoi, UnknownKey, UnknownTerminalKey, IsFirstDocumentFault, IsFaultlessDocument, TooLong, NoToml, OfTable}

-- ---- which value is computed, or that there is none

record Computes {X : Type 0} (found : Option X) (IsFound : X → Type 0) (NoneThere : Type 0) : Type 0 where
  there : (x : X) → found ≡ Some x → IsFound x
  only : (x : X) → IsFound x → found ≡ Some x
  nothing : found ≡ None → NoneThere
  none : NoneThere → found ≡ None

-- what computes a value that is said in one way computes it also where the value is said in another way that means as much
said : {X : Type 0} {found : Option X} {P Q : X → Type 0} {N M : Type 0} → Computes found P N → ((x : X) → P x → Q x) → ((x : X) → Q x → P x) → (N → M) → (M → N) → Computes found Q M
said computes on back never yes_ = record {
  there = λ x e. on x (computes.there x e);
  only = λ x q. computes.only x (back x q);
  nothing = λ e. never (computes.nothing e);
  none = λ m. computes.none (yes_ m);
}

some_is : {X : Type 0} (x y : X) → (let found : Option X = Some x in found) ≡ Some y → x ≡ y
some_is x y e = cc

some_not_none : {X : Type 0} (x : X) → (let found : Option X = Some x in found) ≡ None → ⊥
some_not_none x e = cc

-- one, else another
one_else : {X : Type 0} {P Q : X → Type 0} {N M : Type 0} (first other : Option X) → Computes first P N → Computes other Q M → Computes (option_or first other) (λ x. P x ⊎ (N × Q x)) (N × M)
one_else None other is computes = record {
  there = λ x e. inr (is.nothing refl, computes.there x e);
  only = λ x p. elim p [ inl here ↦ absurd (let some = is.only x here in cc some) | inr both ↦ computes.only x both.1 ];
  nothing = λ e. (is.nothing refl, computes.nothing e);
  none = λ both. computes.none both.1;
}
one_else (Some y) other is computes = record {
  there = λ x e. inl (is.there x e);
  only = λ x p. elim p [ inl here ↦ is.only x here | inr both ↦ absurd (let empty = is.none both.0 in cc empty) ];
  nothing = λ e. absurd cc;
  none = λ both. is.none both.0;
}

-- ---- the first of some

head_is : {X : Type 0} (x y : X) (xs ys : List X) → x ∷ xs ≡ y ∷ ys → x ≡ y
head_is x y xs ys e = cc

tail_is : {X : Type 0} (x y : X) (xs ys : List X) → x ∷ xs ≡ y ∷ ys → xs ≡ ys
tail_is x y xs ys e = cc

no_first : (before after : List (Option ConfigFault)) (fault : ConfigFault) → [] ≡ before ++ Some fault ∷ after → ⊥
no_first [] after fault e = cc
no_first (x ∷ before) after fault e = cc

past_none : (key_faults : List (Option ConfigFault)) (fault : ConfigFault) → IsFirstOf (None ∷ key_faults) fault → IsFirstOf key_faults fault
past_none key_faults fault ([], after, is, free) = absurd (let e = head_is None (Some fault) key_faults after is in cc e)
past_none key_faults fault (x ∷ before, after, is, (none, free)) = (before, after, tail_is None x key_faults (before ++ Some fault ∷ after) is, free)

here_first : (key_faults : List (Option ConfigFault)) (here fault : ConfigFault) → IsFirstOf (Some here ∷ key_faults) fault → first_some (Some here ∷ key_faults) ≡ Some fault
here_first key_faults here fault ([], after, is, free) = head_is (Some here) (Some fault) key_faults after is
here_first key_faults here fault (x ∷ before, after, is, (none, free)) = absurd (let e = head_is (Some here) x key_faults (before ++ Some fault ∷ after) is in cc (e, none))

first_computes : (key_faults : List (Option ConfigFault)) → Computes (first_some key_faults) (IsFirstOf key_faults) (AreFaultless key_faults)
first_computes [] = record {
  there = λ fault e. absurd cc;
  only = λ fault first. absurd (no_first first.0 first.1 fault first.2);
  nothing = λ e. tt;
  none = λ free. refl;
}
first_computes (None ∷ key_faults) =
    let computes = first_computes key_faults in
    record {
      there = λ fault e. let (before, after, is, free) = computes.there fault e in (None ∷ before, after, ap (λ (l : List (Option ConfigFault)). None ∷ l) is, (refl, free));
      only = λ fault first. computes.only fault (past_none key_faults fault first);
      nothing = λ e. (refl, computes.nothing e);
      none = λ free. computes.none free.1;
    }
first_computes (Some here ∷ key_faults) = record {
  there = λ fault e. ([], key_faults, ap (λ (o : Option ConfigFault). o ∷ key_faults) e, tt);
  only = here_first key_faults here;
  nothing = λ e. absurd cc;
  none = λ free. free.0;
}

-- ---- terminals, one after another

no_terminal : (before after : List Members) (table : Members) → [] ≡ before ++ table ∷ after → ⊥
no_terminal [] after table e = cc
no_terminal (x ∷ before) after table e = cc

this_or_later : (table : Members) (tables : List Members) (fault : ConfigFault) → IsFirstOfTerminals (table ∷ tables) fault
    → IsFirstOf (terminal_faults table) fault ⊎ (AreFaultless (terminal_faults table) × IsFirstOfTerminals tables fault)
this_or_later table tables fault ([], it, after, is, free, first) =
    inl (subst (λ (t : Members). IsFirstOf (terminal_faults t) fault) (sym (head_is table it tables after is)) first)
this_or_later table tables fault (x ∷ before, it, after, is, (none, free), first) =
    inr (subst (λ (t : Members). AreFaultless (terminal_faults t)) (sym (head_is table x tables (before ++ it ∷ after) is)) none, (before, it, after, tail_is table x tables (before ++ it ∷ after) is, free, first))

this_or_later_back : (table : Members) (tables : List Members) (fault : ConfigFault)
    → IsFirstOf (terminal_faults table) fault ⊎ (AreFaultless (terminal_faults table) × IsFirstOfTerminals tables fault)
    → IsFirstOfTerminals (table ∷ tables) fault
this_or_later_back table tables fault (inl first) = ([], table, tables, refl, tt, first)
this_or_later_back table tables fault (inr (none, (before, it, after, is, free, first))) =
    (table ∷ before, it, after, ap (λ (l : List Members). table ∷ l) is, (none, free), first)

each_computes : (tables : List Members) → Computes (each_fault tables) (IsFirstOfTerminals tables) (HaveFaultlessKeys tables)
each_computes [] = record {
  there = λ fault e. absurd cc;
  only = λ fault first. absurd (no_terminal first.0 first.2 first.1 first.3);
  nothing = λ e. tt;
  none = λ free. refl;
}
each_computes (table ∷ tables) =
    said (one_else (terminal_fault table) (each_fault tables) (first_computes (terminal_faults table)) (each_computes tables))
    (this_or_later_back table tables) (this_or_later table tables) (λ free. free) (λ free. free)

-- ---- names that repeat

among_by : (test : Bool) (name other : List ℕ) (others : List (List ℕ)) → bytes_eq name other ≡ test → (list_any (bytes_eq name) others ≡ true → IsAmong others name) → (test || list_any (bytes_eq name) others) ≡ true → IsAmong (other ∷ others) name
among_by true name other others is more found = inl ((bytes_eq-Decides name other).0 is)
among_by false name other others is more found = inr (more found)

found_among : (names : List (List ℕ)) (name : List ℕ) → list_any (bytes_eq name) names ≡ true → IsAmong names name
found_among [] name found = absurd cc
found_among (other ∷ others) name found = among_by (bytes_eq name other) name other others refl (found_among others name) found

among_found : (names : List (List ℕ)) (name : List ℕ) → IsAmong names name → list_any (bytes_eq name) names ≡ true
among_found [] name among = absurd among
among_found (other ∷ others) name (inl same) = ap (λ (b : Bool). b || list_any (bytes_eq name) others) ((bytes_eq-Decides name other).1 same)
among_found (other ∷ others) name (inr among) = or_true (bytes_eq name other) (list_any (bytes_eq name) others) (among_found others name among)
  where
    or_true : (a b : Bool) → b ≡ true → (a || b) ≡ true
    or_true true b is = refl
    or_true false b is = is

among_left : (names others : List (List ℕ)) (name : List ℕ) → IsAmong names name → IsAmong (names ++ others) name
among_left [] others name among = absurd among
among_left (x ∷ names) others name (inl same) = inl same
among_left (x ∷ names) others name (inr among) = inr (among_left names others name among)

among_right : (names others : List (List ℕ)) (name : List ℕ) → IsAmong others name → IsAmong (names ++ others) name
among_right [] others name among = among
among_right (x ∷ names) others name among = inr (among_right names others name among)

among_either : (names others : List (List ℕ)) (name : List ℕ) → IsAmong (names ++ others) name → IsAmong names name ⊎ IsAmong others name
among_either [] others name among = inr among
among_either (x ∷ names) others name (inl same) = inl (inl same)
among_either (x ∷ names) others name (inr among) = elim (among_either names others name among) [ inl here ↦ inl (inr here) | inr there ↦ inr there ]

-- a name that is none of those before it
differ_one_more : (names : List (List ℕ)) (name : List ℕ) → AllDiffer names → (IsAmong names name → ⊥) → AllDiffer (names ++ name ∷ [])
differ_one_more [] name differ new = ((λ among. among), tt)
differ_one_more (x ∷ names) name (fresh, differ) new = (
  (λ among. elim (among_either names (name ∷ []) x among) [
    | inl here ↦ fresh here
    | inr there ↦ elim there [ inl same ↦ new (inl (sym same)) | inr never ↦ never ]
  ]),
  differ_one_more names name differ (λ among. new (inr among)),
)

differ_clash : (names : List (List ℕ)) (name : List ℕ) (others : List (List ℕ)) → AllDiffer (names ++ name ∷ others) → IsAmong names name → ⊥
differ_clash [] name others differ among = among
differ_clash (x ∷ names) name others (fresh, differ) (inl same) = fresh (among_right names (name ∷ others) x (inl (sym same)))
differ_clash (x ∷ names) name others (fresh, differ) (inr among) = differ_clash names name others differ among

-- the first name that repeats, after those that were looked at
abbrev IsRepeatedAfter : List (List ℕ) → List (List ℕ) → List ℕ → Type 0
IsRepeatedAfter before names name = (middle : List (List ℕ)) × (after : List (List ℕ))
    × (names ≡ middle ++ name ∷ after) × IsAmong (before ++ middle) name × AllDiffer (before ++ middle)

no_name : (before names after : List (List ℕ)) (name : List ℕ) → IsRepeatedAfter before [] name → ⊥
no_name before names after name ([], rest, is, among, differ) = cc
no_name before names after name (x ∷ middle, rest, is, among, differ) = cc

repeats_here : (before : List (List ℕ)) (name : List ℕ) (names : List (List ℕ)) (found : List ℕ) → IsAmong before name → IsRepeatedAfter before (name ∷ names) found → name ≡ found
repeats_here before name names found among ([], after, is, there, differ) = head_is name found names after is
repeats_here before name names found among (x ∷ middle, after, is, there, differ) =
    absurd (differ_clash before x middle differ (subst (IsAmong before) (head_is name x names (middle ++ found ∷ after) is) among))

repeats_later : (before : List (List ℕ)) (name : List ℕ) (names : List (List ℕ)) (found : List ℕ) → (IsAmong before name → ⊥) → IsRepeatedAfter before (name ∷ names) found → IsRepeatedAfter (before ++ name ∷ []) names found
repeats_later before name names found new ([], after, is, there, differ) =
    absurd (new (subst (IsAmong before) (sym (head_is name found names after is)) (subst (λ (l : List (List ℕ)). IsAmong l found) (append-nil before) there)))
repeats_later before name names found new (x ∷ middle, after, is, there, differ) =
    let same : before ++ x ∷ middle ≡ (before ++ name ∷ []) ++ middle = ap (λ (n : List ℕ). before ++ n ∷ middle) (sym (head_is name x names (middle ++ found ∷ after) is)) ∙ sym (append_assoc before (name ∷ []) middle) in
    (middle, after, tail_is name x names (middle ++ found ∷ after) is, subst (λ (l : List (List ℕ)). IsAmong l found) same there, subst AllDiffer same differ)

repeats_later_back : (before : List (List ℕ)) (name : List ℕ) (names : List (List ℕ)) (found : List ℕ) → IsRepeatedAfter (before ++ name ∷ []) names found → IsRepeatedAfter before (name ∷ names) found
repeats_later_back before name names found (middle, after, is, there, differ) =
    let same : (before ++ name ∷ []) ++ middle ≡ before ++ name ∷ middle = append_assoc before (name ∷ []) middle in
    (name ∷ middle, after, ap (λ (l : List (List ℕ)). name ∷ l) is, subst (λ (l : List (List ℕ)). IsAmong l found) same there, subst AllDiffer same differ)

repeated_by : (test : Bool) (before : List (List ℕ)) (name : List ℕ) (names : List (List ℕ)) → list_any (bytes_eq name) before ≡ test → AllDiffer before
    → (AllDiffer (before ++ name ∷ []) → Computes (repeated_after (before ++ name ∷ []) names) (IsRepeatedAfter (before ++ name ∷ []) names) (AllDiffer ((before ++ name ∷ []) ++ names)))
    → Computes (cond test (Some name) (repeated_after (before ++ name ∷ []) names)) (IsRepeatedAfter before (name ∷ names)) (AllDiffer (before ++ name ∷ names))
repeated_by true before name names is differ more =
    let among = found_among before name is in
    let empty : before ≡ before ++ [] = sym (append-nil before) in
    record {
      there = λ found e. subst (IsRepeatedAfter before (name ∷ names)) (some_is name found e) ([], names, refl, subst (λ (l : List (List ℕ)). IsAmong l name) empty among, subst AllDiffer empty differ);
      only = λ found repeats. ap (λ (n : List ℕ). Some n) (repeats_here before name names found among repeats);
      nothing = λ e. absurd cc;
      none = λ all. absurd (differ_clash before name names all among);
    }
repeated_by false before name names is differ more =
    let new : IsAmong before name → ⊥ = λ among. let found = among_found before name among in cc (found, is) in
    said (more (differ_one_more before name differ new)) (repeats_later_back before name names) (λ found. repeats_later before name names found new)
    (subst AllDiffer (append_assoc before (name ∷ []) names)) (subst AllDiffer (sym (append_assoc before (name ∷ []) names)))

repeated_computes : (before names : List (List ℕ)) → AllDiffer before → Computes (repeated_after before names) (IsRepeatedAfter before names) (AllDiffer (before ++ names))
repeated_computes before [] differ = record {
  there = λ found e. absurd cc;
  only = λ found repeats. absurd (no_name before [] [] found repeats);
  nothing = λ e. subst AllDiffer (sym (append-nil before)) differ;
  none = λ all. refl;
}
repeated_computes before (name ∷ names) differ =
    repeated_by (list_any (bytes_eq name) before) before name names refl differ (repeated_computes (before ++ name ∷ []) names)

-- a fault made of what is found
made_of : {found : Option (List ℕ)} {P : List ℕ → Type 0} {N : Type 0} (make : List ℕ → ConfigFault) → Computes found P N
    → Computes (option_map make found) (λ fault. (name : List ℕ) × (fault ≡ make name) × P name) N
made_of {found} {P} {N} make computes = by_found found refl
  where
    by_found : (o : Option (List ℕ)) → found ≡ o → Computes (option_map make found) (λ fault. (name : List ℕ) × (fault ≡ make name) × P name) N
    by_found None is = record {
      there = λ fault e. absurd (let empty = ap (option_map make) is in cc (empty, e));
      only = λ fault made. absurd (let some = computes.only made.0 made.2 in cc (some, is));
      nothing = λ e. computes.nothing is;
      none = λ never. ap (option_map make) is;
    }
    by_found (Some name) is = record {
      there = λ fault e. (name, sym (some_is (make name) fault (sym (ap (option_map make) is) ∙ e)), computes.there name is);
      only = λ fault made. ap (option_map make) (computes.only made.0 made.2) ∙ ap (λ (f : ConfigFault). Some f) (sym made.1);
      nothing = λ e. absurd (let some = ap (option_map make) is in cc (some, e));
      none = λ never. absurd (let empty = computes.none never in cc (empty, is));
    }

twice_computes : (tables : List Members) → Computes (twice_fault tables) (IsRepeatedPoi tables) (AllDiffer (pois_of tables))
twice_computes tables = made_of (λ poi. Twice poi) (repeated_computes [] (pois_of tables) tt)

-- ---- the smallest name

abbrev by_bytes : List ℕ → List ℕ → Ordering
by_bytes = slice_cmp nat_cmp

less_is : (o : Ordering) → is_lt o ≡ true → o ≡ Less
less_is Less is = refl
less_is Equal is = absurd cc
less_is Greater is = absurd cc

-- a name doesn't come before itself
not_itself : (name : List ℕ) → IsBeforeByBytes name name → ⊥
not_itself name is = let tied = tied_itself nat_list_cmp_total name in let less = less_is (by_bytes name name) is in cc (tied, less)

before_before : (a b c : List ℕ) → IsBeforeByBytes a b → IsBeforeByBytes b c → IsBeforeByBytes a c
before_before a b c first second =
    ap is_lt (nat_list_cmp_total.trans a b c (less_is (by_bytes a b) first) (less_is (by_bytes b c) second))

-- two names of which neither comes before the other are the same
data Order : List ℕ → List ℕ → Type 0 where
  Before : {a b : List ℕ} → IsBeforeByBytes a b → Order a b
  Same : {a b : List ℕ} → a ≡ b → Order a b
  After : {a b : List ℕ} → IsBeforeByBytes b a → Order a b

order_by : (a b : List ℕ) (o : Ordering) → by_bytes a b ≡ o → Order a b
order_by a b Less is = Before (ap is_lt is)
order_by a b Equal is = Same (exact_bytes a b is)
order_by a b Greater is = After (ap is_lt (nat_list_cmp_total.antisymm b a ∙ ap ordering_reverse is))

order_of : (a b : List ℕ) → Order a b
order_of a b = order_by a b (by_bytes a b) refl

-- the smallest of these names, which is what the fold gives
record SmallestFound (least : List ℕ) (names : List (List ℕ)) : Type 0 where
  least_name : List ℕ
  gives : fold smaller (Some least) names ≡ Some least_name
  smallest_name : IsSmallestOf (least ∷ names) least_name

-- a new name that comes before the least is the least from then on
found_smaller : (least name : List ℕ) (names : List (List ℕ)) → IsBeforeByBytes name least → (found : SmallestFound name names) (other : List ℕ) → IsAmong (least ∷ name ∷ names) other → IsBeforeByBytes other found.least_name → ⊥
found_smaller least name names before found other (inr among) is = found.smallest_name.1 other among is
found_smaller least name names before found other (inl same) is =
    found.smallest_name.1 name (inl refl) (before_before name least found.least_name before (subst (λ (o : List ℕ). IsBeforeByBytes o found.least_name) same is))

found_kept : (least name : List ℕ) (names : List (List ℕ)) → (IsBeforeByBytes name least → ⊥) → (found : SmallestFound least names) (other : List ℕ) → IsAmong (least ∷ name ∷ names) other → IsBeforeByBytes other found.least_name → ⊥
found_kept least name names isnt found other (inl same) is = found.smallest_name.1 other (inl same) is
found_kept least name names isnt found other (inr (inr among)) is = found.smallest_name.1 other (inr among) is
found_kept least name names isnt found other (inr (inl same)) is =
    let new : IsBeforeByBytes name found.least_name = subst (λ (o : List ℕ). IsBeforeByBytes o found.least_name) same is in
    elim (order_of found.least_name least) [
      | Before before ↦ isnt (before_before name found.least_name least new before)
      | Same e ↦ isnt (subst (IsBeforeByBytes name) e new)
      | After after ↦ found.smallest_name.1 least (inl refl) after
    ]

kept_among : (least name found : List ℕ) (names : List (List ℕ)) → IsAmong (least ∷ names) found → IsAmong (least ∷ name ∷ names) found
kept_among least name found names (inl same) = inl same
kept_among least name found names (inr among) = inr (inr among)

find_by : (test : Bool) (least name : List ℕ) (names : List (List ℕ)) → is_lt (by_bytes name least) ≡ test → ((l : List ℕ) → SmallestFound l names) → SmallestFound least (name ∷ names)
find_by true least name names is more =
    let found = more name in
    record {
      least_name = found.least_name;
      gives = ap (λ (b : Bool). fold smaller (cond b (Some name) (Some least)) names) is ∙ found.gives;
      smallest_name = (inr found.smallest_name.0, found_smaller least name names is found);
    }
find_by false least name names is more =
    let found = more least in
    record {
      least_name = found.least_name;
      gives = ap (λ (b : Bool). fold smaller (cond b (Some name) (Some least)) names) is ∙ found.gives;
      smallest_name = (kept_among least name found.least_name names found.smallest_name.0, found_kept least name names (λ before. cc (before, is)) found);
    }

find : (names : List (List ℕ)) (least : List ℕ) → SmallestFound least names
find [] least = record {
  least_name = least;
  gives = refl;
  smallest_name = (inl refl, λ other among before. elim among [ inl same ↦ not_itself least (subst (λ (o : List ℕ). IsBeforeByBytes o least) same before) | inr never ↦ never ]);
}
find (name ∷ names) least = find_by (is_lt (by_bytes name least)) least name names refl (find names)

one_smallest : (names : List (List ℕ)) (a b : List ℕ) → IsSmallestOf names a → IsSmallestOf names b → a ≡ b
one_smallest names a b (a_among, a_least) (b_among, b_least) =
    elim (order_of a b) [
      | Before before ↦ absurd (b_least a a_among before)
      | Same e ↦ e
      | After after ↦ absurd (a_least b b_among after)
    ]

smallest_computes : (names : List (List ℕ)) → Computes (smallest names) (IsSmallestOf names) (names ≡ [])
smallest_computes [] = record {
  there = λ name e. absurd cc;
  only = λ name is. absurd is.0;
  nothing = λ e. refl;
  none = λ e. refl;
}
smallest_computes (first ∷ names) =
    let found = find names first in
    record {
      there = λ name e. subst (IsSmallestOf (first ∷ names)) (some_is found.least_name name (sym found.gives ∙ e)) found.smallest_name;
      only = λ name is. found.gives ∙ ap (λ (n : List ℕ). Some n) (one_smallest (first ∷ names) found.least_name name found.smallest_name is);
      nothing = λ e. absurd (some_not_none found.least_name (sym found.gives ∙ e));
      none = λ e. absurd cc;
    }

-- ---- known keys

-- two lists with nothing in them together
none_left : (xs ys : List (List ℕ)) → xs ++ ys ≡ [] → (xs ≡ []) × (ys ≡ [])
none_left [] ys e = (refl, e)
none_left (x ∷ xs) ys e = absurd cc

-- a key's test against the names, and what is left of the keys by it
abbrev outside_by : Bool → List ℕ → List (List ℕ) → List (List ℕ)
outside_by known key others = cond (not known) (key ∷ others) others

known_by : (test : Bool) (names : List (List ℕ)) (first : List ℕ) (keys : List (List ℕ)) (key : List ℕ) → list_any (bytes_eq first) names ≡ test
    → (keys_outside names keys ≡ [] → IsAmong keys key → IsAmong names key) → keys_outside names (first ∷ keys) ≡ [] → IsAmong (first ∷ keys) key → IsAmong names key
known_by true names first keys key is later e (inl same) = subst (IsAmong names) (sym same) (found_among names first is)
known_by true names first keys key is later e (inr among) = later (sym (ap (λ (b : Bool). outside_by b first (keys_outside names keys)) is) ∙ e) among
known_by false names first keys key is later e among =
    absurd (let some = sym (ap (λ (b : Bool). outside_by b first (keys_outside names keys)) is) ∙ e in cc some)

known_here : (names keys : List (List ℕ)) → keys_outside names keys ≡ [] → (key : List ℕ) → IsAmong keys key → IsAmong names key
known_here names [] e key among = absurd among
known_here names (first ∷ keys) e key among =
    known_by (list_any (bytes_eq first) names) names first keys key refl (λ none later. known_here names keys none key later) e among

here_known : (names keys : List (List ℕ)) → ((key : List ℕ) → IsAmong keys key → IsAmong names key) → keys_outside names keys ≡ []
here_known names [] known = refl
here_known names (first ∷ keys) known =
    ap (λ (b : Bool). outside_by b first (keys_outside names keys)) (among_found names first (known first (inl refl)))
    ∙ here_known names keys (λ key among. known key (inr among))

none_unknown : (names : List (List ℕ)) (tables : List Members) → flat_map (unknown_keys names) tables ≡ [] → HaveKnownKeys names tables
none_unknown names [] e key among = absurd among
none_unknown names (table ∷ tables) e key among =
    let none = none_left (unknown_keys names table) (flat_map (unknown_keys names) tables) e in
    elim (among_either (keys_in table) (flat_map keys_in tables) key among) [
      | inl here ↦ known_here names (keys_in table) none.0 key here
      | inr there ↦ none_unknown names tables none.1 key there
    ]

all_known : (names : List (List ℕ)) (tables : List Members) → HaveKnownKeys names tables → flat_map (unknown_keys names) tables ≡ []
all_known names [] known = refl
all_known names (table ∷ tables) known =
    ap (λ (l : List (List ℕ)). l ++ flat_map (unknown_keys names) tables) (here_known names (keys_in table) (λ key among. known key (among_left (keys_in table) (flat_map keys_in tables) key among)))
    ∙ all_known names tables (λ key among. known key (among_right (keys_in table) (flat_map keys_in tables) key among))

unknown_key_computes : (prefix : List ℕ) (names : List (List ℕ)) (tables : List Members) → Computes (unknown_fault prefix names tables) (IsUnknownKey prefix names tables) (HaveKnownKeys names tables)
unknown_key_computes prefix names tables =
    said (made_of (λ key. Wrong (prefix ++ key)) (smallest_computes (flat_map (unknown_keys names) tables)))
    (λ fault is. is) (λ fault is. is) (none_unknown names tables) (all_known names tables)

-- ---- a table

abbrev IsTerminalsFault : List Members → ConfigFault → Type 0
IsTerminalsFault tables fault = IsFirstOfTerminals tables fault ⊎ (HaveFaultlessKeys tables × (IsRepeatedPoi tables fault ⊎ (AllDiffer (pois_of tables) × ⊥)))

no_more : {X : Type 0} → Computes {X = X} None (λ x. ⊥) (Unit {0})
no_more = record { there = λ x e. absurd cc; only = λ x never. absurd never; nothing = λ e. tt; none = λ free. refl }

terminals_compute : (tables : List Members) → Computes (terminals_fault tables) (IsTerminalsFault tables) (HaveFaultlessKeys tables × (AllDiffer (pois_of tables) × Unit {0}))
terminals_compute tables =
    one_else (each_fault tables) (option_or (twice_fault tables) None) (each_computes tables) (one_else (twice_fault tables) None (twice_computes tables) no_more)

abbrev IsUnknown : Members → ConfigFault → Type 0
IsUnknown table fault = IsUnknownKey [] document_names (table ∷ []) fault
    ⊎ (HaveKnownKeys document_names (table ∷ []) × (IsUnknownKey terminal_prefix terminal_names (terminals_of table) fault ⊎ (HaveKnownKeys terminal_names (terminals_of table) × ⊥)))

unknown_compute : (table : Members) → Computes (unknown_faults table (terminals_of table)) (IsUnknown table) (HaveKnownKeys document_names (table ∷ []) × (HaveKnownKeys terminal_names (terminals_of table) × Unit {0}))
unknown_compute table =
    one_else (unknown_fault [] document_names (table ∷ [])) (option_or (unknown_fault terminal_prefix terminal_names (terminals_of table)) None)
    (unknown_key_computes [] document_names (table ∷ []))
    (one_else (unknown_fault terminal_prefix terminal_names (terminals_of table)) None (unknown_key_computes terminal_prefix terminal_names (terminals_of table)) no_more)

or_more : (a b c : Option ConfigFault) → option_or (option_or a b) c ≡ option_or a (option_or b c)
or_more None b c = refl
or_more (Some x) b c = refl

first_of_both : (key_faults others : List (Option ConfigFault)) → first_some (key_faults ++ others) ≡ option_or (first_some key_faults) (first_some others)
first_of_both [] others = refl
first_of_both (x ∷ key_faults) others = ap (option_or x) (first_of_both key_faults others) ∙ sym (or_more x (first_some key_faults) (first_some others))

abbrev IsTableFault : Members → ConfigFault → Type 0
IsTableFault table fault = IsFirstOf (document_faults table) fault
    ⊎ (AreFaultless (document_faults table) × (IsTerminalsFault (terminals_of table) fault
    ⊎ ((HaveFaultlessKeys (terminals_of table) × (AllDiffer (pois_of (terminals_of table)) × Unit {0}))
    × (IsUnknown table fault ⊎ ((HaveKnownKeys document_names (table ∷ []) × (HaveKnownKeys terminal_names (terminals_of table) × Unit {0})) × ⊥)))))

in_rows : (table : Members) (fault : ConfigFault) → IsTableFault table fault → IsFirstFault table fault
in_rows table fault (inl first) = DocumentKey first
in_rows table fault (inr (keys, inl (inl first))) = TerminalKey keys first
in_rows table fault (inr (keys, inl (inr (terminals, inl repeated)))) = RepeatedPoi keys terminals repeated
in_rows table fault (inr (keys, inl (inr (terminals, inr (differ, never))))) = absurd never
in_rows table fault (inr (keys, inr ((terminals, (differ, end)), inl (inl unknown)))) = UnknownKey (record { keys = keys; terminals = terminals; pois = differ }) unknown
in_rows table fault (inr (keys, inr ((terminals, (differ, end)), inl (inr (known, inl unknown))))) = UnknownTerminalKey (record { keys = keys; terminals = terminals; pois = differ }) known unknown
in_rows table fault (inr (keys, inr (rest, inl (inr (known, inr (others, never)))))) = absurd never
in_rows table fault (inr (keys, inr (rest, inr (known, never)))) = absurd never

of_rows : (table : Members) (fault : ConfigFault) → IsFirstFault table fault → IsTableFault table fault
of_rows table fault (DocumentKey first) = inl first
of_rows table fault (TerminalKey keys first) = inr (keys, inl (inl first))
of_rows table fault (RepeatedPoi keys terminals repeated) = inr (keys, inl (inr (terminals, inl repeated)))
of_rows table fault (UnknownKey setup unknown) = inr (setup.keys, inr ((setup.terminals, (setup.pois, tt)), inl (inl unknown)))
of_rows table fault (UnknownTerminalKey setup known unknown) = inr (setup.keys, inr ((setup.terminals, (setup.pois, tt)), inl (inr (known, inl unknown))))

-- nothing is wrong with a table, by what is asked of it one after another
abbrev AsksNothing : Members → Type 0
AsksNothing table = AreFaultless (document_faults table)
    × ((HaveFaultlessKeys (terminals_of table) × (AllDiffer (pois_of (terminals_of table)) × Unit {0}))
    × ((HaveKnownKeys document_names (table ∷ []) × (HaveKnownKeys terminal_names (terminals_of table) × Unit {0})) × Unit {0}))

faultless_of : (table : Members) → AsksNothing table → IsFaultlessTable table
faultless_of table (keys, ((terminals, (pois, one)), ((known, (others, two)), three))) =
    record { setup = record { keys = keys; terminals = terminals; pois = pois }; known = known; terminals_known = others }

table_computes : (table : Members) → Computes (table_fault table) (IsFirstFault table) (IsFaultlessTable table)
table_computes table =
    let tables = terminals_of table in
    let others : List (Option ConfigFault) = terminals_fault tables ∷ unknown_faults table tables ∷ [] in
    let computes = one_else (first_some (document_faults table)) (first_some others) (first_computes (document_faults table))
    (one_else (terminals_fault tables) (option_or (unknown_faults table tables) None) (terminals_compute tables)
    (one_else (unknown_faults table tables) None (unknown_compute table) no_more)) in
    let whole : table_fault table ≡ option_or (first_some (document_faults table)) (first_some others) = first_of_both (document_faults table) others in
    record {
      there = λ fault e. in_rows table fault (computes.there fault (sym whole ∙ e));
      only = λ fault first. whole ∙ computes.only fault (of_rows table fault first);
      nothing = λ e. faultless_of table (computes.nothing (sym whole ∙ e));
      none = λ free. whole ∙ computes.none (free.setup.keys, ((free.setup.terminals, (free.setup.pois, tt)), ((free.known, (free.terminals_known, tt)), tt)));
    }

pub first_table_fault : (table : Members) (fault : ConfigFault) → (table_fault table ≡ Some fault) ↔ IsFirstFault table fault
first_table_fault table fault = let computes = table_computes table in (computes.there fault, computes.only fault)

pub no_table_fault : (table : Members) → (table_fault table ≡ None) ↔ IsFaultlessTable table
no_table_fault table = let computes = table_computes table in (computes.nothing, computes.none)

-- ---- a document

of_document : (bytes : List ℕ) (fault : ConfigFault) → length bytes ≤ document_limit → (document : Option Members) → document_of bytes ≡ document → document_fault document ≡ Some fault → IsFirstDocumentFault bytes fault
of_document bytes fault fits None is e = subst (IsFirstDocumentFault bytes) (some_is (NotToml 0) fault e) (NoToml fits is)
of_document bytes fault fits (Some table) is e = OfTable table fits is ((first_table_fault table fault).0 e)

abbrev by_length : List ℕ → Bool → Option ConfigFault
by_length bytes long = cond long (Some Long) (document_fault (document_of bytes))

document_first : (bytes : List ℕ) (fault : ConfigFault) → fault_in bytes ≡ Some fault → IsFirstDocumentFault bytes fault
document_first bytes fault e =
    elim (cases_lt document_limit (length bytes)) [
      | inl long ↦
          let test : ltb document_limit (length bytes) ≡ true = lt-ltb _ _ long in
          subst (IsFirstDocumentFault bytes) (some_is Long fault (sym (ap (by_length bytes) test) ∙ e)) (TooLong long)
      | inr fits ↦
          let test : ltb document_limit (length bytes) ≡ false = le-ltb _ _ fits in
          of_document bytes fault fits (document_of bytes) refl (sym (ap (by_length bytes) test) ∙ e)
    ]

document_only : (bytes : List ℕ) (fault : ConfigFault) → IsFirstDocumentFault bytes fault → fault_in bytes ≡ Some fault
document_only bytes fault (TooLong long) =
    let test : ltb document_limit (length bytes) ≡ true = lt-ltb _ _ long in ap (by_length bytes) test
document_only bytes fault (NoToml fits is) =
    let test : ltb document_limit (length bytes) ≡ false = le-ltb _ _ fits in ap (by_length bytes) test ∙ ap document_fault is
document_only bytes fault (OfTable table fits is first) =
    let test : ltb document_limit (length bytes) ≡ false = le-ltb _ _ fits in
    ap (by_length bytes) test ∙ ap document_fault is ∙ (first_table_fault table fault).1 first

pub first_document_fault : (bytes : List ℕ) (fault : ConfigFault) → (fault_in bytes ≡ Some fault) ↔ IsFirstDocumentFault bytes fault
first_document_fault bytes fault = (document_first bytes fault, document_only bytes fault)

-- ---- a document without a fault

no_fault_of : (bytes : List ℕ) → length bytes ≤ document_limit → (document : Option Members) → document_of bytes ≡ document → document_fault document ≡ None → IsFaultlessDocument bytes
no_fault_of bytes fits None is e = absurd (some_not_none (NotToml 0) e)
no_fault_of bytes fits (Some table) is e = (fits, table, is, (no_table_fault table).0 e)

document_nothing : (bytes : List ℕ) → fault_in bytes ≡ None → IsFaultlessDocument bytes
document_nothing bytes e =
    elim (cases_lt document_limit (length bytes)) [
      | inl long ↦
          let test : ltb document_limit (length bytes) ≡ true = lt-ltb _ _ long in
          absurd (some_not_none Long (sym (ap (by_length bytes) test) ∙ e))
      | inr fits ↦
          let test : ltb document_limit (length bytes) ≡ false = le-ltb _ _ fits in
          no_fault_of bytes fits (document_of bytes) refl (sym (ap (by_length bytes) test) ∙ e)
    ]

document_none : (bytes : List ℕ) → IsFaultlessDocument bytes → fault_in bytes ≡ None
document_none bytes (fits, table, is, free) =
    let test : ltb document_limit (length bytes) ≡ false = le-ltb _ _ fits in
    ap (by_length bytes) test ∙ ap document_fault is ∙ (no_table_fault table).1 free

pub no_document_fault : (bytes : List ℕ) → (fault_in bytes ≡ None) ↔ IsFaultlessDocument bytes
no_document_fault bytes = (document_nothing bytes, document_none bytes)
