-- The trees of a `Json`, by its variants.
use Rattle.std.proofs.Common.{◌≡◌, ℕ, List, [], ◌∷◌, map, refl, sym, ap, ◌∙◌, Vec, Global, rules, Option, Some, None, Bool, true, false, bytes_eq, option_map, true≢false, ◌↔◌}
use Rattle.std.specs.Prelude.{IsNone, if◌then◌else◌}
use Rattle.std.proofs.lemmas.Slice.Eq.{bytes_eq-Decides}
use Rattle.json_text.specs.Tree.{Tree, null, boolean, number, string, array, object, no_elements, Members, no_members, member, elements_list, array_of, names, member_names_of, member_of, get_of}
use Rattle.json_text.specs.Grammar.{IsNew}
use Rattle.json_text.specs.ValueOf.{value_of, elements_onto, members_onto}
use Rattle.json_text.specs.declared.tree.Json.{Json, the_lemmas}
use Rattle.json_text.specs.declared.tree.Json.TheViews as jsons
use Rattle.json_text.specs.declared.tree.Json.TheVariants as variants

pub elements_list-elements_onto : (xs : List Tree) → elements_list (elements_onto xs no_elements) ≡ xs
elements_list-elements_onto [] = refl
elements_list-elements_onto (x ∷ xs) = ap (λ (l : List Tree). x ∷ l) (elements_list-elements_onto xs)

pub value_of-List : (v : Vec Json Global) → value_of (jsons.List v) ≡ array (elements_onto (map value_of v.items) no_elements)
value_of-List v = search (rules, the_lemmas)

pub value_of-Object : (v : Vec (List ℕ × Json) Global) → value_of (jsons.Object v) ≡ object (members_onto (map (λ m. (m.0, value_of m.1)) v.items) no_members)
value_of-Object v = search (rules, the_lemmas)

pub value_of-Null : value_of variants.Null ≡ null
value_of-Null = search (rules, the_lemmas)

pub value_of-Bool : (b : Bool) → value_of (variants.Bool b) ≡ boolean b
value_of-Bool b = search (rules, the_lemmas)

pub value_of-Number : (text : List ℕ) → value_of (variants.Number text) ≡ number text
value_of-Number text = search (rules, the_lemmas)

pub value_of-Str : (text : List ℕ) → value_of (variants.Str text) ≡ string text
value_of-Str text = search (rules, the_lemmas)

pub array_of-value_of : (j : Json) (v : Vec Json Global) → j ≡ jsons.List v → Some (map value_of v.items) ≡ array_of (value_of j)
array_of-value_of j v e =
    sym (ap (λ (j : Json). array_of (value_of j)) e ∙ ap array_of (value_of-List v) ∙ ap (λ (l : List Tree). Some l) (elements_list-elements_onto (map value_of v.items)))

-- ---- members

abbrev nothing : Option Tree
nothing = None

no_tree : (x : Tree) → nothing ≡ Some x → ⊥
no_tree x e = absurd cc

member_new : (k : List ℕ) (ms : Members) → nothing ≡ member_of k ms → IsNew k (names ms)
member_new k no_members e = tt
member_new k (member own x ms) e = by (bytes_eq own k) refl e (λ f. member_new k ms f)
  where
    by : (b : Bool) → bytes_eq own k ≡ b → nothing ≡ (if b then Some x else member_of k ms) → (nothing ≡ member_of k ms → IsNew k (names ms)) → IsNew k (own ∷ names ms)
    by true i f rest = absurd (no_tree x f)
    by false i f rest = (λ g. true≢false (sym ((bytes_eq-Decides own k).1 (sym g)) ∙ i), rest f)

new_member : (k : List ℕ) (ms : Members) → IsNew k (names ms) → member_of k ms ≡ nothing
new_member k no_members h = refl
new_member k (member own x ms) h = by (bytes_eq own k) refl (new_member k ms h.1)
  where
    by : (b : Bool) → bytes_eq own k ≡ b → member_of k ms ≡ nothing → (if b then Some x else member_of k ms) ≡ nothing
    by true i rest = absurd (h.0 (sym ((bytes_eq-Decides own k).0 i)))
    by false i rest = rest

get_new : (k : List ℕ) (t : Tree) → nothing ≡ get_of k t → IsNew k (member_names_of t)
get_new k (object ms) e = member_new k ms e
get_new k null e = tt
get_new k (boolean b) e = tt
get_new k (number text) e = tt
get_new k (string text) e = tt
get_new k (array xs) e = tt

new_get : (k : List ℕ) (t : Tree) → IsNew k (member_names_of t) → get_of k t ≡ nothing
new_get k (object ms) h = new_member k ms h
new_get k null h = refl
new_get k (boolean b) h = refl
new_get k (number text) h = refl
new_get k (string text) h = refl
new_get k (array xs) h = refl

pub none_where_new : {A : Type 0} (f : A → Tree) (r : Option A) (k : List ℕ) (t : Tree) → option_map f r ≡ get_of k t → IsNone r ↔ IsNew k (member_names_of t)
none_where_new f None k t e = (λ n. get_new k t e, λ h. refl)
none_where_new f (Some x) k t e = (λ n. absurd (true≢false n), λ h. absurd (no_tree (f x) (sym (e ∙ new_get k t h))))
