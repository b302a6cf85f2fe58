-- The strings of a tree that a text spells are UTF-8.
use Rattle.std.proofs.Common.{◌≡◌, ℕ, suc, List, [], ◌∷◌, Option, Some, None, Bool, true, false, refl, sym, subst, ◌∙◌, All, IfSome, bytes_eq, if◌then◌else◌, codes}
use Rattle.std.specs.List.{slice_split, cons_option}
use Rattle.std.specs.Option.{option_and_then}
use Rattle.std.specs.Prelude.{option_map, unwrap_or}
use Rattle.std.specs.Str.{IsUtf8}
use Rattle.std.proofs.lemmas.List.Elements.{All-nil, All-cons, All-head, All-tail}
use Rattle.json_text.specs.Tree.{Tree, null, boolean, number, string, array, object, Elements, no_elements, element, Members, no_members, member, get_of, member_of, string_of, array_of, elements_list}
use Rattle.json_text.specs.Spellable.{IsSpellableAt, AreSpellable, HaveSpellable}
use Rattle.sale_msg.specs.Path.{is_point, text_at, tree_at, tree_under}
use Rattle.sale_msg.specs.Grammar.{listed, outputs_in, texts_of}

-- a tree that is spelled inside so many others
pub record IsPart (tree : Tree) : Type 0 where
  pub depth : ℕ
  pub spellable : IsSpellableAt depth tree

same_some : {A : Type 0} (x y : A) → Some x ≡ Some y → x ≡ y
same_some x y e = cc

no_some : {A P : Type 0} (x : A) (o : Option A) → o ≡ None → o ≡ Some x → P
no_some {A} {P} x o e f = let nothing : Option A = None in let g : nothing ≡ Some x = sym e ∙ f in absurd cc

-- ---- members

member_at : (d : ℕ) (name : List ℕ) (ms : Members) (v : Tree) → HaveSpellable d ms → member_of name ms ≡ Some v → IsSpellableAt d v
member_at d name no_members v h e = no_some v None refl e
member_at d name (member own x rest) v h e = by (bytes_eq own name) e (λ f. member_at d name rest v h.2 f)
  where
    by : (b : Bool) → (if b then Some x else member_of name rest) ≡ Some v → (member_of name rest ≡ Some v → IsSpellableAt d v) → IsSpellableAt d v
    by true f more = let P : Tree → Type 0 = λ t. IsSpellableAt d t in subst P (same_some x v f) h.1
    by false f more = more f

get_at : (d : ℕ) (name : List ℕ) (tree v : Tree) → IsSpellableAt d tree → get_of name tree ≡ Some v → IsSpellableAt (suc d) v
get_at d name null v h e = no_some v None refl e
get_at d name (boolean b) v h e = no_some v None refl e
get_at d name (number text) v h e = no_some v None refl e
get_at d name (string text) v h e = no_some v None refl e
get_at d name (array xs) v h e = no_some v None refl e
get_at d name (object ms) v h e = member_at (suc d) name ms v h.2 e

pub part_of : (name : List ℕ) (tree v : Tree) → IsPart tree → get_of name tree ≡ Some v → IsPart v
part_of name tree v h e = record { depth = suc h.depth; spellable = get_at h.depth name tree v h.spellable e }

-- ---- values at paths

part_under : (names : List (List ℕ)) (tree v : Tree) → IsPart tree → tree_under names tree ≡ Some v → IsPart v
part_under [] tree v h e = subst IsPart (same_some tree v e) h
part_under (name ∷ names) tree v h e = by (get_of name tree) refl e (λ x f g. part_under names x v (part_of name tree x h f) g)
  where
    by : (o : Option Tree) → get_of name tree ≡ o → option_and_then (tree_under names) o ≡ Some v
        → ((x : Tree) → get_of name tree ≡ Some x → tree_under names x ≡ Some v → IsPart v) → IsPart v
    by None f g more = no_some v None refl g
    by (Some x) f g more = more x f g

pub part_at : (path : List ℕ) (tree v : Tree) → IsPart tree → tree_at path tree ≡ Some v → IsPart v
unfolding tree_at
part_at path tree v h e = part_under (slice_split is_point path) tree v h e

text_in : (d : ℕ) (v : Tree) (text : List ℕ) → IsSpellableAt d v → string_of v ≡ Some text → IsUtf8 text
text_in d null text h e = no_some text None refl e
text_in d (boolean b) text h e = no_some text None refl e
text_in d (number own) text h e = no_some text None refl e
text_in d (string own) text h e = subst IsUtf8 (same_some own text e) h
text_in d (array xs) text h e = no_some text None refl e
text_in d (object ms) text h e = no_some text None refl e

-- a text that a request has is UTF-8
pub text_utf8 : (path : List ℕ) (tree : Tree) (text : List ℕ) → IsPart tree → text_at path tree ≡ Some text → IsUtf8 text
text_utf8 path tree text h e = by (tree_at path tree) refl e
  where
    by : (o : Option Tree) → tree_at path tree ≡ o → option_and_then string_of o ≡ Some text → IsUtf8 text
    by None f g = no_some text None refl g
    by (Some v) f g = let part = part_at path tree v h f in text_in part.depth v text part.spellable g

-- a text that may be absent is UTF-8
pub optional_utf8 : (path : List ℕ) (tree : Tree) (text : Option (List ℕ)) → IsPart tree → text_at path tree ≡ text → IfSome text IsUtf8
optional_utf8 path tree None h e = tt
optional_utf8 path tree (Some text) h e = text_utf8 path tree text h e

-- ---- lists

elements_parts : (d : ℕ) (xs : Elements) → AreSpellable d xs → All IsPart (elements_list xs)
elements_parts d no_elements h = All-nil IsPart
elements_parts d (element x rest) h = All-cons IsPart x (elements_list rest) (record { depth = d; spellable = h.0 }) (elements_parts d rest h.1)

array_parts : (d : ℕ) (tree : Tree) (elements : List Tree) → IsSpellableAt d tree → array_of tree ≡ Some elements → All IsPart elements
array_parts d null elements h e = no_some elements None refl e
array_parts d (boolean b) elements h e = no_some elements None refl e
array_parts d (number text) elements h e = no_some elements None refl e
array_parts d (string text) elements h e = no_some elements None refl e
array_parts d (array xs) elements h e =
    let P : List Tree → Type 0 = λ l. All IsPart l in subst P (same_some (elements_list xs) elements e) (elements_parts (suc d) xs h.1)
array_parts d (object ms) elements h e = no_some elements None refl e

listed_parts : (tree : Tree) → IsPart tree → All IsPart (listed tree)
listed_parts tree h = by (array_of tree) refl
  where
    by : (o : Option (List Tree)) → array_of tree ≡ o → All IsPart (unwrap_or o (tree ∷ []))
    by None e = All-cons IsPart tree [] h (All-nil IsPart)
    by (Some elements) e = array_parts h.depth tree elements h.spellable e

-- each output of a spelled body is spelled
pub outputs_parts : (path : List ℕ) (body : Tree) → IsPart body → All IsPart (outputs_in (tree_at path body))
outputs_parts path body h = by (tree_at path body) refl
  where
    by : (o : Option Tree) → tree_at path body ≡ o → All IsPart (outputs_in o)
    by None e = All-nil IsPart
    by (Some tree) e = listed_parts tree (part_at path body tree h e)

-- the texts of a list of objects
abbrev pub AllUtf8 : List (List ℕ) → Type 0
AllUtf8 [] = Unit {0}
AllUtf8 (text ∷ texts) = IsUtf8 text × AllUtf8 texts

texts_utf8 : (elements : List Tree) → All IsPart elements → AllUtf8 (texts_of elements)
texts_utf8 [] h = tt
texts_utf8 (x ∷ xs) h = by (text_at (codes "Text") x) refl (texts_utf8 xs (All-tail IsPart x xs h))
  where
    by : (o : Option (List ℕ)) → text_at (codes "Text") x ≡ o → AllUtf8 (texts_of xs) → AllUtf8 (cons_option o (texts_of xs))
    by None e more = more
    by (Some text) e more = (text_utf8 (codes "Text") x text (All-head IsPart x xs h) e, more)

-- the texts of an output are UTF-8
abbrev pub TextsUtf8 : Option (List (List ℕ)) → Type 0
TextsUtf8 None = Unit {0}
TextsUtf8 (Some texts) = AllUtf8 texts

pub row_utf8 : (path : List ℕ) (tree : Tree) (texts : Option (List (List ℕ))) → IsPart tree
    → option_map texts_of (option_and_then array_of (tree_at path tree)) ≡ texts → TextsUtf8 texts
row_utf8 path tree texts h e = subst TextsUtf8 e (by (tree_at path tree) refl)
  where
    list : (v : Tree) → IsPart v → (o : Option (List Tree)) → array_of v ≡ o → TextsUtf8 (option_map texts_of o)
    list v part None f = tt
    list v part (Some elements) f = texts_utf8 elements (array_parts part.depth v elements part.spellable f)

    by : (o : Option Tree) → tree_at path tree ≡ o → TextsUtf8 (option_map texts_of (option_and_then array_of o))
    by None f = tt
    by (Some v) f = list v (part_at path tree v h f) (array_of v) refl
