-- What the writer appends: a value, and the elements and members one after the other.
use Rattle.std.proofs.Common.{◌≡◌, ℕ, ◌+◌, ◌<◌, ◌≤◌, List, [], ◌∷◌, ◌++◌, length, get_or, drop, map, Bool, true, false, cond, refl, sym, ap, ◌∙◌, arith, append_assoc, nat_eq, Result, Ok, Err, OnOk}
use Rattle.std.specs.Prelude.{if◌then◌else◌}
use Rattle.std.specs.Result.{is_ok}
use Rattle.std.proofs.lemmas.List.{at_drop_more, at_drop_all}
use Rattle.json_text.specs.Tree.{Tree, Elements, no_elements, element, Members, no_members, member}
use Rattle.json_text.specs.ValueOf.{value_of, elements_onto, members_value}
use Rattle.json_text.specs.Canonical.{canonical, canonical_more, canonical_elements, canonical_string, canonical_more_members, canonical_members}
use Rattle.json_text.specs.declared.tree.Json.{Json}
use Rattle.json_text.proofs.ScanLemmas.{neq_test}

-- what an append added, as the bytes that were wanted
pub appended : {T E : Type 0} (r : Result T E) (old chunk whole new : List ℕ) → chunk ≡ whole → new ≡ cond (is_ok r) (old ++ chunk) old → OnOk r (new ≡ old ++ whole)
appended (Ok x) old chunk whole new same e = e ∙ ap (λ l. old ++ l) same
appended (Err x) old chunk whole new same e = tt

-- what was written, as the bytes that were wanted
pub written_as : {T E : Type 0} (r : Result T E) (old chunk whole new : List ℕ) → chunk ≡ whole → OnOk r (new ≡ old ++ chunk) → OnOk r (new ≡ old ++ whole)
written_as (Ok x) old chunk whole new same e = e ∙ ap (λ l. old ++ l) same
written_as (Err x) old chunk whole new same e = tt

-- an append of the last bytes
pub last_appended : {T E : Type 0} (r : Result T E) (old chunk whole new : List ℕ) → old ++ chunk ≡ whole → new ≡ cond (is_ok r) (old ++ chunk) old → OnOk r (new ≡ whole)
last_appended (Ok x) old chunk whole new same e = e ∙ same
last_appended (Err x) old chunk whole new same e = tt

-- an opening bracket, and what is still to come
pub opened : (old new rest : List ℕ) (bracket : ℕ) → new ≡ old ++ (bracket ∷ []) → new ++ rest ≡ old ++ (bracket ∷ rest)
opened old new rest bracket e = ap (λ l. l ++ rest) e ∙ append_assoc old (bracket ∷ []) rest

-- a name, a colon and a value
pub member_whole : {T E : Type 0} (r : Result T E) (old named between new name value : List ℕ) → named ≡ old ++ name → between ≡ named ++ (58 ∷ []) → OnOk r (new ≡ between ++ value)
    → OnOk r (new ≡ old ++ (name ++ (58 ∷ value)))
member_whole (Ok x) old named between new name value f g e =
    e ∙ ap (λ l. l ++ value) (g ∙ ap (λ l. l ++ (58 ∷ [])) f) ∙ append_assoc (old ++ name) (58 ∷ []) value ∙ append_assoc old name (58 ∷ value)
member_whole (Err x) old named between new name value f g e = tt

-- a comma, a chunk, and what is still to come
goes_on : (old between now comma chunk rest whole : List ℕ) → old ++ (comma ++ (chunk ++ rest)) ≡ whole → between ≡ old ++ comma → now ≡ between ++ chunk → now ++ rest ≡ whole
goes_on old between now comma chunk rest whole e f g =
    ap (λ l. l ++ rest) (g ∙ ap (λ l. l ++ chunk) f) ∙ append_assoc (old ++ comma) chunk rest ∙ append_assoc old comma (chunk ++ rest) ∙ e

-- the comma before an element or member; none comes before the first
abbrev comma : Bool → List ℕ
comma first = if first then [] else 44 ∷ []

-- ---- elements

abbrev elements_of : List Json → Elements
elements_of elements = elements_onto (map value_of elements) no_elements

element_comes : (first : Bool) (x : Tree) (more : Elements) → canonical_elements first (element x more) ≡ comma first ++ (canonical x ++ canonical_more more)
element_comes true x more = refl
element_comes false x more = refl

elements_end : (first : Bool) → canonical_elements first no_elements ≡ 93 ∷ []
elements_end true = refl
elements_end false = refl

later_elements : (i : ℕ) (more : Elements) → canonical_elements (nat_eq (i + 1) 0) more ≡ canonical_more more
later_elements i more = ap (λ first. canonical_elements first more) (neq_test (i + 1) 0 (omega arith))

-- one more element is written
pub element_written : (old between now whole : List ℕ) (elements : List Json) (i : ℕ) (x : Json) → i < length elements → x ≡ get_or elements i x
    → old ++ canonical_elements (nat_eq i 0) (elements_of (drop i elements)) ≡ whole → between ≡ old ++ comma (nat_eq i 0) → now ≡ between ++ canonical (value_of x)
    → now ++ canonical_elements (nat_eq (i + 1) 0) (elements_of (drop (i + 1) elements)) ≡ whole
element_written old between now whole elements i x inside is e f g =
    let more = elements_of (drop (i + 1) elements) in
    let comes = at_drop_more (λ l. canonical_elements (nat_eq i 0) (elements_of l)) elements i x inside
    ∙ ap (λ (k : Json). canonical_elements (nat_eq i 0) (element (value_of k) more)) (sym is)
    ∙ element_comes (nat_eq i 0) (value_of x) more in
    ap (λ l. now ++ l) (later_elements i more)
    ∙ goes_on old between now (comma (nat_eq i 0)) (canonical (value_of x)) (canonical_more more) whole (ap (λ l. old ++ l) (sym comes) ∙ e) f g

-- all elements are written
pub elements_written : (old whole : List ℕ) (elements : List Json) (i : ℕ) → length elements ≤ i → old ++ canonical_elements (nat_eq i 0) (elements_of (drop i elements)) ≡ whole → old ++ (93 ∷ []) ≡ whole
elements_written old whole elements i all e =
    ap (λ l. old ++ l) (sym (at_drop_all (λ l. canonical_elements (nat_eq i 0) (elements_of l)) elements i all ∙ elements_end (nat_eq i 0))) ∙ e

-- ---- members

member_comes : (first : Bool) (name : List ℕ) (x : Tree) (more : Members) → canonical_members first (member name x more) ≡ comma first ++ ((canonical_string name ++ (58 ∷ canonical x)) ++ canonical_more_members more)
member_comes true name x more = sym (append_assoc (canonical_string name) (58 ∷ canonical x) (canonical_more_members more))
member_comes false name x more = ap (λ l. 44 ∷ l) (sym (append_assoc (canonical_string name) (58 ∷ canonical x) (canonical_more_members more)))

members_end : (first : Bool) → canonical_members first no_members ≡ 125 ∷ []
members_end true = refl
members_end false = refl

later_members : (i : ℕ) (more : Members) → canonical_members (nat_eq (i + 1) 0) more ≡ canonical_more_members more
later_members i more = ap (λ first. canonical_members first more) (neq_test (i + 1) 0 (omega arith))

-- one more member is written
pub member_written : (old between now whole : List ℕ) (members : List (List ℕ × Json)) (i : ℕ) (m : List ℕ × Json) → i < length members → m ≡ get_or members i m
    → old ++ canonical_members (nat_eq i 0) (members_value (drop i members)) ≡ whole → between ≡ old ++ comma (nat_eq i 0) → now ≡ between ++ (canonical_string m.0 ++ (58 ∷ canonical (value_of m.1)))
    → now ++ canonical_members (nat_eq (i + 1) 0) (members_value (drop (i + 1) members)) ≡ whole
member_written old between now whole members i m inside is e f g =
    let more = members_value (drop (i + 1) members) in
    let comes = at_drop_more (λ l. canonical_members (nat_eq i 0) (members_value l)) members i m inside
    ∙ ap (λ (k : List ℕ × Json). canonical_members (nat_eq i 0) (member k.0 (value_of k.1) more)) (sym is)
    ∙ member_comes (nat_eq i 0) m.0 (value_of m.1) more in
    ap (λ l. now ++ l) (later_members i more)
    ∙ goes_on old between now (comma (nat_eq i 0)) (canonical_string m.0 ++ (58 ∷ canonical (value_of m.1))) (canonical_more_members more) whole (ap (λ l. old ++ l) (sym comes) ∙ e) f g

-- all members are written
pub members_written : (old whole : List ℕ) (members : List (List ℕ × Json)) (i : ℕ) → length members ≤ i → old ++ canonical_members (nat_eq i 0) (members_value (drop i members)) ≡ whole
    → old ++ (125 ∷ []) ≡ whole
members_written old whole members i all e =
    ap (λ l. old ++ l) (sym (at_drop_all (λ l. canonical_members (nat_eq i 0) (members_value l)) members i all ∙ members_end (nat_eq i 0))) ∙ e
