-- The name of a next member of an open object.
use Rattle.std.proofs.Common.{◌≡◌, ℕ, ◌+◌, List, [], ◌∷◌, ◌++◌, take, Bool, true, false, Option, Some, None, refl, sym, ap, subst}
use Rattle.std.specs.Prelude.{MatchOption}
use Rattle.json_text.specs.Grammar.{AreDistinct}
use Rattle.json_text.specs.MemberNames.{has_name, pair_names}
use Rattle.json_text.specs.inner.MemberIndex.{names_at}
use Rattle.json_text.specs.inner.NumberBlocks.{all_numbers, number_lists, numbers_before}
use Rattle.json_text.specs.inner.MemberOrder.{IsGap, IsNameGap}
use Rattle.json_text.specs.inner.ReaderStates.{pairs}
use Rattle.json_text.specs.declared.blocks.Gap.{Gap}
use Rattle.json_text.specs.declared.members.OpenObject.{OpenObject}
use Rattle.json_text.specs.declared.tree.Json.{Json}
use Rattle.json_text.proofs.NameLemmas.{are_new, distinct_append}
use Rattle.json_text.proofs.IndexLemmas.{IsIndexed, has_later, is_new}

-- the numbers of an object's index
abbrev pub index_of : OpenObject → List ℕ
index_of o = all_numbers (number_lists o.index.items)

pub indexed : (o : OpenObject) → IsIndexed (index_of o) o.members.items
indexed o = record { within = o.within; ordered = o.ordered; known = o.known; distinct = o.distinct }

pub same_names : (ms : List (List ℕ × Json)) → pair_names (pairs ms) ≡ pair_names ms
same_names [] = refl
same_names (m ∷ ms) = ap (λ (l : List (List ℕ)). m.0 ∷ l) (same_names ms)

-- the names of the members and this one differ
pub gap_distinct : (o : OpenObject) (k : List ℕ) (gap : Gap) → IsGap o k gap → AreDistinct (pair_names (pairs o.members.items) ++ k ∷ [])
gap_distinct o k gap h =
    subst (λ (l : List (List ℕ)). AreDistinct (l ++ k ∷ [])) (sym (same_names o.members.items))
    (are_new (pair_names o.members.items ++ k ∷ []) (distinct_append (pair_names o.members.items) k o.distinct h.new))

-- what the index says of a name that the first few members don't have
pub gap_found : (o : OpenObject) (name : List ℕ) (first : List (List ℕ × Json)) (few : Bool) (result : Option Gap) → first ≡ take 12 o.members.items → few ≡ has_name name (pair_names first) → few ≡ false
    → MatchOption result (has_name name (names_at (pair_names o.members.items) (index_of o)) ≡ true) (λ gap. IsNameGap (pair_names o.members.items) (number_lists o.index.items) name gap)
    → MatchOption result (has_name name (pair_names o.members.items) ≡ true) (λ gap. IsGap o name gap)
gap_found o name first few None e f none h = has_later name o.members.items first (index_of o) few e f (o.known name) h
gap_found o name first few (Some gap) e f none h =
    record { new = is_new name o.members.items first (index_of o) few (numbers_before (number_lists o.index.items) gap.block + gap.before) e f (o.known name) none h.comes; in_blocks = h }
