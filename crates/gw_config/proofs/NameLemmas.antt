-- POIIDs and keys, one after the other.
use Rattle.std.proofs.Common.{◌≡◌, ℕ, ◌+◌, ◌<◌, Bool, true, false, List, [], ◌∷◌, ◌++◌, length, take, drop, get_or, map, Option, Some, Bor, String, Global, string_bytes, refl, ap, ◌∙◌}
use Rattle.std.specs.Prelude.{◌||◌, fold}
use Rattle.std.specs.List.{list_any}
use Rattle.std.specs.Map.{keys_of}
use Rattle.std.specs.Str.{bytes_eq}
use Rattle.std.proofs.lemmas.List.{drop_more, map-append, take_more}
use Rattle.toml.specs.declared.value.Value.{Value}
use Rattle.toml.specs.Data.{Members}
use Rattle.toml.specs.View.{members_view}
use Rattle.gw_base.specs.declared.setup.Pt.{Pt}
use Rattle.gw_config.specs.Faults.{repeated_after, smaller, keys_in, keys_outside, unknown_keys}

any-map : {A B : Type 0} (test : B → Bool) (f : A → B) (xs : List A) → list_any test (map f xs) ≡ list_any (λ x. test (f x)) xs
any-map test f [] = refl
any-map test f (x ∷ xs) = ap (λ rest. test (f x) || rest) (any-map test f xs)

-- ---- POIIDs

abbrev pub pois : List Pt → List (List ℕ)
pois pts = map (λ pt. pt.poi) pts

-- no POIID before an index was repeated
abbrev pub AreUniqueUpTo : List Pt → ℕ → Type 0
AreUniqueUpTo pts i = repeated_after (pois (take i pts)) (pois (drop i pts)) ≡ repeated_after [] (pois pts)

pois_from : (pts : List Pt) (i : ℕ) (pt : Pt) → i < length pts → pt ≡ get_or pts i pt
    → pois (drop i pts) ≡ pt.poi ∷ pois (drop (i + 1) pts)
pois_from pts i pt within there = rw (drop_more pts i pt within, ← there)

pub repeated_here : (pts : List Pt) (i : ℕ) (pt : Pt) → i < length pts → pt ≡ get_or pts i pt
    → list_any (λ other. bytes_eq pt.poi other.poi) (take i pts) ≡ true → AreUniqueUpTo pts i
    → Some pt.poi ≡ repeated_after [] (pois pts)
repeated_here pts i pt within there found so_far =
    let test : list_any (bytes_eq pt.poi) (pois (take i pts)) ≡ true = any-map (bytes_eq pt.poi) (λ other. other.poi) (take i pts) ∙ found in
    rw (pois_from pts i pt within there, test) at so_far

pub unique_one_more : (pts : List Pt) (i : ℕ) (pt : Pt) → i < length pts → pt ≡ get_or pts i pt
    → list_any (λ other. bytes_eq pt.poi other.poi) (take i pts) ≡ false → AreUniqueUpTo pts i
    → AreUniqueUpTo pts (i + 1)
unique_one_more pts i pt within there none so_far =
    let test : list_any (bytes_eq pt.poi) (pois (take i pts)) ≡ false = any-map (bytes_eq pt.poi) (λ other. other.poi) (take i pts) ∙ none in
    let longer : pois (take (i + 1) pts) ≡ pois (take i pts) ++ pt.poi ∷ [] =
    rw (take_more pts i pt within, ← there, map-append) in
    rw longer (rw (pois_from pts i pt within there, test) at so_far)

-- ---- keys

pub keys_in-members_view : (entries : List (String Global × Value)) → keys_in (members_view entries) ≡ map (λ key. string_bytes key) (keys_of entries)
keys_in-members_view [] = refl
keys_in-members_view (entry ∷ entries) = ap (λ keys. string_bytes entry.0 ∷ keys) (keys_in-members_view entries)

-- a known key is passed over
pub outside-known : (names : List (Bor (List ℕ))) (key : List ℕ) (keys : List (List ℕ))
    → list_any (λ name. bytes_eq key name.now) names ≡ true
    → keys_outside (map (λ name. name.now) names) (key ∷ keys) ≡ keys_outside (map (λ name. name.now) names) keys
outside-known names key keys known = rw (any-map (bytes_eq key) (λ (name : Bor (List ℕ)). name.now) names, known) refl

-- a key that isn't known is kept
pub outside-unknown : (names : List (Bor (List ℕ))) (key : List ℕ) (keys : List (List ℕ))
    → list_any (λ name. bytes_eq key name.now) names ≡ false
    → keys_outside (map (λ name. name.now) names) (key ∷ keys) ≡ key ∷ keys_outside (map (λ name. name.now) names) keys
outside-unknown names key keys unknown = rw (any-map (bytes_eq key) (λ (name : Bor (List ℕ)). name.now) names, unknown) refl

-- `now` and the keys that are left give the smallest unknown key that `least` and the table give
abbrev pub LeavesSmallest : List (Bor (List ℕ)) → Option (List ℕ) → List (String Global) → Option (List ℕ) → Members → Type 0
LeavesSmallest names now keys least table =
    fold smaller now (keys_outside (map (λ name. name.now) names) (map (λ key. string_bytes key) keys))
    ≡ fold smaller least (unknown_keys (map (λ name. name.now) names) table)

pub smallest_at_start : (names : List (Bor (List ℕ))) (least : Option (List ℕ)) (keys : List (String Global)) (entries : List (String Global × Value))
    → keys ≡ keys_of entries → LeavesSmallest names least keys least (members_view entries)
smallest_at_start names least keys entries all = rw (keys_in-members_view entries, all) refl

pub smallest_past_known : (names : List (Bor (List ℕ))) (now : Option (List ℕ)) (keys : List (String Global)) (key : String Global) (more : List (String Global))
    (least : Option (List ℕ)) (table : Members) → keys ≡ key ∷ more → list_any (λ name. bytes_eq (string_bytes key) name.now) names ≡ true
    → LeavesSmallest names now keys least table → LeavesSmallest names now more least table
smallest_past_known names now keys key more least table first known so_far =
    rw (first, outside-known names (string_bytes key) (map (λ k. string_bytes k) more) known) at so_far

pub smallest_past_unknown : (names : List (Bor (List ℕ))) (now next : Option (List ℕ)) (keys : List (String Global)) (key : String Global) (more : List (String Global))
    (least : Option (List ℕ)) (table : Members) → keys ≡ key ∷ more → list_any (λ name. bytes_eq (string_bytes key) name.now) names ≡ false
    → next ≡ smaller now (string_bytes key) → LeavesSmallest names now keys least table → LeavesSmallest names next more least table
smallest_past_unknown names now next keys key more least table first unknown is so_far =
    rw is (rw (first, outside-unknown names (string_bytes key) (map (λ k. string_bytes k) more) unknown) at so_far)
