-- Values at paths, name by name.
use Rattle.std.proofs.Common.{◌≡◌, ℕ, ◌<◌, List, [], ◌∷◌, Option, Some, None, length, false, refl, sym, ap, subst, ◌∙◌, All, Bor, ◌++◌, arith, length-append, lit<}
use Rattle.std.specs.Option.{option_and_then}
use Rattle.std.specs.List.{slice_split, position_or_len, before_first, after_first}
use Rattle.std.proofs.lemmas.List.Splits.{slice_split_none, slice_split_first}
use Rattle.std.proofs.lemmas.Str.Pattern.{IsSplitOnceResult, split_parts, split_once_first}
use Rattle.std.proofs.lemmas.List.Sums.{fails_before_first}
use Rattle.json_text.specs.Tree.{Tree, get_of, string_of}
use Rattle.sale_msg.specs.Path.{is_point, text_at, tree_at, tree_under}

found : (o : Option Tree) → option_and_then (tree_under []) o ≡ o
found None = refl
found (Some tree) = refl

-- a path without a point is a name
value_at_name : (path : List ℕ) (tree : Tree) → position_or_len is_point path ≡ length path → tree_at path tree ≡ get_of path tree
unfolding tree_at
value_at_name path tree none =
    let no_point : All (λ byte. is_point byte ≡ false) path =
    λ k d inside. fails_before_first is_point path k d (subst (λ (n : ℕ). k < n) (sym none) inside) in
    ap (λ names. tree_under names tree) (slice_split_none is_point path no_point) ∙ found (get_of path tree)

-- a path with a point goes on after it
value_at_first : (path : List ℕ) (tree : Tree) → position_or_len is_point path < length path
    → tree_at path tree ≡ option_and_then (tree_at (after_first is_point path)) (get_of (before_first is_point path) tree)
unfolding tree_at
value_at_first path tree some = ap (λ names. tree_under names tree) (slice_split_first is_point path 0 some)

-- what `split_once` says of a path

pub rest_shorter : (path : List ℕ) (name rest : Bor (List ℕ)) → IsSplitOnceResult 46 path (Some (name, rest)) → length rest.now < length path
rest_shorter path name rest h =
    let parts = split_parts 46 path (Some (name, rest)) h (lit< tt) in
    let whole : path ≡ name.now ++ (46 ∷ rest.now) = parts.0 in
    omega (arith, ap length whole, length-append name.now (46 ∷ rest.now))

pub value_at_none : (path : List ℕ) (tree : Tree) → IsSplitOnceResult 46 path None → tree_at path tree ≡ get_of path tree
value_at_none path tree h = value_at_name path tree (split_once_first 46 path None h (lit< tt))

pub value_at_some : (path : List ℕ) (tree : Tree) (name rest : Bor (List ℕ)) → IsSplitOnceResult 46 path (Some (name, rest))
    → tree_at path tree ≡ option_and_then (tree_at rest.now) (get_of name.now tree)
value_at_some path tree name rest h =
    let parts = split_once_first 46 path (Some (name, rest)) h (lit< tt) in
    value_at_first path tree parts.0
    ∙ ap (λ after. option_and_then (tree_at after) (get_of (before_first is_point path) tree)) (sym parts.2)
    ∙ ap (λ prefix. option_and_then (tree_at rest.now) (get_of prefix tree)) (sym parts.1)

-- ---- members of members

pub within : (prefix after : List (List ℕ)) (tree : Tree)
    → tree_under (prefix ++ after) tree ≡ option_and_then (tree_under after) (tree_under prefix tree)
within [] after tree = refl
within (name ∷ prefix) after tree = by (get_of name tree) (λ x. within prefix after x)
  where
    by : (o : Option Tree)
        → ((x : Tree) → tree_under (prefix ++ after) x ≡ option_and_then (tree_under after) (tree_under prefix x))
        → option_and_then (tree_under (prefix ++ after)) o
        ≡ option_and_then (tree_under after) (option_and_then (tree_under prefix) o)
    by None more = refl
    by (Some x) more = more x

-- a path whose names are those of two others goes on from the first one's value
pub value_at_within : (path prefix after : List ℕ) (tree part : Tree)
    → slice_split is_point path ≡ slice_split is_point prefix ++ slice_split is_point after
    → tree_at prefix tree ≡ Some part → tree_at path tree ≡ tree_at after part
unfolding tree_at
value_at_within path prefix after tree part names e =
    ap (λ ns. tree_under ns tree) names
    ∙ within (slice_split is_point prefix) (slice_split is_point after) tree
    ∙ ap (option_and_then (tree_under (slice_split is_point after))) e

pub text_within : (path prefix after : List ℕ) (tree part : Tree)
    → slice_split is_point path ≡ slice_split is_point prefix ++ slice_split is_point after
    → tree_at prefix tree ≡ Some part → text_at path tree ≡ text_at after part
text_within path prefix after tree part names e = ap (option_and_then string_of) (value_at_within path prefix after tree part names e)
