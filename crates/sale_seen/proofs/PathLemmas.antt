-- The path of a reply's result leads to its result.
use Rattle.std.proofs.Common.{◌≡◌, ℕ, List, [], ◌∷◌, ◌++◌, All, codes, true, false, not, refl, sym, ap, ◌∙◌, arith, inl, inr, append_assoc}
use Rattle.std.specs.List.{list_all, slice_split}
use Rattle.std.proofs.lemmas.Bool.{not-true}
use Rattle.std.proofs.lemmas.Bool.Decides.{nat_tests}
use Rattle.std.proofs.lemmas.List.Elements.{All-append, All-cons, All-nil, All-weaker}
use Rattle.std.proofs.lemmas.List.Splits.{slice_split_at}
use Rattle.json_text.specs.Tree.{Tree}
use Rattle.sale_msg.specs.Form.{IsLetter}
use Rattle.sale_msg.specs.Path.{is_point, tree_at, tree_under}
use Rattle.sale_seen.proofs.NameLemmas.{both}
use Rattle.sale_seen.specs.Fault.{result_in, result_path}

abbrev IsName : ℕ → Type 0
IsName byte = is_point byte ≡ false

letter_in_name : (byte : ℕ) → IsLetter byte → IsName byte
letter_in_name byte (inl h) = let low = h.0 in grind (arith, nat_tests)
letter_in_name byte (inr h) = let low = h.0 in grind (arith, nat_tests)

name_by_test : (text : List ℕ) → list_all (λ byte. not (is_point byte)) text ≡ true → All IsName text
name_by_test [] h = All-nil IsName
name_by_test (byte ∷ text) h =
    let parts = both (not (is_point byte)) (list_all (λ b. not (is_point b)) text) h in
    All-cons IsName byte text (not-true (is_point byte) parts.0) (name_by_test text parts.1)

pub path_leads : (category : List ℕ) (holder : Tree) → All IsLetter category → tree_at (result_path category) holder ≡ result_in category holder
unfolding tree_at
path_leads category holder letters =
    let name = category ++ codes "Response" in
    let suffix = codes "Response.Result" in
    let whole : result_path category ≡ name ++ (0x2E ∷ suffix) = sym (append_assoc category (codes "Response") (0x2E ∷ suffix)) in
    let no_point = All-append IsName category (codes "Response") (All-weaker IsLetter IsName letter_in_name category letters)
    (name_by_test (codes "Response") refl) in
    let split = slice_split_at is_point name 0x2E suffix no_point refl in
    ap (λ path. tree_under (slice_split is_point path) holder) whole
    ∙ ap (λ names. tree_under names holder) split
