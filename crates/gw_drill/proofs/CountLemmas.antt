-- What is counted of two books is what is counted of each.
use Rattle.std.proofs.Common.{◌≡◌, ℕ, ◌+◌, List, ◌++◌, length, ap, ap₂, sym, ◌∙◌}
use Rattle.std.proofs.lemmas.List.{length-append}
use Rattle.std.proofs.lemmas.List.Elements.{filter-append}
use Rattle.std.proofs.lemmas.List.Sums.{sum-map, sum_by-append}
use Rattle.pt_core.specs.declared.book.BookEntry.{BookEntry}
use Rattle.gw_drill.specs.Counts.{approved_in, units_of}

approved-append : (first second : List BookEntry) → approved_in (first ++ second) ≡ approved_in first ++ approved_in second
approved-append first second = filter-append (λ (entry : BookEntry). entry.approved) first second

-- how many are approved
pub counts-add-up : (first second : List BookEntry) → length (approved_in (first ++ second)) ≡ length (approved_in first) + length (approved_in second)
counts-add-up first second = ap length (approved-append first second) ∙ length-append (approved_in first) (approved_in second)

units-append : (first second : List BookEntry) → units_of (first ++ second) ≡ units_of first + units_of second
units-append first second =
    sum-map (λ (entry : BookEntry). entry.amount) (first ++ second)
    ∙ sum_by-append (λ (entry : BookEntry). entry.amount) first second
    ∙ ap₂ (λ (a b : ℕ). a + b) (sym (sum-map (λ (entry : BookEntry). entry.amount) first)) (sym (sum-map (λ (entry : BookEntry). entry.amount) second))

-- and their minor units
pub units-add-up : (first second : List BookEntry) → units_of (approved_in (first ++ second)) ≡ units_of (approved_in first) + units_of (approved_in second)
units-add-up first second = ap units_of (approved-append first second) ∙ units-append (approved_in first) (approved_in second)
