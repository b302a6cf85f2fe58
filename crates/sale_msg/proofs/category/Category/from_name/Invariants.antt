-- What the loop of `Category::from_name` keeps.
use Rattle.std.proofs.Common.{◌≡◌, ℕ, ◌<◌, get_or}
use Rattle.sale_msg.specs.declared.category.Category.TheVariants.{Login}
use Rattle.sale_msg.specs.Category.{category_name}
use Rattle.sale_msg.proofs.category.Category.from_name.Given as goal

-- no category before this one has the name
abbrev pub invariant-loop-category : goal.invariant-loop-category
invariant-loop-category l =
    (k : ℕ) → k < l.category-index → category_name (get_or l.category-items k Login) ≡ l.name → ⊥
