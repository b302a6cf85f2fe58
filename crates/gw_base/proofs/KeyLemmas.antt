-- The order of keys.
use Rattle.std.proofs.Common.{◌≡◌, ℕ, List, ◌↔◌, nat_cmp, refl, sym, ◌∙◌, ap, true, is_eq}
use Rattle.std.specs.declared.cmp.Ordering.{Ordering}
use Rattle.std.specs.declared.cmp.Ordering.TheVariants.{Less, Equal, Greater}
use Rattle.std.specs.Ordering.{ordering_then}
use Rattle.std.specs.Cmp.Lexicographic.{bytes_decides, slice_cmp}
use Rattle.std.proofs.lemmas.Map.Text.{is_eq-slice_cmp}
use Rattle.gw_base.specs.declared.key.Key.{Key}
use Rattle.gw_base.specs.Key.{key_cmp}

-- two texts tie exactly where they are equal
pub slice_cmp-ties : (xs ys : List ℕ) → (slice_cmp nat_cmp xs ys ≡ Equal) ↔ (xs ≡ ys)
slice_cmp-ties xs ys = (
  λ e. (bytes_decides xs ys).0 (sym (is_eq-slice_cmp xs ys) ∙ ap is_eq e),
  λ e. is_equal (slice_cmp nat_cmp xs ys) (is_eq-slice_cmp xs ys ∙ (bytes_decides xs ys).1 e),
)
  where
    is_equal : (o : Ordering) → is_eq o ≡ true → o ≡ Equal
    is_equal Less e = cc
    is_equal Equal e = refl
    is_equal Greater e = cc

-- two orders in turn tie exactly where both do
ordering_then-ties : (o p : Ordering) → (ordering_then o p ≡ Equal) ↔ ((o ≡ Equal) × (p ≡ Equal))
ordering_then-ties Less p = (λ e. cc, λ h. h.0)
ordering_then-ties Equal p = (λ e. (refl, e), λ h. h.1)
ordering_then-ties Greater p = (λ e. cc, λ h. h.0)

pub key_cmp-ties : (a b : Key) → (key_cmp a b ≡ Equal) ↔ (a ≡ b)
key_cmp-ties a b =
    let sale = slice_cmp-ties a.sale b.sale in
    let poi = slice_cmp-ties a.poi b.poi in
    let service = slice_cmp-ties a.service b.service in
    let first = ordering_then-ties (slice_cmp nat_cmp a.sale b.sale)
    (ordering_then (slice_cmp nat_cmp a.poi b.poi) (slice_cmp nat_cmp a.service b.service)) in
    let second = ordering_then-ties (slice_cmp nat_cmp a.poi b.poi) (slice_cmp nat_cmp a.service b.service) in (
      λ e. let h = first.0 e in let k = second.0 h.1 in
          λ i. record { sale = sale.0 h.0 i; poi = poi.0 k.0 i; service = service.0 k.1 i },
      λ e. first.1 (sale.1 (ap (λ key. key.sale) e), second.1 (poi.1 (ap (λ key. key.poi) e), service.1 (ap (λ key. key.service) e))),
    )
