-- What is armed, and what calls use up.
use Rattle.std.proofs.Common.{◌≡◌, ℕ, refl, sym, ◌∙◌, ap, inl, inr, false}
use Rattle.std.proofs.lemmas.Bool.Decides.{eqb_tells}
use Rattle.std.specs.Prelude.{Bool, ◌==◌, if◌then◌else◌, Option, None}
use Rattle.gw_script.specs.site.Hazards.{is_failing, links_without, sends_without, takes_most}

-- where no line is for the connection none is used up
pub none_without : (sends : ℕ → Option ℕ) (number : ℕ) → takes_most sends number ≡ None → sends_without sends number ≡ sends
none_without sends number none = λ i other. same other i
  where
    same : (other : ℕ) → (if other == number then None else sends other) ≡ sends other
    same other = elim (eqb_tells other number) [
      | inl e ↦ rw e.0 (sym none ∙ ap sends (sym e.1))
      | inr e ↦ rw e.0 refl
    ]

-- where no link of the terminal fails none is used up
pub none_failing : (links : ℕ → Bool) (pt : ℕ) → is_failing links pt ≡ false → links_without links pt ≡ links
none_failing links pt none = λ i other. same other i
  where
    same : (other : ℕ) → (if other == pt then false else links other) ≡ links other
    same other = elim (eqb_tells other pt) [
      | inl e ↦ rw e.0 (sym none ∙ ap links (sym e.1))
      | inr e ↦ rw e.0 refl
    ]
