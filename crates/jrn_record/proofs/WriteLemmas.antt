-- A draft that grows field by field.
use Rattle.std.proofs.Common.{◌≡◌, List, [], ◌++◌, append_assoc, sym, ◌∙◌, ap}
use Rattle.std.proofs.lemmas.List.{append-nil}

module _ {X : Type 0} where
  -- a field, and what comes after it
  pub then : (a b d f rest : List X) → b ≡ a ++ f → d ≡ b ++ rest → d ≡ a ++ (f ++ rest)
  then a b d f rest e g = g ∙ ap (λ xs. xs ++ rest) e ∙ append_assoc a f rest

  -- three fields at once
  pub then_three : (a b d f g h rest : List X) → b ≡ a ++ (f ++ (g ++ h)) → d ≡ b ++ rest → d ≡ a ++ (f ++ (g ++ (h ++ rest)))
  then_three a b d f g h rest e k =
      k ∙ ap (λ xs. xs ++ rest) e ∙ append_assoc a (f ++ (g ++ h)) rest
      ∙ ap (λ xs. a ++ xs) (append_assoc f (g ++ h) rest ∙ ap (λ xs. f ++ xs) (append_assoc g h rest))

  -- the last field
  pub last : (b d f : List X) → d ≡ b ++ f → d ≡ b ++ (f ++ [])
  last b d f e = e ∙ ap (λ xs. b ++ xs) (sym (append-nil f))

  -- from the empty draft
  pub from_empty : (a d rest : List X) → a ≡ [] → d ≡ a ++ rest → d ≡ rest
  from_empty a d rest e g = g ∙ ap (λ xs. xs ++ rest) e
