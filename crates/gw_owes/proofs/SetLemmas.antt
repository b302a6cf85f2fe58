-- One element of a list is replaced.
use Rattle.std.proofs.Common.{◌≡◌, ◌≢◌, ℕ, zero, suc, List, [], ◌∷◌, refl, sym, ◌∙◌, ap}
use Rattle.std.proofs.lemmas.List.{length-set}
use Rattle.std.specs.Prelude.{length, map, set, slice_get, Some}
use Rattle.gw_owes.specs.declared.terminal.Terminal.{Terminal}
use Rattle.gw_owes.specs.Core.{Core}
use Rattle.gw_owes.specs.Terminals.{with_terminal}
use Rattle.gw_owes.specs.TerminalLaws.{ChangesTerminalAlone}

-- every other element stays
pub others-stay : {A : Type 0} → (all : List A) (at other : ℕ) (new : A) → other ≢ at → slice_get (set all at new) other ≡ slice_get all other
others-stay [] at other new apart = refl
others-stay (first ∷ rest) zero zero new apart = absurd (apart refl)
others-stay (first ∷ rest) zero (suc other) new apart = refl
others-stay (first ∷ rest) (suc at) zero new apart = refl
others-stay (first ∷ rest) (suc at) (suc other) new apart = others-stay rest at other new (λ e. apart (ap suc e))

-- the new one is in its place
pub new-is-there : {A : Type 0} → (all : List A) (at : ℕ) (old new : A) → slice_get all at ≡ Some old → slice_get (set all at new) at ≡ Some new
new-is-there [] at old new found = absurd cc
new-is-there (first ∷ rest) zero old new found = refl
new-is-there (first ∷ rest) (suc at) old new found = new-is-there rest at old new found

-- what two of one element hold is the same
pub same-some : {A : Type 0} → (one other : A) → Some one ≡ Some other → one ≡ other
same-some one other same = cc

-- what is the same of both stays
pub same-stays : {A B : Type 0} → (f : A → B) (all : List A) (at : ℕ) (old new : A) → slice_get all at ≡ Some old → f new ≡ f old → map f (set all at new) ≡ map f all
same-stays f [] at old new found same = refl
same-stays f (first ∷ rest) zero old new found same = ap (λ b. b ∷ map f rest) (same ∙ sym (ap f (same-some first old found)))
same-stays f (first ∷ rest) (suc at) old new found same = ap (λ b. f first ∷ b) (same-stays f rest at old new found same)

-- nothing is changed
pub alone-same : (number : ℕ) (core : Core) → ChangesTerminalAlone number core core
alone-same number core = record { others = λ other apart. refl; settings = refl; count = refl }

-- no terminal is changed
pub terminals-same : (number : ℕ) (old new : Core) → new.terminals ≡ old.terminals → ChangesTerminalAlone number old new
terminals-same number old new same = record {
  others = λ other apart. ap (λ (terminals : List Terminal). slice_get terminals other) same;
  settings = ap (λ (terminals : List Terminal). map (λ (terminal : Terminal). terminal.pt) terminals) same;
  count = ap (λ (terminals : List Terminal). length terminals) same;
}

-- one terminal is changed, and not its settings
pub alone-set : (number : ℕ) (core : Core) (old new : Terminal) → slice_get core.terminals number ≡ Some old → new.pt ≡ old.pt → ChangesTerminalAlone number core (with_terminal core number new)
alone-set number core old new found same = record {
  others = λ other apart. others-stay core.terminals number other new apart;
  settings = same-stays (λ (terminal : Terminal). terminal.pt) core.terminals number old new found same;
  count = length-set core.terminals number new;
}
