-- The prefixes of a list of turns.
use Rattle.std.proofs.Common.{◌≡◌, List, [], ◌∷◌, ◌++◌, subst}
use Rattle.gw_site.specs.declared.turn.Turn.{Turn}

-- a fact holds of each prefix of these turns
abbrev pub AllPrefixes : (List Turn → Type 0) → List Turn → Type 0
AllPrefixes P [] = P []
AllPrefixes P (turn ∷ turns) = P [] × AllPrefixes (λ made. P (turn ∷ made)) turns

pub prefix_holds : (P : List Turn → Type 0) (turns made rest : List Turn) → AllPrefixes P turns → turns ≡ made ++ rest → P made
prefix_holds P [] [] rest a e = a
prefix_holds P [] (m ∷ made) rest a e = absurd (let h : [] ≡ m ∷ (made ++ rest) = e in cc)
prefix_holds P (turn ∷ turns) [] rest a e = a.0
prefix_holds P (turn ∷ turns) (m ∷ made) rest a e =
    let h : turn ≡ m = cc in
    let k : turns ≡ made ++ rest = cc in
    subst (λ first. P (first ∷ made)) h (prefix_holds (λ more. P (turn ∷ more)) turns made rest a.1 k)
