-- How the calls of a site whose log is observed make it grow.
use Rattle.std.proofs.Common.{◌≡◌, List, ◌++◌, sym, ◌∙◌}
use Rattle.std.specs.Prelude.{Bool, true, false, Some, None}
use Rattle.gw_site.specs.declared.turn.Turn.{Turn}
use Rattle.gw_site.specs.Observed.{Observed, GrowsBy}

-- a call in a site whose log is observed, that wasn't dark before, and adds all of its turns
pub all_grows : (Add : Bool → Bool → List Turn → List Turn → Type 0) (old new : Observed) (Call : List Turn → List Turn → Type 0) (before turns : List Turn) →
    Add old.dark new.dark turns turns → old.dark ≡ false → old.log ≡ Some before → new.log ≡ Some (before ++ turns) → new.origin ≡ old.origin → Call before turns → GrowsBy Add old new Call
all_grows Add old new Call before turns add d l e o call = record {
  observed = λ b f. let same : b ≡ before = (let h : Some b ≡ Some before = sym f ∙ l in cc) in (turns, turns, rw same call, add, rw same e);
  unobserved = λ f. absurd (let h : None ≡ Some before = sym f ∙ l in cc);
  stays = λ f. absurd (let h : true ≡ false = sym f ∙ d in cc);
  origin = o;
}
