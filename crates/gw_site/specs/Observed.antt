-- What a proof may see of a site, and how its calls make its log grow.
use Rattle.std.specs.Prelude.{◌≡◌, ◌⊎◌, ℕ, Bool, true, false, List, [], ◌∷◌, ◌++◌, Option, Some, None}
use Rattle.gw_bytes.specs.Bytes.{IsPrefix}
use Rattle.gw_site.specs.Steps.{Plan, SiteCall, Made, Takes}
use Rattle.gw_site.specs.declared.turn.Turn.{Turn}

-- what a proof may see of a site: what went in and out, oldest first, where that is observed; how often a call has failed; and whether it is dark
pub record Observed : Type 0 where
  pub log : Option (List Turn)
  pub faults : ℕ
  pub dark : Bool
  -- the bytes of the script that determines what it plays; none where it plays no script, as sockets
  pub origin : List ℕ
  -- the turns of each of further steps, where they are known
  pub plan : Option Plan

-- what a call adds to the log, by whether the site was dark before and is dark after it: all of its turns; a prefix of them in the call in which it goes dark; nothing where it was dark
abbrev pub Added : Bool → Bool → List Turn → List Turn → Type 0
Added true true turns added = added ≡ []
Added true false turns added = ⊥
Added false true turns added = IsPrefix added turns
Added false false turns added = added ≡ turns

-- what opening adds to the log, by whether the site was dark before and is dark after it: all of its turns or nothing
abbrev pub AddedWhole : Bool → Bool → List Turn → List Turn → Type 0
AddedWhole true true turns added = added ≡ []
AddedWhole true false turns added = ⊥
AddedWhole false true turns added = (added ≡ []) ⊎ (added ≡ turns)
AddedWhole false false turns added = added ≡ turns

-- a fact of the log, where it is observed
abbrev pub IfObserved : Observed → (List Turn → Type 0) → Type 0
IfObserved observed P = (log : List Turn) → observed.log ≡ Some log → P log

-- the log goes on by turns that a call has: observed stays observed, unobserved stays unobserved, dark stays dark, and what is played stays
pub record GrowsBy (Add : Bool → Bool → List Turn → List Turn → Type 0) (old new : Observed) (Call : List Turn → List Turn → Type 0) : Type 0 where
  pub observed : IfObserved old (λ before. (turns : List Turn) × (added : List Turn) × Call before turns × Add old.dark new.dark turns added × (new.log ≡ Some (before ++ added)))
  pub unobserved : old.log ≡ None → new.log ≡ None
  pub stays : old.dark ≡ true → new.dark ≡ true
  pub origin : new.origin ≡ old.origin

-- a call has these turns, whatever the log before it
abbrev pub Grows : Observed → Observed → (List Turn → Type 0) → Type 0
Grows old new Call = GrowsBy Added old new (λ before. Call)

-- opening has all of its turns or none, which depend on the log before it
abbrev pub GrowsWhole : Observed → Observed → (List Turn → List Turn → Type 0) → Type 0
GrowsWhole old new Call = GrowsBy AddedWhole old new Call

-- the step of a call on a site, by whether it was dark before: a dark site takes none; else the call has the turns by which the log has grown
abbrev pub TakesCall : Bool → Observed → Observed → SiteCall → Type 0
TakesCall true old new call = Takes old.plan new.plan []
TakesCall false old new call = (before added : List Turn) → old.log ≡ Some before → new.log ≡ Some (before ++ added) → Takes old.plan new.plan (record { step = Made call; turns = added } ∷ [])

-- the call is a step of what the site plays
abbrev pub IsStep : Observed → Observed → SiteCall → Type 0
IsStep old new call = TakesCall old.dark old new call
