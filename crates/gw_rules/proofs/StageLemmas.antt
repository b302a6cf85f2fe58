-- Stages, and cases that don't come up.
use Rattle.std.proofs.Common.{◌≡◌, List, [], refl, sym, ◌∙◌, ap, true, false}
use Rattle.std.specs.Prelude.{Bool, not, Some, None}
use Rattle.gw_owes.specs.Calls.{OwedCall}
use Rattle.gw_rules.specs.Lawful.{first_call}
use Rattle.gw_rules.specs.Stage.{Stage, Resting, Opening, Looking, AtPoll, Handling, Over, Broken, busy, is_round, is_looking, is_broken}

pub no-true : {A : Type 0} → false ≡ true → A
no-true e = absurd (let n : false ≡ true = e in cc)

-- a call isn't owed where none is
pub no-call : {A : Type 0} (calls : List OwedCall) (call : OwedCall) → calls ≡ [] → first_call calls ≡ Some call → A
no-call calls call e h = absurd (let n : None ≡ Some call = sym (ap first_call e) ∙ h in cc)

pub not-true : (b : Bool) → not b ≡ true → b ≡ false
not-true true e = no-true e
not-true false e = refl

pub not-false : (b : Bool) → not b ≡ false → b ≡ true
not-false true e = refl
not-false false e = absurd (let n : true ≡ false = e in cc)

pub handling-not-polled : {A : Type 0} → Handling ≡ AtPoll → A
handling-not-polled e = absurd (let n : Handling ≡ AtPoll = e in cc)

-- in a round no file is looked at
pub looking-not-round : (stage : Stage) → is_looking stage ≡ true → is_round stage ≡ true → ⊥
looking-not-round Resting e h = no-true h
looking-not-round (Opening refused) e h = no-true h
looking-not-round (Looking refused) e h = no-true h
looking-not-round AtPoll e h = no-true e
looking-not-round Handling e h = no-true e
looking-not-round Over e h = no-true h
looking-not-round Broken e h = no-true h

-- in a round, something is handled from here on
pub round-busy : (stage : Stage) → is_round stage ≡ true → busy stage ≡ Handling
round-busy Resting e = no-true e
round-busy (Opening refused) e = no-true e
round-busy (Looking refused) e = no-true e
round-busy AtPoll e = refl
round-busy Handling e = refl
round-busy Over e = no-true e
round-busy Broken e = no-true e

pub busy-broken : (stage : Stage) → is_broken (busy stage) ≡ is_broken stage
busy-broken Resting = refl
busy-broken (Opening refused) = refl
busy-broken (Looking refused) = refl
busy-broken AtPoll = refl
busy-broken Handling = refl
busy-broken Over = refl
busy-broken Broken = refl
