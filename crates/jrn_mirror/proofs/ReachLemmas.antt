-- What an opening has reached after calls on the pair, one after the other.
use Rattle.std.proofs.Common.{◌≡◌, List, [], ◌∷◌, ◌++◌, refl, sym, ◌∙◌, ap, subst, append_assoc, inl, inr}
use Rattle.std.proofs.lemmas.Bool.{cases_Bool}
use Rattle.std.specs.Prelude.{◌⊎◌, Bool, true, false, Option, Some, None}
use Rattle.gw_bytes.specs.Bytes.{IsPrefix}
use Rattle.gw_site.specs.declared.turn.Turn.{Turn}
use Rattle.jrn_mirror.specs.declared.turn.Turn2.{Turn2}
use Rattle.jrn_mirror.specs.One.{Joint, one_from, joint_from, joint_of}
use Rattle.jrn_mirror.specs.Mirrored.{MayAllCome}
use Rattle.jrn_mirror.specs.PairObserved.{PairObserved, IfLogged, AddsTurns, PairGrows}
use Rattle.jrn_mirror.specs.inner.Opening.{HasComeTo}
use Rattle.jrn_mirror.proofs.GrowLemmas.{one_from-append, joint_from-append}
use Rattle.jrn_mirror.proofs.HoldsLemmas.{no_true, no_false}
use Rattle.jrn_mirror.proofs.MirrorLemmas.{may-append, may-prefix}

-- ---- the prefixes of a list of turns

-- each prefix of these turns has this
abbrev pub AllParts : (List Turn2 → Type 0) → List Turn2 → Type 0
AllParts Q [] = Q []
AllParts Q (turn ∷ turns) = Q [] × AllParts (λ more. Q (turn ∷ more)) turns

part_none : (added : List Turn2) → IsPrefix added [] → [] ≡ added
part_none [] p = refl
part_none (turn ∷ added) p = absurd (let h : [] ≡ turn ∷ (added ++ p.0) = p.1 in cc)

pub parts_give : (Q : List Turn2 → Type 0) (turns added : List Turn2) → AllParts Q turns → IsPrefix added turns → Q added
parts_give Q [] added a p = subst Q (part_none added p) a
parts_give Q (turn ∷ turns) [] a p = a.0
parts_give Q (turn ∷ turns) (other ∷ added) a p =
    let h : turn ∷ turns ≡ other ∷ (added ++ p.0) = p.1 in
    let e : turn ≡ other = cc in
    let f : turns ≡ added ++ p.0 = cc in
    subst (λ (t : Turn2). Q (t ∷ added)) e (parts_give (λ more. Q (turn ∷ more)) turns added a.1 (p.0, f))

-- ---- the turns of a call

-- these turns may come, and what they give, all of them or a prefix
pub record Steps (j : Joint) (turns : List Turn2) (Lit Dark : List Turn → Joint → Type 0) : Type 0 where
  pub may : MayAllCome j turns
  pub whole : Lit (one_from j turns) (joint_from j turns)
  pub parts : AllParts (λ added. Dark (one_from j added) (joint_from j added)) turns

-- what was added, and what it gives, by whether the pair is dark now
pub record HasGiven (dark : Bool) (j : Joint) (added : List Turn2) (Lit Dark : List Turn → Joint → Type 0) : Type 0 where
  pub may : MayAllCome j added
  pub lit : dark ≡ false → Lit (one_from j added) (joint_from j added)
  pub gone : dark ≡ true → Dark (one_from j added) (joint_from j added)

gives : (a b : Bool) (j : Joint) (turns added : List Turn2) (Lit Dark : List Turn → Joint → Type 0) → AddsTurns a b turns added → (a ≡ false → Steps j turns Lit Dark) → (a ≡ true → Dark [] j) → HasGiven b j added Lit Dark
gives true true j turns added Lit Dark x s d = record { may = rw x tt; lit = λ e. no_true (sym e); gone = λ e. rw x (d refl) }
gives true false j turns added Lit Dark x s d = absurd x
gives false true j turns added Lit Dark x s d =
    let t = s refl in
    record {
      may = may-prefix j added x.0 (rw (sym x.1) t.may);
      lit = λ e. no_true (sym e);
      gone = λ e. parts_give (λ (more : List Turn2). Dark (one_from j more) (joint_from j more)) turns added t.parts x;
    }
gives false false j turns added Lit Dark x s d = record { may = rw x (s refl).may; lit = λ e. rw x (s refl).whole; gone = λ e. no_false (sym e) }

-- the first call
pub reach-first : (start now : PairObserved) (log xs : List Turn2) (Lit Dark : List Turn → Joint → Type 0) → PairGrows start now (λ turns. turns ≡ xs) → start.log ≡ Some log →
    (start.dark ≡ false → Steps (joint_of log) xs Lit Dark) → (start.dark ≡ true → Dark [] (joint_of log)) → HasComeTo now log Lit Dark
reach-first start now log xs Lit Dark grows e steps dark =
    let a = grows.logged log e in
    let g = gives start.dark now.dark (joint_of log) a.turns a.added Lit Dark a.adds (λ d. rw a.call (steps d)) dark in
    record { added = a.added; log_is = a.log_is; may = g.may; lit = g.lit; dark = g.gone }

-- one more
pub reach-then : (mid now : PairObserved) (log xs : List Turn2) (Lit Dark Lit2 Dark2 : List Turn → Joint → Type 0) → HasComeTo mid log Lit Dark → PairGrows mid now (λ turns. turns ≡ xs) →
    (mid.dark ≡ false → IfLogged mid (λ after. (ones : List Turn) → Lit ones (joint_of after) → Steps (joint_of after) xs (λ more j. Lit2 (ones ++ more) j) (λ more j. Dark2 (ones ++ more) j))) →
    (mid.dark ≡ true → (ones : List Turn) (j : Joint) → Dark ones j → Dark2 (ones ++ []) j) → HasComeTo now log Lit2 Dark2
reach-then mid now log xs Lit Dark Lit2 Dark2 r grows steps dark =
    let a = grows.logged (log ++ r.added) r.log_is in
    let j = joint_from (joint_of log) r.added in
    let ones = one_from (joint_of log) r.added in
    let now_is : joint_of (log ++ r.added) ≡ j = joint_of-append log r.added in
    let same : (d : mid.dark ≡ false) → Lit ones (joint_of (log ++ r.added)) = λ d. rw now_is (r.lit d) in
    let s : mid.dark ≡ false → Steps j xs (λ more k. Lit2 (ones ++ more) k) (λ more k. Dark2 (ones ++ more) k) = λ d. rw now_is at (steps d (log ++ r.added) r.log_is ones (same d)) in
    let g = gives mid.dark now.dark j a.turns a.added (λ more k. Lit2 (ones ++ more) k) (λ more k. Dark2 (ones ++ more) k) a.adds (λ d. rw a.call (s d)) (λ d. dark d ones j (r.dark d)) in
    record {
      added = r.added ++ a.added;
      log_is = a.log_is ∙ ap (λ l. Some l) (append_assoc log r.added a.added);
      may = may-append (joint_of log) r.added a.added r.may g.may;
      lit = λ e. rw (one_from-append (joint_of log) r.added a.added, joint_from-append (joint_of log) r.added a.added) (g.lit e);
      dark = λ e. rw (one_from-append (joint_of log) r.added a.added, joint_from-append (joint_of log) r.added a.added) (g.gone e);
    }
  where
    joint_of-append : (xs ys : List Turn2) → joint_of (xs ++ ys) ≡ joint_from (joint_of xs) ys
    joint_of-append xs ys = joint_from-append _ xs ys

-- nothing is called
pub reach-still : (mid : PairObserved) (log : List Turn2) (Lit Dark Lit2 Dark2 : List Turn → Joint → Type 0) → HasComeTo mid log Lit Dark → ((ones : List Turn) (j : Joint) → Lit ones j → Lit2 ones j) → ((ones : List Turn) (j : Joint) → Dark ones j → Dark2 ones j) → HasComeTo mid log Lit2 Dark2
reach-still mid log Lit Dark Lit2 Dark2 r lit dark = record {
  added = r.added;
  log_is = r.log_is;
  may = r.may;
  lit = λ e. lit (one_from (joint_of log) r.added) (joint_from (joint_of log) r.added) (r.lit e);
  dark = λ e. dark (one_from (joint_of log) r.added) (joint_from (joint_of log) r.added) (r.dark e);
}

none-after : (xs : List Turn2) → xs ++ [] ≡ xs
none-after [] = refl
none-after (x ∷ xs) = ap (λ ys. x ∷ ys) (none-after xs)

-- where a call has no turns, the log is as it was
pub logged_before : (old new : PairObserved) (log : List Turn2) → PairGrows old new (λ turns. turns ≡ []) → new.log ≡ Some log → old.log ≡ Some log
logged_before old new log grows e = elim (logged_or old.log) [ inl none ↦ absurd (let h : None ≡ Some log = sym (grows.unlogged none) ∙ e in cc) | inr some ↦ was some.0 some.1 ]
  where
    logged_or : (observed : Option (List Turn2)) → (observed ≡ None) ⊎ ((two : List Turn2) × (observed ≡ Some two))
    logged_or None = inl refl
    logged_or (Some two) = inr (two, refl)

    nothing : (a b : Bool) (turns added : List Turn2) → AddsTurns a b turns added → turns ≡ [] → added ≡ []
    nothing true true turns added x f = x
    nothing true false turns added x f = absurd x
    nothing false true turns added x f = sym (part_none added (x.0, sym f ∙ x.1))
    nothing false false turns added x f = x ∙ f

    was : (two : List Turn2) → old.log ≡ Some two → old.log ≡ Some log
    was two f =
        let a = grows.logged two f in
        let n : a.added ≡ [] = nothing old.dark new.dark a.turns a.added a.adds a.call in
        let w : new.log ≡ Some (two ++ []) = rw n at a.log_is in
        let h : Some (two ++ []) ≡ Some log = sym w ∙ e in
        let k : two ++ [] ≡ log = cc in
        f ∙ ap (λ l. Some l) (sym (none-after two) ∙ k)

pub lit_before : (old new : PairObserved) (Call : List Turn2 → Type 0) → PairGrows old new Call → new.dark ≡ false → old.dark ≡ false
lit_before old new Call grows d = elim (cases_Bool old.dark) [ inl off ↦ no_true (sym d ∙ grows.stays off) | inr on ↦ on ]
