-- How a log grows by several calls, one after the other.
use Rattle.std.proofs.Common.{◌≡◌, List, [], ◌∷◌, ◌++◌, refl, sym, ◌∙◌, ap, subst, append_assoc, append-nil}
use Rattle.std.specs.Prelude.{ℕ, Bool, true, false, Option, Some, None}
use Rattle.gw_site.specs.Outside.{outside_from, outside_of}
use Rattle.gw_site.specs.Observed.{Observed, IfObserved, Added, Grows, GrowsBy}
use Rattle.gw_site.specs.declared.turn.Turn.{Turn}
use Rattle.gw_site.specs.declared.turn.Turn.TheVariants.{Synced}
use Rattle.gw_site.proofs.OutsideLemmas.{outside_of-append}
use Rattle.jrn_log.proofs.PrefixLemmas.{prefix_holds}

-- what a call adds is a prefix of its turns
pub added_prefix : (b c : Bool) (turns added : List Turn) → Added b c turns added → (rest : List Turn) × (turns ≡ added ++ rest)
added_prefix true true turns added a = (turns, rw a refl)
added_prefix true false turns added a = elim a [ ]
added_prefix false true turns added a = a
added_prefix false false turns added a = ([], sym a ∙ sym (append-nil added))

-- and all of them where the site isn't dark
pub added_whole : (b c : Bool) (turns added : List Turn) → Added b c turns added → c ≡ false → added ≡ turns
added_whole b true turns added a d = absurd (let h : true ≡ false = d in cc)
added_whole true false turns added a d = elim a [ ]
added_whole false false turns added a d = a

added_then : (b c d : Bool) (p q first second : List Turn) → Added b c p first → Added c d q second → Added b d (p ++ q) (first ++ second)
added_then true true true p q first second x y = rw (x, y) refl
added_then true true false p q first second x y = elim y [ ]
added_then true false d p q first second x y = elim x [ ]
added_then false true true p q first second x y = (x.0 ++ q, rw y (rw x.1 (rw append-nil (append_assoc first x.0 q))))
added_then false true false p q first second x y = elim y [ ]
added_then false false true p q first second x y = (y.0, rw x (rw y.1 (sym (append_assoc p second y.0))))
added_then false false false p q first second x y = rw (x, y) refl

pub grows-then : (old mid new : Observed) (P Q R : List Turn → Type 0) → Grows old mid P → Grows mid new Q → ((p q : List Turn) → P p → Q q → R (p ++ q)) → Grows old new R
grows-then old mid new P Q R x y f = record {
  observed = λ before e.
      let a = x.observed before e in
      let b = y.observed (before ++ a.1) a.4 in
      (a.0 ++ b.0, a.1 ++ b.1, f a.0 b.0 a.2 b.2, added_then old.dark mid.dark new.dark a.0 b.0 a.1 b.1 a.3 b.3, b.4 ∙ ap Some (append_assoc before a.1 b.1));
  unobserved = λ e. y.unobserved (x.unobserved e);
  stays = λ e. y.stays (x.stays e);
  origin = y.origin ∙ x.origin;
}

pub grows-weaker : (old new : Observed) (P Q : List Turn → Type 0) → Grows old new P → ((turns : List Turn) → P turns → Q turns) → Grows old new Q
grows-weaker old new P Q x f = record {
  observed = λ before e. let a = x.observed before e in (a.0, a.1, f a.0 a.2, a.3, a.4);
  unobserved = x.unobserved;
  stays = x.stays;
  origin = x.origin;
}

-- the turns may be said by the log before
pub grows-by : (old new : Observed) (P : List Turn → Type 0) (Q : List Turn → List Turn → Type 0) → Grows old new P → IfObserved old (λ before. (turns : List Turn) → P turns → Q before turns) → GrowsBy Added old new Q
grows-by old new P Q x f = record {
  observed = λ before e. let a = x.observed before e in (a.0, a.1, f before e a.0 a.2, a.3, a.4);
  unobserved = x.unobserved;
  stays = x.stays;
  origin = x.origin;
}

same_added : (b : Bool) → Added b b [] []
same_added true = refl
same_added false = refl

pub grows-refl : (observed : Observed) → Grows observed observed (λ turns. turns ≡ [])
grows-refl observed = record {
  observed = λ before e. ([], [], refl, same_added observed.dark, (rw append-nil e));
  unobserved = λ e. e;
  stays = λ e. e;
  origin = refl;
}

-- a call without turns leaves the log
pub grows-nothing : (old new : Observed) → Grows old new (λ turns. turns ≡ []) → (before : List Turn) → old.log ≡ Some before → new.log ≡ Some before
grows-nothing old new x before e =
    let a = x.observed before e in
    let none : a.1 ≡ [] = (let f = added_prefix old.dark new.dark a.0 a.1 a.3 in prefix_holds (λ made. made ≡ []) [] a.1 f.0 refl (sym a.2 ∙ f.1)) in
    a.4 ∙ ap Some (ap (λ xs. before ++ xs) none ∙ append-nil before)

-- a log that is observed was observed before
pub observed_before : (Add : Bool → Bool → List Turn → List Turn → Type 0) (old new : Observed) (Call : List Turn → List Turn → Type 0) (after : List Turn) → GrowsBy Add old new Call → new.log ≡ Some after → (before : List Turn) × (old.log ≡ Some before)
observed_before Add old new Call after x e = by_log old.log refl
  where
    by_log : (log : Option (List Turn)) → old.log ≡ log → (before : List Turn) × (old.log ≡ Some before)
    by_log (Some before) f = (before, f)
    by_log None f = absurd (let h : None ≡ Some after = sym (x.unobserved f) ∙ e in cc)

-- the log that is observed is one
pub observed_same : (observed : Observed) (log other : List Turn) → observed.log ≡ Some log → observed.log ≡ Some other → log ≡ other
observed_same observed log other e f = let h : Some log ≡ Some other = sym e ∙ f in cc

-- a sync leaves the file
pub synced_same : (old mid : Observed) (Q : List ℕ → Type 0) → Grows old mid (λ turns. turns ≡ Synced ∷ []) → IfObserved mid (λ log. Q (outside_of log).file) → IfObserved old (λ log. Q (outside_of log).file)
synced_same old mid Q x h before e =
    let a = x.observed before e in
    let f = added_prefix old.dark mid.dark a.0 a.1 a.3 in
    let same : (outside_from (outside_of before) a.1).file ≡ (outside_of before).file = prefix_holds (λ made. (outside_from (outside_of before) made).file ≡ (outside_of before).file) (Synced ∷ []) a.1 f.0 (refl, refl) (sym a.2 ∙ f.1) in
    subst Q (ap (λ o. o.file) (outside_of-append before a.1) ∙ same) (h (before ++ a.1) a.4)
