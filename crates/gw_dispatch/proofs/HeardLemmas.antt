-- What was heard on the links, as they are used, cut and made.
use Rattle.std.proofs.Common.{◌≡◌, ℕ, List, [], ◌∷◌, ◌++◌, refl, sym, ◌∙◌, ap, inl, inr}
use Rattle.std.specs.Prelude.{◌≢◌, ◌==◌, Bool, true, false}
use Rattle.std.proofs.lemmas.Bool.{cases_eq, cases_Bool, eqb-true}
use Rattle.gw_site.specs.Outside.{Connection, Outside, outside_after, is_connected, heard_on, hears, without, new_connection}
use Rattle.gw_site.specs.declared.turn.Turn.TheVariants.{SentPt, CutPt, Linked, LinkFailed}
use Rattle.gw_dispatch.specs.MidRound.{AreHeard}

-- no send to this terminal, and no cut of it, changes whether this holds of the outside
pub record StaysAt (pt : ℕ) (Also : Outside → Type 0) : Type 0 where
  pub sent : (o : Outside) (bytes : List ℕ) (ok : Bool) → Also o → Also (outside_after o (SentPt pt bytes ok))
  pub cut : (o : Outside) → Also o → Also (outside_after o (CutPt pt))

-- and no link of it
pub record StaysLinked (pt : ℕ) (Also : Outside → Type 0) : Type 0 where
  pub linked : (o : Outside) → Also o → Also (outside_after o (Linked pt))
  pub failed : (o : Outside) → Also o → Also (outside_after o (LinkFailed pt))

-- ---- a link that is cut

pub cut-there : (links : List Connection) (pt : ℕ) → is_connected (without links pt) pt ≡ false
cut-there [] pt = refl
cut-there (link ∷ links) pt = by_test (link.number == pt) refl (cut-there links pt)
  where
    by_test : (test : Bool) → (link.number == pt) ≡ test → is_connected (without links pt) pt ≡ false → is_connected (without (link ∷ links) pt) pt ≡ false
    by_test true e h = rw e h
    by_test false e h = rw (e, e) h

-- the others stay
pub cut-others : (links : List Connection) (pt number : ℕ) → number ≢ pt → is_connected (without links pt) number ≡ is_connected links number
cut-others [] pt number other = refl
cut-others (link ∷ links) pt number other = by_test (link.number == pt) refl (link.number == number) refl (cut-others links pt number other)
  where
    by_test : (test : Bool) → (link.number == pt) ≡ test → (found : Bool) → (link.number == number) ≡ found → is_connected (without links pt) number ≡ is_connected links number →
        is_connected (without (link ∷ links) pt) number ≡ is_connected (link ∷ links) number
    by_test true t true f h = absurd (other (sym (eqb-true link.number number f) ∙ eqb-true link.number pt t))
    by_test true t false f h = rw (t, f) h
    by_test false t true f h = rw (t, f) refl
    by_test false t false f h = rw (t, f) h

pub cut-heard : (links : List Connection) (pt number : ℕ) → number ≢ pt → heard_on (without links pt) number ≡ heard_on links number
cut-heard [] pt number other = refl
cut-heard (link ∷ links) pt number other = by_test (link.number == pt) refl (link.number == number) refl (cut-heard links pt number other)
  where
    by_test : (test : Bool) → (link.number == pt) ≡ test → (found : Bool) → (link.number == number) ≡ found → heard_on (without links pt) number ≡ heard_on links number →
        heard_on (without (link ∷ links) pt) number ≡ heard_on (link ∷ links) number
    by_test true t true f h = absurd (other (sym (eqb-true link.number number f) ∙ eqb-true link.number pt t))
    by_test true t false f h = rw (t, f) h
    by_test false t true f h = rw (t, f) refl
    by_test false t false f h = rw (t, f) h

-- ---- a link that is made

-- one that was there is found first
more-there : (links : List Connection) (pt number : ℕ) → is_connected links number ≡ true → heard_on (links ++ new_connection pt ∷ []) number ≡ heard_on links number
more-there [] pt number there = absurd (let h : false ≡ true = there in cc)
more-there (link ∷ links) pt number there = by_test (link.number == number) refl (more-there links pt number)
  where
    by_test : (test : Bool) → (link.number == number) ≡ test → (is_connected links number ≡ true → heard_on (links ++ new_connection pt ∷ []) number ≡ heard_on links number) →
        heard_on ((link ∷ links) ++ new_connection pt ∷ []) number ≡ heard_on (link ∷ links) number
    by_test true t later = rw t refl
    by_test false t later = rw t (later (rw t at there))

-- on any other nothing was heard
more-new : (links : List Connection) (pt number : ℕ) → is_connected links number ≡ false → heard_on (links ++ new_connection pt ∷ []) number ≡ []
more-new [] pt number none = by_test (pt == number) refl
  where
    by_test : (test : Bool) → (pt == number) ≡ test → heard_on (new_connection pt ∷ []) number ≡ []
    by_test true t = rw t refl
    by_test false t = rw t refl
more-new (link ∷ links) pt number none = by_test (link.number == number) refl (more-new links pt number)
  where
    by_test : (test : Bool) → (link.number == number) ≡ test → (is_connected links number ≡ false → heard_on (links ++ new_connection pt ∷ []) number ≡ []) → heard_on ((link ∷ links) ++ new_connection pt ∷ []) number ≡ []
    by_test true t later = absurd (let h : true ≡ false = rw t at none in cc)
    by_test false t later = rw t (later (rw t at none))

-- and it is the new one
more-is : (links : List Connection) (pt number : ℕ) → is_connected links number ≡ false → is_connected (links ++ new_connection pt ∷ []) number ≡ true → pt ≡ number
more-is [] pt number none there = by_test (pt == number) refl
  where
    by_test : (test : Bool) → (pt == number) ≡ test → pt ≡ number
    by_test true t = eqb-true pt number t
    by_test false t = absurd (let h : false ≡ true = rw t at there in cc)
more-is (link ∷ links) pt number none there = by_test (link.number == number) refl (more-is links pt number)
  where
    by_test : (test : Bool) → (link.number == number) ≡ test → (is_connected links number ≡ false → is_connected (links ++ new_connection pt ∷ []) number ≡ true → pt ≡ number) → pt ≡ number
    by_test true t later = absurd (let h : true ≡ false = rw t at none in cc)
    by_test false t later = later (rw t at none) (rw t at there)

-- ---- a chunk that is heard

pub hears-there : (links : List Connection) (pt number : ℕ) (chunk : List ℕ) → is_connected (hears links pt chunk) number ≡ is_connected links number
hears-there [] pt number chunk = refl
hears-there (link ∷ links) pt number chunk = by_test (link.number == pt) refl (hears-there links pt number chunk)
  where
    by_test : (test : Bool) → (link.number == pt) ≡ test → is_connected (hears links pt chunk) number ≡ is_connected links number → is_connected (hears (link ∷ links) pt chunk) number ≡ is_connected (link ∷ links) number
    by_test true t h = rw t refl
    by_test false t h = rw t (by_number (link.number == number) refl)
      where
        by_number : (found : Bool) → (link.number == number) ≡ found → is_connected (link ∷ hears links pt chunk) number ≡ is_connected (link ∷ links) number
        by_number true f = rw f refl
        by_number false f = rw f h

pub hears-here : (links : List Connection) (pt : ℕ) (chunk : List ℕ) → is_connected links pt ≡ true → heard_on (hears links pt chunk) pt ≡ heard_on links pt ++ chunk
hears-here [] pt chunk there = absurd (let h : false ≡ true = there in cc)
hears-here (link ∷ links) pt chunk there = by_test (link.number == pt) refl (hears-here links pt chunk)
  where
    by_test : (test : Bool) → (link.number == pt) ≡ test → (is_connected links pt ≡ true → heard_on (hears links pt chunk) pt ≡ heard_on links pt ++ chunk) → heard_on (hears (link ∷ links) pt chunk) pt ≡ heard_on (link ∷ links) pt ++ chunk
    by_test true t later = rw t (rw t refl)
    by_test false t later = rw t (rw t (later (rw t at there)))

pub hears-others : (links : List Connection) (pt number : ℕ) (chunk : List ℕ) → number ≢ pt → heard_on (hears links pt chunk) number ≡ heard_on links number
hears-others [] pt number chunk other = refl
hears-others (link ∷ links) pt number chunk other = by_test (link.number == pt) refl (link.number == number) refl (hears-others links pt number chunk other)
  where
    by_test : (test : Bool) → (link.number == pt) ≡ test → (found : Bool) → (link.number == number) ≡ found → heard_on (hears links pt chunk) number ≡ heard_on links number →
        heard_on (hears (link ∷ links) pt chunk) number ≡ heard_on (link ∷ links) number
    by_test true t true f h = absurd (other (sym (eqb-true link.number number f) ∙ eqb-true link.number pt t))
    by_test true t false f h = rw t (rw f refl)
    by_test false t true f h = rw t (rw f refl)
    by_test false t false f h = rw t (rw f h)

-- ---- what was heard stays

kept-cut : (links : List Connection) (pt : ℕ) (heard : ℕ → List ℕ) → ((number : ℕ) → is_connected links number ≡ true → heard_on links number ≡ heard number) → (number : ℕ) → is_connected (without links pt) number ≡ true → heard_on (without links pt) number ≡ heard number
kept-cut links pt heard all number there =
    elim (cases_eq number pt) [
      | inl e ↦ absurd (let h : false ≡ true = sym (cut-there links pt) ∙ sym (ap (is_connected (without links pt)) e) ∙ there in cc)
      | inr other ↦ cut-heard links pt number other ∙ all number (sym (cut-others links pt number other) ∙ there)
    ]

pub heard-stays : (pt : ℕ) (heard : ℕ → List ℕ) → StaysAt pt (AreHeard heard)
heard-stays pt heard = record {
  sent = λ o bytes ok a. a;
  cut = λ o a. kept-cut o.links pt heard a;
}

-- a link on which nothing was heard yet
pub heard-linked : (pt : ℕ) (heard : ℕ → List ℕ) → heard pt ≡ [] → StaysLinked pt (AreHeard heard)
heard-linked pt heard none = record {
  linked = λ o a number there.
      elim (cases_Bool (is_connected (without o.links pt) number)) [
        | inl old ↦ more-there (without o.links pt) pt number old ∙ kept-cut o.links pt heard a number old
        | inr new ↦ more-new (without o.links pt) pt number new ∙ sym none ∙ ap heard (more-is (without o.links pt) pt number new there)
      ];
  failed = λ o a. a;
}
