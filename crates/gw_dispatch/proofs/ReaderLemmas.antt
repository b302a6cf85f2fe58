-- What the readers of the tills hold.
use Rattle.std.proofs.Common.{◌≡◌, ◌⊎◌, ℕ, suc, List, [], ◌∷◌, ◌++◌, get_or, refl, sym, ◌∙◌, ap, subst, arith, inl, inr}
use Rattle.std.specs.Prelude.{Bool, true, false, ◌==◌, ◌≢◌, if◌then◌else◌, map, Option, Some, None, option_map, unwrap_or, slice_set}
use Rattle.std.proofs.lemmas.Bool.{eq-eqb, eqb-true, eqb-false, ne_eqb}
use Rattle.sale_frame.specs.Decode.{decode_frames}
use Rattle.sale_frame.specs.Grammar.{IsIncompleteFrame}
use Rattle.gw_dispatch.specs.Tills.{OthersStillHold, AllStillHold, AreWaiting, StillHolds, bytes_held, others, rank, reader_of, rested}
use Rattle.gw_dispatch.specs.declared.tills.Till.{Till}

-- ---- tills by their numbers

pub rank-rested : (number : ℕ) (tills : List Till) → rank number (map rested tills) ≡ rank number tills
rank-rested number [] = refl
rank-rested number (till ∷ tills) = ap (λ r. if till.number == number then Some 0 else option_map suc r) (rank-rested number tills)

pub rested-others : (tills : List Till) (number : ℕ) → map rested (others tills number) ≡ others (map rested tills) number
rested-others [] number = refl
rested-others (till ∷ tills) number = by_test (till.number == number) refl (rested-others tills number)
  where
    by_test : (test : Bool) → (till.number == number) ≡ test → map rested (others tills number) ≡ others (map rested tills) number → map rested (others (till ∷ tills) number) ≡ others (map rested (till ∷ tills)) number
    by_test true t h = rw t h
    by_test false t h = rw t (ap (λ l. rested till ∷ l) h)

pub reader-rested : (number : ℕ) (tills : List Till) → reader_of number (map rested tills) ≡ option_map (λ bytes. (decode_frames bytes).rest) (reader_of number tills)
reader-rested number [] = refl
reader-rested number (till ∷ tills) = by_test (till.number == number) refl (reader-rested number tills)
  where
    by_test : (test : Bool) → (till.number == number) ≡ test → reader_of number (map rested tills) ≡ option_map (λ bytes. (decode_frames bytes).rest) (reader_of number tills) →
        reader_of number (map rested (till ∷ tills)) ≡ option_map (λ bytes. (decode_frames bytes).rest) (reader_of number (till ∷ tills))
    by_test true t h = rw t refl
    by_test false t h = rw t h

pub rested-push : (tills : List Till) (till : Till) → map rested (tills ++ till ∷ []) ≡ map rested tills ++ rested till ∷ []
rested-push [] till = refl
rested-push (first ∷ tills) till = ap (λ l. rested first ∷ l) (rested-push tills till)

-- the till at an index
pub record IsAt (number : ℕ) (tills : List Till) (at : ℕ) (d : Till) : Type 0 where
  pub reader : reader_of number tills ≡ Some (get_or tills at d).reader
  pub number_is : (get_or tills at d).number ≡ number
  pub set_here : (x : Till) → x.number ≡ number → reader_of number (slice_set tills at x) ≡ Some x.reader
  pub set_apart : (x : Till) → x.number ≡ number → (other : ℕ) → other ≢ number → reader_of other (slice_set tills at x) ≡ reader_of other tills
  pub rests : (x : Till) → map rested (slice_set tills at x) ≡ slice_set (map rested tills) at (rested x)
  pub stays : (x : Till) → rested x ≡ rested (get_or tills at d) → map rested (slice_set tills at x) ≡ map rested tills

at-first : (till : Till) (tills : List Till) (number : ℕ) (d : Till) → (till.number == number) ≡ true → IsAt number (till ∷ tills) 0 d
at-first till tills number d t = record {
  reader = rw t refl;
  number_is = eqb-true till.number number t;
  set_here = λ x same. rw (eq-eqb x.number number same) refl;
  set_apart = λ x same other apart. rw (ne_eqb x.number other (λ e. apart (sym e ∙ same)), ne_eqb till.number other (λ e. apart (sym e ∙ eqb-true till.number number t))) refl;
  rests = λ x. refl;
  stays = λ x same. ap (λ r. r ∷ map rested tills) same;
}

at-later : (till : Till) (tills : List Till) (number at : ℕ) (d : Till) → (till.number == number) ≡ false → IsAt number tills at d → IsAt number (till ∷ tills) (suc at) d
at-later till tills number at d t later = record {
  reader = rw t later.reader;
  number_is = later.number_is;
  set_here = λ x same. rw t (later.set_here x same);
  set_apart = λ x same other apart. ap (λ r. if till.number == other then Some till.reader else r) (later.set_apart x same other apart);
  rests = λ x. ap (λ l. rested till ∷ l) (later.rests x);
  stays = λ x same. ap (λ l. rested till ∷ l) (later.stays x same);
}

pub till-at : (number : ℕ) (tills : List Till) (at : ℕ) (d : Till) → rank number tills ≡ Some at → IsAt number tills at d
till-at number [] at d e = absurd (let h : None ≡ Some at = e in cc)
till-at number (till ∷ tills) at d e = by_test (till.number == number) refl e (λ k h. till-at number tills k d h)
  where
    by_test : (test : Bool) → (till.number == number) ≡ test → (if test then Some 0 else option_map suc (rank number tills)) ≡ Some at → ((k : ℕ) → rank number tills ≡ Some k → IsAt number tills k d) → IsAt number (till ∷ tills) at d
    by_test true t h later = let z : 0 ≡ at = (let g : Some 0 ≡ Some at = h in cc) in subst (λ at. IsAt number (till ∷ tills) at d) z (at-first till tills number d t)
    by_test false t h later = of_rest (rank number tills) refl
      where
        of_rest : (r : Option ℕ) → rank number tills ≡ r → IsAt number (till ∷ tills) at d
        of_rest None g = absurd (let f : None ≡ Some at = sym (ap (option_map suc) g) ∙ h in cc)
        of_rest (Some k) g =
            let f : Some (suc k) ≡ Some at = sym (ap (option_map suc) g) ∙ h in
            let z : suc k ≡ at = cc in
            subst (λ at. IsAt number (till ∷ tills) at d) z (at-later till tills number k d t (later k g))

pub absent-reader : (number : ℕ) (tills : List Till) → rank number tills ≡ None → reader_of number tills ≡ None
absent-reader number [] e = refl
absent-reader number (till ∷ tills) e = by_test (till.number == number) refl e (λ h. absent-reader number tills h)
  where
    by_test : (test : Bool) → (till.number == number) ≡ test → (if test then Some 0 else option_map suc (rank number tills)) ≡ None → (rank number tills ≡ None → reader_of number tills ≡ None) → reader_of number (till ∷ tills) ≡ None
    by_test true t h later = absurd (let g : Some 0 ≡ None = h in cc)
    by_test false t h later = rw t (of_rest (rank number tills) refl)
      where
        of_rest : (r : Option ℕ) → rank number tills ≡ r → reader_of number tills ≡ None
        of_rest None g = later g
        of_rest (Some k) g = absurd (let f : Some (suc k) ≡ None = sym (ap (option_map suc) g) ∙ h in cc)

pub reader-absent : (number : ℕ) (tills : List Till) → reader_of number tills ≡ None → rank number tills ≡ None
reader-absent number tills e = by_rank (rank number tills) refl
  where
    by_rank : (r : Option ℕ) → rank number tills ≡ r → rank number tills ≡ None
    by_rank None g = g
    by_rank (Some k) g =
        let there : IsAt number tills k (record { number = 0; reader = [] }) = till-at number tills k (record { number = 0; reader = [] }) g in
        absurd (let f : None ≡ Some (get_or tills k (record { number = 0; reader = [] })).reader = sym e ∙ there.reader in cc)

-- ---- what is still held

pub still-same : (tills : List Till) → AllStillHold tills tills
still-same tills = λ number. inl refl

one-still : (number : ℕ) (old mid new : List Till) → StillHolds number old mid → StillHolds number mid new → StillHolds number old new
one-still number old mid new (inl same) (inl also) = inl (also ∙ same)
one-still number old mid new (inr gone) (inl also) = inr (also ∙ gone)
one-still number old mid new first (inr gone) = inr gone

pub still-then : (old mid new : List Till) → AllStillHold old mid → AllStillHold mid new → AllStillHold old new
still-then old mid new first second = λ number. one-still number old mid new (first number) (second number)

pub others-still-then : (but : ℕ) (old mid new : List Till) → OthersStillHold but old mid → OthersStillHold but mid new → OthersStillHold but old new
others-still-then but old mid new first second = λ number apart. one-still number old mid new (first number apart) (second number apart)

pub others-still : (but : ℕ) (old mid new : List Till) → OthersStillHold but old mid → AllStillHold mid new → OthersStillHold but old new
others-still but old mid new first second = λ number apart. one-still number old mid new (first number apart) (second number)

-- a till that is dropped isn't there any more
pub dropped-reader : (tills : List Till) (number : ℕ) → reader_of number (others tills number) ≡ None
dropped-reader [] number = refl
dropped-reader (till ∷ tills) number = by_test (till.number == number) refl (dropped-reader tills number)
  where
    by_test : (test : Bool) → (till.number == number) ≡ test → reader_of number (others tills number) ≡ None → reader_of number (others (till ∷ tills) number) ≡ None
    by_test true t h = rw t h
    by_test false t h = rw t (rw t h)

-- and each other is
other-reader : (tills : List Till) (but number : ℕ) → number ≢ but → reader_of number (others tills but) ≡ reader_of number tills
other-reader [] but number apart = refl
other-reader (till ∷ tills) but number apart = by_test (till.number == but) refl (other-reader tills but number apart)
  where
    by_test : (test : Bool) → (till.number == but) ≡ test → reader_of number (others tills but) ≡ reader_of number tills → reader_of number (others (till ∷ tills) but) ≡ reader_of number (till ∷ tills)
    by_test true t h = rw t (rw (ne_eqb till.number number (λ e. apart (sym e ∙ eqb-true till.number but t))) h)
    by_test false t h = rw t (ap (λ r. if till.number == number then Some till.reader else r) h)

pub dropped-still : (tills : List Till) (but : ℕ) → AllStillHold tills (others tills but)
dropped-still tills but number = by_test (number == but) refl
  where
    by_test : (test : Bool) → (number == but) ≡ test → StillHolds number tills (others tills but)
    by_test true t = inr (subst (λ n. reader_of n (others tills but) ≡ None) (sym (eqb-true number but t)) (dropped-reader tills but))
    by_test false t = inl (other-reader tills but number (eqb-false number but t))

-- ---- readers that wait

pub empty-waits : IsIncompleteFrame []
empty-waits = inl (omega arith)

pub absent-bytes : (number : ℕ) (tills : List Till) → reader_of number tills ≡ None → bytes_held number tills ≡ []
absent-bytes number tills e = ap (λ r. unwrap_or r []) e

waits-on : (number : ℕ) (old new : List Till) → IsIncompleteFrame (bytes_held number old) → StillHolds number old new → IsIncompleteFrame (bytes_held number new)
waits-on number old new waits (inl same) = subst IsIncompleteFrame (ap (λ r. unwrap_or r []) (sym same)) waits
waits-on number old new waits (inr gone) = subst IsIncompleteFrame (sym (absent-bytes number new gone)) empty-waits

pub waiting-still : (old new : List Till) → AreWaiting old → AllStillHold old new → AreWaiting new
waiting-still old new waiting still = λ number. waits-on number old new (waiting number) (still number)

-- each waits where this one does, and each other did and is still there or gone
pub waiting-but : (but : ℕ) (old new : List Till) → AreWaiting old → OthersStillHold but old new → IsIncompleteFrame (bytes_held but new) → AreWaiting new
waiting-but but old new waiting others own number = by_test (number == but) refl
  where
    by_test : (test : Bool) → (number == but) ≡ test → IsIncompleteFrame (bytes_held number new)
    by_test true t = subst (λ n. IsIncompleteFrame (bytes_held n new)) (sym (eqb-true number but t)) own
    by_test false t = waits-on number old new (waiting number) (others number (eqb-false number but t))

-- a till that opens waits, and the others wait as before
push-reader : (tills : List Till) (number other : ℕ) → (reader_of other (tills ++ record { number = number; reader = [] } ∷ []) ≡ reader_of other tills) ⊎ (bytes_held other (tills ++ record { number = number; reader = [] } ∷ []) ≡ [])
push-reader [] number other = by_test (number == other) refl
  where
    by_test : (test : Bool) → (number == other) ≡ test → (reader_of other ([] ++ record { number = number; reader = [] } ∷ []) ≡ reader_of other []) ⊎ (bytes_held other ([] ++ record { number = number; reader = [] } ∷ []) ≡ [])
    by_test true t = inr (rw t refl)
    by_test false t = inl (rw t refl)
push-reader (till ∷ tills) number other = by_test (till.number == other) refl (push-reader tills number other)
  where
    by_test : (test : Bool) → (till.number == other) ≡ test → (reader_of other (tills ++ record { number = number; reader = [] } ∷ []) ≡ reader_of other tills) ⊎ (bytes_held other (tills ++ record { number = number; reader = [] } ∷ []) ≡ []) →
        (reader_of other ((till ∷ tills) ++ record { number = number; reader = [] } ∷ []) ≡ reader_of other (till ∷ tills)) ⊎ (bytes_held other ((till ∷ tills) ++ record { number = number; reader = [] } ∷ []) ≡ [])
    by_test true t h = inl (rw t refl)
    by_test false t (inl same) = inl (rw t same)
    by_test false t (inr none) = inr (rw t none)

pub opened-waiting : (tills new : List Till) (number : ℕ) → AreWaiting tills → new ≡ tills ++ record { number = number; reader = [] } ∷ [] → AreWaiting new
opened-waiting tills new number waiting is other =
    subst (λ list. IsIncompleteFrame (bytes_held other list)) (sym is)
    (elim (push-reader tills number other) [
      | inl same ↦ subst (λ r. IsIncompleteFrame (unwrap_or r [])) (sym same) (waiting other)
      | inr none ↦ subst IsIncompleteFrame (sym none) empty-waits
    ])
