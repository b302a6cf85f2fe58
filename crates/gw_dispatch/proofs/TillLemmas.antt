-- The tills that the engine holds.
use Rattle.std.proofs.Common.{◌≡◌, ℕ, zero, suc, ◌+◌, ◌<◌, ◌≤◌, List, [], ◌∷◌, ◌++◌, length, get_or, drop, refl, sym, ◌∙◌, ap, arith, subst, append-nil}
use Rattle.std.proofs.lemmas.List.{drop_more, drop_all}
use Rattle.std.proofs.lemmas.Bool.{eq-eqb, ne_eqb, eqb-true, or_from, or_parts}
use Rattle.std.specs.Prelude.{Bool, true, false, ◌==◌, if◌then◌else◌, map, Option, Some, None, option_map, slice_set}
use Rattle.gw_site.specs.Outside.{Connection, is_connected, without, hears, heard_on, new_connection}
use Rattle.sale_frame.specs.Decode.{decode_frames}
use Rattle.gw_dispatch.specs.Tills.{rank, till_of, others, AreBelow}
use Rattle.gw_dispatch.specs.declared.tills.Till.{Till}

-- the indices of the tills from one on, counted from the first of all
abbrev pub rank_from : ℕ → ℕ → List Till → Option ℕ
rank_from number at tills = option_map (λ k. at + k) (rank number tills)

pub rank-here : (number at : ℕ) (tills : List Till) (d : Till) → at < length tills → (get_or tills at d).number ≡ number → rank_from number at (drop at tills) ≡ Some at
rank-here number at tills d lt e =
    let z : at + 0 ≡ at = omega arith in
    rw (drop_more tills at d lt, eq-eqb (get_or tills at d).number number e) (ap Some z)

shifted : (at : ℕ) (r : Option ℕ) → option_map (λ k. at + k) (option_map suc r) ≡ option_map (λ k. (at + 1) + k) r
shifted at None = refl
shifted at (Some k) = ap Some (let e : at + suc k ≡ (at + 1) + k = omega arith in e)

pub rank-next : (number at : ℕ) (tills : List Till) (d : Till) → at < length tills → ((get_or tills at d).number ≡ number → ⊥) → rank_from number at (drop at tills) ≡ rank_from number (at + 1) (drop (at + 1) tills)
rank-next number at tills d lt e = rw (drop_more tills at d lt, ne_eqb (get_or tills at d).number number e) (shifted at (rank number (drop (at + 1) tills)))

pub rank-past : (number at : ℕ) (tills : List Till) → length tills ≤ at → rank_from number at (drop at tills) ≡ None
rank-past number at tills le = rw (drop_all at tills le) refl

pub rank-first : (number : ℕ) (tills : List Till) → rank number tills ≡ rank_from number 0 (drop 0 tills)
rank-first number tills = same (rank number tills)
  where
    same : (r : Option ℕ) → r ≡ option_map (λ k. 0 + k) r
    same None = refl
    same (Some k) = ap Some (let e : k ≡ 0 + k = omega arith in e)

pub rank-held-open : (connections : List Connection) (number at : ℕ) → rank number (map till_of connections) ≡ Some at → is_connected connections number ≡ true
rank-held-open [] number at e = absurd (let h : None ≡ Some at = e in cc)
rank-held-open (connection ∷ connections) number at e = by_test (connection.number == number) refl (λ k h. rank-held-open connections number k h)
  where
    by_test : (test : Bool) → (connection.number == number) ≡ test → ((k : ℕ) → rank number (map till_of connections) ≡ Some k → is_connected connections number ≡ true) → is_connected (connection ∷ connections) number ≡ true
    by_test true t later = rw t refl
    by_test false t later = rw t (of_rest (rank number (map till_of connections)) refl)
      where
        of_rest : (r : Option ℕ) → rank number (map till_of connections) ≡ r → is_connected connections number ≡ true
        of_rest None h = absurd (let g : None ≡ Some at = sym (rw (t, h) refl) ∙ e in cc)
        of_rest (Some k) h = later k h

pub rank-held-none : (connections : List Connection) (number : ℕ) → rank number (map till_of connections) ≡ None → is_connected connections number ≡ false
rank-held-none [] number e = refl
rank-held-none (connection ∷ connections) number e = by_test (connection.number == number) refl (λ h. rank-held-none connections number h)
  where
    by_test : (test : Bool) → (connection.number == number) ≡ test → (rank number (map till_of connections) ≡ None → is_connected connections number ≡ false) → is_connected (connection ∷ connections) number ≡ false
    by_test true t later = absurd (let g : Some 0 ≡ None = sym (rw t refl) ∙ e in cc)
    by_test false t later = rw t (of_rest (rank number (map till_of connections)) refl)
      where
        of_rest : (r : Option ℕ) → rank number (map till_of connections) ≡ r → is_connected connections number ≡ false
        of_rest None h = later h
        of_rest (Some k) h = absurd (let g : Some (suc k) ≡ None = sym (rw (t, h) refl) ∙ e in cc)

-- the till at the index of this number, and the tills once its connection has heard a chunk more
pub record IsFound (connections : List Connection) (number at : ℕ) (chunk : List ℕ) : Type 0 where
  pub till : (d : Till) → get_or (map till_of connections) at d ≡ record { number = number; reader = (decode_frames (heard_on connections number)).rest }
  pub more : slice_set (map till_of connections) at (record { number = number; reader = (decode_frames (heard_on connections number ++ chunk)).rest }) ≡ map till_of (hears connections number chunk)

found-here : (connection : Connection) (connections : List Connection) (number at : ℕ) (chunk : List ℕ) → (connection.number == number) ≡ true → 0 ≡ at → IsFound (connection ∷ connections) number at chunk
found-here connection connections number at chunk t z =
    let same : connection.number ≡ number = eqb-true connection.number number t in
    subst (λ at. IsFound (connection ∷ connections) number at chunk) z
    (record {
      till = λ d. rw t (ap (λ n. record { number = n; reader = (decode_frames connection.heard).rest }) same);
      more = rw t (ap (λ n. record { number = n; reader = (decode_frames (connection.heard ++ chunk)).rest } ∷ map till_of connections) (sym same));
    })

found-later : (connection : Connection) (connections : List Connection) (number k at : ℕ) (chunk : List ℕ) → (connection.number == number) ≡ false → suc k ≡ at → IsFound connections number k chunk → IsFound (connection ∷ connections) number at chunk
found-later connection connections number k at chunk t z f = subst (λ at. IsFound (connection ∷ connections) number at chunk) z
    (record { till = λ d. rw t (f.till d); more = rw t (ap (λ l. till_of connection ∷ l) f.more) })

found-rest : (connection : Connection) (connections : List Connection) (number at : ℕ) (chunk : List ℕ) → (connection.number == number) ≡ false → option_map suc (rank number (map till_of connections)) ≡ Some at →
    ((k : ℕ) → rank number (map till_of connections) ≡ Some k → IsFound connections number k chunk) → (r : Option ℕ) → rank number (map till_of connections) ≡ r → IsFound (connection ∷ connections) number at chunk
found-rest connection connections number at chunk t e later None h = absurd (let g : None ≡ Some at = sym (ap (option_map suc) h) ∙ e in cc)
found-rest connection connections number at chunk t e later (Some k) h =
    let g : Some (suc k) ≡ Some at = sym (ap (option_map suc) h) ∙ e in
    let z : suc k ≡ at = cc in
    found-later connection connections number k at chunk t z (later k h)

found-by : (connection : Connection) (connections : List Connection) (number at : ℕ) (chunk : List ℕ) → ((k : ℕ) → rank number (map till_of connections) ≡ Some k → IsFound connections number k chunk) → (test : Bool) → (connection.number == number) ≡ test →
    (if test then Some 0 else option_map suc (rank number (map till_of connections))) ≡ Some at → IsFound (connection ∷ connections) number at chunk
found-by connection connections number at chunk later true t e = let z : 0 ≡ at = (let g : Some 0 ≡ Some at = e in cc) in found-here connection connections number at chunk t z
found-by connection connections number at chunk later false t e = found-rest connection connections number at chunk t e later (rank number (map till_of connections)) refl

pub found : (connections : List Connection) (number at : ℕ) (chunk : List ℕ) → rank number (map till_of connections) ≡ Some at → IsFound connections number at chunk
found [] number at chunk e = absurd (let h : None ≡ Some at = e in cc)
found (connection ∷ connections) number at chunk e = found-by connection connections number at chunk (λ k h. found connections number k chunk h) (connection.number == number) refl e

pub others-held : (connections : List Connection) (number : ℕ) → others (map till_of connections) number ≡ map till_of (without connections number)
others-held [] number = refl
others-held (connection ∷ connections) number = by_test (connection.number == number) refl (others-held connections number)
  where
    by_test : (test : Bool) → (connection.number == number) ≡ test → others (map till_of connections) number ≡ map till_of (without connections number) → others (map till_of (connection ∷ connections)) number ≡ map till_of (without (connection ∷ connections) number)
    by_test true t h = rw t h
    by_test false t h = rw t (ap (λ l. till_of connection ∷ l) h)

others-set-by : (till x : Till) (tills : List Till) (number at : ℕ) → (x.number == number) ≡ true → ((k : ℕ) → rank number tills ≡ Some k → others (slice_set tills k x) number ≡ others tills number) → (test : Bool) → (till.number == number) ≡ test →
    (if test then Some 0 else option_map suc (rank number tills)) ≡ Some at → others (slice_set (till ∷ tills) at x) number ≡ others (till ∷ tills) number
others-set-by till x tills number zero xt later true t e = rw (xt, t) refl
others-set-by till x tills number (suc at) xt later true t e = absurd (let g : Some 0 ≡ Some (suc at) = e in cc)
others-set-by till x tills number zero xt later false t e = of_rest (rank number tills) refl
  where
    of_rest : (r : Option ℕ) → rank number tills ≡ r → others (slice_set (till ∷ tills) zero x) number ≡ others (till ∷ tills) number
    of_rest None h = absurd (let g : None ≡ Some zero = sym (ap (option_map suc) h) ∙ e in cc)
    of_rest (Some k) h = absurd (let g : Some (suc k) ≡ Some zero = sym (ap (option_map suc) h) ∙ e in cc)
others-set-by till x tills number (suc at) xt later false t e = of_rest (rank number tills) refl
  where
    of_rest : (r : Option ℕ) → rank number tills ≡ r → others (slice_set (till ∷ tills) (suc at) x) number ≡ others (till ∷ tills) number
    of_rest None h = absurd (let g : None ≡ Some (suc at) = sym (ap (option_map suc) h) ∙ e in cc)
    of_rest (Some k) h =
        let g : Some (suc k) ≡ Some (suc at) = sym (ap (option_map suc) h) ∙ e in
        let z : k ≡ at = cc in
        rw t (ap (λ l. till ∷ l) (later at (h ∙ ap Some z)))

-- a till that is set at its index makes no difference to the others
pub others-set : (tills : List Till) (x : Till) (number at : ℕ) → rank number tills ≡ Some at → x.number ≡ number → others (slice_set tills at x) number ≡ others tills number
others-set [] x number at e n = absurd (let h : None ≡ Some at = e in cc)
others-set (till ∷ tills) x number at e n = others-set-by till x tills number at (eq-eqb x.number number n) (λ k h. others-set tills x number k h n) (till.number == number) refl e

pub without-hears : (connections : List Connection) (number : ℕ) (chunk : List ℕ) → without (hears connections number chunk) number ≡ without connections number
without-hears [] number chunk = refl
without-hears (connection ∷ connections) number chunk = by_test (connection.number == number) refl (without-hears connections number chunk)
  where
    by_test : (test : Bool) → (connection.number == number) ≡ test → without (hears connections number chunk) number ≡ without connections number → without (hears (connection ∷ connections) number chunk) number ≡ without (connection ∷ connections) number
    by_test true t h = rw t (rw t refl)
    by_test false t h = rw t (rw t (ap (λ l. connection ∷ l) h))

pub open-hears : (connections : List Connection) (number : ℕ) (chunk : List ℕ) → is_connected (hears connections number chunk) number ≡ is_connected connections number
open-hears [] number chunk = refl
open-hears (connection ∷ connections) number chunk = by_test (connection.number == number) refl (open-hears connections number chunk)
  where
    by_test : (test : Bool) → (connection.number == number) ≡ test → is_connected (hears connections number chunk) number ≡ is_connected connections number → is_connected (hears (connection ∷ connections) number chunk) number ≡ is_connected (connection ∷ connections) number
    by_test true t h = rw t (rw t refl)
    by_test false t h = rw t (rw t h)

pub below-hears : (next : ℕ) (connections : List Connection) (number : ℕ) (chunk : List ℕ) → AreBelow next connections → AreBelow next (hears connections number chunk)
below-hears next [] number chunk b = tt
below-hears next (connection ∷ connections) number chunk b = by_test (connection.number == number) refl (below-hears next connections number chunk b.1)
  where
    by_test : (test : Bool) → (connection.number == number) ≡ test → AreBelow next (hears connections number chunk) → AreBelow next (hears (connection ∷ connections) number chunk)
    by_test true t h = rw t b
    by_test false t h = rw t (b.0, h)

pub below-without : (next : ℕ) (connections : List Connection) (number : ℕ) → AreBelow next connections → AreBelow next (without connections number)
below-without next [] number b = tt
below-without next (connection ∷ connections) number b = by_test (connection.number == number) refl (below-without next connections number b.1)
  where
    by_test : (test : Bool) → (connection.number == number) ≡ test → AreBelow next (without connections number) → AreBelow next (without (connection ∷ connections) number)
    by_test true t h = rw t h
    by_test false t h = rw t (b.0, h)

pub below-push : (next number : ℕ) (connections : List Connection) → AreBelow next connections → next ≤ number → AreBelow (number + 1) (connections ++ new_connection number ∷ [])
below-push next number [] b le = (omega arith, tt)
below-push next number (connection ∷ connections) b le = (omega (arith, b.0), below-push next number connections b.1 le)

pub below-closed : (next number : ℕ) (connections : List Connection) → AreBelow next connections → next ≤ number → is_connected connections number ≡ false
below-closed next number [] b le = refl
below-closed next number (connection ∷ connections) b le = or_from (connection.number == number) (is_connected connections number) (ne_eqb connection.number number (λ e. omega (arith, b.0))) (below-closed next number connections b.1 le)

without-closed-same : (connections : List Connection) (number : ℕ) → is_connected connections number ≡ false → without connections number ≡ connections
without-closed-same [] number h = refl
without-closed-same (connection ∷ connections) number h =
    let p = or_parts (connection.number == number) (is_connected connections number) h in
    rw p.0 (ap (λ l. connection ∷ l) (without-closed-same connections number p.1))

without-append : (xs ys : List Connection) (number : ℕ) → without (xs ++ ys) number ≡ without xs number ++ without ys number
without-append [] ys number = refl
without-append (x ∷ xs) ys number = by_test (x.number == number) refl (without-append xs ys number)
  where
    by_test : (test : Bool) → (x.number == number) ≡ test → without (xs ++ ys) number ≡ without xs number ++ without ys number → without ((x ∷ xs) ++ ys) number ≡ without (x ∷ xs) number ++ without ys number
    by_test true t h = rw t h
    by_test false t h = rw t (ap (λ l. x ∷ l) h)

-- a connection that has just opened leaves the others when it is cut
pub without-new : (connections : List Connection) (number : ℕ) → is_connected connections number ≡ false → without (connections ++ new_connection number ∷ []) number ≡ connections
without-new connections number h =
    let one : without (new_connection number ∷ []) number ≡ [] = rw (eq-eqb number number refl) refl in
    without-append connections (new_connection number ∷ []) number ∙ rw one (append-nil (without connections number)) ∙ without-closed-same connections number h

pub held-push : (connections : List Connection) (number : ℕ) → map till_of (connections ++ new_connection number ∷ []) ≡ map till_of connections ++ record { number = number; reader = [] } ∷ []
held-push [] number = refl
held-push (connection ∷ connections) number = ap (λ l. till_of connection ∷ l) (held-push connections number)

pub length-held : (connections : List Connection) → length (map till_of connections) ≡ length connections
length-held [] = refl
length-held (connection ∷ connections) = ap suc (length-held connections)

pub below-up : (next more : ℕ) (connections : List Connection) → AreBelow next connections → next ≤ more → AreBelow more connections
below-up next more [] b le = tt
below-up next more (connection ∷ connections) b le = (omega (arith, b.0), below-up next more connections b.1 le)
