-- The records of the bodies so far, with one more.
use Rattle.std.proofs.Common.{◌≡◌, ◌∙◌, ℕ, zero, suc, ◌+◌, ◌<◌, ◌≤◌, List, [], ◌∷◌, ◌++◌, length, take, get_or, map, Some, slice_get, refl, sym, ap, subst, arith, add-one}
use Rattle.std.proofs.lemmas.List.{take_all}
use Rattle.std.proofs.lemmas.Option.{get_or_from_slice_get, slice_get_within}
use Rattle.jrn_record.specs.Grammar.{record_body}
use Rattle.jrn_record.specs.declared.records.Record.{Record}
use Rattle.gw_ledger.specs.Fold.{AreFirstBodiesOf, IsBodyAdded, IsRefusedBesideKey}

take_next : (bodies : List (List ℕ)) (i : ℕ) (body : List ℕ) → slice_get bodies i ≡ Some body → take (i + 1) bodies ≡ take i bodies ++ body ∷ []
take_next bodies i body found = rw (add-one i) (go bodies i body found)
  where
    go : (bodies : List (List ℕ)) (i : ℕ) (body : List ℕ) → slice_get bodies i ≡ Some body → take (suc i) bodies ≡ take i bodies ++ body ∷ []
    go [] i body found = cc
    go (first ∷ bodies) zero body found = cc
    go (first ∷ bodies) (suc i) body found = ap (λ rest. first ∷ rest) (go bodies i body found)

map-push : (records : List Record) (the_record : Record) → map record_body (records ++ the_record ∷ []) ≡ map record_body records ++ record_body the_record ∷ []
map-push [] the_record = refl
map-push (first ∷ records) the_record = ap (λ rest. record_body first ∷ rest) (map-push records the_record)

pub length-map_bodies : (records : List Record) → length (map record_body records) ≡ length records
length-map_bodies [] = refl
length-map_bodies (first ∷ records) = ap suc (length-map_bodies records)

pub length-take_bodies : (bodies : List (List ℕ)) (i : ℕ) → i < length bodies → length (take i bodies) ≡ i
length-take_bodies [] i inside = absurd (omega arith)
length-take_bodies (body ∷ bodies) zero inside = refl
length-take_bodies (body ∷ bodies) (suc i) inside = ap suc (length-take_bodies bodies i (omega arith))

pub get_found : (bodies : List (List ℕ)) (i : ℕ) (d : List ℕ) → i < length bodies → slice_get bodies i ≡ Some (get_or bodies i d)
get_found [] i d inside = absurd (omega arith)
get_found (first ∷ bodies) zero d inside = refl
get_found (first ∷ bodies) (suc i) d inside = get_found bodies i d (omega arith)

-- the bodies of the records so far, and of one more
pub one_added : (bodies : List (List ℕ)) (records after : List Record) (i : ℕ) (body : List ℕ) → slice_get bodies i ≡ Some body
    → map record_body records ≡ take i bodies → IsBodyAdded records body after → map record_body after ≡ take (i + 1) bodies
one_added bodies records after i body found are added =
    sym (take_next bodies i body found ∙ rw (← are, added.body_is, added.after_is, map-push records added.the_record) refl)

-- the records of all bodies
pub first_all : (bodies : List (List ℕ)) (records : List Record) (i : ℕ) → map record_body records ≡ take i bodies → length bodies ≤ i → AreFirstBodiesOf bodies records
first_all bodies records i are le =
    let whole : map record_body records ≡ bodies = are ∙ take_all i bodies le in
    let len : length records ≡ length bodies = sym (length-map_bodies records) ∙ ap length whole in
    record {
      inside = omega (arith, len);
      bodies_are = whole ∙ sym (take_all (length records) bodies (omega (arith, len)));
      refused = λ body found. let inside = slice_get_within bodies (length records) body found in absurd (omega (arith, inside, len));
    }

-- the records of the bodies before one that is refused
pub first_until : (bodies : List (List ℕ)) (records : List Record) (i : ℕ) (d : List ℕ) → map record_body records ≡ take i bodies → i < length bodies
    → IsRefusedBesideKey records (get_or bodies i d) → AreFirstBodiesOf bodies records
first_until bodies records i d are inside refused =
    let len : length records ≡ i = sym (length-map_bodies records) ∙ ap length are ∙ length-take_bodies bodies i inside in
    record {
      inside = omega (arith, len);
      bodies_are = are ∙ ap (λ n. take n bodies) (sym len);
      refused = λ body found.
          let here : slice_get bodies i ≡ Some body = ap (slice_get bodies) (sym len) ∙ found in
          subst (IsRefusedBesideKey records) (get_or_from_slice_get bodies i body d here) refused;
    }
