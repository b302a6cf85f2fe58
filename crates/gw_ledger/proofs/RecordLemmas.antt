-- What one more record, of whatever kind, does to lists and counts.
use Rattle.std.proofs.Common.{◌≡◌, ◌∙◌, ℕ, zero, suc, ◌+◌, ◌<◌, ◌≤◌, Bool, true, false, ◌&&◌, List, [], ◌∷◌, ◌++◌, length, Some, slice_get, IsTrue, refl, sym, ap, subst, arith, ◌⊎◌, inl, inr, append_assoc}
use Rattle.std.proofs.lemmas.List.Elements.{All-push}
use Rattle.std.proofs.lemmas.List.{append-nil, length-reverse}
use Rattle.jrn_record.specs.declared.records.Record.{Record}
use Rattle.jrn_record.specs.declared.records.Record.TheVariants.{Intent, Outcome, Settled}
use Rattle.jrn_record.specs.declared.records.Intent.{Intent as TheIntent}
use Rattle.jrn_record.specs.Limits.{IsRecord}
use Rattle.gw_ledger.specs.Fold.{AreFolded, AreFoldedBesideKeys, FitBy, fits, fits_beside_key, has_new_key}
use Rattle.gw_ledger.specs.History.{Placed, placed_after, history}
use Rattle.gw_ledger.specs.Slots.{as_intent, intent_at}
use Rattle.gw_ledger.specs.Sums.{count_all, one_if, open_in, open_with, sum_over}

-- the last of a list
pub get_last : {X : Type 0} (xs : List X) (x : X) → slice_get (xs ++ x ∷ []) (length xs) ≡ Some x
get_last [] x = refl
get_last (y ∷ xs) x = get_last xs x

-- those before it stay
pub get_before : {X : Type 0} (xs ys : List X) (i : ℕ) → i < length xs → slice_get (xs ++ ys) i ≡ slice_get xs i
get_before [] ys i lt = absurd (omega arith)
get_before (x ∷ xs) ys zero lt = refl
get_before (x ∷ xs) ys (suc i) lt = get_before xs ys i (omega arith)

-- what is found is one of them
pub get_push : {X : Type 0} (xs : List X) (x : X) (i : ℕ) (y : X) → slice_get (xs ++ x ∷ []) i ≡ Some y
    → ((i < length xs) × (slice_get xs i ≡ Some y)) ⊎ ((i ≡ length xs) × (x ≡ y))
get_push [] x zero y found = inr (refl, cc)
get_push [] x (suc i) y found = cc
get_push (z ∷ xs) x zero y found = inl (omega arith, found)
get_push (z ∷ xs) x (suc i) y found = elim (get_push xs x i y found) [
  | inl before ↦ inl (omega (arith, before.0), before.1)
  | inr last ↦ inr (ap suc last.0, last.1)
]

module _ (test : List Record → Record → Bool) where
  -- one more record that passes
  FitBy-push : (before rest : List Record) (the_record : Record) → FitBy test before rest → IsTrue (test (before ++ rest) the_record) → FitBy test before (rest ++ the_record ∷ [])
  FitBy-push before [] the_record fit fitting = (subst (λ records. IsTrue (test records the_record)) (append-nil before) fitting, tt)
  FitBy-push before (first ∷ rest) the_record fit fitting =
      (fit.0, FitBy-push (before ++ first ∷ []) rest the_record fit.1 (subst (λ records. IsTrue (test records the_record)) (sym (append_assoc before (first ∷ []) rest)) fitting))

  -- another test that is passed where the first is
  FitBy-other : (other : List Record → Record → Bool) → ((before : List Record) (the_record : Record) → IsTrue (test before the_record) → IsTrue (other before the_record))
      → (before rest : List Record) → FitBy test before rest → FitBy other before rest
  FitBy-other other passes before [] fit = tt
  FitBy-other other passes before (first ∷ rest) fit = (passes before first fit.0, FitBy-other other passes (before ++ first ∷ []) rest fit.1)

pub folded_push : (records : List Record) (the_record : Record) → AreFolded records → IsRecord the_record → IsTrue (fits records the_record)
    → AreFolded (records ++ the_record ∷ [])
folded_push records the_record folded within fitting = record {
  within = All-push IsRecord records the_record folded.within within;
  fit = FitBy-push fits [] records the_record folded.fit fitting;
}

pub beside_push : (records : List Record) (the_record : Record) → AreFoldedBesideKeys records → IsRecord the_record → IsTrue (fits_beside_key records the_record)
    → AreFoldedBesideKeys (records ++ the_record ∷ [])
beside_push records the_record folded within fitting = record {
  within = All-push IsRecord records the_record folded.within within;
  fit = FitBy-push fits_beside_key [] records the_record folded.fit fitting;
}

second_part : (a b : Bool) → IsTrue (a && b) → IsTrue b
second_part true b both = both
second_part false b both = cc

-- a record that fits does so whatever its key
pub fits_beside : (records : List Record) (the_record : Record) → IsTrue (fits records the_record) → IsTrue (fits_beside_key records the_record)
fits_beside records the_record = second_part (has_new_key records the_record) (fits_beside_key records the_record)

pub folded_beside : (records : List Record) → AreFolded records → AreFoldedBesideKeys records
folded_beside records folded = record { within = folded.within; fit = FitBy-other fits fits_beside_key fits_beside [] records folded.fit }

-- a record's Intent is that of an earlier record, or of the last
pub intent_push : (records : List Record) (the_record : Record) (slot : ℕ) (intent : TheIntent) → intent_at (records ++ the_record ∷ []) slot ≡ Some intent
    → ((slot < length records) × (intent_at records slot ≡ Some intent)) ⊎ ((slot ≡ length records) × (as_intent the_record ≡ Some intent))
intent_push [] the_record zero intent found = inr (refl, found)
intent_push [] the_record (suc slot) intent found = cc
intent_push (first ∷ records) the_record zero intent found = inl (omega arith, found)
intent_push (first ∷ records) the_record (suc slot) intent found = elim (intent_push records the_record slot intent found) [
  | inl before ↦ inl (omega (arith, before.0), before.1)
  | inr last ↦ inr (ap suc last.0, last.1)
]

-- ---- counts

length-placed_after : (before rest : List Record) → length (placed_after before rest) ≡ length rest
length-placed_after before [] = refl
length-placed_after before (first ∷ rest) = ap suc (length-placed_after (before ++ first ∷ []) rest)

pub length-history : (records : List Record) → length (history records) ≡ length records
unfolding history
length-history records = length-reverse (placed_after [] records) ∙ length-placed_after [] records

one_if-le : (b : Bool) → one_if b ≤ 1
one_if-le true = omega arith
one_if-le false = omega arith

counted : (test : Record → Bool) (past : List Placed) → sum_over (λ before the_record. one_if (test the_record)) past ≤ length past
counted test [] = omega arith
counted test (p ∷ older) = omega (arith, counted test older, one_if-le (test p.the_record))

pub count-le : (records : List Record) (test : Record → Bool) → count_all records test ≤ length records
count-le records test = subst (λ n. count_all records test ≤ n) (length-history records) (counted test (history records))

open_with-le : (the_record : Record) (count : ℕ) → open_with the_record count ≤ count + 1
open_with-le (Intent intent) count = omega arith
open_with-le (Outcome outcome) count = omega arith
open_with-le (Settled settled) count = omega arith

opened : (past : List Placed) → open_in past ≤ length past
opened [] = omega arith
opened (p ∷ older) = omega (arith, opened older, open_with-le p.the_record (open_in older))

pub open-le : (records : List Record) → open_in (history records) ≤ length records
open-le records = subst (λ n. open_in (history records) ≤ n) (length-history records) (opened (history records))
