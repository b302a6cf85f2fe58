-- A payment is settled where a Settled of its terminal comes after its Outcome.
use Rattle.std.proofs.Common.{◌≡◌, ◌∙◌, ℕ, suc, ◌<◌, ◌≤◌, eqb, Bool, true, false, cond, List, [], ◌∷◌, ◌++◌, length, Some, None, slice_get, refl, sym, ap, subst, arith, inl, inr, append_assoc}
use Rattle.std.specs.Prelude.{◌↔◌, if◌then◌else◌, nat_lt}
use Rattle.std.proofs.lemmas.Bool.{cases_lt}
use Rattle.std.proofs.lemmas.Bool.Decides.{nat_tests}
use Rattle.std.proofs.lemmas.List.{append-nil, length-append}
use Rattle.std.proofs.lemmas.Option.{same_Some, slice_get_within}
use Rattle.jrn_record.specs.declared.records.Deal.TheVariants.{Payment}
use Rattle.jrn_record.specs.declared.records.Intent.{Intent as TheIntent}
use Rattle.jrn_record.specs.declared.records.Outcome.{Outcome as TheOutcome}
use Rattle.jrn_record.specs.declared.records.Settled.{Settled as TheSettled}
use Rattle.jrn_record.specs.declared.records.Record.{Record}
use Rattle.jrn_record.specs.declared.records.Record.TheVariants.{Intent, Outcome, Settled}
use Rattle.gw_ledger.specs.declared.account.Account.{Account}
use Rattle.gw_ledger.specs.Accounts.{account_of, account_with, is_poi, is_settled, poi_of}
use Rattle.gw_ledger.specs.History.{history, same_text}
use Rattle.gw_ledger.specs.Laws.{IsSettledAfter}
use Rattle.gw_ledger.specs.Slots.{is_reversible, ended_at, intent_at, is_outcome_of, is_reversible_intent}
use Rattle.gw_ledger.proofs.HistoryLemmas.{history-push}
use Rattle.gw_ledger.proofs.OpenLemmas.{account_push}
use Rattle.gw_ledger.proofs.RecordLemmas.{get_before, get_last, get_push}
use Rattle.gw_ledger.proofs.TieLemmas.{same_text-is, same_text-itself}

-- what holds of no records, and stays with each more, holds of all
module _ (P : List Record → Type 0) (step : (before : List Record) (next : Record) → P before → P (before ++ next ∷ [])) where
  go : (before rest : List Record) → P before → P (before ++ rest)
  go before [] holds = rw (append-nil before) holds
  go before (next ∷ rest) holds = rw (← append_assoc before (next ∷ []) rest) (go (before ++ next ∷ []) rest (step before next holds))

  pub of_all : P [] → (records : List Record) → P records
  of_all none records = go [] records none

-- ---- an Outcome's slot

pub record IsOutcomeAt (records : List Record) (at : ℕ) : Type 0 where
  pub outcome : TheOutcome
  pub found : slice_get records at ≡ Some (Outcome outcome)

abbrev pub EndsAtOutcomes : List Record → Type 0
EndsAtOutcomes records = (slot at : ℕ) → ended_at records slot ≡ Some at → IsOutcomeAt records at

is_outcome : (slot : ℕ) (next : Record) → is_outcome_of slot next ≡ true → (outcome : TheOutcome) × (next ≡ Outcome outcome)
is_outcome slot (Intent intent) test = cc
is_outcome slot (Outcome outcome) test = (outcome, refl)
is_outcome slot (Settled settled) test = cc

pub ends_step : (before : List Record) (next : Record) → EndsAtOutcomes before → EndsAtOutcomes (before ++ next ∷ [])
ends_step before next ends slot at found = by_tests (eqb (length before) slot) (is_outcome_of slot next) refl (sym (rw (history-push before next) refl) ∙ found)
  where
    by_tests : (here ended : Bool) → is_outcome_of slot next ≡ ended
        → cond here None (cond ended (Some (length before)) (ended_at before slot)) ≡ Some at → IsOutcomeAt (before ++ next ∷ []) at
    by_tests true ended test same = cc
    by_tests false true test same =
        let outcome = is_outcome slot next test in
        record {
          outcome = outcome.0;
          found = subst (λ n. slice_get (before ++ next ∷ []) n ≡ Some (Outcome outcome.0)) (same_Some (length before) at same) (get_last before next ∙ ap Some outcome.1);
        }
    by_tests false false test same =
        let earlier = ends slot at same in
        record { outcome = earlier.outcome; found = get_before before (next ∷ []) at (slice_get_within before at (Outcome earlier.outcome) earlier.found) ∙ earlier.found }

pub no_ends : EndsAtOutcomes []
unfolding history
no_ends slot at found = cc

-- ---- a Settled from a slot on

record IsSettledFrom (records : List Record) (poi : List ℕ) (slot : ℕ) : Type 0 where
  at : ℕ
  settled : TheSettled
  found : slice_get records at ≡ Some (Settled settled)
  poi_is : settled.poi ≡ poi
  from : slot ≤ at

abbrev CountsSettled : List Record → Type 0
CountsSettled records = (poi : List ℕ) (slot : ℕ) → (slot < (account_of records poi).settled) ↔ IsSettledFrom records poi slot

earlier_stays : (before : List Record) (next : Record) (poi : List ℕ) (slot : ℕ) → IsSettledFrom before poi slot → IsSettledFrom (before ++ next ∷ []) poi slot
earlier_stays before next poi slot has = record {
  at = has.at;
  settled = has.settled;
  found = get_before before (next ∷ []) has.at (slice_get_within before has.at (Settled has.settled) has.found) ∙ has.found;
  poi_is = has.poi_is;
  from = has.from;
}

-- the next record is no Settled of the terminal
was_earlier : (before : List Record) (next : Record) (poi : List ℕ) (slot : ℕ) → ((settled : TheSettled) → next ≡ Settled settled → settled.poi ≡ poi → ⊥)
    → IsSettledFrom (before ++ next ∷ []) poi slot → IsSettledFrom before poi slot
was_earlier before next poi slot other has = elim (get_push before next has.at (Settled has.settled) has.found) [
  | inl earlier ↦ record { at = has.at; settled = has.settled; found = earlier.1; poi_is = has.poi_is; from = has.from }
  | inr last ↦ absurd (other has.settled last.1 has.poi_is)
]

settled_push : (before : List Record) (next : Record) (poi : List ℕ) → (account_of (before ++ next ∷ []) poi).settled
    ≡ (if is_poi poi (poi_of before next) then account_with (length before) next (account_of before poi) else account_of before poi).settled
settled_push before next poi = ap (λ (a : Account). a.settled) (account_push before next poi)

same_count : (before : List Record) (next : Record) (poi : List ℕ) (slot : ℕ) → CountsSettled before → (account_of (before ++ next ∷ []) poi).settled ≡ (account_of before poi).settled
    → ((settled : TheSettled) → next ≡ Settled settled → settled.poi ≡ poi → ⊥) → (slot < (account_of (before ++ next ∷ []) poi).settled) ↔ IsSettledFrom (before ++ next ∷ []) poi slot
same_count before next poi slot counts same other = (
  λ lt. earlier_stays before next poi slot ((counts poi slot).0 (omega (arith, lt, same))),
  λ has. let lt = (counts poi slot).1 (was_earlier before next poi slot other has) in omega (arith, lt, same),
)

counts_step : (before : List Record) (next : Record) → CountsSettled before → CountsSettled (before ++ next ∷ [])
counts_step before (Intent intent) counts poi slot = same_count before (Intent intent) poi slot counts (settled_push before (Intent intent) poi ∙ by_test (same_text poi intent.poi)) (λ settled same here. cc)
  where
    by_test : (b : Bool) → (if b then account_with (length before) (Intent intent) (account_of before poi) else account_of before poi).settled ≡ (account_of before poi).settled
    by_test true = refl
    by_test false = refl
counts_step before (Outcome outcome) counts poi slot =
    same_count before (Outcome outcome) poi slot counts (settled_push before (Outcome outcome) poi ∙ by_test (is_poi poi (poi_of before (Outcome outcome)))) (λ settled same here. cc)
  where
    by_test : (b : Bool) → (if b then account_with (length before) (Outcome outcome) (account_of before poi) else account_of before poi).settled ≡ (account_of before poi).settled
    by_test true = refl
    by_test false = refl
counts_step before (Settled settled) counts poi slot = by_test (same_text poi settled.poi) refl
  where
    by_test : (b : Bool) → same_text poi settled.poi ≡ b
        → (slot < (account_of (before ++ Settled settled ∷ []) poi).settled) ↔ IsSettledFrom (before ++ Settled settled ∷ []) poi slot
    by_test true here =
        let count : (account_of (before ++ Settled settled ∷ []) poi).settled ≡ suc (length before) =
        settled_push before (Settled settled) poi ∙ ap (λ b. (if b then account_with (length before) (Settled settled) (account_of before poi) else account_of before poi).settled) here in (
          λ lt. record { at = length before; settled = settled; found = get_last before (Settled settled); poi_is = sym (same_text-is poi settled.poi here); from = omega (arith, lt, count) },
          λ has.
              let inside = slice_get_within (before ++ Settled settled ∷ []) has.at (Settled has.settled) has.found in
              omega (arith, count, inside, has.from, length-append before (Settled settled ∷ [])),
        )
    by_test false here =
        same_count before (Settled settled) poi slot counts
        (settled_push before (Settled settled) poi ∙ ap (λ b. (if b then account_with (length before) (Settled settled) (account_of before poi) else account_of before poi).settled) here)
        (λ other same poi_is.
        let one : settled ≡ other = cc in
        let tie : same_text poi settled.poi ≡ true = ap (same_text poi) (ap (λ (s : TheSettled). s.poi) one ∙ poi_is) ∙ same_text-itself poi in
        let clash : true ≡ false = sym tie ∙ here in
        cc)

no_settled : CountsSettled []
unfolding history
no_settled poi slot = (λ lt. absurd (omega (arith, lt)), λ has. absurd (none has.at has.settled has.found))
  where
    none : (at : ℕ) (settled : TheSettled) → slice_get [] at ≡ Some (Settled settled) → ⊥
    none at settled found = cc

module _ (records : List Record) where
  after_outcome : (poi : List ℕ) (slot ended : ℕ) → ended_at records slot ≡ Some ended → IsSettledFrom records poi ended → IsSettledAfter records poi ended
  after_outcome poi slot ended at has =
      let outcome = of_all EndsAtOutcomes ends_step no_ends records slot ended at in
      record { at = has.at; settled = has.settled; found = has.found; poi_is = has.poi_is; after = by_place outcome }
    where
      by_place : IsOutcomeAt records ended → ended < has.at
      by_place outcome = elim (cases_lt ended has.at) [
        | inl lt ↦ lt
        | inr ge ↦
            let le : ended ≤ has.at = has.from in
            let same : has.at ≡ ended = omega (arith, ge, le) in
            let clash : Some (Outcome outcome.outcome) ≡ Some (Settled has.settled) = sym outcome.found ∙ ap (slice_get records) (sym same) ∙ has.found in
            absurd (cc)
      ]

  pub settled_is_after : (slot ended : ℕ) (intent : TheIntent) → intent_at records slot ≡ Some intent → intent.what ≡ Payment → ended_at records slot ≡ Some ended
      → (is_settled records slot ≡ true) ↔ IsSettledAfter records intent.poi ended
  settled_is_after slot ended intent asked what at =
      let payment : is_reversible_intent (intent_at records slot) ≡ true = ap is_reversible_intent asked ∙ ap is_reversible what in
      let test : is_settled records slot ≡ nat_lt ended (account_of records intent.poi).settled = rw (asked, what, at) refl in
      let counts = of_all CountsSettled counts_step no_settled records intent.poi ended in (
        λ settled.
            let below : nat_lt ended (account_of records intent.poi).settled ≡ true = sym test ∙ settled in
            let lt : ended < (account_of records intent.poi).settled = grind (arith, nat_tests) in
            after_outcome intent.poi slot ended at (counts.0 lt),
        λ has.
            let lt = counts.1 (record { at = has.at; settled = has.settled; found = has.found; poi_is = has.poi_is; from = omega (arith, has.after) }) in
            let below : nat_lt ended (account_of records intent.poi).settled ≡ true = grind (arith, nat_tests) in
            test ∙ below,
      )
