-- The open slot of a terminal, and what one more record leaves of it.
use Rattle.std.proofs.Common.{◌≡◌, ◌∙◌, ℕ, ◌+◌, ◌<◌, eqb, Bool, true, false, ◌&&◌, not, List, [], ◌∷◌, ◌++◌, length, Some, None, is_some, IsTrue, ◌⊎◌, inl, inr, refl, sym, ap, subst, arith}
use Rattle.std.specs.Prelude.{◌↔◌, nat_le, if◌then◌else◌, option_and_then, option_map}
use Rattle.std.proofs.lemmas.Bool.{cases_lt, cond-false}
use Rattle.std.proofs.lemmas.Bool.Decides.{nat_tests}
use Rattle.std.proofs.lemmas.List.{length-append}
use Rattle.std.proofs.lemmas.Option.{same_Some}
use Rattle.jrn_record.specs.declared.records.Intent.{Intent as TheIntent}
use Rattle.jrn_record.specs.declared.records.Record.{Record}
use Rattle.jrn_record.specs.declared.records.Record.TheVariants.{Intent, Outcome, Settled}
use Rattle.jrn_record.specs.Limits.{IsRecord}
use Rattle.gw_ledger.specs.declared.account.Account.{Account}
use Rattle.gw_ledger.specs.Accounts.{account_in, account_of, account_with, is_poi, last_number_of, open_slot, poi_of}
use Rattle.gw_ledger.specs.Fold.{AreFoldedBesideKeys, fits_beside_key, has_fitting_original}
use Rattle.gw_ledger.specs.History.{history, same_text}
use Rattle.gw_ledger.specs.Laws.{IsOpenAt, poi_at}
use Rattle.gw_ledger.specs.Slots.{as_intent, is_open, is_outcome_of}
use Rattle.gw_ledger.proofs.RecordLemmas.{get_before, get_last}
use Rattle.gw_ledger.proofs.FoldLemmas.{along, intent_inside, open_before, open_has_intent, open_last, open_parts}
use Rattle.gw_ledger.proofs.HistoryLemmas.{history-push}
use Rattle.gw_ledger.proofs.TieLemmas.{same_text-is}

-- a terminal after one more record
pub account_push : (records : List Record) (next : Record) (poi : List ℕ) → account_of (records ++ next ∷ []) poi
    ≡ (if is_poi poi (poi_of records next) then account_with (length records) next (account_of records poi) else account_of records poi)
account_push records next poi = ap (account_in poi) (history-push records next)

-- a record of another terminal leaves the open slot and the last number
pub others_leave : (records : List Record) (next : Record) (poi : List ℕ) → is_poi poi (poi_of records next) ≡ false
    → (open_slot (records ++ next ∷ []) poi ≡ open_slot records poi) × (last_number_of (records ++ next ∷ []) poi ≡ last_number_of records poi)
others_leave records next poi apart =
    let same : account_of (records ++ next ∷ []) poi ≡ account_of records poi = account_push records next poi ∙ cond-false _ _ _ apart in
    (ap (λ (a : Account). a.unresolved) same, ap (λ (a : Account). a.trace) same)

and_true : (b : Bool) → (b && true) ≡ b
and_true true = refl
and_true false = refl

both : (a b : Bool) → (a && b) ≡ true → (a ≡ true) × (b ≡ true)
both true true e = (refl, refl)
both true false e = cc
both false b e = cc

not_true : (b : Bool) → not b ≡ true → b ≡ false
not_true true e = cc
not_true false e = refl

module _ (before : List Record) (next : Record) (poi : List ℕ) where
  poi_before : (slot : ℕ) → slot < length before → poi_at (before ++ next ∷ []) slot ≡ poi_at before slot
  poi_before slot lt = ap (λ o. option_map (λ (intent : TheIntent). intent.poi) (option_and_then as_intent o)) (get_before before (next ∷ []) slot lt)

  poi_last : poi_at (before ++ next ∷ []) (length before) ≡ option_map (λ (intent : TheIntent). intent.poi) (as_intent next)
  poi_last = ap (λ o. option_map (λ (intent : TheIntent). intent.poi) (option_and_then as_intent o)) (get_last before next)

  -- an open slot stays open where the next record is no Outcome of it
  stays_open : (slot : ℕ) → is_outcome_of slot next ≡ false → IsOpenAt before poi slot → IsOpenAt (before ++ next ∷ []) poi slot
  stays_open slot apart opened =
      let lt = intent_inside before slot (open_has_intent before slot opened.0) in (
        open_before before next slot lt ∙ ap (λ b. is_open before slot && not b) apart ∙ and_true (is_open before slot) ∙ opened.0,
        ap (is_poi poi) (poi_before slot lt) ∙ opened.1,
      )

  -- an open slot before the next record was open, and the next record is no Outcome of it
  was_open : (slot : ℕ) → slot < length before → IsOpenAt (before ++ next ∷ []) poi slot → IsOpenAt before poi slot × (is_outcome_of slot next ≡ false)
  was_open slot lt opened =
      let parts = both (is_open before slot) (not (is_outcome_of slot next)) (sym (open_before before next slot lt) ∙ opened.0) in
      ((parts.0, ap (is_poi poi) (sym (poi_before slot lt)) ∙ opened.1), not_true (is_outcome_of slot next) parts.1)

  -- an open slot is that of an earlier record, or of the next one, which is then an Intent of the terminal
  open_cases : (slot : ℕ) → IsOpenAt (before ++ next ∷ []) poi slot
      → (slot < length before) ⊎ ((slot ≡ length before) × (is_some (as_intent next) ≡ true) × (is_poi poi (option_map (λ (intent : TheIntent). intent.poi) (as_intent next)) ≡ true))
  open_cases slot opened =
      let len : length (before ++ next ∷ []) ≡ length before + 1 = length-append before (next ∷ []) in
      let inside = intent_inside (before ++ next ∷ []) slot (open_has_intent (before ++ next ∷ []) slot opened.0) in
      elim (cases_lt slot (length before)) [
        | inl lt ↦ inl lt
        | inr le ↦
            let here : slot ≡ length before = omega (arith, inside, len) in
            inr (here, sym (open_last before next) ∙ ap (is_open (before ++ next ∷ [])) (sym here) ∙ opened.0, ap (is_poi poi) (sym poi_last ∙ ap (poi_at (before ++ next ∷ [])) (sym here)) ∙ opened.1)
      ]

-- the open slot of each terminal is the one that is open and has an Intent of it
abbrev AreOpenSlots : List Record → Type 0
AreOpenSlots records = (poi : List ℕ) (slot : ℕ) → (open_slot records poi ≡ Some slot) ↔ IsOpenAt records poi slot

unresolved_push : (records : List Record) (next : Record) (poi : List ℕ) → open_slot (records ++ next ∷ []) poi
    ≡ (if is_poi poi (poi_of records next) then account_with (length records) next (account_of records poi) else account_of records poi).unresolved
unresolved_push records next poi = ap (λ (a : Account). a.unresolved) (account_push records next poi)

-- the next record leaves the terminal's open slot, and is neither an Intent of it nor an Outcome of its open slot
still_open : (before : List Record) (next : Record) (poi : List ℕ) → AreOpenSlots before → open_slot (before ++ next ∷ []) poi ≡ open_slot before poi
    → ((slot : ℕ) → IsOpenAt before poi slot → is_outcome_of slot next ≡ false)
    → (is_some (as_intent next) ≡ true → is_poi poi (option_map (λ (intent : TheIntent). intent.poi) (as_intent next)) ≡ true → ⊥)
    → (slot : ℕ) → (open_slot (before ++ next ∷ []) poi ≡ Some slot) ↔ IsOpenAt (before ++ next ∷ []) poi slot
still_open before next poi are same none other slot = (
  λ e. let opened = (are poi slot).0 (sym same ∙ e) in stays_open before next poi slot (none slot opened) opened,
  λ opened. same ∙ elim (open_cases before next poi slot opened) [
    | inl lt ↦ (are poi slot).1 (was_open before next poi slot lt opened).0
    | inr here ↦ absurd (other here.1 here.2)
  ],
)

open_step : (before : List Record) (next : Record) → AreOpenSlots before → IsRecord next → IsTrue (fits_beside_key before next) → AreOpenSlots (before ++ next ∷ [])
open_step before (Settled settled) are within fitting poi slot =
    still_open before (Settled settled) poi are (unresolved_push before (Settled settled) poi ∙ by_test (same_text poi settled.poi)) (λ slot opened. refl) (λ some. absurd (cc)) slot
  where
    by_test : (b : Bool) → (if b then account_with (length before) (Settled settled) (account_of before poi) else account_of before poi).unresolved ≡ open_slot before poi
    by_test true = refl
    by_test false = refl
open_step before (Outcome outcome) are within fitting poi slot = by_test (is_poi poi (poi_at before outcome.slot)) refl
  where
    opened_at : is_open before outcome.slot ≡ true
    opened_at = open_parts before outcome fitting

    by_test : (b : Bool) → is_poi poi (poi_at before outcome.slot) ≡ b → (open_slot (before ++ Outcome outcome ∷ []) poi ≡ Some slot) ↔ IsOpenAt (before ++ Outcome outcome ∷ []) poi slot
    by_test true here =
        let closed : open_slot (before ++ Outcome outcome ∷ []) poi ≡ None =
        unresolved_push before (Outcome outcome) poi ∙ ap (λ b. (if b then account_with (length before) (Outcome outcome) (account_of before poi) else account_of before poi).unresolved) here in (
          λ e. let clash : None ≡ Some slot = sym closed ∙ e in absurd (cc),
          λ opened. elim (open_cases before (Outcome outcome) poi slot opened) [
            | inl lt ↦
                let was = was_open before (Outcome outcome) poi slot lt opened in
                let same : outcome.slot ≡ slot = same_Some outcome.slot slot (sym ((are poi outcome.slot).1 (opened_at, here)) ∙ (are poi slot).1 was.0) in
                let apart : eqb outcome.slot slot ≡ false = was.1 in
                absurd (grind (arith, nat_tests))
            | inr last ↦ let clash : false ≡ true = last.1 in absurd (cc)
          ],
        )
    by_test false here =
        still_open before (Outcome outcome) poi are
        (unresolved_push before (Outcome outcome) poi ∙ ap (λ b. (if b then account_with (length before) (Outcome outcome) (account_of before poi) else account_of before poi).unresolved) here)
        (λ other opened. by_slot other opened (eqb outcome.slot other) refl) (λ some. let clash : false ≡ true = some in absurd (cc)) slot
      where
        by_slot : (other : ℕ) → IsOpenAt before poi other → (b : Bool) → eqb outcome.slot other ≡ b → eqb outcome.slot other ≡ false
        by_slot other opened false apart = apart
        by_slot other opened true tie =
            let same : other ≡ outcome.slot = grind (arith, nat_tests) in
            let clash : true ≡ false = sym opened.1 ∙ ap (λ s. is_poi poi (poi_at before s)) same ∙ here in
            cc
open_step before (Intent intent) are within fitting poi slot = by_test (same_text poi intent.poi) refl
  where
    busy : IsTrue (fits_beside_key before (Intent intent)) → open_slot before intent.poi ≡ Some slot → ⊥
    busy fitting found =
        let free = not (is_some (open_slot before intent.poi)) in
        let rises = nat_le (last_number_of before intent.poi) intent.before in
        let original = has_fitting_original before intent intent.what in
        let parts = both free rises (both (free && rises) original fitting).0 in
        let none : is_some (open_slot before intent.poi) ≡ false = not_true (is_some (open_slot before intent.poi)) parts.0 in
        let clash : true ≡ false = sym (ap is_some found) ∙ none in
        cc

    by_test : (b : Bool) → same_text poi intent.poi ≡ b → (open_slot (before ++ Intent intent ∷ []) poi ≡ Some slot) ↔ IsOpenAt (before ++ Intent intent ∷ []) poi slot
    by_test true here =
        let opens : open_slot (before ++ Intent intent ∷ []) poi ≡ Some (length before) =
        unresolved_push before (Intent intent) poi ∙ ap (λ b. (if b then account_with (length before) (Intent intent) (account_of before poi) else account_of before poi).unresolved) here in (
          λ e.
              let at : length before ≡ slot = same_Some (length before) slot (sym opens ∙ e) in
              subst (IsOpenAt (before ++ Intent intent ∷ []) poi) at (open_last before (Intent intent), ap (is_poi poi) (poi_last before (Intent intent) poi) ∙ here),
          λ opened. elim (open_cases before (Intent intent) poi slot opened) [
            | inl lt ↦
                let was = was_open before (Intent intent) poi slot lt opened in
                let found : open_slot before intent.poi ≡ Some slot = subst (λ p. open_slot before p ≡ Some slot) (same_text-is poi intent.poi here) ((are poi slot).1 was.0) in
                absurd (busy fitting found)
            | inr last ↦ opens ∙ ap Some (sym last.0)
          ],
        )
    by_test false here =
        still_open before (Intent intent) poi are
        (unresolved_push before (Intent intent) poi ∙ ap (λ b. (if b then account_with (length before) (Intent intent) (account_of before poi) else account_of before poi).unresolved) here)
        (λ other opened. refl) (λ some same. let clash : true ≡ false = sym same ∙ here in absurd (cc)) slot

none_open : AreOpenSlots []
unfolding history
none_open poi slot = (λ e. absurd (cc), λ opened. let clash : false ≡ true = opened.0 in absurd (cc))

pub open_slot_is : (records : List Record) → AreFoldedBesideKeys records → (poi : List ℕ) (slot : ℕ) → (open_slot records poi ≡ Some slot) ↔ IsOpenAt records poi slot
open_slot_is = along AreOpenSlots open_step none_open
