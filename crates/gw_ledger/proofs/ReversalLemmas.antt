-- A payment is reversed at most once: of its reversals at most one is not declined.
use Rattle.std.proofs.Common.{◌≡◌, ◌∙◌, ℕ, zero, suc, ◌+◌, ◌<◌, eqb, Bool, true, false, ◌&&◌, ◌||◌, not, cond, List, [], ◌∷◌, ◌++◌, length, Option, Some, None, is_some, IsTrue, slice_get, ◌⊎◌, inl, inr, refl, sym, ap, subst, arith}
use Rattle.std.specs.Prelude.{◌↔◌, if◌then◌else◌, nat_le, option_and_then, option_map}
use Rattle.std.proofs.lemmas.Bool.{and_parts}
use Rattle.std.proofs.lemmas.Bool.Decides.{nat_tests}
use Rattle.std.proofs.lemmas.List.{length-append}
use Rattle.std.proofs.lemmas.List.Elements.{All-nil}
use Rattle.std.proofs.lemmas.Option.{same_Some, slice_get_within}
use Rattle.gw_base.specs.declared.currency.Currency.{Currency}
use Rattle.gw_base.specs.declared.currency.Currency.TheVariants.{Eur, Chf, Gbp, Usd, Dkk, Sek, Nok, Pln, Czk}
use Rattle.jrn_record.specs.Limits.{IsIntent, IsRecord, HasOriginal as HasOriginalSlot}
use Rattle.jrn_record.specs.declared.records.Deal.{Deal}
use Rattle.jrn_record.specs.declared.records.Deal.TheVariants.{Payment, Reversal}
use Rattle.jrn_record.specs.declared.records.Intent.{Intent as TheIntent}
use Rattle.jrn_record.specs.declared.records.Outcome.{Outcome as TheOutcome}
use Rattle.jrn_record.specs.declared.records.Record.{Record}
use Rattle.jrn_record.specs.declared.records.Record.TheVariants.{Intent, Outcome, Settled}
use Rattle.gw_ledger.specs.declared.entry.Entry.{Entry as TheEntry}
use Rattle.gw_ledger.specs.Accounts.{is_poi, is_settled, last_number_of, open_slot}
use Rattle.gw_ledger.specs.Fold.{AreFoldedBesideKeys, fits_beside_key, has_fitting_original, is_approved_payment, is_approved_with, may_reverse}
use Rattle.gw_ledger.specs.History.{history, same_text}
use Rattle.gw_ledger.specs.Laws.{IsOriginalOf, poi_at}
use Rattle.gw_ledger.specs.Reversals.{HasPaidOriginal, IsDeclined, IsReversalOf, IsReversedAt}
use Rattle.gw_ledger.specs.Slots.{as_intent, as_outcome, is_reversible, ended_at, entry_at, entry_with, intent_at, is_open, is_original, is_outcome_of, is_reversible_intent, is_reversal_of, is_reversed, outcome_at, reversed_in, reverses}
use Rattle.gw_ledger.specs.Sums.{ordinal, same_currency}
use Rattle.gw_ledger.proofs.FitLemmas.{entry_parts}
use Rattle.gw_ledger.proofs.FoldLemmas.{along, intent_inside, open_has_intent, open_parts}
use Rattle.gw_ledger.proofs.HistoryLemmas.{history-push}
use Rattle.gw_ledger.proofs.OpenLemmas.{open_slot_is}
use Rattle.gw_ledger.proofs.RecordLemmas.{beside_push, get_before, get_last, get_push, intent_push}
use Rattle.gw_ledger.proofs.TieLemmas.{eqb_above, eqb_same, same_text-is, same_text-itself}

-- what holds of no records, and stays with each that fits those before it, holds of the records of a ledger
module _ (P : List Record → Type 0)
    (step : (before : List Record) (next : Record) → AreFoldedBesideKeys before → P before → IsRecord next → IsTrue (fits_beside_key before next) → P (before ++ next ∷ [])) where
  along_folded : P [] → (records : List Record) → AreFoldedBesideKeys records → P records
  along_folded none records folded =
      (along (λ past. AreFoldedBesideKeys past × P past) (λ before next both within fitting.
      (beside_push before next both.0 within fitting, step before next both.0 both.1 within fitting)) (record { within = All-nil IsRecord; fit = tt }, none) records folded).1

not_true : (b : Bool) → not b ≡ true → b ≡ false
not_true true e = cc
not_true false e = refl

-- ---- the Outcome of a slot

module _ (before : List Record) (next : Record) where
  ended_push : (slot : ℕ) → slot < length before
      → ended_at (before ++ next ∷ []) slot ≡ (if is_outcome_of slot next then Some (length before) else ended_at before slot)
  ended_push slot lt = rw (history-push before next, eqb_above (length before) slot lt) refl

  intent_stays : (slot : ℕ) (intent : TheIntent) → intent_at before slot ≡ Some intent → intent_at (before ++ next ∷ []) slot ≡ Some intent
  intent_stays slot intent found =
      ap (option_and_then as_intent) (get_before before (next ∷ []) slot (intent_inside before slot (ap is_some found))) ∙ found

-- a slot that has its Outcome gets no other
ended_stays : (before : List Record) (next : Record) → IsTrue (fits_beside_key before next) → (slot at : ℕ) → slot < length before
    → ended_at before slot ≡ Some at → ended_at (before ++ next ∷ []) slot ≡ Some at
ended_stays before next fitting slot at lt ended = ended_push before next slot lt ∙ by_kind next fitting
  where
    by_test : (outcome : TheOutcome) → is_open before outcome.slot ≡ true → (b : Bool) → eqb outcome.slot slot ≡ b
        → (if b then Some (length before) else ended_at before slot) ≡ Some at
    by_test outcome opened true tie =
        let here : outcome.slot ≡ slot = grind (arith, nat_tests) in
        let free : is_some (ended_at before slot) ≡ false =
        not_true (is_some (ended_at before slot)) (and_parts (is_some (intent_at before slot)) (not (is_some (ended_at before slot))) (ap (is_open before) (sym here) ∙ opened)).1 in
        let clash : true ≡ false = sym (ap is_some ended) ∙ free in
        cc
    by_test outcome opened false apart = ended

    by_kind : (next : Record) → IsTrue (fits_beside_key before next) → (if is_outcome_of slot next then Some (length before) else ended_at before slot) ≡ Some at
    by_kind (Intent intent) fitting = ended
    by_kind (Outcome outcome) fitting = by_test outcome (open_parts before outcome fitting) (eqb outcome.slot slot) refl
    by_kind (Settled settled) fitting = ended

-- each Outcome is that of its slot, which has an Intent
abbrev OutcomesEnd : List Record → Type 0
OutcomesEnd records = (at : ℕ) (outcome : TheOutcome) → slice_get records at ≡ Some (Outcome outcome)
    → (ended_at records outcome.slot ≡ Some at) × (outcome.slot < length records)

outcomes_step : (before : List Record) (next : Record) → AreFoldedBesideKeys before → OutcomesEnd before → IsRecord next → IsTrue (fits_beside_key before next) → OutcomesEnd (before ++ next ∷ [])
outcomes_step before next folded ends within fitting at outcome found = elim (get_push before next at (Outcome outcome) found) [
  | inl earlier ↦
      let was = ends at outcome earlier.1 in
      (ended_stays before next fitting outcome.slot at was.1 was.0, omega (arith, was.1, longer))
  | inr last ↦
      let opened : is_open before outcome.slot ≡ true = open_parts before outcome (subst (λ n. IsTrue (fits_beside_key before n)) last.1 fitting) in
      let inside : outcome.slot < length before = intent_inside before outcome.slot (open_has_intent before outcome.slot opened) in
      let own : is_outcome_of outcome.slot next ≡ true = ap (is_outcome_of outcome.slot) last.1 ∙ eqb_same outcome.slot in (
        ended_push before next outcome.slot inside ∙ ap (λ b. if b then Some (length before) else ended_at before outcome.slot) own ∙ ap Some (sym last.0),
        omega (arith, inside, longer),
      )
]
  where
    longer : length (before ++ next ∷ []) ≡ length before + 1
    longer = length-append before (next ∷ [])

no_outcomes : OutcomesEnd []
no_outcomes at outcome found = cc

outcome_ends : (records : List Record) → AreFoldedBesideKeys records → OutcomesEnd records
outcome_ends = along_folded OutcomesEnd outcomes_step no_outcomes

-- the Outcome that a slot has
record HasOutcome (records : List Record) (slot at : ℕ) : Type 0 where
  outcome : TheOutcome
  found : slice_get records at ≡ Some (Outcome outcome)
  own : outcome.slot ≡ slot

abbrev EndsHaveOutcomes : List Record → Type 0
EndsHaveOutcomes records = (slot at : ℕ) → ended_at records slot ≡ Some at → HasOutcome records slot at

is_outcome : (slot : ℕ) (next : Record) → is_outcome_of slot next ≡ true → (outcome : TheOutcome) × (next ≡ Outcome outcome) × (outcome.slot ≡ slot)
is_outcome slot (Intent intent) test = cc
is_outcome slot (Outcome outcome) test = (outcome, refl, grind (arith, nat_tests))
is_outcome slot (Settled settled) test = cc

ends_step : (before : List Record) (next : Record) → AreFoldedBesideKeys before → EndsHaveOutcomes before → IsRecord next → IsTrue (fits_beside_key before next) → EndsHaveOutcomes (before ++ next ∷ [])
ends_step before next folded ends within fitting slot at found = by_tests (eqb (length before) slot) (is_outcome_of slot next) refl (sym (rw (history-push before next) refl) ∙ found)
  where
    by_tests : (here ended : Bool) → is_outcome_of slot next ≡ ended
        → cond here None (cond ended (Some (length before)) (ended_at before slot)) ≡ Some at → HasOutcome (before ++ next ∷ []) slot at
    by_tests true ended test same = cc
    by_tests false true test same =
        let outcome = is_outcome slot next test in
        record {
          outcome = outcome.0;
          found = subst (λ n. slice_get (before ++ next ∷ []) n ≡ Some (Outcome outcome.0)) (same_Some (length before) at same) (get_last before next ∙ ap Some outcome.1);
          own = outcome.2;
        }
    by_tests false false test same =
        let earlier = ends slot at same in
        record {
          outcome = earlier.outcome;
          found = get_before before (next ∷ []) at (slice_get_within before at (Outcome earlier.outcome) earlier.found) ∙ earlier.found;
          own = earlier.own;
        }

no_ends : EndsHaveOutcomes []
unfolding history
no_ends slot at found = cc

ended_has : (records : List Record) → AreFoldedBesideKeys records → EndsHaveOutcomes records
ended_has = along_folded EndsHaveOutcomes ends_step no_ends

-- ---- the original of a reversal

-- the slot has this Intent, and this Outcome
record IsEnded (records : List Record) (slot : ℕ) (intent : TheIntent) (outcome : TheOutcome) : Type 0 where
  at : ℕ
  asked : intent_at records slot ≡ Some intent
  ended : ended_at records slot ≡ Some at
  found : outcome_at records at ≡ Some outcome

ended_entry : (records : List Record) (slot : ℕ) (intent : TheIntent) (outcome : TheOutcome) → IsEnded records slot intent outcome
    → entry_at records slot ≡ Some (record { slot = slot; intent = intent; result = Some outcome })
ended_entry records slot intent outcome is = rw (is.asked, is.ended, is.found) refl

entry_ended : (records : List Record) (slot : ℕ) (entry : TheEntry) (outcome : TheOutcome) → entry_at records slot ≡ Some entry → entry.result ≡ Some outcome
    → IsEnded records slot entry.intent outcome
entry_ended records slot entry outcome found result = by_intent (intent_at records slot) (ended_at records slot) refl refl found
  where
    by_intent : (asked : Option TheIntent) (ended : Option ℕ) → intent_at records slot ≡ asked → ended_at records slot ≡ ended
        → option_map (entry_with records slot ended) asked ≡ Some entry → IsEnded records slot entry.intent outcome
    by_intent None ended asked is same = cc
    by_intent (Some intent) None asked is same =
        let one : entry_with records slot None intent ≡ entry = same_Some _ _ same in
        let none : None ≡ Some outcome = ap (λ (e : TheEntry). e.result) one ∙ result in
        cc
    by_intent (Some intent) (Some at) asked is same =
        let one : entry_with records slot (Some at) intent ≡ entry = same_Some _ _ same in
        record {
          at = at;
          asked = asked ∙ ap (λ (e : TheEntry). Some e.intent) one;
          ended = is;
          found = ap (λ (e : TheEntry). e.result) one ∙ result;
        }

outcome_inside : (records : List Record) (at : ℕ) (outcome : TheOutcome) → outcome_at records at ≡ Some outcome → at < length records
outcome_inside [] at outcome found = cc
outcome_inside (first ∷ records) zero outcome found = omega arith
outcome_inside (first ∷ records) (suc at) outcome found = omega (arith, outcome_inside records at outcome found)

is_ended_stays : (before : List Record) (next : Record) → IsTrue (fits_beside_key before next) → (slot : ℕ) (intent : TheIntent) (outcome : TheOutcome)
    → IsEnded before slot intent outcome → IsEnded (before ++ next ∷ []) slot intent outcome
is_ended_stays before next fitting slot intent outcome is = record {
  at = is.at;
  asked = intent_stays before next slot intent is.asked;
  ended = ended_stays before next fitting slot is.at (intent_inside before slot (ap is_some is.asked)) is.ended;
  found = ap (option_and_then as_outcome) (get_before before (next ∷ []) is.at (outcome_inside before is.at outcome is.found)) ∙ is.found;
}

-- an approved payment at this slot is the original of an Intent
record IsOriginalAt (records : List Record) (payment : ℕ) (intent : TheIntent) : Type 0 where
  asked : TheIntent
  approval : TheOutcome
  ended : IsEnded records payment asked approval
  is_original : IsOriginalOf intent (record { slot = payment; intent = asked; result = Some approval })

-- the currencies, by their ordinals
abbrev currencies : List Currency
currencies = Eur ∷ Chf ∷ Gbp ∷ Usd ∷ Dkk ∷ Sek ∷ Nok ∷ Pln ∷ Czk ∷ []

at_ordinal : (currency : Currency) → slice_get currencies (ordinal currency) ≡ Some currency
at_ordinal Eur = refl
at_ordinal Chf = refl
at_ordinal Gbp = refl
at_ordinal Usd = refl
at_ordinal Dkk = refl
at_ordinal Sek = refl
at_ordinal Nok = refl
at_ordinal Pln = refl
at_ordinal Czk = refl

same_currency-is : (a b : Currency) → same_currency a b ≡ true → a ≡ b
same_currency-is a b tie =
    let same : ordinal a ≡ ordinal b = grind (arith, nat_tests) in
    same_Some a b (sym (at_ordinal a) ∙ ap (slice_get currencies) same ∙ at_ordinal b)

is_payment_deal : (what : Deal) → is_reversible what ≡ true → what ≡ Payment
is_payment_deal Payment asks = refl
is_payment_deal Reversal asks = cc

-- what may be reversed is an approved payment
module _ (records : List Record) (intent : TheIntent) (payment : ℕ) where
  original_of : (entry : Option TheEntry) → entry_at records payment ≡ entry → is_approved_payment intent.poi intent.currency intent.amount entry ≡ true → IsOriginalAt records payment intent
  original_of None is passes = cc
  original_of (Some entry) is passes =
      let first = and_parts (is_reversible entry.intent.what && same_text intent.poi entry.intent.poi && same_currency intent.currency entry.intent.currency) (is_approved_with intent.amount entry.result) passes in
      let second = and_parts (is_reversible entry.intent.what && same_text intent.poi entry.intent.poi) (same_currency intent.currency entry.intent.currency) first.0 in
      let third = and_parts (is_reversible entry.intent.what) (same_text intent.poi entry.intent.poi) second.0 in
      by_result entry.result refl first.1 third.0 third.1 second.1
    where
      by_result : (result : Option TheOutcome) → entry.result ≡ result → is_approved_with intent.amount result ≡ true → is_reversible entry.intent.what ≡ true
          → same_text intent.poi entry.intent.poi ≡ true → same_currency intent.currency entry.intent.currency ≡ true → IsOriginalAt records payment intent
      by_result None result with_amount what poi currency = cc
      by_result (Some outcome) result with_amount what poi currency =
          let both = and_parts outcome.approved (eqb outcome.amount intent.amount) with_amount in
          let tie : eqb outcome.amount intent.amount ≡ true = both.1 in
          let amount : outcome.amount ≡ intent.amount = grind (arith, nat_tests) in
          record {
            asked = entry.intent;
            approval = outcome;
            ended = entry_ended records payment entry outcome is result;
            is_original = record {
              what = is_payment_deal entry.intent.what what;
              poi = sym (same_text-is intent.poi entry.intent.poi poi);
              currency = sym (same_currency-is intent.currency entry.intent.currency currency);
              approved = (both.0, amount);
            };
          }

  may_parts : may_reverse records intent (Some payment) ≡ true → IsOriginalAt records payment intent × (is_reversed records payment ≡ false)
  may_parts may =
      let first = and_parts (is_approved_payment intent.poi intent.currency intent.amount (entry_at records payment) && not (is_reversed records payment)) (not (is_settled records payment)) may in
      let second = and_parts (is_approved_payment intent.poi intent.currency intent.amount (entry_at records payment)) (not (is_reversed records payment)) first.0 in
      (original_of (entry_at records payment) refl second.0, not_true (is_reversed records payment) second.1)

-- a reversal that fits: its terminal has no open slot, and its original may be reversed
record FitsAsReversal (before : List Record) (payment : ℕ) (intent : TheIntent) : Type 0 where
  what : intent.what ≡ Reversal
  free : open_slot before intent.poi ≡ None
  original : IsOriginalAt before payment intent
  not_reversed : is_reversed before payment ≡ false

none_of : {X : Type 0} (x : Option X) → is_some x ≡ false → x ≡ None
none_of None e = refl
none_of (Some x) e = cc

fits_as_reversal : (before : List Record) (intent : TheIntent) (payment : ℕ) → IsIntent intent → IsTrue (fits_beside_key before (Intent intent)) → intent.original ≡ Some payment
    → FitsAsReversal before payment intent
fits_as_reversal before intent payment within fitting refers =
    let free = not (is_some (open_slot before intent.poi)) in
    let rises = nat_le (last_number_of before intent.poi) intent.before in
    let parts = and_parts (free && rises) (has_fitting_original before intent intent.what) fitting in
    let none : is_some (open_slot before intent.poi) ≡ false = not_true (is_some (open_slot before intent.poi)) (and_parts free rises parts.0).0 in
    let what : intent.what ≡ Reversal = is_reversal intent.what (subst (HasOriginalSlot intent.what) refers within.original) in
    let may : may_reverse before intent (Some payment) ≡ true = ap (may_reverse before intent) (sym refers) ∙ ap (has_fitting_original before intent) (sym what) ∙ parts.1 in
    let both = may_parts before intent payment may in
    record { what = what; free = none_of (open_slot before intent.poi) none; original = both.0; not_reversed = both.1 }
  where
    is_reversal : (what : Deal) → HasOriginalSlot what (Some payment) → what ≡ Reversal
    is_reversal Payment has = absurd has
    is_reversal Reversal has = refl

original_stays : (before : List Record) (next : Record) → IsTrue (fits_beside_key before next) → (payment : ℕ) (intent : TheIntent)
    → IsOriginalAt before payment intent → IsOriginalAt (before ++ next ∷ []) payment intent
original_stays before next fitting payment intent has = record {
  asked = has.asked;
  approval = has.approval;
  ended = is_ended_stays before next fitting payment has.asked has.approval has.ended;
  is_original = has.is_original;
}

-- each reversal's original is an earlier approved payment
abbrev HaveOriginals : List Record → Type 0
HaveOriginals records = (slot : ℕ) (intent : TheIntent) (payment : ℕ) → intent_at records slot ≡ Some intent → intent.original ≡ Some payment
    → IsOriginalAt records payment intent × (payment < slot) × (intent.what ≡ Reversal)

-- the next record is this Intent
intent_is : (next : Record) (intent : TheIntent) → as_intent next ≡ Some intent → next ≡ Intent intent
intent_is (Intent other) intent same = ap Intent (same_Some other intent same)
intent_is (Outcome outcome) intent same = cc
intent_is (Settled settled) intent same = cc

next_fits : (before : List Record) (next : Record) (intent : TheIntent) (payment : ℕ) → IsRecord next → IsTrue (fits_beside_key before next) → as_intent next ≡ Some intent → intent.original ≡ Some payment
    → FitsAsReversal before payment intent
next_fits before next intent payment within fitting same refers =
    let is = intent_is next intent same in
    fits_as_reversal before intent payment (subst IsRecord is within) (subst (λ n. IsTrue (fits_beside_key before n)) is fitting) refers

originals_step : (before : List Record) (next : Record) → AreFoldedBesideKeys before → HaveOriginals before → IsRecord next → IsTrue (fits_beside_key before next) → HaveOriginals (before ++ next ∷ [])
originals_step before next folded have within fitting slot intent payment found refers = elim (intent_push before next slot intent found) [
  | inl earlier ↦
      let was = have slot intent payment earlier.1 refers in
      (original_stays before next fitting payment intent was.0, was.1, was.2)
  | inr last ↦
      let is = next_fits before next intent payment within fitting last.1 refers in
      let inside : payment < length before = intent_inside before payment (ap is_some is.original.ended.asked) in
      (original_stays before next fitting payment intent is.original, omega (arith, inside, last.0), is.what)
]

no_originals : HaveOriginals []
no_originals slot intent payment found refers = cc

have_originals : (records : List Record) → AreFoldedBesideKeys records → HaveOriginals records
have_originals = along_folded HaveOriginals originals_step no_originals

-- ---- what counts as reversed

-- an approved reversal marks its original
abbrev ApprovedMark : List Record → Type 0
ApprovedMark records = (slot payment : ℕ) (intent : TheIntent) (outcome : TheOutcome) → IsEnded records slot intent outcome → intent.original ≡ Some payment → outcome.approved ≡ true
    → reversed_in payment (history records) ≡ true

-- no Outcome is at the last slot, which has none
last_not_ended : (before : List Record) (next : Record) (at : ℕ) → ended_at (before ++ next ∷ []) (length before) ≡ Some at → ⊥
last_not_ended before next at ended =
    let none : ended_at (before ++ next ∷ []) (length before) ≡ None = rw (history-push before next, eqb_same (length before)) refl in
    let clash : None ≡ Some at = sym none ∙ ended in
    cc

or_right : (a b : Bool) → b ≡ true → (a || b) ≡ true
or_right true b e = refl
or_right false b e = e

or_left : (a b : Bool) → a ≡ true → (a || b) ≡ true
or_left true b e = refl
or_left false b e = cc

mark_step : (before : List Record) (next : Record) → AreFoldedBesideKeys before → ApprovedMark before → IsRecord next → IsTrue (fits_beside_key before next) → ApprovedMark (before ++ next ∷ [])
mark_step before next folded marks within fitting slot payment intent outcome is refers approved = elim (intent_push before next slot intent is.asked) [
  | inl earlier ↦
      let below : payment < slot = (have_originals before folded slot intent payment earlier.1 refers).1 in
      let apart : eqb (length before) payment ≡ false = eqb_above (length before) payment (omega (arith, below, earlier.0)) in
      let pushed : reversed_in payment (history (before ++ next ∷ [])) ≡ (reverses payment before next || reversed_in payment (history before)) = rw (history-push before next, apart) refl in
      pushed ∙ by_test (is_outcome_of slot next) refl earlier.0 earlier.1
  | inr last ↦ absurd (last_not_ended before next is.at (ap (ended_at (before ++ next ∷ [])) (sym last.0) ∙ is.ended))
]
  where
    by_test : (b : Bool) → is_outcome_of slot next ≡ b → slot < length before → intent_at before slot ≡ Some intent → (reverses payment before next || reversed_in payment (history before)) ≡ true
    by_test true own lt asked =
        let new = is_outcome slot next own in
        let ended : ended_at (before ++ next ∷ []) slot ≡ Some (length before) = ended_push before next slot lt ∙ ap (λ b. if b then Some (length before) else ended_at before slot) own in
        let here : length before ≡ is.at = same_Some (length before) is.at (sym ended ∙ is.ended) in
        let last : outcome_at (before ++ next ∷ []) (length before) ≡ Some new.0 = ap (option_and_then as_outcome) (get_last before next) ∙ ap as_outcome new.1 in
        let one : new.0 ≡ outcome = same_Some new.0 outcome (sym last ∙ ap (outcome_at (before ++ next ∷ [])) here ∙ is.found) in
        let own_slot : outcome.slot ≡ slot = ap (λ (o : TheOutcome). o.slot) (sym one) ∙ new.2 in
        let reversal : is_reversal_of payment (intent_at before outcome.slot) ≡ true =
        ap (λ s. is_reversal_of payment (intent_at before s)) own_slot ∙ ap (is_reversal_of payment) asked ∙ ap (is_original payment) refers ∙ eqb_same payment in
        let both : reverses payment before (Outcome outcome) ≡ true = rw (approved, reversal) refl in
        or_left (reverses payment before next) (reversed_in payment (history before)) (ap (reverses payment before) (new.1 ∙ ap Outcome one) ∙ both)
    by_test false other lt asked =
        let ended : ended_at before slot ≡ Some is.at = sym (ended_push before next slot lt ∙ ap (λ b. if b then Some (length before) else ended_at before slot) other) ∙ is.ended in
        let was = ended_has before folded slot is.at ended in
        let inside : is.at < length before = slice_get_within before is.at (Outcome was.outcome) was.found in
        let found : outcome_at before is.at ≡ Some outcome = sym (ap (option_and_then as_outcome) (get_before before (next ∷ []) is.at inside)) ∙ is.found in
        or_right (reverses payment before next) (reversed_in payment (history before))
        (marks slot payment intent outcome (record { at = is.at; asked = asked; ended = ended; found = found }) refers approved)

no_marks : ApprovedMark []
no_marks slot payment intent outcome is refers approved = absurd (none is.asked)
  where
    none : intent_at [] slot ≡ Some intent → ⊥
    none asked = cc

approved_mark : (records : List Record) → AreFoldedBesideKeys records → ApprovedMark records
approved_mark = along_folded ApprovedMark mark_step no_marks

-- and what is marked has an approved reversal
abbrev MarkedByApproval : List Record → Type 0
MarkedByApproval records = (payment : ℕ) → reversed_in payment (history records) ≡ true → (at : ℕ) × IsReversedAt records payment at

reversed_stays : (before : List Record) (next : Record) (payment at : ℕ) → IsReversedAt before payment at → IsReversedAt (before ++ next ∷ []) payment at
reversed_stays before next payment at is = record {
  outcome = is.outcome;
  intent = is.intent;
  found = get_before before (next ∷ []) at (slice_get_within before at (Outcome is.outcome) is.found) ∙ is.found;
  approved = is.approved;
  asked = intent_stays before next is.outcome.slot is.intent is.asked;
  what = is.what;
  original = is.original;
}

-- the Outcome that reverses a payment is that of a reversal of it
reverses_is : (before : List Record) → AreFoldedBesideKeys before → (next : Record) (payment : ℕ) → reverses payment before next ≡ true
    → IsReversedAt (before ++ next ∷ []) payment (length before)
reverses_is before folded (Intent intent) payment test = cc
reverses_is before folded (Settled settled) payment test = cc
reverses_is before folded (Outcome outcome) payment test =
    let both = and_parts outcome.approved (is_reversal_of payment (intent_at before outcome.slot)) test in
    by_intent (intent_at before outcome.slot) refl both.0 both.1
  where
    by_original : (intent : TheIntent) (original : Option ℕ) → intent.original ≡ original → intent_at before outcome.slot ≡ Some intent → outcome.approved ≡ true → is_original payment original ≡ true
        → IsReversedAt (before ++ Outcome outcome ∷ []) payment (length before)
    by_original intent None is asked approved test = cc
    by_original intent (Some original) is asked approved test =
        let same : original ≡ payment = grind (arith, nat_tests) in
        record {
          outcome = outcome;
          intent = intent;
          found = get_last before (Outcome outcome);
          approved = approved;
          asked = intent_stays before (Outcome outcome) outcome.slot intent asked;
          what = (have_originals before folded outcome.slot intent original asked is).2;
          original = is ∙ ap Some same;
        }

    by_intent : (asked : Option TheIntent) → intent_at before outcome.slot ≡ asked → outcome.approved ≡ true → is_reversal_of payment asked ≡ true
        → IsReversedAt (before ++ Outcome outcome ∷ []) payment (length before)
    by_intent None is approved test = cc
    by_intent (Some intent) is approved test = by_original intent intent.original refl is approved test

marked_step : (before : List Record) (next : Record) → AreFoldedBesideKeys before → MarkedByApproval before → IsRecord next → IsTrue (fits_beside_key before next) → MarkedByApproval (before ++ next ∷ [])
marked_step before next folded marked within fitting payment test =
    by_tests (eqb (length before) payment) (reverses payment before next) refl (sym (ap (reversed_in payment) (history-push before next)) ∙ test)
  where
    by_tests : (here now : Bool) → reverses payment before next ≡ now → cond here false (now || reversed_in payment (history before)) ≡ true
        → (at : ℕ) × IsReversedAt (before ++ next ∷ []) payment at
    by_tests true now is same = cc
    by_tests false true is same = (length before, reverses_is before folded next payment is)
    by_tests false false is same = let was = marked payment same in (was.0, reversed_stays before next payment was.0 was.1)

no_marked : MarkedByApproval []
unfolding history
no_marked payment test = cc

marked_by : (records : List Record) → AreFoldedBesideKeys records → MarkedByApproval records
marked_by = along_folded MarkedByApproval marked_step no_marked

-- ---- at most one reversal of a payment isn't declined

-- where the slot has an Outcome, that approves
abbrev IsNotDeclined : List Record → ℕ → Type 0
IsNotDeclined records slot = (at : ℕ) (outcome : TheOutcome) → ended_at records slot ≡ Some at → outcome_at records at ≡ Some outcome → outcome.approved ≡ true

abbrev AtMostOne : List Record → Type 0
AtMostOne records = (payment first second : ℕ) (a b : TheIntent) → intent_at records first ≡ Some a → a.original ≡ Some payment
    → intent_at records second ≡ Some b → b.original ≡ Some payment → IsNotDeclined records first → IsNotDeclined records second → first ≡ second

not_declined_before : (before : List Record) (next : Record) → IsTrue (fits_beside_key before next) → (slot : ℕ) → slot < length before
    → IsNotDeclined (before ++ next ∷ []) slot → IsNotDeclined before slot
not_declined_before before next fitting slot lt holds at outcome ended found =
    holds at outcome (ended_stays before next fitting slot at lt ended)
    (ap (option_and_then as_outcome) (get_before before (next ∷ []) at (outcome_inside before at outcome found)) ∙ found)

-- where a reversal fits, each earlier one of its original is declined
others_declined : (before : List Record) → AreFoldedBesideKeys before → (payment slot : ℕ) (asked next : TheIntent) → intent_at before slot ≡ Some asked → asked.original ≡ Some payment
    → FitsAsReversal before payment next → IsNotDeclined before slot → ⊥
others_declined before folded payment slot asked next found refers fits holds = by_ended (ended_at before slot) refl
  where
    by_ended : (ended : Option ℕ) → ended_at before slot ≡ ended → ⊥
    by_ended None is =
        let opened : is_open before slot ≡ true = rw (found, is) refl in
        let original = (have_originals before folded slot asked payment found refers).0 in
        let one : original.asked ≡ fits.original.asked = same_Some original.asked fits.original.asked (sym original.ended.asked ∙ fits.original.ended.asked) in
        let poi : asked.poi ≡ next.poi = sym original.is_original.poi ∙ ap (λ (i : TheIntent). i.poi) one ∙ fits.original.is_original.poi in
        let mine : is_poi next.poi (poi_at before slot) ≡ true = ap (λ o. is_poi next.poi (option_map (λ (i : TheIntent). i.poi) o)) found ∙ ap (same_text next.poi) poi ∙ same_text-itself next.poi in
        let busy : open_slot before next.poi ≡ Some slot = (open_slot_is before folded next.poi slot).1 (opened, mine) in
        let clash : None ≡ Some slot = sym fits.free ∙ busy in
        cc
    by_ended (Some at) is =
        let has = ended_has before folded slot at is in
        let outcome : outcome_at before at ≡ Some has.outcome = ap (option_and_then as_outcome) has.found in
        let marked : reversed_in payment (history before) ≡ true =
        approved_mark before folded slot payment asked has.outcome (record { at = at; asked = found; ended = is; found = outcome }) refers (holds at has.outcome is outcome) in
        let paid : is_reversible_intent (intent_at before payment) ≡ true = ap is_reversible_intent fits.original.ended.asked ∙ ap is_reversible fits.original.is_original.what in
        let reversed : is_reversed before payment ≡ true = rw (paid, marked) refl in
        let clash : true ≡ false = sym reversed ∙ fits.not_reversed in
        cc

one_step : (before : List Record) (next : Record) → AreFoldedBesideKeys before → AtMostOne before → IsRecord next → IsTrue (fits_beside_key before next) → AtMostOne (before ++ next ∷ [])
one_step before next folded one within fitting payment first second a b found_a refers_a found_b refers_b holds_a holds_b =
    by_places (intent_push before next first a found_a) (intent_push before next second b found_b)
  where
    by_places : ((first < length before) × (intent_at before first ≡ Some a)) ⊎ ((first ≡ length before) × (as_intent next ≡ Some a))
        → ((second < length before) × (intent_at before second ≡ Some b)) ⊎ ((second ≡ length before) × (as_intent next ≡ Some b)) → first ≡ second
    by_places (inl early) (inl earlier) =
        one payment first second a b early.1 refers_a earlier.1 refers_b
        (not_declined_before before next fitting first early.0 holds_a) (not_declined_before before next fitting second earlier.0 holds_b)
    by_places (inl early) (inr last) =
        absurd (others_declined before folded payment first a b early.1 refers_a (next_fits before next b payment within fitting last.1 refers_b) (not_declined_before before next fitting first early.0 holds_a))
    by_places (inr last) (inl early) =
        absurd (others_declined before folded payment second b a early.1 refers_b (next_fits before next a payment within fitting last.1 refers_a) (not_declined_before before next fitting second early.0 holds_b))
    by_places (inr last) (inr other) = last.0 ∙ sym other.0

none_yet : AtMostOne []
none_yet payment first second a b found_a refers_a found_b refers_b holds_a holds_b = cc

at_most_one : (records : List Record) → AreFoldedBesideKeys records → AtMostOne records
at_most_one = along_folded AtMostOne one_step none_yet

-- ---- the laws

module _ (records : List Record) (folded : AreFoldedBesideKeys records) (payment : ℕ) where
  -- an approved reversal's slot has this Outcome, and no other
  ended_by : (at : ℕ) (is : IsReversedAt records payment at) → ended_at records is.outcome.slot ≡ Some at
  ended_by at is = (outcome_ends records folded at is.outcome is.found).0

  not_declined_by : (at : ℕ) (is : IsReversedAt records payment at) → IsNotDeclined records is.outcome.slot
  not_declined_by at is other outcome ended found =
      let here : at ≡ other = same_Some at other (sym (ended_by at is) ∙ ended) in
      let one : is.outcome ≡ outcome = same_Some is.outcome outcome (sym (ap (option_and_then as_outcome) is.found) ∙ ap (outcome_at records) here ∙ found) in
      ap (λ (o : TheOutcome). o.approved) (sym one) ∙ is.approved

  pub reversed_once : (first second : ℕ) → IsReversedAt records payment first → IsReversedAt records payment second → first ≡ second
  reversed_once first second a b =
      let slots : a.outcome.slot ≡ b.outcome.slot =
      at_most_one records folded payment a.outcome.slot b.outcome.slot a.intent b.intent a.asked a.original b.asked b.original (not_declined_by first a) (not_declined_by second b) in
      same_Some first second (sym (ended_by first a) ∙ ap (ended_at records) slots ∙ ended_by second b)

  counts_as_reversed : (at : ℕ) → IsReversedAt records payment at → is_reversed records payment ≡ true
  counts_as_reversed at is =
      let original = (have_originals records folded is.outcome.slot is.intent payment is.asked is.original).0 in
      let paid : is_reversible_intent (intent_at records payment) ≡ true = ap is_reversible_intent original.ended.asked ∙ ap is_reversible original.is_original.what in
      let outcome : outcome_at records at ≡ Some is.outcome = ap (option_and_then as_outcome) is.found in
      let marked : reversed_in payment (history records) ≡ true =
      approved_mark records folded is.outcome.slot payment is.intent is.outcome (record { at = at; asked = is.asked; ended = ended_by at is; found = outcome }) is.original is.approved in
      rw (paid, marked) refl

  pub reversed_is : (is_reversed records payment ≡ true) ↔ ((at : ℕ) × IsReversedAt records payment at)
  reversed_is = (
    λ reversed. marked_by records folded payment (and_parts (is_reversible_intent (intent_at records payment)) (reversed_in payment (history records)) reversed).1,
    λ has. counts_as_reversed has.0 has.1,
  )

  -- an entry's result is the Outcome of its slot
  result_is : (slot : ℕ) (entry : TheEntry) (at : ℕ) (outcome : TheOutcome) → entry_at records slot ≡ Some entry → ended_at records slot ≡ Some at → outcome_at records at ≡ Some outcome
      → entry.result ≡ Some outcome
  result_is slot entry at outcome kept ended found =
      let whole = ended_entry records slot entry.intent outcome (record { at = at; asked = (entry_parts records slot entry kept).1; ended = ended; found = found }) in
      let same : record { slot = slot; intent = entry.intent; result = Some outcome } ≡ entry = same_Some _ _ (sym whole ∙ kept) in
      ap (λ (e : TheEntry). e.result) (sym same)

  pub others_are_declined : (first second : TheEntry) → IsReversalOf records payment first → IsReversalOf records payment second → (first.slot ≡ second.slot → ⊥)
      → IsDeclined first.result ⊎ IsDeclined second.result
  others_are_declined first second a b apart = elim (is_declined first.result) [
    | inl declined ↦ inl declined
    | inr kept ↦ elim (is_declined second.result) [
      | inl declined ↦ inr declined
      | inr also ↦ absurd (clash (approves first.result kept) (approves second.result also))
    ]
  ]
    where
      holds : (entry : TheEntry) → IsReversalOf records payment entry → ((outcome : TheOutcome) → entry.result ≡ Some outcome → outcome.approved ≡ true) → IsNotDeclined records entry.slot
      holds entry is approves at outcome ended found = approves outcome (result_is entry.slot entry at outcome is.kept ended found)

      clash : ((outcome : TheOutcome) → first.result ≡ Some outcome → outcome.approved ≡ true) → ((outcome : TheOutcome) → second.result ≡ Some outcome → outcome.approved ≡ true) → ⊥
      clash first_holds second_holds = apart (at_most_one records folded payment first.slot second.slot first.intent second.intent
          (entry_parts records first.slot first a.kept).1 a.original (entry_parts records second.slot second b.kept).1 b.original (holds first a first_holds) (holds second b second_holds))

      approves : (result : Option TheOutcome) → (IsDeclined result → ⊥) → (outcome : TheOutcome) → result ≡ Some outcome → outcome.approved ≡ true
      approves None not_declined outcome is = cc
      approves (Some other) not_declined outcome is = by_test outcome.approved refl
        where
          by_test : (b : Bool) → outcome.approved ≡ b → outcome.approved ≡ true
          by_test true same = same
          by_test false same = absurd (not_declined (ap (λ (o : TheOutcome). o.approved) (same_Some other outcome is) ∙ same))

      is_declined : (result : Option TheOutcome) → IsDeclined result ⊎ (IsDeclined result → ⊥)
      is_declined None = inr (λ none. none)
      is_declined (Some outcome) = by_test outcome.approved refl
        where
          by_test : (b : Bool) → outcome.approved ≡ b → (outcome.approved ≡ false) ⊎ (outcome.approved ≡ false → ⊥)
          by_test true is = inr (λ declined. let wrong : true ≡ false = sym is ∙ declined in cc)
          by_test false is = inl is

  pub original_is_payment : (entry : TheEntry) → IsReversalOf records payment entry → HasPaidOriginal records payment entry
  original_is_payment entry is =
      let has = have_originals records folded entry.slot entry.intent payment (entry_parts records entry.slot entry is.kept).1 is.original in
      record {
        original = record { slot = payment; intent = has.0.asked; result = Some has.0.approval };
        kept = ended_entry records payment has.0.asked has.0.approval has.0.ended;
        is_original = has.0.is_original;
        earlier = has.1;
      }
