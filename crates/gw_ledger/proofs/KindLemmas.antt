-- The records of each kind in a list of their own: what is at a slot, and one more record.
use Rattle.std.proofs.Common.{◌≡◌, ◌∙◌, ℕ, suc, ◌<◌, List, [], ◌∷◌, ◌++◌, length, get_or, Option, slice_get, refl, ap, arith}
use Rattle.std.specs.Prelude.{option_map}
use Rattle.std.specs.List.{All}
use Rattle.std.proofs.lemmas.List.{length-append, map-append}
use Rattle.std.proofs.lemmas.List.Elements.{All-push}
use Rattle.std.proofs.lemmas.Option.{slice_get-map}
use Rattle.std.proofs.Math.ListN.{get_or-append}
use Rattle.std.proofs.Math.Seq.{get_or-append_seam}
use Rattle.jrn_record.specs.declared.records.Intent.{Intent as TheIntent}
use Rattle.jrn_record.specs.declared.records.Outcome.{Outcome as TheOutcome}
use Rattle.jrn_record.specs.declared.records.Settled.{Settled as TheSettled}
use Rattle.jrn_record.specs.declared.records.Record.TheVariants.{Intent, Outcome, Settled}
use Rattle.gw_ledger.specs.declared.records.Index.{Index}
use Rattle.gw_ledger.specs.declared.records.Index.TheVariants.{Intent as IntentIndex, Outcome as OutcomeIndex, Settled as SettledIndex}
use Rattle.gw_ledger.specs.Records.{AreIndexed, IsIndex, no_intent, no_outcome, no_settled, record_at, records_at}

-- the record at a slot is that at its index
pub found_at : (intents : List TheIntent) (outcomes : List TheOutcome) (reconciliations : List TheSettled) (indices : List Index) (slot : ℕ) (found : Option Index)
    → slice_get indices slot ≡ found → slice_get (records_at intents outcomes reconciliations indices) slot ≡ option_map (record_at intents outcomes reconciliations) found
found_at intents outcomes reconciliations indices slot found is =
    slice_get-map (record_at intents outcomes reconciliations) indices slot ∙ ap (option_map (record_at intents outcomes reconciliations)) is

-- each index has the same record in longer lists
abbrev pub IndicesStay : List TheIntent → List TheOutcome → List TheSettled → List TheIntent → List TheOutcome → List TheSettled → Type 0
IndicesStay intents outcomes reconciliations more_intents more_outcomes more_reconciliations = (index : Index) → IsIndex intents outcomes reconciliations index
    → IsIndex more_intents more_outcomes more_reconciliations index
    × (record_at more_intents more_outcomes more_reconciliations index ≡ record_at intents outcomes reconciliations index)

longer : {X : Type 0} (xs : List X) (x : X) (at : ℕ) → at < length xs → at < length (xs ++ x ∷ [])
longer xs x at lt = omega (arith, lt, length-append xs (x ∷ []))

at_end : {X : Type 0} (xs : List X) (x : X) → length xs < length (xs ++ x ∷ [])
at_end xs x = omega (arith, length-append xs (x ∷ []))

module _ (intents : List TheIntent) (outcomes : List TheOutcome) (reconciliations : List TheSettled) where
  pub intent_stays : (intent : TheIntent) → IndicesStay intents outcomes reconciliations (intents ++ intent ∷ []) outcomes reconciliations
  intent_stays intent (IntentIndex at) inside = (longer intents intent at inside, ap Intent (get_or-append intents (intent ∷ []) no_intent at inside))
  intent_stays intent (OutcomeIndex at) inside = (inside, refl)
  intent_stays intent (SettledIndex at) inside = (inside, refl)

  pub outcome_stays : (outcome : TheOutcome) → IndicesStay intents outcomes reconciliations intents (outcomes ++ outcome ∷ []) reconciliations
  outcome_stays outcome (IntentIndex at) inside = (inside, refl)
  outcome_stays outcome (OutcomeIndex at) inside = (longer outcomes outcome at inside, ap Outcome (get_or-append outcomes (outcome ∷ []) no_outcome at inside))
  outcome_stays outcome (SettledIndex at) inside = (inside, refl)

  pub settled_stays : (settled : TheSettled) → IndicesStay intents outcomes reconciliations intents outcomes (reconciliations ++ settled ∷ [])
  settled_stays settled (IntentIndex at) inside = (inside, refl)
  settled_stays settled (OutcomeIndex at) inside = (inside, refl)
  settled_stays settled (SettledIndex at) inside = (longer reconciliations settled at inside, ap Settled (get_or-append reconciliations (settled ∷ []) no_settled at inside))

module _ (intents more_intents : List TheIntent) (outcomes more_outcomes : List TheOutcome) (reconciliations more_reconciliations : List TheSettled)
    (stay : IndicesStay intents outcomes reconciliations more_intents more_outcomes more_reconciliations) where
  records_stay : (indices : List Index) → All (IsIndex intents outcomes reconciliations) indices
      → records_at more_intents more_outcomes more_reconciliations indices ≡ records_at intents outcomes reconciliations indices
  records_stay [] each = refl
  records_stay (index ∷ indices) each =
      let rest = records_stay indices (λ i d lt. each (suc i) d (omega arith)) in
      rw ((stay index (each 0 index (omega arith))).1, rest) refl

  pub records_push : (indices : List Index) → All (IsIndex intents outcomes reconciliations) indices → (index : Index)
      → records_at more_intents more_outcomes more_reconciliations (indices ++ index ∷ [])
      ≡ records_at intents outcomes reconciliations indices ++ record_at more_intents more_outcomes more_reconciliations index ∷ []
  records_push indices each index = map-append (record_at more_intents more_outcomes more_reconciliations) indices (index ∷ [])
      ∙ ap (λ records. records ++ record_at more_intents more_outcomes more_reconciliations index ∷ []) (records_stay indices each)

  pub each_push : (indices : List Index) → All (IsIndex intents outcomes reconciliations) indices → (index : Index) → IsIndex more_intents more_outcomes more_reconciliations index
      → All (IsIndex more_intents more_outcomes more_reconciliations) (indices ++ index ∷ [])
  each_push indices each index inside =
      All-push (IsIndex more_intents more_outcomes more_reconciliations) indices index (λ i d lt. (stay (get_or indices i d) (each i d lt)).0) inside

module _ (intents : List TheIntent) (outcomes : List TheOutcome) (reconciliations : List TheSettled) (indices : List Index) (indexed : AreIndexed intents outcomes reconciliations indices)
    (few : length indices < 1000000) where
  -- one more Intent
  pub intent_indexed : (intent : TheIntent) → AreIndexed (intents ++ intent ∷ []) outcomes reconciliations (indices ++ IntentIndex (length intents) ∷ [])
  intent_indexed intent = record {
    each = each_push intents (intents ++ intent ∷ []) outcomes outcomes reconciliations reconciliations (intent_stays intents outcomes reconciliations intent) indices indexed.each (IntentIndex (length intents)) (at_end intents intent);
    count = omega (arith, indexed.count, length-append intents (intent ∷ []), length-append indices (IntentIndex (length intents) ∷ []));
    few = omega (arith, few, length-append indices (IntentIndex (length intents) ∷ []));
  }

  pub intent_pushed : (intent : TheIntent)
      → records_at (intents ++ intent ∷ []) outcomes reconciliations (indices ++ IntentIndex (length intents) ∷ []) ≡ records_at intents outcomes reconciliations indices ++ Intent intent ∷ []
  intent_pushed intent =
      records_push intents (intents ++ intent ∷ []) outcomes outcomes reconciliations reconciliations (intent_stays intents outcomes reconciliations intent) indices indexed.each (IntentIndex (length intents))
      ∙ ap (λ last. records_at intents outcomes reconciliations indices ++ Intent last ∷ []) (get_or-append_seam intents intent [] no_intent)

  -- one more Outcome
  pub outcome_indexed : (outcome : TheOutcome) → AreIndexed intents (outcomes ++ outcome ∷ []) reconciliations (indices ++ OutcomeIndex (length outcomes) ∷ [])
  outcome_indexed outcome = record {
    each = each_push intents intents outcomes (outcomes ++ outcome ∷ []) reconciliations reconciliations (outcome_stays intents outcomes reconciliations outcome) indices indexed.each (OutcomeIndex (length outcomes)) (at_end outcomes outcome);
    count = omega (arith, indexed.count, length-append outcomes (outcome ∷ []), length-append indices (OutcomeIndex (length outcomes) ∷ []));
    few = omega (arith, few, length-append indices (OutcomeIndex (length outcomes) ∷ []));
  }

  pub outcome_pushed : (outcome : TheOutcome)
      → records_at intents (outcomes ++ outcome ∷ []) reconciliations (indices ++ OutcomeIndex (length outcomes) ∷ []) ≡ records_at intents outcomes reconciliations indices ++ Outcome outcome ∷ []
  outcome_pushed outcome =
      records_push intents intents outcomes (outcomes ++ outcome ∷ []) reconciliations reconciliations (outcome_stays intents outcomes reconciliations outcome) indices indexed.each (OutcomeIndex (length outcomes))
      ∙ ap (λ last. records_at intents outcomes reconciliations indices ++ Outcome last ∷ []) (get_or-append_seam outcomes outcome [] no_outcome)

  -- one more Settled
  pub settled_indexed : (settled : TheSettled) → AreIndexed intents outcomes (reconciliations ++ settled ∷ []) (indices ++ SettledIndex (length reconciliations) ∷ [])
  settled_indexed settled = record {
    each = each_push intents intents outcomes outcomes reconciliations (reconciliations ++ settled ∷ []) (settled_stays intents outcomes reconciliations settled) indices indexed.each (SettledIndex (length reconciliations)) (at_end reconciliations settled);
    count = omega (arith, indexed.count, length-append reconciliations (settled ∷ []), length-append indices (SettledIndex (length reconciliations) ∷ []));
    few = omega (arith, few, length-append indices (SettledIndex (length reconciliations) ∷ []));
  }

  pub settled_pushed : (settled : TheSettled)
      → records_at intents outcomes (reconciliations ++ settled ∷ []) (indices ++ SettledIndex (length reconciliations) ∷ []) ≡ records_at intents outcomes reconciliations indices ++ Settled settled ∷ []
  settled_pushed settled =
      records_push intents intents outcomes outcomes reconciliations (reconciliations ++ settled ∷ []) (settled_stays intents outcomes reconciliations settled) indices indexed.each (SettledIndex (length reconciliations))
      ∙ ap (λ last. records_at intents outcomes reconciliations indices ++ Settled last ∷ []) (get_or-append_seam reconciliations settled [] no_settled)

pub no_indices : AreIndexed [] [] [] []
no_indices = record { each = λ i d lt. absurd (omega arith); count = refl; few = omega arith }
