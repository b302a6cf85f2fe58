-- Inner: the records by slot, where those of each kind have a list of their own.
use Rattle.std.specs.Prelude.{◌≡◌, ◌+◌, ◌-◌, ◌<◌, ◌≤◌, ℕ, List, [], map, length, slice_index_or, None, Vec, vec_len, vec_capacity, pos, false}
use Rattle.std.specs.List.{All}
use Rattle.gw_base.specs.declared.currency.Currency.TheVariants.{Eur}
use Rattle.jrn_record.specs.declared.records.Deal.TheVariants.{Payment}
use Rattle.jrn_record.specs.declared.records.How.TheVariants.{Sale}
use Rattle.jrn_record.specs.declared.records.Intent.{Intent as TheIntent}
use Rattle.jrn_record.specs.declared.records.Outcome.{Outcome as TheOutcome}
use Rattle.jrn_record.specs.declared.records.Settled.{Settled as TheSettled}
use Rattle.jrn_record.specs.declared.records.Record.{Record}
use Rattle.jrn_record.specs.declared.records.Record.TheVariants.{Intent, Outcome, Settled}
use Rattle.gw_ledger.specs.declared.records.Index.{Index}
use Rattle.gw_ledger.specs.declared.records.Index.TheVariants.{Intent as IntentIndex, Outcome as OutcomeIndex, Settled as SettledIndex}

-- what an index past the end of the Intents would have
abbrev pub no_intent : TheIntent
no_intent = record {
  what = Payment;
  sale = [];
  poi = [];
  service = [];
  transaction = None;
  stamp = None;
  amount = 0;
  currency = Eur;
  before = 0;
  original = None;
  moment = pos 0;
}

-- what an index past the end of the Outcomes would have
abbrev pub no_outcome : TheOutcome
no_outcome = record { approved = false; slot = 0; number = 0; receipt = 0; amount = 0; condition = None; moment = pos 0 }

-- what an index past the end of the Settled would have
abbrev pub no_settled : TheSettled
no_settled = record { how = Sale; sale = []; poi = []; service = []; currency = Eur; moment = pos 0 }

-- the record at an index of its kind
abbrev pub record_at : List TheIntent → List TheOutcome → List TheSettled → Index → Record
record_at intents outcomes reconciliations (IntentIndex at) = Intent (slice_index_or intents at no_intent)
record_at intents outcomes reconciliations (OutcomeIndex at) = Outcome (slice_index_or outcomes at no_outcome)
record_at intents outcomes reconciliations (SettledIndex at) = Settled (slice_index_or reconciliations at no_settled)

-- the records at these indices
abbrev pub records_at : List TheIntent → List TheOutcome → List TheSettled → List Index → List Record
records_at intents outcomes reconciliations indices = map (record_at intents outcomes reconciliations) indices

-- the index is that of a record of its kind
abbrev pub IsIndex : List TheIntent → List TheOutcome → List TheSettled → Index → Type 0
IsIndex intents outcomes reconciliations (IntentIndex at) = at < length intents
IsIndex intents outcomes reconciliations (OutcomeIndex at) = at < length outcomes
IsIndex intents outcomes reconciliations (SettledIndex at) = at < length reconciliations

-- each index is that of a record, and there are as many as records of all kinds
pub record AreIndexed (intents : List TheIntent) (outcomes : List TheOutcome) (reconciliations : List TheSettled) (indices : List Index) : Type 0 where
  pub each : All (IsIndex intents outcomes reconciliations) indices
  pub count : length indices ≡ length intents + length outcomes + length reconciliations
  pub few : length indices ≤ 1000000

-- the records as contracts see them, and for how many more slots, Intents, Outcomes and Settled there is room
pub record RecordsValue : Type 0 where
  pub records : List Record
  pub slots : ℕ
  pub intents : ℕ
  pub outcomes : ℕ
  pub reconciliations : ℕ

-- the elements for which a vector has room beyond those it has
abbrev pub room_in : {X A : Type 0} → Vec X A → ℕ
room_in elements = vec_capacity elements - vec_len elements

-- the records of these vectors, and their room
abbrev pub records_value : {A : Type 0} → Vec Index A → Vec TheIntent A → Vec TheOutcome A → Vec TheSettled A → RecordsValue
records_value indices intents outcomes reconciliations = record {
  records = records_at intents.items outcomes.items reconciliations.items indices.items;
  slots = room_in indices;
  intents = room_in intents;
  outcomes = room_in outcomes;
  reconciliations = room_in reconciliations;
}
