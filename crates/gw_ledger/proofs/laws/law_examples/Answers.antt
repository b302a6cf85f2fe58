-- The premises of the laws hold of the examples, by computing.
use Rattle.std.proofs.Common.{refl, codes, lit<, lit≤}
use Rattle.std.specs.Fmt.{digits}
use Rattle.gw_base.specs.Transaction.{transaction_text}
use Rattle.gw_ledger.specs.Example.{key, second}
use Rattle.gw_ledger.specs.History.{history}
use Rattle.gw_ledger.specs.Keys.{settled_key}
use Rattle.gw_ledger.specs.Premises.{day_settled}
use Rattle.gw_ledger.proofs.ExampleLemmas.{day_folded, opened_folded, second_within, undone_folded}
use Rattle.gw_ledger.proofs.SettlingLemmas.{keys_differ, texts_differ}
use Rattle.gw_ledger.proofs.laws.law_examples.Goals as goal

pub returns-clause-next : goal.returns-clause-next
unfolding history
returns-clause-next c = record { other = refl }

pub returns-clause-opened : goal.returns-clause-opened
unfolding history
returns-clause-opened c = record { folded = opened_folded; counted = refl; slots = refl; slot = refl; is_open_at = (refl, refl) }

pub returns-clause-settled_after : goal.returns-clause-settled_after
unfolding history
returns-clause-settled_after c = record {
  intent = refl;
  what = refl;
  ended = refl;
  is_settled_after = record { at = 6; settled = _; found = refl; poi_is = refl; after = lit< tt };
  settled = refl;
}

pub returns-clause-named : goal.returns-clause-named
unfolding history transaction_text digits
returns-clause-named c = record { few = lit≤ tt; entry = refl; text = refl; named = refl }

pub returns-clause-within : goal.returns-clause-within
unfolding history
returns-clause-within c = record { folded = day_folded; entry = refl; found = refl; within = second_within }

pub returns-clause-payment : goal.returns-clause-payment
unfolding history
returns-clause-payment c = record { folded = day_folded; what = refl; unknown = refl; none_open = refl; not_below = lit≤ tt; may_come = refl }

pub returns-clause-reversal : goal.returns-clause-reversal
unfolding history
returns-clause-reversal c = record {
  folded = day_folded;
  original = refl;
  unknown = refl;
  none_open = refl;
  not_below = lit≤ tt;
  entry = refl;
  is_original = record { what = refl; poi = refl; currency = refl; approved = (refl, refl) };
  not_reversed = refl;
  not_settled = refl;
  may_come = refl;
}

pub returns-clause-outcome : goal.returns-clause-outcome
unfolding history
returns-clause-outcome c = record { folded = opened_folded; entry = refl; slot = refl; above = λ approved. lit< tt; may_come = refl }

pub returns-clause-reconciliation : goal.returns-clause-reconciliation
unfolding history
returns-clause-reconciliation c = record { folded = day_folded; unknown = refl; may_come = refl }

pub returns-clause-reversed_once : goal.returns-clause-reversed_once
unfolding history
returns-clause-reversed_once c = record {
  folded = undone_folded;
  once = record { outcome = _; intent = _; found = refl; approved = refl; asked = refl; what = refl; original = refl };
  reversed = refl;
  first = record { kept = refl; what = refl; original = refl };
  second = record { kept = refl; what = refl; original = refl };
  declined = refl;
  original = record {
    original = second;
    kept = refl;
    is_original = record { what = refl; poi = refl; currency = refl; approved = (refl, refl) };
    earlier = lit< tt;
  };
}

pub returns-clause-second_reversal : goal.returns-clause-second_reversal
unfolding history
returns-clause-second_reversal c = record { after_decline = refl; while_open = refl; after_approval = refl }

pub returns-clause-settling : goal.returns-clause-settling
unfolding history
returns-clause-settling c = record {
  may_come = refl;
  other_poi = texts_differ (codes "B") day_settled.poi refl;
  other_key = keys_differ (key (codes "2")) (settled_key day_settled) refl;
  ended = record { kept = refl; what = refl; poi_is = refl; ended = refl };
  settled = refl;
}
