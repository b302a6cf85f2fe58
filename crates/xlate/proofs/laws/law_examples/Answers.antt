-- The premises of the laws hold of the examples, by computing.
use Rattle.std.proofs.Common.{[], ◌∷◌, codes, refl, subst, lit<, lit≤}
use Rattle.std.proofs.lemmas.Option.{same_Some}
use Rattle.std.specs.Fmt.{digits}
use Rattle.gw_base.specs.Transaction.{transaction_text}
use Rattle.gw_base.proofs.BcdLemmas.{passes_bcd}
use Rattle.jrn_record.specs.Limits.{IsOutcome}
use Rattle.gw_ledger.proofs.ExampleLemmas.{ident}
use Rattle.xlate.proofs.ExampleLemmas.{example_moment}
use Rattle.xlate.proofs.laws.law_examples.Goals as goal

pub returns-clause-commands : goal.returns-clause-commands
returns-clause-commands c = record {
  payment_within = record {
    sale = ident 40 (codes "S1") refl;
    poi = ident 40 (codes "T1") refl;
    service = ident 10 (codes "1") refl;
    transaction = ident 80 (codes "27908") refl;
    stamp = ident 35 (codes "2025-03-07T10:11:04+00:00") refl;
    amount = (lit≤ tt, lit≤ tt);
    before = lit≤ tt;
    original = tt;
    moment = example_moment;
  };
  payment_original = (tt, tt);
  reversal_within = record {
    sale = ident 40 (codes "S1") refl;
    poi = ident 40 (codes "T1") refl;
    service = ident 10 (codes "3") refl;
    transaction = tt;
    stamp = tt;
    amount = (lit≤ tt, lit≤ tt);
    before = lit≤ tt;
    original = lit< tt;
    moment = example_moment;
  };
  reversal_original = (refl, refl);
  original_within = λ outcome is. subst IsOutcome (same_Some _ outcome is)
      (record { slot = lit< tt; number = (lit≤ tt, lit≤ tt); receipt = (lit≤ tt, lit≤ tt); amount = (lit≤ tt, lit≤ tt); condition = tt; moment = example_moment });
  password = passes_bcd (0x12 ∷ 0x34 ∷ 0x56 ∷ []) refl;
}

pub returns-clause-texts : goal.returns-clause-texts
returns-clause-texts c = record {
  first = record {
    result = refl;
    approved = refl;
    within = record { slot = lit< tt; number = (lit≤ tt, lit≤ tt); receipt = (lit≤ tt, lit≤ tt); amount = (lit≤ tt, lit≤ tt); condition = tt; moment = example_moment };
    slot = lit< tt;
  };
  second = record {
    result = refl;
    approved = refl;
    within = record { slot = lit< tt; number = (lit≤ tt, lit≤ tt); receipt = (lit≤ tt, lit≤ tt); amount = (lit≤ tt, lit≤ tt); condition = tt; moment = example_moment };
    slot = lit< tt;
  };
  text_of_both = refl;
}

pub returns-clause-numbers : goal.returns-clause-numbers
unfolding transaction_text digits
returns-clause-numbers c = record {
  within = record { six_digits = lit≤ tt; four_digits = lit≤ tt; slot_fits = lit< tt };
  text = refl;
}
