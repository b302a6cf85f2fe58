-- The premises of the law hold of the example, by computing.
use Rattle.std.proofs.Common.{codes, refl, lit<, lit≤}
use Rattle.std.specs.Fmt.{digits}
use Rattle.gw_base.specs.Transaction.{transaction_text}
use Rattle.gw_ledger.proofs.ExampleLemmas.{ident}
use Rattle.xlate.proofs.ExampleLemmas.{example_moment}
use Rattle.entry_seen.proofs.laws.law_example.Goals as goal

pub returns : goal.returns
unfolding transaction_text digits
returns c = record {
  slot_fits = lit< tt;
  outcome = refl;
  resolved = (
    record {
      sale = ident 40 (codes "S1") refl;
      poi = ident 40 (codes "T1") refl;
      service = ident 10 (codes "1") refl;
      transaction = ident 80 (codes "27908") refl;
      stamp = ident 35 (codes "2025-03-07T10:11:04+00:00") refl;
      amount = (lit≤ tt, lit≤ tt);
      before = lit≤ tt;
      original = tt;
      moment = example_moment;
    },
    record { slot = lit< tt; number = (lit≤ tt, lit≤ tt); receipt = (lit≤ tt, lit≤ tt); amount = (lit≤ tt, lit≤ tt); condition = tt; moment = example_moment },
  );
  read = refl;
}
