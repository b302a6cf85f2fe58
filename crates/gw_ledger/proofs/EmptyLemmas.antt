-- A ledger without records.
use Rattle.std.proofs.Common.{[], refl, arith}
use Rattle.gw_ledger.specs.Fold.{AreFolded}
use Rattle.gw_ledger.specs.History.{history}
use Rattle.gw_ledger.specs.KeyTable.{AreKeys}
use Rattle.gw_ledger.specs.Table.{IsTable}
use Rattle.gw_ledger.specs.Tables.{AreTables}

pub tables_empty : AreTables [] [] [] [] [] (record { accepted = 0; approved = 0; declined = 0; unresolved = 0; sum = 0 })
unfolding history IsTable
tables_empty = record {
  folded = record { within = λ i d lt. absurd (omega arith); fit = tt };
  few = omega arith;
  marks_len = refl;
  marks_are = λ slot lt. absurd (omega arith);
  lasts_table = λ i j d lt inside. absurd (omega arith);
  lasts_are = λ sale poi. refl;
  desks_table = λ i j d lt inside. absurd (omega arith);
  accounts_are = λ poi. refl;
  sums_are = λ poi currency. refl;
  asked_have_desks = λ slot intent found. cc;
  closings_table = λ i j d lt inside. absurd (omega arith);
  closings_are = λ slot settled found. cc;
  tally_is = refl;
}

pub folded_empty : AreFolded []
folded_empty = record { within = λ i d lt. absurd (omega arith); fit = tt }

pub keys_empty : AreKeys [] []
unfolding history IsTable
keys_empty = record { table = λ i j d lt inside. absurd (omega arith); keyed = λ i d lt. absurd (omega arith); values = λ key. refl }
