-- A reconciliation: its Settled may be kept next.
use Rattle.std.proofs.Common.{ℤ, List, ap, ◌∙◌}
use Rattle.gw_base.specs.Moment.{moment_of}
use Rattle.gw_base.specs.declared.currency.Currency.{Currency}
use Rattle.jrn_record.specs.Limits.{IsSettled}
use Rattle.jrn_record.specs.declared.records.How.TheVariants.{Acquirer}
use Rattle.jrn_record.specs.declared.records.Record.{Record}
use Rattle.jrn_record.specs.declared.records.Record.TheVariants.{Settled}
use Rattle.gw_ledger.specs.Fold.{AreFolded, found_of}
use Rattle.gw_ledger.specs.Laws.{SettledFits}
use Rattle.sale_values.specs.declared.header.Header.{Header}
use Rattle.gw_owes.specs.Reconciliations.{settled_of}
use Rattle.gw_owes.proofs.LimitLemmas.{keyed-within, settled-key-is, settled-within}
use Rattle.gw_core.specs.Beginning.{MayEndDay}
use Rattle.gw_core.specs.IsRow.{MayBeKept}
use Rattle.gw_core.proofs.CoreLemmas.{moment-in-range}

-- the Settled of an end of day lies within its limits
pub day-within : (kept : List Record) (header : Header) (currency : Currency) (now : ℤ) → MayEndDay kept header → IsSettled (settled_of Acquirer header currency (moment_of now))
day-within kept header currency now may = settled-within Acquirer header currency (moment_of now) (keyed-within header may.key may.heading may.key_is) (moment-in-range now)

-- and may be kept next
pub day-settles : (kept : List Record) (header : Header) (currency : Currency) (now : ℤ) → SettledFits → AreFolded kept → MayEndDay kept header → MayBeKept kept (Settled (settled_of Acquirer header currency (moment_of now)))
day-settles kept header currency now fits folded may = record {
  within = day-within kept header currency now may;
  fitting = fits kept folded (settled_of Acquirer header currency (moment_of now))
      (ap (found_of kept) (settled-key-is Acquirer header currency (moment_of now) may.key may.key_is) ∙ may.unknown);
}
