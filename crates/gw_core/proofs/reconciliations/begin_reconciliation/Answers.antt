-- Proof of the contract of `begin_reconciliation`.
use Rattle.std.proofs.Common.{◌≡◌, ℤ, w64, length, refl, subst}
use Rattle.std.specs.Prelude.{Some}
use Rattle.std.proofs.lemmas.Int.{to_z-of_z}
use Rattle.gw_base.specs.Moment.{moment_of}
use Rattle.jrn_record.specs.declared.records.How.TheVariants.{Sale}
use Rattle.jrn_record.specs.declared.records.Settled.{Settled as TheSettled}
use Rattle.gw_owes.specs.Reconciliations.{begins_day, settle_calls, settled_of}
use Rattle.gw_owes.specs.Terminals.{with_terminal}
use Rattle.gw_core.specs.IsRow.{IsActs, IsRow, known_with}
use Rattle.gw_core.proofs.HandlingLemmas.{unchanged}
use Rattle.gw_core.proofs.reconciliations.begin_reconciliation.Goals as goal

pub returns-in-SaleReconciliation-clause-row : goal.returns-in-SaleReconciliation-clause-row
returns-in-SaleReconciliation-clause-row c = λ setup core found.
    let is : c.settled_of-settled.result ≡ settled_of Sale c.args.header.now c.args.terminal.now.pt.currency (moment_of c.args.now) = simp (to_z-of_z, c.ranges.now) at c.settled_of-settled.ensures in
    let same = unchanged (known_with setup c.args.ledger.now.records core (moment_of c.args.now)) c.args.pt c.args.terminal.now found in
    rw c.in-SaleReconciliation.is (record {
      core_is = same.core_is;
      calls_are = subst (λ (settled : TheSettled). IsActs (length c.args.ledger.now.records) c.settle.result (settle_calls c.args.ledger.now.records (Some c.args.till) settled)) is c.settle.ensures.calls;
      items_are = refl;
    })

pub returns-in-AcquirerReconciliation-clause-row : goal.returns-in-AcquirerReconciliation-clause-row
returns-in-AcquirerReconciliation-clause-row c = λ setup core found.
    rw c.in-AcquirerReconciliation.is
    (subst (λ (now : ℤ). IsRow c.args.ledger.now.records (begins_day (known_with setup c.args.ledger.now.records core (moment_of now)) c.args.pt c.args.till c.args.header.now c.args.terminal.now c.args.terminal.now.standing)
    (with_terminal core c.args.pt c.begin_day.new.terminal) c.begin_day.result) (to_z-of_z w64 c.args.now c.ranges.now) (c.begin_day.ensures.row setup c.args.ledger.now.records core))

pub settled_of-settled-requires-clause-moment : goal.settled_of-settled-requires-clause-moment
settled_of-settled-requires-clause-moment c = simp (to_z-of_z, c.ranges.now) c.requires.moment

pub begin_day-requires-clause-moment : goal.begin_day-requires-clause-moment
begin_day-requires-clause-moment c = simp (to_z-of_z, c.ranges.now) c.requires.moment
