-- Proof of the contract of `day_done`.
use Rattle.std.proofs.Common.{◌≡◌, ap, length, refl, subst, sym}
use Rattle.std.proofs.lemmas.Int.{to_z-of_z}
use Rattle.gw_base.specs.Moment.{moment_of}
use Rattle.jrn_record.specs.declared.records.How.TheVariants.{Acquirer}
use Rattle.jrn_record.specs.declared.records.Settled.{Settled as TheSettled}
use Rattle.jrn_record.specs.declared.records.Record.TheVariants.{Settled}
use Rattle.gw_owes.specs.Reconciliations.{settle_calls, settled_of}
use Rattle.gw_owes.specs.Terminals.{with_terminal}
use Rattle.gw_owes.specs.declared.terminal.Terminal.{Terminal}
use Rattle.gw_core.specs.IsRow.{IsActs, MayBeKept}
use Rattle.gw_core.proofs.ReconciliationLemmas.{day-within, day-settles}
use Rattle.gw_core.proofs.reconciliations.day_done.Goals as goal

pub settled_of-settled-requires-clause-within : goal.settled_of-settled-requires-clause-within
settled_of-settled-requires-clause-within c = day-within c.args.ledger.now.records c.args.header.now c.args.terminal.now.pt.currency _ c.requires.served

pub settle-acts-requires : goal.settle-acts-requires
settle-acts-requires c =
    let is : c.settled_of-settled.result ≡ settled_of Acquirer c.args.header.now c.args.terminal.now.pt.currency (moment_of c.args.now) = simp (to_z-of_z, c.ranges.now) at c.settled_of-settled.ensures in
    record {
      next = subst (λ (settled : TheSettled). MayBeKept c.args.ledger.now.records (Settled settled)) (sym is)
          (day-settles c.args.ledger.now.records c.args.header.now c.args.terminal.now.pt.currency c.args.now c.law_fits.ensures.settled c.law_folded.ensures c.requires.served);
    }

pub returns-clause-row : goal.returns-clause-row
returns-clause-row c = λ setup core pt.
    let is : c.settled_of-settled.result ≡ settled_of Acquirer c.args.header.now c.args.terminal.now.pt.currency (moment_of c.args.now) = simp (to_z-of_z, c.ranges.now) at c.settled_of-settled.ensures in
    record {
      core_is = ap (λ (t : Terminal). with_terminal core pt t) c.done.ensures;
      calls_are = subst (λ (settled : TheSettled). IsActs (length c.args.ledger.now.records) c.settle-acts.result (settle_calls c.args.ledger.now.records c.args.terminal.now.asker settled)) is c.settle-acts.ensures.calls;
      items_are = refl;
    }

pub settled_of-settled-requires-clause-moment : goal.settled_of-settled-requires-clause-moment
settled_of-settled-requires-clause-moment c = simp (to_z-of_z, c.ranges.now) c.requires.moment
