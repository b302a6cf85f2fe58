-- Proof of the contract of `begin_request`.
use Rattle.std.proofs.Common.{ℤ, w64, subst}
use Rattle.std.proofs.lemmas.Int.{to_z-of_z}
use Rattle.gw_base.specs.Moment.{moment_of}
use Rattle.sale_values.specs.declared.request.SaleRequest.TheVariants.{Payment, Reversal}
use Rattle.gw_owes.specs.Displays.{shows_in}
use Rattle.gw_owes.specs.Payments.{begins_in}
use Rattle.gw_owes.specs.Reconciliations.{begins_period}
use Rattle.gw_owes.specs.Terminals.{with_terminal}
use Rattle.gw_core.specs.IsRow.{IsRow, known_with}
use Rattle.gw_core.proofs.beginning.begin_request.Goals as goal

pub returns-in-Payment-clause-row : goal.returns-in-Payment-clause-row
returns-in-Payment-clause-row c = λ setup core found. rw c.in-Payment.is
    (subst (λ (now : ℤ). IsRow c.args.ledger.now.records (begins_in (known_with setup c.args.ledger.now.records core (moment_of now)) c.args.pt c.args.till c.args.header.now (Payment c.in-Payment.payment) c.args.terminal.now c.args.terminal.now.standing)
    (with_terminal core c.args.pt c.begin_payment.new.terminal) c.begin_payment.result) (to_z-of_z w64 c.args.now c.ranges.now) (c.begin_payment.ensures.row setup core))

pub returns-in-Reversal-clause-row : goal.returns-in-Reversal-clause-row
returns-in-Reversal-clause-row c = λ setup core found. rw c.in-Reversal.is
    (subst (λ (now : ℤ). IsRow c.args.ledger.now.records (begins_in (known_with setup c.args.ledger.now.records core (moment_of now)) c.args.pt c.args.till c.args.header.now (Reversal c.in-Reversal.reversal) c.args.terminal.now c.args.terminal.now.standing)
    (with_terminal core c.args.pt c.begin_reversal.new.terminal) c.begin_reversal.result) (to_z-of_z w64 c.args.now c.ranges.now) (c.begin_reversal.ensures.row setup core))

pub returns-in-Reconciliation-clause-row : goal.returns-in-Reconciliation-clause-row
returns-in-Reconciliation-clause-row c = λ setup core found. rw c.in-Reconciliation.is
    (subst (λ (now : ℤ). IsRow c.args.ledger.now.records (begins_period (known_with setup c.args.ledger.now.records core (moment_of now)) c.args.pt c.args.till c.args.header.now c.in-Reconciliation.period c.args.terminal.now)
    (with_terminal core c.args.pt c.begin_reconciliation.new.terminal) c.begin_reconciliation.result) (to_z-of_z w64 c.args.now c.ranges.now) (c.begin_reconciliation.ensures.row setup core found))

pub returns-in-Display-clause-row : goal.returns-in-Display-clause-row
returns-in-Display-clause-row c = λ setup core found. rw c.in-Display.is
    (subst (λ (now : ℤ). IsRow c.args.ledger.now.records (shows_in (known_with setup c.args.ledger.now.records core (moment_of now)) c.args.pt c.args.till c.args.header.now c.in-Display.outputs c.args.terminal.now c.args.terminal.now.standing)
    (with_terminal core c.args.pt c.begin_display.new.terminal) c.begin_display.result) (to_z-of_z w64 c.args.now c.ranges.now) (c.begin_display.ensures.row setup c.args.ledger.now.records core))

pub begin_payment-requires : goal.begin_payment-requires
begin_payment-requires c = record {
  moment = simp (to_z-of_z, c.ranges.now) c.requires.moment;
  settings = c.requires.settings;
  begins = simp (to_z-of_z, c.ranges.now) (rw c.in-Payment.is at c.requires.begins);
}

pub begin_reversal-requires : goal.begin_reversal-requires
begin_reversal-requires c = record {
  moment = simp (to_z-of_z, c.ranges.now) c.requires.moment;
  settings = c.requires.settings;
  begins = simp (to_z-of_z, c.ranges.now) (rw c.in-Reversal.is at c.requires.begins);
}

pub begin_reconciliation-requires : goal.begin_reconciliation-requires
begin_reconciliation-requires c = record {
  moment = simp (to_z-of_z, c.ranges.now) c.requires.moment;
  settings = c.requires.settings;
  begins = simp (to_z-of_z, c.ranges.now) (rw c.in-Reconciliation.is at c.requires.begins);
}

pub begin_display-requires : goal.begin_display-requires
begin_display-requires c = record {
  moment = simp (to_z-of_z, c.ranges.now) c.requires.moment;
  settings = c.requires.settings;
  begins = rw c.in-Display.is at c.requires.begins;
  prepared = rw c.in-Display.is at c.requires.prepared;
}
