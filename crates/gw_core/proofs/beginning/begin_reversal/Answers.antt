-- Proof of the contract of `begin_reversal`.
use Rattle.std.proofs.Common.{◌≡◌, sym, subst}
use Rattle.std.proofs.lemmas.Int.{to_z-of_z}
use Rattle.gw_base.specs.Moment.{moment_of}
use Rattle.gw_owes.specs.Reversals.{reversal_intent}
use Rattle.gw_owes.specs.Row.{Row}
use Rattle.gw_owes.specs.Terminals.{with_terminal}
use Rattle.gw_core.specs.IsRow.{IsRow, known_with}
use Rattle.gw_core.proofs.BeginLemmas.{named-within, reversal-begins}
use Rattle.gw_core.proofs.beginning.begin_reversal.Goals as goal

pub begin_asking-requires-clause-limits : goal.begin_asking-requires-clause-limits
begin_asking-requires-clause-limits c =
    named-within c.args.ledger.now.records c.args.header.now.poi c.args.reversal.now.transaction c.in-Some.original c.law_named.ensures.entry c.law_within.ensures c.law_folded.ensures (sym c.in-Some.ensures)

pub returns-clause-row : goal.returns-clause-row
returns-clause-row c = λ setup core.
    let known = known_with setup c.args.ledger.now.records core (moment_of c.args.now) in
    let intent_is : c.reversal_intent-intent.result ≡ reversal_intent c.args.header.now c.in-Some.original c.last_number-last.result (moment_of c.args.now) =
    simp (to_z-of_z, c.ranges.now) at c.reversal_intent-intent.ensures in
    subst (λ (row : Row). IsRow c.args.ledger.now.records row (with_terminal core c.args.pt c.begin_asking.new.terminal) c.begin_asking.result)
    (reversal-begins known c.args.pt c.args.till c.args.header.now c.args.reversal.now c.args.terminal.now c.last_number-last.result c.reversal_intent-intent.result c.in-Some.original c.last_number-last.ensures
    (sym c.in-Some.ensures) intent_is)
    (simp (to_z-of_z, c.ranges.now) at (c.begin_asking.ensures.row setup core))

pub reversal_intent-intent-requires-clause-moment : goal.reversal_intent-intent-requires-clause-moment
reversal_intent-intent-requires-clause-moment c = simp (to_z-of_z, c.ranges.now) c.requires.moment

pub begin_asking-requires-clause-moment : goal.begin_asking-requires-clause-moment
begin_asking-requires-clause-moment c = simp (to_z-of_z, c.ranges.now) c.requires.moment
