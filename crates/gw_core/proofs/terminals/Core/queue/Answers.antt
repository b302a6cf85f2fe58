-- Proof of the contract of `queue`.
use Rattle.std.proofs.Common.{◌∙◌, w64, sym, subst, ap}
use Rattle.std.specs.Prelude.{None}
use Rattle.std.proofs.lemmas.Int.{to_z-of_z}
use Rattle.gw_base.specs.Moment.{moment_of}
use Rattle.gw_owes.specs.KeptReplies.{own_key}
use Rattle.gw_owes.specs.Row.{Row}
use Rattle.gw_core.specs.IsRow.{IsRow, alone}
use Rattle.gw_core.proofs.JoinLemmas.{aborted-row, given-unknown, joined-row, request-joins}
use Rattle.gw_core.proofs.terminals.Core.queue.Goals as goal

pub returns-in-Some-clause-row : goal.returns-in-Some-clause-row
returns-in-Some-clause-row c = λ known is.
    aborted-row known c.args.ledger.now.records c.args.self.now c.args.pt c.args.till c.args.header c.args.request c.in-Some.key c.abort.new.self c.abort.result is.kept_is is.core_is (sym c.key_aborted.ensures ∙ c.in-Some.is)
    (c.abort.ensures.row known.setup c.args.ledger.now.records known.moment)

pub join-requires-clause-unknown : goal.join-requires-clause-unknown
join-requires-clause-unknown c =
    given-unknown c.args.gateway.now c.args.ledger.now.records c.args.self.now (moment_of c.args.now) c.args.pt c.args.header c.args.request c.requires.queues (sym c.key_aborted.ensures ∙ c.in-None.is)

pub returns-clause-row : goal.returns-clause-row
returns-clause-row c = λ known is.
    let joins = request-joins known c.args.pt c.args.header c.args.request (sym c.key_aborted.ensures ∙ c.in-None.is) (c.requires.queues.queues known is) in
    let core = c.in_ok-join-in-None.ensures.joined known is.core_is (is.moment_is ∙ sym (ap moment_of (to_z-of_z w64 c.args.now c.ranges.now))) is.wait_is in
    subst (λ (row : Row). IsRow c.args.ledger.now.records row c.join.new.self (alone None)) (sym (joins.row c.args.till))
    (joined-row known c.args.ledger.now.records c.args.pt c.args.till c.args.header c.args.request (own_key c.args.header) c.join.new.self core)
