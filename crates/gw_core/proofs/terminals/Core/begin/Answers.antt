-- Proof of the contract of `begin`.
use Rattle.std.proofs.Common.{rules, tests}
use Rattle.gw_base.specs.Moment.{moment_of}
use Rattle.gw_core.proofs.SessionLemmas.{session-room, session-row}
use Rattle.gw_core.proofs.terminals.Core.begin.Goals as goal

pub begin_session-requires-clause-room : goal.begin_session-requires-clause-room
begin_session-requires-clause-room c =
    session-room c.args.gateway.now c.args.ledger.now.records c.args.self.now (moment_of c.args.now) c.args.pt c.args.header.now c.args.request.now (search (rules, tests)) c.requires.begins

pub returns-then-is_session-clause-row : goal.returns-then-is_session-clause-row
returns-then-is_session-clause-row c =
    session-row c.args.gateway.now c.args.ledger.now.records c.args.self.now (moment_of c.args.now) c.args.pt c.args.header.now c.args.request.now (search (rules, tests)) c.requires.begins
    c.args.till c.begin_session.new.self c.begin_session.result (λ setup. c.begin_session.ensures.row setup c.args.ledger.now.records (moment_of c.args.now))
