-- Proof of the contract of `serving_terminal`.
use Rattle.std.proofs.Common.{sym}
use Rattle.gw_owes.specs.Diagnosis.{named_terminal}
use Rattle.gw_core.proofs.NamedLemmas.{named-is, named-there, one-named, there-within}
use Rattle.gw_core.proofs.StopLemmas.{serves-none, serves-there}
use Rattle.gw_core.proofs.stops.serving_terminal.Goals as goal

pub terminal-requires : goal.terminal-requires
terminal-requires c =
    let one = one-named (named_terminal c.args.core.now c.args.key.now.poi) c.in-Some.pt c.in-Some.ensures in
    record { there = there-within c.args.core.now.terminals c.in-Some.pt one.0 (named-there c.args.core.now c.args.key.now.poi c.in-Some.pt one.0 one.1) }

pub returns-then-serves_key : goal.returns-then-serves_key
returns-then-serves_key c =
    serves-there c.args.ledger.now.records c.args.key.now (named_terminal c.args.core.now c.args.key.now.poi) c.in-Some.pt c.terminal.result.now
    (named-is c.args.core.now c.args.key.now.poi c.in-Some.pt c.terminal.result.now c.in-Some.ensures c.terminal.ensures) (sym c.if-serves_key.ensures)

pub returns-else-serves_key : goal.returns-else-serves_key
returns-else-serves_key c =
    serves-none c.args.ledger.now.records c.args.key.now (named_terminal c.args.core.now c.args.key.now.poi) c.in-Some.pt c.terminal.result.now
    (named-is c.args.core.now c.args.key.now.poi c.in-Some.pt c.terminal.result.now c.in-Some.ensures c.terminal.ensures) (sym c.if-serves_key.ensures)
