-- Proof of the contract of `begun_or_refused`.
use Rattle.gw_owes.specs.Diagnosis.{named_terminal}
use Rattle.gw_core.proofs.NamedLemmas.{one-named, named-there, named-is, there-within}
use Rattle.gw_core.proofs.displays.begun_or_refused.Goals as goal

pub terminal-requires : goal.terminal-requires
terminal-requires c =
    let one = one-named (named_terminal c.args.core.now c.args.header.now.poi) c.in-Some.pt c.in-Some.ensures in
    record { there = there-within c.args.core.now.terminals c.in-Some.pt one.0 (named-there c.args.core.now c.args.header.now.poi c.in-Some.pt one.0 one.1) }

pub returns-in-None-refused_at : goal.returns-in-None-refused_at
returns-in-None-refused_at c =
    let named = named-is c.args.core.now c.args.header.now.poi c.in-Some.pt c.terminal.result.now c.in-Some.ensures c.terminal.ensures in
    ((c.terminal.result.now, named), rw named (c.in-None-refused_at.ensures c.in-Some.pt))

pub returns-in-Some-refused_at : goal.returns-in-Some-refused_at
returns-in-Some-refused_at c =
    let named = named-is c.args.core.now c.args.header.now.poi c.in-Some.pt c.terminal.result.now c.in-Some.ensures c.terminal.ensures in
    rw named (c.in-Some-refused_at.ensures c.in-Some.pt)
