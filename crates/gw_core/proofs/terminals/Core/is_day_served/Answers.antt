-- Proof of the contract of `is_day_served`.
use Rattle.std.proofs.Common.{ap, sym, ◌∙◌}
use Rattle.gw_owes.specs.Days.{named_serves_day}
use Rattle.gw_owes.specs.Diagnosis.{named_terminal}
use Rattle.gw_core.proofs.NamedLemmas.{named-is, named-there, none-named, one-named, there-within}
use Rattle.gw_core.proofs.terminals.Core.is_day_served.Goals as goal

pub terminal-requires : goal.terminal-requires
terminal-requires c =
    let one = one-named (named_terminal c.args.self.now c.args.key.now.poi) c.in-Some.pt c.in-Some.ensures in
    record { there = there-within c.args.self.now.terminals c.in-Some.pt one.0 (named-there c.args.self.now c.args.key.now.poi c.in-Some.pt one.0 one.1) }

pub returns-in-None : goal.returns-in-None
returns-in-None c = sym (ap (named_serves_day c.args.key.now) (none-named (named_terminal c.args.self.now c.args.key.now.poi) c.in-None.ensures))

pub returns-in-Some : goal.returns-in-Some
returns-in-Some c =
    c.serves_day.ensures ∙ sym (ap (named_serves_day c.args.key.now) (named-is c.args.self.now c.args.key.now.poi c.in-Some.pt c.terminal.result.now c.in-Some.ensures c.terminal.ensures))
