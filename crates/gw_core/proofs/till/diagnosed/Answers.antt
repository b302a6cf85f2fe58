-- Proof of the contract of `diagnosed`.
use Rattle.std.proofs.Common.{refl}
use Rattle.gw_owes.specs.Diagnosis.{named_terminal}
use Rattle.gw_core.proofs.NamedLemmas.{none-named, one-named, named-there, status-at, there-within}
use Rattle.gw_core.proofs.till.diagnosed.Goals as goal

pub status-requires : goal.status-requires
status-requires c =
    let one = one-named (named_terminal c.args.core.now c.args.header.now.poi) c.in-Some.pt c.in-Some.ensures in
    record { there = there-within c.args.core.now.terminals c.in-Some.pt one.0 (named-there c.args.core.now c.args.header.now.poi c.in-Some.pt one.0 one.1) }

pub returns-in-None : goal.returns-in-None
returns-in-None c = rw (none-named (named_terminal c.args.core.now c.args.header.now.poi) c.in-None.ensures) c.refused.ensures

pub returns-in-Some : goal.returns-in-Some
returns-in-Some c =
    let one = one-named (named_terminal c.args.core.now c.args.header.now.poi) c.in-Some.pt c.in-Some.ensures in
    let status = status-at c.args.core.now c.in-Some.pt one.0 c.status.result (named-there c.args.core.now c.args.header.now.poi c.in-Some.pt one.0 one.1) c.status.ensures in
    rw (one.1, c.reply_header.ensures, status) (refl, λ never. absurd never)
