-- Proof of the contract of `read_terminals`.
use Rattle.std.proofs.Common.{None, Some, refl}
use Rattle.gw_config.proofs.TableLemmas.{twice_among}
use Rattle.gw_config.proofs.terminal.read_terminals.Goals as goal

pub returns-in-None : goal.returns-in-None
returns-in-None c =
    let unique = twice_among _ c.in_ok-pts.pts.items None c.in_ok-pts.ensures.1 (rw c.deref.ensures.value at c.in-None.ensures) in
    (rw (c.in_ok-pts.ensures.0, unique) refl, c.in_ok-pts.ensures.1)

pub returns-in-Some : goal.returns-in-Some
returns-in-Some c = λ other.
    let repeated = twice_among _ c.in_ok-pts.pts.items (Some c.in-Some.poi) c.in_ok-pts.ensures.1 (rw c.deref.ensures.value at c.in-Some.ensures) in
    rw (c.in_ok-pts.ensures.0, repeated) refl
