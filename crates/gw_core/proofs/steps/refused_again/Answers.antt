-- Proof of the contract of `refused_again`.
use Rattle.std.proofs.Common.{refl}
use Rattle.gw_core.proofs.steps.refused_again.Goals as goal

pub returns-then-lacks_number : goal.returns-then-lacks_number
returns-then-lacks_number c = λ known kept number.
    let used = c.if-lacks_number.ensures number in
    rw (kept, ← c.if-names_none.ensures, ← c.if-names_irreversible.ensures, ← used) refl

pub returns : goal.returns
returns c = λ known kept number.
    let used = c.if-lacks_number.ensures number in
    rw (kept, ← c.if-names_none.ensures, ← c.if-names_irreversible.ensures, ← used) refl
