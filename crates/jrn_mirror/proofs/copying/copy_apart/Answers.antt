-- Proof of the contract of `copy_apart`.
use Rattle.std.proofs.Common.{refl}
use Rattle.jrn_mirror.proofs.copying.copy_apart.Goals as goal

pub copy_longer-requires : goal.copy_longer-requires
copy_longer-requires g c = let both = rw (c.in-Some-Some.is-0, c.in-Some-Some.is-1) at c.requires in both refl refl

pub returns-in-Some-Some-clause-goes : goal.returns-in-Some-Some-clause-goes
returns-in-Some-Some-clause-goes g c = rw (c.in-Some-Some.is-0, c.in-Some-Some.is-1) c.copy_longer.ensures.goes
