-- Proof of the contract of `sync_both`.
use Rattle.std.proofs.Common.{refl}
use Rattle.jrn_mirror.specs.declared.turn.Half.TheVariants.{First, Second}
use Rattle.jrn_mirror.specs.inner.Halves.{half_sync}
use Rattle.jrn_mirror.proofs.PairLemmas.{pair-same}
use Rattle.jrn_mirror.proofs.halves.sync_both.Goals as goal

pub returns-clause-turns : goal.returns-clause-turns
returns-clause-turns g c = pair-same _ _ (half_sync First c.sync_half-first.result) (half_sync Second c.sync_half-second.result) _ refl _ c.sync_half-first.ensures.turns c.sync_half-second.ensures.turns
