-- Proof of the contract of `write_both`.
use Rattle.std.proofs.Common.{refl}
use Rattle.jrn_mirror.specs.declared.turn.Half.TheVariants.{First, Second}
use Rattle.jrn_mirror.specs.inner.Halves.{half_write}
use Rattle.jrn_mirror.proofs.PairLemmas.{pair-same}
use Rattle.jrn_mirror.proofs.halves.write_both.Goals as goal

pub returns-clause-turns : goal.returns-clause-turns
returns-clause-turns g c = pair-same _ _ (half_write First c.args.offset c.args.bytes.now c.write_half-first.result) (half_write Second c.args.offset c.args.bytes.now c.write_half-second.result) _ refl _ c.write_half-first.ensures.turns c.write_half-second.ensures.turns
