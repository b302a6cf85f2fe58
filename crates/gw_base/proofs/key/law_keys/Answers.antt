-- Proof of the contract of `law_keys`.
use Rattle.gw_base.proofs.KeyLemmas.{key_cmp-ties}
use Rattle.gw_base.proofs.key.law_keys.Goals as goal

pub returns : goal.returns
returns c = key_cmp-ties
