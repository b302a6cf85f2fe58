-- Proof of the contract of `law_append`.
use Rattle.jrn_log.proofs.AppendLemmas.{append_images, append_rests}
use Rattle.jrn_log.proofs.law_append.Goals as goal

pub returns-clause-images : goal.returns-clause-images
returns-clause-images c = append_images

pub returns-clause-rests : goal.returns-clause-rests
returns-clause-rests c = append_rests
