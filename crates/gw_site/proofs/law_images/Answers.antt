-- Proof of the contract of `law_images`.
use Rattle.gw_site.proofs.ImageLemmas.{stable_image, file_image, junk_image}
use Rattle.gw_site.proofs.law_images.Goals as goal

pub returns-clause-stable : goal.returns-clause-stable
returns-clause-stable c = stable_image

pub returns-clause-file : goal.returns-clause-file
returns-clause-file c = file_image

pub returns-clause-junk : goal.returns-clause-junk
returns-clause-junk c = junk_image
