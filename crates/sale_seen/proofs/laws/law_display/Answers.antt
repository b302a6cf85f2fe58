-- Proof of the contract of `law_display`.
use Rattle.sale_seen.proofs.ReplyLemmas.{display_lacks}
use Rattle.sale_seen.proofs.laws.law_display.Goals as goal

pub returns : goal.returns
returns c = display_lacks
