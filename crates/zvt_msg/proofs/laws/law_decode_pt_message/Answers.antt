-- Proof of the contract of `law_decode_pt_message`.
use Rattle.std.proofs.Common.{sym, subst, ◌∙◌}
use Rattle.zvt_msg.specs.MessageGrammar.{SpellsPtMessageOrFault}
use Rattle.zvt_msg.proofs.MessageLemmas.{reports, only_reports}
use Rattle.zvt_msg.proofs.laws.law_decode_pt_message.Goals as goal

pub returns-clause-only : goal.returns-clause-only
returns-clause-only c apdu a b first second = sym (only_reports apdu a first) ∙ only_reports apdu b second

pub returns-clause-computes : goal.returns-clause-computes
returns-clause-computes c apdu reported = ((λ is. subst (SpellsPtMessageOrFault apdu) is (reports apdu)), only_reports apdu reported)
