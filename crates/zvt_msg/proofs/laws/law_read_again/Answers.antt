-- Proof of the contract of `law_read_again`.
use Rattle.zvt_msg.proofs.CanonicalLemmas.{command_again, message_again}
use Rattle.zvt_msg.proofs.laws.law_read_again.Goals as goal

pub returns : goal.returns
returns c = record {
  commands = command_again c.law_read_again.ensures.spelled;
  messages = message_again c.law_read_again.ensures.spelled c.law_read_again-2.ensures.spelled c.law_read_again-3.ensures;
}
