-- Proof of the contract of `law_commands`.
use Rattle.xlate.proofs.AskLemmas.{commands_have_digits}
use Rattle.xlate.proofs.laws.law_commands.Goals as goal

pub returns : goal.returns
returns c = commands_have_digits
