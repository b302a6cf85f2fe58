-- Proof of the contract of `law_words`.
use Rattle.std.proofs.Common.{refl}
use Rattle.clap.proofs.OnLiterals.{clap_on_literals}
use Rattle.gw_run.proofs.laws.law_words.Goals as goal

pub returns-clause-accepted : goal.returns-clause-accepted
unfolding clap_on_literals
returns-clause-accepted c = record { serve = refl; replay = refl; turns = refl; before = refl; plus = refl; zeros = refl; drill = refl; numbers = refl; others = refl }

pub returns-clause-refused : goal.returns-clause-refused
unfolding clap_on_literals
returns-clause-refused c = record { none = refl; two = refl; other = refl; more = refl; twice = refl; negative = refl; large = refl; valueless = refl; unknown = refl; help = refl; payments = refl }
