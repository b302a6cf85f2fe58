-- Why `currency_among` ends.
use Rattle.std.proofs.Common.{length}
use Rattle.sim_script.proofs.word.+currency_among.Given as goal

abbrev pub decreases-currency_among : goal.decreases-currency_among
decreases-currency_among l = length l.currencies.now
