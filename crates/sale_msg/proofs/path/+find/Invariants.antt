-- Why `find` ends.
use Rattle.std.proofs.Common.{length}
use Rattle.sale_msg.proofs.path.+find.Given as goal

abbrev pub decreases-find : goal.decreases-find
decreases-find l = length l.path.now
