-- Proof of the contract of `line_end`.
use Rattle.sim_script.proofs.SplitLemmas.{found_is}
use Rattle.sim_script.proofs.reader.line_end.Goals as goal

pub returns : goal.returns
returns c = found_is c.args.bytes.now c.memchr.result c.memchr.ensures
