-- Proof of the contract of `first_text`.
use Rattle.std.proofs.Common.{◌+◌}
use Rattle.std.proofs.lemmas.List.{take_rest}
use Rattle.sim_script.proofs.SplitLemmas.{text_split, text_whole}
use Rattle.sim_script.proofs.reader.first_text.Goals as goal

pub returns-in-Some-clause-texts : goal.returns-in-Some-clause-texts
returns-in-Some-clause-texts c = rw (take_rest c.args.bytes.now (c.in-Some.end + 1)) (text_split c.args.bytes.now c.in-Some.end c.in-Some.ensures)

pub returns-in-None-clause-texts : goal.returns-in-None-clause-texts
returns-in-None-clause-texts c = text_whole c.args.bytes.now c.requires c.in-None.ensures
