-- Proof of the contract of `write`.
use Rattle.std.proofs.Common.{◌∙◌}
use Rattle.json_text.proofs.GrowthLemmas.{truncated}
use Rattle.json_text.proofs.writer.write.Goals as goal

pub returns-in-Err-clause-err : goal.returns-in-Err-clause-err
returns-in-Err-clause-err c = truncated c.args.out.now.items _ _ c.len-before.result c.in-Err.ensures.grows (c.len-before.ensures ∙ c.args.out.now.ok.0) c.truncate.ensures.items
