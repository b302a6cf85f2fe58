-- Proof of the contract of `write_text`.
use Rattle.std.proofs.Common.{◌∙◌}
use Rattle.json_text.proofs.GrowthLemmas.{truncated}
use Rattle.json_text.proofs.writer.write_text.Goals as goal

pub returns-in-Err-clause-err : goal.returns-in-Err-clause-err
returns-in-Err-clause-err c = truncated c.args.out.now.items _ _ c.len-start.result (c.in-Err.ensures.err.0, c.in-Err.ensures.err.3) (c.len-start.ensures ∙ c.args.out.now.ok.0) c.truncate.ensures.items
