-- Whatever memory there is, what was in the buffer stays a prefix of it.
use Rattle.std.proofs.Common.{refl, rules, arith}
use Rattle.std.proofs.lemmas.Grind.{common_steps}
use Rattle.json_text.proofs.GrowthLemmas.{same_grows, grows_on}
use Rattle.sale_msg.proofs.writer.write_parts.Goals as goal

pub loop-part-init : goal.loop-part-init
loop-part-init c = record { spelled = search rules; grows = same_grows c.args.out.now.items c.args.out.now.items refl }

pub loop-part-preserved : goal.loop-part-preserved
loop-part-preserved c = record {
  spelled = grind (arith, common_steps, c.loop-part.invariant.spelled);
  grows = grows_on c.args.out.now.items c.loop-part.out.items _ c.loop-part.invariant.grows c.write_part.ensures.grows;
}

pub returns-in_err-write_part-clause-grows : goal.returns-in_err-write_part-clause-grows
returns-in_err-write_part-clause-grows c = grows_on c.args.out.now.items c.loop-part.out.items _ c.loop-part.invariant.grows c.write_part.ensures.grows
