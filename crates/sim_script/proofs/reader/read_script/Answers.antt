-- Proof of the contract of `read_script`.
use Rattle.std.proofs.Common.{◌∙◌, ap, arith}
use Rattle.gw_script.specs.Decode.{split_lines}
use Rattle.gw_script.specs.site.Decode.{script_from}
use Rattle.sim_script.specs.Values.{whole_script_value}
use Rattle.sim_script.proofs.ScriptLemmas.{line_taken}
use Rattle.sim_script.proofs.reader.read_script.Goals as goal

pub loop-rest-preserved : goal.loop-rest-preserved
loop-rest-preserved c = record {
  counted = omega arith;
  read =
      let script = whole_script_value c.loop-rest.script in
      let number = c.loop-rest.number in
      let taken = rw c.if-not-branch.false at c.in_ok-add_text.ensures in
      c.loop-rest.invariant.read
      ∙ ap (λ texts. script_from script number texts) c.first_text.ensures.texts
      ∙ line_taken script (whole_script_value c.add_text.new.script) number c.first_text.result.0.now (split_lines c.first_text.result.1.now) taken;
}
