-- What the loop of `read_script` keeps, and why it ends.
use Rattle.std.proofs.Common.{◌≡◌, ◌≤◌, ◌+◌, length}
use Rattle.gw_script.specs.Decode.{split_lines}
use Rattle.gw_script.specs.site.Decode.{script_from, script_of}
use Rattle.sim_script.specs.Values.{whole_script_value}
use Rattle.sim_script.proofs.reader.read_script.Given as goal

abbrev pub invariant-loop-rest : goal.invariant-loop-rest
invariant-loop-rest l = record {
  counted : l.number + length l.rest ≤ length l.bytes + 1;
  read : script_of l.bytes ≡ script_from (whole_script_value l.script) l.number (split_lines l.rest);
}

abbrev pub decreases-loop-rest : goal.decreases-loop-rest
decreases-loop-rest l = length l.rest
