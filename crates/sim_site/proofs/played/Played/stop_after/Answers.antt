-- Proof of the contract of `stop_after`.
use Rattle.sim_script.specs.Values.{image_value, lines_value}
use Rattle.sim_site.specs.Sources.{source_terminals}
use Rattle.sim_site.proofs.PlayedLemmas.{part_loosened, stands_stopped}
use Rattle.sim_site.proofs.played.Played.stop_after.Goals as goal

pub invariant_of-self : goal.invariant_of-self
invariant_of-self c =
    let s = c.args.self.now in
    let lines = s.script.lines.items in
    record {
      source = s.source;
      part = part_loosened s.scripted (source_terminals s.drill) (lines_value lines) s.log s.part;
      stands = λ lit. stands_stopped s.scripted (source_terminals s.drill) lines s.log s.place c.fail_after.new.self c.args.calls (image_value c.args.kind) (c.fail_after.ensures.place lines) (s.stands lit);
      disk_is = s.disk_is;
      connections_are = s.connections_are;
    }
