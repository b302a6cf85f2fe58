-- Proof of the contract of `hold`.
use Rattle.std.proofs.Common.{◌∷◌, ◌++◌, [], ◌∙◌, ap}
use Rattle.gw_site.specs.Outside.{outside_of}
use Rattle.gw_site.specs.declared.turn.Turn.TheVariants.{Crash}
use Rattle.sim_script.specs.Values.{lines_value}
use Rattle.sim_site.specs.Sources.{source_terminals}
use Rattle.sim_site.proofs.PlayedLemmas.{connections_same, connections_there, crash_clears, disk_same, disk_there, part_held, part_same, stands_held, stands_same}
use Rattle.sim_site.proofs.played.Played.hold.Goals as goal

pub invariant_of-self : goal.invariant_of-self
invariant_of-self c =
    let s = c.args.self.now in
    let lines = s.script.lines.items in
    let same = c.in_err-push_crash.ensures.err in
    record {
      source = s.source;
      part = part_same s.scripted (source_terminals s.drill) (lines_value lines) s.log c.push_crash.new.log same s.part;
      stands = λ lit. stands_same s.scripted (source_terminals s.drill) lines s.log c.push_crash.new.log s.place same (s.stands lit);
      disk_is = λ lit. disk_same s.log c.push_crash.new.log s.disk same (s.disk_is lit);
      connections_are = λ lit. connections_same s.log c.push_crash.new.log s.connections same (s.connections_are lit);
    }

pub invariant_of-self-2 : goal.invariant_of-self-2
invariant_of-self-2 c =
    let s = c.args.self.now in
    let o = outside_of s.log in
    let lines = s.script.lines.items in
    let grown = c.in_ok-push_crash.ensures.ok in
    let first = grown ∙ ap (λ log. log ++ Crash c.args.file.now ∷ []) c.requires in
    record {
      source = s.source;
      part = part_held (source_terminals s.drill) (lines_value lines) c.push_crash.new.log c.args.file.now first;
      stands = λ lit. stands_held s.scripted (source_terminals s.drill) lines s.log c.push_crash.new.log s.place c.args.file.now c.requires first (s.stands lit);
      disk_is = λ lit. disk_there s.log c.push_crash.new.log _ c.in_ok-disk.disk grown (c.in_ok-disk.ensures o);
      connections_are = λ lit. connections_there s.log c.push_crash.new.log _ c.clear.new.self grown (crash_clears o c.args.file.now c.clear.new.self (c.clear.ensures o));
    }
