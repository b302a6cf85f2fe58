-- Proof of the contract of `restart`.
use Rattle.std.proofs.Common.{◌∷◌, ◌++◌, [], ◌∙◌, sym, ap, subst}
use Rattle.gw_bytes.specs.Bytes.{AreBytes}
use Rattle.gw_site.specs.Outside.{outside_after, outside_of}
use Rattle.gw_site.specs.declared.turn.Turn.TheVariants.{Crash}
use Rattle.gw_script.specs.site.Hazards.{crash_file}
use Rattle.sim_script.specs.Values.{image_value, lines_value}
use Rattle.sim_site.specs.Sources.{source_terminals}
use Rattle.sim_site.specs.Disks.{HasDisk}
use Rattle.sim_site.specs.Places.{place_value}
use Rattle.sim_site.proofs.PlayedLemmas.{connections_same, connections_there, crash_clears, disk_same, disk_there, part_same, part_stood, stands_restarted, stands_same}
use Rattle.sim_site.proofs.played.Played.restart.Goals as goal

pub invariant_of-self : goal.invariant_of-self
invariant_of-self c =
    let s = c.args.self.now in
    let lines = s.script.lines.items in
    let same = c.in_err-push_crash.ensures.err in
    record {
      source = s.source;
      part = part_same s.scripted (source_terminals s.drill) (lines_value lines) s.log c.push_crash.new.log same s.part;
      stands = λ lit. stands_same s.scripted (source_terminals s.drill) lines s.log c.push_crash.new.log s.place same (s.stands lit);
      disk_is = λ lit. disk_same s.log c.push_crash.new.log s.disk same (s.disk_is lit);
      connections_are = λ lit. connections_same s.log c.push_crash.new.log s.connections same (s.connections_are lit);
    }

pub returns-clause-bytes : goal.returns-clause-bytes
returns-clause-bytes c =
    let s = c.args.self.now in
    let fallen = c.in_ok-disk.ensures (outside_of s.log) (s.disk_is c.requires.whole) in
    subst AreBytes (c.deref.ensures.value ∙ sym fallen.file) c.in_ok-push_crash.ensures.bytes

pub returns-clause-log : goal.returns-clause-log
returns-clause-log c =
    let s = c.args.self.now in
    let fallen = c.in_ok-disk.ensures (outside_of s.log) (s.disk_is c.requires.whole) in
    c.in_ok-push_crash.ensures.ok ∙ ap (λ file. s.log ++ Crash file ∷ []) (c.deref.ensures.value ∙ sym fallen.file)

pub invariant_of-self-2 : goal.invariant_of-self-2
invariant_of-self-2 c =
    let s = c.args.self.now in
    let lines = s.script.lines.items in
    let o = outside_of s.log in
    let file = crash_file (image_value c.args.kind) o in
    let fallen : HasDisk (outside_after o (Crash file)) c.in_ok-disk.disk = c.in_ok-disk.ensures o (s.disk_is c.requires.whole) in
    let grown = c.in_ok-push_crash.ensures.ok ∙ ap (λ bytes. s.log ++ Crash bytes ∷ []) (c.deref.ensures.value ∙ sym fallen.file) in
    let stands = stands_restarted s.scripted (source_terminals s.drill) lines s.log c.push_crash.new.log s.place c.restart.new.self c.args.kind c.requires.off grown (c.restart.ensures.place lines) (s.stands c.requires.whole) in
    record {
      source = s.source;
      part = part_stood s.scripted (source_terminals s.drill) (lines_value lines) c.push_crash.new.log (place_value lines c.restart.new.self) stands;
      stands = λ lit. stands;
      disk_is = λ lit. disk_there s.log c.push_crash.new.log _ c.in_ok-disk.disk grown fallen;
      connections_are = λ lit. connections_there s.log c.push_crash.new.log _ c.clear.new.self grown (crash_clears o file c.clear.new.self (c.clear.ensures o));
    }
