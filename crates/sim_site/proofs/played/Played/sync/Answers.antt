-- Proof of the contract of `sync`.
use Rattle.gw_site.specs.Outside.{outside_of}
use Rattle.gw_site.specs.Steps.{SyncCall}
use Rattle.sim_script.specs.Values.{lines_value}
use Rattle.sim_site.specs.Sources.{source_terminals}
use Rattle.sim_site.specs.Places.{place_value}
use Rattle.sim_site.proofs.PlayedLemmas.{connections_stay, disk_there, never, part_same, part_stood, stands_made, sync_leaves}
use Rattle.sim_site.proofs.played.Played.sync.Goals as goal

pub invariant_of-self-in-Break-branch-2 : goal.invariant_of-self-in-Break-branch-2
invariant_of-self-in-Break-branch-2 c =
    let s = c.args.self.now in
    record { source = s.source; part = part_same s.scripted (source_terminals s.drill) (lines_value s.script.lines.items) s.log c.push_sync.new.log c.in_err-push_sync.ensures.err s.part; stands = λ lit. never lit; disk_is = λ lit. never lit; connections_are = λ lit. never lit }

pub invariant_of-self-2 : goal.invariant_of-self-2
invariant_of-self-2 c =
    let s = c.args.self.now in
    let lines = s.script.lines.items in
    let o = outside_of s.log in
    let grown = c.in_ok-push_sync.ensures.ok in
    let stands = stands_made s.scripted (source_terminals s.drill) lines s.log c.push_sync.new.log s.place c.sync-2.new.self SyncCall c.requires.power grown (c.sync-2.ensures.moves o lines) (s.stands c.requires.whole) in
    record {
      source = s.source;
      part = part_stood s.scripted (source_terminals s.drill) (lines_value lines) c.push_sync.new.log (place_value lines c.sync-2.new.self) stands;
      stands = λ lit. stands;
      disk_is = λ lit. disk_there s.log c.push_sync.new.log _ c.sync.new.disk grown (c.in_ok-sync.ensures o (s.disk_is c.requires.whole));
      connections_are = λ lit. connections_stay s.log c.push_sync.new.log _ s.connections (sync_leaves s.place.hazard.sync) grown (s.connections_are c.requires.whole);
    }
