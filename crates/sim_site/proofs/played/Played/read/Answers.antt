-- Proof of the contract of `read`.
use Rattle.std.proofs.Common.{refl}
use Rattle.gw_site.specs.Outside.{outside_of}
use Rattle.gw_site.specs.Steps.{ReadCall}
use Rattle.sim_script.specs.Values.{lines_value}
use Rattle.sim_site.specs.Sources.{source_terminals}
use Rattle.sim_site.specs.Places.{place_value}
use Rattle.sim_site.proofs.PlayedLemmas.{connections_stay, disk_stays, look_leaves, look_leaves_connections, never, part_same, part_stood, stands_made}
use Rattle.sim_site.proofs.played.Played.read.Goals as goal

pub invariant_of-self : goal.invariant_of-self
invariant_of-self c =
    let s = c.args.self.now in
    record { source = s.source; part = part_same s.scripted (source_terminals s.drill) (lines_value s.script.lines.items) s.log c.push_look.new.log c.in_err-push_look.ensures.err s.part; stands = λ lit. never lit; disk_is = λ lit. never lit; connections_are = λ lit. never lit }

pub invariant_of-self-2 : goal.invariant_of-self-2
invariant_of-self-2 c =
    let s = c.args.self.now in
    let lines = s.script.lines.items in
    let o = outside_of s.log in
    let grown = c.in_ok-push_look.ensures.ok in
    let stands = stands_made s.scripted (source_terminals s.drill) lines s.log c.push_look.new.log s.place c.read.new.self (ReadCall 0 0) c.requires.power grown (c.read.ensures.moves 0 0 o lines) (s.stands c.requires.whole) in
    record {
      source = s.source;
      part = part_stood s.scripted (source_terminals s.drill) (lines_value lines) c.push_look.new.log (place_value lines c.read.new.self) stands;
      stands = λ lit. stands;
      disk_is = λ lit. disk_stays s.log c.push_look.new.log _ s.disk (look_leaves s.place.hazard.read) grown (s.disk_is c.requires.whole);
      connections_are = λ lit. connections_stay s.log c.push_look.new.log _ s.connections (look_leaves_connections s.place.hazard.read) grown (s.connections_are c.requires.whole);
    }

pub returns-clause-made : goal.returns-clause-made
returns-clause-made c = λ offset size.
    let s = c.args.self.now in
    record { whole = refl; log = c.in_ok-push_look.ensures.ok; place = c.read.ensures.moves offset size (outside_of s.log) s.script.lines.items }
