-- Proof of the contract of `open`.
use Rattle.std.proofs.Common.{sym, subst}
use Rattle.gw_site.specs.Outside.{outside_of}
use Rattle.gw_site.specs.Steps.{OpenCall}
use Rattle.sim_script.specs.Values.{lines_value}
use Rattle.sim_site.specs.Sources.{source_terminals}
use Rattle.sim_site.specs.Connected.{HasConnections}
use Rattle.sim_site.specs.Places.{place_value}
use Rattle.sim_site.proofs.PlayedLemmas.{connections_there, disk_stays, never, open_clears, open_leaves, part_same, part_stood, stands_made}
use Rattle.sim_site.proofs.played.Played.open.Goals as goal

pub invariant_of-self : goal.invariant_of-self
invariant_of-self c =
    let s = c.args.self.now in
    record { source = s.source; part = part_same s.scripted (source_terminals s.drill) (lines_value s.script.lines.items) s.log c.push_open.new.log c.in_err-push_open.ensures.err s.part; stands = λ lit. never lit; disk_is = λ lit. never lit; connections_are = λ lit. never lit }

pub invariant_of-self-2 : goal.invariant_of-self-2
invariant_of-self-2 c =
    let s = c.args.self.now in
    let lines = s.script.lines.items in
    let o = outside_of s.log in
    let fails = s.place.hazard.open in
    let grown = c.in_ok-push_open.ensures.ok in
    let stands = stands_made s.scripted (source_terminals s.drill) lines s.log c.push_open.new.log s.place c.open.new.self (OpenCall c.args.setup.now) c.requires.power grown (c.open.ensures.moves c.args.setup.now o lines) (s.stands c.requires.whole) in
    record {
      source = s.source;
      part = part_stood s.scripted (source_terminals s.drill) (lines_value lines) c.push_open.new.log (place_value lines c.open.new.self) stands;
      stands = λ lit. stands;
      disk_is = λ lit. disk_stays s.log c.push_open.new.log _ s.disk (open_leaves fails c.args.setup.now) grown (s.disk_is c.requires.whole);
      connections_are = λ lit. connections_there s.log c.push_open.new.log _ c.clear.new.self grown (subst (λ x. HasConnections x c.clear.new.self) (sym (open_clears o fails c.args.setup.now)) (c.clear.ensures o));
    }
