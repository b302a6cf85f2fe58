-- Proof of the contract of `link`.
use Rattle.std.proofs.Common.{◌≡◌, ◌∷◌, ◌++◌, [], ◌∙◌, ap}
use Rattle.std.specs.Prelude.{if◌then◌else◌}
use Rattle.gw_site.specs.Outside.{outside_of}
use Rattle.gw_site.specs.declared.turn.Turn.TheVariants.{Linked, LinkFailed}
use Rattle.gw_site.specs.Steps.{LinkCall}
use Rattle.gw_script.specs.site.Hazards.{is_failing}
use Rattle.sim_script.specs.Values.{lines_value}
use Rattle.sim_site.specs.Sources.{source_terminals}
use Rattle.sim_site.specs.Hazards.{links_value}
use Rattle.sim_site.specs.Places.{place_value}
use Rattle.sim_site.proofs.PlayedLemmas.{connections_there, disk_stays, link_leaves, never, part_same, part_stood, stands_made}
use Rattle.sim_site.proofs.played.Played.link.Goals as goal

pub invariant_of-self-in-Break-branch-2 : goal.invariant_of-self-in-Break-branch-2
invariant_of-self-in-Break-branch-2 c =
    let s = c.args.self.now in
    record { source = s.source; part = part_same s.scripted (source_terminals s.drill) (lines_value s.script.lines.items) s.log c.push_link.new.log c.in_err-push_link.ensures.err s.part; stands = λ lit. never lit; disk_is = λ lit. never lit; connections_are = λ lit. never lit }

pub invariant_of-self-2 : goal.invariant_of-self-2
invariant_of-self-2 c =
    let s = c.args.self.now in
    let lines = s.script.lines.items in
    let o = outside_of s.log in
    let fails : c.is_failing-fails.result ≡ is_failing (links_value s.place.hazard.links) c.args.pt = c.is_failing-fails.ensures in
    let turns = c.in_ok-push_link.ensures.ok in
    let grown = turns ∙ ap (λ b. s.log ++ (if b then LinkFailed c.args.pt ∷ [] else Linked c.args.pt ∷ [])) fails in
    let stands = stands_made s.scripted (source_terminals s.drill) lines s.log c.push_link.new.log s.place c.link-2.new.self (LinkCall c.args.pt) c.requires.power grown (c.link-2.ensures.moves o lines) (s.stands c.requires.whole) in
    record {
      source = s.source;
      part = part_stood s.scripted (source_terminals s.drill) (lines_value lines) c.push_link.new.log (place_value lines c.link-2.new.self) stands;
      stands = λ lit. stands;
      disk_is = λ lit. disk_stays s.log c.push_link.new.log _ s.disk (link_leaves c.is_failing-fails.result c.args.pt) turns (s.disk_is c.requires.whole);
      connections_are = λ lit. connections_there s.log c.push_link.new.log _ c.link.new.connections turns (c.in_ok-link.ensures o (s.connections_are c.requires.whole));
    }
