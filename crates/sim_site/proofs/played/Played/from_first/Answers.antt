-- Proof of the contract of `from_first`.
use Rattle.std.proofs.Common.{◌≡◌, ◌∙◌, sym, subst, ap, true}
use Rattle.gw_site.specs.Outside.{nothing_yet, outside_of}
use Rattle.gw_script.specs.site.Playing.{begins_with}
use Rattle.sim_script.specs.Values.{lines_value}
use Rattle.sim_site.specs.Connected.{HasConnections}
use Rattle.sim_site.specs.Disks.{HasDisk}
use Rattle.sim_site.specs.Places.{place_value}
use Rattle.sim_site.specs.Sources.{source_terminals}
use Rattle.sim_site.proofs.PlayedLemmas.{part_stood, stands_first}
use Rattle.sim_site.proofs.played.Played.from_first.Goals as goal

pub invariant_of-result : goal.invariant_of-result
invariant_of-result c =
    let lines = c.args.script.lines.items in
    let these = source_terminals c.args.drill in
    let none = c.no_turns.ensures in
    let place = subst (λ l. place_value l c.in_ok-place.place ≡ begins_with c.args.terminals.items (lines_value l)) c.deref.ensures.value c.in_ok-place.ensures.place ∙ ap (λ ts. begins_with ts (lines_value lines)) c.requires.terminals in
    let first = stands_first these (lines_value lines) c.no_turns.result (place_value lines c.in_ok-place.place) none place in
    record {
      source = c.requires.source;
      part = part_stood true these (lines_value lines) c.no_turns.result (place_value lines c.in_ok-place.place) first;
      stands = λ lit. first;
      disk_is = λ lit. subst (λ log. HasDisk (outside_of log) c.empty.result) (sym none) c.empty.ensures;
      connections_are = λ lit. subst (λ log. HasConnections (outside_of log) c.none.result) (sym none) (c.none.ensures nothing_yet);
    }
