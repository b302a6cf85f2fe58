-- Proof of the contract of `write`.
use Rattle.std.proofs.Common.{◌∷◌, [], List, ℕ, inl, inr}
use Rattle.gw_site.specs.Outside.{outside_of}
use Rattle.gw_site.specs.declared.turn.Turn.TheVariants.{Wrote}
use Rattle.gw_site.specs.Steps.{WriteCall}
use Rattle.gw_script.specs.site.Calls.{call_turns}
use Rattle.sim_script.specs.Values.{lines_value}
use Rattle.sim_site.specs.Sources.{source_terminals}
use Rattle.sim_site.specs.Places.{place_value}
use Rattle.sim_site.proofs.PlayedLemmas.{connections_stay, disk_there, never, part_refused, part_same, part_stood, stands_made, write_leaves, write_rest, write_split, write_there}
use Rattle.sim_site.proofs.played.Played.write.Goals as goal

pub invariant_of-self-in-Break-branch-2 : goal.invariant_of-self-in-Break-branch-2
invariant_of-self-in-Break-branch-2 c =
    let s = c.args.self.now in
    let lines = s.script.lines.items in
    let fails = s.place.hazard.write in
    let bytes : List ℕ = c.args.bytes.now in
    let call = WriteCall c.args.offset bytes in
    let turns = call_turns (outside_of s.log) (place_value lines s.place) call in
    let played = s.stands c.requires.whole in
    record {
      source = s.source;
      part = elim c.in_err-push_write.ensures.err [
        | inl same ↦ part_same s.scripted (source_terminals s.drill) (lines_value lines) s.log c.push_write.new.log same s.part
        | inr more ↦ part_refused s.scripted (source_terminals s.drill) lines s.log c.push_write.new.log s.place call (Wrote c.args.offset bytes ∷ []) (write_rest fails) c.requires.power (write_split fails c.args.offset bytes) more played
      ];
      stands = λ lit. never lit;
      disk_is = λ lit. never lit;
      connections_are = λ lit. never lit;
    }

pub invariant_of-self-2 : goal.invariant_of-self-2
invariant_of-self-2 c =
    let s = c.args.self.now in
    let lines = s.script.lines.items in
    let o = outside_of s.log in
    let fails = s.place.hazard.write in
    let grown = c.in_ok-push_write.ensures.ok in
    let stands = stands_made s.scripted (source_terminals s.drill) lines s.log c.push_write.new.log s.place c.write-2.new.self (WriteCall c.args.offset c.args.bytes.now) c.requires.power grown (c.write-2.ensures.moves c.args.offset c.args.bytes.now o lines) (s.stands c.requires.whole) in
    record {
      source = s.source;
      part = part_stood s.scripted (source_terminals s.drill) (lines_value lines) c.push_write.new.log (place_value lines c.write-2.new.self) stands;
      stands = λ lit. stands;
      disk_is = λ lit. disk_there s.log c.push_write.new.log _ c.write.new.self grown (write_there o fails c.args.offset c.args.bytes.now c.write.new.self (c.in_ok-write.ensures o (s.disk_is c.requires.whole)));
      connections_are = λ lit. connections_stay s.log c.push_write.new.log _ s.connections (write_leaves fails c.args.offset c.args.bytes.now) grown (s.connections_are c.requires.whole);
    }
