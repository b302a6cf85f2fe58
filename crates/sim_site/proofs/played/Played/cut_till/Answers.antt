-- Proof of the contract of `cut_till`.
use Rattle.std.proofs.Common.{◌∷◌, [], refl}
use Rattle.gw_site.specs.Outside.{outside_of}
use Rattle.gw_site.specs.declared.turn.Turn.TheVariants.{CutTill}
use Rattle.gw_site.specs.Steps.{CutTillCall}
use Rattle.sim_script.specs.Values.{lines_value}
use Rattle.sim_site.specs.Sources.{source_terminals}
use Rattle.sim_site.specs.Places.{place_value}
use Rattle.sim_site.proofs.PlayedLemmas.{connections_there, disk_stays, never, part_same, part_stood, stands_made}
use Rattle.sim_site.proofs.played.Played.cut_till.Goals as goal

pub invariant_of-self : goal.invariant_of-self
invariant_of-self c =
    let s = c.args.self.now in
    record { source = s.source; part = part_same s.scripted (source_terminals s.drill) (lines_value s.script.lines.items) s.log c.push.new.self c.in_err-push.ensures.err s.part; stands = λ lit. never lit; disk_is = λ lit. never lit; connections_are = λ lit. never lit }

pub invariant_of-self-2 : goal.invariant_of-self-2
invariant_of-self-2 c =
    let s = c.args.self.now in
    let lines = s.script.lines.items in
    let o = outside_of s.log in
    let grown = c.in_ok-push.ensures.ok in
    let stands = stands_made s.scripted (source_terminals s.drill) lines s.log c.push.new.self s.place c.cut.new.self (CutTillCall c.args.till) c.requires.power grown (c.cut.ensures.tills c.args.till o lines) (s.stands c.requires.whole) in
    record {
      source = s.source;
      part = part_stood s.scripted (source_terminals s.drill) (lines_value lines) c.push.new.self (place_value lines c.cut.new.self) stands;
      stands = λ lit. stands;
      disk_is = λ lit. disk_stays s.log c.push.new.self (CutTill c.args.till ∷ []) s.disk (record { file = λ o. refl; stable = λ o. refl; written = λ o. refl }) grown (s.disk_is c.requires.whole);
      connections_are = λ lit. connections_there s.log c.push.new.self (CutTill c.args.till ∷ []) c.cut_till.new.self grown (c.cut_till.ensures o (s.connections_are c.requires.whole));
    }

pub returns-clause-made : goal.returns-clause-made
returns-clause-made c =
    let s = c.args.self.now in
    record { whole = refl; log = c.in_ok-push.ensures.ok; place = c.cut.ensures.tills c.args.till (outside_of s.log) s.script.lines.items }
