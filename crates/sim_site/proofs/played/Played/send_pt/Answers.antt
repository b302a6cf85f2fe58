-- Proof of the contract of `send_pt`.
use Rattle.std.proofs.Common.{◌∷◌, ◌++◌, [], ◌∙◌, refl, ap}
use Rattle.std.specs.Prelude.{is_some, not}
use Rattle.gw_site.specs.Outside.{outside_of}
use Rattle.gw_site.specs.declared.turn.Turn.TheVariants.{SentPt}
use Rattle.gw_site.specs.Steps.{SendPtCall}
use Rattle.gw_script.specs.site.Hazards.{sent_of, takes_most}
use Rattle.sim_script.specs.Values.{lines_value}
use Rattle.sim_site.specs.Sources.{source_terminals}
use Rattle.sim_site.specs.Hazards.{sends_value}
use Rattle.sim_site.specs.Places.{place_value}
use Rattle.sim_site.proofs.PlayedLemmas.{connections_stay, disk_stays, never, part_same, part_stood, stands_made}
use Rattle.sim_site.proofs.played.Played.send_pt.Goals as goal

pub invariant_of-self : goal.invariant_of-self
invariant_of-self c =
    let s = c.args.self.now in
    record { source = s.source; part = s.part; stands = λ lit. never lit; disk_is = λ lit. never lit; connections_are = λ lit. never lit }

pub invariant_of-self-in-Break-branch-2 : goal.invariant_of-self-in-Break-branch-2
invariant_of-self-in-Break-branch-2 c =
    let s = c.args.self.now in
    record { source = s.source; part = part_same s.scripted (source_terminals s.drill) (lines_value s.script.lines.items) s.log c.push_send_pt.new.log c.in_err-push_send_pt.ensures.err s.part; stands = λ lit. never lit; disk_is = λ lit. never lit; connections_are = λ lit. never lit }

pub invariant_of-self-2 : goal.invariant_of-self-2
invariant_of-self-2 c =
    let s = c.args.self.now in
    let lines = s.script.lines.items in
    let o = outside_of s.log in
    let most = c.takes_most-most.result in
    let bytes = c.args.bytes.now in
    let pushed = c.in_ok-push_send_pt.ensures.ok in
    let grown = pushed ∙ ap (λ most. s.log ++ SentPt c.args.pt (sent_of most bytes) (not (is_some most)) ∷ []) (c.takes_most-most.ensures ∙ ap (takes_most (sends_value s.place.hazard.pts)) c.from.ensures) in
    let stands = stands_made s.scripted (source_terminals s.drill) lines s.log c.push_send_pt.new.log s.place c.send_pt.new.self (SendPtCall c.args.pt c.args.bytes.now) c.requires.power grown (c.in_ok-send_pt.ensures o lines) (s.stands c.requires.whole) in
    record {
      source = s.source;
      part = part_stood s.scripted (source_terminals s.drill) (lines_value lines) c.push_send_pt.new.log (place_value lines c.send_pt.new.self) stands;
      stands = λ lit. stands;
      disk_is = λ lit. disk_stays s.log c.push_send_pt.new.log (SentPt c.args.pt (sent_of most bytes) (not (is_some most)) ∷ []) s.disk (record { file = λ o. refl; stable = λ o. refl; written = λ o. refl }) pushed (s.disk_is c.requires.whole);
      connections_are = λ lit. connections_stay s.log c.push_send_pt.new.log (SentPt c.args.pt (sent_of most bytes) (not (is_some most)) ∷ []) s.connections (record { tills = λ o. refl; next = λ o. refl; links = λ o. refl }) pushed (s.connections_are c.requires.whole);
    }

pub returns-clause-made : goal.returns-clause-made
returns-clause-made c =
    let s = c.args.self.now in
    let bytes = c.args.bytes.now in
    record { whole = refl; log = c.in_ok-push_send_pt.ensures.ok ∙ ap (λ most. s.log ++ SentPt c.args.pt (sent_of most bytes) (not (is_some most)) ∷ []) (c.takes_most-most.ensures ∙ ap (takes_most (sends_value s.place.hazard.pts)) c.from.ensures); place = c.in_ok-send_pt.ensures (outside_of s.log) s.script.lines.items }
