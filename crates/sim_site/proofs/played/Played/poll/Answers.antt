-- Proof of the contract of `poll`.
use Rattle.std.proofs.Common.{◌∷◌, ◌++◌, [], ◌∙◌, sym, ap, subst, rules, inl, inr, append-nil}
use Rattle.std.proofs.lemmas.Int.{to_z-of_z}
use Rattle.std.specs.Prelude.{option_map}
use Rattle.std.specs.Option.{option_to_list}
use mir.Syntax.{w64}
use mir.Val.{SFits}
use Rattle.gw_site.specs.Outside.{outside_of}
use Rattle.gw_site.specs.declared.turn.Turn.TheVariants.{Polled}
use Rattle.gw_site.specs.Steps.{PollCall}
use Rattle.sim_script.specs.Values.{image_value, lines_value}
use Rattle.sim_site.specs.Sources.{source_terminals}
use Rattle.sim_site.specs.Connected.{HasConnections}
use Rattle.sim_site.specs.Made.{HasBrought, HasFallen, EndsPoll}
use Rattle.sim_site.specs.Places.{place_value}
use Rattle.sim_site.proofs.PlayedLemmas.{brought_place, brought_turns, connections_there, disk_stays, event_leaves, fell_place, fell_turns, never, part_refused, part_same, part_stood, poll_followed, poll_leaves, some_image, stands_made}
use Rattle.sim_site.proofs.played.Played.poll.Goals as goal

pub returns-clause-promise : goal.returns-clause-promise
returns-clause-promise c =
    let s = c.args.self.now in
    let next = c.polled.new.place in
    let lines = c.deref.result.now in
    let brought : HasBrought lines s.place next s.connections c.polled.new.connections c.polled.new.buf c.in-Some.brought = subst (EndsPoll lines s.place next s.connections c.polled.new.connections c.polled.new.buf) c.in-Some.is c.in_ok-brought.ensures.polled in
    brought.promise (outside_of s.log) (s.connections_are c.requires.whole)

pub invariant_of-self-in_default : goal.invariant_of-self-in_default
invariant_of-self-in_default c =
    let s = c.args.self.now in
    let lines = s.script.lines.items in
    let o = outside_of s.log in
    let next = c.polled.new.place in
    let fallen : HasFallen lines s.place next s.connections c.polled.new.connections = subst (λ l. HasFallen l s.place next s.connections c.polled.new.connections) c.deref.ensures.value (subst (EndsPoll c.deref.result.now s.place next s.connections c.polled.new.connections c.polled.new.buf) c.in_default.is c.in_ok-brought.ensures.polled) in
    let met = fallen.place o (s.connections_are c.requires.whole) in
    let (kind, off) = some_image next.off fallen.power in
    let p = place_value lines s.place in
    let q = place_value lines next in
    let grown = sym (ap (λ turns. s.log ++ turns) (fell_turns o p q kind met off) ∙ append-nil s.log) in
    let stands = stands_made s.scripted (source_terminals s.drill) lines s.log s.log s.place next PollCall c.requires.power grown (sym (fell_place o p q kind met off)) (s.stands c.requires.whole) in
    record { source = s.source; part = s.part; stands = λ lit. stands; disk_is = λ lit. s.disk_is c.requires.whole; connections_are = λ lit. subst (HasConnections o) (sym fallen.connections) (s.connections_are c.requires.whole) }

pub invariant_of-self-in-Break-branch-2 : goal.invariant_of-self-in-Break-branch-2
invariant_of-self-in-Break-branch-2 c =
    let s = c.args.self.now in
    let lines = s.script.lines.items in
    let o = outside_of s.log in
    let next = c.polled.new.place in
    let brought : HasBrought lines s.place next s.connections c.polled.new.connections c.polled.new.buf c.in-Some.brought = subst (λ l. HasBrought l s.place next s.connections c.polled.new.connections c.polled.new.buf c.in-Some.brought) c.deref.ensures.value (subst (EndsPoll c.deref.result.now s.place next s.connections c.polled.new.connections c.polled.new.buf) c.in-Some.is c.in_ok-brought.ensures.polled) in
    let met = brought.place o (s.connections_are c.requires.whole) in
    let due = option_to_list c.in-Some.brought.turn in
    let turns = brought_turns o (place_value lines s.place) (place_value lines next) due met (ap (option_map image_value) brought.power) in
    let fits : SFits w64 next.moment = search rules in
    record {
      source = s.source;
      part = elim c.in_err-push_poll.ensures.err [
        | inl same ↦ part_same s.scripted (source_terminals s.drill) (lines_value lines) s.log c.push_poll.new.log same s.part
        | inr more ↦ part_refused s.scripted (source_terminals s.drill) lines s.log c.push_poll.new.log s.place PollCall (Polled next.moment ∷ []) due c.requires.power turns (simp (to_z-of_z, fits) at more) (s.stands c.requires.whole)
      ];
      stands = λ lit. never lit;
      disk_is = λ lit. never lit;
      connections_are = λ lit. never lit;
    }

pub invariant_of-self-2 : goal.invariant_of-self-2
invariant_of-self-2 c =
    let s = c.args.self.now in
    let lines = s.script.lines.items in
    let o = outside_of s.log in
    let next = c.polled.new.place in
    let brought : HasBrought lines s.place next s.connections c.polled.new.connections c.polled.new.buf c.in-Some.brought = subst (λ l. HasBrought l s.place next s.connections c.polled.new.connections c.polled.new.buf c.in-Some.brought) c.deref.ensures.value (subst (EndsPoll c.deref.result.now s.place next s.connections c.polled.new.connections c.polled.new.buf) c.in-Some.is c.in_ok-brought.ensures.polled) in
    let met = brought.place o (s.connections_are c.requires.whole) in
    let due = option_to_list c.in-Some.brought.turn in
    let p = place_value lines s.place in
    let q = place_value lines next in
    let off = ap (option_map image_value) brought.power in
    let fits : SFits w64 next.moment = search rules in
    let pushed = simp (to_z-of_z, fits) at c.in_ok-push_poll.ensures.ok in
    let grown = pushed ∙ ap (λ turns. s.log ++ turns) (sym (brought_turns o p q due met off)) in
    let event = pushed ∙ ap (λ turns. s.log ++ Polled next.moment ∷ turns) (sym brought.what) in
    let stands = stands_made s.scripted (source_terminals s.drill) lines s.log c.push_poll.new.log s.place next PollCall c.requires.power grown (sym (brought_place o p q due met off)) (s.stands c.requires.whole) in
    record {
      source = s.source;
      part = part_stood s.scripted (source_terminals s.drill) (lines_value lines) c.push_poll.new.log q stands;
      stands = λ lit. stands;
      disk_is = λ lit. disk_stays s.log c.push_poll.new.log _ s.disk (poll_leaves next.moment _ (event_leaves c.in-Some.brought.what c.polled.new.buf)) event (s.disk_is c.requires.whole);
      connections_are = λ lit. connections_there s.log c.push_poll.new.log _ c.polled.new.connections event (poll_followed o next.moment s.connections c.polled.new.connections c.in-Some.brought.what c.polled.new.buf brought.followed (s.connections_are c.requires.whole));
    }
