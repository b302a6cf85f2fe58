-- Proof of the contract of `polled`.
use Rattle.std.proofs.Common.{◌∙◌, ap, sym}
use Rattle.sim_site.specs.Places.{place_value}
use Rattle.sim_site.proofs.PollLemmas.{ends_from}
use Rattle.sim_site.proofs.polled.polled.Goals as goal

pub returns-in_ok-bring_next-in-Some-clause-polled : goal.returns-in_ok-bring_next-in-Some-clause-polled
returns-in_ok-bring_next-in-Some-clause-polled c =
    let lines = c.args.lines.now in
    let brought = c.in_ok-bring_next-in-Some.ensures.brought in
    record {
      power = c.in-Some.ensures.power ∙ c.requires;
      place = λ o held. (c.in-Some.ensures.met o lines held).1 ∙ ap (λ due. record (place_value lines c.next.new.self) { due = due }) (sym brought.turn);
      what = brought.what ∙ sym brought.turn;
      followed = c.in_ok-bring_next-in-Some.ensures.followed;
      count = brought.count;
      promise = λ o held. brought.promise o (c.in-Some.ensures.met o lines held).0;
    }

pub returns-in-None-clause-polled : goal.returns-in-None-clause-polled
returns-in-None-clause-polled c = ends_from c.args.lines.now c.args.place.now c.next.new.self _ c.args.connections.now _ _ c.polled_lines.result (λ o held. c.in-None.ensures.met o c.args.lines.now held) c.polled_lines.ensures.polled
