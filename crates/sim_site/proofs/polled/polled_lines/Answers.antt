-- Proof of the contract of `polled_lines`.
use Rattle.std.proofs.Common.{IfOk, refl, sym, ◌∙◌, ap, subst}
use Rattle.std.specs.Prelude.{Some}
use Rattle.sim_site.specs.Made.{EndsPoll}
use Rattle.sim_site.specs.Places.{place_value}
use Rattle.sim_site.proofs.PlayedLemmas.{fell_there, if_followed, none_off, plain_after}
use Rattle.sim_site.proofs.polled.polled_lines.Goals as goal

pub returns-then-is_some-clause-polled : goal.returns-then-is_some-clause-polled
returns-then-is_some-clause-polled c =
    let off = sym c.is_some.ensures ∙ c.if-is_some.true in
    record { power = off; place = λ o held. plain_after o (place_value c.args.lines.now c.args.place.now) c.requires.coming ∙ fell_there o c.args.lines.now c.args.place.now c.sought.new.place _ c.requires.power off (c.in_ok-line.ensures.met o held); connections = refl }

pub returns-clause-polled : goal.returns-clause-polled
returns-clause-polled c =
    let brought = c.in_ok-brought.ensures.brought in
    let P = EndsPoll c.args.lines.now c.args.place.now c.sought.new.place c.args.connections.now c.follow.new.self c.bring.new.buf in
    subst (λ result. IfOk result P) (sym c.and.ensures) (if_followed c.follow.result (Some c.in_ok-brought.brought) P c.follow.ensures (λ followed. record {
      power = none_off c.sought.new.place.off (sym c.is_some.ensures ∙ c.if-is_some.false);
      place = λ o held. plain_after o (place_value c.args.lines.now c.args.place.now) c.requires.coming ∙ c.in_ok-line.ensures.met o held ∙ ap (λ due. record (place_value c.args.lines.now c.sought.new.place) { due = due }) (sym brought.turn);
      what = brought.what ∙ sym brought.turn;
      followed = followed;
      count = brought.count;
      promise = λ o held. brought.promise o (c.in_ok-line.ensures.unskipped o held);
    }))
