-- Proof of the contract of `greet`.
use Rattle.std.proofs.lemmas.Int.{to_z-of_z}
use Rattle.gw_base.specs.Moment.{moment_of}
use Rattle.zvt_msg.specs.Message.{value_of as message_value}
use Rattle.gw_owes.specs.Greeting.{greeted_row}
use Rattle.gw_dispatch.proofs.LinkLemmas.{greeted-keeps}
use Rattle.gw_dispatch.proofs.PerformLemmas.{MakesCall, greeted, keeps-no-link, others-in-order}
use Rattle.gw_dispatch.proofs.messages.greet.Goals as goal

pub perform-requires-clause-no_link : goal.perform-requires-clause-no_link
perform-requires-clause-no_link g c =
    keeps-no-link c.args.core.now c.args.core.now (moment_of c.args.now) (λ known. greeted_row known c.args.pt (message_value c.args.message.now)) c.greet-greeting.result (λ known. greeted-keeps known c.args.pt (message_value c.args.message.now))
    (λ setup kept. c.greet-greeting.ensures.row setup kept (moment_of c.args.now))

pub returns-clause-triple : goal.returns-clause-triple
returns-clause-triple g c = λ apdu decoded.
    let makes : MakesCall (g.S.Site.observed c.args.site.now) (g.S.Site.observed c.perform.new.site) c.args.core.now c.perform.new.core c.args.tills.now.list.items c.perform.new.tills.list.items c.args.now c.greet-greeting.result = simp (to_z-of_z, c.ranges.now) at c.perform.ensures.triple in
    greeted _ _ c.args.core.now c.perform.new.core c.args.tills.now.list.items c.perform.new.tills.list.items c.args.now c.args.pt apdu (message_value c.args.message.now) c.greet-greeting.result decoded (λ setup kept. c.greet-greeting.ensures.row setup kept (moment_of c.args.now)) makes

pub returns-clause-order : goal.returns-clause-order
returns-clause-order g c = record {
  settings = c.perform.ensures.settings;
  days = c.perform.ensures.days;
  waits = c.perform.ensures.waits;
  device_requests = c.perform.ensures.device_requests;
  order = λ kept all. c.perform.ensures.order kept (others-in-order kept c.args.core.now c.args.pt all) (λ uncut. all);
}
