-- Proof of the contract of `on_late`.
use Rattle.std.proofs.lemmas.Int.{to_z-of_z}
use Rattle.gw_base.specs.Moment.{moment_of}
use Rattle.gw_owes.specs.Deadlines.{late_row}
use Rattle.gw_dispatch.proofs.LinkLemmas.{late-keeps}
use Rattle.gw_dispatch.proofs.PerformLemmas.{IsRowOf, MakesCall, keeps-no-link, others-in-order, silenced}
use Rattle.gw_dispatch.proofs.perform.on_late.Goals as goal

pub perform-requires-clause-no_link : goal.perform-requires-clause-no_link
perform-requires-clause-no_link g c =
    let is : IsRowOf c.args.core.now (moment_of c.args.now) (λ known. late_row known c.args.pt) c.args.core.now c.on_moment-wanted.result = simp (to_z-of_z, c.ranges.now) at c.on_moment-wanted.ensures.row in
    keeps-no-link c.args.core.now c.args.core.now (moment_of c.args.now) (λ known. late_row known c.args.pt) c.on_moment-wanted.result (λ known. late-keeps known c.args.pt) is

pub returns-clause-triple : goal.returns-clause-triple
returns-clause-triple g c =
    let is : IsRowOf c.args.core.now (moment_of c.args.now) (λ known. late_row known c.args.pt) c.args.core.now c.on_moment-wanted.result = simp (to_z-of_z, c.ranges.now) at c.on_moment-wanted.ensures.row in
    let makes : MakesCall (g.S.Site.observed c.args.site.now) (g.S.Site.observed c.perform.new.site) c.args.core.now c.perform.new.core c.args.tills.now.list.items c.perform.new.tills.list.items c.args.now c.on_moment-wanted.result = simp (to_z-of_z, c.ranges.now) at c.perform.ensures.triple in
    silenced _ _ c.args.core.now c.perform.new.core c.args.tills.now.list.items c.perform.new.tills.list.items c.args.now c.args.pt c.on_moment-wanted.result is makes

pub returns-clause-order : goal.returns-clause-order
returns-clause-order g c = record {
  settings = c.perform.ensures.settings;
  days = c.perform.ensures.days;
  waits = c.perform.ensures.waits;
  device_requests = c.perform.ensures.device_requests;
  order = λ kept all. c.perform.ensures.order kept (others-in-order kept c.args.core.now c.args.pt all) (λ uncut. all);
}
