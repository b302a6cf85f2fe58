-- Proof of the contract of `link`.
use Rattle.std.proofs.Common.{arith, ◌<◌, ◌∙◌, sym, subst}
use Rattle.std.proofs.lemmas.Int.{to_z-of_z}
use Rattle.gw_base.specs.Moment.{moment_of}
use Rattle.gw_owes.specs.Links.{link_row}
use Rattle.gw_owes.specs.RecordLaws.{AreTerminalsInOrder}
use Rattle.gw_owes.specs.TerminalLaws.{ChangesTerminalAlone}
use Rattle.gw_core.specs.IsRow.{link_event_of}
use Rattle.gw_dispatch.specs.RunState.{OthersStayInOrder}
use Rattle.gw_dispatch.proofs.GrowthLemmas.{pt-linked, stands-then}
use Rattle.gw_dispatch.proofs.PerformLemmas.{IsRowOf, MakesCall, link-tried, link-has, link-alone, link-no-link, link-orders, others-have, others-in-order}
use Rattle.gw_dispatch.proofs.RunStateLemmas.{waits-then}
use Rattle.gw_dispatch.proofs.perform.link.Goals as goal

pub perform-requires-clause-there : goal.perform-requires-clause-there
perform-requires-clause-there g c =
    let is : IsRowOf c.args.core.now (moment_of c.args.now) (λ known. link_row known c.args.pt (link_event_of c.is_ok-made.result)) c.on_link-wanted.new.self c.on_link-wanted.result = simp (to_z-of_z, c.ranges.now) at c.on_link-wanted.ensures.row in
    let alone : ChangesTerminalAlone c.args.pt c.args.core.now c.on_link-wanted.new.self = link-alone c.args.core.now c.on_link-wanted.new.self (moment_of c.args.now) c.args.pt (link_event_of c.is_ok-made.result) c.on_link-wanted.result is in
    subst (λ count. c.args.pt < count) (sym alone.count) c.requires.there

pub perform-requires-clause-no_link : goal.perform-requires-clause-no_link
perform-requires-clause-no_link g c =
    let is : IsRowOf c.args.core.now (moment_of c.args.now) (λ known. link_row known c.args.pt (link_event_of c.is_ok-made.result)) c.on_link-wanted.new.self c.on_link-wanted.result = simp (to_z-of_z, c.ranges.now) at c.on_link-wanted.ensures.row in
    link-no-link c.args.core.now c.on_link-wanted.new.self (moment_of c.args.now) c.args.pt (link_event_of c.is_ok-made.result) c.on_link-wanted.result is

pub perform-requires-clause-others : goal.perform-requires-clause-others
perform-requires-clause-others g c =
    let is : IsRowOf c.args.core.now (moment_of c.args.now) (λ known. link_row known c.args.pt (link_event_of c.is_ok-made.result)) c.on_link-wanted.new.self c.on_link-wanted.result = simp (to_z-of_z, c.ranges.now) at c.on_link-wanted.ensures.row in
    others-have c.on_link-wanted.new.self c.args.pt (link-has c.args.core.now c.on_link-wanted.new.self (moment_of c.args.now) c.args.pt (link_event_of c.is_ok-made.result) c.on_link-wanted.result (others-have c.args.core.now c.args.pt c.requires.dialogues) is)

pub perform-requires-clause-dialogues : goal.perform-requires-clause-dialogues
perform-requires-clause-dialogues g c = λ uncut.
    let is : IsRowOf c.args.core.now (moment_of c.args.now) (λ known. link_row known c.args.pt (link_event_of c.is_ok-made.result)) c.on_link-wanted.new.self c.on_link-wanted.result = simp (to_z-of_z, c.ranges.now) at c.on_link-wanted.ensures.row in
    link-has c.args.core.now c.on_link-wanted.new.self (moment_of c.args.now) c.args.pt (link_event_of c.is_ok-made.result) c.on_link-wanted.result (others-have c.args.core.now c.args.pt c.requires.dialogues) is

pub returns-clause-triple : goal.returns-clause-triple
returns-clause-triple g c =
    let is : IsRowOf c.args.core.now (moment_of c.args.now) (λ known. link_row known c.args.pt (link_event_of c.is_ok-made.result)) c.on_link-wanted.new.self c.on_link-wanted.result = simp (to_z-of_z, c.ranges.now) at c.on_link-wanted.ensures.row in
    let makes : MakesCall (g.S.Site.observed c.link_pt.new.self) (g.S.Site.observed c.perform.new.site) c.on_link-wanted.new.self c.perform.new.core c.args.tills.now.list.items c.perform.new.tills.list.items c.args.now c.on_link-wanted.result = simp (to_z-of_z, c.ranges.now) at c.perform.ensures.triple in
    link-tried _ _ _ c.args.core.now c.on_link-wanted.new.self c.perform.new.core c.args.tills.now.list.items c.perform.new.tills.list.items c.args.now c.args.pt c.link_pt.result c.is_ok-made.result c.on_link-wanted.result c.is_ok-made.ensures.value c.requires.there c.requires.unlinked is c.link_pt.ensures.turns c.link_pt.ensures.step makes

pub returns-clause-count : goal.returns-clause-count
returns-clause-count g c =
    let is : IsRowOf c.args.core.now (moment_of c.args.now) (λ known. link_row known c.args.pt (link_event_of c.is_ok-made.result)) c.on_link-wanted.new.self c.on_link-wanted.result = simp (to_z-of_z, c.ranges.now) at c.on_link-wanted.ensures.row in
    let alone : ChangesTerminalAlone c.args.pt c.args.core.now c.on_link-wanted.new.self = link-alone c.args.core.now c.on_link-wanted.new.self (moment_of c.args.now) c.args.pt (link_event_of c.is_ok-made.result) c.on_link-wanted.result is in
    c.perform.ensures.count ∙ alone.count

pub returns-clause-order : goal.returns-clause-order
returns-clause-order g c =
    let is : IsRowOf c.args.core.now (moment_of c.args.now) (λ known. link_row known c.args.pt (link_event_of c.is_ok-made.result)) c.on_link-wanted.new.self c.on_link-wanted.result = simp (to_z-of_z, c.ranges.now) at c.on_link-wanted.ensures.row in
    let stays : OthersStayInOrder c.args.pt c.args.core.now c.on_link-wanted.new.self = link-orders c.args.core.now c.on_link-wanted.new.self (moment_of c.args.now) c.args.pt (link_event_of c.is_ok-made.result) c.on_link-wanted.result is in
    record {
      settings = c.perform.ensures.settings ∙ stays.settings;
      days = omega (arith, c.perform.ensures.days, stays.days);
      waits = waits-then c.args.core.now c.on_link-wanted.new.self c.perform.new.core stays.waits c.perform.ensures.waits;
      device_requests = c.perform.ensures.device_requests ∙ stays.device_requests;
      order = λ kept all.
          let mid : AreTerminalsInOrder kept c.on_link-wanted.new.self = stays.order kept (others-in-order kept c.args.core.now c.args.pt all) in
          c.perform.ensures.order kept (others-in-order kept c.on_link-wanted.new.self c.args.pt mid) (λ uncut. mid);
    }

pub returns-clause-goes_on : goal.returns-clause-goes_on
returns-clause-goes_on g c = stands-then _ _ _ (pt-linked _ _ c.args.pt c.link_pt.result c.link_pt.ensures.turns c.link_pt.ensures.cause) c.perform.ensures.goes_on
