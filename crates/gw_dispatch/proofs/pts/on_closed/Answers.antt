-- Proof of the contract of `on_closed`.
use Rattle.std.proofs.Common.{refl, inl, sym, ◌∙◌}
use Rattle.std.proofs.lemmas.Int.{to_z-of_z}
use Rattle.gw_base.specs.Moment.{moment_of}
use Rattle.gw_owes.specs.Links.{LinkIsLost, link_row}
use Rattle.gw_rules.proofs.TripleLemmas.{triple-then}
use Rattle.gw_core.specs.IsRow.{known_with}
use Rattle.gw_dispatch.specs.MidRound.{AreReady}
use Rattle.gw_dispatch.proofs.PerformLemmas.{IsRowOf, all-in-order, link-orders, lost-reply, others-then, wanted-writable}
use Rattle.gw_dispatch.proofs.PtsLemmas.{lost-handled, lost-ready, over-heard}
use Rattle.gw_dispatch.proofs.SendLemmas.{sent-count, sent-stays}
use Rattle.gw_dispatch.proofs.pts.on_closed.Goals as goal

pub send_owed-requires-clause-replies : goal.send_owed-requires-clause-replies
send_owed-requires-clause-replies g c =
    let is : IsRowOf c.args.core.now (moment_of c.args.now) (λ known. link_row known c.args.pt LinkIsLost) c.on_link-owed.new.self c.on_link-owed.result = simp (to_z-of_z, c.ranges.now) at c.on_link-owed.ensures.row in
    lost-reply c.args.core.now c.on_link-owed.new.self (moment_of c.args.now) c.args.pt c.on_link-owed.result is

pub send_owed-requires-clause-writable : goal.send_owed-requires-clause-writable
send_owed-requires-clause-writable g c = wanted-writable c.args.pt c.on_link-owed.result c.on_link-owed.ensures.wanted

pub returns-clause-triple : goal.returns-clause-triple
returns-clause-triple g c = λ setup kept polls items.
    let is : IsRowOf c.args.core.now (moment_of c.args.now) (λ known. link_row known c.args.pt LinkIsLost) c.on_link-owed.new.self c.on_link-owed.result = simp (to_z-of_z, c.ranges.now) at c.on_link-owed.ensures.row in
    let row = is setup kept in
    let ready : AreReady c.on_link-owed.new.self c.args.readers.now = lost-ready c.args.core.now c.on_link-owed.new.self c.on_link-owed.new.self (moment_of c.args.now) c.args.pt c.on_link-owed.result c.args.readers.now is (inl refl) c.requires.ready in
    triple-then _ _ _ _ _ _
    (lost-handled _ setup c.args.core.now c.on_link-owed.new.self kept c.args.tills.now.list.items polls c.args.now c.args.readers.now c.args.pt items c.on_link-owed.result row)
    (over-heard _ _ setup c.on_link-owed.new.self c.send_owed.new.core kept c.args.tills.now.list.items c.send_owed.new.tills.list.items polls c.args.now c.args.readers.now (link_row (known_with setup kept c.args.core.now (moment_of c.args.now)) c.args.pt LinkIsLost).calls items items c.requires.ready.waits
    (ready.count ∙ sym (sent-count c.on_link-owed.new.self c.send_owed.new.core c.send_owed.ensures.core)) (λ heard. c.send_owed.ensures.triple _ row.calls_are setup kept polls c.args.now heard items))

pub returns-clause-ready : goal.returns-clause-ready
returns-clause-ready g c =
    let is : IsRowOf c.args.core.now (moment_of c.args.now) (λ known. link_row known c.args.pt LinkIsLost) c.on_link-owed.new.self c.on_link-owed.result = simp (to_z-of_z, c.ranges.now) at c.on_link-owed.ensures.row in
    lost-ready c.args.core.now c.on_link-owed.new.self c.send_owed.new.core (moment_of c.args.now) c.args.pt c.on_link-owed.result c.args.readers.now is c.send_owed.ensures.core c.requires.ready

pub returns-clause-count : goal.returns-clause-count
returns-clause-count g c =
    let is : IsRowOf c.args.core.now (moment_of c.args.now) (λ known. link_row known c.args.pt LinkIsLost) c.on_link-owed.new.self c.on_link-owed.result = simp (to_z-of_z, c.ranges.now) at c.on_link-owed.ensures.row in
    let ready : AreReady c.send_owed.new.core c.args.readers.now = lost-ready c.args.core.now c.on_link-owed.new.self c.send_owed.new.core (moment_of c.args.now) c.args.pt c.on_link-owed.result c.args.readers.now is c.send_owed.ensures.core c.requires.ready in
    sym ready.count ∙ c.requires.ready.count

pub returns-clause-order : goal.returns-clause-order
returns-clause-order g c =
    let is : IsRowOf c.args.core.now (moment_of c.args.now) (λ known. link_row known c.args.pt LinkIsLost) c.on_link-owed.new.self c.on_link-owed.result = simp (to_z-of_z, c.ranges.now) at c.on_link-owed.ensures.row in
    all-in-order c.args.core.now c.send_owed.new.core c.args.pt
    (others-then c.args.pt c.args.core.now c.on_link-owed.new.self c.send_owed.new.core (link-orders c.args.core.now c.on_link-owed.new.self (moment_of c.args.now) c.args.pt LinkIsLost c.on_link-owed.result is) (sent-stays c.on_link-owed.new.self c.send_owed.new.core c.send_owed.ensures.core))
