-- Proof of the contract of `cut`.
use Rattle.std.proofs.lemmas.Int.{to_z-of_z}
use Rattle.std.proofs.Common.{◌≡◌, ◌∙◌, false}
use Rattle.std.specs.Prelude.{slice_get}
use Rattle.gw_base.specs.Moment.{moment_of}
use Rattle.gw_owes.specs.Core.{Core}
use Rattle.gw_owes.specs.Dialogues.{AllHaveDialogues}
use Rattle.gw_owes.specs.Links.{LinkIsLost, link_row}
use Rattle.gw_owes.specs.TerminalLaws.{ChangesTerminalAlone}
use Rattle.gw_dispatch.specs.MidRound.{is_linked_in}
use Rattle.gw_dispatch.proofs.GrowthLemmas.{pt-was-cut, stands-then}
use Rattle.gw_dispatch.proofs.LinkLemmas.{lost-is-unlinked}
use Rattle.gw_dispatch.proofs.PerformLemmas.{IsRowOf, of-row, cut-performs, link-has, link-alone, link-orders, lost-reply, others-then, wanted-writable}
use Rattle.gw_dispatch.proofs.SendLemmas.{sent-count, sent-dialogues, sent-linked, sent-stays}
use Rattle.gw_dispatch.proofs.perform.cut.Goals as goal

pub send_owed-requires-clause-replies : goal.send_owed-requires-clause-replies
send_owed-requires-clause-replies g c =
    let is : IsRowOf c.args.core.now (moment_of c.args.now) (λ known. link_row known c.args.pt LinkIsLost) c.on_link-owed.new.self c.on_link-owed.result = simp (to_z-of_z, c.ranges.now) at c.on_link-owed.ensures.row in
    lost-reply c.args.core.now c.on_link-owed.new.self (moment_of c.args.now) c.args.pt c.on_link-owed.result is

pub send_owed-requires-clause-writable : goal.send_owed-requires-clause-writable
send_owed-requires-clause-writable g c = wanted-writable c.args.pt c.on_link-owed.result c.on_link-owed.ensures.wanted

pub returns-clause-triple : goal.returns-clause-triple
returns-clause-triple g c =
    let is : IsRowOf c.args.core.now (moment_of c.args.now) (λ known. link_row known c.args.pt LinkIsLost) c.on_link-owed.new.self c.on_link-owed.result = simp (to_z-of_z, c.ranges.now) at c.on_link-owed.ensures.row in
    cut-performs _ _ _ c.args.core.now c.on_link-owed.new.self c.send_owed.new.core c.args.tills.now.list.items c.send_owed.new.tills.list.items c.args.now c.args.pt c.on_link-owed.result is c.cut_pt.ensures.turns c.cut_pt.ensures.step
    (λ calls are setup kept polls heard items. c.send_owed.ensures.triple calls are setup kept polls c.args.now heard items)

pub returns-clause-unlinked : goal.returns-clause-unlinked
returns-clause-unlinked g c =
    let is : IsRowOf c.args.core.now (moment_of c.args.now) (λ known. link_row known c.args.pt LinkIsLost) c.on_link-owed.new.self c.on_link-owed.result = simp (to_z-of_z, c.ranges.now) at c.on_link-owed.ensures.row in
    sent-linked c.on_link-owed.new.self c.send_owed.new.core c.send_owed.ensures.core c.args.pt
    ∙ of-row (λ (core : Core). is_linked_in (slice_get core.terminals c.args.pt) ≡ false) c.args.core.now c.on_link-owed.new.self (moment_of c.args.now) (λ known. link_row known c.args.pt LinkIsLost) c.on_link-owed.result is (λ known same. lost-is-unlinked known c.args.pt)

pub returns-clause-dialogues : goal.returns-clause-dialogues
returns-clause-dialogues g c =
    let is : IsRowOf c.args.core.now (moment_of c.args.now) (λ known. link_row known c.args.pt LinkIsLost) c.on_link-owed.new.self c.on_link-owed.result = simp (to_z-of_z, c.ranges.now) at c.on_link-owed.ensures.row in
    let has : AllHaveDialogues c.on_link-owed.new.self = link-has c.args.core.now c.on_link-owed.new.self (moment_of c.args.now) c.args.pt LinkIsLost c.on_link-owed.result c.requires.others is in
    let all : AllHaveDialogues c.send_owed.new.core = sent-dialogues c.on_link-owed.new.self c.send_owed.new.core c.send_owed.ensures.core has in
    λ number terminal found. all number terminal found

pub returns-clause-count : goal.returns-clause-count
returns-clause-count g c =
    let is : IsRowOf c.args.core.now (moment_of c.args.now) (λ known. link_row known c.args.pt LinkIsLost) c.on_link-owed.new.self c.on_link-owed.result = simp (to_z-of_z, c.ranges.now) at c.on_link-owed.ensures.row in
    let alone : ChangesTerminalAlone c.args.pt c.args.core.now c.on_link-owed.new.self = link-alone c.args.core.now c.on_link-owed.new.self (moment_of c.args.now) c.args.pt LinkIsLost c.on_link-owed.result is in
    sent-count c.on_link-owed.new.self c.send_owed.new.core c.send_owed.ensures.core ∙ alone.count

pub returns-clause-order : goal.returns-clause-order
returns-clause-order g c =
    let is : IsRowOf c.args.core.now (moment_of c.args.now) (λ known. link_row known c.args.pt LinkIsLost) c.on_link-owed.new.self c.on_link-owed.result = simp (to_z-of_z, c.ranges.now) at c.on_link-owed.ensures.row in
    others-then c.args.pt c.args.core.now c.on_link-owed.new.self c.send_owed.new.core (link-orders c.args.core.now c.on_link-owed.new.self (moment_of c.args.now) c.args.pt LinkIsLost c.on_link-owed.result is) (sent-stays c.on_link-owed.new.self c.send_owed.new.core c.send_owed.ensures.core)

pub returns-clause-goes_on : goal.returns-clause-goes_on
returns-clause-goes_on g c = stands-then _ _ _ (pt-was-cut _ _ c.args.pt c.cut_pt.ensures.turns c.cut_pt.ensures.cause) c.send_owed.ensures.goes_on
