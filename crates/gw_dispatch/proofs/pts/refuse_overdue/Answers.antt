-- Proof of the contract of `refuse_overdue`.
use Rattle.std.proofs.Common.{◌∙◌, sym}
use Rattle.std.proofs.lemmas.Int.{to_z-of_z}
use Rattle.gw_base.specs.Moment.{moment_of}
use Rattle.gw_dispatch.proofs.OverdueLemmas.{RefusesFirst, overdue-count, overdue-has, overdue-less, overdue-reply, overdue-stays, refused-first}
use Rattle.gw_dispatch.proofs.PerformLemmas.{wanted-writable}
use Rattle.gw_dispatch.proofs.RunStateLemmas.{stays-then}
use Rattle.gw_dispatch.proofs.SendLemmas.{sent-count, sent-dialogues, sent-stays}
use Rattle.gw_dispatch.proofs.pts.refuse_overdue.Goals as goal

pub send_owed-requires-clause-replies : goal.send_owed-requires-clause-replies
send_owed-requires-clause-replies g c =
    let is : RefusesFirst c.args.core.now (moment_of c.args.now) c.overdue-owed.new.self c.overdue-owed.result = simp (to_z-of_z, c.ranges.now) at c.overdue-owed.ensures.row in
    overdue-reply c.args.core.now c.overdue-owed.new.self (moment_of c.args.now) c.overdue-owed.result is

pub send_owed-requires-clause-writable : goal.send_owed-requires-clause-writable
send_owed-requires-clause-writable g c = wanted-writable 0 c.overdue-owed.result (c.overdue-owed.ensures.wanted 0)

pub returns-clause-triple : goal.returns-clause-triple
returns-clause-triple g c = λ setup kept polls heard items none.
    let is : RefusesFirst c.args.core.now (moment_of c.args.now) c.overdue-owed.new.self c.overdue-owed.result = simp (to_z-of_z, c.ranges.now) at c.overdue-owed.ensures.row in
    refused-first _ _ c.args.core.now c.overdue-owed.new.self c.send_owed.new.core c.args.tills.now.list.items c.send_owed.new.tills.list.items c.args.now c.overdue-owed.result c.is_some-refused.result c.is_some-refused.ensures is
    (λ calls are setup kept polls heard items. c.send_owed.ensures.triple calls are setup kept polls c.args.now heard items) setup kept polls heard items none

pub returns-clause-less : goal.returns-clause-less
returns-clause-less g c = λ e.
    let is : RefusesFirst c.args.core.now (moment_of c.args.now) c.overdue-owed.new.self c.overdue-owed.result = simp (to_z-of_z, c.ranges.now) at c.overdue-owed.ensures.row in
    overdue-less c.args.core.now c.overdue-owed.new.self (moment_of c.args.now) c.overdue-owed.result is c.send_owed.new.core (sym c.is_some-refused.ensures ∙ e) (sent-stays c.overdue-owed.new.self c.send_owed.new.core c.send_owed.ensures.core)

pub returns-clause-dialogues : goal.returns-clause-dialogues
returns-clause-dialogues g c = λ all.
    let is : RefusesFirst c.args.core.now (moment_of c.args.now) c.overdue-owed.new.self c.overdue-owed.result = simp (to_z-of_z, c.ranges.now) at c.overdue-owed.ensures.row in
    sent-dialogues c.overdue-owed.new.self c.send_owed.new.core c.send_owed.ensures.core (overdue-has c.args.core.now c.overdue-owed.new.self (moment_of c.args.now) c.overdue-owed.result is all)

pub returns-clause-order : goal.returns-clause-order
returns-clause-order g c =
    let is : RefusesFirst c.args.core.now (moment_of c.args.now) c.overdue-owed.new.self c.overdue-owed.result = simp (to_z-of_z, c.ranges.now) at c.overdue-owed.ensures.row in
    stays-then c.args.core.now c.overdue-owed.new.self c.send_owed.new.core (overdue-stays c.args.core.now c.overdue-owed.new.self (moment_of c.args.now) c.overdue-owed.result is) (sent-stays c.overdue-owed.new.self c.send_owed.new.core c.send_owed.ensures.core)

pub returns-clause-count : goal.returns-clause-count
returns-clause-count g c =
    let is : RefusesFirst c.args.core.now (moment_of c.args.now) c.overdue-owed.new.self c.overdue-owed.result = simp (to_z-of_z, c.ranges.now) at c.overdue-owed.ensures.row in
    sent-count c.overdue-owed.new.self c.send_owed.new.core c.send_owed.ensures.core ∙ overdue-count c.args.core.now c.overdue-owed.new.self (moment_of c.args.now) c.overdue-owed.result is
