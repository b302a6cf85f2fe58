-- Proof of the contract of `queue`.
use Rattle.std.proofs.Common.{◌∙◌, refl}
use Rattle.std.proofs.lemmas.Int.{to_z-of_z}
use Rattle.gw_base.specs.Moment.{moment_of}
use Rattle.gw_dispatch.proofs.GrowthLemmas.{goes-nowhere}
use Rattle.gw_dispatch.proofs.PerformLemmas.{wanted-writable}
use Rattle.gw_dispatch.proofs.QueueLemmas.{QueuesBy, queued-count, queued-done, queued-reply, queued-well, queues-few}
use Rattle.gw_dispatch.proofs.ReaderLemmas.{still-same}
use Rattle.gw_dispatch.proofs.SendLemmas.{sent-count}
use Rattle.gw_dispatch.proofs.serving.queue.Goals as goal

pub queue-requires-clause-terminal : goal.queue-requires-clause-terminal
queue-requires-clause-terminal g c = queues-few c.args.state.now.gateway c.args.state.now.records.ledger.records c.args.state.now.core c.args.now c.args.header c.args.request c.args.pt c.requires.well.order c.requires.queues

pub send_owed-requires-clause-replies : goal.send_owed-requires-clause-replies
send_owed-requires-clause-replies g c =
    let by : QueuesBy c.args.state.now.gateway c.args.state.now.records.ledger.records c.args.state.now.core (moment_of c.args.now) c.args.pt c.args.till c.args.header c.args.request c.queue.new.self c.in-Ok.owed = simp (to_z-of_z, c.ranges.now) at c.in-Ok.ensures.row in
    queued-reply c.args.state.now.gateway c.args.state.now.records.ledger.records c.args.state.now.core c.queue.new.self c.args.now c.args.pt c.args.till c.args.header c.args.request c.in-Ok.owed c.requires.well.order by

pub send_owed-requires-clause-writable : goal.send_owed-requires-clause-writable
send_owed-requires-clause-writable g c = wanted-writable c.args.pt c.in-Ok.owed (c.in-Ok.ensures.wanted c.args.pt)

pub returns-in-Ok-clause-triple : goal.returns-in-Ok-clause-triple
returns-in-Ok-clause-triple g c = λ setup polls heard items same.
    let by : QueuesBy c.args.state.now.gateway c.args.state.now.records.ledger.records c.args.state.now.core (moment_of c.args.now) c.args.pt c.args.till c.args.header c.args.request c.queue.new.self c.in-Ok.owed = simp (to_z-of_z, c.ranges.now) at c.in-Ok.ensures.row in
    queued-done c.args.state.now.gateway c.args.state.now.records.ledger.records c.args.state.now.core c.queue.new.self c.args.now c.args.pt c.args.till c.args.header c.args.request c.in-Ok.owed c.requires.well.order by _ _ c.send_owed.new.core c.args.tills.now.list.items c.send_owed.new.tills.list.items
    (λ calls are setup kept polls heard items. c.send_owed.ensures.triple calls are setup kept polls c.args.now heard items) setup same polls heard items

pub returns-in-Ok-clause-well : goal.returns-in-Ok-clause-well
returns-in-Ok-clause-well g c =
    let by : QueuesBy c.args.state.now.gateway c.args.state.now.records.ledger.records c.args.state.now.core (moment_of c.args.now) c.args.pt c.args.till c.args.header c.args.request c.queue.new.self c.in-Ok.owed = simp (to_z-of_z, c.ranges.now) at c.in-Ok.ensures.row in
    queued-well c.args.state.now.gateway c.args.state.now.records.ledger.records c.args.state.now.core c.queue.new.self c.args.now c.args.pt c.args.till c.args.header c.args.request c.in-Ok.owed c.requires.well.order by c.requires.queues c.law_records.ensures.queues c.law_records.ensures.items c.law_records.ensures.requests c.law_waits.ensures.keeps c.args.state.now c.send_owed.new.core _ _ c.requires.well refl refl c.requires.spare c.send_owed.ensures.core c.send_owed.ensures.goes_on

pub returns-in-Ok-clause-count : goal.returns-in-Ok-clause-count
returns-in-Ok-clause-count g c =
    let by : QueuesBy c.args.state.now.gateway c.args.state.now.records.ledger.records c.args.state.now.core (moment_of c.args.now) c.args.pt c.args.till c.args.header c.args.request c.queue.new.self c.in-Ok.owed = simp (to_z-of_z, c.ranges.now) at c.in-Ok.ensures.row in
    sent-count c.queue.new.self c.send_owed.new.core c.send_owed.ensures.core ∙ queued-count c.args.state.now.gateway c.args.state.now.records.ledger.records c.args.state.now.core c.queue.new.self c.args.now c.args.pt c.args.till c.args.header c.args.request c.in-Ok.owed c.requires.well.order by

pub returns-in-Err-clause-still : goal.returns-in-Err-clause-still
returns-in-Err-clause-still g c = still-same c.args.tills.now.list.items

pub returns-in-Err-clause-goes_on : goal.returns-in-Err-clause-goes_on
returns-in-Err-clause-goes_on g c = goes-nowhere _
