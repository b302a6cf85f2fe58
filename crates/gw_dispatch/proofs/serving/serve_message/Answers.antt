-- Proof of the contract of `serve_message`.
use Rattle.std.proofs.Common.{◌≡◌, ◌++◌, [], refl}
use Rattle.std.specs.Prelude.{Some}
use Rattle.std.proofs.lemmas.Int.{to_z-of_z}
use Rattle.gw_rules.proofs.TripleLemmas.{triple-refl, triple-then}
use Rattle.gw_core.specs.ReplyOf.{AreSendOf}
use Rattle.gw_dispatch.specs.MidRound.{AreHeard}
use Rattle.gw_dispatch.specs.Serving.{items_of}
use Rattle.gw_dispatch.specs.declared.fault.TurnFault.TheVariants.{Memory}
use Rattle.gw_dispatch.proofs.GrowthLemmas.{goes-nowhere}
use Rattle.gw_dispatch.proofs.ReaderLemmas.{still-same}
use Rattle.gw_dispatch.proofs.SendLemmas.{forgets-this, sent-count}
use Rattle.gw_dispatch.proofs.ServeLemmas.{held-idle, no-memory-said, still-left, well-sent}
use Rattle.gw_dispatch.proofs.serving.serve_message.Goals as goal

pub returns-in-Nothing-clause-triple : goal.returns-in-Nothing-clause-triple
returns-in-Nothing-clause-triple g c = λ calls is setup polls heard items same.
    let none : calls ≡ [] = rw c.in-Nothing.is at is in
    rw (none, c.in-Nothing.is) (triple-refl _ _)

pub returns-in-Nothing-clause-still : goal.returns-in-Nothing-clause-still
returns-in-Nothing-clause-still g c = still-same c.args.tills.now.list.items

pub returns-in-Nothing-clause-goes_on : goal.returns-in-Nothing-clause-goes_on
returns-in-Nothing-clause-goes_on g c = goes-nowhere _

pub deliver-requires : goal.deliver-requires
deliver-requires g c = rw c.in-Reply.is at c.requires.within

pub returns-in-Reply-clause-triple : goal.returns-in-Reply-clause-triple
returns-in-Reply-clause-triple g c = λ calls is setup polls heard items same.
    let sends : AreSendOf c.args.till (Some c.in-Reply.reply) calls = rw c.in-Reply.is at is in
    rw (sends.2, c.in-Reply.is) (triple-then _ _ _ _ _ _ (c.deliver.ensures.triple sends.0 sends.1.0 setup c.args.state.now.records.ledger.records polls c.args.now heard (items_of c.args.till c.args.tills.now.list.items ++ items))
    (still-left setup c.deliver.new.core c.args.state.now.records.ledger.records c.deliver.new.tills.list.items polls c.args.now heard _ c.args.till c.args.tills.now.list.items items (c.deliver.ensures.still c.args.till)))

pub returns-in-Reply-clause-well : goal.returns-in-Reply-clause-well
returns-in-Reply-clause-well g c = well-sent c.args.state.now c.deliver.new.core _ _ c.requires.well (forgets-this c.args.till c.args.state.now.core c.deliver.new.core c.deliver.ensures.core) c.deliver.ensures.goes_on

pub returns-in-Reply-clause-count : goal.returns-in-Reply-clause-count
returns-in-Reply-clause-count g c = sent-count c.args.state.now.core c.deliver.new.core (forgets-this c.args.till c.args.state.now.core c.deliver.new.core c.deliver.ensures.core)

pub returns-in-Reply-clause-goes_on : goal.returns-in-Reply-clause-goes_on
returns-in-Reply-clause-goes_on g c = c.deliver.ensures.goes_on.goes_on

pub begin-requires-clause-begins : goal.begin-requires-clause-begins
begin-requires-clause-begins g c = let begins = rw c.in-Begins.is at c.requires.begins in simp (to_z-of_z, c.ranges.now) begins.0

pub begin-requires-clause-prepared : goal.begin-requires-clause-prepared
begin-requires-clause-prepared g c = let begins = rw c.in-Begins.is at c.requires.begins in begins.1

pub returns-in-Ok-clause-triple : goal.returns-in-Ok-clause-triple
returns-in-Ok-clause-triple g c = λ calls is setup polls heard items same.
    let none : calls ≡ [] = rw c.in-Begins.is at is in
    rw (none, c.in-Begins.is) (triple-then _ _ _ _ _ _ (rw (to_z-of_z, c.ranges.now) at (c.in-Ok.ensures.triple setup polls heard (items_of c.args.till c.args.tills.now.list.items ++ items) same))
    (still-left setup c.begin.new.state.core c.begin.new.state.records.ledger.records c.begin.new.tills.list.items polls c.args.now heard _ c.args.till c.args.tills.now.list.items items (c.in-Ok.ensures.still c.args.till)))

pub returns-in-Begins-clause-triple : goal.returns-in-Begins-clause-triple
returns-in-Begins-clause-triple g c = λ calls is setup polls heard items same.
    let none : calls ≡ [] = rw c.in-Begins.is at is in
    rw (none, c.in-Begins.is) (rw (to_z-of_z, c.ranges.now) at (c.in-Err.ensures.triple setup polls heard (items_of c.args.till c.args.tills.now.list.items ++ items) same))

pub queue-requires-clause-queues : goal.queue-requires-clause-queues
queue-requires-clause-queues g c = let queues = rw c.in-Queues.is at c.requires.begins in simp (to_z-of_z, c.ranges.now) queues

pub returns-in-Ok-queue-clause-triple : goal.returns-in-Ok-queue-clause-triple
returns-in-Ok-queue-clause-triple g c = λ calls is setup polls heard items same.
    let none : calls ≡ [] = rw c.in-Queues.is at is in
    rw (none, c.in-Queues.is) (triple-then _ _ _ _ _ _ (rw (to_z-of_z, c.ranges.now) at (c.in-Ok-queue.ensures.triple setup polls heard (items_of c.args.till c.args.tills.now.list.items ++ items) same))
    (still-left setup c.queue.new.state.core c.queue.new.state.records.ledger.records c.queue.new.tills.list.items polls c.args.now heard _ c.args.till c.args.tills.now.list.items items (c.queue.ensures.still c.args.till)))

pub returns-clause-triple : goal.returns-clause-triple
returns-clause-triple g c = λ calls is setup polls heard items same.
    let none : calls ≡ [] = rw c.in-Queues.is at is in
    rw (none, c.in-Queues.is, c.in-Err-queue.ensures.untouched) (no-memory-said _ _ (λ v p. held-idle setup c.args.state.now.core c.args.state.now.records.ledger.records c.args.tills.now.list.items polls c.args.now (AreHeard heard) _ v p) Memory refl)
