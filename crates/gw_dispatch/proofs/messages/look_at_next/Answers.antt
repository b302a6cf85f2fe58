-- Proof of the contract of `look_at_next`.
use Rattle.std.proofs.Common.{◌≡◌, ◌<◌, ◌∙◌, refl, sym, subst, arith}
use Rattle.std.specs.Prelude.{Ok, true}
use Rattle.std.proofs.lemmas.Int.{to_z-of_z}
use Rattle.gw_base.specs.Moment.{moment_of}
use Rattle.gw_owes.specs.Waits.{memory_reserved}
use Rattle.gw_dispatch.proofs.GrowthLemmas.{goes-then}
use Rattle.gw_dispatch.proofs.HandleLemmas.{handled-well, slots-for}
use Rattle.gw_dispatch.proofs.NextWaitingLemmas.{NextBy, next-alone-in, next-broken, next-done, next-few-slots, next-has, next-less, next-no-link, next-others, next-stays, next-waits, orderly-knows}
use Rattle.gw_dispatch.proofs.PerformLemmas.{MakesCall}
use Rattle.gw_dispatch.proofs.ReaderLemmas.{still-same}
use Rattle.gw_dispatch.proofs.messages.look_at_next.Goals as goal

pub next-next-requires-clause-order : goal.next-next-requires-clause-order
next-next-requires-clause-order g c = simp (to_z-of_z, c.ranges.now) (orderly-knows c.args.state.now.gateway c.args.state.now.records.ledger.records c.args.state.now.core c.args.now c.requires.well.order)

pub keep_wanted-requires-clause-room : goal.keep_wanted-requires-clause-room
keep_wanted-requires-clause-room g c =
    let by : NextBy c.args.state.now.records.ledger.records c.args.state.now.core (moment_of c.args.now) c.args.pt c.next-next.new.self c.next-next.result.0 c.next-next.result.1 = simp (to_z-of_z, c.ranges.now) at c.next-next.ensures.row in
    let stays = next-stays c.args.state.now.records.ledger.records c.args.state.now.core c.next-next.new.self c.args.now c.args.pt c.next-next.result.0 c.next-next.result.1 by c.args.state.now.gateway c.requires.well.order c.law_waits.ensures.order c.law_records.ensures.next in
    slots-for c.args.state.now.gateway c.args.state.now.records.ledger.records c.next-next.new.self c.args.pt c.next-next.result.0 (memory_reserved c.args.state.now.core) c.args.state.now.records (g.S.Site.observed c.args.site.now) stays
    (next-few-slots c.args.state.now.records.ledger.records c.args.state.now.core c.next-next.new.self c.args.now c.args.pt c.next-next.result.0 c.next-next.result.1 by c.args.state.now.gateway c.requires.well.order) refl c.requires.well.records c.requires.well.spare c.next-next.ensures.kept

pub returns-in-Err-clause-triple : goal.returns-in-Err-clause-triple
returns-in-Err-clause-triple g c = λ setup polls heard items.
    let by : NextBy c.args.state.now.records.ledger.records c.args.state.now.core (moment_of c.args.now) c.args.pt c.next-next.new.self c.next-next.result.0 c.next-next.result.1 = simp (to_z-of_z, c.ranges.now) at c.next-next.ensures.row in
    next-broken c.args.state.now.records.ledger.records c.args.state.now.core c.next-next.new.self c.args.now c.args.pt c.next-next.result.0 c.next-next.result.1 by setup c.args.tills.now.list.items polls heard items _ _ c.keep_wanted.new.self.ledger.records c.keep_wanted.result (λ setup core tills polls heard calls items. c.keep_wanted.ensures.triple setup core tills polls c.args.now heard calls items) _ c.in-Err.is

pub returns-in-Err-clause-count : goal.returns-in-Err-clause-count
returns-in-Err-clause-count g c =
    let by : NextBy c.args.state.now.records.ledger.records c.args.state.now.core (moment_of c.args.now) c.args.pt c.next-next.new.self c.next-next.result.0 c.next-next.result.1 = simp (to_z-of_z, c.ranges.now) at c.next-next.ensures.row in
    let alone = next-alone-in c.args.state.now.records.ledger.records c.args.state.now.core c.next-next.new.self c.args.now c.args.pt c.next-next.result.0 c.next-next.result.1 by in
    alone.count

pub perform-requires-clause-there : goal.perform-requires-clause-there
perform-requires-clause-there g c =
    let by : NextBy c.args.state.now.records.ledger.records c.args.state.now.core (moment_of c.args.now) c.args.pt c.next-next.new.self c.next-next.result.0 c.next-next.result.1 = simp (to_z-of_z, c.ranges.now) at c.next-next.ensures.row in
    let alone = next-alone-in c.args.state.now.records.ledger.records c.args.state.now.core c.next-next.new.self c.args.now c.args.pt c.next-next.result.0 c.next-next.result.1 by in
    subst (λ count. c.args.pt < count) (sym alone.count) c.requires.there

pub perform-requires-clause-no_link : goal.perform-requires-clause-no_link
perform-requires-clause-no_link g c =
    let by : NextBy c.args.state.now.records.ledger.records c.args.state.now.core (moment_of c.args.now) c.args.pt c.next-next.new.self c.next-next.result.0 c.next-next.result.1 = simp (to_z-of_z, c.ranges.now) at c.next-next.ensures.row in
    next-no-link c.args.state.now.records.ledger.records c.args.state.now.core c.next-next.new.self c.args.now c.args.pt c.next-next.result.0 c.next-next.result.1 by

pub perform-requires-clause-others : goal.perform-requires-clause-others
perform-requires-clause-others g c =
    let by : NextBy c.args.state.now.records.ledger.records c.args.state.now.core (moment_of c.args.now) c.args.pt c.next-next.new.self c.next-next.result.0 c.next-next.result.1 = simp (to_z-of_z, c.ranges.now) at c.next-next.ensures.row in
    next-others c.args.state.now.records.ledger.records c.args.state.now.core c.next-next.new.self c.args.now c.args.pt c.next-next.result.0 c.next-next.result.1 by c.requires.well.order.dialogues

pub perform-requires-clause-dialogues : goal.perform-requires-clause-dialogues
perform-requires-clause-dialogues g c =
    let by : NextBy c.args.state.now.records.ledger.records c.args.state.now.core (moment_of c.args.now) c.args.pt c.next-next.new.self c.next-next.result.0 c.next-next.result.1 = simp (to_z-of_z, c.ranges.now) at c.next-next.ensures.row in
    λ uncut. next-has c.args.state.now.records.ledger.records c.args.state.now.core c.next-next.new.self c.args.now c.args.pt c.next-next.result.0 c.next-next.result.1 by c.requires.well.order.dialogues

pub returns-clause-triple : goal.returns-clause-triple
returns-clause-triple g c = λ setup polls heard items.
    let by : NextBy c.args.state.now.records.ledger.records c.args.state.now.core (moment_of c.args.now) c.args.pt c.next-next.new.self c.next-next.result.0 c.next-next.result.1 = simp (to_z-of_z, c.ranges.now) at c.next-next.ensures.row in
    let makes : MakesCall (g.S.Site.observed c.keep_wanted.new.site) (g.S.Site.observed c.perform.new.site) c.next-next.new.self c.perform.new.core c.args.tills.now.list.items c.perform.new.tills.list.items c.args.now c.next-next.result.0.act = simp (to_z-of_z, c.ranges.now) at c.perform.ensures.triple in
    next-done c.args.state.now.records.ledger.records c.args.state.now.core c.next-next.new.self c.args.now c.args.pt c.next-next.result.0 c.next-next.result.1 by setup c.args.tills.now.list.items polls heard items _ _ c.keep_wanted.new.self.ledger.records c.keep_wanted.result (λ setup core tills polls heard calls items. c.keep_wanted.ensures.triple setup core tills polls c.args.now heard calls items) _ c.perform.new.core c.perform.new.tills.list.items _ c.in-Ok.is makes

pub returns-clause-less : goal.returns-clause-less
returns-clause-less g c = λ e.
    let by : NextBy c.args.state.now.records.ledger.records c.args.state.now.core (moment_of c.args.now) c.args.pt c.next-next.new.self c.next-next.result.0 c.next-next.result.1 = simp (to_z-of_z, c.ranges.now) at c.next-next.ensures.row in
    let looks : Ok c.next-next.result.1 ≡ Ok true = e in
    let more : c.next-next.result.1 ≡ true = cc in
    let fewer = next-less c.args.state.now.records.ledger.records c.args.state.now.core c.next-next.new.self c.args.now c.args.pt c.next-next.result.0 c.next-next.result.1 by more in
    omega (arith, fewer, c.perform.ensures.waits.few)

pub returns-clause-well : goal.returns-clause-well
returns-clause-well g c =
    let by : NextBy c.args.state.now.records.ledger.records c.args.state.now.core (moment_of c.args.now) c.args.pt c.next-next.new.self c.next-next.result.0 c.next-next.result.1 = simp (to_z-of_z, c.ranges.now) at c.next-next.ensures.row in
    let alone = next-alone-in c.args.state.now.records.ledger.records c.args.state.now.core c.next-next.new.self c.args.now c.args.pt c.next-next.result.0 c.next-next.result.1 by in
    let stays = next-stays c.args.state.now.records.ledger.records c.args.state.now.core c.next-next.new.self c.args.now c.args.pt c.next-next.result.0 c.next-next.result.1 by c.args.state.now.gateway c.requires.well.order c.law_waits.ensures.order c.law_records.ensures.next in
    handled-well c.args.state.now (record { gateway = c.args.state.now.gateway; core = c.perform.new.core; records = c.keep_wanted.new.self }) c.next-next.new.self c.args.pt c.next-next.result.0 (memory_reserved c.args.state.now.core) (g.S.Site.observed c.args.site.now) (g.S.Site.observed c.keep_wanted.new.site) (g.S.Site.observed c.perform.new.site)
    c.requires.well refl stays c.requires.well.spare c.in-Ok.ensures.kept c.in-Ok.ensures.stands c.perform.ensures.goes_on alone.settings c.perform.ensures.settings c.perform.ensures.days c.perform.ensures.device_requests c.perform.ensures.order c.perform.ensures.dialogues
    (next-waits c.args.state.now.records.ledger.records c.args.state.now.core c.next-next.new.self c.args.now c.args.pt c.next-next.result.0 c.next-next.result.1 by c.args.state.now.gateway c.requires.well.order c.law_waits.ensures.keeps) c.perform.ensures.waits

pub returns-clause-count : goal.returns-clause-count
returns-clause-count g c =
    let by : NextBy c.args.state.now.records.ledger.records c.args.state.now.core (moment_of c.args.now) c.args.pt c.next-next.new.self c.next-next.result.0 c.next-next.result.1 = simp (to_z-of_z, c.ranges.now) at c.next-next.ensures.row in
    let alone = next-alone-in c.args.state.now.records.ledger.records c.args.state.now.core c.next-next.new.self c.args.now c.args.pt c.next-next.result.0 c.next-next.result.1 by in
    c.perform.ensures.count ∙ alone.count

pub returns-clause-goes_on : goal.returns-clause-goes_on
returns-clause-goes_on g c = goes-then _ _ _ c.keep_wanted.ensures.goes_on c.perform.ensures.goes_on.goes_on

pub returns-in-Err-clause-still : goal.returns-in-Err-clause-still
returns-in-Err-clause-still g c = still-same c.args.tills.now.list.items
