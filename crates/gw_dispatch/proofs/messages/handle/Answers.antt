-- Proof of the contract of `handle`.
use Rattle.std.proofs.Common.{◌<◌, refl, sym, ◌∙◌, subst}
use Rattle.std.proofs.lemmas.Int.{to_z-of_z}
use Rattle.gw_base.specs.Moment.{moment_of}
use Rattle.zvt_msg.specs.Message.{value_of as message_value}
use Rattle.gw_owes.specs.Waits.{memory_reserved}
use Rattle.gw_dispatch.proofs.GrowthLemmas.{goes-then}
use Rattle.gw_dispatch.proofs.HandleLemmas.{GoesBy, handled-alone, handled-broken, handled-done, handled-has, handled-no-link, handled-others, handled-stays, handled-waits, handled-well, few-slots, slots-for}
use Rattle.gw_dispatch.proofs.PerformLemmas.{MakesCall}
use Rattle.gw_dispatch.proofs.ReaderLemmas.{still-same}
use Rattle.gw_dispatch.proofs.messages.handle.Goals as goal

pub keep_wanted-requires-clause-room : goal.keep_wanted-requires-clause-room
keep_wanted-requires-clause-room g c =
    let by : GoesBy c.args.state.now.records.ledger.records c.args.state.now.core (moment_of c.args.now) c.args.pt (message_value c.args.message.now) c.on_pt-acts.new.self c.on_pt-acts.result = simp (to_z-of_z, c.ranges.now) at c.on_pt-acts.ensures.row in
    let stays = handled-stays c.args.state.now.records.ledger.records c.args.state.now.core c.on_pt-acts.new.self c.args.now c.args.pt c.requires.read.0 (message_value c.args.message.now) c.on_pt-acts.result c.requires.read.1 by c.args.state.now.gateway c.requires.well.order c.law_records.ensures.rows c.law_records.ensures.cuts c.law_records.ensures.messages in
    slots-for c.args.state.now.gateway c.args.state.now.records.ledger.records c.on_pt-acts.new.self c.args.pt c.on_pt-acts.result (memory_reserved c.args.state.now.core) c.args.state.now.records (g.S.Site.observed c.args.site.now) stays
    (few-slots c.args.state.now.records.ledger.records c.args.state.now.core c.on_pt-acts.new.self c.args.now c.args.pt c.requires.read.0 (message_value c.args.message.now) c.on_pt-acts.result c.requires.read.1 by c.args.state.now.gateway c.requires.well.order) refl c.requires.well.records c.requires.well.spare c.on_pt-acts.ensures.kept

pub returns-in-Err-clause-triple : goal.returns-in-Err-clause-triple
returns-in-Err-clause-triple g c = λ apdu decoded setup polls heard items.
    let by : GoesBy c.args.state.now.records.ledger.records c.args.state.now.core (moment_of c.args.now) c.args.pt (message_value c.args.message.now) c.on_pt-acts.new.self c.on_pt-acts.result = simp (to_z-of_z, c.ranges.now) at c.on_pt-acts.ensures.row in
    handled-broken _ _ c.args.state.now.records.ledger.records c.keep_wanted.new.self.ledger.records c.args.state.now.core c.on_pt-acts.new.self c.args.now c.args.pt apdu (message_value c.args.message.now) c.on_pt-acts.result decoded by
    c.keep_wanted.result (λ setup core tills polls heard calls items. c.keep_wanted.ensures.triple setup core tills polls c.args.now heard calls items) c.args.tills.now.list.items setup polls heard items _ c.in-Err.is

pub returns-in-Err-clause-count : goal.returns-in-Err-clause-count
returns-in-Err-clause-count g c =
    let by : GoesBy c.args.state.now.records.ledger.records c.args.state.now.core (moment_of c.args.now) c.args.pt (message_value c.args.message.now) c.on_pt-acts.new.self c.on_pt-acts.result = simp (to_z-of_z, c.ranges.now) at c.on_pt-acts.ensures.row in
    let alone = handled-alone c.args.state.now.records.ledger.records c.args.state.now.core c.on_pt-acts.new.self c.args.now c.args.pt c.requires.read.0 (message_value c.args.message.now) c.on_pt-acts.result c.requires.read.1 by in
    alone.count

pub perform-requires-clause-there : goal.perform-requires-clause-there
perform-requires-clause-there g c =
    let by : GoesBy c.args.state.now.records.ledger.records c.args.state.now.core (moment_of c.args.now) c.args.pt (message_value c.args.message.now) c.on_pt-acts.new.self c.on_pt-acts.result = simp (to_z-of_z, c.ranges.now) at c.on_pt-acts.ensures.row in
    let alone = handled-alone c.args.state.now.records.ledger.records c.args.state.now.core c.on_pt-acts.new.self c.args.now c.args.pt c.requires.read.0 (message_value c.args.message.now) c.on_pt-acts.result c.requires.read.1 by in
    subst (λ count. c.args.pt < count) (sym alone.count) c.requires.there

pub perform-requires-clause-no_link : goal.perform-requires-clause-no_link
perform-requires-clause-no_link g c =
    let by : GoesBy c.args.state.now.records.ledger.records c.args.state.now.core (moment_of c.args.now) c.args.pt (message_value c.args.message.now) c.on_pt-acts.new.self c.on_pt-acts.result = simp (to_z-of_z, c.ranges.now) at c.on_pt-acts.ensures.row in
    handled-no-link c.args.state.now.records.ledger.records c.args.state.now.core c.on_pt-acts.new.self c.args.now c.args.pt c.requires.read.0 (message_value c.args.message.now) c.on_pt-acts.result c.requires.read.1 by

pub perform-requires-clause-others : goal.perform-requires-clause-others
perform-requires-clause-others g c =
    let by : GoesBy c.args.state.now.records.ledger.records c.args.state.now.core (moment_of c.args.now) c.args.pt (message_value c.args.message.now) c.on_pt-acts.new.self c.on_pt-acts.result = simp (to_z-of_z, c.ranges.now) at c.on_pt-acts.ensures.row in
    handled-others c.args.state.now.records.ledger.records c.args.state.now.core c.on_pt-acts.new.self c.args.now c.args.pt c.requires.read.0 (message_value c.args.message.now) c.on_pt-acts.result c.requires.read.1 by c.requires.well.order.dialogues

pub perform-requires-clause-dialogues : goal.perform-requires-clause-dialogues
perform-requires-clause-dialogues g c =
    let by : GoesBy c.args.state.now.records.ledger.records c.args.state.now.core (moment_of c.args.now) c.args.pt (message_value c.args.message.now) c.on_pt-acts.new.self c.on_pt-acts.result = simp (to_z-of_z, c.ranges.now) at c.on_pt-acts.ensures.row in
    handled-has c.args.state.now.records.ledger.records c.args.state.now.core c.on_pt-acts.new.self c.args.now c.args.pt c.requires.read.0 (message_value c.args.message.now) c.on_pt-acts.result c.requires.read.1 by c.requires.well.order.dialogues

pub returns-clause-triple : goal.returns-clause-triple
returns-clause-triple g c = λ apdu decoded setup polls heard items.
    let by : GoesBy c.args.state.now.records.ledger.records c.args.state.now.core (moment_of c.args.now) c.args.pt (message_value c.args.message.now) c.on_pt-acts.new.self c.on_pt-acts.result = simp (to_z-of_z, c.ranges.now) at c.on_pt-acts.ensures.row in
    let makes : MakesCall (g.S.Site.observed c.keep_wanted.new.site) (g.S.Site.observed c.perform.new.site) c.on_pt-acts.new.self c.perform.new.core c.args.tills.now.list.items c.perform.new.tills.list.items c.args.now c.on_pt-acts.result.act = simp (to_z-of_z, c.ranges.now) at c.perform.ensures.triple in
    handled-done _ _ c.args.state.now.records.ledger.records c.keep_wanted.new.self.ledger.records c.args.state.now.core c.on_pt-acts.new.self c.args.now c.args.pt apdu (message_value c.args.message.now) c.on_pt-acts.result decoded by
    c.keep_wanted.result (λ setup core tills polls heard calls items. c.keep_wanted.ensures.triple setup core tills polls c.args.now heard calls items) c.args.tills.now.list.items setup polls heard items _ c.perform.new.core c.perform.new.tills.list.items _ c.in-Ok.is makes

pub returns-clause-well : goal.returns-clause-well
returns-clause-well g c =
    let by : GoesBy c.args.state.now.records.ledger.records c.args.state.now.core (moment_of c.args.now) c.args.pt (message_value c.args.message.now) c.on_pt-acts.new.self c.on_pt-acts.result = simp (to_z-of_z, c.ranges.now) at c.on_pt-acts.ensures.row in
    let alone = handled-alone c.args.state.now.records.ledger.records c.args.state.now.core c.on_pt-acts.new.self c.args.now c.args.pt c.requires.read.0 (message_value c.args.message.now) c.on_pt-acts.result c.requires.read.1 by in
    let stays = handled-stays c.args.state.now.records.ledger.records c.args.state.now.core c.on_pt-acts.new.self c.args.now c.args.pt c.requires.read.0 (message_value c.args.message.now) c.on_pt-acts.result c.requires.read.1 by c.args.state.now.gateway c.requires.well.order c.law_records.ensures.rows c.law_records.ensures.cuts c.law_records.ensures.messages in
    handled-well c.args.state.now (record { gateway = c.args.state.now.gateway; core = c.perform.new.core; records = c.keep_wanted.new.self }) c.on_pt-acts.new.self c.args.pt c.on_pt-acts.result (memory_reserved c.args.state.now.core) (g.S.Site.observed c.args.site.now) (g.S.Site.observed c.keep_wanted.new.site) (g.S.Site.observed c.perform.new.site)
    c.requires.well refl stays c.requires.well.spare c.in-Ok.ensures.kept c.in-Ok.ensures.stands c.perform.ensures.goes_on alone.settings c.perform.ensures.settings c.perform.ensures.days c.perform.ensures.device_requests c.perform.ensures.order c.perform.ensures.dialogues
    (handled-waits c.args.state.now.records.ledger.records c.args.state.now.core c.on_pt-acts.new.self c.args.now c.args.pt c.requires.read.0 (message_value c.args.message.now) c.on_pt-acts.result c.requires.read.1 by c.args.state.now.gateway c.requires.well.order c.law_waits.ensures.keeps) c.perform.ensures.waits

pub returns-clause-count : goal.returns-clause-count
returns-clause-count g c =
    let by : GoesBy c.args.state.now.records.ledger.records c.args.state.now.core (moment_of c.args.now) c.args.pt (message_value c.args.message.now) c.on_pt-acts.new.self c.on_pt-acts.result = simp (to_z-of_z, c.ranges.now) at c.on_pt-acts.ensures.row in
    let alone = handled-alone c.args.state.now.records.ledger.records c.args.state.now.core c.on_pt-acts.new.self c.args.now c.args.pt c.requires.read.0 (message_value c.args.message.now) c.on_pt-acts.result c.requires.read.1 by in
    c.perform.ensures.count ∙ alone.count

pub returns-clause-goes_on : goal.returns-clause-goes_on
returns-clause-goes_on g c = goes-then _ _ _ c.keep_wanted.ensures.goes_on c.perform.ensures.goes_on.goes_on

pub returns-in-Err-clause-still : goal.returns-in-Err-clause-still
returns-in-Err-clause-still g c = still-same c.args.tills.now.list.items
