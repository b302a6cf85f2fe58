-- Proof of the contract of `begin`.
use Rattle.std.proofs.Common.{◌+◌, ◌<◌, refl, sym, ◌∙◌, subst}
use Rattle.std.proofs.lemmas.Int.{to_z-of_z}
use Rattle.gw_base.specs.Moment.{moment_of}
use Rattle.gw_owes.specs.Waits.{memory_reserved}
use Rattle.gw_core.proofs.BeginLemmas.{begins-within}
use Rattle.gw_dispatch.proofs.BeginLemmas.{BeginsBy, begun-no-link, begun-alone, begun-has, begun-others, begun-stays, begun-room, begun-waits, begun-broken, begun-done}
use Rattle.gw_dispatch.proofs.GrowthLemmas.{goes-then}
use Rattle.gw_dispatch.proofs.HandleLemmas.{handled-well}
use Rattle.gw_dispatch.proofs.PerformLemmas.{MakesCall}
use Rattle.gw_dispatch.proofs.ReaderLemmas.{still-same}
use Rattle.gw_dispatch.proofs.serving.begin.Goals as goal

pub begin-acts-requires-clause-there : goal.begin-acts-requires-clause-there
begin-acts-requires-clause-there g c =
    begins-within c.args.state.now.gateway c.args.state.now.records.ledger.records c.args.state.now.core _ c.args.pt c.args.header.now c.args.request.now c.requires.begins

pub keep_wanted-requires-clause-room : goal.keep_wanted-requires-clause-room
keep_wanted-requires-clause-room g c =
    let by : BeginsBy c.args.state.now.gateway c.args.state.now.records.ledger.records c.args.state.now.core (moment_of c.args.now) c.args.pt c.args.till c.args.header.now c.args.request.now c.begin-acts.new.self c.begin-acts.result = simp (to_z-of_z, c.ranges.now) at c.begin-acts.ensures.row in
    begun-room c.args.state.now.gateway c.args.state.now.records.ledger.records c.args.state.now.core c.begin-acts.new.self c.args.now c.args.pt c.args.till c.args.header.now c.args.request.now c.begin-acts.result c.requires.well.order by c.requires.begins c.law_records.ensures.rows c.law_records.ensures.items c.law_records.ensures.requests c.law_waits.ensures.keeps c.args.state.now.records (g.S.Site.observed c.args.site.now) refl c.requires.well.records c.requires.spare c.begin-acts.ensures.kept

pub returns-in-Err-clause-triple : goal.returns-in-Err-clause-triple
returns-in-Err-clause-triple g c =
    λ setup polls heard items same.
    let by : BeginsBy c.args.state.now.gateway c.args.state.now.records.ledger.records c.args.state.now.core (moment_of c.args.now) c.args.pt c.args.till c.args.header.now c.args.request.now c.begin-acts.new.self c.begin-acts.result = simp (to_z-of_z, c.ranges.now) at c.begin-acts.ensures.row in
    begun-broken c.args.state.now.gateway c.args.state.now.records.ledger.records c.args.state.now.core c.begin-acts.new.self c.args.now c.args.pt c.args.till c.args.header.now c.args.request.now c.begin-acts.result c.requires.well.order by setup same c.args.tills.now.list.items polls heard items (g.S.Site.observed c.args.site.now) (g.S.Site.observed c.keep_wanted.new.site) c.keep_wanted.new.self.ledger.records c.keep_wanted.result (λ setup core tills polls heard calls items. c.keep_wanted.ensures.triple setup core tills polls c.args.now heard calls items) _ c.in-Err.is

pub returns-in-Err-clause-count : goal.returns-in-Err-clause-count
returns-in-Err-clause-count g c =
    let by : BeginsBy c.args.state.now.gateway c.args.state.now.records.ledger.records c.args.state.now.core (moment_of c.args.now) c.args.pt c.args.till c.args.header.now c.args.request.now c.begin-acts.new.self c.begin-acts.result = simp (to_z-of_z, c.ranges.now) at c.begin-acts.ensures.row in
    let alone = begun-alone c.args.state.now.gateway c.args.state.now.records.ledger.records c.args.state.now.core c.begin-acts.new.self c.args.now c.args.pt c.args.till c.args.header.now c.args.request.now c.begin-acts.result c.requires.well.order by in
    alone.count

pub perform-requires-clause-there : goal.perform-requires-clause-there
perform-requires-clause-there g c =
    let by : BeginsBy c.args.state.now.gateway c.args.state.now.records.ledger.records c.args.state.now.core (moment_of c.args.now) c.args.pt c.args.till c.args.header.now c.args.request.now c.begin-acts.new.self c.begin-acts.result = simp (to_z-of_z, c.ranges.now) at c.begin-acts.ensures.row in
    let alone = begun-alone c.args.state.now.gateway c.args.state.now.records.ledger.records c.args.state.now.core c.begin-acts.new.self c.args.now c.args.pt c.args.till c.args.header.now c.args.request.now c.begin-acts.result c.requires.well.order by in
    subst (λ count. c.args.pt < count) (sym alone.count) (begins-within c.args.state.now.gateway c.args.state.now.records.ledger.records c.args.state.now.core _ c.args.pt c.args.header.now c.args.request.now c.requires.begins)

pub perform-requires-clause-no_link : goal.perform-requires-clause-no_link
perform-requires-clause-no_link g c =
    let by : BeginsBy c.args.state.now.gateway c.args.state.now.records.ledger.records c.args.state.now.core (moment_of c.args.now) c.args.pt c.args.till c.args.header.now c.args.request.now c.begin-acts.new.self c.begin-acts.result = simp (to_z-of_z, c.ranges.now) at c.begin-acts.ensures.row in
    begun-no-link c.args.state.now.gateway c.args.state.now.records.ledger.records c.args.state.now.core c.begin-acts.new.self c.args.now c.args.pt c.args.till c.args.header.now c.args.request.now c.begin-acts.result c.requires.well.order by

pub perform-requires-clause-others : goal.perform-requires-clause-others
perform-requires-clause-others g c =
    let by : BeginsBy c.args.state.now.gateway c.args.state.now.records.ledger.records c.args.state.now.core (moment_of c.args.now) c.args.pt c.args.till c.args.header.now c.args.request.now c.begin-acts.new.self c.begin-acts.result = simp (to_z-of_z, c.ranges.now) at c.begin-acts.ensures.row in
    begun-others c.args.state.now.gateway c.args.state.now.records.ledger.records c.args.state.now.core c.begin-acts.new.self c.args.now c.args.pt c.args.till c.args.header.now c.args.request.now c.begin-acts.result c.requires.well.order by

pub perform-requires-clause-dialogues : goal.perform-requires-clause-dialogues
perform-requires-clause-dialogues g c =
    let by : BeginsBy c.args.state.now.gateway c.args.state.now.records.ledger.records c.args.state.now.core (moment_of c.args.now) c.args.pt c.args.till c.args.header.now c.args.request.now c.begin-acts.new.self c.begin-acts.result = simp (to_z-of_z, c.ranges.now) at c.begin-acts.ensures.row in
    λ uncut. begun-has c.args.state.now.gateway c.args.state.now.records.ledger.records c.args.state.now.core c.begin-acts.new.self c.args.now c.args.pt c.args.till c.args.header.now c.args.request.now c.begin-acts.result c.requires.well.order by

pub returns-clause-triple : goal.returns-clause-triple
returns-clause-triple g c =
    λ setup polls heard items same.
    let by : BeginsBy c.args.state.now.gateway c.args.state.now.records.ledger.records c.args.state.now.core (moment_of c.args.now) c.args.pt c.args.till c.args.header.now c.args.request.now c.begin-acts.new.self c.begin-acts.result = simp (to_z-of_z, c.ranges.now) at c.begin-acts.ensures.row in
    let makes : MakesCall (g.S.Site.observed c.keep_wanted.new.site) (g.S.Site.observed c.perform.new.site) c.begin-acts.new.self c.perform.new.core c.args.tills.now.list.items c.perform.new.tills.list.items c.args.now c.begin-acts.result.act = simp (to_z-of_z, c.ranges.now) at c.perform.ensures.triple in
    begun-done c.args.state.now.gateway c.args.state.now.records.ledger.records c.args.state.now.core c.begin-acts.new.self c.args.now c.args.pt c.args.till c.args.header.now c.args.request.now c.begin-acts.result c.requires.well.order by setup same c.args.tills.now.list.items polls heard items (g.S.Site.observed c.args.site.now) (g.S.Site.observed c.keep_wanted.new.site) c.keep_wanted.new.self.ledger.records c.keep_wanted.result (λ setup core tills polls heard calls items. c.keep_wanted.ensures.triple setup core tills polls c.args.now heard calls items) (g.S.Site.observed c.perform.new.site) _ c.in-Ok.is _ (λ calls is. makes calls is setup c.keep_wanted.new.self.ledger.records polls heard items)

pub returns-clause-well : goal.returns-clause-well
returns-clause-well g c =
    let by : BeginsBy c.args.state.now.gateway c.args.state.now.records.ledger.records c.args.state.now.core (moment_of c.args.now) c.args.pt c.args.till c.args.header.now c.args.request.now c.begin-acts.new.self c.begin-acts.result = simp (to_z-of_z, c.ranges.now) at c.begin-acts.ensures.row in
    let alone = begun-alone c.args.state.now.gateway c.args.state.now.records.ledger.records c.args.state.now.core c.begin-acts.new.self c.args.now c.args.pt c.args.till c.args.header.now c.args.request.now c.begin-acts.result c.requires.well.order by in
    let stays = begun-stays c.args.state.now.gateway c.args.state.now.records.ledger.records c.args.state.now.core c.begin-acts.new.self c.args.now c.args.pt c.args.till c.args.header.now c.args.request.now c.begin-acts.result c.requires.well.order by c.requires.begins c.law_records.ensures.rows c.law_records.ensures.items c.law_records.ensures.requests c.law_waits.ensures.keeps in
    handled-well c.args.state.now (record { gateway = c.args.state.now.gateway; core = c.perform.new.core; records = c.keep_wanted.new.self }) c.begin-acts.new.self c.args.pt c.begin-acts.result (memory_reserved c.args.state.now.core + 1) (g.S.Site.observed c.args.site.now) (g.S.Site.observed c.keep_wanted.new.site) (g.S.Site.observed c.perform.new.site)
    c.requires.well refl stays c.requires.spare c.in-Ok.ensures.kept c.in-Ok.ensures.stands c.perform.ensures.goes_on alone.settings c.perform.ensures.settings c.perform.ensures.days c.perform.ensures.device_requests c.perform.ensures.order c.perform.ensures.dialogues
    (begun-waits c.args.state.now.gateway c.args.state.now.records.ledger.records c.args.state.now.core c.begin-acts.new.self c.args.now c.args.pt c.args.till c.args.header.now c.args.request.now c.begin-acts.result c.requires.well.order by c.requires.begins c.law_records.ensures.rows c.law_records.ensures.items c.law_records.ensures.requests c.law_waits.ensures.keeps) c.perform.ensures.waits

pub returns-clause-count : goal.returns-clause-count
returns-clause-count g c =
    let by : BeginsBy c.args.state.now.gateway c.args.state.now.records.ledger.records c.args.state.now.core (moment_of c.args.now) c.args.pt c.args.till c.args.header.now c.args.request.now c.begin-acts.new.self c.begin-acts.result = simp (to_z-of_z, c.ranges.now) at c.begin-acts.ensures.row in
    let alone = begun-alone c.args.state.now.gateway c.args.state.now.records.ledger.records c.args.state.now.core c.begin-acts.new.self c.args.now c.args.pt c.args.till c.args.header.now c.args.request.now c.begin-acts.result c.requires.well.order by in
    c.perform.ensures.count ∙ alone.count

pub returns-in-Err-clause-still : goal.returns-in-Err-clause-still
returns-in-Err-clause-still g c = still-same c.args.tills.now.list.items

pub returns-clause-goes_on : goal.returns-clause-goes_on
returns-clause-goes_on g c = goes-then _ _ _ c.keep_wanted.ensures.goes_on c.perform.ensures.goes_on.goes_on
