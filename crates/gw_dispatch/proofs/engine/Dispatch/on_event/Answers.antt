-- Proof of the contract of `Dispatch::on_event`.
use Rattle.std.proofs.Common.{◌+◌, ap, subst, sym}
use Rattle.std.proofs.lemmas.Int.{to_z-of_z}
use Rattle.gw_rules.proofs.TripleLemmas.{triple-then}
use Rattle.gw_site.specs.declared.site.What.TheVariants.{TillOpened, TillBytes, PtBytes, PtClosed, Nothing, Stopped}
use Rattle.gw_dispatch.specs.Rounds.{IsOfTill}
use Rattle.gw_dispatch.proofs.GrowthLemmas.{still-stands}
use Rattle.gw_dispatch.proofs.RunStateLemmas.{ready-without}
use Rattle.gw_dispatch.proofs.RoundLemmas.{at-what, rest-nothing, rest-pt-bytes, rest-pt-closed, rest-forgotten, rest-stopped, rest-opened, rest-heard}
use Rattle.gw_dispatch.proofs.engine.Dispatch.on_event.Goals as goal

pub returns-in-Stopped-clause-triple : goal.returns-in-Stopped-clause-triple
returns-in-Stopped-clause-triple g c = λ setup polls named. at-what _ setup c.args.self.now polls c.args.now c.args.what Stopped c.args.buf.now _ c.in-Stopped.is (rest-stopped c.args.buf.now setup c.args.self.now polls c.args.now)

pub returns-in-TillOpened-clause-triple : goal.returns-in-TillOpened-clause-triple
returns-in-TillOpened-clause-triple g c = λ setup polls named. triple-then _ _ _ _ _ _
    (at-what _ setup c.args.self.now polls c.args.now c.args.what (TillOpened c.in-TillOpened.number) c.args.buf.now _ c.in-TillOpened.is (rest-opened c.in-TillOpened.number c.args.buf.now setup c.args.self.now polls c.args.now))
    (c.on_open.ensures.triple setup (polls + 1) c.args.now)

pub returns-in-TillOpened-clause-memory : goal.returns-in-TillOpened-clause-memory
returns-in-TillOpened-clause-memory g c = λ e. subst IsOfTill (sym c.in-TillOpened.is) tt

pub returns-in-TillBytes-clause-triple : goal.returns-in-TillBytes-clause-triple
returns-in-TillBytes-clause-triple g c = λ setup polls named. triple-then _ _ _ _ _ _
    (at-what _ setup c.args.self.now polls c.args.now c.args.what (TillBytes c.in-TillBytes.number c.in-TillBytes.count) c.args.buf.now _ c.in-TillBytes.is (rest-heard c.in-TillBytes.number c.in-TillBytes.count c.args.buf.now setup c.args.self.now polls c.args.now))
    (simp (to_z-of_z, c.ranges.now) at (c.on_bytes.ensures.triple setup (polls + 1) named))

pub returns-in-TillBytes-clause-memory : goal.returns-in-TillBytes-clause-memory
returns-in-TillBytes-clause-memory g c = λ e. subst IsOfTill (sym c.in-TillBytes.is) tt

pub returns-in-TillClosed-clause-triple : goal.returns-in-TillClosed-clause-triple
returns-in-TillClosed-clause-triple g c = λ setup polls named. rest-forgotten _ c.in-TillClosed.number c.args.buf.now setup c.args.self.now c.forget.new.self polls c.args.now c.args.what c.in-TillClosed.is c.forget.ensures.list c.forget.ensures.state (ap (λ readers. readers.items) c.forget.ensures.readers)

pub returns-in-TillClosed-clause-ready : goal.returns-in-TillClosed-clause-ready
returns-in-TillClosed-clause-ready g c = ready-without c.args.self.now c.in-TillClosed.number c.forget.new.self _ _ c.forget.ensures.state c.forget.ensures.list c.forget.ensures.readers c.requires.ready (still-stands _)

pub returns-in-Ok-clause-triple : goal.returns-in-Ok-clause-triple
returns-in-Ok-clause-triple g c = λ setup polls named. triple-then _ _ _ _ _ _
    (at-what _ setup c.args.self.now polls c.args.now c.args.what (PtBytes c.in-PtBytes.pt c.in-PtBytes.count) c.args.buf.now _ c.in-PtBytes.is (rest-pt-bytes c.in-PtBytes.pt c.in-PtBytes.count c.args.buf.now setup c.args.self.now polls c.args.now))
    (simp (to_z-of_z, c.ranges.now) at (c.in-Ok.ensures.triple setup (polls + 1)))

pub returns-in-Err-clause-triple : goal.returns-in-Err-clause-triple
returns-in-Err-clause-triple g c = λ setup polls named. triple-then _ _ _ _ _ _
    (at-what _ setup c.args.self.now polls c.args.now c.args.what (PtBytes c.in-PtBytes.pt c.in-PtBytes.count) c.args.buf.now _ c.in-PtBytes.is (rest-pt-bytes c.in-PtBytes.pt c.in-PtBytes.count c.args.buf.now setup c.args.self.now polls c.args.now))
    (simp (to_z-of_z, c.ranges.now) at (c.in-Err.ensures.triple setup (polls + 1)))

pub returns-in-PtClosed-clause-triple : goal.returns-in-PtClosed-clause-triple
returns-in-PtClosed-clause-triple g c = λ setup polls named. triple-then _ _ _ _ _ _
    (at-what _ setup c.args.self.now polls c.args.now c.args.what (PtClosed c.in-PtClosed.pt) c.args.buf.now _ c.in-PtClosed.is (rest-pt-closed c.in-PtClosed.pt c.args.buf.now setup c.args.self.now polls c.args.now))
    (simp (to_z-of_z, c.ranges.now) at (c.on_pt_closed.ensures.triple setup (polls + 1)))

pub returns-in-Nothing-clause-triple : goal.returns-in-Nothing-clause-triple
returns-in-Nothing-clause-triple g c = λ setup polls named. at-what _ setup c.args.self.now polls c.args.now c.args.what Nothing c.args.buf.now _ c.in-Nothing.is (rest-nothing c.args.buf.now setup c.args.self.now polls c.args.now)
