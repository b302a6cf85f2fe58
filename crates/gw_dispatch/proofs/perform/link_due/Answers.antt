-- Proof of the contract of `link_due`.
use Rattle.std.proofs.lemmas.Int.{to_z-of_z}
use Rattle.gw_base.specs.Moment.{moment_of}
use Rattle.gw_owes.specs.Deadlines.{due_row}
use Rattle.gw_rules.proofs.TripleLemmas.{triple-then}
use Rattle.gw_dispatch.proofs.GrowthLemmas.{still-stands}
use Rattle.gw_dispatch.proofs.RunStateLemmas.{stays-same}
use Rattle.gw_dispatch.proofs.ReaderLemmas.{still-same}
use Rattle.gw_dispatch.proofs.PerformLemmas.{IsRowOf, IsLinkedNow, due-now, due-begins, none-due}
use Rattle.gw_dispatch.proofs.perform.link_due.Goals as goal
use Rattle.gw_dispatch.proofs.perform.link_due.Goals.{in-Some, in-None}

pub link-requires-clause-unlinked : goal.link-requires-clause-unlinked
link-requires-clause-unlinked g c =
    let is : IsRowOf c.args.core.now (moment_of c.args.now) (λ known. due_row known c.args.pt) c.args.core.now c.on_moment.result = simp (to_z-of_z, c.ranges.now) at c.on_moment.ensures.row in
    let due : IsLinkedNow c.args.core.now (moment_of c.args.now) c.args.pt = due-now c.args.core.now (moment_of c.args.now) c.args.pt c.on_moment.result _ c.in-Some.is is in
    due.unlinked

pub returns-clause-triple : goal.returns-clause-triple
returns-clause-triple g c = λ setup kept polls heard items none.
    let is : IsRowOf c.args.core.now (moment_of c.args.now) (λ known. due_row known c.args.pt) c.args.core.now c.on_moment.result = simp (to_z-of_z, c.ranges.now) at c.on_moment.ensures.row in
    elim c.match-on_moment.branch [
      | in-Some w ↦
          rw (w.core-is, w.site-is, w.tills-is) (
          let due : IsLinkedNow c.args.core.now (moment_of c.args.now) c.args.pt = due-now c.args.core.now (moment_of c.args.now) c.args.pt c.on_moment.result _ w.in-Some.is is in
          triple-then _ _ _ _ _ _ (due-begins _ c.args.core.now c.args.tills.now.list.items c.args.now c.args.pt setup kept polls heard items due) (simp (to_z-of_z, c.ranges.now) at (w.link.ensures.triple setup kept polls heard items none)))
      | in-None w ↦ rw (w.core-is, w.site-is, w.tills-is) (none-due _ c.args.core.now c.args.tills.now.list.items c.args.now c.args.pt c.on_moment.result w.in-None.is is setup kept polls heard items)
    ]

pub returns-clause-order : goal.returns-clause-order
returns-clause-order g c =
    elim c.match-on_moment.branch [
      | in-Some w ↦ rw w.core-is w.link.ensures.order
      | in-None w ↦ rw w.core-is (stays-same c.args.core.now)
    ]

pub returns-clause-goes_on : goal.returns-clause-goes_on
returns-clause-goes_on g c =
    elim c.match-on_moment.branch [
      | in-Some w ↦ rw w.site-is w.link.ensures.goes_on
      | in-None w ↦ rw w.site-is (still-stands _)
    ]

pub returns-clause-still : goal.returns-clause-still
returns-clause-still g c =
    elim c.match-on_moment.branch [
      | in-Some w ↦ rw w.tills-is w.link.ensures.still
      | in-None w ↦ rw w.tills-is (still-same c.args.tills.now.list.items)
    ]
