-- Proof of the contract of `link_if_due`.
use Rattle.std.proofs.Common.{refl, sym, ◌∙◌, ◌∷◌, []}
use Rattle.std.proofs.lemmas.Int.{to_z-of_z}
use Rattle.std.proofs.lemmas.List.{length-set}
use Rattle.gw_owes.specs.Items.{Due}
use Rattle.gw_dispatch.specs.MidRound.{AllHear}
use Rattle.gw_dispatch.proofs.FitLemmas.{linked-is}
use Rattle.gw_dispatch.proofs.GrowthLemmas.{still-stands}
use Rattle.gw_dispatch.proofs.ReaderLemmas.{still-same}
use Rattle.gw_dispatch.proofs.RunStateLemmas.{stays-same}
use Rattle.gw_dispatch.proofs.PtsLemmas.{pass-linked, over-cleared, set-waits}
use Rattle.gw_dispatch.proofs.pts.link_if_due.Goals as goal

pub returns-then-is_linked-clause-triple : goal.returns-then-is_linked-clause-triple
returns-then-is_linked-clause-triple g c = λ setup kept polls items. pass-linked _ setup c.args.core.now kept c.args.tills.now.list.items polls c.args.now (AllHear c.args.readers.now) c.args.pt items
    (linked-is c.args.core.now.terminals c.args.pt c.is_linked.result c.requires.there c.is_linked.ensures ∙ c.if-is_linked.true)

pub returns-clause-triple : goal.returns-clause-triple
returns-clause-triple g c = λ setup kept polls items.
    let unlinked = linked-is c.args.core.now.terminals c.args.pt c.is_linked.result c.requires.there c.is_linked.ensures ∙ c.if-is_linked.false in
    rw (c.from.ensures, c.clear.ensures) (over-cleared _ _ setup c.args.core.now c.link_due.new.core kept c.args.tills.now.list.items c.link_due.new.tills.list.items polls c.args.now c.args.readers.now c.args.pt (Due c.args.pt ∷ items) items c.requires.ready.waits
    (c.requires.ready.count ∙ sym c.link_due.ensures.count) unlinked (λ heard none. simp (to_z-of_z, c.ranges.now) at (c.link_due.ensures.triple setup kept polls heard items none)))

pub returns-clause-ready : goal.returns-clause-ready
returns-clause-ready g c = rw (c.from.ensures, c.clear.ensures) (record {
  dialogues = c.link_due.ensures.dialogues;
  count = length-set c.args.readers.now c.args.pt [] ∙ c.requires.ready.count ∙ sym c.link_due.ensures.count;
  waits = set-waits c.args.readers.now c.args.pt [] refl c.requires.ready.waits;
})

pub returns-then-is_linked-clause-order : goal.returns-then-is_linked-clause-order
returns-then-is_linked-clause-order g c = stays-same c.args.core.now

pub returns-then-is_linked-clause-goes_on : goal.returns-then-is_linked-clause-goes_on
returns-then-is_linked-clause-goes_on g c = still-stands _

pub returns-then-is_linked-clause-still : goal.returns-then-is_linked-clause-still
returns-then-is_linked-clause-still g c = still-same c.args.tills.now.list.items
