-- Proof of the contract of `next_message`.
use Rattle.std.proofs.Common.{◌∙◌, ap, refl, subst, sym}
use Rattle.sale_frame.specs.Grammar.{IsIncompleteFrame}
use Rattle.gw_dispatch.specs.Tills.{rank}
use Rattle.std.proofs.lemmas.Int.{to_z-of_z}
use Rattle.gw_dispatch.proofs.ReaderLemmas.{absent-bytes, absent-reader, empty-waits}
use Rattle.gw_dispatch.proofs.ServeLemmas.{next-at, others-at, rests-at, there-with}
use Rattle.gw_dispatch.proofs.serving.next_message.Goals as goal

pub returns-in-None-clause-next : goal.returns-in-None-clause-next
returns-in-None-clause-next c =
    (subst IsIncompleteFrame (sym (absent-bytes c.args.number c.args.tills.now.list.items (absent-reader c.args.number c.args.tills.now.list.items (ap (rank c.args.number) (sym c.deref.ensures.value) ∙ sym c.index_of.ensures.index ∙ c.in-None.is)))) empty-waits, refl)

pub returns-in-Some-clause-next : goal.returns-in-Some-clause-next
returns-in-Some-clause-next c =
    next-at c.args.number c.in-Some.index c.args.tills.now.list.items c.index_mut.result.now c.take_message.new.reader (ap (rank c.args.number) (sym c.deref.ensures.value) ∙ sym c.index_of.ensures.index ∙ c.in-Some.is) c.index_mut.ensures.value
    c.args.state.now.gateway c.args.state.now.records.ledger.records c.args.state.now.core c.args.now c.take_message.result (simp (to_z-of_z, c.ranges.now) at c.take_message.ensures.next)

pub returns-in-Some-clause-there : goal.returns-in-Some-clause-there
returns-in-Some-clause-there c = there-with c.args.number c.in-Some.index c.args.tills.now.list.items c.take_message.result (ap (rank c.args.number) (sym c.deref.ensures.value) ∙ sym c.index_of.ensures.index ∙ c.in-Some.is)

pub returns-in-Some-clause-rested : goal.returns-in-Some-clause-rested
returns-in-Some-clause-rested c =
    rests-at c.args.number c.in-Some.index c.args.tills.now.list.items c.index_mut.result.now c.take_message.new.reader (ap (rank c.args.number) (sym c.deref.ensures.value) ∙ sym c.index_of.ensures.index ∙ c.in-Some.is) c.index_mut.ensures.value
    c.args.state.now.gateway c.args.state.now.records.ledger.records c.args.state.now.core c.args.now c.take_message.result (simp (to_z-of_z, c.ranges.now) at c.take_message.ensures.next)

pub returns-in-Some-clause-others : goal.returns-in-Some-clause-others
returns-in-Some-clause-others c =
    others-at c.args.number c.in-Some.index c.args.tills.now.list.items c.index_mut.result.now c.take_message.new.reader (ap (rank c.args.number) (sym c.deref.ensures.value) ∙ sym c.index_of.ensures.index ∙ c.in-Some.is) c.index_mut.ensures.value
