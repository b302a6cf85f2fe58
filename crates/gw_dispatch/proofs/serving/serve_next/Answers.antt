-- Proof of the contract of `serve_next`.
use Rattle.std.proofs.Common.{◌++◌, ◌∷◌, [], ◌∙◌, ap, inr, length, refl, subst, sym}
use Rattle.std.proofs.lemmas.Int.{to_z-of_z}
use Rattle.gw_base.specs.Moment.{moment_of}
use Rattle.sale_frame.specs.Grammar.{IsIncompleteFrame}
use Rattle.gw_owes.specs.Calls.{CutTill}
use Rattle.gw_owes.specs.Core.{Core}
use Rattle.gw_rules.proofs.TripleLemmas.{triple-after, triple-refl, triple-then}
use Rattle.gw_dispatch.specs.MidRound.{AreHeard}
use Rattle.gw_dispatch.specs.NextMessage.{IsNextOf}
use Rattle.gw_dispatch.specs.Serving.{items_of}
use Rattle.gw_dispatch.specs.Tills.{AllStillHold, IsThere, bytes_held, reader_of}
use Rattle.gw_dispatch.specs.declared.fault.TurnFault.TheVariants.{Memory}
use Rattle.gw_dispatch.specs.declared.serving.Next.TheVariants.{Incomplete, Message, Unframed}
use Rattle.gw_dispatch.proofs.ReaderLemmas.{absent-bytes, dropped-reader, dropped-still, empty-waits, others-still}
use Rattle.gw_dispatch.proofs.SendLemmas.{sent-count}
use Rattle.gw_dispatch.proofs.ServeLemmas.{dropped-items, held-idle, message-served, moved, no-memory-said, same-items, same-well, still-shorter, takes-less, unframed, well-sent}
use Rattle.gw_dispatch.proofs.serving.serve_next.Goals as goal

pub returns-in-Err-clause-triple : goal.returns-in-Err-clause-triple
returns-in-Err-clause-triple g c = λ setup polls heard items same. no-memory-said _ _ (λ v p. held-idle setup c.args.state.now.core c.args.state.now.records.ledger.records c.args.tills.now.list.items polls c.args.now (AreHeard heard) (items_of c.args.till c.args.tills.now.list.items ++ items) v p) Memory refl

pub returns-in-Ok-Incomplete-clause-triple : goal.returns-in-Ok-Incomplete-clause-triple
returns-in-Ok-Incomplete-clause-triple g c = λ setup polls heard items same.
    let next : IsNextOf c.args.state.now.gateway c.args.state.now.records.ledger.records c.args.state.now.core c.args.now (Incomplete) (bytes_held c.args.till c.args.tills.now.list.items) (bytes_held c.args.till c.next_message.new.tills.list.items) =
    rw c.in-Ok-Incomplete.field-0-is at c.in-Ok-Incomplete.ensures.next in
    triple-after _ _ _ _ _ (triple-refl _ _)
    (λ v p. moved c.args.state.now c.next_message.new.state c.in-Ok-Incomplete.ensures.same c.args.tills.now.list.items c.next_message.new.tills.list.items c.in-Ok-Incomplete.ensures.rested setup polls c.args.now heard [] (items_of c.args.till c.next_message.new.tills.list.items ++ items) v
    (same-items setup c.args.state.now polls c.args.now heard c.args.till c.args.tills.now.list.items c.next_message.new.tills.list.items items v (sym next.1) p))

pub returns-in-Ok-Incomplete-clause-waits : goal.returns-in-Ok-Incomplete-clause-waits
returns-in-Ok-Incomplete-clause-waits g c = λ e.
    let next : IsNextOf c.args.state.now.gateway c.args.state.now.records.ledger.records c.args.state.now.core c.args.now (Incomplete) (bytes_held c.args.till c.args.tills.now.list.items) (bytes_held c.args.till c.next_message.new.tills.list.items) =
    rw c.in-Ok-Incomplete.field-0-is at c.in-Ok-Incomplete.ensures.next in
    subst IsIncompleteFrame (sym next.1) next.0

pub returns-in-Ok-Incomplete-clause-well : goal.returns-in-Ok-Incomplete-clause-well
returns-in-Ok-Incomplete-clause-well g c = same-well c.args.state.now c.next_message.new.state Incomplete _ c.in-Ok-Incomplete.ensures.same (rw c.in-Ok-Incomplete.field-0-is at c.in-Ok-Incomplete.ensures.spare) c.requires.well

pub returns-in-Ok-Unframed-clause-triple : goal.returns-in-Ok-Unframed-clause-triple
returns-in-Ok-Unframed-clause-triple g c = λ setup polls heard items same.
    let next : IsNextOf c.args.state.now.gateway c.args.state.now.records.ledger.records c.args.state.now.core c.args.now (Unframed) (bytes_held c.args.till c.args.tills.now.list.items) (bytes_held c.args.till c.next_message.new.tills.list.items) =
    rw c.in-Ok-Unframed.field-0-is at c.in-Ok-Unframed.ensures.next in
    let there : IsThere c.args.till c.args.tills.now.list.items = rw c.in-Ok-Unframed.field-0-is at c.in-Ok-Unframed.ensures.there in
    triple-then _ _ _ _ _ _
    (triple-after _ _ _ _ _ (unframed setup c.args.state.now.core c.args.state.now.records.ledger.records c.args.tills.now.list.items polls c.args.now heard _ c.args.till (bytes_held c.args.till c.args.tills.now.list.items) items there next.0)
    (λ v p. moved c.args.state.now c.next_message.new.state c.in-Ok-Unframed.ensures.same c.args.tills.now.list.items c.next_message.new.tills.list.items c.in-Ok-Unframed.ensures.rested setup polls c.args.now heard (CutTill c.args.till ∷ []) items v p))
    (triple-after _ _ _ _ _ (c.cut_till.ensures.triple setup c.next_message.new.state.records.ledger.records polls c.args.now heard items)
    (λ v p. dropped-items setup (record c.next_message.new.state { core = c.cut_till.new.core }) c.cut_till.new.tills.list.items c.next_message.new.tills.list.items polls c.args.now heard c.args.till items v c.cut_till.ensures.list p))

pub returns-in-Ok-Unframed-clause-waits : goal.returns-in-Ok-Unframed-clause-waits
returns-in-Ok-Unframed-clause-waits g c = λ e.
    subst IsIncompleteFrame (sym (absent-bytes c.args.till c.cut_till.new.tills.list.items (ap (reader_of c.args.till) c.cut_till.ensures.list ∙ dropped-reader c.next_message.new.tills.list.items c.args.till))) empty-waits

pub returns-in-Ok-Unframed-clause-others : goal.returns-in-Ok-Unframed-clause-others
returns-in-Ok-Unframed-clause-others g c =
    others-still c.args.till c.args.tills.now.list.items c.next_message.new.tills.list.items c.cut_till.new.tills.list.items c.in-Ok-Unframed.ensures.others (subst (AllStillHold c.next_message.new.tills.list.items) (sym c.cut_till.ensures.list) (dropped-still c.next_message.new.tills.list.items c.args.till))

pub returns-in-Ok-Unframed-clause-well : goal.returns-in-Ok-Unframed-clause-well
returns-in-Ok-Unframed-clause-well g c =
    well-sent c.next_message.new.state c.cut_till.new.core _ _ (same-well c.args.state.now c.next_message.new.state Unframed _ c.in-Ok-Unframed.ensures.same (rw c.in-Ok-Unframed.field-0-is at c.in-Ok-Unframed.ensures.spare) c.requires.well) (inr (c.args.till, c.cut_till.ensures.core)) c.cut_till.ensures.goes_on

pub returns-in-Ok-Unframed-clause-count : goal.returns-in-Ok-Unframed-clause-count
returns-in-Ok-Unframed-clause-count g c = sent-count c.next_message.new.state.core c.cut_till.new.core (inr (c.args.till, c.cut_till.ensures.core)) ∙ ap (λ (core : Core). length core.terminals) c.in-Ok-Unframed.ensures.same.core

pub serve_message-requires-clause-well : goal.serve_message-requires-clause-well
serve_message-requires-clause-well g c = same-well c.args.state.now c.next_message.new.state (Message c.in-Ok-Message.given) _ c.in-Ok-Message.ensures.same (rw c.in-Ok-Message.field-0-is at c.in-Ok-Message.ensures.spare) c.requires.well

pub returns-in-Ok-clause-triple : goal.returns-in-Ok-clause-triple
returns-in-Ok-clause-triple g c = λ setup polls heard items same.
    let next : IsNextOf c.args.state.now.gateway c.args.state.now.records.ledger.records c.args.state.now.core c.args.now (Message c.in-Ok-Message.given) (bytes_held c.args.till c.args.tills.now.list.items) (bytes_held c.args.till c.next_message.new.tills.list.items) =
    simp (to_z-of_z, c.ranges.now) at (rw c.in-Ok-Message.field-0-is at c.in-Ok-Message.ensures.next) in
    message-served _ _ c.args.state.now c.next_message.new.state c.in-Ok-Message.ensures.same c.args.tills.now.list.items c.next_message.new.tills.list.items c.in-Ok-Message.ensures.rested setup polls c.args.now heard c.args.till items c.in-Ok-Message.given same (rw c.in-Ok-Message.field-0-is at c.in-Ok-Message.ensures.there) next _
    (λ calls is. rw (to_z-of_z, c.ranges.now) at (c.in-Ok.ensures.triple calls is setup polls heard items (same ∙ sym c.in-Ok-Message.ensures.same.gateway)))

pub returns-in-Ok-clause-less : goal.returns-in-Ok-clause-less
returns-in-Ok-clause-less g c = λ e.
    let next : IsNextOf c.args.state.now.gateway c.args.state.now.records.ledger.records c.args.state.now.core c.args.now (Message c.in-Ok-Message.given) (bytes_held c.args.till c.args.tills.now.list.items) (bytes_held c.args.till c.next_message.new.tills.list.items) =
    simp (to_z-of_z, c.ranges.now) at (rw c.in-Ok-Message.field-0-is at c.in-Ok-Message.ensures.next) in
    still-shorter c.args.till c.next_message.new.tills.list.items c.serve_message.new.tills.list.items (length (bytes_held c.args.till c.args.tills.now.list.items)) (c.in-Ok.ensures.still c.args.till) (takes-less c.args.state.now.gateway c.args.state.now.records.ledger.records c.args.state.now.core c.in-Ok-Message.given (bytes_held c.args.till c.args.tills.now.list.items) (bytes_held c.args.till c.next_message.new.tills.list.items) (moment_of c.args.now) next).0

pub returns-in-Ok-clause-others : goal.returns-in-Ok-clause-others
returns-in-Ok-clause-others g c = others-still c.args.till c.args.tills.now.list.items c.next_message.new.tills.list.items c.serve_message.new.tills.list.items c.in-Ok-Message.ensures.others c.in-Ok.ensures.still

pub returns-in-Err-serve_message-clause-triple : goal.returns-in-Err-serve_message-clause-triple
returns-in-Err-serve_message-clause-triple g c = λ setup polls heard items same.
    let next : IsNextOf c.args.state.now.gateway c.args.state.now.records.ledger.records c.args.state.now.core c.args.now (Message c.in-Ok-Message.given) (bytes_held c.args.till c.args.tills.now.list.items) (bytes_held c.args.till c.next_message.new.tills.list.items) =
    simp (to_z-of_z, c.ranges.now) at (rw c.in-Ok-Message.field-0-is at c.in-Ok-Message.ensures.next) in
    message-served _ _ c.args.state.now c.next_message.new.state c.in-Ok-Message.ensures.same c.args.tills.now.list.items c.next_message.new.tills.list.items c.in-Ok-Message.ensures.rested setup polls c.args.now heard c.args.till items c.in-Ok-Message.given same (rw c.in-Ok-Message.field-0-is at c.in-Ok-Message.ensures.there) next _
    (λ calls is. rw (to_z-of_z, c.ranges.now) at (c.in-Err-serve_message.ensures.triple calls is setup polls heard items (same ∙ sym c.in-Ok-Message.ensures.same.gateway)))

pub returns-in-Err-serve_message-clause-others : goal.returns-in-Err-serve_message-clause-others
returns-in-Err-serve_message-clause-others g c = others-still c.args.till c.args.tills.now.list.items c.next_message.new.tills.list.items c.serve_message.new.tills.list.items c.in-Ok-Message.ensures.others c.in-Err-serve_message.ensures.still
