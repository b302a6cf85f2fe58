-- Proof of the contract of `on_apdu`.
use Rattle.std.proofs.Common.{◌≡◌, ◌<◌, ◌∙◌, length, sym, subst, []}
use Rattle.std.specs.Prelude.{Err, Ok}
use Rattle.std.proofs.lemmas.Int.{to_z-of_z}
use Rattle.zvt_apdu.specs.Grammar.{value_of as apdu_value}
use Rattle.zvt_msg.specs.Message.{value_of as message_value}
use Rattle.zvt_msg.specs.MessageDecode.{decode_pt_message}
use Rattle.gw_owes.specs.Items.{Greet}
use Rattle.gw_dispatch.specs.MidRound.{AreHeard, HeldRound}
use Rattle.gw_dispatch.proofs.FitLemmas.{linked-is}
use Rattle.gw_dispatch.proofs.GrowthLemmas.{goes-then}
use Rattle.gw_dispatch.proofs.HandleLemmas.{BeginsNext, TakesHandled, apdu-broken, apdu-outside, apdu-taken, disk-done, disk-failed}
use Rattle.gw_dispatch.proofs.RunStateLemmas.{well-core}
use Rattle.gw_dispatch.proofs.PerformLemmas.{Handles, greet-outside}
use Rattle.gw_dispatch.proofs.ReaderLemmas.{still-then}
use Rattle.gw_dispatch.proofs.messages.on_apdu.Goals as goal

pub returns-in-Err-clause-triple : goal.returns-in-Err-clause-triple
returns-in-Err-clause-triple g c =
    let outside : decode_pt_message (apdu_value c.args.apdu.now) ≡ Err c.in-Err.field-0 = c.in-Err.ensures.computes in
    let greets : Handles (g.S.Site.observed c.args.site.now) (g.S.Site.observed c.reject.new.site) c.args.state.now.core c.reject.new.core c.args.tills.now.list.items c.reject.new.tills.list.items c.args.now (Greet c.args.pt (apdu_value c.args.apdu.now)) =
    simp (to_z-of_z, c.ranges.now) at (c.reject.ensures.triple (Greet c.args.pt (apdu_value c.args.apdu.now)) (greet-outside c.args.pt (apdu_value c.args.apdu.now) c.in-Err.field-0 outside)) in
    apdu-outside _ _ c.args.state.now c.reject.new.core c.args.tills.now.list.items c.reject.new.tills.list.items c.args.now c.args.pt (apdu_value c.args.apdu.now) c.in-Err.field-0 outside c.reject.ensures.unlinked greets

pub returns-in-Err-clause-well : goal.returns-in-Err-clause-well
returns-in-Err-clause-well g c = well-core c.args.state.now c.reject.new.core _ _ c.requires.well c.reject.ensures.order c.reject.ensures.dialogues c.reject.ensures.goes_on

pub handle-requires-clause-well : goal.handle-requires-clause-well
handle-requires-clause-well g c = well-core c.args.state.now c.greet.new.core _ _ c.requires.well c.greet.ensures.order c.greet.ensures.dialogues c.greet.ensures.goes_on

pub handle-requires-clause-printed : goal.handle-requires-clause-printed
handle-requires-clause-printed g c = c.law_read_fits.ensures.printed (apdu_value c.args.apdu.now) (message_value c.in-Ok.message) c.requires.within c.in-Ok.ensures.computes

pub begin_waiting-requires-clause-there : goal.begin_waiting-requires-clause-there
begin_waiting-requires-clause-there g c = subst (λ count. c.args.pt < count) (sym (c.handle.ensures.count ∙ c.greet.ensures.count)) c.requires.there

pub returns-in-Ok-begin_waiting-clause-triple : goal.returns-in-Ok-begin_waiting-clause-triple
returns-in-Ok-begin_waiting-clause-triple g c = λ setup polls heard items.
    let decoded : decode_pt_message (apdu_value c.args.apdu.now) ≡ Ok (message_value c.in-Ok.message) = c.in-Ok.ensures.computes in
    let greets : Handles (g.S.Site.observed c.args.site.now) (g.S.Site.observed c.greet.new.site) c.args.state.now.core c.greet.new.core c.args.tills.now.list.items c.greet.new.tills.list.items c.args.now (Greet c.args.pt (apdu_value c.args.apdu.now)) =
    simp (to_z-of_z, c.ranges.now) at (c.greet.ensures.triple (apdu_value c.args.apdu.now) decoded) in
    let takes : TakesHandled (g.S.Site.observed c.greet.new.site) (g.S.Site.observed c.handle.new.site) (record c.args.state.now { core = c.greet.new.core }) c.handle.new.state c.greet.new.tills.list.items c.handle.new.tills.list.items c.args.now c.handle.result c.args.pt (apdu_value c.args.apdu.now) =
    simp (to_z-of_z, c.ranges.now) at (c.handle.ensures.triple (apdu_value c.args.apdu.now) decoded) in
    let begins : BeginsNext (g.S.Site.observed c.handle.new.site) (g.S.Site.observed c.begin_waiting.new.site) c.handle.new.state c.begin_waiting.new.state c.handle.new.tills.list.items c.begin_waiting.new.tills.list.items c.args.now c.begin_waiting.result c.args.pt = simp (to_z-of_z, c.ranges.now) at c.begin_waiting.ensures.triple in
    apdu-taken _ _ _ _ c.args.state.now c.handle.new.state c.greet.new.core c.args.tills.now.list.items c.greet.new.tills.list.items c.handle.new.tills.list.items c.args.now c.args.pt (apdu_value c.args.apdu.now) greets
    (λ setup polls heard items. disk-done _ _ c.handle.result _ _ (λ done. HeldRound setup c.handle.new.state c.handle.new.tills.list.items polls c.args.now (AreHeard heard) [] items) c.in-Ok-handle.is (takes setup polls heard items))
    setup polls heard items _
    (disk-done _ _ c.begin_waiting.result _ _ (λ done. HeldRound setup c.begin_waiting.new.state c.begin_waiting.new.tills.list.items polls c.args.now (AreHeard heard) [] items) c.in-Ok-begin_waiting.is (begins setup polls heard items))

pub returns-in-Ok-begin_waiting-clause-linked : goal.returns-in-Ok-begin_waiting-clause-linked
returns-in-Ok-begin_waiting-clause-linked g c =
    let there : c.args.pt < length c.begin_waiting.new.state.core.terminals = subst (λ count. c.args.pt < count) (sym (c.begin_waiting.ensures.count ∙ c.handle.ensures.count ∙ c.greet.ensures.count)) c.requires.there in
    sym (linked-is c.begin_waiting.new.state.core.terminals c.args.pt c.is_linked.result there c.is_linked.ensures)

pub returns-in-Err-begin_waiting-clause-triple : goal.returns-in-Err-begin_waiting-clause-triple
returns-in-Err-begin_waiting-clause-triple g c = λ setup polls heard items.
    let decoded : decode_pt_message (apdu_value c.args.apdu.now) ≡ Ok (message_value c.in-Ok.message) = c.in-Ok.ensures.computes in
    let greets : Handles (g.S.Site.observed c.args.site.now) (g.S.Site.observed c.greet.new.site) c.args.state.now.core c.greet.new.core c.args.tills.now.list.items c.greet.new.tills.list.items c.args.now (Greet c.args.pt (apdu_value c.args.apdu.now)) =
    simp (to_z-of_z, c.ranges.now) at (c.greet.ensures.triple (apdu_value c.args.apdu.now) decoded) in
    let takes : TakesHandled (g.S.Site.observed c.greet.new.site) (g.S.Site.observed c.handle.new.site) (record c.args.state.now { core = c.greet.new.core }) c.handle.new.state c.greet.new.tills.list.items c.handle.new.tills.list.items c.args.now c.handle.result c.args.pt (apdu_value c.args.apdu.now) =
    simp (to_z-of_z, c.ranges.now) at (c.handle.ensures.triple (apdu_value c.args.apdu.now) decoded) in
    let begins : BeginsNext (g.S.Site.observed c.handle.new.site) (g.S.Site.observed c.begin_waiting.new.site) c.handle.new.state c.begin_waiting.new.state c.handle.new.tills.list.items c.begin_waiting.new.tills.list.items c.args.now c.begin_waiting.result c.args.pt = simp (to_z-of_z, c.ranges.now) at c.begin_waiting.ensures.triple in
    apdu-taken _ _ _ _ c.args.state.now c.handle.new.state c.greet.new.core c.args.tills.now.list.items c.greet.new.tills.list.items c.handle.new.tills.list.items c.args.now c.args.pt (apdu_value c.args.apdu.now) greets
    (λ setup polls heard items. disk-done _ _ c.handle.result _ _ (λ done. HeldRound setup c.handle.new.state c.handle.new.tills.list.items polls c.args.now (AreHeard heard) [] items) c.in-Ok-handle.is (takes setup polls heard items))
    setup polls heard items _
    (disk-failed _ _ c.begin_waiting.result _ _ (λ done. HeldRound setup c.begin_waiting.new.state c.begin_waiting.new.tills.list.items polls c.args.now (AreHeard heard) [] items) c.in-Err-begin_waiting.is (begins setup polls heard items))

pub returns-in-Err-handle-clause-triple : goal.returns-in-Err-handle-clause-triple
returns-in-Err-handle-clause-triple g c =
    let decoded : decode_pt_message (apdu_value c.args.apdu.now) ≡ Ok (message_value c.in-Ok.message) = c.in-Ok.ensures.computes in
    let greets : Handles (g.S.Site.observed c.args.site.now) (g.S.Site.observed c.greet.new.site) c.args.state.now.core c.greet.new.core c.args.tills.now.list.items c.greet.new.tills.list.items c.args.now (Greet c.args.pt (apdu_value c.args.apdu.now)) =
    simp (to_z-of_z, c.ranges.now) at (c.greet.ensures.triple (apdu_value c.args.apdu.now) decoded) in
    let takes : TakesHandled (g.S.Site.observed c.greet.new.site) (g.S.Site.observed c.handle.new.site) (record c.args.state.now { core = c.greet.new.core }) c.handle.new.state c.greet.new.tills.list.items c.handle.new.tills.list.items c.args.now c.handle.result c.args.pt (apdu_value c.args.apdu.now) =
    simp (to_z-of_z, c.ranges.now) at (c.handle.ensures.triple (apdu_value c.args.apdu.now) decoded) in
    apdu-broken _ _ _ c.args.state.now c.greet.new.core c.args.tills.now.list.items c.greet.new.tills.list.items c.args.now c.args.pt (apdu_value c.args.apdu.now) greets
    (λ setup polls heard items. disk-failed _ _ c.handle.result _ _ (λ done. HeldRound setup c.handle.new.state c.handle.new.tills.list.items polls c.args.now (AreHeard heard) [] items) c.in-Err-handle.is (takes setup polls heard items))

pub returns-in-Ok-begin_waiting-clause-still : goal.returns-in-Ok-begin_waiting-clause-still
returns-in-Ok-begin_waiting-clause-still g c = still-then c.args.tills.now.list.items c.greet.new.tills.list.items c.begin_waiting.new.tills.list.items c.greet.ensures.still (still-then c.greet.new.tills.list.items c.handle.new.tills.list.items c.begin_waiting.new.tills.list.items c.handle.ensures.still c.begin_waiting.ensures.still)

pub returns-in-Err-begin_waiting-clause-still : goal.returns-in-Err-begin_waiting-clause-still
returns-in-Err-begin_waiting-clause-still g c = still-then c.args.tills.now.list.items c.greet.new.tills.list.items c.begin_waiting.new.tills.list.items c.greet.ensures.still (still-then c.greet.new.tills.list.items c.handle.new.tills.list.items c.begin_waiting.new.tills.list.items c.handle.ensures.still c.begin_waiting.ensures.still)

pub returns-in-Err-handle-clause-still : goal.returns-in-Err-handle-clause-still
returns-in-Err-handle-clause-still g c = still-then c.args.tills.now.list.items c.greet.new.tills.list.items c.handle.new.tills.list.items c.greet.ensures.still c.handle.ensures.still

pub returns-in-Err-handle-clause-goes_on : goal.returns-in-Err-handle-clause-goes_on
returns-in-Err-handle-clause-goes_on g c = goes-then _ _ _ c.greet.ensures.goes_on.goes_on c.handle.ensures.goes_on

pub returns-in-Ok-begin_waiting-clause-goes_on : goal.returns-in-Ok-begin_waiting-clause-goes_on
returns-in-Ok-begin_waiting-clause-goes_on g c = goes-then _ _ _ c.greet.ensures.goes_on.goes_on (goes-then _ _ _ c.handle.ensures.goes_on c.begin_waiting.ensures.goes_on)

pub returns-in-Err-begin_waiting-clause-goes_on : goal.returns-in-Err-begin_waiting-clause-goes_on
returns-in-Err-begin_waiting-clause-goes_on g c = goes-then _ _ _ c.greet.ensures.goes_on.goes_on (goes-then _ _ _ c.handle.ensures.goes_on c.begin_waiting.ensures.goes_on)
