-- Proof of the contract of `perform`.
use Rattle.std.proofs.Common.{◌∙◌, refl, sym, ap, [], ◌∷◌}
use Rattle.std.proofs.lemmas.Int.{to_z-of_z}
use Rattle.gw_owes.specs.Calls.{Acknowledge, Ask, CutPt, Refuse, SendPt}
use Rattle.gw_owes.specs.TerminalLaws.{owes_cut}
use Rattle.gw_dispatch.specs.Wanted.{calls_wanted, is_reply}
use Rattle.gw_dispatch.proofs.PerformLemmas.{Performs, acknowledges-calls, asks-calls, at-none, at-plain, by-calls, cuts-calls, refuses-calls, send-uncut}
use Rattle.gw_dispatch.proofs.ReaderLemmas.{still-same}
use Rattle.gw_dispatch.proofs.RunStateLemmas.{waits-same}
use Rattle.gw_dispatch.proofs.SendLemmas.{sent-dialogues, sent-linked, sent-stays}
use Rattle.gw_dispatch.proofs.perform.perform.Goals as goal

pub returns-in-None-clause-triple : goal.returns-in-None-clause-triple
returns-in-None-clause-triple g c = at-none _ c.args.core.now c.args.tills.now.list.items c.args.now c.args.wanted.now c.in-None.is

pub returns-in-SendPt-clause-triple : goal.returns-in-SendPt-clause-triple
returns-in-SendPt-clause-triple g c =
    let asks : Performs (g.S.Site.observed c.args.site.now) (g.S.Site.observed c.ask.new.site) c.args.core.now c.ask.new.core c.args.tills.now.list.items c.ask.new.tills.list.items c.args.now (SendPt c.args.pt (Ask c.in-SendPt.command) ∷ []) = simp (to_z-of_z, c.ranges.now) at c.ask.ensures.triple in
    at-plain _ _ c.args.core.now c.ask.new.core c.args.tills.now.list.items c.ask.new.tills.list.items c.args.now c.args.wanted.now c.in-Some.act c.in-Some.is (ap is_reply c.in-SendPt.is)
    (by-calls _ _ c.args.core.now c.ask.new.core c.args.tills.now.list.items c.ask.new.tills.list.items c.args.now _ _ (asks-calls c.args.pt _ c.args.wanted.now c.in-Some.act c.in-SendPt.command c.in-Some.is c.in-SendPt.is c.requires.wanted) asks)

pub returns-in-Ack-clause-triple : goal.returns-in-Ack-clause-triple
returns-in-Ack-clause-triple g c =
    let sends : Performs (g.S.Site.observed c.args.site.now) (g.S.Site.observed c.acknowledge.new.site) c.args.core.now c.acknowledge.new.core c.args.tills.now.list.items c.acknowledge.new.tills.list.items c.args.now (SendPt c.args.pt Acknowledge ∷ []) = simp (to_z-of_z, c.ranges.now) at (c.acknowledge.ensures.triple Acknowledge refl) in
    at-plain _ _ c.args.core.now c.acknowledge.new.core c.args.tills.now.list.items c.acknowledge.new.tills.list.items c.args.now c.args.wanted.now c.in-Some.act c.in-Some.is (ap is_reply c.in-Ack.is)
    (by-calls _ _ c.args.core.now c.acknowledge.new.core c.args.tills.now.list.items c.acknowledge.new.tills.list.items c.args.now _ _ (acknowledges-calls c.args.pt _ c.args.wanted.now c.in-Some.act c.in-Some.is c.in-Ack.is c.requires.wanted) sends)

pub returns-in-Refuse-clause-triple : goal.returns-in-Refuse-clause-triple
returns-in-Refuse-clause-triple g c =
    let sends : Performs (g.S.Site.observed c.args.site.now) (g.S.Site.observed c.acknowledge-in-Refuse.new.site) c.args.core.now c.acknowledge-in-Refuse.new.core c.args.tills.now.list.items c.acknowledge-in-Refuse.new.tills.list.items c.args.now (SendPt c.args.pt Refuse ∷ []) = simp (to_z-of_z, c.ranges.now) at (c.acknowledge-in-Refuse.ensures.triple Refuse refl) in
    at-plain _ _ c.args.core.now c.acknowledge-in-Refuse.new.core c.args.tills.now.list.items c.acknowledge-in-Refuse.new.tills.list.items c.args.now c.args.wanted.now c.in-Some.act c.in-Some.is (ap is_reply c.in-Refuse.is)
    (by-calls _ _ c.args.core.now c.acknowledge-in-Refuse.new.core c.args.tills.now.list.items c.acknowledge-in-Refuse.new.tills.list.items c.args.now _ _ (refuses-calls c.args.pt _ c.args.wanted.now c.in-Some.act c.in-Some.is c.in-Refuse.is c.requires.wanted) sends)

pub returns-in-CutPt-clause-triple : goal.returns-in-CutPt-clause-triple
returns-in-CutPt-clause-triple g c =
    let cuts : Performs (g.S.Site.observed c.args.site.now) (g.S.Site.observed c.cut.new.site) c.args.core.now c.cut.new.core c.args.tills.now.list.items c.cut.new.tills.list.items c.args.now (CutPt c.args.pt ∷ []) = simp (to_z-of_z, c.ranges.now) at c.cut.ensures.triple in
    at-plain _ _ c.args.core.now c.cut.new.core c.args.tills.now.list.items c.cut.new.tills.list.items c.args.now c.args.wanted.now c.in-Some.act c.in-Some.is (ap is_reply c.in-CutPt.is)
    (by-calls _ _ c.args.core.now c.cut.new.core c.args.tills.now.list.items c.cut.new.tills.list.items c.args.now _ _ (cuts-calls c.args.pt _ c.args.wanted.now c.in-Some.act c.in-Some.is c.in-CutPt.is c.requires.wanted) cuts)

pub returns-in-None-clause-order : goal.returns-in-None-clause-order
returns-in-None-clause-order g c = λ kept others all. all (ap (λ wanted. owes_cut (calls_wanted wanted)) c.in-None.is)

pub returns-in-SendPt-clause-order : goal.returns-in-SendPt-clause-order
returns-in-SendPt-clause-order g c = λ kept others all.
    c.ask.ensures.order.order kept (all (ap owes_cut (asks-calls c.args.pt _ c.args.wanted.now c.in-Some.act c.in-SendPt.command c.in-Some.is c.in-SendPt.is c.requires.wanted)))

pub returns-in-Ack-clause-order : goal.returns-in-Ack-clause-order
returns-in-Ack-clause-order g c = λ kept others all.
    c.acknowledge.ensures.order.order kept (all (ap owes_cut (acknowledges-calls c.args.pt _ c.args.wanted.now c.in-Some.act c.in-Some.is c.in-Ack.is c.requires.wanted)))

pub returns-in-Refuse-clause-order : goal.returns-in-Refuse-clause-order
returns-in-Refuse-clause-order g c = λ kept others all.
    c.acknowledge-in-Refuse.ensures.order.order kept (all (ap owes_cut (refuses-calls c.args.pt _ c.args.wanted.now c.in-Some.act c.in-Some.is c.in-Refuse.is c.requires.wanted)))

pub returns-in-CutPt-clause-order : goal.returns-in-CutPt-clause-order
returns-in-CutPt-clause-order g c = λ kept others all. c.cut.ensures.order.order kept others

pub returns-in-None-clause-still : goal.returns-in-None-clause-still
returns-in-None-clause-still g c = still-same c.args.tills.now.list.items

pub returns-in-SendTill-clause-dialogues : goal.returns-in-SendTill-clause-dialogues
returns-in-SendTill-clause-dialogues g c = sent-dialogues c.args.core.now c.send_owed.new.core c.send_owed.ensures.core (c.requires.dialogues (send-uncut c.args.wanted.now c.in-Some.act c.in-Some.is c.in-SendTill.is))

pub returns-in-SendTill-clause-triple : goal.returns-in-SendTill-clause-triple
returns-in-SendTill-clause-triple g c = λ calls are setup kept polls heard items. c.send_owed.ensures.triple calls are setup kept polls c.args.now heard items

pub returns-in-SendTill-clause-linked : goal.returns-in-SendTill-clause-linked
returns-in-SendTill-clause-linked g c = λ linked. sym (sent-linked c.args.core.now c.send_owed.new.core c.send_owed.ensures.core c.args.pt) ∙ linked

pub returns-in-SendTill-clause-settings : goal.returns-in-SendTill-clause-settings
returns-in-SendTill-clause-settings g c = let stays = sent-stays c.args.core.now c.send_owed.new.core c.send_owed.ensures.core in stays.settings

pub returns-in-SendTill-clause-days : goal.returns-in-SendTill-clause-days
returns-in-SendTill-clause-days g c = let stays = sent-stays c.args.core.now c.send_owed.new.core c.send_owed.ensures.core in stays.days

pub returns-in-None-clause-waits : goal.returns-in-None-clause-waits
returns-in-None-clause-waits g c = waits-same c.args.core.now

pub returns-in-SendTill-clause-waits : goal.returns-in-SendTill-clause-waits
returns-in-SendTill-clause-waits g c = let stays = sent-stays c.args.core.now c.send_owed.new.core c.send_owed.ensures.core in stays.waits

pub returns-in-SendTill-clause-order : goal.returns-in-SendTill-clause-order
returns-in-SendTill-clause-order g c = λ kept others all.
    let stays = sent-stays c.args.core.now c.send_owed.new.core c.send_owed.ensures.core in
    stays.order kept (all (send-uncut c.args.wanted.now c.in-Some.act c.in-Some.is c.in-SendTill.is))
