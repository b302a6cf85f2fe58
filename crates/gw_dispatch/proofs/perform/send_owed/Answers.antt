-- Proof of the contract of `send_owed`.
use Rattle.std.proofs.Common.{◌∙◌, ap}
use Rattle.std.specs.Prelude.{Some}
use Rattle.gw_dispatch.proofs.PerformLemmas.{at-none, at-print, at-reply}
use Rattle.gw_dispatch.proofs.ReaderLemmas.{still-same}
use Rattle.gw_dispatch.proofs.SendLemmas.{forgets-this}
use Rattle.gw_dispatch.proofs.perform.send_owed.Goals as goal

pub returns-in-None-clause-triple : goal.returns-in-None-clause-triple
returns-in-None-clause-triple g c = λ calls are setup kept polls now heard items. at-none _ c.args.core.now c.args.tills.now.list.items now c.args.owed.now c.in-None.is calls are setup kept polls heard items

pub returns-in-SendTill-clause-triple : goal.returns-in-SendTill-clause-triple
returns-in-SendTill-clause-triple g c = λ calls are setup kept polls now heard items.
    at-reply _ _ c.args.core.now c.deliver.new.core c.args.tills.now.list.items c.deliver.new.tills.list.items now c.args.owed.now c.in-SendTill.till _ (c.in-Some.is ∙ ap Some c.in-SendTill.is)
    (λ owed same setup kept polls heard items. c.deliver.ensures.triple owed same setup kept polls now heard items) calls are setup kept polls heard items

pub returns-in-None-clause-still : goal.returns-in-None-clause-still
returns-in-None-clause-still g c = still-same c.args.tills.now.list.items

pub returns-in-SendTill-clause-core : goal.returns-in-SendTill-clause-core
returns-in-SendTill-clause-core g c = forgets-this c.in-SendTill.till c.args.core.now c.deliver.new.core c.deliver.ensures.core

pub returns-in-Print-clause-triple : goal.returns-in-Print-clause-triple
returns-in-Print-clause-triple g c = λ calls are setup kept polls now heard items.
    at-print _ _ c.args.core.now c.print.new.core c.args.tills.now.list.items c.print.new.tills.list.items now c.args.owed.now c.in-Print.till c.in-Print.header c.in-Print.printed (c.in-Some.is ∙ ap Some c.in-Print.is)
    (λ setup kept polls heard items. c.print.ensures.triple setup kept polls now heard items) calls are setup kept polls heard items

pub returns-in-Print-clause-core : goal.returns-in-Print-clause-core
returns-in-Print-clause-core g c = forgets-this c.in-Print.till c.args.core.now c.print.new.core c.print.ensures.core
