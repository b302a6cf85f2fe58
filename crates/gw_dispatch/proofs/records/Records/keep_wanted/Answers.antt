-- Proof of the contract of `Records::keep_wanted`.
use Rattle.gw_dispatch.proofs.KeepWantedLemmas.{wanted-held}
use Rattle.gw_dispatch.proofs.records.Records.keep_wanted.Goals as goal

pub returns-in-Some-clause-triple : goal.returns-in-Some-clause-triple
returns-in-Some-clause-triple g c = λ setup core tills polls now heard calls items.
    wanted-held setup core c.args.self.now c.keep.new.self tills polls now heard c.in-Some.the_record calls items _ _ c.args.wanted.now c.keep.result c.in-Some.is c.keep.ensures.kept (λ scene. c.keep.ensures.triple scene calls items)
