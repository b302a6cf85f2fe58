-- Proof of the contract of `Dispatch::open`.
use Rattle.std.proofs.Common.{refl}
use Rattle.gw_dispatch.proofs.OpenedLemmas.{opened-ready}
use Rattle.gw_dispatch.proofs.RoundLemmas.{opened-rest}
use Rattle.gw_dispatch.proofs.engine.Dispatch.open.Goals as goal

pub returns-clause-begun : goal.returns-clause-begun
returns-clause-begun c = λ v opened. opened-rest c.args.setup.now _ c.new-2.ensures.items c.in_ok-core.ensures v opened

pub returns-clause-ready : goal.returns-clause-ready
returns-clause-ready c = opened-ready c.law_records.ensures.new c.args.setup.now _ c.count.result c.requires.setup c.law_folded.ensures refl c.in_ok-core.ensures c.count.ensures.count c.in_ok-readers.ensures c.new-2.ensures.items c.requires.records
