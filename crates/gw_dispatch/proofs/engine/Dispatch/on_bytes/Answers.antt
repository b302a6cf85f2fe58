-- Proof of the contract of `Dispatch::on_bytes`.
use Rattle.std.proofs.Common.{◌∙◌, ap, refl, sym}
use Rattle.std.proofs.lemmas.Int.{to_z-of_z}
use Rattle.gw_dispatch.specs.Tills.{rank}
use Rattle.gw_dispatch.specs.declared.fault.TurnFault.TheVariants.{Memory}
use Rattle.gw_dispatch.proofs.ReaderLemmas.{others-still-then, waiting-but}
use Rattle.gw_dispatch.proofs.RunStateLemmas.{served-ready}
use Rattle.gw_dispatch.proofs.RoundLemmas.{chunk-failed, chunk-idle, chunk-served, chunk-unheld, fed-others}
use Rattle.gw_dispatch.proofs.ServeLemmas.{no-memory-said}
use Rattle.gw_dispatch.proofs.engine.Dispatch.on_bytes.Goals as goal

pub returns-in-None-clause-triple : goal.returns-in-None-clause-triple
returns-in-None-clause-triple g c = λ setup polls named. chunk-unheld _ setup c.args.self.now polls c.args.now c.args.number c.args.bytes.now _
    (ap (rank c.args.number) (sym c.deref.ensures.value) ∙ sym c.index_of.ensures.index ∙ c.in-None.is)

pub returns-in-Err-clause-triple : goal.returns-in-Err-clause-triple
returns-in-Err-clause-triple g c = λ setup polls named. no-memory-said _ _ (λ v p. chunk-idle setup c.args.self.now polls c.args.now c.args.number c.args.bytes.now v p) Memory refl

pub returns-in-Ok-serve-clause-triple : goal.returns-in-Ok-serve-clause-triple
returns-in-Ok-serve-clause-triple g c = λ setup polls named.
    chunk-served c.args.self.now c.args.number c.in-Some.index c.args.bytes.now c.index_mut.result.now (ap (rank c.args.number) (sym c.deref.ensures.value) ∙ sym c.index_of.ensures.index ∙ c.in-Some.is) c.index_mut.ensures.value
    _ _ setup c.serve.new.state c.serve.new.tills.list.items polls c.args.now c.in-Ok-serve.field-0 c.requires.ready.terminals c.requires.ready.tills named c.in-Ok-serve.ensures.count c.in-Ok-serve.ensures.waits
    (rw c.in-Ok.ensures.ok at (simp (to_z-of_z, c.ranges.now) at c.in-Ok-serve.ensures.triple))

pub returns-in-Ok-serve-clause-ready : goal.returns-in-Ok-serve-clause-ready
returns-in-Ok-serve-clause-ready g c = record {
  well = c.in-Ok-serve.ensures.well;
  tills = waiting-but c.args.number c.args.self.now.tills.list.items c.serve.new.tills.list.items c.requires.ready.tills
      (others-still-then c.args.number c.args.self.now.tills.list.items _ c.serve.new.tills.list.items (fed-others c.args.self.now c.args.number c.in-Some.index c.args.bytes.now c.index_mut.result.now (ap (rank c.args.number) (sym c.deref.ensures.value) ∙ sym c.index_of.ensures.index ∙ c.in-Some.is) c.index_mut.ensures.value) (rw c.in-Ok.ensures.ok at c.in-Ok-serve.ensures.others)) c.in-Ok-serve.ensures.waits;
  terminals = served-ready c.serve.new.state c.args.self.now.state.core c.args.self.now.readers.items _ c.in-Ok-serve.ensures.well c.requires.ready.terminals c.in-Ok-serve.ensures.count;
}

pub returns-in-Err-serve-clause-triple : goal.returns-in-Err-serve-clause-triple
returns-in-Err-serve-clause-triple g c = λ setup polls named.
    chunk-failed c.args.self.now c.args.number c.in-Some.index c.args.bytes.now c.index_mut.result.now (ap (rank c.args.number) (sym c.deref.ensures.value) ∙ sym c.index_of.ensures.index ∙ c.in-Some.is) c.index_mut.ensures.value
    _ _ setup c.serve.new.state c.serve.new.tills.list.items polls c.args.now c.in-Err-serve.fault c.requires.ready.terminals c.requires.ready.tills named
    (rw c.in-Ok.ensures.ok at (simp (to_z-of_z, c.ranges.now) at c.in-Err-serve.ensures.triple))
