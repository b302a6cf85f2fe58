-- Proof of the contract of `read_part`.
use Rattle.std.proofs.Common.{length, sym, arith}
use Rattle.jrn_log.proofs.PartLemmas.{part_is}
use Rattle.jrn_log.proofs.slots.read_part.Goals as goal

pub returns : goal.returns
returns c = sym (part_is c.args.file.now c.args.offset (length c.args.buf.now) c.loop-index.buf c.loop-index.auto.buf (λ i lt. sym (c.loop-index.invariant i (omega arith))))
