-- Proof of the contract of `left_over`.
use Rattle.std.proofs.Common.{ℕ, List, length, sym, ap, ◌∙◌, arith}
use Rattle.zvt_tlv.specs.ObjectsDecode.{DecodedTlvObjects}
use Rattle.zvt_tlv.specs.Reader.{TlvReaderValue}
use Rattle.zvt_tlv.proofs.ObjectsDecodeLemmas.{split_whole, split_none}
use Rattle.zvt_msg.proofs.block.left_over.Goals as goal

pub loop-preserved : goal.loop-preserved
loop-preserved c = record {
  offset = omega (arith, c.in-Some.ensures.offset, c.loop.invariant.offset);
  same = ap (λ (s : DecodedTlvObjects). s.rest) (sym (split_whole c.loop.tlv.rest _ c.next_object.new.tlv.rest c.in-Some.ensures.found)) ∙ c.loop.invariant.same;
}

pub returns-clause-left : goal.returns-clause-left
returns-clause-left c =
    let ends = ap (λ (s : DecodedTlvObjects). length s.rest) (split_none c.loop.tlv.rest c.in_default.ensures.0) in
    omega (arith, ends, ap (λ (p : TlvReaderValue). p.offset) c.in_default.ensures.1, ap (λ (r : List ℕ). length r) c.loop.invariant.same, c.loop.invariant.offset, c.offset.ensures)
