-- Proof of the contract of `left`.
use Rattle.std.proofs.Common.{sym, ap, ◌∙◌, arith}
use Rattle.zvt_tlv.specs.Reader.{TlvReaderValue}
use Rattle.zvt_msg.proofs.BytesLeftLemmas.{left_goes_on, left_stops, left_ends}
use Rattle.zvt_msg.proofs.block.left.Goals as goal

pub returns-then-inside-gt0-clause-left : goal.returns-then-inside-gt0-clause-left
returns-then-inside-gt0-clause-left c =
    let stops = left_stops c.loop-object.tlv.rest _ c.next_object.new.tlv.rest c.in-Some.ensures.found (omega (arith, c.left_inside-inside.ensures.left)) in
    omega (arith, stops, c.loop-object.invariant.same, c.left_inside-inside.ensures.left, c.loop-object.invariant.offset, c.in-Some.ensures.offset, c.offset.ensures)

pub loop-object-preserved : goal.loop-object-preserved
loop-object-preserved c = record {
  offset = omega (arith, c.in-Some.ensures.offset, c.loop-object.invariant.offset);
  same = sym (left_goes_on c.loop-object.tlv.rest _ c.next_object.new.tlv.rest c.in-Some.ensures.found (omega (arith, c.left_inside-inside.ensures.left))) ∙ c.loop-object.invariant.same;
}

pub returns-clause-left : goal.returns-clause-left
returns-clause-left c =
    let ends = left_ends c.loop-object.tlv.rest c.in_default.ensures.0 in
    omega (arith, ends, ap (λ (p : TlvReaderValue). p.offset) c.in_default.ensures.1, c.loop-object.invariant.same, c.loop-object.invariant.offset, c.offset-2.ensures)
