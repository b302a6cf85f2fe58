-- Proof of the contract of `next_value`.
use Rattle.std.proofs.Common.{sym, ap, ◌∙◌, arith}
use Rattle.zvt_tlv.specs.Reader.{TlvReaderValue}
use Rattle.zvt_msg.specs.BlockDecode.{decode_values_with_tag}
use Rattle.zvt_msg.proofs.BlockLineLemmas.{value_found, value_passed, values_end}
use Rattle.zvt_msg.proofs.block_lines.next_value.Goals as goal

pub returns-then-object-tag-clause-value : goal.returns-then-object-tag-clause-value
returns-then-object-tag-clause-value c = sym c.loop-object.invariant.same ∙ value_found c.args.tag c.loop-object.tlv.rest _ c.next_object.new.tlv.rest c.in-Some.ensures.found c.if-object-tag.true

pub loop-object-preserved : goal.loop-object-preserved
loop-object-preserved c = record {
  within = omega (arith, c.in-Some.ensures.shorter, c.loop-object.invariant.within);
  same = sym (value_passed c.args.tag c.loop-object.tlv.rest _ c.next_object.new.tlv.rest c.in-Some.ensures.found c.if-object-tag.false) ∙ c.loop-object.invariant.same;
}

pub returns-clause-value : goal.returns-clause-value
returns-clause-value c =
    let none = values_end c.args.tag c.loop-object.tlv.rest c.in_default.ensures.0 in
    (sym c.loop-object.invariant.same ∙ none, ap (λ (p : TlvReaderValue). decode_values_with_tag c.args.tag p.rest) c.in_default.ensures.1 ∙ none)
