-- Proof of the contract of `law_objects`.
use Rattle.std.proofs.Common.{◌∙◌, length, subst, zero-add}
use Rattle.zvt_tlv.specs.ObjectsGrammar.{BeginsWithTlvObjects}
use Rattle.zvt_tlv.specs.Reader.{tlv_reader_over}
use Rattle.zvt_tlv.proofs.ObjectsDecodeLemmas.{one_reading, walk_splits}
use Rattle.zvt_tlv.proofs.laws.law_objects.Goals as goal

pub returns : goal.returns
returns c = record {
  only = λ bytes r s xs ys first ends second stops. one_reading xs ys bytes r s first ends second stops;
  end = λ bytes objects offset walk empty. subst (BeginsWithTlvObjects bytes objects) empty (walk_splits objects (tlv_reader_over bytes) offset walk).0;
  fault = λ bytes objects offset walk malformed. let splits = walk_splits objects (tlv_reader_over bytes) offset walk in (objects, offset.rest, splits.0, malformed, splits.1 ∙ zero-add (length bytes));
}
