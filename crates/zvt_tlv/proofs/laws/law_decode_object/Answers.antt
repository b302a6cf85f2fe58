-- Proof of the contract of `law_decode_object`.
use Rattle.zvt_tlv.specs.Decode.{decode_tlv_object}
use Rattle.zvt_tlv.proofs.DecodeLemmas.{begins_found, found_begins, none_malformed, malformed_none, malformed_some}
use Rattle.zvt_tlv.proofs.ObjectsDecodeLemmas.{begins_shrinks}
use Rattle.std.proofs.Common.{refl}
use Rattle.zvt_tlv.proofs.laws.law_decode_object.Goals as goal

pub returns : goal.returns
returns c = record {
  whole = λ bytes object rest. (found_begins bytes object rest, begins_found bytes object rest);
  none = λ bytes. ((λ (some, none). none_malformed bytes some none), λ malformed. (malformed_some bytes malformed, malformed_none bytes (decode_tlv_object bytes) malformed refl));
  shorter = begins_shrinks;
}
