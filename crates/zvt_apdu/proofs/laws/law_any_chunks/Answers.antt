-- Proof of the contract of `law_any_chunks`.
use Rattle.std.proofs.Common.{sym, subst}
use Rattle.zvt_apdu.specs.Stream.{BeginsWithApdus}
use Rattle.gw_bytes.specs.Chunks.{given}
use Rattle.zvt_apdu.proofs.StreamLemmas.{chunks, one_reading}
use Rattle.zvt_apdu.proofs.laws.law_any_chunks.Goals as goal

pub returns : goal.returns
returns c = record {
  chunks = chunks;
  exactly = λ steps waiting taken ends. record { splits = chunks steps waiting taken; ends = ends };
  only = λ bytes r s xs ys first second. one_reading xs ys bytes r s first.splits first.ends second.splits second.ends;
  same = λ steps others waiting left taken again same ends stops.
      one_reading (given steps) (given others) _ waiting left (chunks steps waiting taken) ends (subst (λ b. BeginsWithApdus b (given others) left) (sym same) (chunks others left again)) stops;
}
