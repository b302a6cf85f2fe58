-- Proof of the contract of `law_decode_apdu`.
use Rattle.zvt_apdu.proofs.DecodeLemmas.{begins_whole, whole_begins, too_long_prefix, prefix_too_long, proper_prefix, prefix_incomplete}
use Rattle.zvt_apdu.proofs.laws.law_decode_apdu.Goals as goal

pub returns : goal.returns
returns c = record {
  whole = λ bytes apdu rest bounds. (whole_begins bytes apdu rest bounds, begins_whole bytes apdu rest);
  incomplete = λ bytes bounds. (prefix_incomplete bytes bounds, proper_prefix bytes bounds);
  too_long = λ bytes n bounds. (prefix_too_long bytes n bounds, too_long_prefix bytes n);
}
