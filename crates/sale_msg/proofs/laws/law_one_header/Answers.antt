-- Proof of the contract of `law_one_header`.
use Rattle.sale_msg.proofs.UniqueLemmas.{header_path_unique, no_header_one, no_header_headed}
use Rattle.sale_msg.proofs.laws.law_one_header.Goals as goal

pub returns : goal.returns
returns c = record {
  header = header_path_unique;
  path = no_header_one;
  not_both = λ tree e body header path headed lacks. no_header_headed tree path e body header lacks headed.0 headed.1;
}
