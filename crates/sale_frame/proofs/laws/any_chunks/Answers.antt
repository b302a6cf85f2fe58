-- Proof of the contract of `any_chunks`.
use Rattle.std.proofs.Common.{[]}
use Rattle.sale_frame.proofs.StreamLemmas.{any_chunks_from}
use Rattle.sale_frame.proofs.laws.any_chunks.Goals as goal

pub returns : goal.returns
returns c = λ steps waiting rest payloads taken decoded. any_chunks_from steps [] waiting rest payloads taken decoded
