-- Proof of the contract of `law_first_fault`.
use Rattle.gw_config.proofs.FirstFaultLemmas.{first_document_fault, first_table_fault, no_document_fault, no_table_fault}
use Rattle.gw_config.proofs.laws.law_first_fault.Goals as goal

pub returns : goal.returns
returns c = record { document = first_document_fault; table = first_table_fault; faultless = no_table_fault; faultless_document = no_document_fault }
