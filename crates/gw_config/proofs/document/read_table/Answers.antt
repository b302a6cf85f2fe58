-- Proof of the contract of `read_table`.
use Rattle.std.proofs.Common.{sym}
use Rattle.std.proofs.lemmas.Bool.{false≢true}
use Rattle.gw_config.proofs.DocumentLemmas.{document_is, no_document}
use Rattle.gw_config.proofs.document.read_table.Goals as goal

pub returns-in-Ok-clause-table : goal.returns-in-Ok-clause-table
returns-in-Ok-clause-table c = document_is c.args.bytes.now _ c.in-Ok.ensures.ok.0 c.in-Ok.ensures.ok.1

pub returns-in-Some-clause-table : goal.returns-in-Some-clause-table
returns-in-Some-clause-table c = λ other. no_document c.args.bytes.now (c.in-Err.ensures.refused (λ memory. false≢true (sym (c.in-Some.ensures.none.1 memory))))
