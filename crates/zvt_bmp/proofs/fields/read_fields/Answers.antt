-- Proof of the contract of `read_fields`.
use Rattle.std.proofs.Common.{Ok, Err, sym, subst, ◌∙◌}
use Rattle.zvt_bmp.specs.Grammar.{SpellsStatusOrFault}
use Rattle.zvt_bmp.proofs.DecodeLemmas.{fields_report, only_reported}
use Rattle.zvt_bmp.proofs.fields.read_fields.Goals as goal

pub returns-clause-found : goal.returns-clause-found
returns-clause-found c fields =
    let bytes = c.args.bytes.now in
    ((λ is. subst (SpellsStatusOrFault bytes) (sym c.read_all.ensures.computes ∙ is) (fields_report bytes)), λ reports. c.read_all.ensures.computes ∙ only_reported bytes (Ok fields) reports)

pub returns-clause-fault : goal.returns-clause-fault
returns-clause-fault c fault =
    let bytes = c.args.bytes.now in
    ((λ is. subst (SpellsStatusOrFault bytes) (sym c.read_all.ensures.computes ∙ is) (fields_report bytes)), λ reports. c.read_all.ensures.computes ∙ only_reported bytes (Err fault) reports)
