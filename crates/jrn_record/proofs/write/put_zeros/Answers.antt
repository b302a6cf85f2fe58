-- Proof of the contract of `put_zeros`.
use Rattle.std.proofs.Common.{arith, ap, ◌∙◌, ◌++◌}
use Rattle.std.proofs.lemmas.List.{take-replicate}
use Rattle.jrn_record.proofs.write.put_zeros.Goals as goal

pub returns : goal.returns
returns c =
    c.put.ensures ∙ ap (λ zeros. c.args.draft.now.items ++ zeros) (take-replicate c.args.count 255 0 (omega arith))
