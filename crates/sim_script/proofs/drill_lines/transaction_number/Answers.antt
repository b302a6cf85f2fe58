-- Proof of the contract of `transaction_number`.
use Rattle.std.proofs.Common.{◌∙◌, List, ℕ, sym, subst, arith, lit<}
use Rattle.gw_base.specs.Ident.{IsIdent}
use Rattle.sim_script.proofs.DrillLemmas.{number-ident}
use Rattle.sim_script.proofs.drill_lines.transaction_number.Goals as goal

pub known-requires : goal.known-requires
known-requires c = (lit< tt, subst (λ (text : List ℕ). IsIdent 80 text) (sym (c.as_bytes.ensures.value ∙ c.format.ensures.text)) (number-ident 80 c.args.number (omega arith) c.ranges.number.fits))
