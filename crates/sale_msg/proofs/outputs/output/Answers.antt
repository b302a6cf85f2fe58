-- Proof of the contract of `output`.
use Rattle.std.proofs.Common.{◌∙◌, arith, ap, sym, true, unwrap_or}
use Rattle.std.specs.Option.{option_and_then}
use Rattle.json_text.specs.Tree.{boolean_of}
use Rattle.json_text.specs.ValueOf.{value_of}
use Rattle.sale_msg.specs.Path.{tree_at}
use Rattle.sale_msg.specs.declared.table.Presence.TheVariants.{Optional}
use Rattle.sale_msg.proofs.RowLemmas.{may_be_found, required_found, text_found}
use Rattle.sale_msg.proofs.outputs.output.Goals as goal

pub ident-requires-2 : goal.ident-requires-2
unfolding tree_at
ident-requires-2 c = (omega arith, required_found _ _ _ (value_of c.args.part.now) _ c.requires.1.0 c.find_under-2.ensures)

pub flag_or_true-requires : goal.flag_or_true-requires
unfolding tree_at
flag_or_true-requires c = may_be_found _ _ Optional _ (value_of c.args.part.now) _ c.requires.1.1.0 c.find_under-3.ensures

pub returns : goal.returns
unfolding tree_at
returns c = record {
  device = text_found _ _ _ c.find_under.ensures c.ident.ensures;
  qualify = text_found _ _ _ c.find_under-2.ensures c.ident-2.ensures;
  required = ap (λ found. unwrap_or (option_and_then boolean_of found) true) (sym c.find_under-3.ensures) ∙ c.flag_or_true.ensures;
  texts = c.in_ok-texts.ensures;
}
