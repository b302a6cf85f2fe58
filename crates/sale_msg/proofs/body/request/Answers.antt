-- Proof of the contract of `request`.
use Rattle.std.proofs.Common.{map}
use Rattle.json_text.specs.ValueOf.{value_of}
use Rattle.sale_msg.specs.Flaw.{AreMet}
use Rattle.sale_msg.specs.Table.{output_rows}
use Rattle.sale_msg.proofs.FormLemmas.{each_back}
use Rattle.sale_msg.proofs.MessageLemmas.{outputs_met}
use Rattle.sale_msg.proofs.body.request.Goals as goal

pub outputs-requires : goal.outputs-requires
outputs-requires c =
    each_back (AreMet output_rows) value_of c.parts.result.now
    (outputs_met c.args.category c.requires.0 (map value_of c.parts.result.now) c.in-Display.is c.requires.1.parts
    (c.parts.ensures c.requires.0 c.requires.1.found))
