-- What the loop of `outputs` keeps.
use Rattle.std.proofs.Common.{map, take}
use Rattle.std.specs.List.{AllZip}
use Rattle.json_text.specs.ValueOf.{value_of}
use Rattle.sale_msg.specs.Grammar.{IsOutput}
use Rattle.sale_msg.proofs.outputs.outputs.Given as goal

abbrev pub invariant-loop-part : goal.invariant-loop-part
invariant-loop-part l = AllZip IsOutput (map value_of (take l.part-index l.parts)) l.outputs.items
