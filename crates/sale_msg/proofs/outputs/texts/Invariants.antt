-- What the loop of `texts` keeps.
use Rattle.std.proofs.Common.{◌≡◌, ◌++◌, map, drop}
use Rattle.json_text.specs.ValueOf.{value_of}
use Rattle.sale_msg.specs.Grammar.{texts_of}
use Rattle.sale_msg.proofs.outputs.texts.Given as goal

abbrev pub invariant-loop-element : goal.invariant-loop-element
invariant-loop-element l = l.texts.items ++ texts_of (map value_of (drop l.element-index l.elements)) ≡ texts_of (map value_of l.elements)
