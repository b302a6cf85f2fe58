-- Proof of the contract of `Json::as_list`.
use Rattle.std.proofs.Common.{ap, map, ◌∙◌, Some}
use Rattle.json_text.specs.ValueOf.{value_of}
use Rattle.json_text.proofs.TreeLemmas.{array_of-value_of}
use Rattle.json_text.proofs.tree.Json.as_list.Goals as goal

pub returns-in-List : goal.returns-in-List
returns-in-List c = ap (λ l. Some (map value_of l)) c.deref.ensures.value ∙ array_of-value_of c.args.self.now c.in-List.elements c.in-List.is
