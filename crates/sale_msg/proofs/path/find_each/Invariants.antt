-- What the loop of `find_each` keeps.
use Rattle.std.proofs.Common.{◌≡◌, map, drop}
use Rattle.json_text.specs.ValueOf.{value_of}
use Rattle.sale_msg.specs.Path.{tree_under}
use Rattle.sale_msg.proofs.path.find_each.Given as goal

abbrev pub invariant-loop-name : goal.invariant-loop-name
invariant-loop-name l =
    tree_under (map (λ name. name.now) (drop l.name-index l.names)) (value_of l.value) ≡ tree_under (map (λ name. name.now) l.names) (value_of l.tree)
