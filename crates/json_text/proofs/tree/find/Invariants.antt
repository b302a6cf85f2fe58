-- What the loop of `find` keeps.
use Rattle.std.proofs.Common.{◌≡◌, drop}
use Rattle.json_text.specs.Tree.{member_of}
use Rattle.json_text.specs.ValueOf.{members_value}
use Rattle.json_text.proofs.tree.find.Given as goal

abbrev pub invariant-loop-own : goal.invariant-loop-own
invariant-loop-own l = member_of l.name (members_value l.members) ≡ member_of l.name (members_value (drop l.own-index l.members))
