-- What the loop of `named` keeps.
use Rattle.std.proofs.Common.{◌≡◌, ◌++◌, codes, drop}
use Rattle.json_text.specs.Tree.{member_of}
use Rattle.json_text.specs.ValueOf.{members_value}
use Rattle.sale_seen.proofs.reply_members.named.Given as goal

abbrev pub invariant-loop-name : goal.invariant-loop-name
invariant-loop-name l =
    member_of (l.category ++ codes "Response") (members_value l.members)
    ≡ member_of (l.category ++ codes "Response") (members_value (drop l.name-index l.members))
