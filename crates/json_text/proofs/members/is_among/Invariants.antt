-- What the loop of `is_among` keeps.
use Rattle.std.proofs.Common.{◌≡◌, drop}
use Rattle.json_text.specs.MemberNames.{has_name, pair_names}
use Rattle.json_text.proofs.members.is_among.Given as goal

abbrev pub invariant-loop-own : goal.invariant-loop-own
invariant-loop-own l = has_name l.name (pair_names l.members) ≡ has_name l.name (pair_names (drop l.own-index l.members))
