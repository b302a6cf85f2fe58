-- Proof of the contract of `Json::get`.
use Rattle.json_text.specs.ValueOf.{value_of}
use Rattle.json_text.proofs.TreeLemmas.{none_where_new}
use Rattle.json_text.proofs.tree.Json.get.Goals as goal

pub returns-clause-absent : goal.returns-clause-absent
returns-clause-absent c = none_where_new (λ v. value_of v.now) c.member.result c.args.name.now (value_of c.args.self.now) c.member.ensures
