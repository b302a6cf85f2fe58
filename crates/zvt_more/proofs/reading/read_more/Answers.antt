-- Proof of the contract of `read_more`.
use Rattle.zvt_apdu.specs.Grammar.{value_of}
use Rattle.zvt_more.proofs.MoreLemmas.{some_clause, none_clause}
use Rattle.zvt_more.proofs.reading.read_more.Goals as goal

pub returns-clause-some : goal.returns-clause-some
returns-clause-some c more = rw c.recognise.ensures (some_clause (value_of c.args.apdu.now) more)

pub returns-clause-none : goal.returns-clause-none
returns-clause-none c = rw c.recognise.ensures (none_clause (value_of c.args.apdu.now))
