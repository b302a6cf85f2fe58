-- Proof of the contract of `law_more`.
use Rattle.zvt_more.proofs.MoreLemmas.{some_clause, one_command}
use Rattle.zvt_more.proofs.SpellingLemmas.{one_spelling, written_clause, apart}
use Rattle.zvt_more.proofs.laws.law_more.Goals as goal

pub returns : goal.returns
returns c = record {
  one_spelling = one_spelling;
  one_command = one_command;
  canonical = written_clause;
  read = some_clause;
  apart = apart c.law_commands.ensures.canonical;
}
