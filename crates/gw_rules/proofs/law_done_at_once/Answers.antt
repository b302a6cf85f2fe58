-- Proof of the contract of `law_done_at_once`.
use Rattle.gw_rules.proofs.ChunkExampleLemmas.{split-enquired, poll-before-split-enquiry}
use Rattle.gw_rules.proofs.ChunkLemmas.{done-at-once-is-enquired}
use Rattle.gw_rules.proofs.DoneExampleLemmas.{done-at-once}
use Rattle.gw_rules.proofs.law_done_at_once.Goals as goal

pub returns-clause-enquired : goal.returns-clause-enquired
returns-clause-enquired c = done-at-once-is-enquired

pub returns-clause-example : goal.returns-clause-example
returns-clause-example c = split-enquired

pub returns-clause-poll_before : goal.returns-clause-poll_before
returns-clause-poll_before c = poll-before-split-enquiry

pub returns-clause-premise : goal.returns-clause-premise
returns-clause-premise c = done-at-once
