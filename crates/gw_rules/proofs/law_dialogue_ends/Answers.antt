-- Proof of the contract of `law_dialogue_ends`.
use Rattle.gw_rules.proofs.DoneLemmas.{done-is-enquired}
use Rattle.gw_rules.proofs.ReportLemmas.{report-makes-ready}
use Rattle.gw_rules.proofs.law_dialogue_ends.Goals as goal

pub returns-clause-enquired : goal.returns-clause-enquired
returns-clause-enquired c = done-is-enquired

pub returns-clause-ready : goal.returns-clause-ready
returns-clause-ready c = report-makes-ready
