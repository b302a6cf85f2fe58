-- Proof of the contract of `law_dialogues`.
use Rattle.gw_owes.proofs.DealLemmas.{new-has-deals, rows-keep-deals, links-keep-deals}
use Rattle.gw_owes.proofs.DialogueLemmas.{new-has, rows-keep, links-give}
use Rattle.gw_owes.proofs.terminal_laws.law_dialogues.Goals as goal

pub returns-clause-new : goal.returns-clause-new
returns-clause-new c = new-has

pub returns-clause-rows : goal.returns-clause-rows
returns-clause-rows c = rows-keep

pub returns-clause-links : goal.returns-clause-links
returns-clause-links c = links-give

pub returns-clause-deals_new : goal.returns-clause-deals_new
returns-clause-deals_new c = new-has-deals

pub returns-clause-deals_rows : goal.returns-clause-deals_rows
returns-clause-deals_rows c = rows-keep-deals

pub returns-clause-deals_links : goal.returns-clause-deals_links
returns-clause-deals_links c = links-keep-deals
