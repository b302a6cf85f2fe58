-- Proof of the contract of `Records::open`.
use Rattle.std.proofs.Common.{ap, sym, subst}
use Rattle.std.specs.Prelude.{ℕ, List, Ok, Err}
use Rattle.jrn_log.specs.Journal.{JournalValue}
use Rattle.gw_site.specs.Outside.{outside_of}
use Rattle.gw_dispatch.proofs.GrowthLemmas.{opening-adds}
use Rattle.gw_dispatch.proofs.OpeningLemmas.{ledger-not-failed, of-ledger, opening-failed, opens}
use Rattle.gw_dispatch.proofs.RecordsLemmas.{IsByFile, by_journal, by_ledger, exactly_bad, exactly_cut, exactly_refused, state, stands_too}
use Rattle.gw_dispatch.proofs.records.Records.open.Goals as goal

pub returns-in-Err-clause-too_long : goal.returns-in-Err-clause-too_long
returns-in-Err-clause-too_long g c = λ log e.
    exactly_refused c.args.slots (outside_of log).file (Err c.unopened_by.result)
    (subst (λ cause. IsByFile c.args.slots (outside_of log).file (Err cause)) (sym c.unopened_by.ensures) (by_journal c.args.slots (outside_of log).file c.in-Err.fault (c.in-Err.ensures.too_long log e) (c.in-Err.ensures.truncated log e)))

pub returns-in-Err-clause-cut : goal.returns-in-Err-clause-cut
returns-in-Err-clause-cut g c = λ log e.
    exactly_cut c.args.slots (outside_of log).file (Err c.unopened_by.result)
    (subst (λ cause. IsByFile c.args.slots (outside_of log).file (Err cause)) (sym c.unopened_by.ensures) (by_journal c.args.slots (outside_of log).file c.in-Err.fault (c.in-Err.ensures.too_long log e) (c.in-Err.ensures.truncated log e)))

pub returns-in-Err-clause-bad : goal.returns-in-Err-clause-bad
returns-in-Err-clause-bad g c = λ log e.
    exactly_bad c.args.slots (outside_of log).file (Err c.unopened_by.result)
    (subst (λ cause. IsByFile c.args.slots (outside_of log).file (Err cause)) (sym c.unopened_by.ensures) (by_journal c.args.slots (outside_of log).file c.in-Err.fault (c.in-Err.ensures.too_long log e) (c.in-Err.ensures.truncated log e)))

pub returns-in-Ok-clause-too_long : goal.returns-in-Ok-clause-too_long
returns-in-Ok-clause-too_long g c = λ log e.
    exactly_refused c.args.slots (outside_of log).file c.with_ledger.result
    (by_ledger c.args.slots (outside_of log).file c.in-Ok.journal c.in-Ok.bodies c.with_ledger.result (c.in-Ok.ensures.bodies log e) (c.in-Ok.ensures.too_long log e) (c.in-Ok.ensures.truncated log e) c.with_ledger.ensures)

pub returns-in-Ok-clause-cut : goal.returns-in-Ok-clause-cut
returns-in-Ok-clause-cut g c = λ log e.
    exactly_cut c.args.slots (outside_of log).file c.with_ledger.result
    (by_ledger c.args.slots (outside_of log).file c.in-Ok.journal c.in-Ok.bodies c.with_ledger.result (c.in-Ok.ensures.bodies log e) (c.in-Ok.ensures.too_long log e) (c.in-Ok.ensures.truncated log e) c.with_ledger.ensures)

pub returns-in-Ok-clause-bad : goal.returns-in-Ok-clause-bad
returns-in-Ok-clause-bad g c = λ log e.
    exactly_bad c.args.slots (outside_of log).file c.with_ledger.result
    (by_ledger c.args.slots (outside_of log).file c.in-Ok.journal c.in-Ok.bodies c.with_ledger.result (c.in-Ok.ensures.bodies log e) (c.in-Ok.ensures.too_long log e) (c.in-Ok.ensures.truncated log e) c.with_ledger.ensures)

pub returns-in-Ok-clause-file : goal.returns-in-Ok-clause-file
returns-in-Ok-clause-file g c = λ log e.
    state c.args.slots (outside_of log).file c.with_ledger.result
    (by_ledger c.args.slots (outside_of log).file c.in-Ok.journal c.in-Ok.bodies c.with_ledger.result (c.in-Ok.ensures.bodies log e) (c.in-Ok.ensures.too_long log e) (c.in-Ok.ensures.truncated log e) c.with_ledger.ensures)

pub returns-in-Ok-clause-stands : goal.returns-in-Ok-clause-stands
returns-in-Ok-clause-stands g c = stands_too c.in-Ok.journal (g.S.Site.observed c.open.new.site) c.in-Ok.bodies c.with_ledger.result c.with_ledger.ensures c.in-Ok.ensures.stands

pub returns-in-Err-clause-triple : goal.returns-in-Err-clause-triple
returns-in-Err-clause-triple g c = λ setup same.
    opens {T = JournalValue × List (List ℕ)} c.law_kept_files.ensures.lawful_kept c.law_records_in_order.ensures.folds setup c.args.slots same _ _ (Err c.in-Err.fault) (Err c.unopened_by.result) (ap (λ cause. Err cause) c.unopened_by.ensures) c.in-Err.ensures.turns c.in-Err.ensures.steps c.in-Err.ensures.rests
    (λ log e. subst (λ cause. IsByFile c.args.slots (outside_of log).file (Err cause)) (sym c.unopened_by.ensures) (by_journal c.args.slots (outside_of log).file c.in-Err.fault (c.in-Err.ensures.too_long log e) (c.in-Err.ensures.truncated log e)))

pub returns-in-Err-clause-failed : goal.returns-in-Err-clause-failed
returns-in-Err-clause-failed g c = λ disk. opening-failed _ _ c.in-Err.fault c.unopened_by.result c.unopened_by.ensures disk c.in-Err.ensures.turns

pub returns-in-Err-clause-adds : goal.returns-in-Err-clause-adds
returns-in-Err-clause-adds g c = opening-adds {T = JournalValue × List (List ℕ)} (Err c.in-Err.fault) _ _ c.in-Err.ensures.turns

pub returns-in-Ok-clause-triple : goal.returns-in-Ok-clause-triple
returns-in-Ok-clause-triple g c = λ setup same.
    opens {T = JournalValue × List (List ℕ)} c.law_kept_files.ensures.lawful_kept c.law_records_in_order.ensures.folds setup c.args.slots same _ _ (Ok (c.in-Ok.journal, c.in-Ok.bodies)) c.with_ledger.result (of-ledger c.in-Ok.journal c.in-Ok.bodies c.with_ledger.result c.with_ledger.ensures) c.in-Ok.ensures.turns c.in-Ok.ensures.steps c.in-Ok.ensures.rests
    (λ log e. by_ledger c.args.slots (outside_of log).file c.in-Ok.journal c.in-Ok.bodies c.with_ledger.result (c.in-Ok.ensures.bodies log e) (c.in-Ok.ensures.too_long log e) (c.in-Ok.ensures.truncated log e) c.with_ledger.ensures)

pub returns-in-Ok-clause-failed : goal.returns-in-Ok-clause-failed
returns-in-Ok-clause-failed g c = λ disk. ledger-not-failed c.in-Ok.journal c.in-Ok.bodies c.with_ledger.result c.with_ledger.ensures disk

pub returns-in-Ok-clause-adds : goal.returns-in-Ok-clause-adds
returns-in-Ok-clause-adds g c = opening-adds {T = JournalValue × List (List ℕ)} (Ok (c.in-Ok.journal, c.in-Ok.bodies)) _ _ c.in-Ok.ensures.turns
