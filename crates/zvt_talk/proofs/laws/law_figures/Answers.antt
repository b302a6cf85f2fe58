-- Proof of the contract of `law_figures`.
use Rattle.std.proofs.Common.{Some}
use Rattle.zvt_talk.proofs.LimitLemmas.{at_least_one, reported_by_enquiry, reported_figures, reported_trace, within_fields}
use Rattle.zvt_talk.proofs.laws.law_figures.Goals as goal

pub returns-clause-approved : goal.returns-clause-approved
returns-clause-approved c = λ dialogue came message figures all is.
    let approves = (c.law_approved.ensures dialogue came message figures).0 is in
    within_fields came approves.status figures all approves.last approves.full

pub returns-clause-some : goal.returns-clause-some
returns-clause-some c = λ dialogue came message figures is.
    let approves = (c.law_approved.ensures dialogue came message figures).0 is in
    at_least_one approves.status figures approves.full

pub returns-clause-reported : goal.returns-clause-reported
returns-clause-reported c = λ dialogue came message trace figures result_code all is.
    let dialogue_kind = reported_by_enquiry dialogue came message trace (Some figures) result_code (c.law_meanings.ensures dialogue came message) is in
    let reports = (c.law_reports.ensures dialogue came message trace (Some figures) result_code dialogue_kind).0 is in
    let found = reported_figures dialogue came message trace figures result_code reports in
    within_fields came found.0 figures all found.1 found.2

pub returns-clause-reported_some : goal.returns-clause-reported_some
returns-clause-reported_some c = λ dialogue came message trace figures result_code is.
    let dialogue_kind = reported_by_enquiry dialogue came message trace (Some figures) result_code (c.law_meanings.ensures dialogue came message) is in
    let reports = (c.law_reports.ensures dialogue came message trace (Some figures) result_code dialogue_kind).0 is in
    let found = reported_figures dialogue came message trace figures result_code reports in
    at_least_one found.0 figures found.2

pub returns-clause-reported_trace : goal.returns-clause-reported_trace
returns-clause-reported_trace c = λ dialogue came message trace approved result_code all is.
    let dialogue_kind = reported_by_enquiry dialogue came message trace approved result_code (c.law_meanings.ensures dialogue came message) is in
    reported_trace dialogue came message trace approved result_code all ((c.law_reports.ensures dialogue came message trace approved result_code dialogue_kind).0 is)
