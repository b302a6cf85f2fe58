-- Proof of the contract of `add_outcome`.
use Rattle.std.proofs.Common.{◌≡◌, ◌∙◌, ◌<◌, [], ◌∷◌, ◌++◌, length, ap, arith}
use Rattle.std.proofs.lemmas.List.{length-map}
use Rattle.jrn_record.specs.declared.records.Record.TheVariants.{Outcome}
use Rattle.gw_ledger.specs.Records.{record_at, records_at}
use Rattle.gw_ledger.proofs.KindLemmas.{outcome_indexed, outcome_pushed}
use Rattle.gw_ledger.proofs.records.Records.add_outcome.Goals as goal

pub invariant_of-self : goal.invariant_of-self
invariant_of-self c =
    let l = c.self.inside in
    let records : length (records_at l.intents.items l.outcomes.items l.reconciliations.items l.indices.items) < 1000000 = rw (ap (λ v. v.records) c.self.view_is) c.requires.few in
    let few : length l.indices.items < 1000000 = omega (arith, records, length-map l.indices.items (record_at l.intents.items l.outcomes.items l.reconciliations.items)) in
    let at : c.len-at.result ≡ length l.outcomes.items = c.len-at.ensures ∙ l.outcomes.ok.0 in
    rw (c.push.ensures.elements, c.push-2.ensures.elements, at) (outcome_indexed l.intents.items l.outcomes.items l.reconciliations.items l.indices.items c.self.invariant few c.args.outcome.now)

pub returns-clause-records : goal.returns-clause-records
returns-clause-records c =
    let l = c.self.inside in
    let records : length (records_at l.intents.items l.outcomes.items l.reconciliations.items l.indices.items) < 1000000 = rw (ap (λ v. v.records) c.self.view_is) c.requires.few in
    let few : length l.indices.items < 1000000 = omega (arith, records, length-map l.indices.items (record_at l.intents.items l.outcomes.items l.reconciliations.items)) in
    let at : c.len-at.result ≡ length l.outcomes.items = c.len-at.ensures ∙ l.outcomes.ok.0 in
    rw (c.push.ensures.elements, c.push-2.ensures.elements, at)
    (outcome_pushed l.intents.items l.outcomes.items l.reconciliations.items l.indices.items c.self.invariant few c.args.outcome.now)
    ∙ ap (λ r. r ++ Outcome c.args.outcome.now ∷ []) (ap (λ v. v.records) c.self.view_is)
