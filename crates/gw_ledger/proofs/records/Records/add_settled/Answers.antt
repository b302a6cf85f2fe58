-- Proof of the contract of `add_settled`.
use Rattle.std.proofs.Common.{◌≡◌, ◌∙◌, ◌<◌, [], ◌∷◌, ◌++◌, length, ap, arith}
use Rattle.std.proofs.lemmas.List.{length-map}
use Rattle.jrn_record.specs.declared.records.Record.TheVariants.{Settled}
use Rattle.gw_ledger.specs.Records.{record_at, records_at}
use Rattle.gw_ledger.proofs.KindLemmas.{settled_indexed, settled_pushed}
use Rattle.gw_ledger.proofs.records.Records.add_settled.Goals as goal

pub invariant_of-self : goal.invariant_of-self
invariant_of-self c =
    let l = c.self.inside in
    let records : length (records_at l.intents.items l.outcomes.items l.reconciliations.items l.indices.items) < 1000000 = rw (ap (λ v. v.records) c.self.view_is) c.requires.few in
    let few : length l.indices.items < 1000000 = omega (arith, records, length-map l.indices.items (record_at l.intents.items l.outcomes.items l.reconciliations.items)) in
    let at : c.len-at.result ≡ length l.reconciliations.items = c.len-at.ensures ∙ l.reconciliations.ok.0 in
    rw (c.push.ensures.elements, c.push-2.ensures.elements, at) (settled_indexed l.intents.items l.outcomes.items l.reconciliations.items l.indices.items c.self.invariant few c.args.settled.now)

pub returns-clause-records : goal.returns-clause-records
returns-clause-records c =
    let l = c.self.inside in
    let records : length (records_at l.intents.items l.outcomes.items l.reconciliations.items l.indices.items) < 1000000 = rw (ap (λ v. v.records) c.self.view_is) c.requires.few in
    let few : length l.indices.items < 1000000 = omega (arith, records, length-map l.indices.items (record_at l.intents.items l.outcomes.items l.reconciliations.items)) in
    let at : c.len-at.result ≡ length l.reconciliations.items = c.len-at.ensures ∙ l.reconciliations.ok.0 in
    rw (c.push.ensures.elements, c.push-2.ensures.elements, at)
    (settled_pushed l.intents.items l.outcomes.items l.reconciliations.items l.indices.items c.self.invariant few c.args.settled.now)
    ∙ ap (λ r. r ++ Settled c.args.settled.now ∷ []) (ap (λ v. v.records) c.self.view_is)
