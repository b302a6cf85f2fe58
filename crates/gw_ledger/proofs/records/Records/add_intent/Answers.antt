-- Proof of the contract of `add_intent`.
use Rattle.std.proofs.Common.{◌≡◌, ◌∙◌, ◌<◌, [], ◌∷◌, ◌++◌, length, ap, arith}
use Rattle.std.proofs.lemmas.List.{length-map}
use Rattle.jrn_record.specs.declared.records.Record.TheVariants.{Intent}
use Rattle.gw_ledger.specs.Records.{record_at, records_at}
use Rattle.gw_ledger.proofs.KindLemmas.{intent_indexed, intent_pushed}
use Rattle.gw_ledger.proofs.records.Records.add_intent.Goals as goal

pub invariant_of-self : goal.invariant_of-self
invariant_of-self c =
    let l = c.self.inside in
    let records : length (records_at l.intents.items l.outcomes.items l.reconciliations.items l.indices.items) < 1000000 = rw (ap (λ v. v.records) c.self.view_is) c.requires.few in
    let few : length l.indices.items < 1000000 = omega (arith, records, length-map l.indices.items (record_at l.intents.items l.outcomes.items l.reconciliations.items)) in
    let at : c.len-at.result ≡ length l.intents.items = c.len-at.ensures ∙ l.intents.ok.0 in
    rw (c.push.ensures.elements, c.push-2.ensures.elements, at) (intent_indexed l.intents.items l.outcomes.items l.reconciliations.items l.indices.items c.self.invariant few c.args.intent.now)

pub returns-clause-records : goal.returns-clause-records
returns-clause-records c =
    let l = c.self.inside in
    let records : length (records_at l.intents.items l.outcomes.items l.reconciliations.items l.indices.items) < 1000000 = rw (ap (λ v. v.records) c.self.view_is) c.requires.few in
    let few : length l.indices.items < 1000000 = omega (arith, records, length-map l.indices.items (record_at l.intents.items l.outcomes.items l.reconciliations.items)) in
    let at : c.len-at.result ≡ length l.intents.items = c.len-at.ensures ∙ l.intents.ok.0 in
    rw (c.push.ensures.elements, c.push-2.ensures.elements, at)
    (intent_pushed l.intents.items l.outcomes.items l.reconciliations.items l.indices.items c.self.invariant few c.args.intent.now)
    ∙ ap (λ r. r ++ Intent c.args.intent.now ∷ []) (ap (λ v. v.records) c.self.view_is)
