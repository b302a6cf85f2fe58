-- Proof of the contract of `resolve`.
use Rattle.std.proofs.Common.{[], ◌∷◌, refl, ap, arith}
use Rattle.jrn_record.specs.declared.records.Record.TheVariants.{Outcome}
use Rattle.gw_ledger.proofs.KeyTableLemmas.{keys_without, their_keys_stay}
use Rattle.gw_ledger.proofs.RecordLemmas.{folded_push}
use Rattle.gw_ledger.proofs.ledger.Ledger.resolve.Goals as goal

pub invariant_of-self : goal.invariant_of-self
invariant_of-self c =
    let records = c.self.inside.tables.records in
    let outcome = c.args.outcome.now in (
      rw c.resolve.ensures.records (folded_push records (Outcome outcome) c.self.invariant.0 c.requires.within (rw (ap (λ v. v.records) c.self.view_is) c.requires.fits)),
      rw c.resolve.ensures.records (keys_without records (Outcome outcome) c.self.inside.slots.slots refl c.self.invariant.1),
      rw c.resolve.ensures.records (their_keys_stay records (Outcome outcome ∷ []) c.self.inside.slots.firsts c.self.invariant.2),
      omega (arith, c.self.invariant.3, c.resolve.ensures.spare),
    )
