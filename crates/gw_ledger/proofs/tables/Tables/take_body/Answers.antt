-- Proof of the contract of `take_body`.
use Rattle.std.proofs.Common.{◌≡◌, ◌∙◌, Bool, true, false, IsTrue, sym, ap}
use Rattle.gw_ledger.specs.Fold.{fits_beside_key}
use Rattle.gw_ledger.proofs.tables.Tables.take_body.Goals as goal

never : (b : Bool) → IsTrue b → b ≡ false → ⊥
never true passes fails = cc
never false passes fails = cc

pub returns-in-Err-clause-cause : goal.returns-in-Err-clause-cause
returns-in-Err-clause-cause c = λ no the_record within body_is fitting. c.law_bodies.ensures.faulty _ _ c.in-Err.ensures the_record within body_is

pub returns-then-not-fits_beside_key-clause-cause : goal.returns-then-not-fits_beside_key-clause-cause
returns-then-not-fits_beside_key-clause-cause c = λ no the_record within body_is fitting.
    let same = c.law_bodies.ensures.one_record the_record c.in-Ok.the_record within c.in-Ok.ensures.0 (sym body_is ∙ c.in-Ok.ensures.1) in
    never (fits_beside_key c.args.self.now.records the_record) fitting (ap (fits_beside_key c.args.self.now.records) same ∙ sym c.fits_beside_key.ensures ∙ c.if-not-fits_beside_key.true)
