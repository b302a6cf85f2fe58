-- Proof of the contract of `read_number`.
use Rattle.std.proofs.Common.{◌≡◌, ◌∙◌, sym, subst, refl, true, false, IsTrue}
use Rattle.jrn_record.specs.Limits.{IsPresentWithin}
use Rattle.jrn_record.proofs.FieldLemmas.{digits_spell, present_below, digits_one, digits_none}
use Rattle.jrn_record.proofs.body_fields.read_number.Goals as goal

pub returns-then-is_present_within : goal.returns-then-is_present_within
returns-then-is_present_within c = (
  c.is_present_within.ensures.0 (subst IsTrue (sym c.if-is_present_within.true) (refl)),
  digits_spell c.args.count c.in-Ok.number _ c.bytes_at.ensures.len c.in-Ok.ensures ∙ c.bytes_at.ensures.value,
)

pub returns-else-is_present_within : goal.returns-else-is_present_within
returns-else-is_present_within c = (
  refl,
  λ value present e.
      let below = present_below c.args.present c.args.least c.args.greatest c.args.count value c.requires.fits present in
      let same = digits_one c.args.count value c.in-Ok.number _ below (e ∙ sym c.bytes_at.ensures.value) c.in-Ok.ensures.1 in
      let yes = c.is_present_within.ensures.1 (subst (IsPresentWithin c.args.present c.args.least c.args.greatest) same present) in
      let f : true ≡ false = sym yes ∙ c.if-is_present_within.false in
      cc,
)

pub returns-in_default : goal.returns-in_default
returns-in_default c = (
  refl,
  λ value present e.
      let below = present_below c.args.present c.args.least c.args.greatest c.args.count value c.requires.fits present in
      digits_none c.args.count value _ _ below (e ∙ sym c.bytes_at.ensures.value) c.in_default.ensures,
)
