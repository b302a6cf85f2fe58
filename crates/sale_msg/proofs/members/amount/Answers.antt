-- Proof of the contract of `amount`.
use Rattle.std.proofs.Common.{◌≡◌, ℕ, Option, true, subst}
use Rattle.std.specs.Option.{is_some}
use Rattle.sale_msg.specs.inner.RowValue.{member_value}
use Rattle.sale_msg.proofs.FormLemmas.{amount_has_units}
use Rattle.sale_msg.proofs.members.amount.Goals as goal

pub unwrap-requires : goal.unwrap-requires
unwrap-requires c =
    let P : Option ℕ → Type 0 = λ units. is_some units ≡ true in
    subst P c.amount_or_none.ensures (amount_has_units (member_value c.args.member) c.requires)
