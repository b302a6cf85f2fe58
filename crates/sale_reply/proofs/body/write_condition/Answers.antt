-- Proof of the contract of `write_condition`.
use Rattle.std.proofs.Common.{List, ℕ, Option, Some, None, ◌≡◌, [], refl, sym, codes}
use Rattle.std.specs.Prelude.{option_map}
use Rattle.gw_base.specs.declared.condition.Condition.{Condition}
use Rattle.gw_base.specs.Condition.{name_of}
use Rattle.sale_reply.specs.inner.CanonicalMembers.{next_optional}
use Rattle.sale_reply.proofs.PartLemmas.{nothing, spelled}
use Rattle.sale_reply.proofs.body.write_condition.Goals as goal

none_written : (name : List ℕ) (condition : Option Condition) → ((x : Condition) → condition ≡ Some x → ⊥)
    → next_optional name (option_map name_of condition) ≡ []
unfolding next_optional
none_written name None none = refl
none_written name (Some condition) none = absurd (none condition refl)

pub returns-in-Some : goal.returns-in-Some
unfolding next_optional
returns-in-Some c = spelled c.next_text.ensures (rw c.in-Some.is (cc))

pub returns-in_default : goal.returns-in_default
returns-in_default c = spelled nothing (sym (none_written (codes "ErrorCondition") c.args.condition c.in_default.not-Some))
