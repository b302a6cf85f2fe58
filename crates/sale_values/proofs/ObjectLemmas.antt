-- Objects that are texts.
use Rattle.std.proofs.Common.{◌≡◌, ℕ, suc, ◌<◌, List, Option, Some, None, true, IfSome}
use Rattle.std.specs.Str.{IsUtf8}
use Rattle.json_text.specs.Tree.{Tree, Members, object, names}
use Rattle.json_text.specs.MemberNames.{are_distinct}
use Rattle.json_text.specs.Spellable.{IsSpellableAt, HaveSpellable}
use Rattle.json_text.proofs.NameLemmas.{are_new}
use Rattle.sale_values.specs.MemberShapes.{optional_member, only}

-- an object inside fewer than 32 others, whose members have texts and differ in their names
pub object_at : (d : ℕ) (members : Members) → d < 32 → are_distinct (names members) ≡ true → HaveSpellable (suc d) members
    → IsSpellableAt d (object members)
object_at d members room distinct have = (room, are_new (names members) distinct, have)

-- a member that is a text, where there is one, before others
pub optional_have : (d : ℕ) (name : List ℕ) (text : Option (List ℕ)) (others : Members) → IsUtf8 name → IfSome text IsUtf8
    → HaveSpellable d others → HaveSpellable d (optional_member name text others)
optional_have d name None others n t have = have
optional_have d name (Some text) others n t have = (n, t, have)

-- an object of one member
pub only_at : (d : ℕ) (name : List ℕ) (value : Tree) → d < 32 → IsUtf8 name → IsSpellableAt (suc d) value → IsSpellableAt d (only name value)
only_at d name value room n v = (room, (tt, tt), (n, v, tt))
