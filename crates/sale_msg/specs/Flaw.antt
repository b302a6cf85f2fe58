-- What is wrong with an object, by a table: its first row that isn't met.
use Rattle.std.specs.Prelude.{◌≡◌, List, [], ◌∷◌, Option, Some, codes, MatchOption, ◌⊎◌}
use Rattle.json_text.specs.Tree.{Tree}
use Rattle.sale_msg.specs.Path.{text_at, tree_at}
use Rattle.sale_msg.specs.Form.{HasForm}
use Rattle.sale_msg.specs.Table.{MemberRow}
use Rattle.sale_msg.specs.declared.table.Form.{Form}
use Rattle.sale_msg.specs.declared.table.Presence.{Presence}
use Rattle.sale_msg.specs.declared.table.Presence.TheVariants.{Required, Optional, ByHeader}
use Rattle.sale_msg.specs.declared.flaw.Flaw.{Flaw}
use Rattle.sale_msg.specs.declared.flaw.Flaw.TheVariants as flaws

-- a member of this presence may be absent
abbrev pub MayBeAbsent : Presence → Tree → Type 0
MayBeAbsent Required tree = ⊥
MayBeAbsent Optional tree = Unit {0}
MayBeAbsent ByHeader tree =
    (text_at (codes "MessageHeader.MessageClass") tree ≡ Some (codes "Device"))
    ⊎ (text_at (codes "MessageHeader.MessageType") tree ≡ Some (codes "Notification"))

-- Inner: a value of this form was found
abbrev pub HasFound : Form → Option Tree → Type 0
HasFound form found = MatchOption found ⊥ (HasForm form)

-- Inner: nothing was found, or a value of this form
abbrev pub MayHaveFound : Form → Option Tree → Type 0
MayHaveFound form found = MatchOption found (Unit {0}) (HasForm form)

-- the member is of its form, or is absent and may be
unfoldable pub IsMet : MemberRow → Tree → Type 0
IsMet row tree = MatchOption (tree_at row.within tree) (MayBeAbsent row.presence tree) (HasForm row.form)

-- the member is absent and may not be, or is of another form
unfoldable pub IsFlaw : MemberRow → Tree → Flaw → Type 0
IsFlaw row tree flaw = MatchOption (tree_at row.within tree)
    ((¬ MayBeAbsent row.presence tree) × (flaw ≡ flaws.Missing row.path))
    (λ value. (¬ HasForm row.form value) × (flaw ≡ flaws.Wrong row.path))

-- the object meets each row of the table
abbrev pub AreMet : List MemberRow → Tree → Type 0
AreMet [] tree = Unit {0}
AreMet (row ∷ rows) tree = IsMet row tree × AreMet rows tree

-- the flaw is that of the first row that the object doesn't meet
abbrev pub IsFirstFlaw : List MemberRow → Tree → Flaw → Type 0
IsFirstFlaw [] tree flaw = ⊥
IsFirstFlaw (row ∷ rows) tree flaw = IsFlaw row tree flaw ⊎ (IsMet row tree × IsFirstFlaw rows tree flaw)

-- the flaw is the first one of the first object that has any
abbrev pub IsFirstAmong : List MemberRow → List Tree → Flaw → Type 0
IsFirstAmong rows [] flaw = ⊥
IsFirstAmong rows (tree ∷ trees) flaw = IsFirstFlaw rows tree flaw ⊎ (AreMet rows tree × IsFirstAmong rows trees flaw)
