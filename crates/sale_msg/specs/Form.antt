-- What a member is to be.
use Rattle.std.specs.Prelude.{◌≡◌, ℕ, ◌≤◌, List, ◌++◌, All, length, codes, IsSome, MatchOption, ◌⊎◌}
use Rattle.gw_base.specs.Amount.{SpellsAmount}
use Rattle.gw_base.specs.Ident.{IsIdent}
use Rattle.json_text.specs.Tree.{Tree, array_of, boolean_of, numeral_of, members_of, string_of}
use Rattle.sale_values.specs.declared.names.Class.{Class}
use Rattle.sale_values.specs.declared.names.Kind.{Kind}
use Rattle.sale_values.specs.declared.names.Kind.TheVariants as kinds
use Rattle.sale_values.specs.declared.names.Period.{Period}
use Rattle.sale_values.specs.Names.{class_name, kind_name, period_name}
use Rattle.sale_msg.specs.Path.{text_at}
use Rattle.sale_msg.specs.declared.table.Form.{Form}
use Rattle.sale_msg.specs.declared.table.Form.TheVariants as forms

-- an upper-case letter of ASCII
abbrev pub IsCapital : ℕ → Type 0
IsCapital byte = (0x41 ≤ byte) × (byte ≤ 0x5A)

-- a letter of ASCII
abbrev pub IsLetter : ℕ → Type 0
IsLetter byte = IsCapital byte ⊎ ((0x61 ≤ byte) × (byte ≤ 0x7A))

-- an object, whatever its members
abbrev pub IsJsonObject : Tree → Type 0
IsJsonObject tree = IsSome (members_of tree)

-- a number whose text is an amount
abbrev pub IsAmountNumber : Tree → Type 0
IsAmountNumber tree = MatchOption (numeral_of tree) ⊥ (λ numeral. (units : ℕ) × SpellsAmount numeral units)

-- a list of 1 to 16 objects; a single object is taken as a list of one
abbrev pub IsOutputList : Tree → Type 0
IsOutputList tree = MatchOption (array_of tree) (IsJsonObject tree)
    (λ elements. (1 ≤ length elements) × (length elements ≤ 16) × All IsJsonObject elements)

-- an object with a text as its `Text`
abbrev pub HasTextMember : Tree → Type 0
HasTextMember element = IsSome (text_at (codes "Text") element)

-- a list of objects, each of which has a text
abbrev pub IsTextList : Tree → Type 0
IsTextList tree = MatchOption (array_of tree) ⊥ (All HasTextMember)

-- the text is of the form
abbrev pub TextHasForm : Form → List ℕ → Type 0
TextHasForm forms.Object text = ⊥
TextHasForm forms.Text text = Unit {0}
TextHasForm (forms.Ident most) text = IsIdent most text
TextHasForm forms.Letters text = (1 ≤ length text) × (length text ≤ 40) × All IsLetter text
TextHasForm forms.Version text = (rest : List ℕ) × (text ≡ codes "3." ++ rest)
TextHasForm forms.Class text = (class : Class) × (class_name class ≡ text)
TextHasForm forms.RequestKind text = (kind_name kinds.Request ≡ text) ⊎ (kind_name kinds.Notification ≡ text)
TextHasForm forms.Kind text = (message_type : Kind) × (kind_name message_type ≡ text)
TextHasForm forms.Currency text = (length text ≡ 3) × All IsCapital text
TextHasForm forms.Amount text = ⊥
TextHasForm forms.Flag text = ⊥
TextHasForm forms.Period text = (period : Period) × (period_name period ≡ text)
TextHasForm forms.Outputs text = ⊥
TextHasForm forms.Texts text = ⊥

-- a text of the form
abbrev pub IsTextOf : Form → Tree → Type 0
IsTextOf form tree = MatchOption (string_of tree) ⊥ (TextHasForm form)

-- the tree is of the form
abbrev pub HasForm : Form → Tree → Type 0
HasForm forms.Object tree = IsJsonObject tree
HasForm forms.Text tree = IsTextOf forms.Text tree
HasForm (forms.Ident most) tree = IsTextOf (forms.Ident most) tree
HasForm forms.Letters tree = IsTextOf forms.Letters tree
HasForm forms.Version tree = IsTextOf forms.Version tree
HasForm forms.Class tree = IsTextOf forms.Class tree
HasForm forms.RequestKind tree = IsTextOf forms.RequestKind tree
HasForm forms.Kind tree = IsTextOf forms.Kind tree
HasForm forms.Currency tree = IsTextOf forms.Currency tree
HasForm forms.Amount tree = IsAmountNumber tree
HasForm forms.Flag tree = IsSome (boolean_of tree)
HasForm forms.Period tree = IsTextOf forms.Period tree
HasForm forms.Outputs tree = IsOutputList tree
HasForm forms.Texts tree = IsTextList tree
