-- The bytes of the parts of which a written message is put together.
use Rattle.std.specs.Prelude.{ℕ, List, [], ◌++◌, Option, Some, None, flat_map}
use Rattle.std.specs.Option.{option_copied}
use Rattle.json_text.specs.Canonical.{canonical_string}
use Rattle.sale_values.specs.declared.part.Part.{Part}
use Rattle.sale_values.specs.declared.part.Part.TheVariants.{Raw, Text, Optional}

-- the bytes before a text and the text as a string, where there is one
abbrev pub optional_text : List ℕ → Option (List ℕ) → List ℕ
optional_text prefix None = []
optional_text prefix (Some text) = prefix ++ canonical_string text

-- the bytes of a part
abbrev pub part_text : Part → List ℕ
part_text (Raw bytes) = bytes.now
part_text (Text text) = canonical_string text.now
part_text (Optional prefix text) = optional_text prefix.now (option_copied text)

-- the bytes of parts, one after the other
abbrev pub parts_text : List Part → List ℕ
parts_text parts = flat_map part_text parts
