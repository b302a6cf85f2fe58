-- Inner: parts of a written request that may be absent.
use Rattle.std.specs.Prelude.{ℕ, zero, suc, List, [], ◌∷◌, ◌++◌, Option, Some, None}
use Rattle.json_text.specs.Canonical.{canonical}
use Rattle.json_text.specs.Tree.{array}
use Rattle.sale_msg.specs.Canonical.{text_elements}

-- the bytes before texts and the texts, where there are some
abbrev pub texts_part : List ℕ → Option (List (List ℕ)) → List ℕ
texts_part prefix None = []
texts_part prefix (Some texts) = prefix ++ canonical (array (text_elements texts))

-- the comma before the element at an index, where it isn't the first
abbrev pub comma_before : ℕ → List ℕ
comma_before zero = []
comma_before (suc i) = 44 ∷ []
