-- Inner: the bytes of a text, wherever they lie.
use Rattle.std.specs.Prelude.{ℕ, List, string_bytes}
use Rattle.json_text.specs.declared.content.Content.{Content}
use Rattle.json_text.specs.declared.content.Content.TheVariants.{Inline, Long}

-- the bytes of the text
abbrev pub content_bytes : Content → List ℕ
content_bytes (Inline text) = text.bytes
content_bytes (Long text) = string_bytes text
