-- The texts that a reply puts together.
use Rattle.std.specs.Prelude.{ℕ, ◌/◌, ◌%◌, List, [], ◌∷◌, ◌++◌, codes, map}
use Rattle.std.specs.Str.{encode_utf8_all}
use Rattle.gw_bytes.specs.Hex.{upper_digit}
use Rattle.gw_base.specs.Text437.{char_of}
use Rattle.json_text.specs.FaultText.{fault_text}
use Rattle.sale_reply.specs.declared.reply.Detail.{Detail}
use Rattle.sale_reply.specs.declared.reply.Detail.TheVariants.{Json, Header, Body, Abort}

-- the text of a cashier's display for an intermediate status: its code in two digits of base 16
unfoldable pub intermediate_text : ℕ → List ℕ
intermediate_text code = codes "ZVT status " ++ upper_digit (code / 16) ∷ upper_digit (code % 16) ∷ []

-- the characters of a terminal's line, in UTF-8
unfoldable pub line_text : List ℕ → List ℕ
line_text line = encode_utf8_all (map char_of line)

-- the text of `EventDetails`
unfoldable pub detail_text : Detail → List ℕ
detail_text (Json fault) = codes "json " ++ fault_text fault
detail_text (Header path) = codes "header " ++ path
detail_text (Body path) = codes "body " ++ path
detail_text Abort = codes "abort"
