-- Plain characters are text.
use Rattle.std.proofs.Common.{ℕ, zero, suc, List, [], ◌∷◌}
use Rattle.std.specs.Str.{IsUtf8, IsAscii}
use Rattle.std.proofs.lemmas.Str.{IsUtf8-from_ascii}
use Rattle.std.proofs.lemmas.Str.Ascii.{IsAscii-nil}
use Rattle.json_text.specs.inner.ReaderStates.{ArePlain}

plain_ascii : (w : List ℕ) → ArePlain w → IsAscii w
plain_ascii [] h i = IsAscii-nil i
plain_ascii (c ∷ w) h zero = h.0.1
plain_ascii (c ∷ w) h (suc i) = plain_ascii w h.1 i

pub plain_utf8 : (w : List ℕ) → ArePlain w → IsUtf8 w
plain_utf8 w h = IsUtf8-from_ascii w (plain_ascii w h)
