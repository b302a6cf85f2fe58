-- Closed examples: what a log's text has of a till's bytes.
use Rattle.std.specs.Prelude.{◌≡◌, [], ◌∷◌, codes}
use Rattle.sale_frame.specs.Grammar.{frame}
use Rattle.gw_script.specs.LogText.{till_bytes_text}
use Rattle.gw_script.specs.Laws.{IsPrintableMessage}

-- a printable message is written as it is
pub record TextOfMessage : Type 0 where
  pub printable : IsPrintableMessage (codes "{}")
  pub text_is : till_bytes_text (frame (codes "{}")) ≡ codes "'{}"

-- a frame that is incomplete is written in hexadecimal
abbrev pub TextOfPrefix : Type 0
TextOfPrefix = till_bytes_text (0 ∷ 0 ∷ 0 ∷ 2 ∷ 123 ∷ []) ≡ codes "000000027b"
