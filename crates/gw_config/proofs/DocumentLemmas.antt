-- The table that a document is.
use Rattle.std.proofs.Common.{◌≡◌, Bool, true, false, ℕ, List, Some, None, refl}
use Rattle.std.specs.Str.{IsUtf8, is_utf8}
use Rattle.std.proofs.lemmas.Str.{IsUtf8-from_is_utf8, is_utf8-from_IsUtf8}
use Rattle.toml.specs.Data.{Members}
use Rattle.toml.specs.Parse.{parse_document}
use Rattle.gw_config.specs.Grammar.{document_of}

pub document_is : (bytes : List ℕ) (table : Members) → IsUtf8 bytes → parse_document bytes ≡ Some table → document_of bytes ≡ Some table
document_is bytes table utf8 is = rw (is_utf8-from_IsUtf8 bytes utf8) is

pub no_document : (bytes : List ℕ) → (IsUtf8 bytes → parse_document bytes ≡ None) → document_of bytes ≡ None
no_document bytes none = by_test (is_utf8 bytes) refl
  where
    by_test : (test : Bool) → is_utf8 bytes ≡ test → document_of bytes ≡ None
    by_test true is = rw is (none (IsUtf8-from_is_utf8 bytes is))
    by_test false is = rw is refl
