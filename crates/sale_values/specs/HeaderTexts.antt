-- Headers that can be written as text.
use Rattle.std.specs.Prelude.{IfSome}
use Rattle.std.specs.Str.{IsUtf8}
use Rattle.sale_values.specs.declared.header.Header.{Header}

-- its texts are UTF-8
pub record HasUtf8Texts (header : Header) : Type 0 where
  pub category : IsUtf8 header.category
  pub service : IfSome header.service IsUtf8
  pub device : IfSome header.device IsUtf8
  pub sale : IsUtf8 header.sale
  pub poi : IsUtf8 header.poi
