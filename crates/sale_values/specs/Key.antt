-- The key of the message that a reference names.
use Rattle.std.specs.Prelude.{unwrap_or}
use Rattle.gw_base.specs.declared.key.Key.{Key}
use Rattle.sale_values.specs.declared.header.Header.{Header}
use Rattle.sale_values.specs.declared.request.Reference.{Reference}

-- an absent SaleID or POIID is that of the header
abbrev pub key_of : Header → Reference → Key
key_of header reference = record {
  sale = unwrap_or reference.sale header.sale;
  poi = unwrap_or reference.poi header.poi;
  service = reference.service;
}
