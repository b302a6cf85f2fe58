-- The members of a header, as they are written.
use Rattle.std.specs.Prelude.{codes}
use Rattle.json_text.specs.Tree.{Members, no_members}
use Rattle.sale_values.specs.MemberShapes.{text_member, optional_member}
use Rattle.sale_values.specs.Names.{class_name, kind_name}
use Rattle.sale_values.specs.declared.header.Header.{Header}

-- the members of a header in their order; `ServiceID` and `DeviceID` where it has them
abbrev pub header_members : Header → Members
header_members header =
    text_member (codes "ProtocolVersion") (codes "3.0")
    (text_member (codes "MessageClass") (class_name header.class)
    (text_member (codes "MessageCategory") header.category
    (text_member (codes "MessageType") (kind_name header.kind)
    (optional_member (codes "ServiceID") header.service
    (optional_member (codes "DeviceID") header.device
    (text_member (codes "SaleID") header.sale
    (text_member (codes "POIID") header.poi no_members)))))))
