-- Headers that are texts.
use Rattle.std.proofs.Common.{◌≡◌, ℕ, suc, ◌<◌, List, Option, Some, None, true, refl, codes}
use Rattle.json_text.specs.Tree.{no_members, object, names}
use Rattle.json_text.specs.MemberNames.{are_distinct}
use Rattle.json_text.specs.Spellable.{IsSpellableAt, HaveSpellable}
use Rattle.sale_values.specs.MemberShapes.{text_member}
use Rattle.sale_values.specs.CanonicalHeader.{header_members}
use Rattle.sale_values.specs.declared.header.Header.{Header}
use Rattle.sale_values.proofs.ObjectLemmas.{object_at, optional_have}
use Rattle.sale_values.proofs.Utf8Lemmas.{ascii_utf8, class_utf8, kind_utf8}
use Rattle.sale_values.specs.HeaderTexts.{HasUtf8Texts}
use Rattle.sale_values.specs.declared.names.Class.{Class as ClassType}
use Rattle.sale_values.specs.declared.names.Kind.{Kind as KindType}

header_have : (d : ℕ) (header : Header) → HasUtf8Texts header → HaveSpellable d (header_members header)
header_have d header is =
    let last : HaveSpellable d (text_member (codes "SaleID") header.sale (text_member (codes "POIID") header.poi no_members)) =
    (ascii_utf8 (codes "SaleID") refl, is.sale, (ascii_utf8 (codes "POIID") refl, is.poi, tt)) in
    let device = optional_have d (codes "DeviceID") header.device _ (ascii_utf8 (codes "DeviceID") refl) is.device last in
    let service = optional_have d (codes "ServiceID") header.service _ (ascii_utf8 (codes "ServiceID") refl) is.service device in (
      ascii_utf8 (codes "ProtocolVersion") refl,
      ascii_utf8 (codes "3.0") refl,
      (
        ascii_utf8 (codes "MessageClass") refl,
        class_utf8 header.class,
        (
          ascii_utf8 (codes "MessageCategory") refl,
          is.category,
          (ascii_utf8 (codes "MessageType") refl, kind_utf8 header.kind, service),
        ),
      ),
    )

-- the members of a written header, by its parts
abbrev parted : ClassType → List ℕ → KindType → Option (List ℕ) → Option (List ℕ) → List ℕ → List ℕ → Header
parted class category message_type service device sale poi =
    record { class = class; category = category; kind = message_type; service = service; device = device; sale = sale; poi = poi }

header_distinct : (class : ClassType) (category : List ℕ) (message_type : KindType) (service device : Option (List ℕ)) (sale poi : List ℕ)
    → are_distinct (names (header_members (parted class category message_type service device sale poi))) ≡ true
header_distinct class category message_type None None sale poi = refl
header_distinct class category message_type None (Some d) sale poi = refl
header_distinct class category message_type (Some s) None sale poi = refl
header_distinct class category message_type (Some s) (Some d) sale poi = refl

-- a header whose texts are UTF-8 has a text
pub header_spellable : (d : ℕ) (header : Header) → HasUtf8Texts header → d < 32 → IsSpellableAt d (object (header_members header))
header_spellable d header is room =
    object_at d (header_members header) room
    (header_distinct header.class header.category header.kind header.service header.device header.sale header.poi) (header_have (suc d) header is)
