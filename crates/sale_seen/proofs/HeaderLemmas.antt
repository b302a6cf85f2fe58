-- The header of a written reply is read again.
use Rattle.std.proofs.Common.{◌≡◌, ℕ, List, ◌++◌, Option, Some, None, refl, ap, codes, inl, inr, ◌⊎◌, All, length, ◌≤◌, bytes_eq, true, false}
use Rattle.json_text.specs.Tree.{Tree, object, member, no_members}
use Rattle.sale_values.specs.Names.{class_name, kind_name}
use Rattle.sale_values.specs.declared.header.Header.{Header}
use Rattle.sale_values.specs.declared.names.Class.{Class as ClassType}
use Rattle.sale_values.specs.declared.names.Class.TheVariants as classes
use Rattle.sale_values.specs.declared.names.Kind.{Kind as KindType}
use Rattle.sale_values.specs.declared.names.Kind.TheVariants as kinds
use Rattle.sale_msg.specs.Form.{IsLetter}
use Rattle.sale_msg.specs.Flaw.{AreMet, IsMet}
use Rattle.sale_msg.specs.Path.{tree_at}
use Rattle.sale_msg.specs.Table.{header_rows}
use Rattle.sale_msg.specs.Grammar.{IsHeaded, HasHeader, HeaderHolds}
use Rattle.sale_msg.specs.declared.table.Envelope.TheVariants as envelopes
use Rattle.sale_reply.specs.Limits.{IsHeaderWithinLimits}
use Rattle.sale_reply.specs.Reply.{header_tree, message_tree, response_tree}
use Rattle.sale_seen.specs.ReplyMembers.{response_of}
use Rattle.sale_seen.specs.Expected.{IsReadable}
use Rattle.sale_seen.proofs.NameLemmas.{not_eq, not_header, same_eq}

-- the object of a reply: its header and its body
abbrev pub object_of_reply : Header → Tree → Tree
object_of_reply header body = object
    (member (codes "MessageHeader") (header_tree header)
    (member (header.category ++ codes "Response") body no_members))

-- a header by its parts
abbrev pub parted : ClassType → List ℕ → KindType → Option (List ℕ) → Option (List ℕ) → List ℕ → List ℕ → Header
parted class category message_type service device sale poi =
    record { class = class; category = category; kind = message_type; service = service; device = device; sale = sale; poi = poi }

header_parts : (class : ClassType) (category : List ℕ) (message_type : KindType) (service device : Option (List ℕ)) (sale poi : List ℕ) (body : Tree)
    → HeaderHolds (object_of_reply (parted class category message_type service device sale poi) body) (parted class category message_type service device sale poi)
unfolding tree_at header_tree
header_parts class category message_type None None sale poi body =
    record { class = refl; category = refl; message_type = refl; service = refl; device = refl; sale = refl; poi = refl }
header_parts class category message_type None (Some d) sale poi body =
    record { class = refl; category = refl; message_type = refl; service = refl; device = refl; sale = refl; poi = refl }
header_parts class category message_type (Some s) None sale poi body =
    record { class = refl; category = refl; message_type = refl; service = refl; device = refl; sale = refl; poi = refl }
header_parts class category message_type (Some s) (Some d) sale poi body =
    record { class = refl; category = refl; message_type = refl; service = refl; device = refl; sale = refl; poi = refl }

-- a header without ServiceID is of class Device, or a notification's
abbrev MayLack : ClassType → KindType → Type 0
MayLack class message_type = (Some (class_name class) ≡ Some (codes "Device")) ⊎ (Some (kind_name message_type) ≡ Some (codes "Notification"))

may_lack : (class : ClassType) (message_type : KindType) → (class ≡ classes.Device) ⊎ (message_type ≡ kinds.Notification) → MayLack class message_type
may_lack class message_type (inl e) = inl (ap (λ c. Some (class_name c)) e)
may_lack class message_type (inr e) = inr (ap (λ k. Some (kind_name k)) e)

-- what the category is
abbrev Letters : List ℕ → Type 0
Letters category = (1 ≤ length category) × (length category ≤ 40) × All IsLetter category

letters : (header : Header) → IsHeaderWithinLimits header → IsReadable header → Letters header.category
letters header h r = (h.category.0, h.category.1, r.category)

met_parts : (class : ClassType) (category : List ℕ) (message_type : KindType) (service device : Option (List ℕ)) (sale poi : List ℕ) (body : Tree)
    → Letters category → IsHeaderWithinLimits (parted class category message_type service device sale poi)
    → (service ≡ None → (class ≡ classes.Device) ⊎ (message_type ≡ kinds.Notification))
    → AreMet (header_rows envelopes.Response) (object_of_reply (parted class category message_type service device sale poi) body)
unfolding tree_at IsMet header_tree
met_parts class category message_type None None sale poi body l h r =
    (refl, ((codes "0", refl), ((class, refl), (l, ((message_type, refl), (may_lack class message_type (r refl), (tt, (h.sale, (h.poi, tt)))))))))
met_parts class category message_type None (Some d) sale poi body l h r =
    (refl, ((codes "0", refl), ((class, refl), (l, ((message_type, refl), (may_lack class message_type (r refl), (h.device, (h.sale, (h.poi, tt)))))))))
met_parts class category message_type (Some s) None sale poi body l h r =
    (refl, ((codes "0", refl), ((class, refl), (l, ((message_type, refl), (h.service, (tt, (h.sale, (h.poi, tt)))))))))
met_parts class category message_type (Some s) (Some d) sale poi body l h r =
    (refl, ((codes "0", refl), ((class, refl), (l, ((message_type, refl), (h.service, (h.device, (h.sale, (h.poi, tt)))))))))

header_again : (header : Header) (body : Tree) → IsHeaderWithinLimits header → IsReadable header
    → HasHeader envelopes.Response (object_of_reply header body) header
header_again header body h r = record {
  members = met_parts header.class header.category header.kind header.service header.device header.sale header.poi body (letters header h r) h r.service;
  values = header_parts header.class header.category header.kind header.service header.device header.sale header.poi body;
}

-- a written reply has its header
pub headed : (header : Header) (body : Tree) → IsHeaderWithinLimits header → IsReadable header
    → IsHeaded (response_tree header body) envelopes.Response (object_of_reply header body) header
unfolding message_tree
headed header body h r = ((refl, refl), header_again header body h r)

-- and its body, under the name of its category
pub bodied : (header : Header) (body : Tree) → response_of header.category (object_of_reply header body) ≡ Some body
bodied header body =
    let name = header.category ++ codes "Response" in
    let other : bytes_eq (codes "MessageHeader") name ≡ false = not_eq (codes "MessageHeader") name (not_header header.category) in
    let same : bytes_eq name name ≡ true = same_eq name in
    rw (other, same) refl
