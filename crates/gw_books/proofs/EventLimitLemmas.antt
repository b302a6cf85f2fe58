-- The event that rejects a message with any fault can be spelled, and has few bytes: of a number at most 64 digits are written.
use Rattle.std.proofs.Common.{ℕ, ℤ, zero, suc, ◌+◌, ◌/◌, ◌%◌, ◌≤◌, List, [], ◌∷◌, ◌++◌, length, All, codes, decimal, refl, arith, lit≤, nat_lt}
use Rattle.std.specs.Prelude.{◌==◌, false}
use Rattle.std.specs.Fmt.{digit_glyph, digits, digits_onto}
use Rattle.std.specs.Str.{IsUtf8}
use Rattle.std.proofs.lemmas.List.Elements.{All-nil, All-cons}
use Rattle.std.proofs.lemmas.Str.{IsUtf8-append}
use Rattle.gw_base.specs.Ident.{IsIdent}
use Rattle.gw_base.specs.Moment.{stamp_of}
use Rattle.gw_base.proofs.MomentLemmas.{stamp_of-plain}
use Rattle.json_text.specs.Canonical.{canonical}
use Rattle.json_text.specs.FaultText.{kind_text}
use Rattle.json_text.specs.Spellable.{IsSpellable, IsSpellableAt}
use Rattle.json_text.specs.Tree.{object, Members, member, no_members}
use Rattle.json_text.specs.declared.fault.FaultKind.{FaultKind}
use Rattle.json_text.specs.declared.fault.FaultKind.TheVariants as fault_kinds
use Rattle.json_text.specs.declared.fault.JsonFault.{JsonFault}
use Rattle.sale_values.specs.MemberShapes.{text_member}
use Rattle.sale_values.proofs.HeaderLemmas.{header_spellable}
use Rattle.sale_values.proofs.ObjectLemmas.{object_at, only_at}
use Rattle.sale_values.proofs.Utf8Lemmas.{IsBelow, ascii_utf8, below_utf8, ident_utf8}
use Rattle.sale_reply.specs.Reply.{event_body, event_header, event_tree, header_tree, message_tree}
use Rattle.sale_reply.specs.Texts.{detail_text}
use Rattle.sale_reply.specs.declared.reply.Detail.{Detail}
use Rattle.sale_reply.specs.declared.reply.Detail.TheVariants as details
use Rattle.sale_reply.specs.inner.CanonicalMembers.{message_prefix}
use Rattle.sale_reply.proofs.BodySizeLemmas.{fault_size, header_size}
use Rattle.sale_reply.proofs.CanonicalLemmas.{event_body_parts, message_parts, prefix_parts}
use Rattle.sale_reply.proofs.LimitLemmas.{event_header_within}
use Rattle.sale_reply.proofs.SizeLemmas.{IsAtMost, both, first_name_size, first_text_size, known, next_name_size, next_text_size, same_size, sized, within}
use Rattle.sale_reply.proofs.TextLemmas.{printable_utf8}
use Rattle.gw_owes.specs.Reply.{Reject}
use Rattle.gw_owes.proofs.HeardLemmas.{of-both}
use Rattle.gw_books.proofs.Holding.{IsReplyWithin}

-- ---- digits

glyph-below : (n : ℕ) → IsBelow (digit_glyph false (n % 10))
glyph-below n = of-both IsBelow (nat_lt (n % 10) 10) (48 + n % 10) (87 + n % 10) (omega arith) (omega arith)

digits-below : (count n : ℕ) (after : List ℕ) → All IsBelow after → All IsBelow (digits_onto count 10 false n after)
digits-below zero n after below = below
digits-below (suc count) n after below =
    let more : All IsBelow (digit_glyph false (n % 10) ∷ after) = All-cons IsBelow (digit_glyph false (n % 10)) after (glyph-below n) below in
    of-both (All IsBelow) (n / 10 == 0) (digit_glyph false (n % 10) ∷ after) (digits_onto count 10 false (n / 10) (digit_glyph false (n % 10) ∷ after)) more
    (digits-below count (n / 10) (digit_glyph false (n % 10) ∷ after) more)

digits-few : (count n : ℕ) (after : List ℕ) → length (digits_onto count 10 false n after) ≤ count + length after
digits-few zero n after = omega arith
digits-few (suc count) n after =
    of-both (λ (text : List ℕ). length text ≤ suc count + length after) (n / 10 == 0) (digit_glyph false (n % 10) ∷ after) (digits_onto count 10 false (n / 10) (digit_glyph false (n % 10) ∷ after)) (omega arith)
    (omega (arith, digits-few count (n / 10) (digit_glyph false (n % 10) ∷ after)))

decimal-utf8 : (n : ℕ) → IsUtf8 (decimal n)
unfolding digits
decimal-utf8 n = below_utf8 (digits_onto 64 10 false n []) (digits-below 64 n [] (All-nil IsBelow))

decimal-few : (n : ℕ) → length (decimal n) ≤ 64
unfolding digits
decimal-few n = omega (arith, digits-few 64 n [])

-- ---- the text of a fault

kind-utf8 : (fault_kind : FaultKind) → IsUtf8 (kind_text fault_kind)
kind-utf8 fault_kinds.NotJson = ascii_utf8 (codes "NotJson") refl
kind-utf8 fault_kinds.TooDeep = ascii_utf8 (codes "TooDeep") refl
kind-utf8 fault_kinds.Repeated = ascii_utf8 (codes "Repeated") refl
kind-utf8 fault_kinds.BadUtf8 = ascii_utf8 (codes "BadUtf8") refl

fault-utf8 : (fault : JsonFault) → IsUtf8 (detail_text (details.Json fault))
unfolding detail_text
fault-utf8 fault =
    IsUtf8-append (codes "json ") (kind_text fault.kind ++ (codes " " ++ decimal fault.at)) (ascii_utf8 (codes "json ") refl)
    (IsUtf8-append (kind_text fault.kind) (codes " " ++ decimal fault.at) (kind-utf8 fault.kind)
    (IsUtf8-append (codes " ") (decimal fault.at) (ascii_utf8 (codes " ") refl) (decimal-utf8 fault.at)))

fault-small : (fault : JsonFault) → IsAtMost (detail_text (details.Json fault)) 110
unfolding detail_text
fault-small fault = within 110 (both (known (codes "json ")) (both (sized (kind_text fault.kind) 10 (fault_size fault.kind))
    (both (known (codes " ")) (sized (decimal fault.at) 64 (decimal-few fault.at))))) (lit≤ tt)

-- ---- the event

header-texts : (sale poi : List ℕ) → IsIdent 40 sale → IsIdent 40 poi → IsSpellableAt 2 (header_tree (event_header sale poi))
unfolding header_tree
header-texts sale poi s p = header_spellable 2 (event_header sale poi) (record {
  category = ascii_utf8 (codes "Event") refl;
  service = tt;
  device = tt;
  sale = ident_utf8 40 sale s;
  poi = ident_utf8 40 poi p;
}) (omega arith)

body-texts : (moment : ℤ) (detail : Detail) → IsUtf8 (detail_text detail) → IsSpellableAt 2 (event_body moment detail)
unfolding event_body
body-texts moment detail utf8 =
    object_at 2 (text_member (codes "TimeStamp") (stamp_of moment) (text_member (codes "EventToNotify") (codes "Reject") (text_member (codes "EventDetails") (detail_text detail) no_members))) (omega arith) refl (
      ascii_utf8 (codes "TimeStamp") refl,
      printable_utf8 (stamp_of moment) (stamp_of-plain moment).1,
      (
        ascii_utf8 (codes "EventToNotify") refl,
        ascii_utf8 (codes "Reject") refl,
        (ascii_utf8 (codes "EventDetails") refl, utf8, tt),
      ),
    )

event-texts : (sale poi : List ℕ) (moment : ℤ) (detail : Detail) → IsIdent 40 sale → IsIdent 40 poi → IsUtf8 (detail_text detail) → IsSpellable (event_tree sale poi moment detail)
unfolding message_tree
event-texts sale poi moment detail s p utf8 =
    let members : Members = member (codes "MessageHeader") (header_tree (event_header sale poi)) (member (codes "EventNotification") (event_body moment detail) no_members) in
    only_at 0 (codes "SaleToPOIRequest") (object members) (omega arith) (ascii_utf8 (codes "SaleToPOIRequest") refl)
    (object_at 1 members (omega arith) refl (
      ascii_utf8 (codes "MessageHeader") refl,
      header-texts sale poi s p,
      (ascii_utf8 (codes "EventNotification") refl, body-texts moment detail utf8, tt),
    ))

body-small : (moment : ℤ) (detail : Detail) → IsAtMost (detail_text detail) 110 → IsAtMost (canonical (event_body moment detail)) 2000
body-small moment detail few = within 2000 (same_size (event_body_parts moment detail)
    (both (known (123 ∷ [])) (both (first_text_size (known (codes "TimeStamp")) (sized (stamp_of moment) 20 (omega (arith, (stamp_of-plain moment).0))))
    (both (next_text_size (known (codes "EventToNotify")) (known (codes "Reject")))
    (both (next_text_size (known (codes "EventDetails")) few) (known (125 ∷ []))))))) (lit≤ tt)

event-small : (sale poi : List ℕ) (moment : ℤ) (detail : Detail) → IsIdent 40 sale → IsIdent 40 poi → IsAtMost (detail_text detail) 110 → IsAtMost (canonical (event_tree sale poi moment detail)) 5000
event-small sale poi moment detail s p few =
    let prefix : IsAtMost (message_prefix (codes "SaleToPOIRequest") (event_header sale poi) (codes "Notification")) 2900 = within 2900 (same_size (prefix_parts (codes "SaleToPOIRequest") (event_header sale poi) (codes "Notification"))
    (both (known (123 ∷ [])) (both (first_name_size (known (codes "SaleToPOIRequest"))) (both (known (123 ∷ []))
    (both (first_name_size (known (codes "MessageHeader"))) (both (header_size (event_header sale poi) (event_header_within sale poi s p)) (next_name_size (known (codes "EventNotification"))))))))) (lit≤ tt) in
    within 5000 (same_size (message_parts (codes "SaleToPOIRequest") (event_header sale poi) (codes "Notification") (event_body moment detail))
    (both prefix (both (body-small moment detail few) (known (125 ∷ 125 ∷ []))))) (lit≤ tt)

-- the event with a fault of JSON is within its limits, wherever the fault is
pub json-fault-within : (sale poi : List ℕ) (moment : ℤ) (fault : JsonFault) → IsIdent 40 sale → IsIdent 40 poi → IsReplyWithin (Reject sale poi moment (details.Json fault))
json-fault-within sale poi moment fault s p = record {
  spellable = event-texts sale poi moment (details.Json fault) s p (fault-utf8 fault);
  small = omega (arith, (event-small sale poi moment (details.Json fault) s p (fault-small fault)).holds);
}
