-- The texts of the examples, and what they are read as.
use Rattle.std.proofs.Common.{◌≡◌, ℕ, suc, ◌<◌, Bool, true, false, List, [], ◌∷◌, length, refl, sym, ap, subst, arith, inl, inr}
use Rattle.std.proofs.lemmas.Bool.{and_parts, ltb-true, leb-true}
use Rattle.std.proofs.lemmas.List.Elements.{All-from_recursion}
use Rattle.std.proofs.lemmas.Slice.Eq.{bytes_eq-Decides}
use Rattle.std.proofs.lemmas.Str.{IsUtf8-from_is_utf8}
use Rattle.std.specs.List.{AllByRecursion}
use Rattle.std.specs.Prelude.{nat_lt, nat_le, ◌&&◌, ◌||◌, not, bytes_eq, codes, All, Some, None}
use Rattle.std.specs.Fmt.{digits}
use Rattle.std.specs.Str.{is_utf8, chars}
use lib.Utf8.{encode}
use Rattle.gw_base.specs.Ident.{IsIdent, IsPrintable}
use Rattle.gw_base.specs.Setup.{IsPt, IsSetup}
use Rattle.gw_bytes.specs.Bytes.{AreBytes}
use Rattle.json_text.specs.Tree.{Tree, null, boolean, number, string, array, object, Members, no_members, member, names}
use Rattle.json_text.specs.Grammar.{Spells, IsNew, AreDistinct}
use Rattle.json_text.specs.Number.{IsNumberText}
use Rattle.json_text.specs.Spellable.{IsSpellableAt, HaveSpellable}
use Rattle.json_text.specs.Canonical.{canonical}
use Rattle.json_text.proofs.CanonicalLemmas.{spellable_written}
use Rattle.sale_frame.specs.Grammar.{frame}
use Rattle.sale_values.specs.declared.header.Header.{Header}
use Rattle.sale_values.specs.declared.names.Class.TheVariants.{Service}
use Rattle.sale_values.specs.declared.request.Incoming.TheVariants as incoming
use Rattle.sale_values.specs.declared.request.Reference.{Reference}
use Rattle.sale_values.specs.declared.request.SaleRequest.TheVariants as requests
use Rattle.sale_values.specs.MemberShapes.{text_member, only}
use Rattle.sale_values.specs.Money.{money_text}
use Rattle.sale_values.proofs.MoneyLemmas.{money_number}
use Rattle.sale_msg.specs.declared.category.Category.TheVariants as categories
use Rattle.sale_msg.specs.Form.{IsLetter}
use Rattle.sale_msg.specs.Path.{tree_at}
use Rattle.sale_msg.specs.Table.{rows_of, part_rows}
use Rattle.sale_msg.specs.Flaw.{IsMet, AreMet}
use Rattle.sale_msg.specs.Grammar.{IsTillMessage, HeaderHolds, Asks, parts_of}
use Rattle.sale_reply.specs.Reply.{message_tree, header_tree, result_tree}
use Rattle.gw_owes.specs.ReadAs.{IsReadAs, Request}
use Rattle.gw_owes.specs.Reply.{reply_value_tree, reply_value_bytes}
use Rattle.gw_rules.specs.Example.{example_setup, status_request, status_reply_bytes, status_header, status_asked, not_found}
use Rattle.gw_rules.proofs.StageLemmas.{no-true}

-- ---- what holds of each number in a list is tested by computing

abbrev pub each_passes : (ℕ → Bool) → List ℕ → Bool
each_passes test [] = true
each_passes test (byte ∷ bytes) = test byte && each_passes test bytes

pub all-passed : (P : ℕ → Type 0) (test : ℕ → Bool) → ((byte : ℕ) → test byte ≡ true → P byte) → (bytes : List ℕ) → each_passes test bytes ≡ true → AllByRecursion P bytes
all-passed P test is [] e = tt
all-passed P test is (byte ∷ bytes) e = let p = and_parts (test byte) (each_passes test bytes) e in (is byte p.0, all-passed P test is bytes p.1)

abbrev pub is_byte : ℕ → Bool
is_byte byte = nat_lt byte 256

-- numbers that pass the test are bytes
pub bytes-tested : (bytes : List ℕ) → each_passes is_byte bytes ≡ true → AreBytes bytes
bytes-tested bytes e = all-passed (λ byte. byte < 256) is_byte (λ byte t. ltb-true byte 256 t) bytes e

abbrev pub is_printable : ℕ → Bool
is_printable byte = nat_le 0x20 byte && nat_le byte 0x7E

printable-tested : (byte : ℕ) → is_printable byte ≡ true → IsPrintable byte
printable-tested byte e = let p = and_parts (nat_le 0x20 byte) (nat_le byte 0x7E) e in (leb-true 0x20 byte p.0, leb-true byte 0x7E p.1)

abbrev pub is_ident : ℕ → List ℕ → Bool
is_ident most bytes = nat_le 1 (length bytes) && (nat_le (length bytes) most && each_passes is_printable bytes)

pub ident-tested : (most : ℕ) (bytes : List ℕ) → is_ident most bytes ≡ true → IsIdent most bytes
ident-tested most bytes e =
    let p = and_parts (nat_le 1 (length bytes)) (nat_le (length bytes) most && each_passes is_printable bytes) e in
    let q = and_parts (nat_le (length bytes) most) (each_passes is_printable bytes) p.1 in
    (leb-true 1 (length bytes) p.0, leb-true (length bytes) most q.0, All-from_recursion IsPrintable bytes (all-passed IsPrintable is_printable printable-tested bytes q.1))

abbrev is_letter : ℕ → Bool
is_letter byte = (nat_le 0x41 byte && nat_le byte 0x5A) || (nat_le 0x61 byte && nat_le byte 0x7A)

letter-tested : (byte : ℕ) → is_letter byte ≡ true → IsLetter byte
letter-tested byte e = by_test (nat_le 0x41 byte && nat_le byte 0x5A) refl e
  where
    by_test : (test : Bool) → (nat_le 0x41 byte && nat_le byte 0x5A) ≡ test → (test || (nat_le 0x61 byte && nat_le byte 0x7A)) ≡ true → IsLetter byte
    by_test true t f = let p = and_parts (nat_le 0x41 byte) (nat_le byte 0x5A) t in inl (leb-true 0x41 byte p.0, leb-true byte 0x5A p.1)
    by_test false t f = let p = and_parts (nat_le 0x61 byte) (nat_le byte 0x7A) f in inr (leb-true 0x61 byte p.0, leb-true byte 0x7A p.1)

pub letters-tested : (bytes : List ℕ) → each_passes is_letter bytes ≡ true → All IsLetter bytes
letters-tested bytes e = All-from_recursion IsLetter bytes (all-passed IsLetter is_letter letter-tested bytes e)

-- ---- a tree of objects, texts and the amount of the examples is tested by computing

-- the amount 10.99
abbrev pub example_amount : List ℕ
example_amount = codes "10.99"

pub amount-number : IsNumberText example_amount
unfolding money_text digits
amount-number = money_number 1099 (omega arith)

abbrev lacks_name : List ℕ → List (List ℕ) → Bool
lacks_name name [] = true
lacks_name name (other ∷ names) = not (bytes_eq name other) && lacks_name name names

abbrev are_distinct : List (List ℕ) → Bool
are_distinct [] = true
are_distinct (name ∷ names) = lacks_name name names && are_distinct names

abbrev mutual
  pub is_spellable : ℕ → Tree → Bool
  is_spellable d null = false
  is_spellable d (boolean b) = false
  is_spellable d (number text) = bytes_eq text example_amount
  is_spellable d (string text) = is_utf8 text
  is_spellable d (array xs) = false
  is_spellable d (object members) = nat_lt d 32 && (are_distinct (names members) && have_spellable (suc d) members)

  have_spellable : ℕ → Members → Bool
  have_spellable d no_members = true
  have_spellable d (member name value more) = is_utf8 name && (is_spellable d value && have_spellable d more)

other-name : (name other : List ℕ) → not (bytes_eq name other) ≡ true → name ≡ other → ⊥
other-name name other h e = no-true (subst (λ b. not b ≡ true) ((bytes_eq-Decides name other).1 e) h)

lacks-name : (name : List ℕ) (others : List (List ℕ)) → lacks_name name others ≡ true → IsNew name others
lacks-name name [] e = tt
lacks-name name (other ∷ others) e = let p = and_parts (not (bytes_eq name other)) (lacks_name name others) e in (other-name name other p.0, lacks-name name others p.1)

are-distinct : (list : List (List ℕ)) → are_distinct list ≡ true → AreDistinct list
are-distinct [] e = tt
are-distinct (name ∷ list) e = let p = and_parts (lacks_name name list) (are_distinct list) e in (lacks-name name list p.0, are-distinct list p.1)

mutual
  pub spellable-tree : (d : ℕ) (tree : Tree) → is_spellable d tree ≡ true → IsSpellableAt d tree
  spellable-tree d null e = tt
  spellable-tree d (boolean b) e = tt
  spellable-tree d (number text) e = subst IsNumberText (sym ((bytes_eq-Decides text example_amount).0 e)) amount-number
  spellable-tree d (string text) e = IsUtf8-from_is_utf8 text e
  spellable-tree d (array xs) e = no-true e
  spellable-tree d (object members) e =
      let p = and_parts (nat_lt d 32) _ e in
      let q = and_parts (are_distinct (names members)) (have_spellable (suc d) members) p.1 in
      (ltb-true d 32 p.0, are-distinct (names members) q.0, spellable-members (suc d) members q.1)

  spellable-members : (d : ℕ) (members : Members) → have_spellable d members ≡ true → HaveSpellable d members
  spellable-members d no_members e = tt
  spellable-members d (member name value more) e =
      let p = and_parts (is_utf8 name) _ e in
      let q = and_parts (is_spellable d value) (have_spellable d more) p.1 in
      (IsUtf8-from_is_utf8 name p.0, spellable-tree d value q.0, spellable-members d more q.1)

-- ---- requests for a status, by their ServiceID and the one that they name

abbrev asked_header : List ℕ → Tree
asked_header service = object
    (text_member (codes "ProtocolVersion") (codes "3.0")
    (text_member (codes "MessageClass") (codes "Service")
    (text_member (codes "MessageCategory") (codes "TransactionStatus")
    (text_member (codes "MessageType") (codes "Request")
    (text_member (codes "ServiceID") service
    (text_member (codes "SaleID") (codes "S1")
    (text_member (codes "POIID") (codes "T1") no_members)))))))

abbrev asked_reference : List ℕ → Tree
asked_reference named = object (text_member (codes "ServiceID") named no_members)

abbrev asked_body : List ℕ → List ℕ → Tree
asked_body service named = object
    (member (codes "MessageHeader") (asked_header service)
    (member (codes "TransactionStatusRequest") (only (codes "MessageReference") (asked_reference named)) no_members))

abbrev pub asked_tree : List ℕ → List ℕ → Tree
asked_tree service named = only (codes "SaleToPOIRequest") (asked_body service named)

-- the header of such a request
abbrev asking_header : List ℕ → Header
asking_header service = record status_header { service = Some service }

abbrev asked_for : List ℕ → Reference
asked_for named = record { service = named; sale = None; poi = None }

header-holds : (service named : List ℕ) → HeaderHolds (asked_body service named) (asking_header service)
unfolding tree_at
header-holds service named = record { class = refl; category = refl; message_type = refl; service = refl; device = refl; sale = refl; poi = refl }

body-met : (service named : List ℕ) → IsIdent 10 service → AreMet (rows_of categories.TransactionStatus) (asked_body service named)
unfolding IsMet tree_at
body-met service named service_is = (service_is, (refl, (refl, tt)))

part-met : (service named : List ℕ) → IsIdent 10 named → All (AreMet (part_rows categories.TransactionStatus)) (parts_of categories.TransactionStatus (asked_body service named))
unfolding IsMet tree_at
part-met service named named_is = All-from_recursion (AreMet (part_rows categories.TransactionStatus)) (asked_reference named ∷ []) ((named_is, (tt, (tt, tt))), tt)

asks-for : (service named : List ℕ) → Asks (asked_body service named) (requests.Status (Some (asked_for named)))
unfolding tree_at
asks-for service named = (asked_reference named, refl, record { service = refl; sale = refl; poi = refl })

request-message : (service named : List ℕ) → IsIdent 10 service → IsIdent 10 named → IsTillMessage (asked_tree service named) (incoming.Request (asking_header service) (requests.Status (Some (asked_for named))))
unfolding IsMet tree_at
request-message service named service_is named_is = (
  asked_body service named,
  record {
    request_of = record {
      under = refl;
      header_is = record {
        members = (
          refl,
          (
            (codes "0", refl),
            (
              (Service, refl),
              ((omega arith, omega arith, letters-tested (codes "TransactionStatus") refl), (inl refl, (service_is, (tt, (ident-tested 40 (codes "S1") refl, (ident-tested 40 (codes "T1") refl, tt)))))),
            ),
          ),
        );
        values = header-holds service named;
      };
      message_type = refl;
    };
    category = refl;
    members = record { members = body-met service named service_is; parts = part-met service named named_is };
    asks = asks-for service named;
  },
)

-- the bytes of its tree are read so
pub status-read : (service named bytes : List ℕ) → bytes ≡ canonical (asked_tree service named) → is_spellable 0 (asked_tree service named) ≡ true → IsIdent 10 service → IsIdent 10 named
    → IsReadAs bytes (Request (asking_header service) (requests.Status (Some (asked_for named))))
status-read service named bytes is spellable service_is named_is = record {
  tree = asked_tree service named;
  spelled = subst (Spells (asked_tree service named)) (sym is) (spellable_written (asked_tree service named) (spellable-tree 0 (asked_tree service named) spellable));
  read = request-message service named service_is named_is;
}

-- ---- the request and its reply

request-canonical : status_request ≡ canonical (asked_tree (codes "1") (codes "9"))
unfolding status_request
request-canonical = refl

request-spellable : is_spellable 0 (asked_tree (codes "1") (codes "9")) ≡ true
unfolding is_utf8 chars encode
request-spellable = refl

-- the request is read as it is meant
pub request-read : IsReadAs status_request status_asked
request-read = status-read (codes "1") (codes "9") status_request request-canonical request-spellable (ident-tested 10 (codes "1") refl) (ident-tested 10 (codes "9") refl)

reply-canonical : status_reply_bytes ≡ canonical (reply_value_tree not_found)
unfolding status_reply_bytes message_tree header_tree result_tree
reply-canonical = refl

-- the reply has its bytes
pub reply-bytes : frame status_reply_bytes ≡ reply_value_bytes not_found
reply-bytes = ap frame reply-canonical

-- ---- the setup

-- the setup lies within the limits
pub setup-formed : IsSetup example_setup
setup-formed = record {
  name = ident-tested 40 (codes "GATEWAY") refl;
  line = omega arith;
  wait = (omega arith, omega arith);
  slots = (omega arith, omega arith);
  count = omega arith;
  each = All-from_recursion IsPt [] tt;
  distinct = tt;
}
