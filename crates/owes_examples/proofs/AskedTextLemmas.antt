-- The payment, the reversal and the Abort of the examples are read from texts.
use Rattle.std.proofs.Common.{◌≡◌, ℕ, suc, ◌≤◌, Bool, true, false, List, [], ◌∷◌, length, refl, sym, subst, arith, inl, inr}
use Rattle.std.proofs.lemmas.Bool.{and_parts, ltb-true, leb-true}
use Rattle.std.proofs.lemmas.List.Elements.{All-from_recursion, All-nil}
use Rattle.std.proofs.lemmas.Slice.Eq.{bytes_eq-Decides}
use Rattle.std.proofs.lemmas.Str.{IsUtf8-from_is_utf8}
use Rattle.std.specs.List.{AllByRecursion}
use Rattle.std.specs.Char.{IsAsciiDigit}
use Rattle.std.specs.Prelude.{nat_lt, nat_le, ◌&&◌, ◌||◌, not, bytes_eq, codes, All, None, Some}
use Rattle.std.specs.Str.{is_utf8, chars}
use lib.Utf8.{encode}
use Rattle.gw_base.specs.Amount.{SpellsAmount, minor_units}
use Rattle.gw_base.specs.Ident.{IsIdent, IsPrintable}
use Rattle.json_text.specs.Tree.{Tree, null, boolean, number, string, array, object, Members, no_members, member, names}
use Rattle.json_text.specs.Grammar.{IsNew, AreDistinct}
use Rattle.json_text.specs.Number.{IsNumberText}
use Rattle.json_text.specs.Spellable.{IsSpellableAt, HaveSpellable}
use Rattle.json_text.specs.Canonical.{canonical}
use Rattle.json_text.proofs.CanonicalLemmas.{spellable_written}
use Rattle.sale_values.specs.declared.names.Class.TheVariants.{Service}
use Rattle.sale_values.specs.declared.header.Header.{Header}
use Rattle.sale_values.specs.declared.request.Incoming.TheVariants as incoming
use Rattle.sale_values.specs.declared.request.SaleRequest.{SaleRequest}
use Rattle.sale_values.specs.MemberShapes.{number_member, object_member, only, text_member}
use Rattle.sale_msg.specs.declared.table.Envelope.TheVariants as envelopes
use Rattle.sale_msg.specs.Form.{IsCapital, IsLetter}
use Rattle.sale_msg.specs.Path.{tree_at}
use Rattle.sale_msg.specs.Table.{abort_rows, header_rows, payment_rows, reversal_rows}
use Rattle.sale_msg.specs.Flaw.{AreMet, IsMet}
use Rattle.sale_msg.specs.Grammar.{HeaderHolds, IsPayment, IsReferenceAt, IsRequestOf, IsReversal, IsTillMessage}
use Rattle.gw_owes.specs.ReadAs.{Request}
use Rattle.owes_examples.specs.RecordExample.{fourth_asked}
use Rattle.gw_owes.specs.RecordLaws.{IsReadFromTill}
use Rattle.gw_owes.specs.StepExample.{asked_at, euros, payment_header}
use Rattle.owes_examples.specs.StepExample.{abort_header, abort_of_service, reference_to, reversal_header, reversal_of_text}

-- ---- what holds of each number in a list is tested by computing

abbrev each_passes : (ℕ → Bool) → List ℕ → Bool
each_passes test [] = true
each_passes test (byte ∷ bytes) = test byte && each_passes test bytes

all-passed : (P : ℕ → Type 0) (test : ℕ → Bool) → ((byte : ℕ) → test byte ≡ true → P byte) → (bytes : List ℕ) → each_passes test bytes ≡ true → AllByRecursion P bytes
all-passed P test is [] e = tt
all-passed P test is (byte ∷ bytes) e = let p = and_parts (test byte) (each_passes test bytes) e in (is byte p.0, all-passed P test is bytes p.1)

-- between these
abbrev is_within : ℕ → ℕ → ℕ → Bool
is_within least most byte = nat_le least byte && nat_le byte most

within-tested : (least most byte : ℕ) → is_within least most byte ≡ true → (least ≤ byte) × (byte ≤ most)
within-tested least most byte e = let p = and_parts (nat_le least byte) (nat_le byte most) e in (leb-true least byte p.0, leb-true byte most p.1)

abbrev is_ident : ℕ → List ℕ → Bool
is_ident most bytes = nat_le 1 (length bytes) && (nat_le (length bytes) most && each_passes (is_within 0x20 0x7E) bytes)

-- a text that passes the test is an identifier
pub ident-tested : (most : ℕ) (bytes : List ℕ) → is_ident most bytes ≡ true → IsIdent most bytes
ident-tested most bytes e =
    let p = and_parts (nat_le 1 (length bytes)) (nat_le (length bytes) most && each_passes (is_within 0x20 0x7E) bytes) e in
    let q = and_parts (nat_le (length bytes) most) (each_passes (is_within 0x20 0x7E) bytes) p.1 in
    (leb-true 1 (length bytes) p.0, leb-true (length bytes) most q.0, All-from_recursion IsPrintable bytes (all-passed IsPrintable (is_within 0x20 0x7E) (within-tested 0x20 0x7E) bytes q.1))

abbrev is_letter : ℕ → Bool
is_letter byte = is_within 0x41 0x5A byte || is_within 0x61 0x7A byte

letter-tested : (byte : ℕ) → is_letter byte ≡ true → IsLetter byte
letter-tested byte e = by-test (is_within 0x41 0x5A byte) refl e
  where
    by-test : (test : Bool) → is_within 0x41 0x5A byte ≡ test → (test || is_within 0x61 0x7A byte) ≡ true → IsLetter byte
    by-test true t f = inl (within-tested 0x41 0x5A byte t)
    by-test false t f = inr (within-tested 0x61 0x7A byte f)

letters-tested : (bytes : List ℕ) → each_passes is_letter bytes ≡ true → All IsLetter bytes
letters-tested bytes e = All-from_recursion IsLetter bytes (all-passed IsLetter is_letter letter-tested bytes e)

capitals-tested : (bytes : List ℕ) → each_passes (is_within 0x41 0x5A) bytes ≡ true → All IsCapital bytes
capitals-tested bytes e = All-from_recursion IsCapital bytes (all-passed IsCapital (is_within 0x41 0x5A) (within-tested 0x41 0x5A) bytes e)

-- ---- a tree of objects, texts and the amount is tested by computing

-- the one number of the text
abbrev amount_text : List ℕ
amount_text = codes "1.00"

amount-is-number : IsNumberText amount_text
amount-is-number = inl (record {
  int = codes "1";
  rest = codes ".00";
  parts = refl;
  int_is = inr (omega arith, omega arith, tt);
  rest_is = record { frac = codes ".00"; exp = []; parts = refl; frac_is = (refl, ((omega arith, omega arith), ((omega arith, omega arith), tt))); exp_is = tt };
})

abbrev lacks_name : List ℕ → List (List ℕ) → Bool
lacks_name name [] = true
lacks_name name (other ∷ names) = not (bytes_eq name other) && lacks_name name names

abbrev are_distinct : List (List ℕ) → Bool
are_distinct [] = true
are_distinct (name ∷ names) = lacks_name name names && are_distinct names

abbrev mutual
  is_spellable : ℕ → Tree → Bool
  is_spellable d null = false
  is_spellable d (boolean b) = false
  is_spellable d (number text) = bytes_eq text amount_text
  is_spellable d (string text) = is_utf8 text
  is_spellable d (array xs) = false
  is_spellable d (object members) = nat_lt d 32 && (are_distinct (names members) && have_spellable (suc d) members)

  have_spellable : ℕ → Members → Bool
  have_spellable d no_members = true
  have_spellable d (member name value more) = is_utf8 name && (is_spellable d value && have_spellable d more)

other-name : (name other : List ℕ) → not (bytes_eq name other) ≡ true → name ≡ other → ⊥
other-name name other h e = let same : bytes_eq name other ≡ true = (bytes_eq-Decides name other).1 e in by-test (bytes_eq name other) same h
  where
    by-test : (b : Bool) → b ≡ true → not b ≡ true → ⊥
    by-test true t f = cc
    by-test false t f = cc

lacks-name : (name : List ℕ) (others : List (List ℕ)) → lacks_name name others ≡ true → IsNew name others
lacks-name name [] e = tt
lacks-name name (other ∷ others) e = let p = and_parts (not (bytes_eq name other)) (lacks_name name others) e in (other-name name other p.0, lacks-name name others p.1)

are-distinct : (list : List (List ℕ)) → are_distinct list ≡ true → AreDistinct list
are-distinct [] e = tt
are-distinct (name ∷ list) e = let p = and_parts (lacks_name name list) (are_distinct list) e in (lacks-name name list p.0, are-distinct list p.1)

mutual
  spellable-tree : (d : ℕ) (tree : Tree) → is_spellable d tree ≡ true → IsSpellableAt d tree
  spellable-tree d null e = tt
  spellable-tree d (boolean b) e = tt
  spellable-tree d (number text) e = subst IsNumberText (sym ((bytes_eq-Decides text amount_text).0 e)) amount-is-number
  spellable-tree d (string text) e = IsUtf8-from_is_utf8 text e
  spellable-tree d (array xs) e = absurd cc
  spellable-tree d (object members) e =
      let p = and_parts (nat_lt d 32) _ e in
      let q = and_parts (are_distinct (names members)) (have_spellable (suc d) members) p.1 in
      (ltb-true d 32 p.0, are-distinct (names members) q.0, spellable-members (suc d) members q.1)

  spellable-members : (d : ℕ) (members : Members) → have_spellable d members ≡ true → HaveSpellable d members
  spellable-members d no_members e = tt
  spellable-members d (member name value more) e =
      let p = and_parts (is_utf8 name) _ e in
      let q = and_parts (is_spellable d value) (have_spellable d more) p.1 in
      (IsUtf8-from_is_utf8 name p.0, spellable-tree d value q.0, spellable-members d more q.1)

-- ---- requests of till S at terminal A

abbrev header_members : List ℕ → List ℕ → Members
header_members category service =
    text_member (codes "ProtocolVersion") (codes "3.0")
    (text_member (codes "MessageClass") (codes "Service")
    (text_member (codes "MessageCategory") category
    (text_member (codes "MessageType") (codes "Request")
    (text_member (codes "ServiceID") service
    (text_member (codes "SaleID") (codes "S")
    (text_member (codes "POIID") (codes "A") no_members))))))

-- the body object with this category and ServiceID, and these members beside the header
abbrev headed : List ℕ → List ℕ → Members → Tree
headed category service rest = object (object_member (codes "MessageHeader") (header_members category service) rest)

-- the message
abbrev asked_tree : List ℕ → List ℕ → Members → Tree
asked_tree category service rest = only (codes "SaleToPOIRequest") (headed category service rest)

header-holds : (category service : List ℕ) (rest : Members) → HeaderHolds (headed category service rest) (asked_at category (codes "A") service)
unfolding tree_at
header-holds category service rest = record { class = refl; category = refl; message_type = refl; service = refl; device = refl; sale = refl; poi = refl }

-- 1 to 40 letters
abbrev IsCategory : List ℕ → Type 0
IsCategory text = (1 ≤ length text) × (length text ≤ 40) × All IsLetter text

header-met : (category service : List ℕ) (rest : Members) → IsCategory category → IsIdent 10 service → AreMet (header_rows envelopes.Request) (headed category service rest)
unfolding IsMet tree_at
header-met category service rest letters ident = (
  refl,
  (
    (codes "0", refl),
    (
      (Service, refl),
      (
        letters,
        (inl refl, (ident, (tt, (ident-tested 40 (codes "S") refl, (ident-tested 40 (codes "A") refl, tt))))),
      ),
    ),
  ),
)

request-of : (category service : List ℕ) (rest : Members) → IsCategory category → IsIdent 10 service
    → IsRequestOf (asked_tree category service rest) (headed category service rest) (asked_at category (codes "A") service)
request-of category service rest letters ident = record {
  under = refl;
  header_is = record { members = header-met category service rest letters ident; values = header-holds category service rest };
  message_type = refl;
}

-- a message that can be spelled is read from what spells it
read-of : (tree : Tree) (header : Header) (request : SaleRequest) → is_spellable 0 tree ≡ true → IsTillMessage tree (incoming.Request header request) → IsReadFromTill (Request header request)
read-of tree header request spellable message = (canonical tree, record { tree = tree; spelled = spellable_written tree (spellable-tree 0 tree spellable); read = message })

-- ---- a Payment

abbrev asked_payment : Members
asked_payment =
    object_member (codes "PaymentRequest")
    (object_member (codes "SaleData")
    (object_member (codes "SaleTransactionID") (text_member (codes "TransactionID") (codes "T") (text_member (codes "TimeStamp") (codes "now") no_members)) no_members)
    (object_member (codes "PaymentTransaction") (object_member (codes "AmountsReq") (text_member (codes "Currency") (codes "EUR") (number_member (codes "RequestedAmount") amount_text no_members)) no_members) no_members))
    no_members

payment-spellable : is_spellable 0 (asked_tree (codes "Payment") (codes "4") asked_payment) ≡ true
unfolding is_utf8 chars encode
payment-spellable = refl

zeros : All IsAsciiDigit (codes "00")
zeros = All-from_recursion IsAsciiDigit (codes "00") ((omega arith, omega arith), ((omega arith, omega arith), tt))

one : All IsAsciiDigit (codes "1")
one = All-from_recursion IsAsciiDigit (codes "1") ((omega arith, omega arith), tt)

amount-spelled : SpellsAmount amount_text 100
amount-spelled = record {
  whole = codes "1";
  fraction = codes "00";
  spelling = refl;
  whole_digits = (one, λ none. refl);
  fraction_digits = zeros;
  zeros_past_second = All-nil (λ digit. digit ≡ 0x30);
  value = refl;
  amount = (omega arith, omega arith);
}

payment-met : AreMet payment_rows (headed (codes "Payment") (codes "4") asked_payment)
unfolding IsMet tree_at
payment-met = (
  ident-tested 10 (codes "4") refl,
  (
    refl,
    (refl, (refl, (ident-tested 80 (codes "T") refl, (ident-tested 35 (codes "now") refl, (refl, (refl, ((refl, capitals-tested (codes "EUR") refl), ((100, amount-spelled), (tt, (tt, tt)))))))))),
  ),
)

payment-asks : IsPayment (headed (codes "Payment") (codes "4") asked_payment) (record { transaction = codes "T"; stamp = codes "now"; currency = codes "EUR"; amount = 100; kind = None })
unfolding tree_at minor_units
payment-asks = record { transaction = refl; stamp = refl; currency = refl; amount = refl; payment_type = refl }

payment-message : IsTillMessage (asked_tree (codes "Payment") (codes "4") asked_payment) (incoming.Request (payment_header (codes "4")) (euros 100))
payment-message = (
  headed (codes "Payment") (codes "4") asked_payment,
  record {
    request_of = request-of (codes "Payment") (codes "4") asked_payment (omega arith, omega arith, letters-tested (codes "Payment") refl) (ident-tested 10 (codes "4") refl);
    category = refl;
    members = record { members = payment-met; parts = All-nil (AreMet []) };
    asks = payment-asks;
  },
)

-- the payment is read as it is meant
pub fourth-read : IsReadFromTill fourth_asked
fourth-read = read-of (asked_tree (codes "Payment") (codes "4") asked_payment) (payment_header (codes "4")) (euros 100) payment-spellable payment-message

-- ---- a Reversal

abbrev asked_reversal : Members
asked_reversal =
    object_member (codes "ReversalRequest")
    (object_member (codes "OriginalPOITransaction") (object_member (codes "POITransactionID") (text_member (codes "TransactionID") (codes "000124-0017-2") no_members) no_members)
    (text_member (codes "ReversalReason") (codes "CustCancel") no_members))
    no_members

reversal-spellable : is_spellable 0 (asked_tree (codes "Reversal") (codes "4") asked_reversal) ≡ true
unfolding is_utf8 chars encode
reversal-spellable = refl

reversal-met : AreMet reversal_rows (headed (codes "Reversal") (codes "4") asked_reversal)
unfolding IsMet tree_at
reversal-met = (ident-tested 10 (codes "4") refl, (refl, (refl, (refl, (ident-tested 80 (codes "000124-0017-2") refl, (tt, (tt, tt)))))))

reversal-asks : IsReversal (headed (codes "Reversal") (codes "4") asked_reversal) (record { transaction = codes "000124-0017-2"; amount = None })
unfolding tree_at
reversal-asks = record { transaction = refl; amount = refl }

reversal-message : IsTillMessage (asked_tree (codes "Reversal") (codes "4") asked_reversal) (incoming.Request (reversal_header (codes "4")) (reversal_of_text (codes "000124-0017-2") None))
reversal-message = (
  headed (codes "Reversal") (codes "4") asked_reversal,
  record {
    request_of = request-of (codes "Reversal") (codes "4") asked_reversal (omega arith, omega arith, letters-tested (codes "Reversal") refl) (ident-tested 10 (codes "4") refl);
    category = refl;
    members = record { members = reversal-met; parts = All-nil (AreMet []) };
    asks = reversal-asks;
  },
)

-- the reversal is read as it is meant
pub second-reversed-read : IsReadFromTill (Request (reversal_header (codes "4")) (reversal_of_text (codes "000124-0017-2") None))
second-reversed-read =
    read-of (asked_tree (codes "Reversal") (codes "4") asked_reversal) (reversal_header (codes "4")) (reversal_of_text (codes "000124-0017-2") None) reversal-spellable reversal-message

-- ---- an Abort

abbrev named_message : Members
named_message = text_member (codes "ServiceID") (codes "4") no_members

abbrev asked_abort : Members
asked_abort = object_member (codes "AbortRequest") (object_member (codes "MessageReference") named_message no_members) no_members

abort-spellable : is_spellable 0 (asked_tree (codes "Abort") (codes "9") asked_abort) ≡ true
unfolding is_utf8 chars encode
abort-spellable = refl

abort-met : AreMet abort_rows (headed (codes "Abort") (codes "9") asked_abort)
unfolding IsMet tree_at
abort-met = (ident-tested 10 (codes "9") refl, (refl, (refl, (ident-tested 10 (codes "4") refl, (tt, (tt, (tt, tt)))))))

abort-asks : IsReferenceAt (codes "AbortRequest.MessageReference") (headed (codes "Abort") (codes "9") asked_abort) (Some (reference_to (codes "4")))
unfolding tree_at
abort-asks = (object named_message, refl, record { service = refl; sale = refl; poi = refl })

abort-message : IsTillMessage (asked_tree (codes "Abort") (codes "9") asked_abort) (incoming.Request abort_header (abort_of_service (codes "4")))
abort-message = (
  headed (codes "Abort") (codes "9") asked_abort,
  record {
    request_of = request-of (codes "Abort") (codes "9") asked_abort (omega arith, omega arith, letters-tested (codes "Abort") refl) (ident-tested 10 (codes "9") refl);
    category = refl;
    members = record { members = abort-met; parts = All-nil (AreMet []) };
    asks = abort-asks;
  },
)

-- the Abort is read as it is meant
pub fourth-aborted-read : IsReadFromTill (Request abort_header (abort_of_service (codes "4")))
fourth-aborted-read = read-of (asked_tree (codes "Abort") (codes "9") asked_abort) abort_header (abort_of_service (codes "4")) abort-spellable abort-message
