-- The texts of a reply are UTF-8.
use Rattle.std.proofs.Common.{◌≡◌, ◌≢◌, ℕ, suc, zero, ◌+◌, ◌/◌, ◌%◌, ◌^◌, ◌<◌, List, [], ◌∷◌, ◌++◌, Option, Some, None, Bool, true, false, refl, sym, ap, ◌∙◌, map, All, IfSome, nat_eq, nat_lt, arith, codes, decimal}
use Rattle.std.specs.Prelude.{option_map, if◌then◌else◌}
use Rattle.std.specs.Char.{IsScalar}
use Rattle.std.specs.Str.{IsUtf8, all_scalars}
use Rattle.std.proofs.lemmas.Bool.Decides.{nat_tests}
use Rattle.std.proofs.lemmas.Fmt.{IsAscii-decimal}
use Rattle.std.proofs.lemmas.List.Elements.{All-nil, All-cons, All-append, All-weaker}
use Rattle.std.proofs.lemmas.Str.{IsUtf8-append, IsUtf8-from_ascii}
use Rattle.gw_base.specs.declared.condition.Condition.{Condition}
use Rattle.gw_base.specs.declared.condition.Condition.TheVariants as conditions
use Rattle.gw_base.specs.declared.currency.Currency.{Currency}
use Rattle.gw_base.specs.declared.currency.Currency.TheVariants as currencies
use Rattle.gw_base.specs.Condition.{name_of}
use Rattle.gw_base.specs.Currency.{currency_letters}
use Rattle.gw_base.specs.Digits.{digits}
use Rattle.gw_base.specs.Ident.{IsIdent, IsPrintable}
use Rattle.gw_base.specs.Text437.{char_of, is_printable, letters, scalar_in}
use Rattle.json_text.specs.declared.fault.FaultKind.{FaultKind}
use Rattle.json_text.specs.declared.fault.FaultKind.TheVariants as faults
use Rattle.sale_values.proofs.Utf8Lemmas.{IsBelow, ascii_utf8, below_utf8, ident_utf8}
use Rattle.sale_reply.specs.declared.reply.Detail.{Detail}
use Rattle.sale_reply.specs.declared.reply.Detail.TheVariants.{Json, Header, Body, Abort}
use Rattle.sale_reply.specs.declared.reply.GlobalStatus.{GlobalStatus}
use Rattle.sale_reply.specs.declared.reply.GlobalStatus.TheVariants as statuses
use Rattle.sale_reply.specs.declared.reply.ReplyResult.{ReplyResult}
use Rattle.sale_reply.specs.declared.reply.ReplyResult.TheVariants as results
use Rattle.sale_reply.specs.Limits.{IsDetailWithinLimits}
use Rattle.json_text.specs.FaultText.{kind_text}
use Rattle.sale_reply.specs.Names.{result_name, status_name}
use Rattle.gw_base.specs.Transaction.{transaction_text}
use Rattle.sale_reply.specs.Texts.{detail_text, line_text, intermediate_text}
use Rattle.gw_bytes.specs.Hex.{upper_digit}

-- ---- closed lists

pub result_utf8 : (result : ReplyResult) → IsUtf8 (result_name result)
result_utf8 results.Success = ascii_utf8 (codes "Success") refl
result_utf8 results.Partial = ascii_utf8 (codes "Partial") refl
result_utf8 results.Failure = ascii_utf8 (codes "Failure") refl

pub status_utf8 : (status : GlobalStatus) → IsUtf8 (status_name status)
status_utf8 statuses.Ready = ascii_utf8 (codes "OK") refl
status_utf8 statuses.Busy = ascii_utf8 (codes "Busy") refl
status_utf8 statuses.Maintenance = ascii_utf8 (codes "Maintenance") refl
status_utf8 statuses.Unreachable = ascii_utf8 (codes "Unreachable") refl

fault_utf8 : (fault_kind : FaultKind) → IsUtf8 (kind_text fault_kind)
fault_utf8 faults.NotJson = ascii_utf8 (codes "NotJson") refl
fault_utf8 faults.TooDeep = ascii_utf8 (codes "TooDeep") refl
fault_utf8 faults.Repeated = ascii_utf8 (codes "Repeated") refl
fault_utf8 faults.BadUtf8 = ascii_utf8 (codes "BadUtf8") refl

name_utf8 : (condition : Condition) → IsUtf8 (name_of condition)
name_utf8 conditions.Aborted = ascii_utf8 (codes "Aborted") refl
name_utf8 conditions.Busy = ascii_utf8 (codes "Busy") refl
name_utf8 conditions.Cancel = ascii_utf8 (codes "Cancel") refl
name_utf8 conditions.InProgress = ascii_utf8 (codes "InProgress") refl
name_utf8 conditions.InsertedCard = ascii_utf8 (codes "InsertedCard") refl
name_utf8 conditions.InvalidCard = ascii_utf8 (codes "InvalidCard") refl
name_utf8 conditions.LoggedOut = ascii_utf8 (codes "LoggedOut") refl
name_utf8 conditions.MessageFormat = ascii_utf8 (codes "MessageFormat") refl
name_utf8 conditions.NotAllowed = ascii_utf8 (codes "NotAllowed") refl
name_utf8 conditions.NotFound = ascii_utf8 (codes "NotFound") refl
name_utf8 conditions.Refusal = ascii_utf8 (codes "Refusal") refl
name_utf8 conditions.UnavailableDevice = ascii_utf8 (codes "UnavailableDevice") refl
name_utf8 conditions.UnavailableService = ascii_utf8 (codes "UnavailableService") refl

pub condition_utf8 : (condition : Option Condition) → IfSome (option_map name_of condition) IsUtf8
condition_utf8 None = tt
condition_utf8 (Some condition) = name_utf8 condition

pub code_utf8 : (currency : Currency) → IsUtf8 (currency_letters currency)
code_utf8 currencies.Eur = ascii_utf8 (codes "EUR") refl
code_utf8 currencies.Chf = ascii_utf8 (codes "CHF") refl
code_utf8 currencies.Gbp = ascii_utf8 (codes "GBP") refl
code_utf8 currencies.Usd = ascii_utf8 (codes "USD") refl
code_utf8 currencies.Dkk = ascii_utf8 (codes "DKK") refl
code_utf8 currencies.Sek = ascii_utf8 (codes "SEK") refl
code_utf8 currencies.Nok = ascii_utf8 (codes "NOK") refl
code_utf8 currencies.Pln = ascii_utf8 (codes "PLN") refl
code_utf8 currencies.Czk = ascii_utf8 (codes "CZK") refl

pub optional_ident_utf8 : (most : ℕ) (text : Option (List ℕ)) → IfSome text (λ id. IsIdent most id) → IfSome text IsUtf8
optional_ident_utf8 most None h = tt
optional_ident_utf8 most (Some text) h = ident_utf8 most text h

-- ---- printable texts

printable_below : (c : ℕ) → IsPrintable c → IsBelow c
printable_below c h = let high = h.1 in omega arith

pub printable_utf8 : (text : List ℕ) → All IsPrintable text → IsUtf8 text
printable_utf8 text h = below_utf8 text (All-weaker IsPrintable IsBelow printable_below text h)

digits_below : (count value : ℕ) → All IsBelow (digits count value)
digits_below zero value = All-nil IsBelow
digits_below (suc count) value =
    All-append IsBelow (digits count (value / 10)) ((0x30 + value % 10) ∷ []) (digits_below count (value / 10))
    (All-cons IsBelow (0x30 + value % 10) [] (omega arith) (All-nil IsBelow))

digits_utf8 : (count value : ℕ) → IsUtf8 (digits count value)
digits_utf8 count value = below_utf8 (digits count value) (digits_below count value)

decimal_utf8 : (n : ℕ) → n < 2 ^ 64 → IsUtf8 (decimal n)
decimal_utf8 n h = IsUtf8-from_ascii (decimal n) (IsAscii-decimal n h)

hyphen_utf8 : IsUtf8 (0x2D ∷ [])
hyphen_utf8 = ascii_utf8 (0x2D ∷ []) refl

pub transaction_utf8 : (trace receipt slot : ℕ) → slot < 2 ^ 32 → IsUtf8 (transaction_text trace receipt slot)
unfolding transaction_text
transaction_utf8 trace receipt slot small =
    IsUtf8-append (digits 6 trace) (0x2D ∷ digits 4 receipt ++ 0x2D ∷ decimal slot) (digits_utf8 6 trace)
    (IsUtf8-append (0x2D ∷ digits 4 receipt) (0x2D ∷ decimal slot)
    (IsUtf8-append (0x2D ∷ []) (digits 4 receipt) hyphen_utf8 (digits_utf8 4 receipt))
    (IsUtf8-append (0x2D ∷ []) (decimal slot) hyphen_utf8 (decimal_utf8 slot (omega arith))))

upper_below : (v : ℕ) → v < 16 → IsBelow (upper_digit v)
upper_below v h = by (nat_lt v 10)
  where
    by : (b : Bool) → IsBelow (if b then 0x30 + v else 0x37 + v)
    by true = omega arith
    by false = omega arith

pub status_text_utf8 : (code : ℕ) → code < 2 ^ 8 → IsUtf8 (intermediate_text code)
unfolding intermediate_text
status_text_utf8 code small =
    let last : List ℕ = upper_digit (code / 16) ∷ upper_digit (code % 16) ∷ [] in
    IsUtf8-append (codes "ZVT status ") last (ascii_utf8 (codes "ZVT status ") refl)
    (below_utf8 last (All-cons IsBelow (upper_digit (code / 16)) (upper_digit (code % 16) ∷ []) (upper_below (code / 16) (omega arith))
    (All-cons IsBelow (upper_digit (code % 16)) [] (upper_below (code % 16) (omega arith)) (All-nil IsBelow))))

pub detail_utf8 : (detail : Detail) → IsDetailWithinLimits detail → IsUtf8 (detail_text detail)
unfolding detail_text
detail_utf8 (Json fault) is =
    IsUtf8-append (codes "json ") (kind_text fault.kind ++ (codes " " ++ decimal fault.at)) (ascii_utf8 (codes "json ") refl)
    (IsUtf8-append (kind_text fault.kind) (codes " " ++ decimal fault.at) (fault_utf8 fault.kind)
    (IsUtf8-append (codes " ") (decimal fault.at) (ascii_utf8 (codes " ") refl) (decimal_utf8 fault.at is)))
detail_utf8 (Header path) is = IsUtf8-append (codes "header ") path (ascii_utf8 (codes "header ") refl) (ident_utf8 100 path is)
detail_utf8 (Body path) is = IsUtf8-append (codes "body ") path (ascii_utf8 (codes "body ") refl) (ident_utf8 100 path is)
detail_utf8 Abort is = ascii_utf8 (codes "abort") refl

-- ---- lines

-- the character is a scalar value of Unicode
record HasScalar (c : ℕ) : Type 0 where
  holds : IsScalar c

scalar_either : (b : Bool) {x y : ℕ} → HasScalar x → HasScalar y → HasScalar (if b then x else y)
scalar_either true p q = p
scalar_either false p q = q

letter_scalar : (byte : ℕ) → HasScalar (scalar_in letters byte)
letter_scalar byte =
    scalar_either (nat_eq 0x84 byte) (record { holds = refl }) (scalar_either (nat_eq 0x94 byte) (record { holds = refl })
    (scalar_either (nat_eq 0x81 byte) (record { holds = refl }) (scalar_either (nat_eq 0x8E byte) (record { holds = refl })
    (scalar_either (nat_eq 0x99 byte) (record { holds = refl }) (scalar_either (nat_eq 0x9A byte) (record { holds = refl })
    (scalar_either (nat_eq 0xE1 byte) (record { holds = refl }) (record { holds = refl })))))))

printable_scalar : (c : ℕ) → is_printable c ≡ true → IsScalar c
printable_scalar c is = grind (arith, nat_tests)

char_scalar : (byte : ℕ) → IsScalar (char_of byte)
char_scalar byte = by (is_printable byte) refl
  where
    by : (test : Bool) → is_printable byte ≡ test → IsScalar (if test then byte else scalar_in letters byte)
    by true is = printable_scalar byte is
    by false is = (letter_scalar byte).holds

chars_scalars : (line : List ℕ) → all_scalars (map char_of line) ≡ true
chars_scalars [] = refl
chars_scalars (byte ∷ line) = rw (char_scalar byte) (chars_scalars line)

pub line_utf8 : (line : List ℕ) → IsUtf8 (line_text line)
unfolding line_text
line_utf8 line = (map char_of line, (chars_scalars line, refl))

-- ---- names of bodies

-- the last byte of a text, where it has one
abbrev last_or : ℕ → List ℕ → ℕ
last_or c [] = c
last_or c (d ∷ text) = last_or d text

last_after : (c : ℕ) (prefix : List ℕ) (d : ℕ) (text : List ℕ) → last_or c (prefix ++ d ∷ text) ≡ last_or d text
last_after c [] d text = refl
last_after c (x ∷ prefix) d text = last_after x prefix d text

-- a text that ends otherwise is no name of a header
other_end : (prefix : List ℕ) (d : ℕ) (text : List ℕ) → last_or d text ≢ 0x72 → codes "MessageHeader" ≢ prefix ++ d ∷ text
other_end prefix d text other e = other (sym (last_after 0 prefix d text) ∙ ap (last_or 0) (sym e))

pub response_new : (category : List ℕ) → codes "MessageHeader" ≢ category ++ codes "Response"
response_new category = other_end category 0x52 (codes "esponse") (λ e. omega arith)

pub request_new : (category : List ℕ) → codes "MessageHeader" ≢ category ++ codes "Request"
request_new category = other_end category 0x52 (codes "equest") (λ e. omega arith)

pub notification_new : (category : List ℕ) → codes "MessageHeader" ≢ category ++ codes "Notification"
notification_new category = other_end category 0x4E (codes "otification") (λ e. omega arith)
