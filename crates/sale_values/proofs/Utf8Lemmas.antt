-- Texts of ASCII, which are UTF-8.
use Rattle.std.proofs.Common.{◌≡◌, ℕ, ◌<◌, List, [], ◌∷◌, Bool, true, false, refl, arith, ◌&&◌, All, nat_lt, codes}
use Rattle.std.specs.List.{list_all}
use Rattle.std.specs.Str.{IsUtf8}
use Rattle.std.proofs.lemmas.Bool.Decides.{nat_tests}
use Rattle.std.proofs.lemmas.List.Elements.{All-nil, All-cons, All-weaker}
use Rattle.std.proofs.lemmas.Str.{IsUtf8-from_ascii}
use Rattle.std.proofs.lemmas.Str.Ascii.{IsAscii-from_all}
use Rattle.gw_base.specs.Ident.{IsIdent, IsPrintable}
use Rattle.sale_values.specs.Names.{class_name, kind_name, period_name}
use Rattle.sale_values.specs.declared.names.Class.{Class as ClassType}
use Rattle.sale_values.specs.declared.names.Class.TheVariants as classes
use Rattle.sale_values.specs.declared.names.Kind.{Kind as KindType}
use Rattle.sale_values.specs.declared.names.Kind.TheVariants as kinds
use Rattle.sale_values.specs.declared.names.Period.{Period as PeriodType}
use Rattle.sale_values.specs.declared.names.Period.TheVariants as periods

-- a byte of ASCII
abbrev pub IsBelow : ℕ → Type 0
IsBelow c = c < 128

-- whether each byte is of ASCII
abbrev pub is_ascii : List ℕ → Bool
is_ascii text = list_all (λ c. nat_lt c 128) text

both : (a b : Bool) → (a && b) ≡ true → (a ≡ true) × (b ≡ true)
both true b h = (refl, h)
both false b h = absurd cc

byte_below : (c : ℕ) → nat_lt c 128 ≡ true → IsBelow c
byte_below c h = grind (arith, nat_tests)

all_below : (text : List ℕ) → is_ascii text ≡ true → All IsBelow text
all_below [] h = All-nil IsBelow
all_below (c ∷ text) h =
    let p = both (nat_lt c 128) (is_ascii text) h in All-cons IsBelow c text (byte_below c p.0) (all_below text p.1)

pub below_utf8 : (text : List ℕ) → All IsBelow text → IsUtf8 text
below_utf8 text h = IsUtf8-from_ascii text (IsAscii-from_all text h)

-- a text that is known is UTF-8, by computing
pub ascii_utf8 : (text : List ℕ) → is_ascii text ≡ true → IsUtf8 text
ascii_utf8 text h = below_utf8 text (all_below text h)

printable_below : (c : ℕ) → IsPrintable c → IsBelow c
printable_below c h = let high = h.1 in omega arith

pub ident_utf8 : (most : ℕ) (text : List ℕ) → IsIdent most text → IsUtf8 text
ident_utf8 most text h = below_utf8 text (All-weaker IsPrintable IsBelow printable_below text h.2)

pub class_utf8 : (class : ClassType) → IsUtf8 (class_name class)
class_utf8 classes.Service = ascii_utf8 (codes "Service") refl
class_utf8 classes.Device = ascii_utf8 (codes "Device") refl
class_utf8 classes.Event = ascii_utf8 (codes "Event") refl

pub kind_utf8 : (message_type : KindType) → IsUtf8 (kind_name message_type)
kind_utf8 kinds.Request = ascii_utf8 (codes "Request") refl
kind_utf8 kinds.Response = ascii_utf8 (codes "Response") refl
kind_utf8 kinds.Notification = ascii_utf8 (codes "Notification") refl

pub period_utf8 : (period : PeriodType) → IsUtf8 (period_name period)
period_utf8 periods.SaleReconciliation = ascii_utf8 (codes "SaleReconciliation") refl
period_utf8 periods.AcquirerSynchronisation = ascii_utf8 (codes "AcquirerSynchronisation") refl
period_utf8 periods.AcquirerReconciliation = ascii_utf8 (codes "AcquirerReconciliation") refl
period_utf8 periods.PreviousReconciliation = ascii_utf8 (codes "PreviousReconciliation") refl
