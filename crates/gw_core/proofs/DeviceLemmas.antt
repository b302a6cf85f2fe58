-- Device requests: their numbers as texts, and the key of what is served.
use Rattle.std.proofs.Common.{◌≤◌, ◌<◌, ◌^◌, ℕ, List, [], ◌∷◌, decimal, arith}
use Rattle.std.specs.Prelude.{All}
use Rattle.std.specs.Str.Parse.{AllDigits}
use Rattle.std.proofs.lemmas.Fmt.{length-decimal-le, decimal_nonempty, decimal_is_IsNumeral}
use Rattle.std.proofs.lemmas.Str.Parse.{digit_from_value}
use Rattle.std.proofs.lemmas.List.Elements.{All-nil, All-cons}
use Rattle.gw_base.specs.Ident.{IsIdent, IsPrintable}
use Rattle.gw_owes.specs.DeviceRequests.{greatest_device_number}

-- digits are printable
digits-printable : (digits : List ℕ) → AllDigits 10 digits → All IsPrintable digits
digits-printable [] each = All-nil IsPrintable
digits-printable (digit ∷ digits) each =
    let range = digit_from_value digit each.0 in
    All-cons IsPrintable digit digits (omega (arith, range), omega (arith, range)) (digits-printable digits each.1)

-- the number of a device request has at most ten digits
pub number-ident : (number : ℕ) → number ≤ greatest_device_number → IsIdent 10 (decimal number)
number-ident number within =
    let small : number < 2 ^ 64 = omega (arith, within) in
    let some = decimal_nonempty number small in
    (omega (arith, some), length-decimal-le 10 number (omega arith) (omega (arith, within)) small, digits-printable (decimal number) (decimal_is_IsNumeral number small).0.1)
