-- The clauses of `next`, by the function that decodes the bytes.
use Rattle.std.proofs.Common.{◌≡◌, ℕ, List, Option, Some, None, Result, Ok, Err, refl, sym, subst}
use Rattle.std.specs.Prelude.{◌↔◌, IsNone, IsOkAnd, IsErrOf}
use Rattle.zvt_apdu.specs.declared.apdu.Apdu.{Apdu}
use Rattle.zvt_apdu.specs.declared.fault.ApduFault.{ApduFault}
use Rattle.zvt_apdu.specs.declared.fault.ApduFault.TheVariants.{TooLong}
use Rattle.gw_bytes.specs.Bytes.{AreBytes}
use Rattle.zvt_apdu.specs.Grammar.{ApduValue, BeginsWithApdu, IsProperApduPrefix, BeginsTooLongApdu}
use Rattle.zvt_apdu.specs.Decode.{DecodedApdu, decode_apdu}
use Rattle.zvt_apdu.specs.inner.FirstApdu.{ReturnsFirstApdu}
use Rattle.zvt_apdu.specs.Results.{IsApdu, ReturnsApdu, LeavesBytes}
use Rattle.zvt_apdu.proofs.DecodeLemmas.{begins_whole, whole_begins, too_long_prefix, prefix_too_long, proper_prefix, prefix_incomplete}

pub whole_clause : (bytes : List ℕ) (result : Result (Option Apdu) ApduFault) → AreBytes bytes → ReturnsApdu result (decode_apdu bytes) → (apdu : ApduValue) → IsApdu result apdu ↔ ((rest : List ℕ) × BeginsWithApdu bytes apdu rest)
whole_clause bytes (Ok None) bounds is apdu = ((λ h. absurd h), λ (rest, begins). let whole = begins_whole bytes apdu rest begins in absurd (cc (whole, is)))
whole_clause bytes (Ok (Some found)) bounds (left, is) apdu = (
  (λ e. (left, whole_begins bytes apdu left bounds (subst (λ (a : ApduValue). decode_apdu bytes ≡ DecodedApdu.Whole a left) e is))),
  λ (rest, begins). let whole = begins_whole bytes apdu rest begins in cc (whole, is),
)
whole_clause bytes (Err (TooLong n)) bounds is apdu = ((λ h. absurd h), λ (rest, begins). let whole = begins_whole bytes apdu rest begins in absurd (cc (whole, is)))

pub none_clause : (bytes : List ℕ) (result : Result (Option Apdu) ApduFault) → AreBytes bytes → ReturnsApdu result (decode_apdu bytes) → IsOkAnd result IsNone ↔ IsProperApduPrefix bytes
none_clause bytes (Ok None) bounds is = ((λ _. prefix_incomplete bytes bounds is), λ _. refl)
none_clause bytes (Ok (Some found)) bounds (left, is) = ((λ h. absurd cc), λ proper. let incomplete = proper_prefix bytes bounds proper in absurd (cc (incomplete, is)))
none_clause bytes (Err (TooLong n)) bounds is = ((λ h. absurd h), λ proper. let incomplete = proper_prefix bytes bounds proper in absurd (cc (incomplete, is)))

pub too_long_clause : (bytes : List ℕ) (result : Result (Option Apdu) ApduFault) → AreBytes bytes → ReturnsApdu result (decode_apdu bytes) → (n : ℕ) → IsErrOf result (TooLong n) ↔ BeginsTooLongApdu bytes n
too_long_clause bytes (Ok None) bounds is n = ((λ h. absurd cc), λ long. let fault = too_long_prefix bytes n long in absurd (cc (fault, is)))
too_long_clause bytes (Ok (Some found)) bounds (left, is) n = ((λ h. absurd cc), λ long. let fault = too_long_prefix bytes n long in absurd (cc (fault, is)))
too_long_clause bytes (Err (TooLong m)) bounds is n = (
  (λ h. prefix_too_long bytes n bounds (cc (h, is))),
  λ long. let fault = too_long_prefix bytes n long in cc (fault, is),
)

pub fault_leaves : (bytes : List ℕ) (result : Result (Option Apdu) ApduFault) (fault : ApduFault) → AreBytes bytes → result ≡ Err fault → ReturnsApdu result (decode_apdu bytes) → LeavesBytes bytes result bytes
fault_leaves bytes (Ok None) fault bounds e is = absurd cc
fault_leaves bytes (Ok (Some found)) fault bounds e is = absurd cc
fault_leaves bytes (Err (TooLong n)) fault bounds e is = (prefix_too_long bytes n bounds is, refl)

pub fault_results : (fault : ApduFault) (decoded : DecodedApdu) (result : Result (Option Apdu) ApduFault) → result ≡ Err fault → ReturnsFirstApdu (Err fault) decoded → ReturnsApdu result decoded
fault_results (TooLong n) decoded result e is = subst (λ (a : Result (Option Apdu) ApduFault). ReturnsApdu a decoded) (sym e) is

-- all the plain clauses
abbrev pub Clauses : List ℕ → Result (Option Apdu) ApduFault → Type 0
Clauses bytes result = record {
  whole : (apdu : ApduValue) → IsApdu result apdu ↔ ((rest : List ℕ) × BeginsWithApdu bytes apdu rest);
  none : IsOkAnd result IsNone ↔ IsProperApduPrefix bytes;
  too_long : (n : ℕ) → IsErrOf result (TooLong n) ↔ BeginsTooLongApdu bytes n;
  computes : ReturnsApdu result (decode_apdu bytes);
  ends : Unit {0};
}

pub clauses : (bytes : List ℕ) (result : Result (Option Apdu) ApduFault) → AreBytes bytes → ReturnsApdu result (decode_apdu bytes) → Clauses bytes result
clauses bytes result bounds is = record {
  whole = whole_clause bytes result bounds is;
  none = none_clause bytes result bounds is;
  too_long = too_long_clause bytes result bounds is;
  computes = is;
  ends = tt;
}
