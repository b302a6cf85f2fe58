-- The function that computes the APDUs of bytes is the grammar.
use Rattle.std.proofs.Common.{◌≡◌, ℕ, zero, suc, ◌<◌, ◌≤◌, Bool, true, false, cond, eqb, ltb, List, [], ◌∷◌, length, take, drop, refl, sym, ap, subst, ◌∙◌, arith, inl, inr}
use Rattle.std.proofs.lemmas.List.{length-drop}
use Rattle.gw_bytes.specs.Bytes.{AreBytes}
use Rattle.zvt_apdu.specs.Grammar.{ApduValue, BeginsWithApdu}
use Rattle.zvt_apdu.specs.Decode.{DecodedApdu, decode_apdu_data, decode_long_apdu, decode_apdu}
use Rattle.zvt_apdu.specs.Stream.{SpellsApdus}
use Rattle.zvt_apdu.specs.DecodeStream.{with_first_apdu, decode_apdus_from, decode_apdus_within, decode_apdus}
use Rattle.gw_bytes.proofs.ByteLemmas.{bytes_rest}
use Rattle.zvt_apdu.proofs.DecodeLemmas.{whole_choice, begins_whole, whole_begins, prefix_incomplete, prefix_too_long}

-- ---- an APDU takes at least its header

data_shrinks : (class instr n : ℕ) (bytes : List ℕ) (apdu : ApduValue) (rest : List ℕ) → decode_apdu_data class instr n bytes ≡ DecodedApdu.Whole apdu rest → length rest ≤ length bytes
data_shrinks class instr n bytes apdu rest e =
    let choice = whole_choice (ltb 12000 n) (ltb (length bytes) n) n (record { class = class; instr = instr; body = take n bytes }) apdu (drop n bytes) rest e in
    omega (arith, ap length choice.3, length-drop n bytes)

long_shrinks : (class instr : ℕ) (bytes : List ℕ) (apdu : ApduValue) (rest : List ℕ) → decode_long_apdu class instr bytes ≡ DecodedApdu.Whole apdu rest → length rest ≤ length bytes
long_shrinks class instr [] apdu rest e = absurd cc
long_shrinks class instr (low ∷ []) apdu rest e = absurd cc
long_shrinks class instr (low ∷ high ∷ bytes) apdu rest e = omega (arith, data_shrinks class instr _ bytes apdu rest e)

header_shrinks : (is_long : Bool) (class instr n : ℕ) (bytes : List ℕ) (apdu : ApduValue) (rest : List ℕ) → cond is_long (decode_long_apdu class instr bytes) (decode_apdu_data class instr n bytes) ≡ DecodedApdu.Whole apdu rest → length rest ≤ length bytes
header_shrinks true class instr n bytes apdu rest e = long_shrinks class instr bytes apdu rest e
header_shrinks false class instr n bytes apdu rest e = data_shrinks class instr n bytes apdu rest e

prefix_shrinks : (bytes : List ℕ) (apdu : ApduValue) (rest : List ℕ) → decode_apdu bytes ≡ DecodedApdu.Whole apdu rest → length rest < length bytes
prefix_shrinks [] apdu rest e = absurd cc
prefix_shrinks (class ∷ []) apdu rest e = absurd cc
prefix_shrinks (class ∷ instr ∷ []) apdu rest e = absurd cc
prefix_shrinks (class ∷ instr ∷ n ∷ bytes) apdu rest e = omega (arith, header_shrinks (eqb n 255) class instr n bytes apdu rest e)

pub begins_shrinks : (bytes : List ℕ) (apdu : ApduValue) (rest : List ℕ) → BeginsWithApdu bytes apdu rest → length rest < length bytes
begins_shrinks bytes apdu rest begins = prefix_shrinks bytes apdu rest (begins_whole bytes apdu rest begins)

-- ---- enough is enough

within_from : (n m : ℕ) (bytes : List ℕ) (prefix : DecodedApdu) → ((rest : List ℕ) → length rest < length bytes → decode_apdus_within n rest ≡ decode_apdus_within m rest) → decode_apdu bytes ≡ prefix → decode_apdus_from (decode_apdus_within n) bytes prefix ≡ decode_apdus_from (decode_apdus_within m) bytes prefix
within_from n m bytes (DecodedApdu.Whole apdu rest) same e = ap (with_first_apdu apdu) (same rest (prefix_shrinks bytes apdu rest e))
within_from n m bytes DecodedApdu.Incomplete same e = refl
within_from n m bytes (DecodedApdu.TooLong k) same e = refl

empty_within : (n : ℕ) → decode_apdus_within n [] ≡ record { apdus = []; rest = [] }
unfolding decode_apdus_within
empty_within zero = refl
empty_within (suc n) = refl

within_enough : (n m : ℕ) (bytes : List ℕ) → length bytes ≤ n → length bytes ≤ m → decode_apdus_within n bytes ≡ decode_apdus_within m bytes
unfolding decode_apdus_within
within_enough zero m [] few less = sym (empty_within m)
within_enough zero m (b ∷ bytes) few less = absurd (omega arith)
within_enough (suc n) zero [] few less = refl
within_enough (suc n) zero (b ∷ bytes) few less = absurd (omega arith)
within_enough (suc n) (suc m) bytes few less =
    within_from n m bytes (decode_apdu bytes) (λ rest shorter. within_enough n m rest (omega arith) (omega arith)) refl

from_is : (n : ℕ) (bytes : List ℕ) → length bytes ≤ suc n → decode_apdus bytes ≡ decode_apdus_from (decode_apdus_within n) bytes (decode_apdu bytes)
unfolding decode_apdus decode_apdus_within
from_is n bytes few = within_enough (length bytes) (suc n) bytes (omega arith) few

-- the first APDU, and the split of what follows it
pub split_whole : (bytes : List ℕ) (apdu : ApduValue) (rest : List ℕ) → decode_apdu bytes ≡ DecodedApdu.Whole apdu rest → decode_apdus bytes ≡ with_first_apdu apdu (decode_apdus rest)
unfolding decode_apdus
split_whole bytes apdu rest e =
    let shorter = prefix_shrinks bytes apdu rest e in
    from_is (length bytes) bytes (omega arith) ∙ ap (decode_apdus_from (decode_apdus_within (length bytes)) bytes) e ∙ ap (with_first_apdu apdu) (within_enough (length bytes) (length rest) rest (omega arith) (omega arith))

pub split_incomplete : (bytes : List ℕ) → decode_apdu bytes ≡ DecodedApdu.Incomplete → decode_apdus bytes ≡ record { apdus = []; rest = bytes }
split_incomplete bytes e = from_is (length bytes) bytes (omega arith) ∙ ap (decode_apdus_from (decode_apdus_within (length bytes)) bytes) e

pub split_too_long : (bytes : List ℕ) (n : ℕ) → decode_apdu bytes ≡ DecodedApdu.TooLong n → decode_apdus bytes ≡ record { apdus = []; rest = bytes }
split_too_long bytes n e = from_is (length bytes) bytes (omega arith) ∙ ap (decode_apdus_from (decode_apdus_within (length bytes)) bytes) e

-- ---- the split is the grammar's

at_prefix : (bytes : List ℕ) (prefix : DecodedApdu) → AreBytes bytes → decode_apdu bytes ≡ prefix → ((rest : List ℕ) → length rest < length bytes → AreBytes rest → SpellsApdus rest (decode_apdus rest).apdus (decode_apdus rest).rest) → SpellsApdus bytes (decode_apdus bytes).apdus (decode_apdus bytes).rest
at_prefix bytes (DecodedApdu.Whole apdu rest) bounds e others =
    let begins = whole_begins bytes apdu rest bounds e in
    let after = others rest (prefix_shrinks bytes apdu rest e) (bytes_rest begins.0 rest (subst AreBytes begins.2 bounds)) in
    rw (split_whole bytes apdu rest e) (record { splits = (rest, begins, after.splits); ends = after.ends })
at_prefix bytes DecodedApdu.Incomplete bounds e others =
    rw (split_incomplete bytes e) (record { splits = refl; ends = inl (prefix_incomplete bytes bounds e) })
at_prefix bytes (DecodedApdu.TooLong k) bounds e others =
    rw (split_too_long bytes k e) (record { splits = refl; ends = inr (k, prefix_too_long bytes k bounds e) })

split_splits : (n : ℕ) (bytes : List ℕ) → length bytes ≤ n → AreBytes bytes → SpellsApdus bytes (decode_apdus bytes).apdus (decode_apdus bytes).rest
split_splits zero bytes few bounds = at_prefix bytes (decode_apdu bytes) bounds refl (λ rest shorter fine. absurd (omega arith))
split_splits (suc n) bytes few bounds = at_prefix bytes (decode_apdu bytes) bounds refl (λ rest shorter fine. split_splits n rest (omega arith) fine)

pub split_is : (bytes : List ℕ) → AreBytes bytes → SpellsApdus bytes (decode_apdus bytes).apdus (decode_apdus bytes).rest
split_is bytes bounds = split_splits (length bytes) bytes (omega arith) bounds
