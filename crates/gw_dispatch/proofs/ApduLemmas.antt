-- The APDUs of a stream that arrives in chunks, and their items.
use Rattle.std.proofs.Common.{◌≡◌, ℕ, zero, suc, ◌+◌, ◌*◌, ◌<◌, ◌≤◌, Bool, true, false, cond, eqb, ltb, List, [], ◌∷◌, ◌++◌, length, take, drop, refl, sym, ap, ◌∙◌, arith}
use Rattle.std.proofs.lemmas.Bool.{ltb-false, le-ltb}
use Rattle.std.proofs.lemmas.List.{length-drop, length-append, take-append-le, drop-append-le}
use Rattle.zvt_apdu.specs.Grammar.{ApduValue}
use Rattle.zvt_apdu.specs.Decode.{DecodedApdu, decode_apdu_data, decode_long_apdu, decode_apdu}
use Rattle.zvt_apdu.specs.DecodeStream.{DecodedApdus, decode_apdus}
use Rattle.zvt_apdu.proofs.DecodeLemmas.{whole_choice}
use Rattle.zvt_apdu.proofs.DecodeStreamLemmas.{split_whole, split_incomplete, split_too_long}
use Rattle.gw_owes.specs.Events.{apdu_items, decoded_apdu_items}
use Rattle.gw_owes.specs.Items.{Oversized}
use Rattle.gw_dispatch.specs.Apdus.{items_held, IsLess}

-- ---- an APDU at the beginning, with more bytes after it

-- what follows the APDU is shorter than what was there, and so much longer where more bytes come
record Begins (decoded : DecodedApdu) (longer : DecodedApdu) (bytes more : List ℕ) (apdu : ApduValue) (rest : List ℕ) : Type 0 where
  less : length rest ≤ length bytes
  more_is : longer ≡ DecodedApdu.Whole apdu (rest ++ more)

data-begins : (class instr n : ℕ) (bytes more : List ℕ) (apdu : ApduValue) (rest : List ℕ) → decode_apdu_data class instr n bytes ≡ DecodedApdu.Whole apdu rest →
    Begins (decode_apdu_data class instr n bytes) (decode_apdu_data class instr n (bytes ++ more)) bytes more apdu rest
data-begins class instr n bytes more apdu rest e =
    let choice = whole_choice (ltb 12000 n) (ltb (length bytes) n) n (record { class = class; instr = instr; body = take n bytes }) apdu (drop n bytes) rest e in
    let there : n ≤ length bytes = ltb-false (length bytes) n choice.1 in
    let long : ltb (length (bytes ++ more)) n ≡ false = le-ltb (length (bytes ++ more)) n (omega (arith, length-append bytes more)) in
    let same : take n (bytes ++ more) ≡ take n bytes = take-append-le n bytes more there in
    let after : drop n (bytes ++ more) ≡ rest ++ more = drop-append-le n bytes more there ∙ ap (λ (r : List ℕ). r ++ more) choice.3 in
    let begun : DecodedApdu.Whole (record { class = class; instr = instr; body = take n bytes }) (rest ++ more) ≡ DecodedApdu.Whole apdu (rest ++ more) = ap (λ a. DecodedApdu.Whole a (rest ++ more)) choice.2 in
    record {
      less = omega (arith, ap length choice.3, length-drop n bytes);
      more_is = rw (choice.0, long, same, after) begun;
    }

long-begins : (class instr : ℕ) (bytes more : List ℕ) (apdu : ApduValue) (rest : List ℕ) → decode_long_apdu class instr bytes ≡ DecodedApdu.Whole apdu rest →
    Begins (decode_long_apdu class instr bytes) (decode_long_apdu class instr (bytes ++ more)) bytes more apdu rest
long-begins class instr [] more apdu rest e = absurd cc
long-begins class instr (low ∷ []) more apdu rest e = absurd cc
long-begins class instr (low ∷ high ∷ bytes) more apdu rest e =
    let b = data-begins class instr (low + 256 * high) bytes more apdu rest e in
    record { less = omega (arith, b.less); more_is = b.more_is }

header-begins : (is_long : Bool) (class instr n : ℕ) (bytes more : List ℕ) (apdu : ApduValue) (rest : List ℕ) → cond is_long (decode_long_apdu class instr bytes) (decode_apdu_data class instr n bytes) ≡ DecodedApdu.Whole apdu rest →
    Begins (cond is_long (decode_long_apdu class instr bytes) (decode_apdu_data class instr n bytes)) (cond is_long (decode_long_apdu class instr (bytes ++ more)) (decode_apdu_data class instr n (bytes ++ more))) bytes more apdu rest
header-begins true class instr n bytes more apdu rest e = long-begins class instr bytes more apdu rest e
header-begins false class instr n bytes more apdu rest e = data-begins class instr n bytes more apdu rest e

begins : (bytes more : List ℕ) (apdu : ApduValue) (rest : List ℕ) → decode_apdu bytes ≡ DecodedApdu.Whole apdu rest → (length rest < length bytes) × (decode_apdu (bytes ++ more) ≡ DecodedApdu.Whole apdu (rest ++ more))
begins [] more apdu rest e = absurd cc
begins (class ∷ []) more apdu rest e = absurd cc
begins (class ∷ instr ∷ []) more apdu rest e = absurd cc
begins (class ∷ instr ∷ n ∷ bytes) more apdu rest e =
    let b = header-begins (eqb n 255) class instr n bytes more apdu rest e in
    (omega (arith, b.less), b.more_is)

-- ---- chunks

rest-by : (bytes chunk : List ℕ) (decoded : DecodedApdu) → decode_apdu bytes ≡ decoded → ((rest : List ℕ) → length rest < length bytes → (decode_apdus (rest ++ chunk)).rest ≡ (decode_apdus ((decode_apdus rest).rest ++ chunk)).rest) →
    (decode_apdus (bytes ++ chunk)).rest ≡ (decode_apdus ((decode_apdus bytes).rest ++ chunk)).rest
rest-by bytes chunk (DecodedApdu.Whole apdu rest) e shorter =
    let b = begins bytes chunk apdu rest e in
    ap (λ (d : DecodedApdus). d.rest) (split_whole (bytes ++ chunk) apdu (rest ++ chunk) b.1) ∙ shorter rest b.0 ∙ sym (ap (λ (d : DecodedApdus). (decode_apdus (d.rest ++ chunk)).rest) (split_whole bytes apdu rest e))
rest-by bytes chunk DecodedApdu.Incomplete e shorter = sym (ap (λ (d : DecodedApdus). (decode_apdus (d.rest ++ chunk)).rest) (split_incomplete bytes e))
rest-by bytes chunk (DecodedApdu.TooLong n) e shorter = sym (ap (λ (d : DecodedApdus). (decode_apdus (d.rest ++ chunk)).rest) (split_too_long bytes n e))

rest-within : (n : ℕ) (bytes chunk : List ℕ) → length bytes ≤ n → (decode_apdus (bytes ++ chunk)).rest ≡ (decode_apdus ((decode_apdus bytes).rest ++ chunk)).rest
rest-within zero bytes chunk few = rest-by bytes chunk (decode_apdu bytes) refl (λ rest shorter. absurd (omega arith))
rest-within (suc n) bytes chunk few = rest-by bytes chunk (decode_apdu bytes) refl (λ rest shorter. rest-within n rest chunk (omega arith))

-- the rest after a chunk more is that of the rest and the chunk
pub rest-chunk : (bytes chunk : List ℕ) → (decode_apdus (bytes ++ chunk)).rest ≡ (decode_apdus ((decode_apdus bytes).rest ++ chunk)).rest
rest-chunk bytes chunk = rest-within (length bytes) bytes chunk (omega arith)

-- ---- steps

-- an APDU has its items, and those of what follows it come then
pub items-apdu : (pt : ℕ) (bytes : List ℕ) (apdu : ApduValue) (rest : List ℕ) → decode_apdu bytes ≡ DecodedApdu.Whole apdu rest → items_held pt bytes ≡ apdu_items pt apdu ++ items_held pt rest
items-apdu pt bytes apdu rest e = ap (decoded_apdu_items pt) (split_whole bytes apdu rest e)

pub less-apdu : (bytes : List ℕ) (apdu : ApduValue) (rest : List ℕ) → decode_apdu bytes ≡ DecodedApdu.Whole apdu rest → IsLess bytes rest
less-apdu bytes apdu rest e = record { less = (begins bytes [] apdu rest e).0; rest = sym (ap (λ (d : DecodedApdus). d.rest) (split_whole bytes apdu rest e)) }

-- less than an APDU has no items, and is its own rest
pub items-waiting : (pt : ℕ) (bytes : List ℕ) → decode_apdu bytes ≡ DecodedApdu.Incomplete → items_held pt bytes ≡ []
items-waiting pt bytes e = ap (decoded_apdu_items pt) (split_incomplete bytes e) ∙ rw e refl

pub rest-waiting : (bytes : List ℕ) → decode_apdu bytes ≡ DecodedApdu.Incomplete → (decode_apdus bytes).rest ≡ bytes
rest-waiting bytes e = ap (λ (d : DecodedApdus). d.rest) (split_incomplete bytes e)

-- bytes that begin an APDU above the limit have one item
pub items-oversized : (pt : ℕ) (bytes : List ℕ) (n : ℕ) → decode_apdu bytes ≡ DecodedApdu.TooLong n → items_held pt bytes ≡ Oversized pt ∷ []
items-oversized pt bytes n e = ap (decoded_apdu_items pt) (split_too_long bytes n e) ∙ rw e refl
