-- What more bytes change of what bytes begin with.
use Rattle.std.proofs.Common.{◌≡◌, ℕ, ◌+◌, ◌*◌, ◌<◌, ◌≤◌, Bool, true, false, cond, eqb, ltb, List, [], ◌∷◌, ◌++◌, length, take, drop, refl, ap, ◌∙◌, append_assoc, arith, inl, inr}
use Rattle.std.proofs.lemmas.Bool.{ltb-false, ltb-true, le-ltb, ne_eqb}
use Rattle.std.proofs.lemmas.List.{take-append-le, drop-append-le, take_at, drop_at, length-append, length-drop}
use Rattle.zvt_apdu.specs.Grammar.{ApduValue, SpellsApduLength, BeginsWithApdu}
use Rattle.zvt_apdu.specs.Decode.{DecodedApdu, decode_apdu_data, decode_long_apdu, decode_apdu}

-- ---- the choice that a length makes

whole_choice : (b c : Bool) (n : ℕ) (apdu found : ApduValue) (rest left : List ℕ) → cond b (DecodedApdu.TooLong n) (cond c DecodedApdu.Incomplete (DecodedApdu.Whole apdu rest)) ≡ DecodedApdu.Whole found left → (b ≡ false) × (c ≡ false) × (apdu ≡ found) × (rest ≡ left)
whole_choice true c n apdu found rest left e = absurd cc
whole_choice false true n apdu found rest left e = absurd cc
whole_choice false false n apdu found rest left e = (refl, refl, cc, cc)

incomplete_choice : (b c : Bool) (n : ℕ) (apdu : ApduValue) (rest : List ℕ) → cond b (DecodedApdu.TooLong n) (cond c DecodedApdu.Incomplete (DecodedApdu.Whole apdu rest)) ≡ DecodedApdu.Incomplete → (b ≡ false) × (c ≡ true)
incomplete_choice true c n apdu rest e = absurd cc
incomplete_choice false true n apdu rest e = (refl, refl)
incomplete_choice false false n apdu rest e = absurd cc

long_choice : (b c : Bool) (n m : ℕ) (apdu : ApduValue) (rest : List ℕ) → cond b (DecodedApdu.TooLong n) (cond c DecodedApdu.Incomplete (DecodedApdu.Whole apdu rest)) ≡ DecodedApdu.TooLong m → (b ≡ true) × (n ≡ m)
long_choice true c n m apdu rest e = (refl, cc)
long_choice false true n m apdu rest e = absurd cc
long_choice false false n m apdu rest e = absurd cc

-- ---- an APDU stays, and what follows it grows

record Stays (longer : DecodedApdu) (apdu : ApduValue) (rest more bytes : List ℕ) : Type 0 where
  pub same : longer ≡ DecodedApdu.Whole apdu (rest ++ more)
  pub shorter : length rest ≤ length bytes

data_stays : (class instr n : ℕ) (bytes more : List ℕ) (apdu : ApduValue) (rest : List ℕ) → decode_apdu_data class instr n bytes ≡ DecodedApdu.Whole apdu rest → Stays (decode_apdu_data class instr n (bytes ++ more)) apdu rest more bytes
data_stays class instr n bytes more apdu rest e =
    let choice = whole_choice (ltb 12000 n) (ltb (length bytes) n) n (record { class = class; instr = instr; body = take n bytes }) apdu (drop n bytes) rest e in
    let fits : n ≤ length bytes = ltb-false (length bytes) n choice.1 in
    let still : ltb (length (bytes ++ more)) n ≡ false = le-ltb _ _ (omega (arith, length-append bytes more)) in
    record {
      same = rw (choice.0, still, take-append-le n bytes more fits, drop-append-le n bytes more fits, choice.2, choice.3) refl;
      shorter = omega (arith, ap length choice.3, length-drop n bytes);
    }

long_stays : (class instr : ℕ) (bytes more : List ℕ) (apdu : ApduValue) (rest : List ℕ) → decode_long_apdu class instr bytes ≡ DecodedApdu.Whole apdu rest → Stays (decode_long_apdu class instr (bytes ++ more)) apdu rest more bytes
long_stays class instr [] more apdu rest e = absurd cc
long_stays class instr (low ∷ []) more apdu rest e = absurd cc
long_stays class instr (low ∷ high ∷ bytes) more apdu rest e =
    let stays = data_stays class instr (low + 256 * high) bytes more apdu rest e in
    record { same = stays.same; shorter = omega (arith, stays.shorter) }

header_stays : (is_long : Bool) (class instr n : ℕ) (bytes more : List ℕ) (apdu : ApduValue) (rest : List ℕ) → cond is_long (decode_long_apdu class instr bytes) (decode_apdu_data class instr n bytes) ≡ DecodedApdu.Whole apdu rest → Stays (cond is_long (decode_long_apdu class instr (bytes ++ more)) (decode_apdu_data class instr n (bytes ++ more))) apdu rest more bytes
header_stays true class instr n bytes more apdu rest e = long_stays class instr bytes more apdu rest e
header_stays false class instr n bytes more apdu rest e = data_stays class instr n bytes more apdu rest e

pub prefix_stays : (bytes more : List ℕ) (apdu : ApduValue) (rest : List ℕ) → decode_apdu bytes ≡ DecodedApdu.Whole apdu rest → (decode_apdu (bytes ++ more) ≡ DecodedApdu.Whole apdu (rest ++ more)) × (length rest < length bytes)
prefix_stays [] more apdu rest e = absurd cc
prefix_stays (class ∷ []) more apdu rest e = absurd cc
prefix_stays (class ∷ instr ∷ []) more apdu rest e = absurd cc
prefix_stays (class ∷ instr ∷ n ∷ bytes) more apdu rest e =
    let stays = header_stays (eqb n 255) class instr n bytes more apdu rest e in
    (stays.same, omega (arith, stays.shorter))

-- ---- bytes that can't begin an APDU never will

data_bad : (class instr n m : ℕ) (bytes more : List ℕ) → decode_apdu_data class instr n bytes ≡ DecodedApdu.TooLong m → decode_apdu_data class instr n (bytes ++ more) ≡ DecodedApdu.TooLong m
data_bad class instr n m bytes more e =
    let choice = long_choice (ltb 12000 n) (ltb (length bytes) n) n m (record { class = class; instr = instr; body = take n bytes }) (drop n bytes) e in
    rw (choice.0, choice.1) refl

long_bad : (class instr m : ℕ) (bytes more : List ℕ) → decode_long_apdu class instr bytes ≡ DecodedApdu.TooLong m → decode_long_apdu class instr (bytes ++ more) ≡ DecodedApdu.TooLong m
long_bad class instr m [] more e = absurd cc
long_bad class instr m (low ∷ []) more e = absurd cc
long_bad class instr m (low ∷ high ∷ bytes) more e = data_bad class instr (low + 256 * high) m bytes more e

header_bad : (is_long : Bool) (class instr n m : ℕ) (bytes more : List ℕ) → cond is_long (decode_long_apdu class instr bytes) (decode_apdu_data class instr n bytes) ≡ DecodedApdu.TooLong m → cond is_long (decode_long_apdu class instr (bytes ++ more)) (decode_apdu_data class instr n (bytes ++ more)) ≡ DecodedApdu.TooLong m
header_bad true class instr n m bytes more e = long_bad class instr m bytes more e
header_bad false class instr n m bytes more e = data_bad class instr n m bytes more e

pub prefix_bad : (bytes more : List ℕ) (m : ℕ) → decode_apdu bytes ≡ DecodedApdu.TooLong m → decode_apdu (bytes ++ more) ≡ DecodedApdu.TooLong m
prefix_bad [] more m e = absurd cc
prefix_bad (class ∷ []) more m e = absurd cc
prefix_bad (class ∷ instr ∷ []) more m e = absurd cc
prefix_bad (class ∷ instr ∷ n ∷ bytes) more m e = header_bad (eqb n 255) class instr n m bytes more e

-- ---- an APDU that becomes whole ends among the bytes that made it so

data_shrinks : (class instr n : ℕ) (bytes : List ℕ) (apdu : ApduValue) (rest : List ℕ) → decode_apdu_data class instr n bytes ≡ DecodedApdu.Whole apdu rest → length rest + n ≡ length bytes
data_shrinks class instr n bytes apdu rest e =
    let choice = whole_choice (ltb 12000 n) (ltb (length bytes) n) n (record { class = class; instr = instr; body = take n bytes }) apdu (drop n bytes) rest e in
    omega (arith, ap length choice.3, length-drop n bytes, ltb-false (length bytes) n choice.1)

data_truncated : (class instr n : ℕ) (bytes : List ℕ) → decode_apdu_data class instr n bytes ≡ DecodedApdu.Incomplete → length bytes < n
data_truncated class instr n bytes e =
    let choice = incomplete_choice (ltb 12000 n) (ltb (length bytes) n) n (record { class = class; instr = instr; body = take n bytes }) (drop n bytes) e in
    ltb-true (length bytes) n choice.1

data_within : (class instr n : ℕ) (bytes more : List ℕ) (apdu : ApduValue) (rest : List ℕ) → decode_apdu_data class instr n bytes ≡ DecodedApdu.Incomplete → decode_apdu_data class instr n (bytes ++ more) ≡ DecodedApdu.Whole apdu rest → length rest < length more
data_within class instr n bytes more apdu rest cut e =
    omega (arith, data_truncated class instr n bytes cut, data_shrinks class instr n (bytes ++ more) apdu rest e, length-append bytes more)

long_within : (class instr : ℕ) (bytes more : List ℕ) (apdu : ApduValue) (rest : List ℕ) → decode_long_apdu class instr bytes ≡ DecodedApdu.Incomplete → decode_long_apdu class instr (bytes ++ more) ≡ DecodedApdu.Whole apdu rest → length rest < length more
long_within class instr [] [] apdu rest cut e = absurd cc
long_within class instr [] (low ∷ []) apdu rest cut e = absurd cc
long_within class instr [] (low ∷ high ∷ more) apdu rest cut e = omega (arith, data_shrinks class instr (low + 256 * high) more apdu rest e)
long_within class instr (low ∷ []) [] apdu rest cut e = absurd cc
long_within class instr (low ∷ []) (high ∷ more) apdu rest cut e = omega (arith, data_shrinks class instr (low + 256 * high) more apdu rest e)
long_within class instr (low ∷ high ∷ bytes) more apdu rest cut e = data_within class instr (low + 256 * high) bytes more apdu rest cut e

header_within : (is_long : Bool) (class instr n : ℕ) (bytes more : List ℕ) (apdu : ApduValue) (rest : List ℕ) → cond is_long (decode_long_apdu class instr bytes) (decode_apdu_data class instr n bytes) ≡ DecodedApdu.Incomplete → cond is_long (decode_long_apdu class instr (bytes ++ more)) (decode_apdu_data class instr n (bytes ++ more)) ≡ DecodedApdu.Whole apdu rest → length rest < length more
header_within true class instr n bytes more apdu rest cut e = long_within class instr bytes more apdu rest cut e
header_within false class instr n bytes more apdu rest cut e = data_within class instr n bytes more apdu rest cut e

pub prefix_within : (bytes more : List ℕ) (apdu : ApduValue) (rest : List ℕ) → decode_apdu bytes ≡ DecodedApdu.Incomplete → decode_apdu (bytes ++ more) ≡ DecodedApdu.Whole apdu rest → length rest < length more
prefix_within [] more apdu rest cut e = (prefix_stays more [] apdu rest e).1
prefix_within (class ∷ []) [] apdu rest cut e = absurd cc
prefix_within (class ∷ []) (instr ∷ []) apdu rest cut e = absurd cc
prefix_within (class ∷ []) (instr ∷ n ∷ more) apdu rest cut e =
    omega (arith, (prefix_stays (class ∷ instr ∷ n ∷ more) [] apdu rest e).1, (header_stays (eqb n 255) class instr n more [] apdu rest e).shorter)
prefix_within (class ∷ instr ∷ []) [] apdu rest cut e = absurd cc
prefix_within (class ∷ instr ∷ []) (n ∷ more) apdu rest cut e =
    omega (arith, (header_stays (eqb n 255) class instr n more [] apdu rest e).shorter)
prefix_within (class ∷ instr ∷ n ∷ bytes) more apdu rest cut e = header_within (eqb n 255) class instr n bytes more apdu rest cut e

-- ---- what bytes begin with, by the grammar

data_whole : (class instr : ℕ) (apdu_data rest : List ℕ) → length apdu_data ≤ 12000 → decode_apdu_data class instr (length apdu_data) (apdu_data ++ rest) ≡ DecodedApdu.Whole (record { class = class; instr = instr; body = apdu_data }) rest
data_whole class instr apdu_data rest within =
    let small : ltb 12000 (length apdu_data) ≡ false = le-ltb _ _ within in
    let long : ltb (length (apdu_data ++ rest)) (length apdu_data) ≡ false = le-ltb _ _ (omega (arith, length-append apdu_data rest)) in
    rw (small, long, take_at apdu_data rest (length apdu_data) refl, drop_at apdu_data rest (length apdu_data) refl) refl

header_whole : (class instr n : ℕ) (length_bytes bytes : List ℕ) → SpellsApduLength length_bytes n → decode_apdu (class ∷ instr ∷ (length_bytes ++ bytes)) ≡ decode_apdu_data class instr n bytes
header_whole class instr n length_bytes bytes (inl short) =
    let other : eqb n 255 ≡ false = ne_eqb n 255 (λ e. omega (arith, short.0)) in
    rw short.1 (rw other refl)
header_whole class instr n length_bytes bytes (inr (low, high, value, long)) = rw (long, value) refl

-- an APDU that bytes begin with is the one that they are decoded to
pub begins_at_prefix : (bytes : List ℕ) (apdu : ApduValue) (rest : List ℕ) → BeginsWithApdu bytes apdu rest → decode_apdu bytes ≡ DecodedApdu.Whole apdu rest
begins_at_prefix bytes apdu rest (prefix, spells, parts) =
    let regrouped : bytes ≡ apdu.class ∷ apdu.instr ∷ (spells.length_bytes ++ (apdu.body ++ rest)) = parts ∙ ap (λ (f : List ℕ). f ++ rest) spells.whole ∙ ap (λ (t : List ℕ). apdu.class ∷ apdu.instr ∷ t) (append_assoc spells.length_bytes apdu.body rest) in
    ap decode_apdu regrouped ∙ header_whole apdu.class apdu.instr (length apdu.body) spells.length_bytes (apdu.body ++ rest) spells.is_length ∙ data_whole apdu.class apdu.instr apdu.body rest spells.within
