-- The APDU that bytes begin with, by the grammar and by the function that computes it.
use Rattle.std.proofs.Common.{◌≡◌, ◌≢◌, ℕ, ◌+◌, ◌-◌, ◌*◌, ◌/◌, ◌%◌, ◌<◌, ◌≤◌, Bool, true, false, cond, eqb, ltb, List, [], ◌∷◌, ◌++◌, length, take, drop, refl, sym, ap, subst, ◌∙◌, append_assoc, arith, inl, inr}
use Rattle.std.specs.Prelude.{◌⊎◌, replicate}
use Rattle.std.proofs.lemmas.Bool.{cases_lt, cases_eq, ltb-false, ltb-true, le-ltb, lt-ltb, ne_eqb}
use Rattle.std.proofs.lemmas.List.{take_at, drop_at, take-append-drop, length-append, length-take, length-replicate, append-nil}
use Rattle.gw_bytes.specs.Bytes.{AreBytes}
use Rattle.zvt_apdu.specs.Grammar.{ApduValue, longest_apdu_data, short_length, long_length, SpellsApduLength, SpellsApdu, BeginsWithApdu, IsProperApduPrefix, BeginsTooLongApdu, canonical_apdu_length, canonical_apdu}
use Rattle.zvt_apdu.specs.Decode.{DecodedApdu, decode_apdu_data, decode_apdu}

-- after a header, the data are there whole
pub data_is_whole : (class instr : ℕ) (apdu_data rest : List ℕ) → length apdu_data ≤ 12000 → decode_apdu_data class instr (length apdu_data) (apdu_data ++ rest) ≡ DecodedApdu.Whole (record { class = class; instr = instr; body = apdu_data }) rest
data_is_whole class instr apdu_data rest within =
    let small : ltb 12000 (length apdu_data) ≡ false = le-ltb _ _ within in
    let long : ltb (length (apdu_data ++ rest)) (length apdu_data) ≡ false = le-ltb _ _ (omega (arith, length-append apdu_data rest)) in
    rw (small, long, take_at apdu_data rest (length apdu_data) refl, drop_at apdu_data rest (length apdu_data) refl) refl

-- after a header of either form, the function looks at the length
pub prefix_of_header : (class instr n : ℕ) (length_bytes bytes : List ℕ) → SpellsApduLength length_bytes n → decode_apdu (class ∷ instr ∷ (length_bytes ++ bytes)) ≡ decode_apdu_data class instr n bytes
prefix_of_header class instr n length_bytes bytes (inl short) =
    let other : eqb n 255 ≡ false = ne_eqb n 255 (λ e. omega (arith, short.0)) in
    rw short.1 (rw other refl)
prefix_of_header class instr n length_bytes bytes (inr (low, high, value, long)) = rw (long, value) refl

pub begins_whole : (bytes : List ℕ) (apdu : ApduValue) (rest : List ℕ) → BeginsWithApdu bytes apdu rest → decode_apdu bytes ≡ DecodedApdu.Whole apdu rest
begins_whole bytes apdu rest (prefix, spells, parts) =
    let regrouped : bytes ≡ apdu.class ∷ apdu.instr ∷ (spells.length_bytes ++ (apdu.body ++ rest)) = parts ∙ ap (λ (f : List ℕ). f ++ rest) spells.whole ∙ ap (λ (t : List ℕ). apdu.class ∷ apdu.instr ∷ t) (append_assoc spells.length_bytes apdu.body rest) in
    ap decode_apdu regrouped ∙ prefix_of_header apdu.class apdu.instr (length apdu.body) spells.length_bytes (apdu.body ++ rest) spells.is_length ∙ data_is_whole apdu.class apdu.instr apdu.body rest spells.within

pub too_long_prefix : (bytes : List ℕ) (n : ℕ) → BeginsTooLongApdu bytes n → decode_apdu bytes ≡ DecodedApdu.TooLong n
too_long_prefix bytes n (class, instr, length_bytes, more, is_length, above, parts) =
    let large : ltb 12000 n ≡ true = lt-ltb _ _ above in
    ap decode_apdu parts ∙ prefix_of_header class instr n length_bytes more is_length ∙ rw large refl

-- ---- from the function to the grammar

-- a header that is truncated, with what makes it an APDU without data, or one that is whole
abbrev IsTruncatedHeader : List ℕ → Type 0
IsTruncatedHeader bytes = (decode_apdu bytes ≡ DecodedApdu.Incomplete) × IsProperApduPrefix bytes

record Headed (bytes : List ℕ) : Type 0 where
  class : ℕ
  instr : ℕ
  n : ℕ
  length_bytes : List ℕ
  more : List ℕ
  is_length : SpellsApduLength length_bytes n
  parts : bytes ≡ class ∷ instr ∷ (length_bytes ++ more)

-- truncated data can be made whole
completes : (class instr n : ℕ) (length_bytes more : List ℕ) → SpellsApduLength length_bytes n → n ≤ 12000 → length more < n → IsProperApduPrefix (class ∷ instr ∷ (length_bytes ++ more))
completes class instr n length_bytes more is_length within truncated =
    let missing : List ℕ = replicate (n - length more) 0 in
    let apdu_data : List ℕ = more ++ missing in
    let size : length apdu_data ≡ n = omega (arith, length-append more missing, length-replicate {A = ℕ} (n - length more) 0) in
    let some : missing ≢ [] = λ e. omega (arith, ap length e, length-replicate {A = ℕ} (n - length more) 0) in
    let apdu : ApduValue = record { class = class; instr = instr; body = apdu_data } in
    let spells : SpellsApdu ((class ∷ instr ∷ (length_bytes ++ more)) ++ missing) apdu = record {
      length_bytes = length_bytes;
      is_length = rw size is_length;
      within = rw size within;
      whole = ap (λ (t : List ℕ). class ∷ instr ∷ t) (append_assoc length_bytes more missing);
    } in
    (missing, apdu, some, spells)

abbrev bare : ℕ → ℕ → ApduValue
bare class instr = record { class = class; instr = instr; body = [] }

-- the bytes that are left of an APDU with no data
truncated_bare : (bytes more : List ℕ) (class instr : ℕ) → more ≢ [] → bytes ++ more ≡ class ∷ instr ∷ 0 ∷ [] → IsProperApduPrefix bytes
truncated_bare bytes more class instr some parts =
    let spells : SpellsApdu (bytes ++ more) (bare class instr) = record {
      length_bytes = 0 ∷ [];
      is_length = inl (omega arith, refl);
      within = omega arith;
      whole = parts;
    } in
    (more, bare class instr, some, spells)

-- the first three bytes of a long header, and all but its last byte
truncated_long : (class instr : ℕ) → IsProperApduPrefix (class ∷ instr ∷ 255 ∷ [])
truncated_long class instr =
    let spells : SpellsApdu (class ∷ instr ∷ 255 ∷ 0 ∷ 0 ∷ []) (bare class instr) = record {
      length_bytes = long_length 0 0;
      is_length = inr (0, 0, refl, refl);
      within = omega arith;
      whole = refl;
    } in
    (0 ∷ 0 ∷ [], bare class instr, (λ e. absurd cc), spells)

truncated_longer : (class instr low : ℕ) → low < 256 → IsProperApduPrefix (class ∷ instr ∷ 255 ∷ low ∷ [])
truncated_longer class instr low small =
    let apdu_data : List ℕ = replicate low 0 in
    let size : length apdu_data ≡ low = length-replicate {A = ℕ} low 0 in
    let spells : SpellsApdu (class ∷ instr ∷ 255 ∷ low ∷ 0 ∷ apdu_data) (record { class = class; instr = instr; body = apdu_data }) = record {
      length_bytes = long_length low 0;
      is_length = inr (low, 0, omega (arith, size), refl);
      within = omega (arith, size);
      whole = refl;
    } in
    (0 ∷ apdu_data, record { class = class; instr = instr; body = apdu_data }, (λ e. absurd cc), spells)

long_header : (class instr : ℕ) (bytes : List ℕ) → AreBytes bytes → IsTruncatedHeader (class ∷ instr ∷ 255 ∷ bytes) ⊎ Headed (class ∷ instr ∷ 255 ∷ bytes)
long_header class instr [] bounds = inl (refl, truncated_long class instr)
long_header class instr (low ∷ []) bounds = inl (refl, truncated_longer class instr low bounds.0)
long_header class instr (low ∷ high ∷ bytes) bounds = inr (record {
  class = class;
  instr = instr;
  n = low + 256 * high;
  length_bytes = long_length low high;
  more = bytes;
  is_length = inr (low, high, refl, refl);
  parts = refl;
})

header : (bytes : List ℕ) → AreBytes bytes → IsTruncatedHeader bytes ⊎ Headed bytes
header [] bounds = inl (refl, truncated_bare [] (0 ∷ 0 ∷ 0 ∷ []) 0 0 (λ e. absurd cc) refl)
header (class ∷ []) bounds = inl (refl, truncated_bare (class ∷ []) (0 ∷ 0 ∷ []) class 0 (λ e. absurd cc) refl)
header (class ∷ instr ∷ []) bounds = inl (refl, truncated_bare (class ∷ instr ∷ []) (0 ∷ []) class instr (λ e. absurd cc) refl)
header (class ∷ instr ∷ n ∷ bytes) bounds =
    elim (cases_eq n 255) [
      | inl e ↦ subst (λ (k : ℕ). IsTruncatedHeader (class ∷ instr ∷ k ∷ bytes) ⊎ Headed (class ∷ instr ∷ k ∷ bytes)) (sym e) (long_header class instr bytes bounds.1.1.1)
      | inr ne ↦ inr (record {
        class = class;
        instr = instr;
        n = n;
        length_bytes = short_length n;
        more = bytes;
        is_length = inl (omega (arith, bounds.1.1.0), refl);
        parts = refl;
      })
    ]

-- which way the two tests after a header went
pub whole_choice : (b c : Bool) (n : ℕ) (a found : ApduValue) (rest left : List ℕ) → cond b (DecodedApdu.TooLong n) (cond c DecodedApdu.Incomplete (DecodedApdu.Whole a rest)) ≡ DecodedApdu.Whole found left → (b ≡ false) × (c ≡ false) × (a ≡ found) × (rest ≡ left)
whole_choice true c n a found rest left e = absurd cc
whole_choice false true n a found rest left e = absurd cc
whole_choice false false n a found rest left e = (refl, refl, cc, cc)

long_choice : (b c : Bool) (n m : ℕ) (a : ApduValue) (rest : List ℕ) → cond b (DecodedApdu.TooLong n) (cond c DecodedApdu.Incomplete (DecodedApdu.Whole a rest)) ≡ DecodedApdu.TooLong m → (b ≡ true) × (n ≡ m)
long_choice true c n m a rest e = (refl, cc)
long_choice false true n m a rest e = absurd cc
long_choice false false n m a rest e = absurd cc

incomplete_choice : (b c : Bool) (n : ℕ) (a : ApduValue) (rest : List ℕ) → cond b (DecodedApdu.TooLong n) (cond c DecodedApdu.Incomplete (DecodedApdu.Whole a rest)) ≡ DecodedApdu.Incomplete → (b ≡ false) × (c ≡ true)
incomplete_choice true c n a rest e = absurd cc
incomplete_choice false true n a rest e = (refl, refl)
incomplete_choice false false n a rest e = absurd cc

pub whole_begins : (bytes : List ℕ) (apdu : ApduValue) (rest : List ℕ) → AreBytes bytes → decode_apdu bytes ≡ DecodedApdu.Whole apdu rest → BeginsWithApdu bytes apdu rest
whole_begins bytes apdu rest bounds e =
    elim (header bytes bounds) [
      | inl truncated ↦ absurd (cc (truncated.0, e))
      | inr h ↦
          let at_data : decode_apdu_data h.class h.instr h.n h.more ≡ DecodedApdu.Whole apdu rest = sym (ap decode_apdu h.parts ∙ prefix_of_header h.class h.instr h.n h.length_bytes h.more h.is_length) ∙ e in
          let found : ApduValue = record { class = h.class; instr = h.instr; body = take h.n h.more } in
          let choice = whole_choice (ltb 12000 h.n) (ltb (length h.more) h.n) h.n found apdu (drop h.n h.more) rest at_data in
          let within : h.n ≤ 12000 = ltb-false _ _ choice.0 in
          let there : h.n ≤ length h.more = ltb-false _ _ choice.1 in
          let size : length (take h.n h.more) ≡ h.n = omega (arith, length-take h.n h.more) in
          let spells : SpellsApdu (h.class ∷ h.instr ∷ (h.length_bytes ++ take h.n h.more)) found = record {
            length_bytes = h.length_bytes;
            is_length = rw size h.is_length;
            within = rw size within;
            whole = refl;
          } in
          let parts : bytes ≡ (h.class ∷ h.instr ∷ (h.length_bytes ++ take h.n h.more)) ++ drop h.n h.more =
          h.parts ∙ ap (λ (t : List ℕ). h.class ∷ h.instr ∷ (h.length_bytes ++ t)) (sym (take-append-drop h.n h.more)) ∙ ap (λ (t : List ℕ). h.class ∷ h.instr ∷ t) (sym (append_assoc h.length_bytes (take h.n h.more) (drop h.n h.more))) in
          subst (λ (a : ApduValue). BeginsWithApdu bytes a rest) choice.2 (subst (λ (r : List ℕ). BeginsWithApdu bytes found r) choice.3 (h.class ∷ h.instr ∷ (h.length_bytes ++ take h.n h.more), spells, parts))
    ]

pub prefix_too_long : (bytes : List ℕ) (n : ℕ) → AreBytes bytes → decode_apdu bytes ≡ DecodedApdu.TooLong n → BeginsTooLongApdu bytes n
prefix_too_long bytes n bounds e =
    elim (header bytes bounds) [
      | inl truncated ↦ absurd (cc (truncated.0, e))
      | inr h ↦
          let at_data : decode_apdu_data h.class h.instr h.n h.more ≡ DecodedApdu.TooLong n = sym (ap decode_apdu h.parts ∙ prefix_of_header h.class h.instr h.n h.length_bytes h.more h.is_length) ∙ e in
          let choice = long_choice (ltb 12000 h.n) (ltb (length h.more) h.n) h.n n (record { class = h.class; instr = h.instr; body = take h.n h.more }) (drop h.n h.more) at_data in
          let above : 12000 < h.n = ltb-true _ _ choice.0 in
          subst (λ (k : ℕ). BeginsTooLongApdu bytes k) choice.1 (h.class, h.instr, h.length_bytes, h.more, h.is_length, above, h.parts)
    ]

pub prefix_incomplete : (bytes : List ℕ) → AreBytes bytes → decode_apdu bytes ≡ DecodedApdu.Incomplete → IsProperApduPrefix bytes
prefix_incomplete bytes bounds e =
    elim (header bytes bounds) [
      | inl truncated ↦ truncated.1
      | inr h ↦
          let at_data : decode_apdu_data h.class h.instr h.n h.more ≡ DecodedApdu.Incomplete = sym (ap decode_apdu h.parts ∙ prefix_of_header h.class h.instr h.n h.length_bytes h.more h.is_length) ∙ e in
          let choice = incomplete_choice (ltb 12000 h.n) (ltb (length h.more) h.n) h.n (record { class = h.class; instr = h.instr; body = take h.n h.more }) (drop h.n h.more) at_data in
          let within : h.n ≤ 12000 = ltb-false _ _ choice.0 in
          let truncated : length h.more < h.n = ltb-true _ _ choice.1 in
          subst IsProperApduPrefix (sym h.parts) (completes h.class h.instr h.n h.length_bytes h.more h.is_length within truncated)
    ]

-- ---- from the grammar back: a proper prefix is none of the other two

pub begins_longer : (bytes more : List ℕ) (apdu : ApduValue) (rest : List ℕ) → BeginsWithApdu bytes apdu rest → BeginsWithApdu (bytes ++ more) apdu (rest ++ more)
begins_longer bytes more apdu rest (prefix, spells, parts) = (prefix, spells, ap (λ (b : List ℕ). b ++ more) parts ∙ append_assoc prefix rest more)

too_long_longer : (bytes more : List ℕ) (n : ℕ) → BeginsTooLongApdu bytes n → BeginsTooLongApdu (bytes ++ more) n
too_long_longer bytes more n (class, instr, length_bytes, after, is_length, above, parts) =
    (class, instr, length_bytes, after ++ more, is_length, above, ap (λ (b : List ℕ). b ++ more) parts ∙ ap (λ (t : List ℕ). class ∷ instr ∷ t) (append_assoc length_bytes after more))

pub nil_of_append : (xs ys : List ℕ) → xs ++ ys ≡ [] → ys ≡ []
nil_of_append [] ys e = e
nil_of_append (x ∷ xs) ys e = absurd cc

-- what bytes begin with that are less than an APDU, given what they begin with when more follows them
incomplete_by : (bytes more : List ℕ) (apdu : ApduValue) (prefix : DecodedApdu) → AreBytes bytes → more ≢ [] → decode_apdu (bytes ++ more) ≡ DecodedApdu.Whole apdu [] → decode_apdu bytes ≡ prefix → prefix ≡ DecodedApdu.Incomplete
incomplete_by bytes more apdu DecodedApdu.Incomplete bounds some longer e = refl
incomplete_by bytes more apdu (DecodedApdu.Whole found rest) bounds some longer e =
    let again = begins_whole (bytes ++ more) found (rest ++ more) (begins_longer bytes more found rest (whole_begins bytes found rest bounds e)) in
    let none : rest ++ more ≡ [] = cc (again, longer) in
    absurd (some (nil_of_append rest more none))
incomplete_by bytes more apdu (DecodedApdu.TooLong n) bounds some longer e =
    let again = too_long_prefix (bytes ++ more) n (too_long_longer bytes more n (prefix_too_long bytes n bounds e)) in
    absurd (cc (again, longer))

pub proper_prefix : (bytes : List ℕ) → AreBytes bytes → IsProperApduPrefix bytes → decode_apdu bytes ≡ DecodedApdu.Incomplete
proper_prefix bytes bounds (more, apdu, some, spells) =
    let longer : decode_apdu (bytes ++ more) ≡ DecodedApdu.Whole apdu [] = begins_whole (bytes ++ more) apdu [] (bytes ++ more, spells, sym (append-nil (bytes ++ more))) in
    incomplete_by bytes more apdu (decode_apdu bytes) bounds some longer refl

-- ---- what is written

written_is_length : (n : ℕ) → SpellsApduLength (canonical_apdu_length n) n
written_is_length n =
    elim (cases_lt n 255) [
      | inl short ↦ let test : ltb n 255 ≡ true = lt-ltb _ _ short in rw test (inl (short, refl))
      | inr long ↦ let test : ltb n 255 ≡ false = le-ltb _ _ long in rw test (inr (n % 256, n / 256, omega arith, refl))
    ]

pub written_spells : (apdu : ApduValue) → length apdu.body ≤ longest_apdu_data → SpellsApdu (canonical_apdu apdu.class apdu.instr apdu.body) apdu
written_spells apdu within = record {
  length_bytes = canonical_apdu_length (length apdu.body);
  is_length = written_is_length (length apdu.body);
  within = within;
  whole = refl;
}

pub written_again : (apdu : ApduValue) (rest : List ℕ) → length apdu.body ≤ longest_apdu_data → decode_apdu (canonical_apdu apdu.class apdu.instr apdu.body ++ rest) ≡ DecodedApdu.Whole apdu rest
written_again apdu rest within = begins_whole (canonical_apdu apdu.class apdu.instr apdu.body ++ rest) apdu rest (canonical_apdu apdu.class apdu.instr apdu.body, written_spells apdu within, refl)
