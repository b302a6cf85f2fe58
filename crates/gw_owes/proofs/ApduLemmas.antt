-- The items of a terminal's newly heard bytes.
use Rattle.std.proofs.Common.{◌≡◌, ℕ, List, [], ◌∷◌, ◌++◌, refl, sym, ◌∙◌, ap, subst, append_assoc}
use Rattle.std.specs.Prelude.{if◌then◌else◌}
use Rattle.gw_bytes.specs.Bytes.{AreBytes}
use Rattle.gw_bytes.proofs.ByteLemmas.{bytes_prefix, bytes_rest}
use Rattle.zvt_apdu.specs.Grammar.{ApduValue, BeginsTooLongApdu}
use Rattle.zvt_apdu.specs.Decode.{decode_apdu}
use Rattle.zvt_apdu.specs.Stream.{BeginsWithApdus}
use Rattle.zvt_apdu.specs.DecodeStream.{DecodedApdus, decode_apdus}
use Rattle.zvt_apdu.proofs.DecodeLemmas.{begins_longer, too_long_prefix, proper_prefix}
use Rattle.zvt_apdu.proofs.DecodeStreamLemmas.{split_is, split_too_long}
use Rattle.zvt_apdu.proofs.StreamLemmas.{one_reading}
use Rattle.gw_owes.specs.Items.{Oversized}
use Rattle.gw_owes.specs.Events.{is_oversized}
use Rattle.gw_owes.specs.Laws.{PtBytesGiveItems}

-- a header with a length above the limit, and more bytes
longer : (bytes more : List ℕ) (n : ℕ) → BeginsTooLongApdu bytes n → BeginsTooLongApdu (bytes ++ more) n
longer bytes more n (class, instr, length_bytes, after, is_length, above, parts) =
    (class, instr, length_bytes, after ++ more, is_length, above, ap (λ (b : List ℕ). b ++ more) parts ∙ ap (λ (t : List ℕ). class ∷ instr ∷ t) (append_assoc length_bytes after more))

-- APDUs, and then more APDUs
joined : (first second : List ApduValue) (bytes rest chunk left : List ℕ) → BeginsWithApdus bytes first rest → BeginsWithApdus (rest ++ chunk) second left → BeginsWithApdus (bytes ++ chunk) (first ++ second) left
joined [] second bytes rest chunk left same splits = subst (λ (b : List ℕ). BeginsWithApdus (b ++ chunk) second left) (sym same) splits
joined (apdu ∷ first) second bytes rest chunk left (more, begins, splits) after =
    (more ++ chunk, begins_longer bytes chunk apdu more begins, joined first second more rest chunk left splits after)

-- no APDU is added to bytes that begin one above the limit
none-after : (rest chunk : List ℕ) (n : ℕ) → BeginsTooLongApdu rest n → (decode_apdus (rest ++ chunk)).apdus ≡ []
none-after rest chunk n h = ap (λ (d : DecodedApdus). d.apdus) (split_too_long (rest ++ chunk) n (too_long_prefix (rest ++ chunk) n (longer rest chunk n h)))

-- the bytes of a rest are bytes
rest-bytes : (apdus : List ApduValue) (bytes rest : List ℕ) → BeginsWithApdus bytes apdus rest → AreBytes bytes → AreBytes rest
rest-bytes [] bytes rest same small = subst AreBytes same small
rest-bytes (apdu ∷ apdus) bytes rest (more, (prefix, spells, parts), splits) small = rest-bytes apdus more rest splits (bytes_rest prefix more (subst AreBytes parts small))

pub pt-bytes-give : PtBytesGiveItems
pt-bytes-give number heard chunk before all rest left small old new =
    let held = split_is heard (bytes_prefix heard chunk small) in
    let first = one_reading (decode_apdus heard).apdus before heard (decode_apdus heard).rest rest held.splits held.ends old.splits old.ends in
    let waits : List ℕ = (decode_apdus heard).rest ++ chunk in
    let waiting : AreBytes waits = both-bytes (decode_apdus heard).apdus heard (decode_apdus heard).rest chunk held.splits small in
    let given = split_is waits waiting in
    let both = joined (decode_apdus heard).apdus (decode_apdus waits).apdus heard (decode_apdus heard).rest chunk (decode_apdus waits).rest held.splits given.splits in
    let second = one_reading ((decode_apdus heard).apdus ++ (decode_apdus waits).apdus) all (heard ++ chunk) (decode_apdus waits).rest left both given.ends new.splits new.ends in
    let left_bytes : AreBytes left = subst AreBytes second.1 (rest-bytes (decode_apdus waits).apdus waits (decode_apdus waits).rest given.splits waiting) in
    record {
      new = (decode_apdus waits).apdus;
      last = if is_oversized (decode_apdu (decode_apdus waits).rest) then Oversized number ∷ [] else [];
      completed = sym second.0 ∙ ap (λ b. b ++ (decode_apdus waits).apdus) first.0;
      items_are = refl;
      too_long = λ n h. rw (second.1, too_long_prefix left n h) refl;
      incomplete = λ h. rw (second.1, proper_prefix left left_bytes h) refl;
      after_bad = λ n h. none-after (decode_apdus heard).rest chunk n (subst (λ (b : List ℕ). BeginsTooLongApdu b n) (sym first.1) h);
    }
  where
    both-bytes : (apdus : List ApduValue) (bytes rest chunk : List ℕ) → BeginsWithApdus bytes apdus rest → AreBytes (bytes ++ chunk) → AreBytes (rest ++ chunk)
    both-bytes [] bytes rest chunk same small = subst (λ (b : List ℕ). AreBytes (b ++ chunk)) same small
    both-bytes (apdu ∷ apdus) bytes rest chunk (more, (prefix, spells, parts), splits) small =
        both-bytes apdus more rest chunk splits (bytes_rest prefix (more ++ chunk) (subst AreBytes (ap (λ (b : List ℕ). b ++ chunk) parts ∙ append_assoc prefix more chunk) small))
