-- What a reader of frames that holds these bytes has before it.
use Rattle.std.proofs.Common.{◌≡◌, ℕ, ◌+◌, ◌<◌, ◌≤◌, inl, inr, Bool, true, false, List, [], ◌∷◌, ◌++◌, length, take, drop, refl, ap, sym, ◌∙◌, subst, arith, append_assoc, length-append}
use Rattle.std.proofs.lemmas.Bool.{cases_lt, false_from_ne_true, and_from, and_parts, and_left, and_right, lt-ltb, le-leb, lt-leb, ltb-true, leb-true, not_from_true, not_from_false}
use Rattle.std.proofs.lemmas.List.Sums.{fold-append}
use Rattle.std.proofs.lemmas.Bool.Decides.{nat_tests}
use Rattle.std.proofs.lemmas.List.{append-nil, take-append-le, length_push}
use Rattle.std.specs.Prelude.{nat_le, nat_lt, ◌&&◌, not, if◌then◌else◌}
use Rattle.std.specs.List.{fold}
use Rattle.std.specs.Int.{w32, to_be_bytes}
use Rattle.sale_frame.specs.Grammar.{IsPayloadLength, IsPayload, frame, BeginsWithLength, IsIncompleteFrame, BeginsWithBadLength}
use Rattle.sale_frame.specs.Decode.{DecodedFrames, spelled_length, is_frame, with_byte, decode_after, decode_frames, with_payloads}
use Rattle.sale_frame.proofs.DecodeLemmas.{chunks_add, frame_passes, spells, reads_all}
use Rattle.sale_frame.proofs.StreamLemmas.{one_reading}
use Rattle.sale_frame.proofs.FrameLemmas.{spelled, length_fits, lengthened, length-frame, payload_begins}
use Rattle.gw_owes.specs.Items.{Message, Unframed}
use Rattle.gw_owes.specs.Events.{decoded_items, has_bad_length}
use Rattle.gw_owes.specs.Laws.{FindsBadLengths, TillBytesGiveItems}
use Rattle.gw_bytes.specs.Bytes.{AreBytes}

-- no prefix of these bytes is a frame
pub record HasNoFrame (bytes : List ℕ) : Type 0 where
  pub prefixes : (prefix rest : List ℕ) → bytes ≡ prefix ++ rest → is_frame prefix ≡ false

with_byte-false : (payloads : List (List ℕ)) (rest : List ℕ) (byte : ℕ) → is_frame (rest ++ byte ∷ []) ≡ false → with_byte (record { payloads = payloads; rest = rest }) byte ≡ record { payloads = payloads; rest = rest ++ byte ∷ [] }
with_byte-false payloads rest byte e = rw e refl

-- bytes of which no prefix is a frame wait
waiting-from : (payloads : List (List ℕ)) (rest chunk : List ℕ) → HasNoFrame (rest ++ chunk) → fold with_byte (record { payloads = payloads; rest = rest }) chunk ≡ record { payloads = payloads; rest = rest ++ chunk }
waiting-from payloads rest [] h = ap (λ r. record { payloads = payloads; rest = r }) (sym (append-nil rest))
waiting-from payloads rest (byte ∷ chunk) h =
    let step = with_byte-false payloads rest byte (h.prefixes (rest ++ byte ∷ []) chunk (sym (append_assoc rest (byte ∷ []) chunk))) in
    ap (λ r. fold with_byte r chunk) step ∙ waiting-from payloads (rest ++ byte ∷ []) chunk (subst HasNoFrame (sym (append_assoc rest (byte ∷ []) chunk)) h)
    ∙ ap (λ r. record { payloads = payloads; rest = r }) (append_assoc rest (byte ∷ []) chunk)

pub reading-waiting : (bytes : List ℕ) → HasNoFrame bytes → decode_frames bytes ≡ record { payloads = []; rest = bytes }
reading-waiting bytes h = waiting-from [] [] bytes h

prefix-begins : (bytes prefix rest : List ℕ) (n : ℕ) → bytes ≡ prefix ++ rest → 4 ≤ length prefix → BeginsWithLength bytes n → BeginsWithLength prefix n
prefix-begins bytes prefix rest n e fits h = (h.0, sym (take-append-le 4 prefix rest fits) ∙ ap (take 4) (sym e) ∙ h.1)

frame_tested : (bytes : List ℕ) → is_frame bytes ≡ true → IsPayloadLength (spelled_length bytes) × (length bytes ≡ 4 + spelled_length bytes)
frame_tested bytes h = grind (arith, nat_tests)

no_frame : (bytes : List ℕ) → (IsPayloadLength (spelled_length bytes) → length bytes ≡ 4 + spelled_length bytes → ⊥) → is_frame bytes ≡ false
no_frame bytes never = false_from_ne_true (is_frame bytes) (λ e. let t = frame_tested bytes e in never t.0 t.1)

short-prefix : (bytes prefix rest : List ℕ) → bytes ≡ prefix ++ rest → length prefix ≤ length bytes
short-prefix bytes prefix rest e = let l : length bytes ≡ length prefix + length rest = ap length e ∙ length-append prefix rest in omega arith

-- less than a frame waits
pub incomplete-waits : (bytes : List ℕ) → IsIncompleteFrame bytes → HasNoFrame bytes
incomplete-waits bytes (inl few) = record {
  prefixes = λ prefix rest e. no_frame prefix (λ well_formed size. let l = short-prefix bytes prefix rest e in omega arith);
}
incomplete-waits bytes (inr (payload, well_formed, more, some, is)) = record { prefixes = prefixes }
  where
    shorter : length bytes < 4 + length payload
    shorter = let l : length (frame payload) ≡ length bytes + length more = ap length is ∙ length-append bytes more in
        let m : length (frame payload) ≡ 4 + length payload = (let k = length-frame payload [] in let z : length (frame payload ++ []) ≡ length (frame payload) = ap length (append-nil (frame payload)) in omega arith) in
        omega arith

    begins : BeginsWithLength (frame payload) (length payload)
    begins = payload_begins (frame payload) payload [] well_formed (sym (append-nil (frame payload)))

    prefixes : (prefix rest : List ℕ) → bytes ≡ prefix ++ rest → is_frame prefix ≡ false
    prefixes prefix rest e = elim (cases_lt (length prefix) 4) [
      | inl few ↦ no_frame prefix (λ l size. omega arith)
      | inr fits ↦
          let whole : frame payload ≡ prefix ++ (rest ++ more) = is ∙ ap (λ b. b ++ more) e ∙ append_assoc prefix rest more in
          let n : spelled_length prefix ≡ length payload = spelled prefix (length payload) (prefix-begins (frame payload) prefix (rest ++ more) (length payload) whole fits begins) in
          let le : length prefix ≤ length bytes = short-prefix bytes prefix rest e in
          no_frame prefix (λ l size. omega (arith, shorter))
    ]

-- bytes that begin no frame wait too
pub bad-waits : (bytes : List ℕ) → BeginsWithBadLength bytes → HasNoFrame bytes
bad-waits bytes (n, begins, malformed) = record {
  prefixes = λ prefix rest e. elim (cases_lt (length prefix) 4) [
    | inl few ↦ no_frame prefix (λ l size. omega arith)
    | inr fits ↦
        let same : spelled_length prefix ≡ n = spelled prefix n (prefix-begins bytes prefix rest n e fits begins) in
        no_frame prefix (λ l size. malformed (subst IsPayloadLength same l))
  ];
}

well_formed_tested : (n : ℕ) → IsPayloadLength n → (nat_lt 0 n && nat_le n 65536) ≡ true
well_formed_tested n well_formed = and_from (nat_lt 0 n) (nat_le n 65536) (lt-ltb 0 n well_formed.0) (le-leb n 65536 well_formed.1)

tested_well_formed : (n : ℕ) → (nat_lt 0 n && nat_le n 65536) ≡ true → IsPayloadLength n
tested_well_formed n h = let p = and_parts (nat_lt 0 n) (nat_le n 65536) h in (ltb-true 0 n p.0, leb-true n 65536 p.1)

incomplete-framed : (bytes : List ℕ) → IsIncompleteFrame bytes → has_bad_length bytes ≡ false
incomplete-framed bytes h = elim (cases_lt (length bytes) 4) [
  | inl few ↦ and_left (nat_le 4 (length bytes)) _ (lt-leb 4 (length bytes) few)
  | inr fits ↦ long_framed h fits
]
  where
    long_framed : IsIncompleteFrame bytes → 4 ≤ length bytes → has_bad_length bytes ≡ false
    long_framed (inl few) fits = absurd (omega arith)
    long_framed (inr (payload, well_formed, more, some, is)) fits =
        let begins : BeginsWithLength (frame payload) (length payload) = payload_begins (frame payload) payload [] well_formed (sym (append-nil (frame payload))) in
        let n : spelled_length bytes ≡ length payload = spelled bytes (length payload) (prefix-begins (frame payload) bytes more (length payload) is fits begins) in
        and_right (nat_le 4 (length bytes)) _ (not_from_true _ (well_formed_tested (spelled_length bytes) (subst IsPayloadLength (sym n) well_formed)))

bad-unframed : (bytes : List ℕ) → BeginsWithBadLength bytes → has_bad_length bytes ≡ true
bad-unframed bytes (n, begins, malformed) =
    let fits : 4 ≤ length bytes = length_fits bytes n begins in
    let same : spelled_length bytes ≡ n = spelled bytes n begins in
    and_from (nat_le 4 (length bytes)) _ (le-leb 4 (length bytes) fits)
    (not_from_false _ (false_from_ne_true _ (λ e. malformed (subst IsPayloadLength same (tested_well_formed (spelled_length bytes) e)))))

snoc : (first : ℕ) (more : List ℕ) → (init : List ℕ) × (last : ℕ) × (first ∷ more ≡ init ++ last ∷ [])
snoc first [] = ([], first, refl)
snoc first (second ∷ more) = let s = snoc second more in (first ∷ s.0, s.1, ap (λ l. first ∷ l) s.2)

snoc_of : (payload : List ℕ) → 0 < length payload → (init : List ℕ) × (last : ℕ) × (payload ≡ init ++ last ∷ [])
snoc_of [] h = absurd (omega arith)
snoc_of (first ∷ more) h = snoc first more

with_byte-true : (payloads : List (List ℕ)) (rest : List ℕ) (byte : ℕ) → is_frame (rest ++ byte ∷ []) ≡ true → with_byte (record { payloads = payloads; rest = rest }) byte ≡ record { payloads = payloads ++ drop 4 (rest ++ byte ∷ []) ∷ []; rest = [] }
with_byte-true payloads rest byte e = rw e refl

-- one frame is read as its payload
reading-frame : (payload : List ℕ) → IsPayload payload → decode_frames (frame payload) ≡ record { payloads = payload ∷ []; rest = [] }
reading-frame payload well_formed =
    let s = snoc_of payload well_formed.0 in
    let init : List ℕ = to_be_bytes w32 (length payload) ++ s.0 in
    let whole : frame payload ≡ init ++ s.1 ∷ [] = ap (λ m. to_be_bytes w32 (length payload) ++ m) s.2 in
    let waits : HasNoFrame init = incomplete-waits init (inr (payload, well_formed, s.1 ∷ [], omega arith, whole)) in
    ap decode_frames whole ∙ fold-append with_byte (record { payloads = []; rest = [] }) init (s.1 ∷ [])
    ∙ ap (λ r. fold with_byte r (s.1 ∷ [])) (reading-waiting init waits)
    ∙ with_byte-true [] init s.1 (ap is_frame (sym whole) ∙ frame_passes payload well_formed)
    ∙ ap (λ m. record { payloads = m ∷ []; rest = [] }) (ap (drop 4) (sym whole))

-- a payload at the beginning is read first
pub reading-payload : (payload left : List ℕ) → IsPayload payload → decode_frames (frame payload ++ left) ≡ with_payloads (payload ∷ []) (decode_frames left)
reading-payload payload left well_formed = chunks_add (frame payload) left ∙ ap (λ r. with_payloads r.payloads (decode_after r.rest left)) (reading-frame payload well_formed)

-- what a reader that holds these bytes has before it
pub items-waiting : (till : ℕ) (bytes : List ℕ) → IsIncompleteFrame bytes → decoded_items till (decode_frames bytes) ≡ []
items-waiting till bytes h = ap (decoded_items till) (reading-waiting bytes (incomplete-waits bytes h)) ∙ rw (incomplete-framed bytes h) refl

pub items-unframed : (till : ℕ) (bytes : List ℕ) → BeginsWithBadLength bytes → decoded_items till (decode_frames bytes) ≡ Unframed till ∷ []
items-unframed till bytes h = ap (decoded_items till) (reading-waiting bytes (bad-waits bytes h)) ∙ rw (bad-unframed bytes h) refl

pub items-payload : (till : ℕ) (payload left : List ℕ) → IsPayload payload → decoded_items till (decode_frames (frame payload ++ left)) ≡ Message till payload ∷ decoded_items till (decode_frames left)
items-payload till payload left well_formed = ap (decoded_items till) (reading-payload payload left well_formed)

empty-waits : HasNoFrame []
empty-waits = record { prefixes = empty_prefixes }
  where
    empty_prefixes : (prefix rest : List ℕ) → [] ≡ prefix ++ rest → is_frame prefix ≡ false
    empty_prefixes [] rest e = refl
    empty_prefixes (x ∷ prefix) rest e = absurd (cc)

push-same : (xs ys : List ℕ) (x y : ℕ) → xs ++ x ∷ [] ≡ ys ++ y ∷ [] → xs ≡ ys
push-same [] [] x y e = refl
push-same [] (b ∷ ys) x y e = absurd (let l : length (x ∷ []) ≡ length (b ∷ (ys ++ y ∷ [])) = ap length e in omega (arith, length_push ys y))
push-same (a ∷ xs) [] x y e = absurd (let l : length (a ∷ (xs ++ x ∷ [])) ≡ length (y ∷ []) = ap length e in omega (arith, length_push xs x))
push-same (a ∷ xs) (b ∷ ys) x y e =
    let heads : a ≡ b = (let h : a ∷ (xs ++ x ∷ []) ≡ b ∷ (ys ++ y ∷ []) = e in cc) in
    let tails : xs ++ x ∷ [] ≡ ys ++ y ∷ [] = (let h : a ∷ (xs ++ x ∷ []) ≡ b ∷ (ys ++ y ∷ []) = e in cc) in
    ap (λ h. h ∷ xs) heads ∙ ap (λ t. b ∷ t) (push-same xs ys x y tails)

more-waits : (rest : List ℕ) (byte : ℕ) → HasNoFrame rest → is_frame (rest ++ byte ∷ []) ≡ false → HasNoFrame (rest ++ byte ∷ [])
more-waits rest byte h e = record { prefixes = λ prefix more is. by_more prefix more is }
  where
    by_more : (prefix more : List ℕ) → rest ++ byte ∷ [] ≡ prefix ++ more → is_frame prefix ≡ false
    by_more prefix [] is = subst (λ b. is_frame b ≡ false) (is ∙ append-nil prefix) e
    by_more prefix (x ∷ more) is =
        let s = snoc x more in
        let same : rest ++ byte ∷ [] ≡ (prefix ++ s.0) ++ s.1 ∷ [] = is ∙ ap (λ m. prefix ++ m) s.2 ∙ sym (append_assoc prefix s.0 (s.1 ∷ [])) in
        h.prefixes prefix s.0 (push-same rest (prefix ++ s.0) byte s.1 same)

by-test : (payloads : List (List ℕ)) (rest : List ℕ) (byte : ℕ) (chunk : List ℕ) → ((payloads : List (List ℕ)) (rest : List ℕ) → HasNoFrame rest → HasNoFrame (fold with_byte (record { payloads = payloads; rest = rest }) chunk).rest) →
    HasNoFrame rest → (test : Bool) → is_frame (rest ++ byte ∷ []) ≡ test → HasNoFrame (fold with_byte (with_byte (record { payloads = payloads; rest = rest }) byte) chunk).rest
by-test payloads rest byte chunk later h true e = rw (with_byte-true payloads rest byte e) (later (payloads ++ drop 4 (rest ++ byte ∷ []) ∷ []) [] empty-waits)
by-test payloads rest byte chunk later h false e = rw (with_byte-false payloads rest byte e) (later payloads (rest ++ byte ∷ []) (more-waits rest byte h e))

rest-waits-from : (payloads : List (List ℕ)) (rest chunk : List ℕ) → HasNoFrame rest → HasNoFrame (fold with_byte (record { payloads = payloads; rest = rest }) chunk).rest
rest-waits-from payloads rest [] h = h
rest-waits-from payloads rest (byte ∷ chunk) h = by-test payloads rest byte chunk (λ m r k. rest-waits-from m r chunk k) h (is_frame (rest ++ byte ∷ [])) refl

-- what is left of a reading holds no frame
pub rest-waits : (bytes : List ℕ) → HasNoFrame (decode_frames bytes).rest
rest-waits bytes = rest-waits-from [] [] bytes empty-waits

-- a chunk after what is left
pub reading-chunk : (heard chunk : List ℕ) → decode_frames ((decode_frames heard).rest ++ chunk) ≡ decode_after (decode_frames heard).rest chunk
reading-chunk heard chunk =
    let rest = (decode_frames heard).rest in
    chunks_add rest chunk ∙ ap (λ r. with_payloads r.payloads (decode_after r.rest chunk)) (reading-waiting rest (rest-waits heard))

-- what is left once the chunk was heard
pub rest-chunk : (heard chunk : List ℕ) → (decode_frames (heard ++ chunk)).rest ≡ (decode_frames ((decode_frames heard).rest ++ chunk)).rest
rest-chunk heard chunk = ap (λ (r : DecodedFrames). r.rest) (chunks_add heard chunk) ∙ ap (λ (r : DecodedFrames). r.rest) (sym (reading-chunk heard chunk))

-- ---- what newly heard bytes owe

unframed-bad : (bytes : List ℕ) → AreBytes bytes → has_bad_length bytes ≡ true → BeginsWithBadLength bytes
unframed-bad bytes small test =
    let parts = and_parts (nat_le 4 (length bytes)) _ test in
    (spelled_length bytes, spells bytes small (leb-true 4 _ parts.0), λ well_formed. true_not _ (well_formed_tested (spelled_length bytes) well_formed) parts.1)
  where
    true_not : (b : Bool) → b ≡ true → not b ≡ true → ⊥
    true_not true e h = let k : false ≡ true = h in cc
    true_not false e h = let k : false ≡ true = e in cc

pub finds-bad : FindsBadLengths
finds-bad rest small = (unframed-bad rest small, bad-unframed rest)

-- bytes after a bad rest complete nothing
bad-completes : (rest chunk : List ℕ) → BeginsWithBadLength rest → (decode_after rest chunk).payloads ≡ []
bad-completes rest chunk (n, begins, malformed) =
    ap (λ (r : DecodedFrames). r.payloads) (waiting-from [] rest chunk (bad-waits (rest ++ chunk) (n, lengthened rest chunk n begins, malformed)))

bytes-prefix : (prefix more : List ℕ) → AreBytes (prefix ++ more) → AreBytes prefix
bytes-prefix [] more small = tt
bytes-prefix (byte ∷ prefix) more small = (small.0, bytes-prefix prefix more small.1)

pub till-bytes-give : TillBytesGiveItems
till-bytes-give till heard chunk before all rest left small old new =
    let first = one_reading heard (decode_frames heard).payloads before (decode_frames heard).rest rest (reads_all heard (bytes-prefix heard chunk small)) old in
    let second = one_reading (heard ++ chunk) (decode_frames (heard ++ chunk)).payloads all (decode_frames (heard ++ chunk)).rest left (reads_all (heard ++ chunk) small) new in
    let more = chunks_add heard chunk in
    let reading : DecodedFrames = decode_after (decode_frames heard).rest chunk in
    let left_is : reading.rest ≡ left = sym (ap (λ (r : DecodedFrames). r.rest) more) ∙ second.1 in
    record {
      new = reading.payloads;
      last = if has_bad_length reading.rest then Unframed till ∷ [] else [];
      completed = sym second.0 ∙ ap (λ (r : DecodedFrames). r.payloads) more ∙ ap (λ b. b ++ reading.payloads) first.0;
      items_are = refl;
      bad = λ h. rw (left_is, bad-unframed left h) refl;
      incomplete = λ h. rw (left_is, incomplete-framed left h) refl;
      after_bad = λ h. bad-completes (decode_frames heard).rest chunk (subst BeginsWithBadLength (sym first.1) h);
    }
