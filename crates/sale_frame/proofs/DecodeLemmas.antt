-- Decoding byte by byte gives what Frames relates to the stream.
use Rattle.std.proofs.Common.{◌≡◌, ℕ, lit<, ◌+◌, ◌<◌, ◌≤◌, inl, inr, Bool, true, false, cond, List, [], ◌∷◌, ◌++◌, length, drop, refl, ap, sym, ◌∙◌, subst, arith, append_assoc, length-drop}
use Rattle.std.proofs.lemmas.Bool.{cases_lt, and_from, lt-ltb, le-leb, eq-eqb}
use Rattle.std.specs.Prelude.{◌↔◌, if◌then◌else◌, Option, Some, None}
use Rattle.std.proofs.lemmas.Bool.Decides.{nat_tests}
use Rattle.std.proofs.lemmas.Nat.{be_bytes_4}
use Rattle.std.proofs.lemmas.Grind.{flat_map-append}
use Rattle.std.proofs.lemmas.List.{append-nil, take-append-drop, take-append-le, length_push}
use Rattle.std.proofs.lemmas.List.Sums.{fold-append}
use Rattle.std.specs.List.{AllByRecursion, fold}
use Rattle.std.specs.Int.{w32, to_be_bytes, from_be_bytes}
use Rattle.gw_bytes.specs.Bytes.{AreBytes}
use Rattle.gw_bytes.proofs.ByteLemmas.{each_byte}
use Rattle.sale_frame.specs.Grammar.{IsPayloadLength, IsPayload, frame, IsFrame, frames, BeginsWithLength, BeginsWithPayload, IsIncompleteFrame, IsFrameRest, Frames}
use Rattle.sale_frame.specs.Decode.{DecodedFrames, spelled_length, is_frame, with_byte, decode_after, decode_frames, with_payloads}
use Rattle.sale_frame.proofs.StreamLemmas.{one_reading}
use Rattle.sale_frame.proofs.FrameLemmas.{spelled, payload_begins, length-frame, prefix_is_shorter, shorter_is_prefix, lengthened}

bytes_more : (bytes : List ℕ) (byte : ℕ) → AreBytes bytes → byte < 256 → AreBytes (bytes ++ byte ∷ [])
bytes_more [] byte small one = (one, tt)
bytes_more (first ∷ bytes) byte small one = (small.0, bytes_more bytes byte small.1 one)

each_more : (payloads : List (List ℕ)) (payload : List ℕ) → AllByRecursion IsPayload payloads → IsPayload payload → AllByRecursion IsPayload (payloads ++ payload ∷ [])
each_more [] payload each one = (one, tt)
each_more (first ∷ payloads) payload each one = (each.0, each_more payloads payload each.1 one)

-- four bytes spell some length
pub spells : (bytes : List ℕ) → AreBytes bytes → 4 ≤ length bytes → BeginsWithLength bytes (spelled_length bytes)
spells [] small fits = absurd (omega arith)
spells (a ∷ []) small fits = absurd (omega arith)
spells (a ∷ b ∷ []) small fits = absurd (omega arith)
spells (a ∷ b ∷ c ∷ []) small fits = absurd (omega arith)
spells (a ∷ b ∷ c ∷ d ∷ bytes) (p, (q, (r, (s, _)))) fits =
    let four : List ℕ = a ∷ b ∷ c ∷ d ∷ [] in
    let small : AreBytes four = (p, (q, (r, (s, tt)))) in
    (omega arith, sym (be_bytes_4 four (from_be_bytes w32 four) refl (each_byte four small) refl))

frame_tested : (bytes : List ℕ) → is_frame bytes ≡ true → IsPayloadLength (spelled_length bytes) × (length bytes ≡ 4 + spelled_length bytes)
frame_tested bytes h = grind (arith, nat_tests)

no_frame_tested : (bytes : List ℕ) → is_frame bytes ≡ false → IsPayloadLength (spelled_length bytes) → length bytes ≡ 4 + spelled_length bytes → ⊥
no_frame_tested bytes h possible size = grind (arith, nat_tests)

still_prefix : (rest : List ℕ) (byte n : ℕ) → BeginsWithLength (rest ++ byte ∷ []) n → IsIncompleteFrame rest → IsPayloadLength n → (length (rest ++ byte ∷ []) ≡ 4 + n → ⊥) → IsIncompleteFrame (rest ++ byte ∷ [])
still_prefix rest byte n begins incomplete possible other =
    let size : length (rest ++ byte ∷ []) ≡ length rest + 1 = length_push rest byte in
    elim (cases_lt (length rest) 4) [
      | inl less ↦ shorter_is_prefix (rest ++ byte ∷ []) n possible begins (omega arith)
      | inr fits ↦
          let shorter : IsPayloadLength n × (length rest < 4 + n) =
          prefix_is_shorter rest n incomplete (begins.0, sym (take-append-le 4 rest (byte ∷ []) fits) ∙ begins.1) in
          shorter_is_prefix (rest ++ byte ∷ []) n possible begins (omega arith)
    ]

-- a prefix of a frame stays one, or its length is bad, with a byte that doesn't complete a frame
longer_prefix : (rest : List ℕ) (byte : ℕ) → AreBytes rest → byte < 256 → IsIncompleteFrame rest → is_frame (rest ++ byte ∷ []) ≡ false → IsFrameRest (rest ++ byte ∷ [])
longer_prefix rest byte small one incomplete test =
    let bytes : List ℕ = rest ++ byte ∷ [] in
    let n : ℕ = spelled_length bytes in
    let size : length bytes ≡ length rest + 1 = length_push rest byte in
    elim (cases_lt (length bytes) 4) [
      | inl less ↦ inl (inl less)
      | inr fits ↦ with_length rest byte n (spells bytes (bytes_more rest byte small one) fits) incomplete (no_frame_tested bytes test)
    ]
  where
    with_length : (rest : List ℕ) (byte n : ℕ) → BeginsWithLength (rest ++ byte ∷ []) n → IsIncompleteFrame rest → (IsPayloadLength n → length (rest ++ byte ∷ []) ≡ 4 + n → ⊥) → IsFrameRest (rest ++ byte ∷ [])
    with_length rest byte n begins incomplete other = elim (cases_lt 0 n) [
      | inr none ↦ inr (n, begins, λ possible. omega arith)
      | inl some ↦ elim (cases_lt 65536 n) [
        | inl long ↦ inr (n, begins, λ possible. omega arith)
        | inr fits ↦ inl (still_prefix rest byte n begins incomplete (some, fits) (other (some, fits)))
      ]
    ]

longer_rest : (rest : List ℕ) (byte : ℕ) → AreBytes rest → byte < 256 → IsFrameRest rest → is_frame (rest ++ byte ∷ []) ≡ false → IsFrameRest (rest ++ byte ∷ [])
longer_rest rest byte small one (inl incomplete) test = longer_prefix rest byte small one incomplete test
longer_rest rest byte small one (inr (n, begins, impossible)) test = inr (n, lengthened rest (byte ∷ []) n begins, impossible)

frame_size : (payload : List ℕ) → length (frame payload) ≡ 4 + length payload
frame_size payload = omega (arith, length-frame payload [], ap length (append-nil (frame payload)))

-- a frame is that of the bytes after its length
pub is_framed : (bytes : List ℕ) → AreBytes bytes → is_frame bytes ≡ true → IsPayload (drop 4 bytes) × (bytes ≡ frame (drop 4 bytes))
is_framed bytes small test =
    let tested : IsPayloadLength (spelled_length bytes) × (length bytes ≡ 4 + spelled_length bytes) = frame_tested bytes test in
    let size : length (drop 4 bytes) ≡ spelled_length bytes = omega (arith, length-drop 4 bytes, tested.1) in
    let begins : BeginsWithLength bytes (spelled_length bytes) = spells bytes small (omega (arith, tested.1)) in (
      subst IsPayloadLength (sym size) tested.0,
      sym (take-append-drop 4 bytes) ∙ ap (λ head. head ++ drop 4 bytes) begins.1 ∙ ap (λ k. to_be_bytes w32 k ++ drop 4 bytes) (sym size),
    )

-- and the frame of a payload passes the test
pub frame_passes : (payload : List ℕ) → IsPayload payload → is_frame (frame payload) ≡ true
frame_passes payload possible =
    let begins : BeginsWithLength (frame payload) (length payload) = payload_begins (frame payload) payload [] possible (sym (append-nil (frame payload))) in
    let same : spelled_length (frame payload) ≡ length payload = spelled (frame payload) (length payload) begins in
    let size : length (frame payload) ≡ 4 + length payload = frame_size payload in
    and_from _ _ (lt-ltb 0 _ (subst (λ n. 0 < n) (sym same) possible.0))
    (and_from _ _ (le-leb _ 65536 (subst (λ n. n ≤ 65536) (sym same) possible.1)) (eq-eqb (length (frame payload)) _ (size ∙ ap (λ n. 4 + n) (sym same))))

pub frames_found : (bytes : List ℕ) → AreBytes bytes → is_frame bytes ≡ true ↔ IsFrame bytes
frames_found bytes small = (
  λ test. let framed = is_framed bytes small test in (drop 4 bytes, framed.0, framed.1),
  λ found. subst (λ b. is_frame b ≡ true) (sym found.2) (frame_passes found.0 found.1),
)

is_no : (b : Bool) → (b ≡ true → ⊥) → b ≡ false
is_no true never = absurd (never refl)
is_no false never = refl

-- bytes of another length than the one that they begin with are no frame
pub no_frame : (bytes : List ℕ) (n : ℕ) → BeginsWithLength bytes n → (IsPayloadLength n → length bytes ≡ 4 + n → ⊥) → is_frame bytes ≡ false
no_frame bytes n begins other = is_no (is_frame bytes) (λ test.
    let tested : IsPayloadLength (spelled_length bytes) × (length bytes ≡ 4 + spelled_length bytes) = frame_tested bytes test in
    let same : spelled_length bytes ≡ n = spelled bytes n begins in
    other (subst IsPayloadLength same tested.0) (tested.1 ∙ ap (λ k. 4 + k) same))

-- nor are those that are less than a frame
pub no_frame_yet : (bytes : List ℕ) → IsIncompleteFrame bytes → is_frame bytes ≡ false
no_frame_yet bytes incomplete = is_no (is_frame bytes) (λ test.
    let tested : IsPayloadLength (spelled_length bytes) × (length bytes ≡ 4 + spelled_length bytes) = frame_tested bytes test in
    begun bytes incomplete (omega (arith, tested.1)) tested.1)
  where
    begun : (bytes : List ℕ) → IsIncompleteFrame bytes → 4 ≤ length bytes → length bytes ≡ 4 + spelled_length bytes → ⊥
    begun bytes (inl less) fits size = absurd (omega arith)
    begun bytes (inr (payload, possible, more, some, is)) fits size =
        let all : BeginsWithLength (bytes ++ more) (length payload) = payload_begins (bytes ++ more) payload [] possible (sym is ∙ sym (append-nil (frame payload))) in
        let begins : BeginsWithLength bytes (length payload) = (all.0, sym (take-append-le 4 bytes more fits) ∙ all.1) in
        let shorter = prefix_is_shorter bytes (length payload) (inr (payload, possible, more, some, is)) begins in
        let same : spelled_length bytes ≡ length payload = spelled bytes (length payload) begins in
        absurd (omega (arith, shorter.1, size, same))

-- the frame of a payload is one, and the payload follows its length
pub whole_frame : (bytes payload : List ℕ) → BeginsWithPayload bytes payload → 4 + length payload ≡ length bytes → (is_frame bytes ≡ true) × (drop 4 bytes ≡ payload)
whole_frame bytes payload (possible, left, is) size =
    let none : left ≡ [] = no_more left (omega (arith, size, ap length is, length-frame payload left)) in
    let same : bytes ≡ frame payload = is ∙ ap (λ rest. frame payload ++ rest) none ∙ append-nil (frame payload) in
    (subst (λ b. is_frame b ≡ true) (sym same) (frame_passes payload possible), ap (drop 4) same)
  where
    no_more : (left : List ℕ) → length left ≡ 0 → left ≡ []
    no_more [] e = refl
    no_more (_ ∷ _) e = absurd (omega arith)

-- bytes that begin with a payload's frame and are longer are none
pub no_whole_frame : (bytes payload : List ℕ) → BeginsWithPayload bytes payload → (4 + length payload ≡ length bytes → ⊥) → is_frame bytes ≡ false
no_whole_frame bytes payload (possible, left, is) longer =
    no_frame bytes (length payload) (payload_begins bytes payload left possible is) (λ _ size. longer (sym size))

-- the payload of a frame
abbrev pub payload_of : List ℕ → Option (List ℕ)
payload_of bytes = if is_frame bytes then Some (drop 4 bytes) else None

pub no_payload : (bytes : List ℕ) → is_frame bytes ≡ false → None ≡ payload_of bytes
no_payload bytes other = ap (λ (test : Bool). if test then Some (drop 4 bytes) else None) (sym other)

pub whole_payload : (bytes payload : List ℕ) → BeginsWithPayload bytes payload → 4 + length payload ≡ length bytes → Some payload ≡ payload_of bytes
whole_payload bytes payload begins size =
    let whole = whole_frame bytes payload begins size in
    sym (ap (λ (test : Bool). if test then Some (drop 4 bytes) else None) whole.0 ∙ ap Some whole.1)

frames-append : (payloads : List (List ℕ)) (payload : List ℕ) → frames (payloads ++ payload ∷ []) ≡ frames payloads ++ frame payload
frames-append payloads payload = flat_map-append frame payloads (payload ∷ []) ∙ ap (λ s. frames payloads ++ s) (append-nil (frame payload))

-- one byte more, by whether it ends a frame
abbrev after_test : DecodedFrames → List ℕ → Bool → DecodedFrames
after_test read bytes test = cond test (record { payloads = read.payloads ++ drop 4 bytes ∷ []; rest = [] }) (record { payloads = read.payloads; rest = bytes })

pub record IsRead (bytes_read : List ℕ) (read : DecodedFrames) : Type 0 where
  pub frames : Frames bytes_read read.payloads read.rest
  pub bytes : AreBytes read.rest

by_test : (bytes_read : List ℕ) (read : DecodedFrames) (byte : ℕ) → IsRead bytes_read read → byte < 256 → (test : Bool) → is_frame (read.rest ++ byte ∷ []) ≡ test
    → IsRead (bytes_read ++ byte ∷ []) (after_test read (read.rest ++ byte ∷ []) test)
by_test bytes_read read byte so_far one true h =
    let bytes : List ℕ = read.rest ++ byte ∷ [] in
    let framed : IsPayload (drop 4 bytes) × (bytes ≡ frame (drop 4 bytes)) = is_framed bytes (bytes_more read.rest byte so_far.bytes one) h in
    record {
      frames = record {
        whole = ap (λ s. s ++ byte ∷ []) so_far.frames.whole ∙ append_assoc (frames read.payloads) read.rest (byte ∷ [])
            ∙ ap (λ s. frames read.payloads ++ s) framed.1 ∙ sym (frames-append read.payloads (drop 4 bytes)) ∙ sym (append-nil (frames (read.payloads ++ drop 4 bytes ∷ [])));
        each = each_more read.payloads (drop 4 bytes) so_far.frames.each framed.0;
        ended = inl (inl (lit< tt));
      };
      bytes = tt;
    }
by_test bytes_read read byte so_far one false h = record {
  frames = record {
    whole = ap (λ s. s ++ byte ∷ []) so_far.frames.whole ∙ append_assoc (frames read.payloads) read.rest (byte ∷ []);
    each = so_far.frames.each;
    ended = longer_rest read.rest byte so_far.bytes one so_far.frames.ended h;
  };
  bytes = bytes_more read.rest byte so_far.bytes one;
}

reads_on : (bytes_read bytes : List ℕ) (read : DecodedFrames) → IsRead bytes_read read → AreBytes bytes → IsRead (bytes_read ++ bytes) (fold with_byte read bytes)
reads_on bytes_read [] read so_far small = subst (λ s. IsRead s read) (sym (append-nil bytes_read)) so_far
reads_on bytes_read (byte ∷ bytes) read so_far small =
    subst (λ s. IsRead s (fold with_byte (with_byte read byte) bytes)) (append_assoc bytes_read (byte ∷ []) bytes)
    (reads_on (bytes_read ++ byte ∷ []) bytes (with_byte read byte) (by_test bytes_read read byte so_far small.0 (is_frame (read.rest ++ byte ∷ [])) refl) small.1)

pub reads_all : (bytes : List ℕ) → AreBytes bytes → Frames bytes (decode_frames bytes).payloads (decode_frames bytes).rest
reads_all bytes small = (reads_on [] bytes (record { payloads = []; rest = [] }) (record { frames = record { whole = refl; each = tt; ended = inl (inl (lit< tt)) }; bytes = tt }) small).frames

-- payloads before change nothing of what a chunk completes
before_test : (before : List (List ℕ)) (chunk : List ℕ)
    → ((payloads : List (List ℕ)) (rest : List ℕ) → fold with_byte (record { payloads = before ++ payloads; rest = rest }) chunk ≡ with_payloads before (fold with_byte (record { payloads = payloads; rest = rest }) chunk))
    → (payloads : List (List ℕ)) (rest bytes : List ℕ) (test : Bool)
    → fold with_byte (after_test (record { payloads = before ++ payloads; rest = rest }) bytes test) chunk ≡ with_payloads before (fold with_byte (after_test (record { payloads = payloads; rest = rest }) bytes test) chunk)
before_test before chunk others payloads rest bytes true =
    ap (λ m. fold with_byte (record { payloads = m; rest = [] }) chunk) (append_assoc before payloads (drop 4 bytes ∷ [])) ∙ others (payloads ++ drop 4 bytes ∷ []) []
before_test before chunk others payloads rest bytes false = others payloads bytes

before_others : (before : List (List ℕ)) (chunk : List ℕ) (payloads : List (List ℕ)) (rest : List ℕ)
    → fold with_byte (record { payloads = before ++ payloads; rest = rest }) chunk ≡ with_payloads before (fold with_byte (record { payloads = payloads; rest = rest }) chunk)
before_others before [] payloads rest = refl
before_others before (byte ∷ chunk) payloads rest =
    before_test before chunk (before_others before chunk) payloads rest (rest ++ byte ∷ []) (is_frame (rest ++ byte ∷ []))

pub chunks_add : (bytes chunk : List ℕ) → decode_frames (bytes ++ chunk) ≡ with_payloads (decode_frames bytes).payloads (decode_after (decode_frames bytes).rest chunk)
chunks_add bytes chunk =
    fold-append with_byte (record { payloads = []; rest = [] }) bytes chunk
    ∙ ap (λ m. fold with_byte (record { payloads = m; rest = (decode_frames bytes).rest }) chunk) (sym (append-nil (decode_frames bytes).payloads))
    ∙ before_others (decode_frames bytes).payloads chunk [] (decode_frames bytes).rest

bytes_prefix : (rest chunk : List ℕ) → AreBytes (rest ++ chunk) → AreBytes rest
bytes_prefix [] chunk small = tt
bytes_prefix (byte ∷ rest) chunk small = (small.0, bytes_prefix rest chunk small.1)

-- a rest is read as no payload and itself
rest_alone : (rest : List ℕ) → IsFrameRest rest → AreBytes rest → decode_frames rest ≡ record { payloads = []; rest = rest }
rest_alone rest is_rest small =
    let same : ([] ≡ (decode_frames rest).payloads) × (rest ≡ (decode_frames rest).rest) =
    one_reading rest [] (decode_frames rest).payloads rest (decode_frames rest).rest (record { whole = refl; each = tt; ended = is_rest }) (reads_all rest small) in
    ap (λ m. record { payloads = m; rest = (decode_frames rest).rest }) (sym same.0) ∙ ap (λ r. record { payloads = []; rest = r }) (sym same.1)

pub completes : (rest chunk left : List ℕ) (payloads : List (List ℕ)) → IsFrameRest rest → AreBytes (rest ++ chunk) → Frames (rest ++ chunk) payloads left
    → ((decode_after rest chunk).payloads ≡ payloads) × ((decode_after rest chunk).rest ≡ left)
completes rest chunk left payloads is_rest small frames =
    let alone : decode_frames rest ≡ record { payloads = []; rest = rest } = rest_alone rest is_rest (bytes_prefix rest chunk small) in
    let both : decode_frames (rest ++ chunk) ≡ decode_after rest chunk = chunks_add rest chunk ∙ ap (λ r. with_payloads r.payloads (decode_after r.rest chunk)) alone in
    subst (λ r. (r.payloads ≡ payloads) × (r.rest ≡ left)) both
    (one_reading (rest ++ chunk) (decode_frames (rest ++ chunk)).payloads payloads (decode_frames (rest ++ chunk)).rest left (reads_all (rest ++ chunk) small) frames)
