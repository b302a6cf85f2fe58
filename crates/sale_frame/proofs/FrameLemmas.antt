-- What a stream begins with: one length, and one of a payload, a prefix of a frame and a bad length.
use Rattle.std.proofs.Common.{◌≡◌, ℕ, ◌+◌, ◌-◌, ◌<◌, ◌≤◌, ◌⊎◌, inl, inr, List, ◌++◌, length, take, drop, replicate, refl, ap, sym, ◌∙◌, subst, arith, append_assoc, length-append, length-drop, take-append-drop}
use Rattle.std.proofs.Math.Seq.{take-append_seam, drop-append_seam}
use Rattle.std.proofs.lemmas.List.{take-append-le, length-replicate, length-take, drop-drop}
use Rattle.std.specs.Prelude.{Option, Some, None, MatchOption, slice_range}
use Rattle.std.specs.Borrow.{Bor}
use Rattle.std.proofs.lemmas.Nat.{from_be_bytes-to_be_bytes_4}
use Rattle.std.specs.Int.{w32, to_be_bytes, from_be_bytes}
use Rattle.sale_frame.specs.Grammar.{IsPayloadLength, IsPayload, frame, BeginsWithLength, BeginsWithPayload, IsIncompleteFrame, BeginsWithBadLength, IsFrameRest}

-- the length is the one that the bytes read as
pub spelled : (bytes : List ℕ) (n : ℕ) → BeginsWithLength bytes n → from_be_bytes w32 (take 4 bytes) ≡ n
spelled bytes n h = ap (from_be_bytes w32) h.1 ∙ from_be_bytes-to_be_bytes_4 n h.0

pub one_length : (bytes : List ℕ) (m n : ℕ) → BeginsWithLength bytes m → BeginsWithLength bytes n → m ≡ n
one_length bytes m n first second = sym (spelled bytes m first) ∙ spelled bytes n second

pub payload_begins : (bytes payload left : List ℕ) → IsPayload payload → bytes ≡ frame payload ++ left → BeginsWithLength bytes (length payload)
payload_begins bytes payload left possible whole = (omega arith, ap (take 4) whole)

pub one_payload : (a b x y : List ℕ) → IsPayload a → IsPayload b → frame a ++ x ≡ frame b ++ y → (a ≡ b) × (x ≡ y)
one_payload a b x y p q h =
    let same : length a ≡ length b = one_length (frame a ++ x) (length a) (length b) (payload_begins (frame a ++ x) a x p refl) (payload_begins (frame a ++ x) b y q h) in
    let tails : a ++ x ≡ b ++ y = ap (drop 4) h in (
      sym (take-append_seam a x) ∙ ap (λ n. take n (a ++ x)) same ∙ ap (take (length b)) tails ∙ take-append_seam b y,
      sym (drop-append_seam a x) ∙ ap (λ n. drop n (a ++ x)) same ∙ ap (drop (length b)) tails ∙ drop-append_seam b y,
    )

-- there are four bytes at least where a length begins
pub length_fits : (bytes : List ℕ) (n : ℕ) → BeginsWithLength bytes n → 4 ≤ length bytes
length_fits bytes n h = let e : length (take 4 bytes) ≡ 4 = ap length h.1 in omega (arith, length-take 4 bytes)

-- bytes after the length change nothing of it
pub lengthened : (bytes more : List ℕ) (n : ℕ) → BeginsWithLength bytes n → BeginsWithLength (bytes ++ more) n
lengthened bytes more n h = (h.0, take-append-le 4 bytes more (length_fits bytes n h) ∙ h.1)

pub length-frame : (payload left : List ℕ) → length (frame payload ++ left) ≡ 4 + (length payload + length left)
length-frame payload left = omega (arith, length-append payload left)

-- a prefix of a frame that has its length is shorter than the frame
pub prefix_is_shorter : (bytes : List ℕ) (n : ℕ) → IsIncompleteFrame bytes → BeginsWithLength bytes n → IsPayloadLength n × (length bytes < 4 + n)
prefix_is_shorter bytes n (inl less) h = absurd (omega (arith, length_fits bytes n h))
prefix_is_shorter bytes n (inr (payload, possible, more, some, is)) h =
    let fits : 4 ≤ length bytes = length_fits bytes n h in
    let all : BeginsWithLength (bytes ++ more) n = lengthened bytes more n h in
    let same : length payload ≡ n = one_length (bytes ++ more) (length payload) n (omega arith, ap (take 4) (sym is)) all in
    let sizes : 4 + length payload ≡ length bytes + length more = omega (arith, ap length is, length-append bytes more) in
    (subst IsPayloadLength same possible, omega arith)

-- the other way round: the missing bytes may be any
pub shorter_is_prefix : (bytes : List ℕ) (n : ℕ) → IsPayloadLength n → BeginsWithLength bytes n → length bytes < 4 + n → IsIncompleteFrame bytes
shorter_is_prefix bytes n possible h less =
    let fits : 4 ≤ length bytes = length_fits bytes n h in
    let more : List ℕ = replicate (4 + n - length bytes) 0 in
    let payload : List ℕ = drop 4 bytes ++ more in
    let size : length payload ≡ n = simp (length-append, length-drop, length-replicate) (omega arith) in
    let joined : to_be_bytes w32 n ++ payload ≡ bytes ++ more =
    ap (λ prefix. prefix ++ payload) (sym h.1) ∙ sym (append_assoc (take 4 bytes) (drop 4 bytes) more) ∙ ap (λ whole. whole ++ more) (take-append-drop 4 bytes) in
    inr (payload, subst IsPayloadLength (sym size) possible, more, simp length-replicate (omega arith), ap (λ k. to_be_bytes w32 k ++ payload) size ∙ joined)

-- no bytes are both less than a frame and the beginning of a payload's
pub incomplete_has_no_payload : (bytes payload : List ℕ) → IsIncompleteFrame bytes → BeginsWithPayload bytes payload → ⊥
incomplete_has_no_payload bytes payload incomplete (possible, left, is) =
    let shorter = prefix_is_shorter bytes (length payload) incomplete (payload_begins bytes payload left possible is) in
    let sizes : length bytes ≡ 4 + (length payload + length left) = ap length is ∙ length-frame payload left in
    absurd (omega arith)

-- nor a bad rest
pub bad_has_no_payload : (bytes payload : List ℕ) → BeginsWithBadLength bytes → BeginsWithPayload bytes payload → ⊥
bad_has_no_payload bytes payload (n, begins, impossible) (possible, left, is) =
    impossible (subst IsPayloadLength (one_length bytes (length payload) n (payload_begins bytes payload left possible is) begins) possible)

pub bad_is_no_prefix : (bytes : List ℕ) → IsIncompleteFrame bytes → BeginsWithBadLength bytes → ⊥
bad_is_no_prefix bytes incomplete (n, begins, impossible) = impossible (prefix_is_shorter bytes n incomplete begins).0

pub rest_has_no_payload : (bytes payload : List ℕ) → IsFrameRest bytes → BeginsWithPayload bytes payload → ⊥
rest_has_no_payload bytes payload (inl incomplete) = incomplete_has_no_payload bytes payload incomplete
rest_has_no_payload bytes payload (inr bad) = bad_has_no_payload bytes payload bad

-- a payload after the length that says so
pub payload_after : (waiting payload : List ℕ) (n : ℕ) → IsPayloadLength n → BeginsWithLength waiting n → length payload ≡ n → payload ≡ take n (drop 4 waiting) → BeginsWithPayload waiting payload
payload_after waiting payload n possible begins size is =
    let left : List ℕ = drop n (drop 4 waiting) in (
      subst IsPayloadLength (sym size) possible,
      left,
      sym (take-append-drop 4 waiting) ∙ ap (λ head. head ++ drop 4 waiting) begins.1
          ∙ ap (λ tail. to_be_bytes w32 n ++ tail) (sym (take-append-drop n (drop 4 waiting)) ∙ ap (λ m. m ++ left) (sym is))
          ∙ ap (λ k. to_be_bytes w32 k ++ (payload ++ left)) (sym size),
    )

less_four : (n : ℕ) → 4 + n - 4 ≡ n
less_four n = omega arith

-- what a slice of that length after the four bytes is
pub incomplete_payload : (waiting : List ℕ) (n : ℕ) → IsPayloadLength n → BeginsWithLength waiting n → (found : Option (Bor (List ℕ)))
    → MatchOption found ((4 + n < 4) ⊎ (length waiting < 4 + n)) (λ m. (4 ≤ 4 + n) × (4 + n ≤ length waiting) × (m.now ≡ slice_range waiting 4 (4 + n)) × (length m.now + 4 ≡ 4 + n))
    → MatchOption found (IsIncompleteFrame waiting) (λ m. BeginsWithPayload waiting m.now)
incomplete_payload waiting n possible begins None (inl none) = absurd (omega arith)
incomplete_payload waiting n possible begins None (inr less) = shorter_is_prefix waiting n possible begins less
incomplete_payload waiting n possible begins (Some m) (_, fits, is, size) =
    payload_after waiting m.now n possible begins (omega arith) (is ∙ ap (λ k. take k (drop 4 waiting)) (less_four n))

-- the bytes after the payload
pub after_payload : (waiting payload : List ℕ) → (begins : BeginsWithPayload waiting payload) → drop (4 + length payload) waiting ≡ begins.1
after_payload waiting payload (possible, left, is) =
    ap (drop (4 + length payload)) is ∙ sym (drop-drop (length payload) 4 (frame payload ++ left)) ∙ drop-append_seam payload left
