-- Buffers that only grow: each append leaves what was there as a prefix.
use Rattle.std.proofs.Common.{◌≡◌, ℕ, List, [], ◌++◌, length, take, cond, sym, ap, ◌∙◌, append_assoc, Result, Ok, Err, OnOk, OnErr}
use Rattle.std.specs.Result.{is_ok}
use Rattle.std.proofs.lemmas.List.{append-nil}
use Rattle.std.proofs.Math.Seq.{take-append_seam}
use Rattle.gw_bytes.specs.Bytes.{IsPrefix}

-- nothing was appended
pub same_grows : (old new : List ℕ) → new ≡ old → IsPrefix old new
same_grows old new e = ([], e ∙ sym (append-nil old))

-- one buffer grows into a second, and this into a third
pub grows_on : (old between new : List ℕ) → IsPrefix old between → IsPrefix between new → IsPrefix old new
grows_on old between new (a, e) (b, f) = (a ++ b, f ∙ ap (λ l. l ++ b) e ∙ append_assoc old a b)

-- an append adds its bytes, or where it is refused nothing
pub append_grows : {T E : Type 0} (r : Result T E) (old chunk new : List ℕ) → new ≡ cond (is_ok r) (old ++ chunk) old → IsPrefix old new
append_grows (Ok x) old chunk new e = (chunk, e)
append_grows (Err x) old chunk new e = same_grows old new e

-- a text is written, or where it is refused nothing
pub text_grows : {T E : Type 0} (r : Result T E) (old chunk new : List ℕ) → OnOk r (new ≡ old ++ chunk) → OnErr r (new ≡ old) → IsPrefix old new
text_grows (Ok x) old chunk new e f = (chunk, e)
text_grows (Err x) old chunk new e f = same_grows old new f

-- a buffer that has grown, truncated to its length before, is what it was
pub truncated : (old now new : List ℕ) (n : ℕ) → IsPrefix old now → n ≡ length old → new ≡ take n now → new ≡ old
truncated old now new n (part, appended) size taken =
    taken ∙ ap (λ k. take k now) size ∙ ap (take (length old)) appended ∙ take-append_seam old part
