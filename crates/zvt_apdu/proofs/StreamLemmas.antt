-- Whatever the chunks, the APDUs given are those of all the bytes fed.
use Rattle.std.proofs.Common.{◌≡◌, ℕ, List, [], ◌∷◌, ◌++◌, refl, sym, ap, subst, ◌∙◌, append_assoc, inl, inr}
use Rattle.std.proofs.lemmas.List.{append-nil, append_cancel_right}
use Rattle.zvt_apdu.specs.Grammar.{ApduValue, SpellsApdu, BeginsWithApdu}
use Rattle.zvt_apdu.specs.Stream.{BeginsWithApdus, IsEndOfApdus, ApduStep, TakesApdu}
use Rattle.gw_bytes.specs.Chunks.{Fed, Gave, Incomplete, Refused, Steps, fed, given}
use Rattle.zvt_apdu.proofs.DecodeLemmas.{begins_whole, too_long_prefix, begins_longer, nil_of_append}

-- ---- one reading

pub no_proper_prefix : (a b x y : List ℕ) (m n : ApduValue) → SpellsApdu a m → SpellsApdu b n → a ++ x ≡ b ++ y → (a ≡ b) × (m ≡ n) × (x ≡ y)
no_proper_prefix a b x y m n first second same =
    let one = begins_whole (a ++ x) m x (a, first, refl) in
    let other = begins_whole (a ++ x) n y (b, second, same) in
    let apdus : m ≡ n = cc (one, other) in
    let rests : x ≡ y = cc (one, other) in
    (append_cancel_right a b x (same ∙ ap (λ (t : List ℕ). b ++ t) (sym rests)), apdus, rests)

-- an end begins with no APDU
end_begins : (bytes : List ℕ) (apdu : ApduValue) (rest : List ℕ) → IsEndOfApdus bytes → BeginsWithApdu bytes apdu rest → ⊥
end_begins bytes apdu rest (inl (more, other, some, spells)) begins =
    let longer = begins_whole (bytes ++ more) apdu (rest ++ more) (begins_longer bytes more apdu rest begins) in
    let whole = begins_whole (bytes ++ more) other [] (bytes ++ more, spells, sym (append-nil (bytes ++ more))) in
    some (nil_of_append rest more (cc (longer, whole)))
end_begins bytes apdu rest (inr (n, long)) begins =
    let whole = begins_whole bytes apdu rest begins in
    let fault = too_long_prefix bytes n long in
    cc (whole, fault)

pub one_reading : (xs ys : List ApduValue) (bytes r s : List ℕ) → BeginsWithApdus bytes xs r → IsEndOfApdus r → BeginsWithApdus bytes ys s → IsEndOfApdus s → (xs ≡ ys) × (r ≡ s)
one_reading [] [] bytes r s first ends second stops = (refl, sym first ∙ second)
one_reading [] (y ∷ ys) bytes r s first ends second stops = absurd (end_begins bytes y second.0 (subst IsEndOfApdus (sym first) ends) second.1)
one_reading (x ∷ xs) [] bytes r s first ends second stops = absurd (end_begins bytes x first.0 (subst IsEndOfApdus (sym second) stops) first.1)
one_reading (x ∷ xs) (y ∷ ys) bytes r s (more, begins, splits) ends (after, starts, parts) stops =
    let one = begins_whole bytes x more begins in
    let other = begins_whole bytes y after starts in
    let apdus : x ≡ y = cc (one, other) in
    let rests : after ≡ more = cc (one, other) in
    let others = one_reading xs ys more r s splits ends (subst (λ (b : List ℕ). BeginsWithApdus b ys s) rests parts) stops in
    (ap (λ (a : ApduValue). a ∷ xs) apdus ∙ ap (λ (later : List ApduValue). y ∷ later) others.0, others.1)

-- ---- steps one after another

Splits-extend : (apdus : List ApduValue) (bytes rest chunk : List ℕ) → BeginsWithApdus bytes apdus rest → BeginsWithApdus (bytes ++ chunk) apdus (rest ++ chunk)
Splits-extend [] bytes rest chunk same = ap (λ (b : List ℕ). b ++ chunk) same
Splits-extend (apdu ∷ apdus) bytes rest chunk (more, begins, splits) =
    (more ++ chunk, begins_longer bytes chunk apdu more begins, Splits-extend apdus more rest chunk splits)

Splits-more : (apdus : List ApduValue) (bytes rest : List ℕ) (apdu : ApduValue) (left : List ℕ) → BeginsWithApdus bytes apdus rest → BeginsWithApdu rest apdu left → BeginsWithApdus bytes (apdus ++ apdu ∷ []) left
Splits-more [] bytes rest apdu left same begins = (left, subst (λ (b : List ℕ). BeginsWithApdu b apdu left) (sym same) begins, refl)
Splits-more (first ∷ apdus) bytes rest apdu left (more, starts, splits) begins = (more, starts, Splits-more apdus more rest apdu left splits begins)

-- what was read before the steps, and what they read
pub steps_split : (steps : List ApduStep) (bytes old new : List ℕ) (apdus : List ApduValue) → BeginsWithApdus bytes apdus old → Steps TakesApdu old steps new → BeginsWithApdus (bytes ++ fed steps) (apdus ++ given steps) new
steps_split [] bytes old new apdus before same =
    rw (append-nil bytes, append-nil apdus) (subst (BeginsWithApdus bytes apdus) (sym same) before)
steps_split (Fed chunk ∷ steps) bytes old new apdus before (mid, takes, taken) =
    let longer : BeginsWithApdus (bytes ++ chunk) apdus mid = subst (BeginsWithApdus (bytes ++ chunk) apdus) (sym takes) (Splits-extend apdus bytes old chunk before) in
    rw append_assoc at (steps_split steps (bytes ++ chunk) mid new apdus longer taken)
steps_split (Gave apdu ∷ steps) bytes old new apdus before (mid, takes, taken) =
    subst (λ (found : List ApduValue). BeginsWithApdus (bytes ++ fed steps) found new) (append_assoc apdus (apdu ∷ []) (given steps))
    (steps_split steps bytes mid new (apdus ++ apdu ∷ []) (Splits-more apdus bytes old apdu mid before takes) taken)
steps_split (Incomplete ∷ steps) bytes old new apdus before (mid, takes, taken) =
    steps_split steps bytes mid new apdus (subst (BeginsWithApdus bytes apdus) (sym takes.1) before) taken
steps_split (Refused n ∷ steps) bytes old new apdus before (mid, takes, taken) =
    steps_split steps bytes mid new apdus (subst (BeginsWithApdus bytes apdus) (sym takes.1) before) taken

pub chunks : (steps : List ApduStep) (waiting : List ℕ) → Steps TakesApdu [] steps waiting → BeginsWithApdus (fed steps) (given steps) waiting
chunks steps waiting taken = steps_split steps [] [] waiting [] refl taken
