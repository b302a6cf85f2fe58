-- Each stream is decoded in one way, whatever the chunks.
use Rattle.std.proofs.Common.{◌≡◌, ℕ, List, [], ◌∷◌, ◌++◌, refl, ap, sym, ◌∙◌, subst, append_assoc}
use Rattle.std.proofs.lemmas.List.{append-nil}
use Rattle.std.specs.List.{AllByRecursion}
use Rattle.sale_frame.specs.Grammar.{frame, frames, Frames}
use Rattle.sale_frame.specs.Steps.{FrameStep, IsFrameFault, TakesFrame, OnlyRefuses}
use Rattle.gw_bytes.specs.Chunks.{Fed, Gave, Incomplete, Refused, Steps, fed, given}
use Rattle.sale_frame.specs.declared.fault.FrameFault.{FrameFault}
use Rattle.sale_frame.specs.declared.fault.FrameFault.TheVariants.{Zero, TooLong}
use Rattle.sale_frame.proofs.FrameLemmas.{one_payload, rest_has_no_payload, bad_is_no_prefix, bad_has_no_payload, lengthened}
use Rattle.sale_frame.proofs.StepLemmas.{one_fault, fault_is_bad}

-- the stream after its first payload
after_first : (bytes first left : List ℕ) (rest : List (List ℕ)) → bytes ≡ frames (first ∷ rest) ++ left → bytes ≡ frame first ++ (frames rest ++ left)
after_first bytes first left rest is = is ∙ append_assoc (frame first) (frames rest) left

pub one_reading : (bytes : List ℕ) (a b : List (List ℕ)) (x y : List ℕ) → Frames bytes a x → Frames bytes b y → (a ≡ b) × (x ≡ y)
one_reading bytes [] [] x y p q = (refl, sym p.whole ∙ q.whole)
one_reading bytes [] (n ∷ b) x y p q =
    absurd (rest_has_no_payload x n p.ended (q.each.0, frames b ++ y, sym p.whole ∙ after_first bytes n y b q.whole))
one_reading bytes (m ∷ a) [] x y p q =
    absurd (rest_has_no_payload y m q.ended (p.each.0, frames a ++ x, sym q.whole ∙ after_first bytes m x a p.whole))
one_reading bytes (m ∷ a) (n ∷ b) x y p q =
    let first : (m ≡ n) × (frames a ++ x ≡ frames b ++ y) =
    one_payload m n (frames a ++ x) (frames b ++ y) p.each.0 q.each.0 (sym (after_first bytes m x a p.whole) ∙ after_first bytes n y b q.whole) in
    let others : (a ≡ b) × (x ≡ y) = one_reading (frames a ++ x) a b x y
    (record { whole = refl; each = p.each.1; ended = p.ended })
    (record { whole = first.1; each = q.each.1; ended = q.ended }) in
    (ap (λ l. m ∷ l) others.0 ∙ ap (λ k. k ∷ b) first.0, others.1)

-- steps from any waiting bytes on
pub any_chunks_from : (steps : List FrameStep) (waiting left rest : List ℕ) (payloads : List (List ℕ)) → Steps TakesFrame waiting steps left → Frames left payloads rest → Frames (waiting ++ fed steps) (given steps ++ payloads) rest
any_chunks_from [] waiting left rest payloads taken decoded =
    subst (λ s. Frames s payloads rest) (taken ∙ sym (append-nil waiting)) decoded
any_chunks_from (Fed chunk ∷ steps) waiting left rest payloads (between, step, taken) decoded =
    let later : Frames (between ++ fed steps) (given steps ++ payloads) rest = any_chunks_from steps between left rest payloads taken decoded in
    subst (λ s. Frames s (given steps ++ payloads) rest) (ap (λ s. s ++ fed steps) step ∙ append_assoc waiting chunk (fed steps)) later
any_chunks_from (Gave payload ∷ steps) waiting left rest payloads (between, step, taken) decoded =
    let later : Frames (between ++ fed steps) (given steps ++ payloads) rest = any_chunks_from steps between left rest payloads taken decoded in
    record {
      whole = ap (λ s. s ++ fed steps) step.1 ∙ append_assoc (frame payload) between (fed steps) ∙ ap (λ s. frame payload ++ s) later.whole
          ∙ sym (append_assoc (frame payload) (frames (given steps ++ payloads)) rest);
      each = (step.0, later.each);
      ended = later.ended;
    }
any_chunks_from (Incomplete ∷ steps) waiting left rest payloads (between, step, taken) decoded =
    subst (λ s. Frames (s ++ fed steps) (given steps ++ payloads) rest) step.1 (any_chunks_from steps between left rest payloads taken decoded)
any_chunks_from (Refused fault ∷ steps) waiting left rest payloads (between, step, taken) decoded =
    subst (λ s. Frames (s ++ fed steps) (given steps ++ payloads) rest) step.1 (any_chunks_from steps between left rest payloads taken decoded)

fault_stays : (waiting chunk : List ℕ) (fault : FrameFault) → IsFrameFault waiting fault → IsFrameFault (waiting ++ chunk) fault
fault_stays waiting chunk Zero h = lengthened waiting chunk 0 h
fault_stays waiting chunk (TooLong n) h = (lengthened waiting chunk n h.0, h.1)

pub refused : (waiting left : List ℕ) (fault : FrameFault) (steps : List FrameStep) → IsFrameFault waiting fault → Steps TakesFrame waiting steps left → AllByRecursion (OnlyRefuses fault) steps
refused waiting left fault [] bad taken = tt
refused waiting left fault (Fed chunk ∷ steps) bad (between, step, taken) =
    (tt, refused between left fault steps (subst (λ s. IsFrameFault s fault) (sym step) (fault_stays waiting chunk fault bad)) taken)
refused waiting left fault (Gave payload ∷ steps) bad (between, step, taken) =
    absurd (bad_has_no_payload waiting payload (fault_is_bad waiting fault bad) (step.0, between, step.1))
refused waiting left fault (Incomplete ∷ steps) bad (between, step, taken) =
    absurd (bad_is_no_prefix waiting step.0 (fault_is_bad waiting fault bad))
refused waiting left fault (Refused reported ∷ steps) bad (between, step, taken) =
    (one_fault waiting reported fault step.0 bad, refused between left fault steps (subst (λ s. IsFrameFault s fault) (sym step.1) bad) taken)
