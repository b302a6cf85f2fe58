-- A verdict that is set at an index is that of the result at this index.
use Rattle.std.proofs.Common.{◌≡◌, ℕ, zero, suc, ◌<◌, List, [], ◌∷◌, length, slice_index_or, slice_set, ap, arith}
use Rattle.sale_reply.specs.declared.reply.Shown.{Shown}
use Rattle.sale_reply.specs.declared.reply.Verdict.{Verdict}
use Rattle.sale_reply.specs.Outputs.{with_verdict, with_verdict_at}

pub set_is : (results : List Shown) (index : ℕ) (verdict : Verdict) (shown : Shown) → index < length results → shown ≡ slice_index_or results index shown
    → slice_set results index (with_verdict verdict shown) ≡ with_verdict_at results index verdict
set_is [] index verdict shown lt same = absurd (omega (arith, lt))
set_is (first ∷ others) zero verdict shown lt same = ap (λ (s : Shown). with_verdict verdict s ∷ others) same
set_is (first ∷ others) (suc index) verdict shown lt same = ap (λ (rest : List Shown). first ∷ rest) (set_is others index verdict shown (omega (arith, lt)) same)
