-- Proof of the contract of `new_readers`.
use Rattle.std.proofs.Common.{◌≡◌, ℕ, List, [], ◌∷◌, ◌++◌, replicate, ◌∙◌, ap, arith}
use Rattle.std.proofs.lemmas.List.{replicate_more}
use Rattle.gw_dispatch.proofs.pts.new_readers.Goals as goal

pub loop-init : goal.loop-init
loop-init c = c.in_ok-readers.ensures.items

pub loop-preserved : goal.loop-preserved
loop-preserved c = c.in_ok-push.ensures.items ∙ ap (λ (r : List ℕ). c.loop.readers.items ++ r ∷ []) c.in_ok-new.ensures ∙ ap (λ (list : List (List ℕ)). list ++ [] ∷ []) c.loop.invariant ∙ replicate_more c.loop.counter []

pub returns : goal.returns
returns c =
    let all : c.loop.counter ≡ c.args.count = omega (arith, c.loop-test.false, c.loop.auto.counter-end) in
    c.loop.invariant ∙ ap (λ n. replicate n []) all
