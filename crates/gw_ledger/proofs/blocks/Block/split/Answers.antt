-- Proof of the contract of `split`.
use Rattle.std.proofs.Common.{◌≡◌, ◌∙◌, List, ℕ, IsSome, ap, arith, drop, subst, sym}
use Rattle.std.proofs.lemmas.List.{get_or-drop, take_rest}
use Rattle.gw_ledger.specs.Blocks.{first_in}
use Rattle.gw_ledger.specs.Keys.{key_at}
use Rattle.gw_ledger.proofs.blocks.Block.split.Goals as goal

pub of-second-requires-clause-keyed : goal.of-second-requires-clause-keyed
of-second-requires-clause-keyed c =
    let slots : c.as_slice.result.now ≡ c.args.self.now.slots = c.as_slice.ensures.value ∙ ap (λ b. b.slots) c.self.view_is in
    let rest = take_rest c.as_slice.result.now 64 ∙ ap (λ (s : List ℕ). drop 64 s) slots in
    subst (λ (s : List ℕ). IsSome (key_at c.args.tables.now.records (first_in s))) (sym rest)
    (subst (λ slot. IsSome (key_at c.args.tables.now.records slot)) (sym (get_or-drop 64 c.args.self.now.slots 0 0)) (c.requires.keyed 64 0 (omega (arith, c.requires.full))))

pub returns-clause-second : goal.returns-clause-second
returns-clause-second c =
    let slots : c.as_slice.result.now ≡ c.args.self.now.slots = c.as_slice.ensures.value ∙ ap (λ b. b.slots) c.self.view_is in
    c.of-second.ensures.slots ∙ take_rest c.as_slice.result.now 64 ∙ ap (λ (s : List ℕ). drop 64 s) slots
