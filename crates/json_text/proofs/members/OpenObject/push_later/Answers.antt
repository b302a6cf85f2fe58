-- Proof of the contract of `OpenObject::push_later`.
use Rattle.std.proofs.Common.{◌≡◌, ◌+◌, ◌++◌, ◌∷◌, [], List, ℕ, ap, length, refl, ◌∙◌, arith}
use Rattle.json_text.specs.declared.tree.Json.{Json}
use Rattle.json_text.specs.inner.NumberBlocks.{all_numbers, number_lists, numbers_before}
use Rattle.json_text.proofs.IndexLemmas.{still_indexed, later_pushed}
use Rattle.json_text.proofs.GapLemmas.{index_of, indexed}
use Rattle.json_text.proofs.members.OpenObject.push_later.Goals as goal

pub invariant_of-self : goal.invariant_of-self
invariant_of-self c =
    let h = still_indexed c.args.self.now.members.items c.reserve.new.self.items (index_of c.args.self.now) (index_of c.args.self.now) c.reserve.ensures.items refl (indexed c.args.self.now) in
    record { within = h.within; ordered = h.ordered; known = h.known; distinct = h.distinct }

pub invariant_of-self-in-Break-branch-2 : goal.invariant_of-self-in-Break-branch-2
invariant_of-self-in-Break-branch-2 c =
    let h = still_indexed c.args.self.now.members.items c.reserve.new.self.items (index_of c.args.self.now) (all_numbers (number_lists c.insert.new.blocks.items)) c.reserve.ensures.items c.in_err-insert.ensures.numbers (indexed c.args.self.now) in
    record { within = h.within; ordered = h.ordered; known = h.known; distinct = h.distinct }

pub invariant_of-self-2 : goal.invariant_of-self-2
invariant_of-self-2 c =
    let grown = c.push_reserved.ensures.items ∙ ap (λ (ms : List (List ℕ × Json)). ms ++ (c.args.name, c.args.value) ∷ []) c.reserve.ensures.items in
    let number : c.in-Ok.number ≡ length c.args.self.now.members.items = omega (arith, c.in-Ok.ensures, c.len.ensures, c.args.self.now.members.ok.0) in
    let gap : ℕ = numbers_before (number_lists c.args.self.now.index.items) c.args.gap.block + c.args.gap.before in
    let h = later_pushed c.args.self.now.members.items c.push_reserved.new.self.items (index_of c.args.self.now) (all_numbers (number_lists c.divide.new.blocks.items)) c.args.name c.args.value gap c.in-Ok.number
    c.requires.many number c.requires.gap.new c.requires.gap.in_blocks.comes grown (c.divide.ensures ∙ c.in_ok-insert.ensures.numbers) (indexed c.args.self.now) in
    record { within = h.within; ordered = h.ordered; known = h.known; distinct = h.distinct }
