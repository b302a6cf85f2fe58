-- Proof of the contract of `of`.
use Rattle.std.proofs.Common.{◌≡◌, ◌∙◌, ◌++◌, ◌<◌, IsSome, append_assoc, ap, length, rules}
use Rattle.std.proofs.lemmas.List.{take-append-drop}
use Rattle.std.proofs.lemmas.List.Elements.{All-drop}
use Rattle.gw_ledger.specs.Blocks.{all_slots, slot_lists}
use Rattle.gw_ledger.specs.Keys.{key_at}
use Rattle.gw_ledger.proofs.BlockLemmas.{blocks_push, keys_push, slots_push}
use Rattle.gw_ledger.proofs.blocks.Blocks.of.Goals as goal

pub loop-rest-preserved : goal.loop-rest-preserved
loop-rest-preserved c =
    let one : 0 < length c.of.result.slots = search rules in
    let fits : length c.of.result.slots < 128 = search rules in
    let parts : c.of.result.slots ++ c.split_at.result.1.now ≡ c.loop-rest.rest.now =
    rw (c.of.ensures.slots, c.split_at.ensures.front, c.split_at.ensures.back) (take-append-drop c.min.result c.loop-rest.rest.now) in
    record {
      blocks = rw c.in_ok-push.ensures.items (blocks_push c.loop-rest.blocks.items c.of.result c.loop-rest.invariant.blocks one fits);
      slots =
          ap (λ bs. all_slots (slot_lists bs) ++ c.split_at.result.1.now) c.in_ok-push.ensures.items
          ∙ ap (λ all. all ++ c.split_at.result.1.now) (slots_push c.loop-rest.blocks.items c.of.result)
          ∙ append_assoc (all_slots (slot_lists c.loop-rest.blocks.items)) c.of.result.slots c.split_at.result.1.now
          ∙ ap (λ rest. all_slots (slot_lists c.loop-rest.blocks.items) ++ rest) parts
          ∙ c.loop-rest.invariant.slots;
      keys = rw c.in_ok-push.ensures.items (keys_push c.args.tables.now.records c.loop-rest.blocks.items c.of.result c.loop-rest.invariant.keys (rw c.of.ensures.slots c.of.ensures.key));
      keyed = rw c.split_at.ensures.back (All-drop (λ slot. IsSome (key_at c.args.tables.now.records slot)) c.min.result c.loop-rest.rest.now c.loop-rest.invariant.keyed);
    }
