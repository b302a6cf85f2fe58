-- Proof of the contract of `write_over`.
use Rattle.std.proofs.Common.{ℕ, List, ◌++◌, ◌-◌, ◌∙◌, ap, drop, length, take}
use Rattle.std.proofs.lemmas.List.{take_rest, with_items_is}
use Rattle.std.specs.Prelude.{min}
use Rattle.gw_site.specs.Outside.{overwrite}
use Rattle.sim_site.proofs.WriteLemmas.{grown_to, written_over}
use Rattle.sim_site.proofs.disk.write_over.Goals as goal

pub returns : goal.returns
returns c =
    let bytes = c.args.bytes.now in
    let offset = c.args.offset in
    let inside = c.min-inside.result in
    let reached = c.reach.new.file in
    let size = c.min-inside.ensures ∙ ap (λ (n : ℕ). min (length bytes) (n - offset)) (c.len.ensures ∙ reached.ok.0) in
    let held = take reached.len (c.put.new.file ++ drop (length c.put.new.file) reached.items) in
    let rest = take (length bytes - inside) (drop inside bytes) in
    let put = with_items_is reached c.put.new.file (c.put.auto.file ∙ c.deref_mut.ensures.len) ∙ c.put.ensures ∙ ap (λ (f : List ℕ). overwrite f offset (take inside bytes)) c.deref_mut.ensures.value in
    grown_to c.extend_from_slice.result c.extend_from_slice.new.self.items held rest (overwrite c.args.file.now.items offset bytes) c.extend_from_slice.ensures.items
    (ap (λ (f : List ℕ). f ++ rest) put ∙ ap (λ (more : List ℕ). overwrite reached.items offset (take inside bytes) ++ more) (take_rest bytes inside)
    ∙ written_over c.args.file.now.items reached.items bytes offset inside c.in_ok-reach.ensures size)
