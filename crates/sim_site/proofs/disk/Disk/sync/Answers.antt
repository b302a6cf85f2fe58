-- Proof of the contract of `sync`.
use Rattle.std.proofs.Common.{ℕ, ◌++◌, ◌-◌, ◌∙◌, ap, length, refl, take}
use Rattle.std.proofs.lemmas.List.{with_items_is}
use Rattle.std.specs.Prelude.{replicate}
use Rattle.sim_site.proofs.DiskLemmas.{disk_synced, taken_over}
use Rattle.sim_site.proofs.WriteLemmas.{resized_length}
use Rattle.sim_site.proofs.disk.Disk.sync.Goals as goal

pub returns : goal.returns
returns c =
    let disk = c.args.self.now in
    let file = disk.file.items in
    let stable = disk.stable.items in
    let taken = c.catch_up.new.stable in
    let resized =
    c.deref_mut.ensures.value ∙ c.in_ok-resize.ensures.items ∙ ap (λ (n : ℕ). take n stable ++ replicate (n - disk.stable.len) 0) (c.len.ensures ∙ disk.file.ok.0)
    ∙ ap (λ (n : ℕ). take (length file) stable ++ replicate (length file - n) 0) disk.stable.ok.0 in
    let size = c.catch_up.auto.stable ∙ ap length resized ∙ resized_length stable (length file) in
    let each = taken_over disk.written.items c.deref-2.result.now file c.deref.result.now stable c.deref_mut.result.now taken c.deref-2.ensures.value c.deref.ensures.value resized c.catch_up.ensures in
    λ o held. disk_synced o disk _ taken held refl (with_items_is c.resize.new.self taken (c.catch_up.auto.stable ∙ c.deref_mut.ensures.len)) size each c.clear.ensures.items
