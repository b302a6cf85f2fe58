-- What the loop of `take_slots` keeps.
use Rattle.std.proofs.Common.{◌≡◌, ℕ, ◌+◌, ◌*◌, ◌<◌, List, length, vec_len}
use Rattle.gw_site.specs.Outside.{file_part}
use Rattle.jrn_log.specs.inner.FileReader.{BeginsWithSlots}
use Rattle.jrn_log.proofs.read.take_slots.Given as goal

abbrev pub invariant-loop-index : goal.invariant-loop-index
invariant-loop-index l = record {
  within : 256 * vec_len l.bodies < l.size;
  count : vec_len l.bodies ≡ vec_len l.initial.bodies + l.index;
  begins : (file : List ℕ) → l.size ≡ length file → l.chunk ≡ file_part file (256 * length l.initial.bodies.items) 4096 → BeginsWithSlots file l.initial.bodies.items → BeginsWithSlots file l.bodies.items;
}
