-- What the loop of `bodies_in` keeps.
use Rattle.std.proofs.Common.{◌≡◌, ◌*◌, ◌<◌, length, vec_len}
use Rattle.jrn_log.specs.inner.FileReader.{BeginsWithSlots}
use Rattle.jrn_log.proofs.slots.bodies_in.Given as goal

abbrev pub invariant-loop-slot : goal.invariant-loop-slot
invariant-loop-slot l = record {
  within : 256 * vec_len l.bodies < length l.file;
  count : vec_len l.bodies ≡ l.slot;
  begins : BeginsWithSlots l.file l.bodies.items;
}
