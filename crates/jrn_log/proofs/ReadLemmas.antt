-- Slots that are read from a chunk of a file.
use Rattle.std.proofs.Common.{◌≡◌, ℕ, ◌+◌, ◌*◌, ◌<◌, List, [], ◌∷◌, ◌++◌, length, get_or, take, drop, refl, sym, ◌∙◌, ap, arith}
use Rattle.std.specs.Prelude.{Result, Ok, Err}
use Rattle.gw_site.specs.Outside.{file_part}
use Rattle.gw_site.specs.declared.turn.Turn.{Turn}
use Rattle.jrn_log.specs.declared.fault.OpenFault.{OpenFault}
use Rattle.jrn_log.specs.declared.fault.OpenFault.TheVariants.{Disk, TooLong, Cut, Memory}
use Rattle.jrn_log.specs.declared.read.Taken.{Taken}
use Rattle.jrn_log.specs.Slots.{AreSlots}
use Rattle.jrn_log.specs.inner.FileReader.{BeginsWithSlots, AreSlotsTaken, IsSlotFault, IsChunkRead, IsReadFault, ReadTurns, ReadFaultTurns, AreBodiesRead}
use Rattle.jrn_log.proofs.PartLemmas.{part_get, part_part}
use Rattle.jrn_log.proofs.SlotLemmas.{begins_more, begins_end}

-- the gate of a slot that was read
slot_first : (file slot : List ℕ) (offset : ℕ) → slot ≡ file_part file offset 256 → get_or slot 0 0 ≡ get_or file offset 0
slot_first file slot offset e = let k : offset + 0 ≡ offset = omega arith in ap (λ bytes. get_or bytes 0 0) e ∙ part_get file offset 256 0 (omega arith) ∙ ap (λ n. get_or file n 0) k

-- a closed slot ends them
pub slot_ends : (file slot : List ℕ) (bodies : List (List ℕ)) → slot ≡ file_part file (256 * length bodies) 256 → (get_or slot 0 0 ≡ 165 → ⊥) → BeginsWithSlots file bodies → AreSlots file bodies
slot_ends file slot bodies e closed b = begins_end file bodies b (λ gate. closed (slot_first file slot (256 * length bodies) e ∙ gate.1))

-- the body of a slot that was read
slot_body : (file slot : List ℕ) (offset : ℕ) → slot ≡ file_part file offset 256 → take 255 (drop 1 slot) ≡ file_part file (offset + 1) 255
slot_body file slot offset e = ap (λ bytes. take 255 (drop 1 bytes)) e ∙ part_part file offset 256 1 255 (omega arith)

-- an open slot is one more
pub slot_more : (file slot : List ℕ) (bodies new : List (List ℕ)) (body : List ℕ) (count : ℕ) → slot ≡ file_part file (256 * length bodies) 256 → 1 < length file → get_or slot 0 0 ≡ 165 →
    count ≡ 255 → body ≡ take count (drop 1 slot) → new ≡ bodies ++ body ∷ [] → BeginsWithSlots file bodies → BeginsWithSlots file new
slot_more file slot bodies new body count e some gate size same grown b =
    rw grown (begins_more file bodies body b (some, sym (slot_first file slot (256 * length bodies) e) ∙ gate)
    (same ∙ ap (λ n. take n (drop 1 slot)) size ∙ slot_body file slot (256 * length bodies) e))

-- a call without a fault of the disk has no turns
pub no_disk_looks : {T : Type 0} (result : Result T OpenFault) (turns : List Turn) → (result ≡ Err Disk → ⊥) → turns ≡ [] → ReadTurns result turns
no_disk_looks (Ok done) turns n e = e
no_disk_looks (Err fault) turns n e = by_fault fault turns (λ q. n (ap Err q)) e
  where
    by_fault : (fault : OpenFault) (turns : List Turn) → (fault ≡ Disk → ⊥) → turns ≡ [] → ReadFaultTurns fault turns
    by_fault Disk turns n e = absurd (n refl)
    by_fault (TooLong count) turns n e = e
    by_fault (Cut slot) turns n e = e
    by_fault Memory turns n e = e

-- what is known of the slots in memory is known of the file
pub taken_read : (file : List ℕ) (bodies : List (List ℕ)) (result : Result Taken OpenFault) → AreSlotsTaken file bodies result → IsChunkRead file bodies result
taken_read file bodies (Ok taken) t = t
taken_read file bodies (Err fault) t = by_fault fault t
  where
    by_fault : (fault : OpenFault) → IsSlotFault file fault → IsReadFault file fault
    by_fault Disk t = elim t [ ]
    by_fault (TooLong count) t = elim t [ ]
    by_fault (Cut slot) t = t
    by_fault Memory t = t

-- a slot of a chunk of 16
pub chunk_slot : (file chunk : List ℕ) (first count index size : ℕ) → chunk ≡ file_part file (256 * first) 4096 → count ≡ first + index → index < 16 → size ≡ 256 → take size (drop (256 * index) chunk) ≡ file_part file (256 * count) 256
chunk_slot file chunk first count index size e c lt s =
    let k : 256 * first + 256 * index ≡ 256 * count = omega arith in
    ap (λ n. take n (drop (256 * index) chunk)) s ∙ ap (λ bytes. take 256 (drop (256 * index) bytes)) e ∙ part_part file (256 * first) 4096 (256 * index) 256 (omega arith) ∙ ap (λ n. file_part file n 256) k

-- a call after calls without turns
pub looks_then : (fault : OpenFault) (p q : List Turn) → p ≡ [] → ReadFaultTurns fault q → ReadFaultTurns fault (p ++ q)
looks_then fault p q e f = rw e f

-- the bodies that were read are those of the file
pub reads_end : (file : List ℕ) (bodies all : List (List ℕ)) (size : ℕ) → all ≡ bodies → size ≡ length file → 256 * length bodies < size → AreSlots file bodies → AreBodiesRead file (Ok all)
reads_end file bodies all size e n lt s = (rw e s, rw e (omega (arith, lt, n)))
