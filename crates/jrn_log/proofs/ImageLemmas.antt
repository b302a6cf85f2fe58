-- What a power failure leaves at each turn of an append.
use Rattle.std.proofs.Common.{◌≡◌, ℕ, suc, ◌+◌, ◌-◌, ◌*◌, ◌<◌, ◌≤◌, List, [], ◌∷◌, ◌++◌, length, get_or, refl, sym, ◌∙◌, ap, subst, arith, inl, inr, length-append, length-drop}
use Rattle.std.proofs.lemmas.List.{length-take, length-replicate, get_or_append_left, get_or_push}
use Rattle.std.proofs.lemmas.Bool.{cases_lt, cases_eq, lt-leb}
use Rattle.std.specs.Prelude.{◌≢◌, Bool, true, false, ◌&&◌, nat_le}
use Rattle.gw_site.specs.Outside.{Outside, Range, overwrite, outside_after}
use Rattle.gw_site.specs.Image.{Image, covers, is_covered}
use Rattle.gw_site.specs.declared.turn.Turn.{Turn}
use Rattle.gw_site.specs.declared.turn.Turn.TheVariants.{Synced}
use Rattle.gw_site.proofs.OverwriteLemmas.{over_below, over_inside, over_above, over_length}
use Rattle.jrn_log.specs.Slots.{AreSlots}
use Rattle.jrn_log.specs.JournalTurns.{body_write, gate_write}
use Rattle.jrn_log.specs.Images.{HasOldOrNew, IsGateWritten}
use Rattle.jrn_log.proofs.SlotLemmas.{still_slots, new_slots, push_length}

-- a file at rest with these bodies
pub record Rest (o : Outside) (bodies : List (List ℕ)) : Type 0 where
  pub synced : o.file ≡ o.stable
  pub clean : o.written ≡ []
  pub slots : AreSlots o.stable bodies
  pub gate : 256 * length bodies < length o.stable
  pub closed : get_or o.stable (256 * length bodies) 0 ≡ 165 → ⊥

-- whatever a power failure leaves of this has the old bodies, or the new ones once the gate was written in these turns
abbrev pub Leaves : Outside → List (List ℕ) → List ℕ → List Turn → Type 0
Leaves o bodies body made = (file : List ℕ) → Image o file → HasOldOrNew bodies body made file

-- where the slots and the gate after them are stable, they stay
old_image : (o : Outside) (bodies : List (List ℕ)) (file : List ℕ) → AreSlots o.stable bodies → 256 * length bodies < length o.stable → (get_or o.stable (256 * length bodies) 0 ≡ 165 → ⊥) →
    ((i : ℕ) → i ≤ 256 * length bodies → is_covered o.written i ≡ false) → Image o file → AreSlots file bodies
old_image o bodies file s gate closed clean image =
    let same : (i : ℕ) → i ≤ 256 * length bodies → get_or file i 0 ≡ get_or o.stable i 0 = λ i le. image.kept i (omega arith) (clean i le) in
    still_slots file o.stable bodies s image.no_shorter (λ i lt. same i (omega arith)) (λ e. closed (sym (same (256 * length bodies) (omega arith)) ∙ e))

pub rest_leaves : (o : Outside) (bodies : List (List ℕ)) (body : List ℕ) (made : List Turn) → Rest o bodies → Leaves o bodies body made
rest_leaves o bodies body made r file image = inl (old_image o bodies file r.slots r.gate r.closed (λ i le. rw r.clean refl) image)

-- an offset below a range isn't covered by it
pub below_free : (range : Range) (offset : ℕ) → offset < range.offset → covers offset range ≡ false
below_free range offset lt = rw (lt-leb range.offset offset lt) refl

-- nor is one above it
pub above_free : (range : Range) (offset : ℕ) → range.offset + range.size ≤ offset → covers offset range ≡ false
above_free range offset le = rw (lt-leb (suc offset) (range.offset + range.size) (omega arith)) (and_false (nat_le range.offset offset))
  where
    and_false : (b : Bool) → (b && false) ≡ false
    and_false true = refl
    and_false false = refl

pub body_size : (body : List ℕ) → length body ≡ 255 → length (body ++ 0 ∷ []) ≡ 256
body_size body e = let zeros : List ℕ = 0 ∷ [] in omega (arith, length-append body zeros)

-- a write reaches its end
pub over_reach : (file : List ℕ) (offset : ℕ) (bytes : List ℕ) → offset + length bytes ≤ length (overwrite file offset bytes)
over_reach file offset bytes = simp (length-append, length-take, length-replicate, length-drop) (omega arith)

-- the file once a body was written after the gate at an offset
pub record HasBody (file new : List ℕ) (offset : ℕ) (body : List ℕ) : Type 0 where
  pub below : (i : ℕ) → i ≤ offset → get_or new i 0 ≡ get_or file i 0
  pub bytes : (i : ℕ) → i < 255 → get_or new (offset + 1 + i) 0 ≡ get_or body i 0
  pub next : get_or new (offset + 256) 0 ≡ 0
  pub no_shorter : length file ≤ length new
  pub room : offset + 256 < length new

body_bytes : (file : List ℕ) (offset : ℕ) (body : List ℕ) → length body ≡ 255 → (i : ℕ) → i < 255 → get_or (overwrite file (offset + 1) (body ++ 0 ∷ [])) (offset + 1 + i) 0 ≡ get_or body i 0
body_bytes file offset body e i lt =
    let k : offset + 1 + i - (offset + 1) ≡ i = omega arith in
    let n : offset + 1 + i < offset + 1 + length (body ++ 0 ∷ []) = omega (arith, body_size body e) in
    over_inside file (offset + 1) (body ++ 0 ∷ []) (offset + 1 + i) (omega arith) n ∙ ap (λ n. get_or (body ++ 0 ∷ []) n 0) k ∙ get_or_append_left body (0 ∷ []) 0 i (omega arith)

body_next : (file : List ℕ) (offset : ℕ) (body : List ℕ) → length body ≡ 255 → get_or (overwrite file (offset + 1) (body ++ 0 ∷ [])) (offset + 256) 0 ≡ 0
body_next file offset body e =
    let k : offset + 256 - (offset + 1) ≡ 255 = omega arith in
    let n : offset + 256 < offset + 1 + length (body ++ 0 ∷ []) = omega (arith, body_size body e) in
    over_inside file (offset + 1) (body ++ 0 ∷ []) (offset + 256) (omega arith) n ∙ ap (λ n. get_or (body ++ 0 ∷ []) n 0) k ∙ get_or_push body 0 0 255 e

pub has_body : (file : List ℕ) (offset : ℕ) (body : List ℕ) → length body ≡ 255 → HasBody file (overwrite file (offset + 1) (body ++ 0 ∷ [])) offset body
has_body file offset body e = record {
  below = λ i le. over_below file (offset + 1) (body ++ 0 ∷ []) i (omega arith);
  bytes = body_bytes file offset body e;
  next = body_next file offset body e;
  no_shorter = over_length file (offset + 1) (body ++ 0 ∷ []);
  room = omega (arith, over_reach file (offset + 1) (body ++ 0 ∷ []), body_size body e);
}

-- the file with its body, and a file that differs from it in the gate alone
record SameButGate (file new : List ℕ) (offset : ℕ) : Type 0 where
  same : (i : ℕ) → i < length new → (i ≡ offset → ⊥) → get_or file i 0 ≡ get_or new i 0
  long : length new ≤ length file

-- where the gate is open there is one more slot, and where not the old ones
gate_open : (file new old : List ℕ) (bodies : List (List ℕ)) (body : List ℕ) → length body ≡ 255 → AreSlots old bodies → HasBody old new (256 * length bodies) body → SameButGate file new (256 * length bodies) →
    get_or file (256 * length bodies) 0 ≡ 165 → AreSlots file (bodies ++ body ∷ [])
gate_open file new old bodies body e s h g shown =
    let room = h.room in let longer = h.no_shorter in let long = g.long in
    new_slots file old bodies body s (omega arith) (omega arith)
    (λ i lt. g.same i (omega arith) (λ q. omega (arith, q)) ∙ h.below i (omega arith)) shown e
    (λ i lt. g.same (256 * length bodies + 1 + i) (omega arith) (λ q. omega (arith, q)) ∙ h.bytes i lt)
    (λ q. let z : get_or file (256 * length bodies + 256) 0 ≡ 0 = g.same (256 * length bodies + 256) room (λ q. omega (arith, q)) ∙ h.next in omega (arith, q, z))

gate_closed : (file new old : List ℕ) (bodies : List (List ℕ)) (body : List ℕ) → AreSlots old bodies → HasBody old new (256 * length bodies) body → SameButGate file new (256 * length bodies) →
    (get_or file (256 * length bodies) 0 ≡ 165 → ⊥) → AreSlots file bodies
gate_closed file new old bodies body s h g closed =
    let room = h.room in let longer = h.no_shorter in let long = g.long in
    still_slots file old bodies s (omega arith) (λ i lt. g.same i (omega arith) (λ q. omega (arith, q)) ∙ h.below i (omega arith)) closed

-- different in the gate alone: a file that a power failure leaves while the gate is written
image_but_gate : (o : Outside) (offset : ℕ) (file : List ℕ) → o.written ≡ record { offset = offset; size = 1 } ∷ [] → Image o file → SameButGate file o.stable offset
image_but_gate o offset file w image = record { same = λ i lt ne. image.kept i lt (rw w (rw (free i ne) refl)); long = image.no_shorter }
  where
    free : (i : ℕ) → (i ≡ offset → ⊥) → covers i (record { offset = offset; size = 1 }) ≡ false
    free i ne = elim (cases_lt i offset) [ inl lt ↦ below_free (record { offset = offset; size = 1 }) i lt | inr ge ↦ above_free (record { offset = offset; size = 1 }) i (let n : i ≢ offset = ne in omega arith) ]

-- and the file with the gate written
over_but_gate : (file : List ℕ) (offset : ℕ) → SameButGate (overwrite file offset (165 ∷ [])) file offset
over_but_gate file offset = record { same = λ i lt ne. elim (cases_lt i offset) [ inl less ↦ over_below file offset (165 ∷ []) i less | inr ge ↦ over_above file offset (165 ∷ []) i (let n : i ≢ offset = ne in omega arith) ]; long = over_length file offset (165 ∷ []) }

over_gate : (file : List ℕ) (offset : ℕ) → get_or (overwrite file offset (165 ∷ [])) offset 0 ≡ 165
over_gate file offset = let k : offset - offset ≡ 0 = omega arith in over_inside file offset (165 ∷ []) offset (omega arith) (omega arith) ∙ ap (λ n. get_or (165 ∷ []) n 0) k

-- the outside of an append after its first write, its first sync, its second write and its second sync
abbrev pub after_body : Outside → ℕ → List ℕ → Outside
after_body o slot body = outside_after o (body_write slot body)

abbrev pub after_body_sync : Outside → ℕ → List ℕ → Outside
after_body_sync o slot body = outside_after (after_body o slot body) Synced

abbrev pub after_gate : Outside → ℕ → List ℕ → Outside
after_gate o slot body = outside_after (after_body_sync o slot body) (gate_write slot)

abbrev pub after_gate_sync : Outside → ℕ → List ℕ → Outside
after_gate_sync o slot body = outside_after (after_gate o slot body) Synced

rest_body : (o : Outside) (bodies : List (List ℕ)) (body : List ℕ) → Rest o bodies → length body ≡ 255 → HasBody o.stable (overwrite o.file (256 * length bodies + 1) (body ++ 0 ∷ [])) (256 * length bodies) body
rest_body o bodies body r e = rw r.synced (has_body o.stable (256 * length bodies) body e)

pub body_leaves : (o : Outside) (bodies : List (List ℕ)) (body : List ℕ) (made : List Turn) → Rest o bodies → Leaves (after_body o (length bodies) body) bodies body made
body_leaves o bodies body made r file image = inl (old_image (after_body o (length bodies) body) bodies file r.slots r.gate r.closed free image)
  where
    free : (i : ℕ) → i ≤ 256 * length bodies → is_covered (after_body o (length bodies) body).written i ≡ false
    free i le = rw (below_free (record { offset = 256 * length bodies + 1; size = length (body ++ 0 ∷ []) }) i (omega arith), r.clean) refl

pub body_sync_rest : (o : Outside) (bodies : List (List ℕ)) (body : List ℕ) → Rest o bodies → length body ≡ 255 → Rest (after_body_sync o (length bodies) body) bodies
body_sync_rest o bodies body r e =
    let h = rest_body o bodies body r e in
    let room = h.room in
    let closed : get_or (after_body_sync o (length bodies) body).stable (256 * length bodies) 0 ≡ 165 → ⊥ = λ q. r.closed (sym (h.below (256 * length bodies) (omega arith)) ∙ q) in
    record {
      synced = refl;
      clean = refl;
      slots = still_slots (after_body_sync o (length bodies) body).stable o.stable bodies r.slots h.no_shorter (λ i lt. h.below i (omega arith)) closed;
      gate = omega arith;
      closed = closed;
    }

pub gate_leaves : (o : Outside) (bodies : List (List ℕ)) (body : List ℕ) (made : List Turn) → Rest o bodies → length body ≡ 255 → IsGateWritten (length bodies) made → Leaves (after_gate o (length bodies) body) bodies body made
gate_leaves o bodies body made r e w file image =
    let h = rest_body o bodies body r e in
    let g = image_but_gate (after_gate o (length bodies) body) (256 * length bodies) file refl image in
    elim (cases_eq (get_or file (256 * length bodies) 0) 165) [
      | inl shown ↦ inr (w, gate_open file (after_gate o (length bodies) body).stable o.stable bodies body e r.slots h g shown)
      | inr hidden ↦ inl (gate_closed file (after_gate o (length bodies) body).stable o.stable bodies body r.slots h g hidden)
    ]

pub gate_sync_rest : (o : Outside) (bodies : List (List ℕ)) (body : List ℕ) → Rest o bodies → length body ≡ 255 → Rest (after_gate_sync o (length bodies) body) (bodies ++ body ∷ [])
gate_sync_rest o bodies body r e =
    let new = (after_body_sync o (length bodies) body).stable in
    let file = overwrite new (256 * length bodies) (165 ∷ []) in
    let h = rest_body o bodies body r e in
    let g = over_but_gate new (256 * length bodies) in
    let room = h.room in
    let long = g.long in
    let next_gate : 256 * length (bodies ++ body ∷ []) ≡ 256 * length bodies + 256 = omega (arith, push_length bodies body) in
    let next : get_or file (256 * length bodies + 256) 0 ≡ 0 = g.same (256 * length bodies + 256) room (λ q. omega (arith, q)) ∙ h.next in
    record {
      synced = refl;
      clean = refl;
      slots = gate_open file new o.stable bodies body e r.slots h g (over_gate new (256 * length bodies));
      gate = omega (arith, next_gate, room, long);
      closed = λ q. let z : get_or file (256 * length bodies + 256) 0 ≡ 165 = subst (λ k. get_or file k 0 ≡ 165) next_gate q in omega (arith, z, next);
    }

pub new_leaves : (o : Outside) (bodies : List (List ℕ)) (body : List ℕ) (made : List Turn) → Rest o (bodies ++ body ∷ []) → IsGateWritten (length bodies) made → Leaves o bodies body made
new_leaves o bodies body made r w file image = inr (w, old_image o (bodies ++ body ∷ []) file r.slots r.gate r.closed (λ i le. rw r.clean refl) image)
