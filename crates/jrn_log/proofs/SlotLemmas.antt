-- The open slots of a file.
use Rattle.std.proofs.Common.{◌≡◌, ℕ, zero, suc, ◌+◌, ◌*◌, ◌<◌, ◌≤◌, List, [], ◌∷◌, ◌++◌, length, get_or, refl, sym, ◌∙◌, ap, subst, arith, inl, inr, length-append}
use Rattle.std.proofs.lemmas.List.{get_or_past, same_lists}
use Rattle.std.proofs.lemmas.Option.{get_or_from_slice_get}
use Rattle.std.proofs.lemmas.Bool.{cases_lt, cases_eq}
use Rattle.std.specs.Prelude.{◌⊎◌, slice_get, Some}
use Rattle.jrn_log.specs.Slots.{HasGate, IsOpenSlot, body_at, AreSlots}
use Rattle.jrn_log.specs.inner.FileReader.{BeginsWithSlots}
use Rattle.jrn_log.proofs.PartLemmas.{part_is, part_same}

pub slot_gate : (file : List ℕ) (bodies : List (List ℕ)) → AreSlots file bodies → (slot : ℕ) → slot < length bodies → HasGate file slot
slot_gate file bodies s slot lt = (s.exactly slot).1 lt slot (omega arith)

pub end_closed : (file : List ℕ) (bodies : List (List ℕ)) → AreSlots file bodies → HasGate file (length bodies) → ⊥
end_closed file bodies s gate = let lt : length bodies < length bodies = (s.exactly (length bodies)).0 opened in omega arith
  where
    opened : IsOpenSlot file (length bodies)
    opened lower le = elim (cases_lt lower (length bodies)) [ inl lt ↦ slot_gate file bodies s lower lt | inr ge ↦ (let e : length bodies ≡ lower = omega arith in subst (λ slot. HasGate file slot) e gate) ]

pub are_slots : (file : List ℕ) (bodies : List (List ℕ)) → ((slot : ℕ) → slot < length bodies → HasGate file slot) → (HasGate file (length bodies) → ⊥) →
    ((slot : ℕ) → slot < length bodies → slice_get bodies slot ≡ Some (body_at file slot)) → AreSlots file bodies
are_slots file bodies gates closed each = record {
  exactly = λ slot. (λ opened. elim (cases_lt slot (length bodies)) [ inl lt ↦ lt | inr le ↦ absurd (closed (opened (length bodies) le)) ], λ lt lower le. gates lower (omega arith));
  each = each;
}

shorter : (file : List ℕ) (bodies others : List (List ℕ)) → AreSlots file bodies → AreSlots file others → length bodies < length others → ⊥
shorter file bodies others a b lt = end_closed file bodies a (slot_gate file others b (length bodies) lt)

pub one_slots : (file : List ℕ) (bodies others : List (List ℕ)) → AreSlots file bodies → AreSlots file others → bodies ≡ others
one_slots file bodies others a b = same_lists bodies others size (λ k d lt. get_or_from_slice_get bodies k (body_at file k) d (a.each k lt) ∙ sym (get_or_from_slice_get others k (body_at file k) d (b.each k (omega (arith, size)))))
  where
    size : length bodies ≡ length others
    size = elim (cases_lt (length bodies) (length others)) [ inl lt ↦ absurd (shorter file bodies others a b lt) | inr ge ↦ elim (cases_lt (length others) (length bodies)) [ inl lt ↦ absurd (shorter file others bodies b a lt) | inr le ↦ omega arith ] ]

-- a list and one more element
pub get_left : {A : Type 0} (xs : List A) (y : A) (k : ℕ) → k < length xs → slice_get (xs ++ y ∷ []) k ≡ slice_get xs k
get_left [] y k lt = absurd (omega arith)
get_left (x ∷ xs) y zero lt = refl
get_left (x ∷ xs) y (suc k) lt = get_left xs y k (omega arith)

pub get_end : {A : Type 0} (xs : List A) (y : A) → slice_get (xs ++ y ∷ []) (length xs) ≡ Some y
get_end [] y = refl
get_end (x ∷ xs) y = get_end xs y

pub push_length : {A : Type 0} (xs : List A) (y : A) → length (xs ++ y ∷ []) ≡ length xs + 1
push_length xs y = length-append xs (y ∷ [])

-- what holds of each slot below and of the next holds below one more
below_push : (bodies : List (List ℕ)) (body : List ℕ) (P : ℕ → Type 0) → ((slot : ℕ) → slot < length bodies → P slot) → P (length bodies) → (slot : ℕ) → slot < length (bodies ++ body ∷ []) → P slot
below_push bodies body P below last slot lt =
    elim (cases_lt slot (length bodies)) [ inl less ↦ below slot less | inr ge ↦ (let e : length bodies ≡ slot = omega (arith, push_length bodies body) in subst P e last) ]

pub each_push : (file : List ℕ) (bodies : List (List ℕ)) (body : List ℕ) → ((slot : ℕ) → slot < length bodies → slice_get bodies slot ≡ Some (body_at file slot)) → body ≡ body_at file (length bodies) →
    (slot : ℕ) → slot < length (bodies ++ body ∷ []) → slice_get (bodies ++ body ∷ []) slot ≡ Some (body_at file slot)
each_push file bodies body each same = below_push bodies body (λ slot. slice_get (bodies ++ body ∷ []) slot ≡ Some (body_at file slot)) (λ slot lt. get_left bodies body slot lt ∙ each slot lt) (get_end bodies body ∙ ap Some same)

pub gates_push : (file : List ℕ) (bodies : List (List ℕ)) (body : List ℕ) → ((slot : ℕ) → slot < length bodies → HasGate file slot) → HasGate file (length bodies) → (slot : ℕ) → slot < length (bodies ++ body ∷ []) → HasGate file slot
gates_push file bodies body gates gate = below_push bodies body (HasGate file) gates gate

pub begins_more : (file : List ℕ) (bodies : List (List ℕ)) (body : List ℕ) → BeginsWithSlots file bodies → HasGate file (length bodies) → body ≡ body_at file (length bodies) → BeginsWithSlots file (bodies ++ body ∷ [])
begins_more file bodies body b gate same = record { gates = gates_push file bodies body b.gates gate; each = each_push file bodies body b.each same }

pub begins_none : (file : List ℕ) → BeginsWithSlots file []
begins_none file = record { gates = λ slot lt. absurd (omega arith); each = λ slot lt. absurd (omega arith) }

pub begins_end : (file : List ℕ) (bodies : List (List ℕ)) → BeginsWithSlots file bodies → (HasGate file (length bodies) → ⊥) → AreSlots file bodies
begins_end file bodies b closed = are_slots file bodies b.gates closed b.each

pub gate_cases : (file : List ℕ) (slot : ℕ) → HasGate file slot ⊎ (HasGate file slot → ⊥)
gate_cases file slot = elim (cases_lt 1 (length file)) [ inl lt ↦ elim (cases_eq (get_or file (256 * slot) 0) 165) [ inl e ↦ inl (lt, e) | inr ne ↦ inr (λ gate. ne gate.1) ] | inr ge ↦ inr (λ gate. omega (arith, gate.0)) ]

pub past_closed : (file : List ℕ) (slot : ℕ) → length file ≤ 256 * slot → HasGate file slot → ⊥
past_closed file slot le gate = let e : get_or file (256 * slot) 0 ≡ 0 = get_or_past file (256 * slot) 0 le in omega (arith, gate.1)

find_slots : (fuel : ℕ) (file : List ℕ) (bodies : List (List ℕ)) → length file ≤ 256 * length bodies + fuel → BeginsWithSlots file bodies → (all : List (List ℕ)) × AreSlots file all
find_slots zero file bodies le b = (bodies, begins_end file bodies b (past_closed file (length bodies) (omega arith)))
find_slots (suc fuel) file bodies le b = elim (gate_cases file (length bodies)) [
  | inl gate ↦ (let body = body_at file (length bodies) in find_slots fuel file (bodies ++ body ∷ []) (rw (push_length bodies body) (omega arith)) (begins_more file bodies body b gate refl))
  | inr closed ↦ (bodies, begins_end file bodies b closed)
]

pub each_slots : (file : List ℕ) → (bodies : List (List ℕ)) × AreSlots file bodies
each_slots file = find_slots (length file) file [] (omega arith) (begins_none file)

-- a file of at most one byte has no open slot
pub one_byte_slots : (file : List ℕ) → length file ≤ 1 → AreSlots file []
one_byte_slots file le = begins_end file [] (begins_none file) (λ gate. omega (arith, gate.0))

-- open slots stay where the bytes of the slots stay and the gate after them is closed
pub still_slots : (file other : List ℕ) (bodies : List (List ℕ)) → AreSlots other bodies → length other ≤ length file →
    ((i : ℕ) → i < 256 * length bodies → get_or file i 0 ≡ get_or other i 0) → (get_or file (256 * length bodies) 0 ≡ 165 → ⊥) → AreSlots file bodies
still_slots file other bodies s long same closed = are_slots file bodies gates (λ gate. closed gate.1) each
  where
    gates : (slot : ℕ) → slot < length bodies → HasGate file slot
    gates slot lt = let g = slot_gate other bodies s slot lt in (omega (arith, g.0), same (256 * slot) (omega arith) ∙ g.1)

    each : (slot : ℕ) → slot < length bodies → slice_get bodies slot ≡ Some (body_at file slot)
    each slot lt = s.each slot lt ∙ ap Some (sym (part_same file other (256 * slot + 1) 255 (λ i l. same (256 * slot + 1 + i) (omega arith))))

-- and there is one more where the next gate is open, its body is there, and the gate after it is closed
pub new_slots : (file other : List ℕ) (bodies : List (List ℕ)) (body : List ℕ) → AreSlots other bodies → length other ≤ length file → 1 < length file →
    ((i : ℕ) → i < 256 * length bodies → get_or file i 0 ≡ get_or other i 0) → get_or file (256 * length bodies) 0 ≡ 165 →
    length body ≡ 255 → ((i : ℕ) → i < 255 → get_or file (256 * length bodies + 1 + i) 0 ≡ get_or body i 0) →
    (get_or file (256 * length bodies + 256) 0 ≡ 165 → ⊥) → AreSlots file (bodies ++ body ∷ [])
new_slots file other bodies body s long some same gate size bytes closed =
    are_slots file (bodies ++ body ∷ [])
    (gates_push file bodies body gates (some, gate))
    (λ g. let e : 256 * length (bodies ++ body ∷ []) ≡ 256 * length bodies + 256 = omega (arith, push_length bodies body) in closed (subst (λ k. get_or file k 0 ≡ 165) e g.1))
    (each_push file bodies body each (sym (part_is file (256 * length bodies + 1) 255 body size bytes)))
  where
    gates : (slot : ℕ) → slot < length bodies → HasGate file slot
    gates slot lt = let g = slot_gate other bodies s slot lt in (some, same (256 * slot) (omega arith) ∙ g.1)

    each : (slot : ℕ) → slot < length bodies → slice_get bodies slot ≡ Some (body_at file slot)
    each slot lt = s.each slot lt ∙ ap Some (sym (part_same file other (256 * slot + 1) 255 (λ i l. same (256 * slot + 1 + i) (omega arith))))
