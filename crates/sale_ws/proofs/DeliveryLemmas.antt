-- Messages that are sent one after the other, and the frames that they are taken from.
use Rattle.std.proofs.Common.{◌≡◌, ℕ, List, [], ◌∷◌, ◌++◌, Option, Some, Result, Ok, Err, refl, sym, ap, ◌∙◌, subst, append_assoc, inr, true, false}
use Rattle.std.proofs.lemmas.List.{append-nil, flat_map_more}
use Rattle.std.specs.List.{AllByRecursion}
use Rattle.sale_frame.specs.Grammar.{IsPayload, frame, frames}
use Rattle.sale_ws.specs.Gateway.{NotAsked}
use Rattle.sale_ws.specs.Socket.{ObservedWire, AddsMessages}
use Rattle.sale_ws.specs.Turn.{Delivery, Delivers, SendsEach}
use Rattle.sale_ws.specs.inner.Steps.{DeliversFirst, IsDelivering}
use Rattle.sale_ws.specs.declared.fault.BridgeFault.{BridgeFault}
use Rattle.sale_ws.specs.declared.fault.BridgeFault.TheVariants as Fault
use Rattle.sale_ws.specs.declared.wire.WireFault.{WireFault}
use Rattle.sale_ws.specs.declared.wire.WireFault.TheVariants.{Failed, Memory}

pub adds-none : (sent now : Option (List (List ℕ))) → now ≡ sent → AddsMessages sent now []
adds-none sent now same = λ before is. same ∙ is ∙ ap Some (sym (append-nil before))

pub adds-more : (a b c : Option (List (List ℕ))) (first second : List (List ℕ)) → AddsMessages a b first → AddsMessages b c second → AddsMessages a c (first ++ second)
adds-more a b c first second p q = λ before is. q (before ++ first) (p before is) ∙ ap Some (append_assoc before first second)

pub each-more : (messages : List (List ℕ)) (message : List ℕ) → AllByRecursion IsPayload messages → IsPayload message → AllByRecursion IsPayload (messages ++ message ∷ [])
each-more [] message each is = (is, tt)
each-more (first ∷ messages) message each is = (each.0, each-more messages message each.1 is)

-- one more frame of the bytes that wait
pub whole-more : (bytes rest left : List ℕ) (messages : List (List ℕ)) (message : List ℕ) → bytes ≡ frames messages ++ rest → rest ≡ frame message ++ left → bytes ≡ frames (messages ++ message ∷ []) ++ left
whole-more bytes rest left messages message whole next =
    whole ∙ ap (λ r. frames messages ++ r) next ∙ sym (append_assoc (frames messages) (frame message) left) ∙ ap (λ f. f ++ left) (flat_map_more frame [] messages message)

module _ {W : Type 0} where
  pub sends-each-more : (sends : W → W → List ℕ → Result (Unit {0}) WireFault → Type 0) (a b c : W) (messages : List (List ℕ)) (message : List ℕ) → SendsEach sends a messages b → sends b c message (Ok tt) → SendsEach sends a (messages ++ message ∷ []) c
  sends-each-more sends a b c [] message done step = (c, subst (λ w. sends w c message (Ok tt)) done step, refl)
  sends-each-more sends a b c (first ∷ messages) message done step = (done.0, done.1, sends-each-more sends done.0 b c messages message done.2 step)

  -- how far a delivery has come: these messages were sent, and these bytes still wait
  pub record Delivering (observed : W → ObservedWire) (sends : W → W → List ℕ → Result (Unit {0}) WireFault → Type 0) (old now : W) (waiting rest : List ℕ) (sent : List (List ℕ)) : Type 0 where
    pub whole : waiting ≡ frames sent ++ rest
    pub each : AllByRecursion IsPayload sent
    pub in_order : SendsEach sends old sent now
    pub adds : AddsMessages (observed old).sent (observed now).sent sent
    pub left : (observed now).left ≡ (observed old).left

  pub delivering-none : (observed : W → ObservedWire) (sends : W → W → List ℕ → Result (Unit {0}) WireFault → Type 0) (old : W) (waiting : List ℕ) → Delivering observed sends old old waiting waiting []
  delivering-none observed sends old waiting = record {
    whole = refl;
    each = tt;
    in_order = refl;
    adds = adds-none _ _ refl;
    left = refl;
  }

  pub delivering-more : (observed : W → ObservedWire) (sends : W → W → List ℕ → Result (Unit {0}) WireFault → Type 0) (old now new : W) (waiting rest left : List ℕ) (sent : List (List ℕ)) → Delivering observed sends old now waiting rest sent
      → DeliversFirst observed sends now new rest left (Ok true) → (observed new).left ≡ (observed now).left → (more : List (List ℕ)) × Delivering observed sends old new waiting left more
  delivering-more observed sends old now new waiting rest left sent so_far (message, is, next, step, adds) same = (
    sent ++ message ∷ [],
    record {
      whole = whole-more waiting rest left sent message so_far.whole next;
      each = each-more sent message so_far.each is;
      in_order = sends-each-more sends old now new sent message so_far.in_order step;
      adds = adds-more _ _ _ sent (message ∷ []) so_far.adds adds;
      left = same ∙ so_far.left;
    },
  )

  -- what a delivery has come to
  abbrev pub DeliveredAs : (W → ObservedWire) → (W → W → List ℕ → Result (Unit {0}) WireFault → Type 0) → W → W → List ℕ → List ℕ → Result (Unit {0}) BridgeFault → Type 0
  DeliveredAs observed sends old new waiting left result =
      (delivery : Delivery) × (delivery.heard ≡ NotAsked) × Delivers observed sends old new waiting delivery × IsDelivering result left delivery

  pub delivered-all : (observed : W → ObservedWire) (sends : W → W → List ℕ → Result (Unit {0}) WireFault → Type 0) (old now new : W) (waiting rest left : List ℕ) (sent : List (List ℕ)) → Delivering observed sends old now waiting rest sent
      → DeliversFirst observed sends now new rest left (Ok false) → DeliveredAs observed sends old new waiting left (Ok tt)
  delivered-all observed sends old now new waiting rest left sent so_far (less, same, still) = (
    record { heard = NotAsked; sent = sent; rest = rest; sending = Ok tt },
    refl,
    record {
      whole = so_far.whole;
      each = so_far.each;
      in_order = subst (λ w. SendsEach sends old sent w) (sym still) so_far.in_order;
      sent = subst (λ w. AddsMessages (observed old).sent (observed w).sent sent) (sym still) so_far.adds;
      left = ap (λ w. (observed w).left) still ∙ so_far.left;
    },
    (refl, less, same),
  )

  pub delivery-stops : (observed : W → ObservedWire) (sends : W → W → List ℕ → Result (Unit {0}) WireFault → Type 0) (old now new : W) (waiting rest left : List ℕ) (sent : List (List ℕ)) (fault : BridgeFault) → Delivering observed sends old now waiting rest sent
      → DeliversFirst observed sends now new rest left (Err fault) → (observed new).left ≡ (observed now).left → DeliveredAs observed sends old new waiting left (Err fault)
  delivery-stops observed sends old now new waiting rest left sent Fault.Gate so_far step same = absurd step
  delivery-stops observed sends old now new waiting rest left sent (Fault.Length n) so_far step same = absurd step
  delivery-stops observed sends old now new waiting rest left sent Fault.Frame so_far (bad, still) same = (
    record { heard = NotAsked; sent = sent; rest = rest; sending = Ok tt },
    refl,
    record {
      whole = so_far.whole;
      each = so_far.each;
      in_order = subst (λ w. SendsEach sends old sent w) (sym still) so_far.in_order;
      sent = subst (λ w. AddsMessages (observed old).sent (observed w).sent sent) (sym still) so_far.adds;
      left = same ∙ so_far.left;
    },
    (refl, bad),
  )
  delivery-stops observed sends old now new waiting rest left sent Fault.Socket so_far (step, adds) same = (
    record { heard = NotAsked; sent = sent; rest = rest; sending = Err Failed },
    refl,
    record {
      whole = so_far.whole;
      each = so_far.each;
      in_order = (now, so_far.in_order, step);
      sent = subst (λ l. AddsMessages (observed old).sent (observed new).sent l) (append-nil sent) (adds-more _ _ _ sent [] so_far.adds adds);
      left = same ∙ so_far.left;
    },
    refl,
  )
  delivery-stops observed sends old now new waiting rest left sent Fault.Memory so_far (step, adds) same = (
    record { heard = NotAsked; sent = sent; rest = rest; sending = Err Memory },
    refl,
    record {
      whole = so_far.whole;
      each = so_far.each;
      in_order = (now, so_far.in_order, inr step);
      sent = subst (λ l. AddsMessages (observed old).sent (observed new).sent l) (append-nil sent) (adds-more _ _ _ sent [] so_far.adds adds);
      left = same ∙ so_far.left;
    },
    refl,
  )
