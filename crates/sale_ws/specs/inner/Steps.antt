-- Inner: what each step of a turn does, by its result.
use Rattle.std.specs.Prelude.{◌≡◌, ℕ, Bool, true, false, List, [], ◌∷◌, ◌++◌, Option, Some, None, Result, Ok, Err}
use Rattle.sale_frame.specs.Grammar.{IsPayload, IsIncompleteFrame, BeginsWithPayload, BeginsWithBadLength, frame}
use Rattle.sale_ws.specs.Gateway.{Brought, ReadFailed, NotAsked, TakesChunk}
use Rattle.sale_ws.specs.Socket.{ObservedWire, AddsMessages}
use Rattle.sale_ws.specs.Turn.{Delivery, Delivers, HasBadRest, HasBytes, HasDelivered, HasNoFrame}
use Rattle.sale_ws.specs.declared.bridge.Hearing.{Hearing}
use Rattle.sale_ws.specs.declared.fault.BridgeFault.{BridgeFault}
use Rattle.sale_ws.specs.declared.fault.BridgeFault.TheVariants as Fault
use Rattle.sale_ws.specs.declared.wire.Got.{Got}
use Rattle.sale_ws.specs.declared.wire.WireFault.{WireFault}
use Rattle.sale_ws.specs.declared.wire.WireFault.TheVariants.{Failed, Memory}

-- what was given is passed on: it is no message without a frame; only a message with a frame fails for the gateway or for memory
abbrev pub IsPassed : Got → Result (Unit {0}) BridgeFault → Type 0
IsPassed got (Ok done) = (n : ℕ) → ¬ (HasNoFrame (Ok got) n)
IsPassed got (Err Fault.Gate) = (n : ℕ) → ¬ (HasNoFrame (Ok got) n)
IsPassed got (Err Fault.Frame) = ⊥
IsPassed got (Err (Fault.Length length)) = HasNoFrame (Ok got) length
IsPassed got (Err Fault.Socket) = ⊥
IsPassed got (Err Fault.Memory) = (n : ℕ) → ¬ (HasNoFrame (Ok got) n)

-- one step of a delivery: the first message that is complete is sent and taken from the bytes that wait; less than a frame waits; no frame begins; or the send fails
abbrev pub DeliversFirst : {W : Type 0} → (W → ObservedWire) → (W → W → List ℕ → Result (Unit {0}) WireFault → Type 0) → W → W → List ℕ → List ℕ → Result Bool BridgeFault → Type 0
DeliversFirst observed sends old new waiting left (Ok true) = (message : List ℕ) × IsPayload message × (waiting ≡ frame message ++ left) × sends old new message (Ok tt) × AddsMessages (observed old).sent (observed new).sent (message ∷ [])
DeliversFirst observed sends old new waiting left (Ok false) = IsIncompleteFrame waiting × (left ≡ waiting) × (new ≡ old)
DeliversFirst observed sends old new waiting left (Err Fault.Gate) = ⊥
DeliversFirst observed sends old new waiting left (Err Fault.Frame) = BeginsWithBadLength waiting × (new ≡ old)
DeliversFirst observed sends old new waiting left (Err (Fault.Length length)) = ⊥
DeliversFirst observed sends old new waiting left (Err Fault.Socket) = ((message : List ℕ) × BeginsWithPayload waiting message × sends old new message (Err Failed)) × AddsMessages (observed old).sent (observed new).sent []
DeliversFirst observed sends old new waiting left (Err Fault.Memory) = ((message : List ℕ) × BeginsWithPayload waiting message × sends old new message (Err Memory)) × AddsMessages (observed old).sent (observed new).sent []

-- the result of a delivery: all that is complete was sent, and less than a frame waits; no frame begins; or the last send failed
abbrev pub IsDelivering : Result (Unit {0}) BridgeFault → List ℕ → Delivery → Type 0
IsDelivering (Ok done) left delivery = (delivery.sending ≡ Ok tt) × IsIncompleteFrame delivery.rest × (left ≡ delivery.rest)
IsDelivering (Err Fault.Gate) left delivery = ⊥
IsDelivering (Err Fault.Frame) left delivery = (delivery.sending ≡ Ok tt) × BeginsWithBadLength delivery.rest
IsDelivering (Err (Fault.Length length)) left delivery = ⊥
IsDelivering (Err Fault.Socket) left delivery = delivery.sending ≡ Err Failed
IsDelivering (Err Fault.Memory) left delivery = delivery.sending ≡ Err Memory

-- nothing was sent, no send has failed, and the same bytes wait
abbrev pub HasNoneSent : List ℕ → List ℕ → Delivery → Type 0
HasNoneSent waiting left delivery = (delivery.sent ≡ []) × (delivery.rest ≡ waiting) × (left ≡ waiting) × (delivery.sending ≡ Ok tt)

-- the result of a read of the gateway's connection, and of the delivery of what it brought
abbrev pub IsHearing : Result Hearing BridgeFault → List ℕ → List ℕ → Delivery → Type 0
IsHearing (Ok Hearing.Nothing) waiting left delivery = (delivery.heard ≡ Brought None) × HasNoneSent waiting left delivery
IsHearing (Ok Hearing.Ended) waiting left delivery = (delivery.heard ≡ Brought (Some [])) × HasNoneSent waiting left delivery
IsHearing (Ok Hearing.Messages) waiting left delivery = HasDelivered delivery × IsIncompleteFrame delivery.rest × (left ≡ delivery.rest)
IsHearing (Err Fault.Gate) waiting left delivery = delivery.heard ≡ ReadFailed
IsHearing (Err Fault.Frame) waiting left delivery = HasBadRest delivery
IsHearing (Err (Fault.Length length)) waiting left delivery = ⊥
IsHearing (Err Fault.Socket) waiting left delivery = HasBytes delivery.heard × (delivery.sending ≡ Err Failed)
IsHearing (Err Fault.Memory) waiting left delivery = HasBytes delivery.heard × (delivery.sending ≡ Err Memory)

-- what a chunk of the gateway's bytes led to
pub record ChunkDelivered {W : Type 0} (observed : W → ObservedWire) (sends : W → W → List ℕ → Result (Unit {0}) WireFault → Type 0) (old new : W) (waiting left chunk : List ℕ) (result : Result Hearing BridgeFault) (delivery : Delivery) : Type 0 where
  pub heard : delivery.heard ≡ Brought (Some chunk)
  pub delivered : Delivers observed sends old new waiting delivery
  pub result_is : IsHearing result waiting left delivery

-- what a read of the gateway's connection brought, and what it led to
pub record Hears {W : Type 0} (observed : W → ObservedWire) (sends : W → W → List ℕ → Result (Unit {0}) WireFault → Type 0) (chunks chunks_after : Option (List (Option (List ℕ)))) (old new : W) (waiting left : List ℕ) (result : Result Hearing BridgeFault) (delivery : Delivery) : Type 0 where
  pub chunk : TakesChunk chunks chunks_after delivery.heard
  pub asked : ¬ (delivery.heard ≡ NotAsked)
  pub delivered : Delivers observed sends old new waiting delivery
  pub result_is : IsHearing result waiting left delivery
