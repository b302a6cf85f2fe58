-- One turn of a bridge: a read of the socket and a read of the gateway's connection, what each has sent to the other side, and the result.
use Rattle.std.specs.Prelude.{◌≡◌, ◌⊎◌, ◌↔◌, ℕ, ◌<◌, ◌≤◌, Bool, true, false, ◌&&◌, nat_lt, nat_le, List, [], ◌∷◌, ◌++◌, length, Option, Some, None, Result, Ok, Err, OnOk, if◌then◌else◌, IsOk, IsErr}
use Rattle.std.specs.List.{AllByRecursion}
use Rattle.gw_bytes.specs.Bytes.{IsPrefix}
use Rattle.gw_site.specs.Failures.{Rose}
use Rattle.sale_frame.specs.Grammar.{IsPayload, IsIncompleteFrame, BeginsWithPayload, BeginsWithBadLength, frame, frames}
use Rattle.sale_ws.specs.Gateway.{ObservedGate, Heard, Brought, ReadFailed, NotAsked, TakesChunk}
use Rattle.sale_ws.specs.Socket.{ObservedWire, TakesGot, AddsMessages}
use Rattle.sale_ws.specs.declared.bridge.Bridge.{Bridge}
use Rattle.sale_ws.specs.declared.bridge.Bridged.{Bridged}
use Rattle.sale_ws.specs.declared.bridge.Bridged.TheVariants.{Ended}
use Rattle.sale_ws.specs.declared.fault.BridgeFault.{BridgeFault}
use Rattle.sale_ws.specs.declared.fault.BridgeFault.TheVariants.{Frame, Length}
use Rattle.sale_ws.specs.declared.wire.Got.{Got}
use Rattle.sale_ws.specs.declared.wire.Got.TheVariants.{Message, Control, Nothing, End}
use Rattle.sale_ws.specs.declared.wire.WireFault.{WireFault}
use Rattle.sale_ws.specs.declared.wire.WireFault.TheVariants.{Failed, Memory}

-- ---- from the socket to the gateway

-- the message has a frame: it has 1 to 65,536 bytes
abbrev pub has_frame : List ℕ → Bool
has_frame message = nat_lt 0 (length message) && nat_le (length message) 65536

-- what the gateway is sent after a read of the socket: the frame of a message that has one, and after every other read nothing
abbrev pub framed : Result Got WireFault → List ℕ
framed (Ok (Message message)) = if has_frame message then frame message else []
framed (Ok Control) = []
framed (Ok Nothing) = []
framed (Ok End) = []
framed (Err fault) = []

-- the socket gave a message of this length that has no frame
abbrev pub HasNoFrame : Result Got WireFault → ℕ → Type 0
HasNoFrame got n = (message : List ℕ) × (got ≡ Ok (Message message)) × (has_frame message ≡ false) × (n ≡ length message)

-- nothing can be passed on: the socket's read has failed, or its message has no frame
abbrev pub IsFaulty : Result Got WireFault → Type 0
IsFaulty got = IsErr got ⊎ ((n : ℕ) × HasNoFrame got n)

-- the bytes are written; of those of a turn that ends before it reads the gateway's connection a prefix may be
abbrev pub SendsFrame : Option (List ℕ) → Option (List ℕ) → List ℕ → Heard → Type 0
SendsFrame old new bytes (Brought chunk) = (before : List ℕ) → old ≡ Some before → new ≡ Some (before ++ bytes)
SendsFrame old new bytes ReadFailed = (before : List ℕ) → old ≡ Some before → new ≡ Some (before ++ bytes)
SendsFrame old new bytes NotAsked = (before : List ℕ) → old ≡ Some before → (part : List ℕ) × IsPrefix part bytes × (new ≡ Some (before ++ part))

-- ---- from the gateway to the socket

-- what the read of the gateway's connection brought; the messages sent to the socket, in order; the bytes that wait after their frames; and how the last send ended
pub record Delivery : Type 0 where
  pub heard : Heard
  pub sent : List (List ℕ)
  pub rest : List ℕ
  pub sending : Result (Unit {0}) WireFault

-- the bytes that wait once those heard have come
abbrev pub waiting_after : List ℕ → Heard → List ℕ
waiting_after waiting (Brought (Some chunk)) = waiting ++ chunk
waiting_after waiting (Brought None) = waiting
waiting_after waiting ReadFailed = waiting
waiting_after waiting NotAsked = waiting

-- bytes came
abbrev pub HasBytes : Heard → Type 0
HasBytes heard = (chunk : List ℕ) × (heard ≡ Brought (Some chunk)) × (0 < length chunk)

-- bytes came, and every send succeeded
abbrev pub HasDelivered : Delivery → Type 0
HasDelivered delivery = HasBytes delivery.heard × (delivery.sending ≡ Ok tt)

-- the gateway's bytes can't be read on: after the messages that are complete, each of which was sent, no frame begins
abbrev pub HasBadRest : Delivery → Type 0
HasBadRest delivery = HasDelivered delivery × BeginsWithBadLength delivery.rest

-- the messages are sent one after the other, and each send succeeds
abbrev pub SendsEach : {W : Type 0} → (W → W → List ℕ → Result (Unit {0}) WireFault → Type 0) → W → List (List ℕ) → W → Type 0
SendsEach {W} sends old [] new = new ≡ old
SendsEach {W} sends old (message ∷ messages) new = (between : W) × sends old between message (Ok tt) × SendsEach sends between messages new

-- the messages are sent; then nothing more is, or the next message that is complete isn't taken, or memory is refused
abbrev pub SendsUntil : {W : Type 0} → (W → W → List ℕ → Result (Unit {0}) WireFault → Type 0) → W → W → Delivery → Result (Unit {0}) WireFault → Type 0
SendsUntil {W} sends old new delivery (Ok done) = SendsEach sends old delivery.sent new
SendsUntil {W} sends old new delivery (Err Failed) = (between : W) × SendsEach sends old delivery.sent between × ((message : List ℕ) × BeginsWithPayload delivery.rest message × sends between new message (Err Failed))
SendsUntil {W} sends old new delivery (Err Memory) = (between : W) × SendsEach sends old delivery.sent between × ((new ≡ between) ⊎ ((message : List ℕ) × BeginsWithPayload delivery.rest message × sends between new message (Err Memory)))

-- what the bytes of the gateway led to: the messages sent are the first that its bytes complete, in order
pub record Delivers {W : Type 0} (observed : W → ObservedWire) (sends : W → W → List ℕ → Result (Unit {0}) WireFault → Type 0) (old new : W) (waiting : List ℕ) (delivery : Delivery) : Type 0 where
  pub whole : waiting_after waiting delivery.heard ≡ frames delivery.sent ++ delivery.rest
  pub each : AllByRecursion IsPayload delivery.sent
  pub in_order : SendsUntil sends old new delivery delivery.sending
  pub sent : AddsMessages (observed old).sent (observed new).sent delivery.sent
  pub left : (observed new).left ≡ (observed old).left

-- all that the gateway's bytes complete was sent, and what waits is less than a frame; or none came
abbrev pub IsDelivered : List ℕ → List ℕ → Delivery → Type 0
IsDelivered waiting left delivery = (left ≡ delivery.rest) × ((HasDelivered delivery × IsIncompleteFrame delivery.rest) ⊎ ((delivery.sent ≡ []) × (delivery.rest ≡ waiting)))

-- ---- the whole turn

-- what the read of the socket gave, the socket after it, and what the gateway's bytes led to
pub record TurnMet (W : Type 0) : Type 0 where
  pub got : Result Got WireFault
  pub read : W
  pub delivery : Delivery

-- neither a read nor a send of the turn has failed
pub record MetNoFailure {W : Type 0} (met : TurnMet W) : Type 0 where
  pub got : IsOk met.got
  pub heard : ¬ (met.delivery.heard ≡ ReadFailed)
  pub sent : met.delivery.sending ≡ Ok tt

-- the result of a turn, by what it met, the bytes that waited before it, those that wait after it, and whether it says that both reads found nothing
pub record Results {W : Type 0} (waiting left : List ℕ) (is_idle : Bool) (met : TurnMet W) (result : Result Bridged BridgeFault) : Type 0 where
  pub ended : (result ≡ Ok Ended) ↔ ((met.got ≡ Ok End) ⊎ (met.delivery.heard ≡ Brought (Some [])))
  pub outsized : (n : ℕ) → (result ≡ Err (Length n)) ↔ HasNoFrame met.got n
  pub unreadable : (result ≡ Err Frame) ↔ HasBadRest met.delivery
  pub faultless : OnOk result (MetNoFailure met)
  pub first : IsFaulty met.got → met.delivery.heard ≡ NotAsked
  pub asked : OnOk result ((met.delivery.heard ≡ NotAsked) ↔ (met.got ≡ Ok End))
  pub delivered : OnOk result (IsDelivered waiting left met.delivery)
  pub idle : (is_idle ≡ true) ↔ ((met.got ≡ Ok Nothing) × (met.delivery.heard ≡ Brought None))

-- the reads of a turn, what was sent, and what is left
pub record PassesOn {W G : Type 0} (observed : W → ObservedWire) (reads : W → W → Result Got WireFault → Type 0) (sends : W → W → List ℕ → Result (Unit {0}) WireFault → Type 0) (observed_gate : G → ObservedGate) (old new : Bridge W G) (met : TurnMet W) : Type 0 where
  pub read : reads old.wire met.read met.got
  pub got : TakesGot (observed old.wire).left (observed new.wire).left met.got
  pub chunk : TakesChunk (observed_gate old.gate).left (observed_gate new.gate).left met.delivery.heard
  pub sent : SendsFrame (observed_gate old.gate).sent (observed_gate new.gate).sent (framed met.got) met.delivery.heard
  pub delivered : Delivers observed sends met.read new.wire old.reader met.delivery

-- a turn: what it met, what it passed on, and its result
abbrev pub IsTurnOf : {W G : Type 0} → (W → ObservedWire) → (W → W → Result Got WireFault → Type 0) → (W → W → List ℕ → Result (Unit {0}) WireFault → Type 0) → (G → ObservedGate) → Bridge W G → Bridge W G → Result Bridged BridgeFault → Type 0
IsTurnOf {W} observed reads sends observed_gate old new result = (met : TurnMet W) × PassesOn observed reads sends observed_gate old new met × Results old.reader new.reader new.is_idle met result

-- the count never falls, and a failure of this kind is returned only where it rose
pub record HasCauseOf {T : Type 0} (fault : BridgeFault) (before now : ℕ) (result : Result T BridgeFault) : Type 0 where
  pub later : before ≤ now
  pub failed : result ≡ Err fault → Rose before now
