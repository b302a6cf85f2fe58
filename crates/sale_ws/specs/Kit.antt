-- What a socket of the kit's crate reads and writes, in the words of that crate.
use Rattle.std.specs.Prelude.{◌≡◌, ◌⊎◌, ℕ, List, [], Option, None, Result, Ok, Err, OnOk}
use Rattle.std.specs.IoError.{error_kind}
use Rattle.std.specs.declared.io.ErrorKind.TheVariants.{WouldBlock}
use Rattle.tungstenite.specs.Connection.{close_step, write_step}
use Rattle.tungstenite.specs.Content.{binary}
use Rattle.tungstenite.specs.Failure.{WriteFails, IsIo}
use Rattle.tungstenite.specs.Socket.{Socket, Reads, Writes}
use Rattle.tungstenite.specs.declared.message.Message.{Message as KitMessage}
use Rattle.tungstenite.specs.declared.error.Error.{Error}
use Rattle.tungstenite.specs.declared.error.Error.TheVariants as KitError
use Rattle.sale_ws.specs.declared.wire.Got.{Got}
use Rattle.sale_ws.specs.declared.wire.Got.TheVariants.{Message, Control, Nothing, End}
use Rattle.sale_ws.specs.declared.wire.WireFault.{WireFault}
use Rattle.sale_ws.specs.declared.wire.WireFault.TheVariants.{Failed, Memory}

-- what a message of the kit's crate is: a text or binary message is one of the till; a ping or a pong is nothing for the gateway; a close is the end
abbrev pub got_of : KitMessage → Got
got_of (KitMessage.Text bytes) = Message bytes
got_of (KitMessage.Binary bytes) = Message bytes
got_of (KitMessage.Ping bytes) = Control
got_of (KitMessage.Pong bytes) = Control
got_of (KitMessage.Close frame) = End

-- what a read of the kit's crate that failed is: the end of a connection that was closed; nothing now, exactly where the stream would block; no memory; or a failure
abbrev pub IsReadError : Error → Result Got WireFault → Type 0
IsReadError KitError.ConnectionClosed result = result ≡ Ok End
IsReadError (KitError.Io cause) result = ((error_kind cause ≡ WouldBlock) × (result ≡ Ok Nothing)) ⊎ (¬ (error_kind cause ≡ WouldBlock) × (result ≡ Err Failed))
IsReadError KitError.OutOfMemory result = result ≡ Err Memory
IsReadError KitError.AlreadyClosed result = result ≡ Err Failed
IsReadError (KitError.Capacity cause) result = result ≡ Err Failed
IsReadError (KitError.Protocol cause) result = result ≡ Err Failed
IsReadError KitError.WriteBufferFull result = result ≡ Err Failed
IsReadError KitError.Utf8 result = result ≡ Err Failed
IsReadError KitError.AttackAttempt result = result ≡ Err Failed
IsReadError (KitError.Handshake cause) result = result ≡ Err Failed
IsReadError KitError.HandshakeIncomplete result = result ≡ Err Failed
IsReadError KitError.JunkAfterRequest result = result ≡ Err Failed
IsReadError KitError.CustomResponseSuccessful result = result ≡ Err Failed
IsReadError KitError.Url result = result ≡ Err Failed
IsReadError (KitError.Http response) result = result ≡ Err Failed
IsReadError (KitError.Refused response) result = result ≡ Err Failed

-- what a read of the kit's crate is to a bridge: its message, unless there is no memory for a copy of it, or its error
abbrev pub IsGotOf : Result KitMessage Error → Result Got WireFault → Type 0
IsGotOf (Ok message) result = (result ≡ Ok (got_of message)) ⊎ (result ≡ Err Memory)
IsGotOf (Err error) result = IsReadError error result

-- a read of the socket is one read of the kit's crate: what it gives is the message that ends a run of frames that the stream gave
abbrev pub ReadsSocket : {S : Type 0} → (S → Option (List ℕ)) → Socket S → Socket S → Result Got WireFault → Type 0
ReadsSocket remaining old new result = (read : Result KitMessage Error) × Reads remaining old new read × IsGotOf read result

-- a send to the socket: the frame of one binary message is appended to what goes to the stream; without memory nothing is; a failure is the kit's crate's
abbrev pub SendsSocket : {S : Type 0} → (S → Option (List ℕ)) → Socket S → Socket S → List ℕ → Result (Unit {0}) WireFault → Type 0
SendsSocket contents old new message (Ok done) = Writes contents old new (write_step old.conn (binary message)) × (new.output ≡ [])
SendsSocket contents old new message (Err Memory) = new ≡ old
SendsSocket contents old new message (Err Failed) =
    (error : Error) × WriteFails (write_step old.conn (binary message)) error
    × (IsIo error → Writes contents old new (write_step old.conn (binary message)))

-- a close frame is appended to what goes to the stream, unless one was; what the stream doesn't take is lost
abbrev pub ClosesSocket : {S : Type 0} → (S → Option (List ℕ)) → Socket S → Socket S → Type 0
ClosesSocket contents old new = (closed : Result (Unit {0}) Error) × OnOk closed (Writes contents old new (close_step old.conn None))
