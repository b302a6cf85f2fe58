-- What a connection and a socket in memory are: what is left and what was sent, and which call fails.
use Rattle.std.specs.Prelude.{◌≡◌, ◌↔◌, ℕ, ◌≤◌, List, length, Option, Some, None}
use Rattle.gw_site.specs.Failures.{one_more}
use Rattle.sale_ws.specs.declared.wire.Got.{Got}

-- a connection to the gateway: the chunks that are left, the bytes written, the calls so far, the number of the call that fails, and the failures so far
pub record GateInMemory : Type 0 where
  pub left : List (Option (List ℕ))
  pub sent : List ℕ
  pub calls : ℕ
  pub fails : Option ℕ
  pub faults : ℕ

-- a socket: what is left, the messages sent, the calls so far, the number of the call that fails, and the failures so far
pub record WireInMemory : Type 0 where
  pub left : List Got
  pub sent : List (List ℕ)
  pub calls : ℕ
  pub fails : Option ℕ
  pub faults : ℕ

-- one read brings the chunk
abbrev pub FitsRead : Option (List ℕ) → Type 0
FitsRead None = Unit {0}
FitsRead (Some chunk) = length chunk ≤ 4096

-- a call is counted, and which call fails stays
pub record CountsCall (calls calls_after : ℕ) (fails fails_after : Option ℕ) : Type 0 where
  pub counted : calls_after ≡ one_more calls
  pub same : fails_after ≡ fails

-- a call is counted, and fails exactly if it is the one that fails
pub record FailsByNumber (calls calls_after : ℕ) (fails fails_after : Option ℕ) (failure : Type 0) : Type 0 where
  pub counted : calls_after ≡ one_more calls
  pub same : fails_after ≡ fails
  pub failed : failure ↔ (fails ≡ Some calls)
