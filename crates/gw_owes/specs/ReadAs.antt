-- What a till's bytes are read as: the one relation of what is owed.
use Rattle.std.specs.Prelude.{ℕ, List}
use Rattle.json_text.specs.declared.fault.JsonFault.{JsonFault}
use Rattle.json_text.specs.Tree.{Tree}
use Rattle.json_text.specs.Grammar.{Spells}
use Rattle.json_text.specs.Fault.{IsJsonFault}
use Rattle.sale_values.specs.declared.fault.SaleFault.{SaleFault}
use Rattle.sale_values.specs.declared.header.Header.{Header}
use Rattle.sale_values.specs.declared.request.Incoming.{Incoming}
use Rattle.sale_values.specs.declared.request.Incoming.TheVariants as incoming
use Rattle.sale_values.specs.declared.request.SaleRequest.{SaleRequest}
use Rattle.sale_msg.specs.Grammar.{IsTillMessage, IsSaleFault}

-- what a till's bytes are: one of four
pub data ReadAs : Type 0 where
  -- a request
  Request : Header → SaleRequest → ReadAs
  -- a response or a notification
  Silent : ReadAs
  -- JSON that is no message
  NoMessage : SaleFault → ReadAs
  -- no JSON
  NoJson : JsonFault → ReadAs

-- the bytes spell a tree, which is this message
pub record SpellsTillMessage (bytes : List ℕ) (message : Incoming) : Type 0 where
  pub tree : Tree
  pub spelled : Spells tree bytes
  pub read : IsTillMessage tree message

-- the bytes spell a tree, which is no message and has this first fault
pub record SpellsSaleFault (bytes : List ℕ) (fault : SaleFault) : Type 0 where
  pub tree : Tree
  pub spelled : Spells tree bytes
  pub faulty : IsSaleFault tree fault

-- the bytes of a till's message are read as this
abbrev pub IsReadAs : List ℕ → ReadAs → Type 0
IsReadAs bytes (Request header request) = SpellsTillMessage bytes (incoming.Request header request)
IsReadAs bytes Silent = SpellsTillMessage bytes incoming.Silent
IsReadAs bytes (NoMessage fault) = SpellsSaleFault bytes fault
IsReadAs bytes (NoJson fault) = IsJsonFault bytes fault.at fault.kind
