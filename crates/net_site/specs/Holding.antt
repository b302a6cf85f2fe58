-- What a site over sockets and a file holds, and what each event and each call does to that.
use Rattle.std.specs.Prelude.{◌≡◌, ℕ, ◌+◌, ◌<◌, Bool, true, false, not, ◌==◌, List, [], ◌∷◌, ◌++◌, length, filter, All, Contains, slice_get, slice_set, Some, Result, Ok, Err, OnOk, OnErr}
use Rattle.gw_base.specs.declared.setup.Setup.{Setup}
use Rattle.gw_site.specs.Failures.{one_more, faults_after}
use Rattle.gw_site.specs.declared.site.What.{What}
use Rattle.gw_site.specs.declared.site.What.TheVariants.{TillOpened, TillBytes, TillClosed, PtBytes, PtClosed, Nothing, Stopped}

-- the numbers of the tills that are connected, and that of the last that opened, 0 before the first
pub record TillNumbers : Type 0 where
  pub connected : List ℕ
  pub last : ℕ

-- whether the file is open, and whether a call on it has failed
pub record DiskState : Type 0 where
  pub is_open : Bool
  pub failed : Bool

-- the tills; of each terminal, by its number, whether it is linked; whether new tills can come; whether poll(2) took its entries when it was last tried; the disk; and how often a call has failed
pub record Holding : Type 0 where
  pub tills : TillNumbers
  pub links : List Bool
  pub listens : Bool
  pub can_poll : Bool
  pub disk : DiskState
  pub faults : ℕ

-- the tills without that of this number
abbrev pub other_tills : List ℕ → ℕ → List ℕ
other_tills tills till = filter (λ other. not (other == till)) tills

-- the till of this number is gone, and nothing else
abbrev pub without_till : TillNumbers → ℕ → TillNumbers
without_till tills till = record tills { connected = other_tills tills.connected till }

-- one more till, whose number is the next
abbrev pub with_next : TillNumbers → TillNumbers
with_next tills = record { connected = tills.connected ++ (tills.last + 1) ∷ []; last = tills.last + 1 }

-- the terminal of this number is linked
abbrev pub IsLinked : List Bool → ℕ → Type 0
IsLinked links pt = slice_get links pt ≡ Some true

-- an event: a till opens with the next number, and only where the site listens and fewer than 65 are connected; bytes come only of a connection that is held; one that ends was held and is gone; nothing else changes, and none says that the site has stopped
abbrev pub Brings : Holding → Holding → What → Type 0
Brings old new (TillOpened till) = (old.listens ≡ true) × (length old.tills.connected < 65) × (till ≡ old.tills.last + 1) × (new ≡ record old { tills = with_next old.tills })
Brings old new (TillBytes till count) = Contains old.tills.connected till × (new ≡ old)
Brings old new (TillClosed till) = Contains old.tills.connected till × (new ≡ record old { tills = without_till old.tills till })
Brings old new (PtBytes pt count) = IsLinked old.links pt × (new ≡ old)
Brings old new (PtClosed pt) = IsLinked old.links pt × (new ≡ record old { links = slice_set old.links pt false })
Brings old new Nothing = new ≡ old
Brings old new Stopped = ⊥

-- every connection is gone
pub record AllGone (holding : Holding) : Type 0 where
  pub tills : holding.tills.connected ≡ []
  pub links : All (λ up. up ≡ false) holding.links

-- Inner: all closed: no till, no terminal, no listener and no file; the numbers of tills and the failures stay
abbrev pub closed : Holding → Holding
closed old = record old { tills = record old.tills { connected = [] }; links = []; listens = false; disk = record old.disk { is_open = false } }

-- what an opening leaves open: where it succeeded the file, the listener and the setup's terminals, and poll(2) takes the entries for all of them; where it failed nothing
abbrev pub LeavesOpen : {T E : Type 0} → Setup → Holding → Result T E → Type 0
LeavesOpen setup new (Ok done) = (new.disk.is_open ≡ true) × (new.listens ≡ true) × (new.can_poll ≡ true) × (length new.links ≡ length setup.terminals)
LeavesOpen setup new (Err failed) = (new.disk.is_open ≡ false) × (new.listens ≡ false) × (new.links ≡ [])

-- an opening: no connection is held after it, the numbers of tills go on, and one more failure is counted where it failed
pub record OpensSite {T E : Type 0} (setup : Setup) (old new : Holding) (result : Result T E) : Type 0 where
  pub gone : AllGone new
  pub left : LeavesOpen setup new result
  pub numbers : new.tills.last ≡ old.tills.last
  pub disk : new.disk.failed ≡ old.disk.failed
  pub faults : new.faults ≡ faults_after old.faults result

-- the making of a link, which replaces the one before; the terminal is linked exactly where the result is Ok
abbrev pub MakesLink : {T E : Type 0} → Holding → Holding → ℕ → Result T E → Type 0
MakesLink old new pt (Ok done) = (pt < length old.links) × (new ≡ record old { links = slice_set old.links pt true })
MakesLink old new pt (Err failed) = new ≡ record old { links = slice_set old.links pt false; faults = one_more old.faults }

-- the disk after a call on it has failed
abbrev pub failed_disk : DiskState → DiskState
failed_disk disk = record disk { failed = true }

-- the file is open, and no call on it has failed
pub record IsUsable (disk : DiskState) : Type 0 where
  pub is_open : disk.is_open ≡ true
  pub failed : disk.failed ≡ false

-- a call on the disk: Ok only where the file is open and no call has failed before, and after a failure the disk has failed
abbrev pub UsesDisk : {T E : Type 0} → Holding → Holding → Result T E → Type 0
UsesDisk old new (Ok done) = IsUsable old.disk × (new ≡ old)
UsesDisk old new (Err failed) = new ≡ record old { disk = failed_disk old.disk; faults = one_more old.faults }
