-- The limits within which a gateway's setup and its terminals lie.
use Rattle.std.specs.Prelude.{◌≡◌, ◌≢◌, ◌≤◌, List, [], ◌∷◌, All, length}
use Rattle.gw_base.specs.Bcd.{IsBcd}
use Rattle.gw_base.specs.Ident.{IsIdent}
use Rattle.gw_base.specs.declared.setup.Pt.{Pt}
use Rattle.gw_base.specs.declared.setup.Setup.{Setup}

-- a terminal's setup within the limits
pub record IsPt (pt : Pt) : Type 0 where
  pub poi : IsIdent 40 pt.poi
  pub password : (length pt.password ≡ 3) × IsBcd pt.password
  pub config : pt.config ≤ 255
  pub none : pt.none ≤ 255
  pub answer : (1 ≤ pt.answer) × (pt.answer ≤ 60)
  pub command : (1 ≤ pt.command) × (pt.command ≤ 3600)

-- each of these terminals has a POIID of its own
abbrev pub HaveDistinctPois : List Pt → Type 0
HaveDistinctPois [] = Unit {0}
HaveDistinctPois (pt ∷ pts) = All (λ other. pt.poi ≢ other.poi) pts × HaveDistinctPois pts

-- a gateway's setup within the limits
pub record IsSetup (setup : Setup) : Type 0 where
  pub name : IsIdent 40 setup.name
  pub line : setup.line ≤ 8
  pub wait : (1 ≤ setup.wait) × (setup.wait ≤ 3600)
  pub slots : (2 ≤ setup.slots) × (setup.slots ≤ 1000000)
  pub count : length setup.terminals ≤ 32
  pub each : All IsPt setup.terminals
  pub distinct : HaveDistinctPois setup.terminals
