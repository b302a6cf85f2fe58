-- What the code keeps, read as plain data.
use Rattle.std.specs.Prelude.{◌≡◌, ℕ, ◌++◌, List, drop, Bool}
use Rattle.std.specs.Bool.{OnFalse}
use Rattle.zvt_apdu.specs.DecodeStream.{decode_apdus}
use Rattle.pt_core.specs.declared.account.Account.{Account}
use Rattle.pt_core.specs.Serving.{AccountValue, heard}

-- the account as plain data: the plays that are left, and the entries
abbrev pub account_value : Account → AccountValue
account_value account = record {
  none = account.none;
  plays = drop account.used account.plays.now;
  book = account.entries.items;
}

-- these bytes were heard after those that waited: what is remembered then, what was sent, and whether the connection was
-- cut
pub record HearsAll (old : Account) (waiting bytes : List ℕ) (new : Account) (left out : List ℕ) (closed : Bool) : Type 0 where
  pub account : account_value new ≡ (heard (account_value old) (waiting ++ bytes)).account
  pub sent : out ≡ (heard (account_value old) (waiting ++ bytes)).bytes
  pub cut : closed ≡ (heard (account_value old) (waiting ++ bytes)).cut
  pub rest : OnFalse closed (left ≡ (decode_apdus (waiting ++ bytes)).rest)
