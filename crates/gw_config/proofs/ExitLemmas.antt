-- What a `?` returns.
use Rattle.std.proofs.Common.{◌≡◌, Option, Result, Err}
use Rattle.std.specs.Prelude.{MatchResult}
use Rattle.gw_config.specs.declared.fault.ConfigFault.{ConfigFault}
use Rattle.gw_config.specs.inner.Decode.{Reports}

-- a result that is this fault reports what the fault reports
pub exit : {T : Type 0} (result : Result T ConfigFault) (P : T → Type 0) (first : Option ConfigFault) (fault : ConfigFault)
    → ((other : ConfigFault) × (result ≡ Err other) × (other ≡ fault)) → Reports first fault → MatchResult result P (Reports first)
exit result P first fault (other, is, same) reports = rw (is, same) reports
