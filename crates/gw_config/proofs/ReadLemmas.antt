-- The first fault among several, as it is looked for.
use Rattle.std.proofs.Common.{◌≡◌, List, [], Option, Some, None, Result}
use Rattle.std.specs.Prelude.{IsErrAnd, MatchResult}
use Rattle.std.specs.Option.{option_or}
use Rattle.std.proofs.lemmas.Result.{err_from_is_err_and}
use Rattle.gw_config.specs.declared.fault.ConfigFault.{ConfigFault}
use Rattle.toml.specs.Data.{Members}
use Rattle.gw_config.specs.Faults.{first_some, terminals_of}
use Rattle.gw_config.specs.Keys.{key_fault, key_value, line_key, wait_key, slots_key, terminal_key}
use Rattle.gw_config.specs.inner.Decode.{Reports, limit_faults}
use Rattle.gw_config.proofs.ExitLemmas.{exit}

-- nothing is wrong with the first, nor with the others
pub no_fault : (first others : Option ConfigFault) → first ≡ None → others ≡ None → option_or first others ≡ None
no_fault first others none rest = rw none rest

-- the fault is that of the first
pub here : (first others : Option ConfigFault) (fault : ConfigFault) → Reports first fault → Reports (option_or first others) fault
here (Some found) others fault reports = reports
here None others fault reports = λ other. let e = reports other in cc

-- nothing is wrong with the first, and the fault is that of the others
pub beyond : (first others : Option ConfigFault) (fault : ConfigFault) → first ≡ None → Reports others fault → Reports (option_or first others) fault
beyond first others fault none reports = rw none reports

-- as the first fault of three, so before others
among_three : (first second third others : Option ConfigFault) (fault : ConfigFault) → Reports (option_or first (option_or second (option_or third None))) fault →
    Reports (option_or first (option_or second (option_or third others))) fault
among_three (Some found) second third others fault reports = reports
among_three None (Some found) third others fault reports = reports
among_three None None (Some found) others fault reports = reports
among_three None None None others fault reports = λ other. let e = reports other in cc

-- nothing is wrong with three of them, and the fault is that of the others
beyond_three : (first second third others : Option ConfigFault) (fault : ConfigFault) → option_or first (option_or second (option_or third None)) ≡ None → Reports others fault →
    Reports (option_or first (option_or second (option_or third others))) fault
beyond_three (Some found) second third others fault none reports = cc
beyond_three None (Some found) third others fault none reports = cc
beyond_three None None (Some found) others fault none reports = cc
beyond_three None None None others fault none reports = reports

-- nothing is wrong with three of them, nor with the others
no_fault_in_three : (first second third others : Option ConfigFault) → option_or first (option_or second (option_or third None)) ≡ None → others ≡ None → option_or first (option_or second (option_or third others)) ≡ None
no_fault_in_three (Some found) second third others none rest = cc
no_fault_in_three None (Some found) third others none rest = cc
no_fault_in_three None None (Some found) others none rest = cc
no_fault_in_three None None None others none rest = rest

-- the fault is that of the limits
pub among_limits : (table : Members) (others : Option ConfigFault) (fault : ConfigFault) → Reports (first_some (limit_faults [] table)) fault →
    Reports (option_or (key_fault [] line_key table) (option_or (key_fault [] wait_key table) (option_or (key_fault [] slots_key table) others))) fault
among_limits table others fault reports = among_three (key_fault [] line_key table) (key_fault [] wait_key table) (key_fault [] slots_key table) others fault reports

-- nothing is wrong with the limits, and the fault is that of the others
pub beyond_limits : (table : Members) (others : Option ConfigFault) (fault : ConfigFault) → first_some (limit_faults [] table) ≡ None → Reports others fault →
    Reports (option_or (key_fault [] line_key table) (option_or (key_fault [] wait_key table) (option_or (key_fault [] slots_key table) others))) fault
beyond_limits table others fault none reports = beyond_three (key_fault [] line_key table) (key_fault [] wait_key table) (key_fault [] slots_key table) others fault none reports

-- nothing is wrong with the limits, nor with the others
pub no_fault_in_limits : (table : Members) (others : Option ConfigFault) → first_some (limit_faults [] table) ≡ None → others ≡ None →
    option_or (key_fault [] line_key table) (option_or (key_fault [] wait_key table) (option_or (key_fault [] slots_key table) others)) ≡ None
no_fault_in_limits table others none rest = no_fault_in_three (key_fault [] line_key table) (key_fault [] wait_key table) (key_fault [] slots_key table) others none rest

-- what a `?` returns reports what its fault does
pub leaves : {T : Type 0} (result : Result T ConfigFault) (P : T → Type 0) (first : Option ConfigFault) (fault : ConfigFault) → IsErrAnd result (λ other. other ≡ fault) → Reports first fault → MatchResult result P (Reports first)
leaves result P first fault is reports = exit result P first fault (err_from_is_err_and result is) reports

-- the tables of terminals are those that the key says
pub terminals_are : (table : Members) (tables : List Members) → key_value terminal_key table ≡ Some tables → terminals_of table ≡ tables
terminals_are table tables is = rw is
