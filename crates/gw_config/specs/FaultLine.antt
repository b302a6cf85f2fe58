-- The line that the program prints for a fault.
use Rattle.std.specs.Prelude.{ℕ, List, ◌++◌, codes}
use Rattle.std.specs.Fmt.{decimal}
use Rattle.gw_config.specs.declared.fault.ConfigFault.{ConfigFault}
use Rattle.gw_config.specs.declared.fault.ConfigFault.TheVariants.{Long, NotToml, Missing, Wrong, Twice, Memory}

-- the line without its end
abbrev pub fault_line : ConfigFault → List ℕ
fault_line Long = codes "config long"
fault_line (NotToml offset) = codes "config not-toml " ++ decimal offset
fault_line (Missing key) = codes "config missing " ++ key
fault_line (Wrong key) = codes "config wrong " ++ key
fault_line (Twice poi) = codes "config twice " ++ poi
fault_line Memory = codes "memory"
