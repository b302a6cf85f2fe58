-- What a proof may see of two files in memory: no log, but which disks are lost.
use Rattle.std.specs.Prelude.{false, None}
use Rattle.jrn_mirror.specs.PairObserved.{PairObserved}
use Rattle.mirror_tests.specs.declared.two_files.TwoFiles.{TwoFiles}

-- what is observed of a pair of files
abbrev pub files_observed : TwoFiles → PairObserved
files_observed pair = record { log = None; faults = pair.faults; dark = false; first_lost = pair.first.lost; second_lost = pair.second.lost }
