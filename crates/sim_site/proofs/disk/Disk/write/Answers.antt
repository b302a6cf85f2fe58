-- Proof of the contract of `write`.
use Rattle.std.proofs.Common.{refl}
use Rattle.sim_site.proofs.DiskLemmas.{disk_wrote}
use Rattle.sim_site.proofs.disk.Disk.write.Goals as goal

pub returns : goal.returns
returns c = λ o held. disk_wrote o c.args.self.now (record c.args.self.now { file = c.write_over.new.file; written = c.push.new.self }) c.args.offset c.args.bytes.now _ held c.in_ok-write_over.ensures refl c.in_ok-push.ensures.items refl refl
