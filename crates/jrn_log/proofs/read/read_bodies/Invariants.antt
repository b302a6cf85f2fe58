-- What the loop of `read_bodies` keeps, and why it ends.
use Rattle.std.proofs.Common.{◌≡◌, ◌-◌, ◌*◌, ◌<◌, ◌≤◌, [], length, vec_len}
use Rattle.gw_site.specs.Outside.{outside_of}
use Rattle.gw_site.specs.Observed.{IfObserved, Grows}
use Rattle.jrn_log.specs.JournalSteps.{RestsDark}
use Rattle.jrn_log.specs.inner.FileReader.{BeginsWithSlots, HasReadSome}
use Rattle.jrn_log.proofs.read.read_bodies.Given as goal

abbrev pub invariant-chunks : goal.invariant-chunks
invariant-chunks g l = record {
  within : 256 * vec_len l.bodies < l.size;
  kept : Grows (g.S.Site.observed l.fn.site) (g.S.Site.observed l.site) (λ turns. turns ≡ []);
  steps : IfObserved (g.S.Site.observed l.fn.site) (λ before. HasReadSome before (g.S.Site.observed l.fn.site) (g.S.Site.observed l.site));
  rests : RestsDark (g.S.Site.observed l.fn.site) (g.S.Site.observed l.site);
  begins : IfObserved (g.S.Site.observed l.fn.site) (λ log. l.size ≡ length (outside_of log).file → BeginsWithSlots (outside_of log).file l.bodies.items);
  later : (g.S.Site.observed l.fn.site).faults ≤ (g.S.Site.observed l.site).faults;
}

abbrev pub decreases-chunks : goal.decreases-chunks
decreases-chunks g l = l.size - 256 * vec_len l.bodies
