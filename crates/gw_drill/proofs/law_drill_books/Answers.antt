-- Proof of the contract of `law_drill_books`.
use Rattle.std.proofs.Common.{[], refl}
use Rattle.gw_drill.proofs.DrillPlaceLemmas.{drill-is-at}
use Rattle.gw_drill.proofs.HonestLemmas.{drill-is-honest}
use Rattle.gw_drill.proofs.law_drill_books.Goals as goal

pub returns-clause-honest : goal.returns-clause-honest
returns-clause-honest c = drill-is-honest c.law_played.ensures.honest c.law_played.ensures.agrees

pub returns-clause-at : goal.returns-clause-at
returns-clause-at c = drill-is-at (record {
  met = λ pt setting. record { bytes = λ met bytes. c.law_met.ensures.bytes setting met bytes; sent = λ met bytes. c.law_met.ensures.sent setting met bytes; link = λ met. c.law_met.ensures.link setting met };
  nothing = c.law_decode_apdus.ensures.incomplete [] refl;
})
