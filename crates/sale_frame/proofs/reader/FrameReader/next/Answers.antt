-- What the waiting bytes begin with gives the three clauses, and what waits after the payload the step.
use Rattle.std.proofs.Common.{refl, ap, sym, subst, Ok, drop}
use Rattle.sale_frame.specs.Steps.{TakesFrame, ReadsFrame, frame_step}
use Rattle.sale_frame.proofs.StepLemmas.{IsExact, exactly, all_waiting, gives, none_taken}
use Rattle.sale_frame.proofs.reader.FrameReader.next.Goals as goal
use Rattle.sale_frame.proofs.reader.FrameReader.next.Goals.{in-Some, in_default}

pub returns : goal.returns
returns c =
    let all = c.self.inside.buffer.items in
    let start = c.self.inside.start in
    let found = c.in_ok-payload.payload in
    let reads : ReadsFrame (drop start all) (Ok found) =
    subst (λ w. ReadsFrame w (Ok found)) (all_waiting c.deref.result.now all start c.deref.ensures.value) c.in_ok-payload.ensures in
    let exact : IsExact c.args.self.now (Ok found) = subst (λ w. IsExact w (Ok found)) c.self.view_is (exactly (drop start all) (Ok found) reads) in
    let step : TakesFrame (drop start all) (frame_step (Ok found)) c.match-payload.self.0 = elim c.match-payload.branch [
      | in-Some w ↦ subst (TakesFrame (drop start all) (frame_step (Ok found))) (sym (ap (λ p. p.0) w.self-is)) (gives all start found reads w.in-Some.payload w.in-Some.is)
      | in_default w ↦ subst (TakesFrame (drop start all) (frame_step (Ok found))) (sym (ap (λ p. p.0) w.self-is)) (none_taken (drop start all) found reads w.in_default.not-Some)
    ] in
    ((refl, (λ _. tt), subst (λ w. TakesFrame w (frame_step (Ok found)) c.match-payload.self.0) c.self.view_is step), record { step = tt; payload = exact.payload; none = exact.none; fault = exact.fault })
