-- Proof of the contract of `on_bytes`.
use Rattle.std.proofs.Common.{◌≡◌, ◌++◌, sym, ◌∙◌}
use Rattle.std.specs.Prelude.{OnOk, Some, slice_get}
use Rattle.std.proofs.lemmas.Int.{to_z-of_z}
use Rattle.std.proofs.lemmas.Option.{slice_get_read}
use Rattle.gw_dispatch.specs.Apdus.{IsRest}
use Rattle.gw_dispatch.proofs.PtsLemmas.{chunk-ready, over-chunk}
use Rattle.gw_dispatch.proofs.pts.on_bytes.Goals as goal

pub returns-clause-triple : goal.returns-clause-triple
returns-clause-triple g c = λ setup polls items.
    let state : slice_get c.args.readers.now.items c.args.pt ≡ Some c.index_mut-reader.result.now = slice_get_read _ _ _ _ (sym c.requires.ready.count) c.requires.there (rw c.from.ensures at c.index_mut-reader.ensures.value) in
    let rest : OnOk c.take_apdus.result (IsRest c.take_apdus.new.state.core c.args.pt (c.index_mut-reader.result.now ++ c.args.bytes.now) c.take_apdus.new.reader) = rw c.feed.ensures at c.take_apdus.ensures.reader in
    rw c.from.ensures (over-chunk _ _ setup c.args.state.now c.take_apdus.new.state c.args.tills.now.list.items c.take_apdus.new.tills.list.items polls c.args.now c.args.readers.now.items c.args.pt c.index_mut-reader.result.now c.args.bytes.now c.take_apdus.new.reader items c.take_apdus.result
    c.requires.ready.waits (c.requires.ready.count ∙ sym c.take_apdus.ensures.count) state rest (λ heard. rw c.feed.ensures at (simp (to_z-of_z, c.ranges.now) at (c.take_apdus.ensures.triple setup polls heard items))))

pub returns-clause-ready : goal.returns-clause-ready
returns-clause-ready g c =
    let rest : OnOk c.take_apdus.result (IsRest c.take_apdus.new.state.core c.args.pt (c.index_mut-reader.result.now ++ c.args.bytes.now) c.take_apdus.new.reader) = rw c.feed.ensures at c.take_apdus.ensures.reader in
    rw c.from.ensures (chunk-ready c.take_apdus.result c.take_apdus.new.state (g.S.Site.observed c.take_apdus.new.site) c.args.state.now.core c.args.readers.now.items c.args.pt (c.index_mut-reader.result.now ++ c.args.bytes.now) c.take_apdus.new.reader c.requires.ready c.take_apdus.ensures.count rest c.take_apdus.ensures.well)
