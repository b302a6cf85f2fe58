-- Proof of the contract of `OpenObject::gap`.
use Rattle.std.proofs.Common.{◌≡◌, length, arith}
use Rattle.json_text.specs.declared.members.OpenObject.{OpenObject}
use Rattle.json_text.proofs.IndexLemmas.{first_few, has_few}
use Rattle.json_text.proofs.GapLemmas.{gap_found, index_of}
use Rattle.json_text.proofs.members.OpenObject.gap.Goals as goal

pub returns-then-is_among : goal.returns-then-is_among
returns-then-is_among c =
    let o : OpenObject = c.args.self.now in
    let count : c.len.result ≡ length c.args.self.now.members.items = omega (arith, c.len.ensures, c.args.self.now.members.ok.0) in
    has_few c.args.name.now o.members.items _ (index_of o) c.is_among.result (first_few o.members.items _ _ _ c.deref.ensures.value count c.min.ensures) c.is_among.ensures (o.known c.args.name.now) c.if-is_among.true

pub returns : goal.returns
returns c =
    let o : OpenObject = c.args.self.now in
    let count : c.len.result ≡ length c.args.self.now.members.items = omega (arith, c.len.ensures, c.args.self.now.members.ok.0) in
    gap_found o c.args.name.now _ c.is_among.result c.gap_in_index.result (first_few o.members.items _ _ _ c.deref.ensures.value count c.min.ensures) c.is_among.ensures c.if-is_among.false c.gap_in_index.ensures
