-- Proof of the contract of `order_of`.
use Rattle.std.proofs.Common.{◌≡◌, ℕ, ◌<◌, List, [], length, get_or, nat_cmp, sym, ap, ◌∙◌}
use Rattle.std.proofs.lemmas.List.{get_or-map}
use Rattle.std.specs.Cmp.Lexicographic.{slice_cmp}
use Rattle.json_text.specs.MemberNames.{pair_names}
use Rattle.json_text.specs.inner.MemberIndex.{name_at}
use Rattle.json_text.specs.declared.tree.Json.{Json}
use Rattle.json_text.proofs.members.OpenObject.order_of.Goals as goal

-- the name of the member of this number
name_read : (members : List (List ℕ × Json)) (number : ℕ) (m : List ℕ × Json) → number < length members → m ≡ get_or members number m → m.0 ≡ name_at (pair_names members) number
name_read members number m inside is =
    ap (λ (k : List ℕ × Json). k.0) is ∙ sym (get_or-map (λ (k : List ℕ × Json). k.0) members number m [] inside)

pub returns : goal.returns
returns c =
    let own = c.as_bytes.ensures ∙ name_read c.args.self.now.members.items c.args.number c.index.result.now c.requires c.index.ensures in
    c.cmp.ensures ∙ ap (λ (name : List ℕ). slice_cmp nat_cmp name c.args.name.now) own
