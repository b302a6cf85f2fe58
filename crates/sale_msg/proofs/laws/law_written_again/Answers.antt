-- Proof of the contract of `law_written_again`.
use Rattle.sale_msg.specs.Canonical.{request_tree}
use Rattle.sale_msg.proofs.BodyLemmas.{request_again}
use Rattle.sale_msg.proofs.SpellableLemmas.{request_spellable}
use Rattle.sale_msg.proofs.laws.law_written_again.Goals as goal

pub returns : goal.returns
returns c =
    let law = c.spellable_trees_have_texts.ensures in
    record {
      text = λ tree text header request s p.
          law.has (request_tree header request) (request_spellable tree header request (law.only tree text s) p);
      message = request_again;
    }
