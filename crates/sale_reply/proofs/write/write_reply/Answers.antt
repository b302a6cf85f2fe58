-- Proof of the contract of `write_reply`.
use Rattle.std.proofs.Common.{◌≡◌, ℕ, ◌≤◌, List, [], ◌∷◌, ◌++◌, ◌∙◌, length, drop, ap, arith}
use Rattle.json_text.specs.Canonical.{canonical}
use Rattle.sale_frame.specs.Grammar.{frame}
use Rattle.sale_reply.specs.inner.Appends.{Appends}
use Rattle.sale_reply.specs.Reply.{tree_of}
use Rattle.sale_reply.proofs.CanonicalLemmas.{reply_nonempty}
use Rattle.sale_reply.proofs.write.write_reply.Goals as goal

-- a message that fits a frame, after the four bytes for its length
appended : {begun new text : List ℕ} → length text ≤ 65536 → begun ≡ 0 ∷ 0 ∷ 0 ∷ 0 ∷ [] → Appends begun new text → new ≡ 0 ∷ 0 ∷ 0 ∷ 0 ∷ text
appended {begun} {new} {text} fits is appends =
    let size : length begun ≡ 4 = ap length is in
    appends.grows (omega arith) ∙ ap (λ prefix. prefix ++ text) is

pub end-requires-clause-begun : goal.end-requires-clause-begun
end-requires-clause-begun c =
    let fits : length (canonical (tree_of c.args.reply.now)) ≤ 65536 = c.law_size.ensures c.args.reply.now c.requires in
    rw (appended fits c.begin.ensures c.write_message.ensures) (omega (arith, reply_nonempty c.args.reply.now))

pub end-requires-clause-fits : goal.end-requires-clause-fits
end-requires-clause-fits c =
    let fits : length (canonical (tree_of c.args.reply.now)) ≤ 65536 = c.law_size.ensures c.args.reply.now c.requires in
    rw (appended fits c.begin.ensures c.write_message.ensures) (omega (arith, fits))

pub returns : goal.returns
returns c =
    let fits : length (canonical (tree_of c.args.reply.now)) ≤ 65536 = c.law_size.ensures c.args.reply.now c.requires in
    c.end.ensures ∙ ap (λ bytes. frame (drop 4 bytes)) (appended fits c.begin.ensures c.write_message.ensures)
