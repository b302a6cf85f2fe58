-- Proof of the contract of `read`.
use Rattle.std.proofs.Common.{◌≡◌, ◌∙◌, ◌-◌, length, arith, drop, take}
use Rattle.std.proofs.lemmas.List.{length-append, length-drop, length-take-le}
use Rattle.net_site.proofs.connection.read.Goals as goal

pub returns-clause-buf : goal.returns-clause-buf
returns-clause-buf c =
    let size = c.told-buf in
    let few = c.requires in
    let rest : length (drop c.args.most c.args.buf.now) ≡ 4096 - c.args.most = omega (arith, length-drop c.args.most c.args.buf.now) in
    let part : length (take c.args.most c.args.buf.now) ≡ c.args.most = length-take-le c.args.most c.args.buf.now (omega arith) in
    let read : length c.read.new.buf ≡ c.args.most = c.read.auto.buf ∙ part in
    length-append c.read.new.buf (drop c.args.most c.args.buf.now) ∙ omega arith
