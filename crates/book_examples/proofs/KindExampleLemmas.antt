-- The kinds of commands are as the examples have them.
use Rattle.std.proofs.Common.{refl}
use Rattle.book_examples.specs.KindExample.{KindsOfCommands}

pub kinds-of-commands : KindsOfCommands
kinds-of-commands = record { payment = refl; reversal = refl; enquiry = refl; reservation = refl; completion = refl; refund = refl; other_class = refl; class_alone = refl; empty = refl }
