-- Proof of the contract of `counts_after`.
use Rattle.std.proofs.Common.{◌∙◌, ap, arith}
use Rattle.std.specs.Prelude.{is_some}
use Rattle.gw_script.specs.site.Peers.{book_of_peer}
use Rattle.sim_site.specs.Sites.{log_of, place_of}
use Rattle.gw_run.proofs.DrillSiteLemmas.{book-countable, book-is, end-refused, few-turns, has-counted, site-books}
use Rattle.gw_run.proofs.drill.counts_after.Goals as goal

pub book_of-requires : goal.book_of-requires
book_of-requires c =
    let books = site-books c.requires.0 c.requires.1 c.args.end c.args.site.now c.log.result.now c.requires.2 c.in-Done.is (few-turns c.as_slice-log.result.now c.log.result.now c.as_slice-log.ensures (let size = c.as_slice-log.type_inv.1 in omega (arith, size))) c.log.ensures.log c.law_drill_books.ensures.at c.log.ensures.drill in
    ap is_some books.0

pub book_of-requires-in-Done : goal.book_of-requires-in-Done
book_of-requires-in-Done c =
    let books = site-books c.requires.0 c.requires.1 c.args.end c.args.site.now c.log.result.now c.requires.2 c.in-Done.is (few-turns c.as_slice-log.result.now c.log.result.now c.as_slice-log.ensures (let size = c.as_slice-log.type_inv.1 in omega (arith, size))) c.log.ensures.log c.law_drill_books.ensures.at c.log.ensures.drill in
    ap is_some books.1

pub of-requires-clause-first : goal.of-requires-clause-first
of-requires-clause-first c =
    let books = site-books c.requires.0 c.requires.1 c.args.end c.args.site.now c.log.result.now c.requires.2 c.in-Done.is (few-turns c.as_slice-log.result.now c.log.result.now c.as_slice-log.ensures (let size = c.as_slice-log.type_inv.1 in omega (arith, size))) c.log.ensures.log c.law_drill_books.ensures.at c.log.ensures.drill in
    book-countable c.requires.0 c.requires.1 0 (log_of c.args.site.now) c.book_of.result.now c.law_book.ensures.fit c.law_book.ensures.few (book-is c.book_of.result.now _ (book_of_peer (place_of c.args.site.now).peers 0) c.book_of.ensures books.0)

pub of-requires-clause-second : goal.of-requires-clause-second
of-requires-clause-second c =
    let books = site-books c.requires.0 c.requires.1 c.args.end c.args.site.now c.log.result.now c.requires.2 c.in-Done.is (few-turns c.as_slice-log.result.now c.log.result.now c.as_slice-log.ensures (let size = c.as_slice-log.type_inv.1 in omega (arith, size))) c.log.ensures.log c.law_drill_books.ensures.at c.log.ensures.drill in
    book-countable c.requires.0 c.requires.1 1 (log_of c.args.site.now) c.book_of-in-Done.result.now c.law_book.ensures.fit c.law_book.ensures.few (book-is c.book_of-in-Done.result.now _ (book_of_peer (place_of c.args.site.now).peers 1) c.book_of-in-Done.ensures books.1)

pub returns-in-Done-clause-counted : goal.returns-in-Done-clause-counted
returns-in-Done-clause-counted c = λ from payments ran.
    let books = site-books from payments c.args.end c.args.site.now c.log.result.now ran c.in-Done.is (few-turns c.as_slice-log.result.now c.log.result.now c.as_slice-log.ensures (let size = c.as_slice-log.type_inv.1 in omega (arith, size))) c.log.ensures.log c.law_drill_books.ensures.at c.log.ensures.drill in
    has-counted from payments c.args.end c.args.site.now c.log.result.now c.of.result c.book_of.result.now c.book_of-in-Done.result.now ran c.in-Done.is (few-turns c.as_slice-log.result.now c.log.result.now c.as_slice-log.ensures (let size = c.as_slice-log.type_inv.1 in omega (arith, size))) c.log.ensures.log
    c.law_headline.ensures.throughout c.law_one_course.ensures.one c.law_kept_files.ensures.lawful_kept c.law_drill_books.ensures.at c.law_drill_books.ensures.honest
    (book-is c.book_of.result.now _ (book_of_peer (place_of c.args.site.now).peers 0) c.book_of.ensures books.0) (book-is c.book_of-in-Done.result.now _ (book_of_peer (place_of c.args.site.now).peers 1) c.book_of-in-Done.ensures books.1) c.of.ensures

pub returns-in_default : goal.returns-in_default
returns-in_default c = record {
  counted = λ from payments ran. tt;
  refused = c.ending_of.ensures ∙ end-refused c.requires.0 c.requires.1 c.args.end c.args.site.now c.log.result.now c.requires.2 c.in_default.not-Done (few-turns c.as_slice-log.result.now c.log.result.now c.as_slice-log.ensures (let size = c.as_slice-log.type_inv.1 in omega (arith, size))) c.log.ensures.log;
}
