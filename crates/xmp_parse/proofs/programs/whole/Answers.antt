use Rattle.std.proofs.Common.{rules, ◌≡◌, ℕ, true, false, sym, refl, ap, ◌∙◌}
use Rattle.std.proofs.lemmas.Result.{err_from_is_err_and}
use Rattle.xmp_reader.proofs.Opening.{seq, into, skip, first, second, again, no_more}
use Rattle.xmp_reader.proofs.Listing.{split, whole, once_more, if_so, if_not, none_so_far, one_more}
use Rattle.std.proofs.Common.{[]}
use Rattle.xmp_parse.proofs.FirstBreak.{finish_there, empty_list, not_empty, begun, whole_program, not_whole, stuck_fault, deep_fault}
use Rattle.xmp_parse.proofs.programs.whole.Goals as goal

pub returns-in_err-tree-clause-refused : goal.returns-in_err-tree-clause-refused
returns-in_err-tree-clause-refused c =
    let p = err_from_is_err_and c.from_residual.result c.from_residual.ensures.1 in
    rw (p.1, p.2) (c.in_err-tree.ensures.goes _ [] [] (begun c.start-depth.result c.args.tokens.now c.start-depth.ensures.now c.start-depth.ensures.base c.requires.finished))

pub returns-then-is_empty-clause-program : goal.returns-then-is_empty-clause-program
returns-then-is_empty-clause-program c =
    whole_program c.args.tokens.now c.in_ok-tree.r.tokens.now c.in_ok-tree.tree _ c.in_ok-tree.ensures.reads (empty_list _ _ c.is_empty.ensures c.if-is_empty.true) c.in_ok-tree.ensures.fits
    (c.in_ok-tree.ensures.goes _ [] [] (begun c.start-depth.result c.args.tokens.now c.start-depth.ensures.now c.start-depth.ensures.base c.requires.finished))

pub returns-else-is_empty-clause-refused : goal.returns-else-is_empty-clause-refused
returns-else-is_empty-clause-refused c =
    rw c.unexpected.ensures.value (not_whole _ _ c.in_ok-tree.r.tokens.now (not_empty _ _ c.is_empty.ensures c.if-is_empty.false) (c.in_ok-tree.ensures.goes _ [] [] (begun c.start-depth.result c.args.tokens.now c.start-depth.ensures.now c.start-depth.ensures.base c.requires.finished)))
