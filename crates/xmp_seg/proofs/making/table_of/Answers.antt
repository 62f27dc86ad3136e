use Rattle.std.proofs.Common.{◌≡◌, ℕ, List, [], ◌∙◌, ap, subst, sym}
use Rattle.xmp_seg.specs.Rule.{Ruled, all_at_start}
use Rattle.atomic_table.specs.Table.{opening}
use Rattle.xmp_seg.proofs.Runs.{begins}
use Rattle.xmp_seg.proofs.making.table_of.Goals as goal

pub of_words-requires : goal.of_words-requires
of_words-requires g c =
    let s = g.S.Script.script in
    let is = c.deref.ensures.value ∙ c.in_ok-words.ensures.words in
    subst (λ (l : List ℕ). Ruled s (opening l [] (all_at_start s))) (sym is) (begins s c.args.start.now c.requires.script c.requires.start c.in_ok-words.ensures.range)
