-- How many words an end is.
use Rattle.std.proofs.Common.{◌≡◌, ◌+◌, ℤ, List, length, Option, Some, None, refl, arith, length-append}
use Rattle.xmp_meaning.specs.declared.ends.End.{End}
use Rattle.xmp_meaning.specs.declared.ends.End.TheVariants.{Trapped, OutOfSteps, PhaseEnd}
use Rattle.xmp_meaning.specs.Exchanges.{PartEnd}
use Rattle.xmp_meaning.specs.Messages.{part_words, words_alone, words_sent}
use Rattle.xmp_meaning.specs.TrapWords.{end_words}

three_words : (o : Option End) (indices : List ℤ) → length (end_words o indices) ≡ 3
three_words None indices = refl
three_words (Some (Trapped kind at)) indices = refl
three_words (Some OutOfSteps) indices = refl
three_words (Some PhaseEnd) indices = refl

pub words_are : (e : PartEnd) → words_sent (words_alone (part_words (Some e))) ≡ length e.values + 3
words_are e =
    let l = length-append (end_words e.ended e.indices) e.values in
    let t = three_words e.ended e.indices in
    omega arith
