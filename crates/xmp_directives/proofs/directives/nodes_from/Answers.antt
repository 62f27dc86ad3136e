use Rattle.std.proofs.Common.{◌≡◌, ◌∙◌, ap, ap₂, sym, arith, rules, ℤ, pos, Option, Some, ◌+ℤ◌, ◌-ℤ◌}
use Rattle.std.proofs.lemmas.Int.{ints}
use Rattle.xmp_names.specs.declared.mappings.Notation.{Notation}
use Rattle.xmp_names.specs.declared.mappings.Notation.TheVariants.{Parens}
use Rattle.xmp_directives.specs.Directives.{nodes_from}
use Rattle.xmp_directives.proofs.directives.nodes_from.Goals as goal
use mir.Syntax.{w64}
use mir.Val.{SFits, of_z, to_z}

-- The nodes from one number to another in parentheses.
to_last : (written : Notation) (first : ℤ) (second : Option ℤ) (last p q : ℤ) → written ≡ Parens → second ≡ Some last → p ≡ first -ℤ pos 1 → q ≡ last -ℤ first +ℤ pos 1 →
    (p, q) ≡ nodes_from written first second
to_last written first second last p q w s x y = ap₂ (λ a b. (a, b)) x y ∙ sym (ap (λ n. nodes_from n first second) w ∙ ap (nodes_from Parens first) s)

pub returns-in-Parens-Some : goal.returns-in-Parens-Some
returns-in-Parens-Some c =
    let f : SFits w64 c.args.first = search rules in
    let g : SFits w64 c.in-Parens-Some.last = search rules in
    let b : c.from-b.result ≡ to_z w64 (of_z w64 c.args.first) = c.from-b.ensures in
    let l : c.from-in-Parens-Some.result ≡ to_z w64 (of_z w64 c.in-Parens-Some.last) = c.from-in-Parens-Some.ensures in
    to_last c.args.written c.args.first c.args.second c.in-Parens-Some.last _ _ c.in-Parens-Some.is-0 c.in-Parens-Some.is-1 (omega (arith, ints)) (omega (arith, ints))
