-- Where a tree has no verdict, its parts are made of a world in which no rule breaks; and what fits of them.
use Rattle.std.proofs.Common.{◌≡◌, ap, refl, subst, ℕ, true, Option, None, IsTrue}
use Rattle.std.specs.Prelude.{not, ◌||◌}
use Rattle.std.specs.List.{list_all, list_any}
use Rattle.xmp_prog.specs.declared.parts.Array as made_array
use Rattle.xmp_prog.specs.declared.parts.ProgParts.{ProgParts}
use Rattle.xmp_prog.specs.declared.statements.Stmt.{Stmt}
use Rattle.xmp_prog.specs.Fits.{DirectivesFit, MappingsFit, all_statements, has_coarrays}
use Rattle.xmp_prog.specs.Tests.{counted_fits, is_image, is_spread}
use Rattle.xmp_syntax.specs.declared.program.Tree.{Tree}
use Rattle.xmp_names.specs.declared.world.World.{World}
use Rattle.xmp_mapping_rules.specs.MappingRules.{mapping_rules}
use Rattle.xmp_parts.specs.Narrow.{is_count}
use Rattle.xmp_parts.specs.Parts.{IsParts, MadeAfter}
use Rattle.xmp_walk.specs.Program.{program_of, with_count}
use Rattle.xmp_parts.specs.Verdict.{broken_in, verdict, verdict_of, world_after}
use Rattle.xmp_names.specs.Walk.{Step, Gave}
use Rattle.xmp_fits.proofs.DirectivesWhole.{Right, coarrays_right, counted_right, directives_right, mappings_right, spread_right}
use Rattle.xmp_fits.proofs.Endings.{same_world}
use Rattle.xmp_fits.specs.NumbersLie.{tree_lies}
use Rattle.xmp_parts.proofs.Unbroken.{left_none}
use Rattle.xmp_parts.proofs.Verdicts.{no_verdict, unbroken}

-- The world that the walk ends in, with no rule broken.
pub record Ended (t : Tree) (given : Option ℕ) (p : ProgParts) : Type 0 where
  pub whole : Stmt
  pub last : World
  pub is : program_of t given ≡ Gave whole last
  pub right : Right whole last p

count_kept : (given : Option ℕ) (s : Step Stmt) (whole : Stmt) (v : World) → with_count given s ≡ Gave whole v → given ≡ v.given
count_kept given (Gave b w) whole v e = ap (λ (x : World). x.given) (same_world e)

pub ended : (t : Tree) (given : Option ℕ) (p : ProgParts) → IsTrue (is_count given) → verdict t given ≡ None → IsParts t given p → Ended t given p
ended t given p c h i = go (program_of t given) refl h i
  where
    go : (s : Step Stmt) → program_of t given ≡ s → verdict_of (broken_in (world_after s)) ≡ None → MadeAfter s p → Ended t given p
    go (Gave whole v) e h m = record {
      whole = whole;
      last = v;
      is = e;
      right = record {
        unbroken = left_none v.broken (mapping_rules v) (no_verdict (broken_in v) h);
        rules = unbroken v h;
        count = subst (λ g. IsTrue (is_count g)) (count_kept given _ whole v e) c;
        made = m;
      };
    }

-- What of the parts fits by mappings, coarrays and directives.
pub record MappedFit (p : ProgParts) : Type 0 where
  pub mappings : MappingsFit p
  pub coarrays : has_coarrays p.kind ≡ list_any {X = made_array.Array} (λ a. is_image a.home) p.arrays
  pub spread : IsTrue (not (has_coarrays p.kind) || list_all {X = made_array.Array} (λ a. not (is_spread a.home)) p.arrays)
  pub counted : IsTrue (all_statements p (counted_fits p))
  pub directives : DirectivesFit p

pub mapped_fit : (t : Tree) (given : Option ℕ) (p : ProgParts) → tree_lies t ≡ true → IsTrue (is_count given) → verdict t given ≡ None → IsParts t given p → MappedFit p
mapped_fit t given p n c h i =
    let e : Ended t given p = ended t given p c h i in
    record {
      mappings = mappings_right e.whole e.last p e.right;
      coarrays = coarrays_right t given e.whole e.last p e.is e.right;
      spread = spread_right e.whole e.last p e.right;
      counted = counted_right t given e.whole e.last p n e.is e.right;
      directives = directives_right t given e.whole e.last p n e.is e.right;
    }
