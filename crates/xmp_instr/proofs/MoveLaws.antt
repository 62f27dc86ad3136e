-- A transfer fits where its sides fit, one by one and together.
use Rattle.std.proofs.Common.{◌≡◌, ◌↔◌, ◌≤◌, ◌^◌, ◌∙◌, ℕ, Bool, true, IsTrue, Option, Some, None, sym, arith}
use Rattle.std.specs.Prelude.{MatchOption, is_some}
use Rattle.std.proofs.lemmas.Bool.{false≢true}
use Rattle.xmp_num.specs.declared.types.Ty.{Ty}
use Rattle.xmp_prog.specs.Tests.{is_spread}
use Rattle.xmp_move.specs.declared.kind.Side.{Side}
use Rattle.xmp_move.specs.declared.kind.MoveKind.TheVariants.{Reflect, Gmove}
use Rattle.xmp_instr.specs.declared.parts.CodeParts.{CodeParts}
use Rattle.xmp_instr.specs.Valid.{MoveFits}
use Rattle.xmp_instr.specs.Sides.{PairFits, SideFits}

small : (n words : ℕ) → words ≤ 2 ^ 32 → n ≤ words → n ≤ 2 ^ 32
small n words w h = omega (arith, w, h)

-- an answer that is there exactly where a fact holds
pub match_is : (o : Option ℕ) (r : Bool) (P : Type 0) (Q : ℕ → Type 0) → r ≡ is_some o → MatchOption o (P → ⊥) (λ n. P × Q n) → IsTrue r ↔ P
match_is None r P Q e m = (λ h. absurd (false≢true (sym e ∙ h)), λ p. absurd (m p))
match_is (Some n) r P Q e m = (λ h. m.0, λ p. e)

pub reflect_is : (c : CodeParts) (a : Side) → c.words ≤ 2 ^ 32 → is_spread a.home ≡ true → SideFits c a ↔ MoveFits c (Reflect a)
reflect_is c a w spread = (
  λ f. record {
    grids = (f.lies.over, tt);
    laid_out = record {
      no_image = (f.lies.no_image, tt);
      spread = spread;
      maps = (f.lies.maps, tt);
      grid = tt;
      dims = (f.dims, tt);
      extents = (f.extents, tt);
      cells = (f.cells, tt);
      parts = tt;
      words = (small _ c.words w f.words, tt);
      sections = tt;
    };
    words = (f.words, tt);
    arrays = tt;
  },
  λ m. record {
    lies = record { over = m.grids.0; no_image = m.laid_out.no_image.0; maps = m.laid_out.maps.0 };
    dims = m.laid_out.dims.0;
    extents = m.laid_out.extents.0;
    cells = m.laid_out.cells.0;
    words = m.words.0;
  },
)

pub not_spread : (c : CodeParts) (a : Side) → MoveFits c (Reflect a) → is_spread a.home ≡ true
not_spread c a m = m.laid_out.spread

pub gmove_is : (c : CodeParts) (t s : Side) (ty : Ty) → c.words ≤ 2 ^ 32 → (SideFits c t × SideFits c s × PairFits c t s) ↔ MoveFits c (Gmove t s ty)
gmove_is c t s ty w = (
  λ f. record {
    grids = (f.0.lies.over, (f.1.lies.over, tt));
    laid_out = record {
      no_image = (f.0.lies.no_image, (f.1.lies.no_image, tt));
      spread = tt;
      maps = (f.0.lies.maps, (f.1.lies.maps, tt));
      grid = f.2.grid;
      dims = (f.0.dims, (f.1.dims, tt));
      extents = (f.0.extents, (f.1.extents, tt));
      cells = (f.0.cells, (f.1.cells, tt));
      parts = (f.2.target_parts, f.2.source_parts);
      words = (small _ c.words w f.0.words, (small _ c.words w f.1.words, tt));
      sections = f.2.sections;
    };
    words = (f.0.words, (f.1.words, tt));
    arrays = f.2.arrays;
  },
  λ m. (
    record {
      lies = record { over = m.grids.0; no_image = m.laid_out.no_image.0; maps = m.laid_out.maps.0 };
      dims = m.laid_out.dims.0;
      extents = m.laid_out.extents.0;
      cells = m.laid_out.cells.0;
      words = m.words.0;
    },
    record {
      lies = record { over = m.grids.1.0; no_image = m.laid_out.no_image.1.0; maps = m.laid_out.maps.1.0 };
      dims = m.laid_out.dims.1.0;
      extents = m.laid_out.extents.1.0;
      cells = m.laid_out.cells.1.0;
      words = m.words.1.0;
    },
    record { grid = m.laid_out.grid; target_parts = m.laid_out.parts.0; source_parts = m.laid_out.parts.1; sections = m.laid_out.sections; arrays = m.arrays },
  ),
)
