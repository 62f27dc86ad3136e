-- Where a tree has no verdict, its parts fit.
use Rattle.std.proofs.Common.{◌≡◌, ◌∙◌, ap, [], ℕ, true, Option, None, IsTrue}
use Rattle.xmp_prog.specs.declared.parts.ProgParts.{ProgParts}
use Rattle.xmp_prog.specs.Fits.{FunctionsFit, PartsFit, ScalarsFit}
use Rattle.xmp_prog.specs.Tests.{returns_last}
use Rattle.xmp_syntax.specs.declared.program.Tree.{Tree}
use Rattle.xmp_parts.specs.Narrow.{is_count}
use Rattle.xmp_parts.specs.Parts.{IsParts}
use Rattle.xmp_walk.specs.Program.{program_of}
use Rattle.xmp_parts.specs.Verdict.{verdict}
use Rattle.xmp_fits.proofs.Endings.{ends_at}
use Rattle.xmp_fits.specs.NumbersLie.{tree_lies}
use Rattle.xmp_fits.proofs.ProgramTerms.{TermsRight, terms_right}
use Rattle.xmp_fits.proofs.ReturnsLast.{returns_fit}
use Rattle.xmp_fits.proofs.ScopesFit.{scopes_fit}
use Rattle.xmp_fits.proofs.VerdictRight.{Ended, MappedFit, ended, mapped_fit}

pub parts_fit : (t : Tree) (given : Option ℕ) (p : ProgParts) → tree_lies t ≡ true → IsTrue (is_count given) → verdict t given ≡ None → IsParts t given p → PartsFit p
parts_fit t given p n c h i =
    let e : Ended t given p = ended t given p c h i in
    let mapped : MappedFit p = mapped_fit t given p n c h i in
    let terms : TermsRight p = terms_right t given e.whole e.last p n e.is e.right.unbroken e.right.made mapped.mappings.extents in
    let returns : returns_last e.whole ≡ true = ends_at (λ whole v. v.broken ≡ [] → returns_last whole ≡ true) (program_of t given) e.whole e.last (returns_fit t given n) e.is e.right.unbroken in
    let scopes : ScalarsFit p × FunctionsFit p = scopes_fit t given e.whole e.last p n e.is e.right.unbroken e.right.made terms in
    record {
      mappings = mapped.mappings;
      kinds = record { coarrays = mapped.coarrays; spread = mapped.spread; node_numbers = terms.node_numbers; syncs = terms.syncs; images = terms.images };
      expressions = terms.expressions;
      statements = record { assignments = terms.assignments; counted = mapped.counted; returns = ap returns_last e.right.made.body ∙ returns; formats = terms.formats };
      directives = mapped.directives;
      scalars = scopes.0;
      functions = scopes.1;
    }
