use Rattle.std.proofs.Common.{arith, ◌≡◌, length, rules, refl, sym, ap, ◌∙◌, Some, None}
use Rattle.std.specs.Prelude.{if◌then◌else◌}
use Rattle.xmp_map.specs.declared.fault.MapError.TheVariants.{Chunk}
use Rattle.xmp_map.specs.Spread.{spreads}
use Rattle.std.proofs.lemmas.Bool.Decides.{nat_tests}
use Rattle.xmp_map.proofs.SpreadLaws.{fault_of, fits_three, spreads-filled, whole_rest}
use Rattle.xmp_map.proofs.template.Template.new.Goals as goal

pub returns-in-Ok : goal.returns-in-Ok
returns-in-Ok c =
    let g = c.args.grid.now in
    let s = c.in-Some.ensures in
    let hl : length c.args.dists.now ≡ length c.args.sizes.now = search rules in
    let hm : spreads c.args.dists.now ≡ g.dims = search rules in
    let f = fault_of g.dims g.sizes c.args.sizes.now c.args.dists.now _ _ _ _ _ _ s.0 hl hm s.1 c.filled_dists-d0.ensures in
    record {
      parts = (refl, refl, c.in-Ok.ensures.sizes ∙ sym s.1, c.in-Ok.ensures.dists ∙ sym c.filled_dists-d0.ensures);
      cause = f ∙ ap (λ b. if b then None else Some Chunk) c.in-Ok.ensures.fault;
    }

pub returns-in-Err-clause-cause : goal.returns-in-Err-clause-cause
returns-in-Err-clause-cause c =
    let g = c.args.grid.now in
    let s = c.in-Some.ensures in
    let hl : length c.args.dists.now ≡ length c.args.sizes.now = search rules in
    let hm : spreads c.args.dists.now ≡ g.dims = search rules in
    let f = fault_of g.dims g.sizes c.args.sizes.now c.args.dists.now _ _ _ _ _ _ s.0 hl hm s.1 c.filled_dists-d0.ensures in
    f ∙ ap (λ b. if b then None else Some Chunk) c.in-Err.ensures.fault.0 ∙ ap (λ e. Some e) (sym c.in-Err.ensures.fault.1)

pub invariant_of-result-clause-covers : goal.invariant_of-result-clause-covers
invariant_of-result-clause-covers c =
    let hl : length c.args.dists.now ≡ length c.args.sizes.now = search rules in
    let hm : spreads c.args.dists.now ≡ c.args.grid.now.dims = search rules in
    let hs = fits_three c.args.sizes.now c.in-Some.ensures.0 in
    ap (λ ds. spreads ds) (c.in-Ok.ensures.dists ∙ sym c.filled_dists-d0.ensures) ∙ spreads-filled c.args.dists.now (omega arith) ∙ hm

pub invariant_of-result-clause-rest : goal.invariant_of-result-clause-rest
invariant_of-result-clause-rest c =
    let hl : length c.args.dists.now ≡ length c.args.sizes.now = search rules in
    let hs = fits_three c.args.sizes.now c.in-Some.ensures.0 in
    let h = whole_rest c.args.dists.now c.in-Ok.spread (length c.args.sizes.now) (c.in-Ok.ensures.dists ∙ sym c.filled_dists-d0.ensures) (sym hl) (omega arith) in
    grind (arith, nat_tests)
