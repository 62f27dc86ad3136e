use Rattle.std.proofs.Common.{◌≡◌, ◌∷◌, ℤ, List, ap, sym, ◌∙◌, rules, w64, to_z, of_z}
use Rattle.xmp_num.specs.Reduction.{combine_of}
use Rattle.xmp_prog.specs.declared.statements.Reduction.{Reduction}
use Rattle.xmp_meaning.specs.Declarations.{scalar_type}
use Rattle.xmp_meaning.specs.LoopEnds.{combined}
use Rattle.xmp_own_parts.proofs.Ends.{one_more_value}
use Rattle.xmp_own_parts.proofs.end.+combined.Goals as goal

pub returns-in_ok-push-in-Some-Some-Some : goal.returns-in_ok-push-in-Some-Some-Some
returns-in_ok-push-in-Some-Some-Some t c =
    let e0 : c.args.reductions.now ≡ c.in-Some-Some-Some.r.now ∷ c.in-Some-Some-Some.reductions.now = search rules in
    let e1 : c.args.a.now ≡ c.in-Some-Some-Some.x.now ∷ c.in-Some-Some-Some.a.now = search rules in
    let e2 : c.args.b.now ≡ c.in-Some-Some-Some.y.now ∷ c.in-Some-Some-Some.b.now = search rules in
    let w : to_z w64 (of_z w64 c.combined_one.result) ≡ c.combined_one.result = search rules in
    let v : to_z w64 (of_z w64 c.combined_one.result) ≡ combine_of c.in-Some-Some-Some.r.now.op (scalar_type c.args.p.now c.in-Some-Some-Some.r.now.variable.number) c.in-Some-Some-Some.x.now c.in-Some-Some-Some.y.now = w ∙ c.combined_one.ensures in
    one_more_value c.args.values c.push.new.values (combined c.args.p.now c.args.reductions.now c.args.a.now c.args.b.now) (combined c.args.p.now c.in-Some-Some-Some.reductions.now c.in-Some-Some-Some.a.now c.in-Some-Some-Some.b.now)
    (to_z w64 (of_z w64 c.combined_one.result)) c.combined.result (c.in_ok-push-in-Some-Some-Some.ensures {u = tt})
    (ap (λ (rs : List Reduction). combined c.args.p.now rs c.args.a.now c.args.b.now) e0
    ∙ ap (λ (xs : List ℤ). combined c.args.p.now (c.in-Some-Some-Some.r.now ∷ c.in-Some-Some-Some.reductions.now) xs c.args.b.now) e1
    ∙ ap (λ (ys : List ℤ). combined c.args.p.now (c.in-Some-Some-Some.r.now ∷ c.in-Some-Some-Some.reductions.now) (c.in-Some-Some-Some.x.now ∷ c.in-Some-Some-Some.a.now) ys) e2
    ∙ ap (λ (z : ℤ). z ∷ combined c.args.p.now c.in-Some-Some-Some.reductions.now c.in-Some-Some-Some.a.now c.in-Some-Some-Some.b.now) (sym v))
    c.combined.ensures
