use Rattle.std.proofs.Common.{◌≡◌, ◌∙◌, ap, sym, ◌&&◌, true, false, map, drop, suc, arith, add-one}
use Rattle.xmp_loops.specs.Same.{all_pass, same}
use Rattle.xmp_loops.proofs.SameLaws.{pass_some, pass_none, pass_end, some_within}
use Rattle.xmp_loops.proofs.equal.+same.Goals as goal

pub all_same-returns-then-not-same : goal.all_same-returns-then-not-same
all_same-returns-then-not-same t c =
    let e : same c.index-es-k.result c.in-Some.x.now ≡ false = sym c.same.ensures ∙ c.if-not-same.true in
    sym (c.items.invariant.rest
    ∙ (pass_some c.items.k c.args.es.now c.args.xs.now c.index-es-k.result c.in-Some.x.now c.items-test.true (c.in-Some.ensures {u = tt})
    ∙ ap (λ b. b && all_pass (map same (drop (suc c.items.k) c.args.es.now)) (drop (suc c.items.k) c.args.xs.now))
    (ap (λ y. same y c.in-Some.x.now) (sym c.index-es-k.is) ∙ e)))

pub all_same-returns-in-None : goal.all_same-returns-in-None
all_same-returns-in-None t c =
    sym (c.items.invariant.rest ∙ pass_none c.items.k c.args.es.now c.args.xs.now c.items-test.true (c.in-None.ensures {u = tt}))

pub all_same-items-preserved : goal.all_same-items-preserved
all_same-items-preserved t c =
    let e : same c.index-es-k.result c.in-Some.x.now ≡ true = sym c.same.ensures ∙ c.if-not-same.false in
    let w = some_within c.items.k c.args.xs.now c.in-Some.x.now (c.in-Some.ensures {u = tt}) in record {
      rest = c.items.invariant.rest
          ∙ (pass_some c.items.k c.args.es.now c.args.xs.now c.index-es-k.result c.in-Some.x.now c.items-test.true (c.in-Some.ensures {u = tt})
          ∙ (ap (λ b. b && all_pass (map same (drop (suc c.items.k) c.args.es.now)) (drop (suc c.items.k) c.args.xs.now))
          (ap (λ y. same y c.in-Some.x.now) (sym c.index-es-k.is) ∙ e)
          ∙ ap (λ j. all_pass (map same (drop j c.args.es.now)) (drop j c.args.xs.now)) (sym (add-one c.items.k))));
      within = omega (arith, w);
    }

pub all_same-returns : goal.all_same-returns
all_same-returns t c =
    sym (c.items.invariant.rest
    ∙ pass_end c.items.k c.args.es.now c.args.xs.now c.items-test.false (omega arith) c.items.invariant.within)
