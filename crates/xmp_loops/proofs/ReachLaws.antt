-- The offsets along the dimensions of an array, one by one.
use Rattle.std.proofs.Common.{◌≡◌, ◌∙◌, sym, ap, refl, ℕ, suc, zero, ◌<◌, ◌≤◌, Bool, true, false, ◌&&◌, List, [], ◌∷◌, length, drop, get_or, Option, Some, None, cond, arith, ◌+◌, add-one}
use Rattle.std.specs.Prelude.{slice_get}
use Rattle.std.specs.Option.{option_map}
use Rattle.std.proofs.Math.Seq.{drop-cons}
use Rattle.xmp_map.specs.Align.{under}
use Rattle.xmp_map.specs.declared.aligned.AlignedDim.{AlignedDim}
use Rattle.xmp_map.specs.declared.spread_dim.SpreadDim.{SpreadDim}
use Rattle.xmp_prog.specs.declared.expressions.Expr.{Expr}
use Rattle.xmp_prog.specs.declared.statements.LoopDirective.{LoopDirective}
use Rattle.xmp_loops.specs.Offsets.{Offset, is_distributed, offset_at, offsets_along, point_for, with_offset}
use Rattle.xmp_loops.specs.Views.{join_reach, reach_along, reach_of, reach_one}
use Rattle.xmp_loops.specs.declared.offsets.Reach.{Reach}

join_none : (a : Option Reach) → join_reach a None ≡ None
join_none None = refl
join_none (Some a) = refl

and_assoc : (a b c : Bool) → ((a && b) && c) ≡ (a && (b && c))
and_assoc true b c = refl
and_assoc false b c = refl

pub join_assoc : (a b c : Option Reach) → join_reach (join_reach a b) c ≡ join_reach a (join_reach b c)
join_assoc None b c = refl
join_assoc (Some a) None c = refl
join_assoc (Some a) (Some b) None = refl
join_assoc (Some a) (Some b) (Some c) =
    ap (λ o. Some (record { own = o; within = (a.within && b.within) && c.within })) (and_assoc a.own b.own c.own)
    ∙ ap (λ w. Some (record { own = a.own && (b.own && c.own); within = w })) (and_assoc a.within b.within c.within)

and_true : (a : Bool) → (a && true) ≡ a
and_true true = refl
and_true false = refl

pub join_all : (a : Option Reach) → join_reach a (Some (record { own = true; within = true })) ≡ a
join_all None = refl
join_all (Some a) =
    ap (λ o. Some (record { own = o; within = a.within && true })) (and_true a.own)
    ∙ ap (λ w. Some (record { own = a.own; within = w })) (and_true a.within)

reach_with : (o : Option Offset) (os : Option (List Offset)) → reach_of (with_offset o os) ≡ join_reach (option_map reach_one o) (reach_of os)
reach_with None os = refl
reach_with (Some o) None = refl
reach_with (Some o) (Some os) = refl

join_first : (r : Option Reach) → r ≡ join_reach (Some (record { own = true; within = true })) r
join_first None = refl
join_first (Some r) = refl

reach_step : (d : LoopDirective) (ss : List SpreadDim) (l : AlignedDim) (ls : List AlignedDim) (es : List Expr) →
    reach_of (offsets_along d ss (l ∷ ls) es) ≡ join_reach (reach_along d ss l (slice_get es 0)) (reach_of (offsets_along d ss ls (drop 1 es)))
reach_step d ss l ls [] = case (is_distributed (under ss l.target.dim))
  where
    case : (t : Bool) → reach_of (cond t None (offsets_along d ss ls []))
        ≡ join_reach (cond t None (Some (record { own = true; within = true }))) (reach_of (offsets_along d ss ls []))
    case true = refl
    case false = join_first (reach_of (offsets_along d ss ls []))
reach_step d ss l ls (e ∷ es) = case (is_distributed (under ss l.target.dim))
  where
    o : Option Offset
    o = offset_at l (Some e) (point_for d l.target.dim)

    case : (t : Bool) → reach_of (cond t (with_offset o (offsets_along d ss ls es)) (offsets_along d ss ls es))
        ≡ join_reach (cond t (option_map reach_one o) (Some (record { own = true; within = true }))) (reach_of (offsets_along d ss ls es))
    case true = reach_with o (offsets_along d ss ls es)
    case false = join_first (reach_of (offsets_along d ss ls es))

get_drop : (k : ℕ) (es : List Expr) → slice_get (drop k es) 0 ≡ slice_get es k
get_drop zero es = refl
get_drop (suc k) [] = refl
get_drop (suc k) (e ∷ es) = get_drop k es

drop_drop : (k : ℕ) (es : List Expr) → drop 1 (drop k es) ≡ drop (suc k) es
drop_drop zero [] = refl
drop_drop zero (e ∷ es) = refl
drop_drop (suc k) [] = refl
drop_drop (suc k) (e ∷ es) = drop_drop k es

drop_past : (k : ℕ) (ls : List AlignedDim) → length ls ≤ k → drop k ls ≡ []
drop_past zero [] h = refl
drop_past (suc k) [] h = refl
drop_past zero (l ∷ ls) h = absurd (omega arith)
drop_past (suc k) (l ∷ ls) h = drop_past k ls (omega arith)

-- one more dimension
pub reach_more : (d : LoopDirective) (ss : List SpreadDim) (ls : List AlignedDim) (es : List Expr) (k : ℕ) (x : AlignedDim) → k < length ls →
    (all one next whole : Option Reach) (e : Option Expr) → next ≡ join_reach all one → one ≡ reach_along d ss (get_or ls k x) e → e ≡ slice_get es k →
    join_reach all (reach_of (offsets_along d ss (drop k ls) (drop k es))) ≡ whole →
    join_reach next (reach_of (offsets_along d ss (drop (k + 1) ls) (drop (k + 1) es))) ≡ whole
reach_more d ss ls es k x h all one next whole e n f g i =
    let o : one ≡ reach_along d ss (get_or ls k x) (slice_get es k) = f ∙ ap (reach_along d ss (get_or ls k x)) g in
    let tail = reach_of (offsets_along d ss (drop (suc k) ls) (drop (suc k) es)) in
    let here : reach_of (offsets_along d ss (drop k ls) (drop k es)) ≡ join_reach one tail =
    ap (λ l. reach_of (offsets_along d ss l (drop k es))) (drop-cons ls k x h)
    ∙ (reach_step d ss (get_or ls k x) (drop (suc k) ls) (drop k es)
    ∙ (ap (λ e. join_reach (reach_along d ss (get_or ls k x) e) (reach_of (offsets_along d ss (drop (suc k) ls) (drop 1 (drop k es))))) (get_drop k es)
    ∙ (ap (λ e. join_reach (reach_along d ss (get_or ls k x) (slice_get es k)) (reach_of (offsets_along d ss (drop (suc k) ls) e))) (drop_drop k es)
    ∙ ap (λ r. join_reach r tail) (sym o)))) in
    ap (λ j. join_reach next (reach_of (offsets_along d ss (drop j ls) (drop j es)))) (add-one k)
    ∙ (ap (λ r. join_reach r tail) n
    ∙ (join_assoc all one tail
    ∙ (ap (join_reach all) (sym here) ∙ i)))

-- no dimension is left
pub reach_end : (d : LoopDirective) (ss : List SpreadDim) (ls : List AlignedDim) (es : List Expr) (k : ℕ) → length ls ≤ k →
    (all whole : Option Reach) → join_reach all (reach_of (offsets_along d ss (drop k ls) es)) ≡ whole → all ≡ whole
reach_end d ss ls es k h all whole i =
    sym (join_all all) ∙ (ap (λ l. join_reach all (reach_of (offsets_along d ss l es))) (sym (drop_past k ls h)) ∙ i)

-- before the first dimension
pub reach_start : (r : Option Reach) → join_reach (Some (record { own = true; within = true })) r ≡ r
reach_start r = sym (join_first r)
