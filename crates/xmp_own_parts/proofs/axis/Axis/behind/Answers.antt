use Rattle.std.proofs.Common.{arith, ◌+◌, ◌≤◌, pos, ◌+ℤ◌, ℤ, ℕ, ◌≡◌, ◌≢◌, ap, sym, ◌∙◌, subst, w64, to_z, of_z}
use Rattle.std.specs.Prelude.{◌≤ℤ◌, ◌<ℤ◌}
use Rattle.std.specs.Int.{div_ceil}
use Rattle.std.proofs.lemmas.Int.{ints}
use Rattle.xmp_dist.specs.Owner.{owner}
use Rattle.xmp_own_parts.specs.Turns.{position_in_turn}
use Rattle.xmp_own_parts.proofs.Jumps.{Behind, behind}
use Rattle.xmp_own_parts.proofs.axis.Axis.behind.Goals as goal

known : (c : goal.After-div_ceil)
    → Behind (owner c.args.self.now.dim.now) c.args.self.now.node c.args.turns.now.first c.args.self.now.offset c.args.turns.now.step c.args.k c.args.turns.now.count (c.args.k + c.div_ceil.result)
known c =
    let at : ℕ → ℤ = position_in_turn c.args.turns.now c.args.self.now.offset in
    let own : ℤ → ℕ = owner c.args.self.now.dim.now in
    let here : to_z w64 (of_z w64 c.position-here.result) ≡ at c.args.k = omega (arith, ints) in
    let end : to_z w64 (of_z w64 c.position-end.result) ≡ at c.args.turns.now.count = omega (arith, ints) in
    let e : c.next_owned-next.result ≡ at c.args.k +ℤ pos c.distance.result = omega (arith, ints) in
    let rises : 1 ≤ c.args.turns.now.step = c.args.turns.now.rises in
    let upto : c.next_owned-next.result ≤ℤ at c.args.turns.now.count = (let P : ℤ → Type 0 = λ z. c.next_owned-next.result ≤ℤ z in subst P end c.next_owned-next.ensures.upto) in
    let owned : c.next_owned-next.result <ℤ at c.args.turns.now.count → own c.next_owned-next.result ≡ c.args.self.now.node =
    (let P : ℤ → Type 0 = λ z. c.next_owned-next.result <ℤ z → own c.next_owned-next.result ≡ c.args.self.now.node in subst P end c.next_owned-next.ensures.owned) in
    let least : (x : ℤ) → at c.args.k ≤ℤ x → x <ℤ c.next_owned-next.result → own x ≢ c.args.self.now.node =
    (let P : ℤ → Type 0 = λ z. (x : ℤ) → z ≤ℤ x → x <ℤ c.next_owned-next.result → own x ≢ c.args.self.now.node in subst P here c.next_owned-next.ensures.least) in
    let s : c.div_ceil.result ≡ div_ceil c.distance.result c.args.turns.now.step = c.div_ceil.ensures ∙ ap (λ y. div_ceil c.distance.result y) c.from.ensures in
    let Q : ℕ → Type 0 = λ m. Behind own c.args.self.now.node c.args.turns.now.first c.args.self.now.offset c.args.turns.now.step c.args.k c.args.turns.now.count (c.args.k + m) in
    subst Q (sym s) (behind own c.args.self.now.node c.args.turns.now.first c.args.self.now.offset c.args.turns.now.step c.args.k c.args.turns.now.count c.distance.result c.next_owned-next.result
    rises c.requires.inside e upto owned least c.requires.other)

pub overflow_add-result : goal.overflow_add-result
overflow_add-result c = let u : c.args.k + c.div_ceil.result ≤ c.args.turns.now.count = (known c).upto in omega arith

pub returns-clause-from : goal.returns-clause-from
returns-clause-from c = (known c).from

pub returns-clause-upto : goal.returns-clause-upto
returns-clause-upto c = (known c).upto

pub returns-clause-least : goal.returns-clause-least
returns-clause-least c = (known c).least
