use Rattle.std.proofs.Common.{◌≡◌, ◌≤◌, ◌-◌, ℕ, ℤ, List, ap, sym, subst, ◌∙◌, arith, length, drop, reverse, take}
use Rattle.std.proofs.lemmas.List.{length-reverse, length-take-le}
use Rattle.xmp_code.specs.Stacks.{Stacked}
use Rattle.xmp_code.proofs.Reversed.{drop_reversed}
use Rattle.xmp_code.proofs.stack.Stack.take.Goals as goal

pub returns : goal.returns
returns c =
    let s = c.self.inside in
    let all : List ℤ = s.buffer.items in
    let inside : s.depth ≤ length all = c.self.invariant in
    let long : length c.args.self.now.values ≡ s.depth =
    ap (λ v. length v.values) (sym c.self.view_is) ∙ length-reverse (take s.depth all) ∙ length-take-le s.depth all inside in
    let few : c.args.n ≤ s.depth = omega (arith, c.requires, long) in
    let P : Stacked → Type 0 = λ v. record { values = reverse (take (s.depth - c.args.n) all); room = length all } ≡ record { values = drop c.args.n v.values; room = v.room } in
    subst P c.self.view_is (ap (λ vs. record { values = vs; room = length all }) (sym (drop_reversed all s.depth c.args.n few inside)))
