use Rattle.std.proofs.Common.{◌≡◌, ◌≤◌, ◌-◌, ℕ, ℤ, List, ap, sym, subst, ◌∙◌, arith, length, drop, reverse, take}
use Rattle.std.proofs.lemmas.List.{length-reverse, length-take-le}
use Rattle.xmp_code.specs.Stacks.{Stacked}
use Rattle.xmp_code.proofs.Reversed.{take_reversed}
use Rattle.xmp_code.proofs.stack.Stack.many.Goals as goal

pub returns : goal.returns
returns c =
    let s = c.self.inside in
    let all : List ℤ = s.buffer.items in
    let inside : s.depth ≤ length all = c.self.invariant in
    let long : length c.args.self.now.values ≡ s.depth =
    ap (λ v. length v.values) (sym c.self.view_is) ∙ length-reverse (take s.depth all) ∙ length-take-le s.depth all inside in
    let few : c.args.n ≤ s.depth = c.if-self-n.false in
    let same : s.depth - (s.depth - c.args.n) ≡ c.args.n = omega (arith, few) in (
      omega (arith, few, long),
      ap (λ k. take k (drop (s.depth - c.args.n) c.deref.result.now)) same
          ∙ ap (λ xs. take c.args.n (drop (s.depth - c.args.n) xs)) c.deref.ensures.value
          ∙ sym (take_reversed all s.depth c.args.n few inside)
          ∙ ap (λ v. reverse (take c.args.n v.values)) c.self.view_is,
    )
