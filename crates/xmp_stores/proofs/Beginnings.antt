-- What the nodes begin with.
use Rattle.std.proofs.Common.{◌≡◌, ℕ, zero, suc, ◌+◌, arith, List, [], ◌∷◌, ◌++◌, map, length, ap, ap₂, subst, sym, ◌∙◌}
use Rattle.std.proofs.lemmas.Option.{none-some, same_Some}
use Rattle.std.specs.Prelude.{Some, slice_get}
use Rattle.std.specs.List.{range_with_len}
use Rattle.xmp_prog.specs.declared.parts.ProgParts.{ProgParts}
use Rattle.xmp_meaning.specs.Runs.{State}
use Rattle.xmp_meaning.specs.Programs.{beginning}
use Rattle.xmp_meaning.specs.Traffic.{node_context, node_beginning}
use Rattle.xmp_serial.specs.Lines.{context_of, layout_of}
use Rattle.xmp_serial.specs.declared.layout.Layout.{Layout}
use Rattle.xmp_stores.specs.Layouts.{AreLayouts}
use Rattle.xmp_stores.proofs.Steps.{one_more, plus_one}

-- one layout more
pub one_layout_more : (p : ProgParts) (node : ℕ) (ls : List Layout) (l : Layout)
    → AreLayouts p node ls → l.program.now ≡ p → l.packed ≡ Some (node + length ls) → AreLayouts p node (ls ++ l ∷ [])
one_layout_more p node [] l are program packed = (program, packed ∙ ap Some (omega arith), tt)
one_layout_more p node (m ∷ ls) l are program packed = (are.0, are.1, one_layout_more p (suc node) ls l are.2 program (packed ∙ ap Some (omega arith)))

-- what a node's layout is
pub layout_at : (p : ProgParts) (node k : ℕ) (ls : List Layout) (l : Layout)
    → AreLayouts p node ls → slice_get ls k ≡ Some l → (l.program.now ≡ p) × (l.packed ≡ Some (node + k))
layout_at p node zero (m ∷ ls) l are there = let same = same_Some m l there in (ap (λ l. l.program.now) (sym same) ∙ are.0, ap (λ l. l.packed) (sym same) ∙ are.1 ∙ ap Some (omega arith))
layout_at p node (suc k) (m ∷ ls) l are there = let at = layout_at p (suc node) k ls l are.2 there in (at.0, at.1 ∙ ap Some (omega arith))
layout_at p node k [] l are there = absurd (none-some l there)

-- what it is read against
pub context_at_node : (p : ProgParts) (k : ℕ) (ls : List Layout) (l : Layout) (input : List ℕ)
    → AreLayouts p 0 ls → slice_get ls k ≡ Some l → context_of l.program.now l.packed 0 input ≡ node_context p k input
context_at_node p k ls l input are there = let at = layout_at p 0 k ls l are there in ap₂ (λ p packed. context_of p packed 0 input) at.0 (at.1 ∙ ap Some (omega arith))

-- the next layout
pub next_layout : (p : ProgParts) (node : ℕ) (ls : List Layout) (l : Layout)
    → AreLayouts p 0 ls → length ls ≡ node → l.program.now ≡ p → l.packed ≡ Some node → AreLayouts p 0 (ls ++ l ∷ [])
next_layout p node ls l are many program packed = one_layout_more p 0 ls l are program (packed ∙ ap Some (sym many ∙ omega arith))

-- states at first, for layouts from a node on
pub states_first : (p : ProgParts) (steps node : ℕ) {ls rest : List Layout} {l : Layout} {s : State (Unit {0})} (old : List (State (Unit {0}))) {mid new : List (State (Unit {0}))}
    → ls ≡ l ∷ rest → s ≡ beginning (layout_of l.packed) l.program.now steps tt → mid ≡ old ++ s ∷ []
    → ((q : ProgParts) (k : ℕ) → AreLayouts q k rest → new ≡ mid ++ map (λ k. node_beginning q k steps) (range_with_len k (length rest)))
    → AreLayouts p node ls → new ≡ old ++ map (λ k. node_beginning p k steps) (range_with_len node (length ls))
states_first p steps node {rest = rest} {l = l} old {mid = mid} whole first added others are =
    let now = subst (AreLayouts p node) whole are in
    let more = map (λ k. node_beginning p k steps) (range_with_len (suc node) (length rest)) in
    others p (suc node) now.2
    ∙ ap (λ xs. xs ++ more) added
    ∙ one_more old _ more
    ∙ ap (λ s. old ++ s ∷ more) (first ∙ ap₂ (λ packed q. beginning (layout_of packed) q steps tt) now.1 now.0)
    ∙ ap (λ k. old ++ node_beginning p node steps ∷ map (λ k. node_beginning p k steps) (range_with_len k (length rest))) (sym (plus_one node))
    ∙ sym (ap (λ xs. old ++ map (λ k. node_beginning p k steps) (range_with_len node (length xs))) whole)
