-- The slots of a plan, node by node.
use Rattle.std.proofs.Common.{◌≡◌, ◌<◌, ◌≤◌, ◌+◌, ℕ, zero, suc, ℤ, List, [], ◌∷◌, length, map, Option, Some, None, slice_get, refl, sym, ap, subst, ◌∙◌, arith, All}
use Rattle.std.specs.Prelude.{IfSome}
use Rattle.std.specs.Option.{option_map}
use Rattle.std.specs.List.{AllByRecursion, range_with_len}
use Rattle.std.proofs.lemmas.Option.{slice_get-map}
use Rattle.std.proofs.lemmas.List.FromFn.{length-map-range_with_len}
use Rattle.xmp_prog.specs.declared.parts.Home.{Home}
use Rattle.xmp_prog.specs.declared.parts.Home.TheVariants as home
use Rattle.xmp_move.specs.declared.kind.Side.{Side}
use Rattle.xmp_move.specs.declared.kind.MoveKind.{MoveKind}
use Rattle.xmp_move.specs.declared.kind.MoveKind.TheVariants.{Reflect, Gmove}
use Rattle.xmp_move.specs.Sides.{words_in}
use Rattle.xmp_move.specs.Laid.{grid_of}
use Rattle.xmp_move.specs.Plans.{AreWordsOf, IsPlanOf, Lists, fills_from, peers_in, peers_of, sends_to, source_of, target_of}
use Rattle.xmp_instr.specs.declared.parts.CodeParts.{CodeParts}
use Rattle.xmp_instr.specs.Valid.{HasNodes, HomeOver, MoveFits}

range_at : (a n k : ℕ) → k < n → slice_get (range_with_len a n) k ≡ Some (a + k)
range_at a zero k h = absurd (omega arith)
range_at a (suc n) zero h = ap Some (omega arith)
range_at a (suc n) (suc k) h = range_at (a + 1) n k (omega arith) ∙ ap Some (omega arith)

listed : {A : Type 0} (f : ℕ → A) (n k : ℕ) → k < n → slice_get (map f (range_with_len 0 n)) k ≡ Some (f k)
listed f n k h = slice_get-map f (range_with_len 0 n) k ∙ ap (option_map f) (range_at 0 n k h ∙ ap Some (omega arith))

pub sends_at : (kind : MoveKind) (args : List ℤ) (node : ℕ) (p : Lists) → IsPlanOf kind args node p → (to : ℕ) → to < peers_of kind
    → slice_get p.sends to ≡ Some (sends_to kind args node to)
sends_at kind args node p h to low = ap (λ xs. slice_get xs to) h.sends ∙ listed (sends_to kind args node) (peers_of kind) to low

pub fills_at : (kind : MoveKind) (args : List ℤ) (node : ℕ) (p : Lists) → IsPlanOf kind args node p → (from : ℕ) → from < peers_of kind
    → slice_get p.fills from ≡ Some (fills_from kind args node from)
fills_at kind args node p h from low = ap (λ xs. slice_get xs from) h.fills ∙ listed (fills_from kind args node) (peers_of kind) from low

pub sends_count : (kind : MoveKind) (args : List ℤ) (node : ℕ) (p : Lists) → IsPlanOf kind args node p → length p.sends ≡ peers_of kind
sends_count kind args node p h = ap (λ xs. length xs) h.sends ∙ length-map-range_with_len (sends_to kind args node) 0 (peers_of kind)

pub fills_count : (kind : MoveKind) (args : List ℤ) (node : ℕ) (p : Lists) → IsPlanOf kind args node p → length p.fills ≡ peers_of kind
fills_count kind args node p h = ap (λ xs. length xs) h.fills ∙ length-map-range_with_len (fills_from kind args node) 0 (peers_of kind)

source_words : (c : CodeParts) (kind : MoveKind) → MoveFits c kind → (source_of kind).base + words_in (source_of kind) c.node ≤ c.words
source_words c (Reflect array) f = f.words.0
source_words c (Gmove target source ty) f = f.words.1.0

target_words : (c : CodeParts) (kind : MoveKind) → MoveFits c kind → (target_of kind).base + words_in (target_of kind) c.node ≤ c.words
target_words c (Reflect array) f = f.words.0
target_words c (Gmove target source ty) f = f.words.0

pub sends_inside : (c : CodeParts) (kind : MoveKind) (args words : List ℤ) (p : Lists) → MoveFits c kind → IsPlanOf kind args c.node p → length words ≡ c.words
    → (to : ℕ) → to < peers_of kind → All (λ s. s < length words) (sends_to kind args c.node to)
sends_inside c kind args words p f h w to low k d l =
    let a = h.sent_inside to low k d l in
    let b = source_words c kind f in
    omega (arith, a, b, w)

pub fills_inside : (c : CodeParts) (kind : MoveKind) (args words : List ℤ) (p : Lists) → MoveFits c kind → IsPlanOf kind args c.node p → length words ≡ c.words
    → (from : ℕ) → from < peers_of kind → All (λ s. s < length words) (fills_from kind args c.node from)
fills_inside c kind args words p f h w from low k d l =
    let a = h.filled_inside from low k d l in
    let b = target_words c kind f in
    omega (arith, a, b, w)

pub some_of : {A : Type 0} (P : A → Type 0) (o : Option A) (x : A) → o ≡ Some x → P x → IfSome o P
some_of P o x e h = subst (λ y. IfSome y P) (sym e) h

pub value_of : {A : Type 0} (P : A → Type 0) (o : Option A) (x : A) → o ≡ Some x → IfSome o P → P x
value_of P o x e h = subst (λ y. IfSome y P) e h

-- a transfer has to do with all nodes
spread_over : (c : CodeParts) (target source : Home) → HasNodes c → HomeOver c.nodes target → HomeOver c.nodes source → (k : ℕ) → k < c.nodes → k < peers_in (grid_of target) (grid_of source)
spread_over c (home.Spread t m) source n a b k h = omega (arith, a, h)
spread_over c home.Copy (home.Spread t m) n a b k h = omega (arith, b, h)
spread_over c home.Image (home.Spread t m) n a b k h = omega (arith, b, h)
spread_over c home.Copy home.Copy n a b k h = let m = n.most in omega (arith, m, h)
spread_over c home.Copy home.Image n a b k h = let m = n.most in omega (arith, m, h)
spread_over c home.Image home.Copy n a b k h = let m = n.most in omega (arith, m, h)
spread_over c home.Image home.Image n a b k h = let m = n.most in omega (arith, m, h)

pub peers_enough : (c : CodeParts) (kind : MoveKind) → HasNodes c → MoveFits c kind → (k : ℕ) → k < c.nodes → k < peers_of kind
peers_enough c (Reflect array) n f k h = spread_over c array.home array.home n f.grids.0 f.grids.0 k h
peers_enough c (Gmove target source ty) n f k h = spread_over c target.home source.home n f.grids.0 f.grids.1.0 k h
