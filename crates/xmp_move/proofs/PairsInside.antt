-- The cells of a gmove without a fault lie in its target, each once.
use Rattle.std.proofs.Common.{◌≡◌, ◌+◌, ◌*◌, ◌<◌, ◌≤◌, ℕ, ℤ, pos, negsuc, zero, suc, Bool, true, false, Option, Some, None, List, [], ◌∷◌, refl, sym, ◌∙◌, ap, arith, length, if◌then◌else◌}
use Rattle.std.specs.Prelude.{◌&&◌, nat_lt, nat_le, is_some}
use Rattle.std.proofs.Math.Nat.{mul-le-mul_right}
use Rattle.std.proofs.lemmas.Bool.Decides.{nat_tests}
use Rattle.xmp_num.specs.declared.types.TrapKind.TheVariants.{Subscript, Section}
use Rattle.xmp_map.specs.Boxes.{IsInside}
use Rattle.xmp_meaning.specs.Expressions.{natural}
use Rattle.xmp_meaning.specs.Sections.{Chosen, One, Many, in_range}
use Rattle.xmp_move.specs.declared.kind.Fault.{Fault}
use Rattle.xmp_move.specs.Cells.{indices, counts, cell_at, pairs_between}
use Rattle.xmp_move.specs.Faults.{part_fault, first_of, side_fault}
use Rattle.xmp_move.specs.Whole.{IsAssignment}
use Rattle.xmp_move.proofs.Members.{and_left, and_right, in_map}
use Rattle.xmp_move.proofs.Boxes.{in_inside}

pub first_none : (g h : Option Fault) → first_of g h ≡ None → g ≡ None
first_none None h e = refl
first_none (Some f) h e = cc

pub rest_none : (g h : Option Fault) → first_of g h ≡ None → h ≡ None
rest_none None h e = e
rest_none (Some f) h e = cc

abbrev fault_with : Bool → Fault → Option Fault
fault_with b f = if b then None else Some f

no_fault : (b : Bool) (f : Fault) → fault_with b f ≡ None → b ≡ true
no_fault true f e = refl
no_fault false f e = cc

is_less : (m n : ℕ) → nat_lt m n ≡ true → m < n
is_less m n e = grind (arith, nat_tests)

is_some_if : (x : ℕ) (b : Bool) → is_some (if b then Some x else None) ≡ true → b ≡ true
is_some_if x true e = refl
is_some_if x false e = cc

pub one_inside : (source : Bool) (n : ℕ) (v : ℤ) → part_fault source n (One v) ≡ None → natural v < n
one_inside source n (pos x) e =
    is_less x n (is_some_if x (nat_lt x n) (no_fault (is_some (if nat_lt x n then Some x else None)) (record { kind = Subscript; source = source }) e))
one_inside source n (negsuc x) e = cc

-- what is known of a section that is in range, and has a place
pub record Reaches (n b s k : ℕ) : Type 0 where
  pub below : b + k * s < n
  pub forward : 1 ≤ s

reaches : (n : ℕ) (base count step : ℤ) (k : ℕ) → in_range n base count step ≡ true → k < natural count → Reaches n (natural base) (natural step) k
reaches n base (pos zero) step k e lt = absurd (omega (arith, lt))
reaches n (pos b) (pos (suc m)) (pos s) k e lt =
    let one : nat_le 1 s ≡ true = and_left (nat_le 1 s) (nat_le 0 b && nat_lt (b + m * s) n) e in
    let last : nat_lt (b + m * s) n ≡ true = and_right (nat_le 0 b) (nat_lt (b + m * s) n) (and_right (nat_le 1 s) (nat_le 0 b && nat_lt (b + m * s) n) e) in
    let way : k * s ≤ m * s = mul-le-mul_right {m = k} {n = m} s (omega (arith, lt)) in
    let less : b + m * s < n = is_less (b + m * s) n last in
    record { below = omega (arith, way, less); forward = at_least s one }
  where
    at_least : (s : ℕ) → nat_le 1 s ≡ true → 1 ≤ s
    at_least s h = grind (arith, nat_tests)
reaches n (negsuc b) (pos (suc m)) (pos s) k e lt = absurd (none (nat_le 1 s) e)
  where
    none : (q : Bool) → (q && false) ≡ true → ⊥
    none true e = cc
    none false e = cc
reaches n (pos b) (pos (suc m)) (negsuc s) k e lt = cc
reaches n (negsuc b) (pos (suc m)) (negsuc s) k e lt = cc
reaches n base (negsuc m) step k e lt = cc

pub many_reaches : (source : Bool) (n : ℕ) (base count step : ℤ) (k : ℕ) → part_fault source n (Many base count step) ≡ None → k < natural count
    → Reaches n (natural base) (natural step) k
many_reaches source n base count step k e lt =
    reaches n base count step k (no_fault (in_range n base count step) (record { kind = Section; source = source }) e) lt

pub cell_inside : (source : Bool) (ns : List ℕ) (cs : List Chosen) (places : List ℕ) → length cs ≡ length ns → side_fault source ns cs ≡ None
    → IsInside places (counts cs) → IsInside (cell_at cs places) ns
unfolding IsInside counts cell_at
cell_inside source [] [] places l e i = tt
cell_inside source [] (c ∷ cs) places l e i = absurd (omega (arith, l))
cell_inside source (n ∷ ns) [] places l e i = absurd (omega (arith, l))
cell_inside source (n ∷ ns) (One v ∷ cs) places l e i = (
  one_inside source n v (first_none (part_fault source n (One v)) (side_fault source ns cs) e),
  cell_inside source ns cs places (let m : length cs ≡ length ns = omega (arith, l) in m) (rest_none (part_fault source n (One v)) (side_fault source ns cs) e) i,
)
cell_inside source (n ∷ ns) (Many base count step ∷ cs) [] l e i = absurd i
cell_inside source (n ∷ ns) (Many base count step ∷ cs) (k ∷ places) l e i =
    let r = many_reaches source n base count step k (first_none (part_fault source n (Many base count step)) (side_fault source ns cs) e) i.0 in (
      r.below,
      cell_inside source ns cs places (let m : length cs ≡ length ns = omega (arith, l) in m) (rest_none (part_fault source n (Many base count step)) (side_fault source ns cs) e) i.1,
    )

times_less : (i j s : ℕ) → 1 ≤ s → i < j → i * s < j * s
times_less i j s h lt = grind arith

same_place : (b i j s : ℕ) → 1 ≤ s → b + i * s ≡ b + j * s → i ≡ j
same_place b i j s h e = grind (arith, times_less)

head_same : {A : Type 0} (x y : A) (xs ys : List A) → x ∷ xs ≡ y ∷ ys → x ≡ y
head_same x y xs ys e = cc

tail_same : {A : Type 0} (x y : A) (xs ys : List A) → x ∷ xs ≡ y ∷ ys → xs ≡ ys
tail_same x y xs ys e = cc

-- a cell has its places in one way
pub one_place : (source : Bool) (ns : List ℕ) (cs : List Chosen) (xs ys : List ℕ) → length cs ≡ length ns → side_fault source ns cs ≡ None
    → IsInside xs (counts cs) → IsInside ys (counts cs) → cell_at cs xs ≡ cell_at cs ys → xs ≡ ys
unfolding IsInside counts cell_at
one_place source [] [] [] [] l e i j same = refl
one_place source [] [] (x ∷ xs) ys l e i j same = absurd i
one_place source [] [] [] (y ∷ ys) l e i j same = absurd j
one_place source [] (c ∷ cs) xs ys l e i j same = absurd (omega (arith, l))
one_place source (n ∷ ns) [] xs ys l e i j same = absurd (omega (arith, l))
one_place source (n ∷ ns) (One v ∷ cs) xs ys l e i j same =
    one_place source ns cs xs ys (let m : length cs ≡ length ns = omega (arith, l) in m) (rest_none (part_fault source n (One v)) (side_fault source ns cs) e) i j
    (tail_same (natural v) (natural v) (cell_at cs xs) (cell_at cs ys) same)
one_place source (n ∷ ns) (Many base count step ∷ cs) [] ys l e i j same = absurd i
one_place source (n ∷ ns) (Many base count step ∷ cs) (x ∷ xs) [] l e i j same = absurd j
one_place source (n ∷ ns) (Many base count step ∷ cs) (x ∷ xs) (y ∷ ys) l e i j same =
    let r = many_reaches source n base count step x (first_none (part_fault source n (Many base count step)) (side_fault source ns cs) e) i.0 in
    let first : x ≡ y = same_place (natural base) x y (natural step) r.forward
    (head_same (natural base + x * natural step) (natural base + y * natural step) (cell_at cs xs) (cell_at cs ys) same) in
    let rest : xs ≡ ys = one_place source ns cs xs ys (let m : length cs ≡ length ns = omega (arith, l) in m)
    (rest_none (part_fault source n (Many base count step)) (side_fault source ns cs) e) i.1 j.1
    (tail_same (natural base + x * natural step) (natural base + y * natural step) (cell_at cs xs) (cell_at cs ys) same) in
    ap (λ z. z ∷ xs) first ∙ ap (λ zs. y ∷ zs) rest

pub assigns : (ns : List ℕ) (target source : List Chosen) → length target ≡ length ns → side_fault false ns target ≡ None
    → IsAssignment ns (pairs_between target source)
assigns ns target source l e = record {
  inside = λ p i.
      let a = in_map (λ places. (cell_at target places, cell_at source places)) (indices (counts target)) p i in
      let first : cell_at target a.of ≡ p.0 = ap (λ r. r.0) (sym a.same) in
      let inside : IsInside (cell_at target a.of) ns = cell_inside false ns target a.of l e (in_inside a.of (counts target) a.among) in
      moved (cell_at target a.of) p.0 first inside;
  one = λ p q i j same.
      let a = in_map (λ places. (cell_at target places, cell_at source places)) (indices (counts target)) p i in
      let b = in_map (λ places. (cell_at target places, cell_at source places)) (indices (counts target)) q j in
      let ea : p.0 ≡ cell_at target a.of = ap (λ r. r.0) a.same in
      let eb : q.0 ≡ cell_at target b.of = ap (λ r. r.0) b.same in
      let places = one_place false ns target a.of b.of l e (in_inside a.of (counts target) a.among) (in_inside b.of (counts target) b.among) (sym ea ∙ same ∙ eb) in
      a.same ∙ ap (λ places. (cell_at target places, cell_at source places)) places ∙ sym b.same;
}
  where
    moved : (c d : List ℕ) → c ≡ d → IsInside c ns → IsInside d ns
    moved c d e i = rw (← e) i
