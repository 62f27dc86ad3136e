-- The parts of a loop directive: their ends in the order of the nodes, what is said of them, and that they print nothing.
use Rattle.std.proofs.Common.{◌≡◌, ◌<◌, ◌+◌, ◌/◌, ◌++◌, if◌then◌else◌, ℕ, zero, suc, ℤ, Bool, true, List, [], ◌∷◌, length, map, Option, Some, None, refl, sym, subst, ap, ◌∙◌, arith, ne_eqb}
use Rattle.std.specs.Prelude.{slice_get}
use Rattle.std.specs.List.{AllByRecursion, list_all, range_with_len}
use Rattle.std.proofs.lemmas.Option.{same_Some}
use Rattle.xmp_prog.specs.declared.parts.ProgParts.{ProgParts}
use Rattle.xmp_prog.specs.declared.statements.LoopDirective.{LoopDirective}
use Rattle.xmp_prog.specs.declared.statements.Reduction.{Reduction}
use Rattle.xmp_prog.specs.declared.statements.Stmt.{Stmt}
use Rattle.xmp_prog.specs.Fits.{node_count}
use Rattle.xmp_prog.specs.Statements.{statements_of, indices_of}
use Rattle.xmp_meaning.specs.declared.ends.End.{End}
use Rattle.xmp_meaning.specs.declared.ends.End.TheVariants.{Trapped, OutOfSteps, PhaseEnd}
use Rattle.xmp_meaning.specs.declared.ends.Flow.{Flow}
use Rattle.xmp_meaning.specs.declared.ends.Flow.TheVariants.{Next, Returned}
use Rattle.xmp_meaning.specs.Runs.{State, Step, Gave, Ended, Run, state_of}
use Rattle.xmp_meaning.specs.Context.{Context}
use Rattle.xmp_meaning.specs.Handlers.{erased}
use Rattle.xmp_meaning.specs.Statements.{stmt_of}
use Rattle.xmp_meaning.specs.Exchanges.{Notes, LoopEnd, PartEnd, part_end, values_of, traced}
use Rattle.xmp_meaning.specs.Messages.{part_words, said, message, words_sent}
use Rattle.xmp_meaning.specs.TrapWords.{end_words}
use Rattle.xmp_meaning.specs.Laws.{bare, bare_step}
use Rattle.xmp_meaning.proofs.Notes.{notes_apart}
use Rattle.xmp_meaning_laws.specs.Laws.{is_no_print, scalar_in}
use Rattle.xmp_meaning_laws.specs.Tuples.{for_each}
use Rattle.xmp_meaning_laws.proofs.CountedLoops.{both_true}
use Rattle.xmp_meaning_laws.proofs.Kept.{IsFree, left_for_each}
use Rattle.xmp_meaning_laws.proofs.Stays.{output_stays}
use Rattle.xmp_nodes.specs.Nodes.{each_does}
use Rattle.xmp_nodes.proofs.Each.{Alone}
use Rattle.xmp_nodes.proofs.Turns.{IsLater}
use Rattle.xmp_nodes.proofs.JoinedEnds.{EndsLater}
use Rattle.xmp_nodes.proofs.Saying.{SaidAsNoted}

-- ---- in the order of the nodes

pub each_ranged : {A B : Type 0} (f : Step (Unit {0}) A → B) (run : ℕ → Run (Unit {0}) A) (g : ℕ → Alone) (a : ℕ) (ss : List Alone)
    → ((k : ℕ) → k < length ss → slice_get ss k ≡ Some (g (a + k))) → map f (each_does run a ss) ≡ map (λ k. f (run k (g k))) (range_with_len a (length ss))
each_ranged f run g a [] h = refl
each_ranged f run g a (s ∷ ss) h =
    let first : s ≡ g a = same_Some s (g (a + 0)) (h 0 (omega arith)) ∙ ap g (let q : a + 0 ≡ a = omega arith in q) in
    ap (λ x. f (run a x) ∷ map f (each_does run (suc a) ss)) first
    ∙ ap (λ l. f (run a (g a)) ∷ l)
    (each_ranged f run g (suc a) ss (λ k l. h (suc k) (omega (arith, l)) ∙ ap (λ j. Some (g j)) (let q : a + suc k ≡ suc a + k = omega arith in q))
    ∙ ap (λ j. map (λ k. f (run k (g k))) (range_with_len j (length ss))) (let q : suc a ≡ a + 1 = omega arith in q))

-- ---- what is said

end_length : (e : Option End) (is : List ℤ) → length (end_words e is) ≡ 3
end_length (Some (Trapped kind at)) is = refl
end_length (Some OutOfSteps) is = refl
end_length (Some PhaseEnd) is = refl
end_length None is = refl

length_joined : (xs ys : List ℤ) → length (xs ++ ys) ≡ length xs + length ys
length_joined [] ys = omega arith
length_joined (x ∷ xs) ys = let q : length (xs ++ ys) ≡ length xs + length ys = length_joined xs ys in omega (arith, q)

-- the ends have as many values as there are reduction variables
abbrev pub HaveValues : ℕ → List PartEnd → Type 0
HaveValues n ends = AllByRecursion (λ e. length e.values ≡ n) ends

part_length : (n : ℕ) (ends : List PartEnd) (k : ℕ) → HaveValues n ends → k < length ends → length (part_words (slice_get ends k)) ≡ 3 + n
part_length n [] k h l = absurd (omega (arith, l))
part_length n (e ∷ ends) zero h l =
    length_joined (end_words e.ended e.indices) e.values ∙ ap (λ m. m + length e.values) (end_length e.ended e.indices) ∙ ap (λ m. 3 + m) h.0
part_length n (e ∷ ends) (suc k) h l = part_length n ends k h.1 (omega (arith, l))

-- the words of a loop's end are as many, whatever the ends
pub ends_said : (p : ProgParts) (d : LoopDirective) (n : ℕ) (ends others : List PartEnd) → HaveValues n ends → HaveValues n others
    → length ends ≡ node_count p → length others ≡ node_count p → SaidAsNoted p (message p (LoopEnd d ends)) (LoopEnd d others)
ends_said p d n ends others h k l m from to lf lt ne =
    let one : length (part_words (slice_get ends from)) ≡ 3 + n = part_length n ends from h (subst (λ c. from < c) (sym l) lf) in
    let two : length (part_words (slice_get others from)) ≡ 3 + n = part_length n others from k (subst (λ c. from < c) (sym m) lf) in
    ap (λ b. words_sent (if b then record { words = []; text = [] } else said p (LoopEnd d ends) from to)) (ne_eqb from to ne)
    ∙ ap (λ c. c + (0 + 7) / 8) (one ∙ sym two)
    ∙ sym (ap (λ b. words_sent (if b then record { words = []; text = [] } else said p (LoopEnd d others) from to)) (ne_eqb from to ne))

pub values_length : {X : Type 0} (s : State X) (slots : List ℕ) → length (values_of s slots) ≡ length slots
values_length s [] = refl
values_length s (slot ∷ slots) = ap suc (values_length s slots)

pub all_have_values : {A : Type 0} (d : LoopDirective) (f : A → PartEnd) (xs : List A) → ((x : A) → length (f x).values ≡ length (map (λ r. r.variable.number) d.reductions))
    → HaveValues (length (map (λ r. r.variable.number) d.reductions)) (map f xs)
all_have_values d f [] h = tt
all_have_values d f (x ∷ xs) h = (h x, all_have_values d f xs h)

-- ---- ends

pub later_end : (d : LoopDirective) (vs : List ℤ) (r : Step (Unit {0}) Flow) → IsLater (indices_of d.nest) vs r → EndsLater vs (part_end d r)
later_end d vs (Gave Next u) h = tt
later_end d vs (Gave (Returned v) u) h = absurd h
later_end d vs (Ended e u) h = h

pub values_named : {X : Type 0} (s : State X) (rs : List Reduction) → values_of s (map (λ r. r.variable.number) rs) ≡ map (λ r. scalar_in s r.variable.number) rs
values_named s [] = refl
values_named s (r ∷ rs) = ap (λ l. scalar_in s r.variable.number ∷ l) (values_named s rs)

-- ---- output

all_true : {A : Type 0} (test : A → Bool) (xs : List A) → AllByRecursion (λ x. test x ≡ true) xs → list_all test xs ≡ true
all_true test [] h = refl
all_true test (x ∷ xs) h = both_true (test x) (list_all test xs) h.0 (all_true test xs h.1)

free_out : (X : Type 0) (slots : List ℕ) → AllByRecursion (IsFree (λ (s : State X). s.out)) slots
free_out X [] = tt
free_out X (slot ∷ slots) = ((λ s v. refl), free_out X slots)

-- a statement without `printf` prints nothing, and neither do its turns
pub prints_nothing : {X : Type 0} (cx : Context) (x : Stmt) → AllByRecursion (λ y. is_no_print y ≡ true) (statements_of x) → (s : State X)
    → (state_of (stmt_of erased cx x s)).out ≡ s.out
prints_nothing cx x h s = output_stays cx x (all_true is_no_print (statements_of x) h) s

pub turns_print_nothing : {X : Type 0} (slots : List ℕ) (ts : List (List ℤ)) (body : Run X Flow) → ((s : State X) → (state_of (body s)).out ≡ s.out)
    → (s : State X) → (state_of (for_each slots ts body s)).out ≡ s.out
turns_print_nothing {X} slots ts body h s = left_for_each (λ s. s.out) slots (free_out X slots) ts body h s

bare_out : {X A : Type 0} (r : Step X A) → (state_of (bare_step r)).out ≡ (state_of r).out
bare_out (Gave a s) = refl
bare_out (Ended e s) = refl

pub noting_prints_nothing : (p : ProgParts) (cx : Context) (x : Stmt) → AllByRecursion (λ y. is_no_print y ≡ true) (statements_of x) → (s : State Notes)
    → (state_of (stmt_of (traced p) cx x s)).out ≡ s.out
noting_prints_nothing p cx x h s =
    sym (bare_out (stmt_of (traced p) cx x s))
    ∙ ap (λ (r : Step (Unit {0}) Flow). (state_of r).out) (sym (notes_apart p cx x s))
    ∙ prints_nothing cx x h (bare s)
