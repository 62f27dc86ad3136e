-- The beginning: every node agrees with the serial run, nothing is out of date, and nothing is counted.
use Rattle.std.proofs.Common.{◌≡◌, ◌<◌, ◌++◌, ℕ, zero, suc, pos, List, [], ◌∷◌, map, length, replicate, Some, refl, sym, subst, ap, ◌∙◌, false, arith}
use Rattle.std.specs.Prelude.{slice_get}
use Rattle.std.proofs.lemmas.Option.{none-some, same_Some, slice_get_within}
use Rattle.xmp_num.specs.Arithmetic.{FitsType}
use Rattle.xmp_prog.specs.declared.parts.Array.{Array}
use Rattle.xmp_prog.specs.declared.parts.Home.TheVariants as home
use Rattle.xmp_prog.specs.declared.parts.ProgParts.{ProgParts}
use Rattle.xmp_prog.specs.Fits.{node_count}
use Rattle.xmp_paths.specs.declared.event.Event.{Event}
use Rattle.xmp_paths.specs.Plans.{Plan}
use Rattle.xmp_paths.specs.Safe.{Safe}
use Rattle.xmp_loops.specs.declared.role.Role.TheVariants.{Shared, Reduced}
use Rattle.xmp_meaning.specs.Runs.{State}
use Rattle.xmp_meaning.specs.Cells.{row_in}
use Rattle.xmp_meaning.specs.Declarations.{home_of_array, scalar_type, array_type}
use Rattle.xmp_meaning.specs.Layouts.{Layout, Whole, Packed, words_of, cell_count, row_length}
use Rattle.xmp_meaning.specs.Programs.{no_writes, beginning}
use Rattle.xmp_meaning.specs.Exchanges.{Notes, no_notes}
use Rattle.xmp_meaning.specs.Traffic.{node_beginning}
use Rattle.xmp_meaning.proofs.StoresLaid.{begins_laid}
use Rattle.xmp_meaning_laws.proofs.Values.{zero_fits, zero_read, zero_rows}
use Rattle.xmp_move.specs.Stores.{word_at}
use Rattle.xmp_nodes.specs.Nodes.{bounded, nodes_beginning}
use Rattle.xmp_nodes.proofs.Agrees.{IsWhole, Agrees, base_at, at_main, Counted, Ready}
use Rattle.xmp_nodes.proofs.Standing.{IsGlobal}
use Rattle.xmp_nodes.proofs.CellNumbers.{cell_word, no_images}
use Rattle.xmp_nodes.proofs.Each.{begins_many, begins_at}

abbrev pub first_state : ProgParts → (steps : ℕ) → State Notes
first_state p steps = beginning Whole p steps (no_notes p)

-- ---- zeros

zeros_long : (n : ℕ) → length (replicate n (pos 0)) ≡ n
zeros_long zero = refl
zeros_long (suc n) = ap suc (zeros_long n)

pub rows_long : (layout : Layout) (p : ProgParts) (all : List Array) → map length (map (λ a. replicate (row_length layout p a) (pos 0)) all) ≡ map (row_length layout p) all
rows_long layout p [] = refl
rows_long layout p (a ∷ all) = (λ i. zeros_long (row_length layout p a) i ∷ rows_long layout p all i)

zero_word : (layout : Layout) (p : ProgParts) (array n : ℕ) → word_at (row_in (no_writes layout p) array) n ≡ pos 0
zero_word layout p array n = sym (cell_word (no_writes layout p) array n) ∙ zero_rows (λ a. row_length layout p a) p.arrays array (pos n)

-- the rows of an array without align are the same in every store
same_rows : (p : ProgParts) (node : ℕ) (all : List Array) (array : ℕ) → home_of_array (slice_get all array) ≡ home.Copy
    → row_in (map (λ a. replicate (row_length (Packed node) p a) (pos 0)) all) array ≡ row_in (map (λ a. replicate (row_length Whole p a) (pos 0)) all) array
same_rows p node [] array e = refl
same_rows p node (a ∷ all) zero e = ap (λ n. replicate n (pos 0)) (ap (λ h. words_of (Packed node) h (cell_count p a)) e ∙ sym (ap (λ h. words_of Whole h (cell_count p a)) e))
same_rows p node (a ∷ all) (suc array) e = same_rows p node all array e

-- ---- each node

first_whole : (p : ProgParts) (steps : ℕ) → IsWhole p (first_state p steps)
first_whole p steps = record {
  scalars = zeros_long (length p.scalars);
  rows = rows_long Whole p p.arrays;
  values = record {
    scalars = λ slot. subst (FitsType (scalar_type p slot)) (sym (zero_read (length p.scalars) slot)) (zero_fits (scalar_type p slot));
    cells = λ array at. subst (FitsType (array_type p array)) (sym (zero_rows (λ a. row_length Whole p a) p.arrays array at)) (zero_fits (array_type p array));
  };
}

first_out : (node : ℕ) (before : List ℕ) → base_at node ≡ Some before → [] ≡ before ++ []
first_out zero before e = ap (λ l. l ++ []) (same_Some [] before e)
first_out (suc node) before e = absurd (none-some before e)

begins_agreed : (p : ProgParts) → IsGlobal p → (steps node : ℕ) → Agrees (at_main p node) (λ object. false) (first_state p steps) (node_beginning p node steps)
begins_agreed p global steps node = record {
  whole = first_whole p steps;
  packed = begins_laid p node steps (no_images p global);
  typed = λ slot. subst (FitsType (scalar_type p slot)) (sym (zero_read (length p.scalars) slot)) (zero_fits (scalar_type p slot));
  scalars = λ slot r e. refl;
  indices = λ slot r. refl;
  sums = λ slot op r. absurd (not_reduced r);
  copies = λ array r e. same_rows p node p.arrays array r;
  owned = λ array t m e cell inside owns. zero_word (Packed node) p array _ ∙ sym (zero_word Whole p array _);
  shadows = λ array t m cell e inside holds owns. zero_word (Packed node) p array _;
  current = λ array t m e c w number. sym (zero_word Whole p array number);
  point = λ d e. absurd (none-some d e);
  steps = refl;
  out = first_out node;
  taken = λ e. refl;
}
  where
    not_reduced : {r : _} → Shared ≡ Reduced r → ⊥
    not_reduced e = cc

-- ---- the counts

abbrev none_made : ℕ → List ℕ
none_made n = replicate n 0

zero_bounded : (n : ℕ) → none_made n ≡ map bounded (none_made n)
zero_bounded zero = refl
zero_bounded (suc n) = ap (λ l. 0 ∷ l) (zero_bounded n)

of_replicate : {A : Type 0} (n : ℕ) (x y : A) (i : ℕ) → slice_get (replicate n x) i ≡ Some y → x ≡ y
of_replicate zero x y i e = absurd (none-some y e)
of_replicate (suc n) x y zero e = same_Some x y e
of_replicate (suc n) x y (suc i) e = of_replicate n x y i e

rows_counted : {A : Type 0} (n : ℕ) (x : A) → length (replicate n x) ≡ n
rows_counted zero x = refl
rows_counted (suc n) x = ap suc (rows_counted n x)

begins_counted : (p : ProgParts) (steps : ℕ) → Counted p (no_notes p) (nodes_beginning p steps).turns (nodes_beginning p steps).sent
begins_counted p steps = record {
  many = rows_counted {A = ℕ} (node_count p) 0;
  turns = zero_bounded (node_count p);
  rows = rows_counted (node_count p) (replicate (node_count p) 0);
  row = λ from row e. ap length (sym (of_replicate (node_count p) (replicate (node_count p) 0) row from e)) ∙ rows_counted {A = ℕ} (node_count p) 0;
  sent = λ from to n row e f.
      sym (of_replicate (node_count p) 0 n to (subst (λ l. slice_get l to ≡ Some n) (sym (of_replicate (node_count p) (replicate (node_count p) 0) row from e)) f));
}

-- every node is ready for a plan that is safe with nothing out of date
pub begins_ready : (p : ProgParts) → IsGlobal p → (steps : ℕ) (plan : Plan Event) → ((node : ℕ) → Safe node plan (λ object. false))
    → Ready p plan (first_state p steps) (nodes_beginning p steps)
begins_ready p global steps plan safe = record {
  many = begins_many p steps;
  nodes = λ node n e.
      let below : node < node_count p = (let i = slice_get_within (nodes_beginning p steps).stores node n e in let l = begins_many p steps in omega (arith, i, l)) in
      let same : node_beginning p node steps ≡ n = same_Some (node_beginning p node steps) n (sym (begins_at p steps node below) ∙ e) in
      record { stale = λ object. false; safe = safe node; agrees = subst (λ m. Agrees (at_main p node) (λ object. false) (first_state p steps) m) same (begins_agreed p global steps node) };
  counts = begins_counted p steps;
}
