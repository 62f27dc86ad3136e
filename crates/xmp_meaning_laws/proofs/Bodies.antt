-- A statement leaves the indices and the scalars of the bounds of a nest round it.
use Rattle.std.proofs.Common.{◌≡◌, ◌≢◌, ◌==◌, ◌&&◌, ◌||◌, not, ◌++◌, ℕ, true, List, [], ◌∷◌, length, refl, sym, subst, ap, ◌∙◌}
use Rattle.std.specs.Prelude.{slice_get, nat_le}
use Rattle.std.specs.List.{AllByRecursion, list_all, flat_map}
use Rattle.xmp_map.proofs.Counted.{and_left, and_right}
use Rattle.xmp_num.specs.declared.types.Ty.TheVariants.{Int}
use Rattle.xmp_prog.specs.declared.parts.ProgParts.{ProgParts}
use Rattle.xmp_prog.specs.declared.statements.LoopDirective.{LoopDirective}
use Rattle.xmp_prog.specs.declared.statements.LoopHead.{LoopHead}
use Rattle.xmp_prog.specs.declared.statements.Stmt.{Stmt}
use Rattle.xmp_prog.specs.Numbers.{is_in, apart, same_type}
use Rattle.xmp_prog.specs.Terms.{Term, type_of, terms_of, slots_of_term, slots_of_terms}
use Rattle.xmp_prog.specs.Counted.{most_counted, is_int_scalar, is_bound_term, is_small_constant, is_counted, is_nest}
use Rattle.xmp_prog.specs.Statements.{indices_of, terms_of_head, writes_of}
use Rattle.xmp_meaning.specs.declared.ends.Flow.{Flow}
use Rattle.xmp_meaning.specs.Runs.{State, Step, Gave, Ended, state_of}
use Rattle.xmp_meaning.specs.Blocks.{then_run}
use Rattle.xmp_meaning.specs.Context.{Context}
use Rattle.xmp_meaning.specs.Handlers.{erased}
use Rattle.xmp_meaning.specs.Exchanges.{Notes, note_turn, traced}
use Rattle.xmp_meaning.specs.Statements.{stmt_of}
use Rattle.xmp_meaning.specs.Laws.{KeepsScalar, bare, bare_step}
use Rattle.xmp_meaning.proofs.Notes.{notes_apart}
use Rattle.xmp_meaning.proofs.WrittenOnce.{writes_are_one}
use Rattle.xmp_meaning_laws.specs.Tuples.{begins_fixed, is_fixed, NestFits, slots_of_nest, StatementLeaves, NotedTurnLeaves}
use Rattle.xmp_meaning_laws.proofs.Conditions.{all_apart, all_together}
use Rattle.xmp_meaning_laws.proofs.Named.{all_mapped}
use Rattle.xmp_meaning_laws.proofs.CountedLoops.{six}
use Rattle.xmp_meaning_laws.proofs.Nests.{nest_keeps, nest_shape}
use Rattle.xmp_meaning_laws.proofs.Folds.{NoneIs, all_none}

slots_joined : (P : ℕ → Type 0) (ts us : List Term) → AllByRecursion P (slots_of_terms ts) → AllByRecursion P (slots_of_terms us) → AllByRecursion P (slots_of_terms (ts ++ us))
slots_joined P [] us a b = b
slots_joined P (t ∷ ts) us a b =
    let parts : _ = all_apart P (slots_of_term t) (slots_of_terms ts) a in
    all_together P (slots_of_term t) (slots_of_terms (ts ++ us)) parts.0 (slots_joined P ts us parts.1 b)

none_of_last : (ms ws ns : List ℕ) → AllByRecursion (λ j. NoneIs j (ms ++ ws)) ns → AllByRecursion (λ j. NoneIs j ws) ns
none_of_last ms ws = all_mapped (λ j. NoneIs j (ms ++ ws)) (λ j. NoneIs j ws) (λ j h. (all_apart (λ n. n ≢ j) ms ws h).1)

module _ (p : ProgParts) (writes : List ℕ) where
  -- the indices, and the scalars of the bounds, are none of those that are written
  pub none_written : (heads : List LoopHead) → is_nest p heads writes ≡ true → begins_fixed p heads writes ≡ true
      → AllByRecursion (λ j. NoneIs j writes) (indices_of heads) × AllByRecursion (λ j. NoneIs j writes) (slots_of_terms (flat_map (terms_of_head p) heads))
  none_written [] e f = (tt, tt)
  none_written (head ∷ heads) e f =
      let tests : _ = six (is_int_scalar (slice_get p.scalars head.index.number)) (same_type (type_of p head.to) Int)
      (list_all is_bound_term (terms_of p head.to)) (not (is_in (slots_of_terms (terms_of p head.to)) head.index.number))
      (apart (head.index.number ∷ slots_of_terms (terms_of p head.to)) (indices_of heads ++ writes))
      (((head.step == 1) && not head.inclusive) || (is_small_constant head.to && (nat_le 1 head.step && nat_le head.step most_counted)))
      (and_left (is_counted p head (indices_of heads ++ writes)) (is_nest p heads writes) e) in
      let own : _ = none_of_last (indices_of heads) writes (head.index.number ∷ slots_of_terms (terms_of p head.to))
      (all_none (head.index.number ∷ slots_of_terms (terms_of p head.to)) (indices_of heads ++ writes) tests.fifth) in
      let from : _ = none_of_last (head.index.number ∷ indices_of heads) writes (slots_of_terms (terms_of p head.from))
      (all_none (slots_of_terms (terms_of p head.from)) (head.index.number ∷ (indices_of heads ++ writes))
      (and_right _ _ (and_left (is_fixed p (head.index.number ∷ (indices_of heads ++ writes)) head.from) (begins_fixed p heads writes) f))) in
      let rest : _ = none_written heads (and_right (is_counted p head (indices_of heads ++ writes)) (is_nest p heads writes) e)
      (and_right (is_fixed p (head.index.number ∷ (indices_of heads ++ writes)) head.from) (begins_fixed p heads writes) f) in (
        (own.0, rest.0),
        slots_joined (λ j. NoneIs j writes) (terms_of_head p head) (flat_map (terms_of_head p) heads)
            (slots_joined (λ j. NoneIs j writes) (terms_of p head.from) (terms_of p head.to) from own.1) rest.1,
      )

  pub slots_unwritten : (heads : List LoopHead) → NestFits p heads writes → AllByRecursion (λ j. NoneIs j writes) (slots_of_nest p heads)
  slots_unwritten heads f =
      let both : _ = none_written heads f.counted f.begins in
      all_together (λ j. NoneIs j writes) (indices_of heads) (slots_of_terms (flat_map (terms_of_head p) heads)) both.0 both.1

keeps_unwritten : (X : Type 0) (cx : Context) (body : Stmt) (slot : ℕ) → NoneIs slot (writes_of body) → KeepsScalar {X = X} slot (stmt_of erased cx body)
keeps_unwritten X cx body slot f = nest_keeps cx [] body slot tt (subst (AllByRecursion (λ m. m ≢ slot)) (sym (writes_are_one body)) f)

pub statement_leaves : (X : Type 0) (cx : Context) (heads : List LoopHead) (body : Stmt) → StatementLeaves X cx heads body
statement_leaves X cx heads body f = record {
  kept = all_mapped (λ j. NoneIs j (writes_of body)) (λ slot. KeepsScalar {X = X} slot (stmt_of erased cx body)) (keeps_unwritten X cx body)
      (slots_of_nest cx.program heads) (slots_unwritten cx.program (writes_of body) heads f);
  length = nest_shape cx [] body;
}

-- ---- with notes

bare_scalars : {X A : Type 0} (r : Step X A) → (state_of (bare_step r)).scalars ≡ (state_of r).scalars
bare_scalars (Gave a s) = refl
bare_scalars (Ended e s) = refl

module _ (p : ProgParts) (cx : Context) (directive : LoopDirective) (body : Stmt) where
  noted_scalars : (s : State Notes) → (state_of (stmt_of (traced p) cx body s)).scalars ≡ (state_of (stmt_of erased cx body (bare s))).scalars
  noted_scalars s = sym (bare_scalars (stmt_of (traced p) cx body s)) ∙ ap (λ (r : Step (Unit {0}) Flow). (state_of r).scalars) (sym (notes_apart p cx body s))

  noted_keeps : (slot : ℕ) → NoneIs slot (writes_of body) → KeepsScalar {X = Notes} slot (then_run (note_turn p directive) (stmt_of (traced p) cx body))
  noted_keeps slot f s = ap (λ xs. slice_get xs slot) (noted_scalars _) ∙ keeps_unwritten (Unit {0}) cx body slot f (bare s)

  pub noted_turn_leaves : NotedTurnLeaves p cx directive body
  noted_turn_leaves f = record {
    kept = all_mapped (λ j. NoneIs j (writes_of body)) (λ slot. KeepsScalar {X = Notes} slot (then_run (note_turn p directive) (stmt_of (traced p) cx body))) noted_keeps
        (slots_of_nest cx.program directive.nest) (slots_unwritten cx.program (writes_of body) directive.nest f);
    length = λ s. ap (λ xs. length xs) (noted_scalars _) ∙ nest_shape {X = Unit {0}} cx [] body (bare s);
  }
