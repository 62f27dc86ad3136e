-- The steps of the walk make expressions and statements that pass the tests of terms.
use Rattle.std.proofs.Common.{◌≡◌, ◌∙◌, sym, refl, subst, ◌∷◌, [], ◌-◌, ℕ, Bool, true, List, Option, Some, None, length}
use Rattle.std.specs.Prelude.{is_some, if◌then◌else◌}
use Rattle.std.specs.List.{list_all, AllByRecursion}
use Rattle.std.specs.Option.{option_or}
use Rattle.std.proofs.lemmas.Option.{none-some}
use Rattle.xmp_scopes.specs.Names as scope
use Rattle.xmp_scopes.specs.Names.{nearest, depth_of, in_scope}
use Rattle.xmp_names.specs.declared.names.Meaning.{Meaning}
use Rattle.xmp_names.specs.declared.names.Meaning.TheVariants.{Array}
use Rattle.xmp_map.specs.Spread.{sizes_fit}
use Rattle.xmp_prog.specs.declared.parts.ProgParts.{ProgParts}
use Rattle.xmp_prog.specs.declared.statements.Stmt as made
use Rattle.xmp_syntax.specs.declared.expression.Expr.{Expr}
use Rattle.xmp_names.specs.declared.typed.Operand.{Operand}
use Rattle.xmp_names.specs.declared.world.World.{World}
use Rattle.xmp_names.specs.Expressions.{is_function, is_first}
use Rattle.xmp_names.specs.Walk.{Step, Gave, typed}
use Rattle.xmp_fits.proofs.Laters.{Scopes, begins_trans, unbroken_before}
use Rattle.xmp_fits.proofs.GoodWorlds as good_worlds
use Rattle.xmp_fits.proofs.GoodWorlds.{Own, Good, Extends}
use Rattle.xmp_fits.proofs.GoodSteps.{Stays, onward_stays, begins_get}
use Rattle.xmp_fits.proofs.KeptRuns.{GoesOn, going}
use Rattle.xmp_fits.proofs.Respected.{Ends}
use Rattle.xmp_fits.proofs.RespectedSteps as kept_steps
use Rattle.xmp_fits.proofs.Holding.{Unbroken, Holds}
use Rattle.xmp_fits.proofs.TermsFit.{NoneInside}
use Rattle.xmp_fits.proofs.OperandsFit.{Fits}
use Rattle.xmp_fits.proofs.NamesFit.{Tells}
use Rattle.xmp_fits.proofs.TellsTrue.{tells}
use Rattle.xmp_fits.specs.NumbersLie.{numbers_lie}
use Rattle.xmp_fits.proofs.StepsFit.{typed_fits}
use Rattle.xmp_fits.proofs.PlainFits.{StatementFits, AllFit}
use Rattle.xmp_fits.proofs.TermTests.{OperandPasses, is_slot, all_map, statement_passes, operand_passes}
use Rattle.xmp_fits.proofs.ClausesHold.{StmtPasses}

-- The parts of a program extend a world, and the extents of its arrays are 1 to 4,194,304.
pub record Reached (p : ProgParts) (w : World) : Type 0 where
  pub extends : Extends p w
  pub extents : list_all (λ a. sizes_fit a.extents) p.arrays ≡ true

-- Where the function stands that is read.
abbrev pub Here : World → (Bool → ℕ → Type 0) → Type 0
Here w P = P (is_function w.names.region) (length w.names.functions - 1)

-- What is to hold of a statement, of an operand, of a slot and of tasks in each program that is reached.
abbrev pub StmtGood : World → made.Stmt → Type 0
StmtGood v x = (p : ProgParts) → Reached p v → Here v (λ inside number. StmtPasses p true inside number x)

abbrev pub OperandGood : World → Operand → Type 0
OperandGood v x = (p : ProgParts) → Reached p v → Here v (λ inside number. OperandPasses p true inside number x)

abbrev pub SlotsGood : World → List ℕ → Type 0
SlotsGood v ns = (p : ProgParts) → Reached p v → AllByRecursion (λ n. is_slot p n ≡ true) ns

-- ---- later worlds

pub back : (p : ProgParts) (w v : World) → Stays w v → Reached p v → Reached p w
back p w v s r = record {
  extends = record {
    scalars = begins_trans s.later.scalars r.extends.scalars;
    functions = begins_trans s.later.functions r.extends.functions;
    start = begins_trans s.later.start r.extends.start;
    arrays = λ k a h. r.extends.arrays k a (begins_get w.names.arrays v.names.arrays k a s.later.names.arrays h);
    kind = r.extends.kind ∙ s.later.names.coarray;
  };
  extents = r.extents;
}

pub here_stays : (w v : World) (P : Bool → ℕ → Type 0) → Stays w v → Here w P → Here v P
here_stays w v P s h =
    subst (λ r. P (is_function r) (length v.names.functions - 1)) (sym s.region) (subst (λ fs. P (is_function w.names.region) (length fs - 1)) (sym s.signatures) h)

pub stmt_stays : (w v : World) (x : made.Stmt) → Stays w v → StmtGood w x → StmtGood v x
stmt_stays w v x s h = λ p r. here_stays w v (λ inside number. StmtPasses p true inside number x) s (h p (back p w v s r))

pub operand_stays : (w v : World) (x : Operand) → Stays w v → OperandGood w x → OperandGood v x
operand_stays w v x s h = λ p r. here_stays w v (λ inside number. OperandPasses p true inside number x) s (h p (back p w v s r))

pub slots_stay : (w v : World) (ns : List ℕ) → Stays w v → SlotsGood w ns → SlotsGood v ns
slots_stay w v ns s h = λ p r. h p (back p w v s r)

-- ---- from what fits where names are known

-- Where no rule breaks, no array is declared in a function.
first_scope : (n : scope.Name) (k : ℕ) (ss : Scopes) → good_worlds.NoneInside ss → nearest n ss ≡ Some (Array k) → is_first (depth_of n ss) ≡ true
first_scope n k [] h e = absurd (none-some (Array k) e)
first_scope n k (s ∷ []) h e = by (in_scope n s) e
  where
    by : (o : Option Meaning) → option_or o None ≡ Some (Array k) → is_first (if is_some o then Some 1 else None) ≡ true
    by None e = absurd (none-some (Array k) e)
    by (Some m) e = refl
first_scope n k (s ∷ t ∷ ts) h e = by (in_scope n s) refl (λ d. first_scope n k (t ∷ ts) h.1 d) e
  where
    by : (o : Option Meaning) → in_scope n s ≡ o → (nearest n (t ∷ ts) ≡ Some (Array k) → is_first (depth_of n (t ∷ ts)) ≡ true) → option_or o (nearest n (t ∷ ts)) ≡ Some (Array k) →
        is_first (if is_some o then Some (length (s ∷ t ∷ ts)) else depth_of n (t ∷ ts)) ≡ true
    by None is outer e = outer e
    by (Some m) is outer e = absurd (h.0.none n k (is ∙ e))

pub none_inside : (own : Own) (w : World) → Good own w → w.broken ≡ [] → is_function w.names.region ≡ true → NoneInside w.names
none_inside own w g e i n k h = first_scope n.text k w.names.scopes (g.inside e i) h

pub stmt_good : (own : Own) (p : ProgParts) (w v : World) (x : made.Stmt) → Good own w → w.broken ≡ [] → Tells w.names p → Stays w v → AllFit w.names p x → Here v (λ inside number. StmtPasses p true inside number x)
stmt_good own p w v x g e t s h = here_stays w v (λ inside number. StmtPasses p true inside number x) s (all_map (StatementFits w.names p) _ (statement_passes w.names p t true (λ q i. none_inside own w g e i)) _ h)

pub operand_good : (own : Own) (p : ProgParts) (w v : World) (x : Operand) → Good own w → w.broken ≡ [] → Tells w.names p → Stays w v → Fits w.names p x → Here v (λ inside number. OperandPasses p true inside number x)
operand_good own p w v x g e t s h = here_stays w v (λ inside number. OperandPasses p true inside number x) s (operand_passes w.names p t true (λ q i. none_inside own w g e i) x h)

-- A step of a good world, whose statement fits where names are known.
pub made_good : (own : Own) (w : World) (t : Step made.Stmt) → Good own w → GoesOn w t → ((p : ProgParts) → Tells w.names p → Ends (λ x v. v.broken ≡ [] → AllFit w.names p x) t) → Unbroken StmtGood t
made_good own w (Gave x v) g o f = λ e p r. let s = onward_stays o.onward in let y = tells own w p g (back p w v s r).extends in stmt_good own p w v x g (unbroken_before w v o.onward.later e) y s (f p y e)

pub operand_read : (own : Own) (w : World) (t : Step Operand) → Good own w → GoesOn w t → ((p : ProgParts) → Tells w.names p → Ends (λ x v. v.broken ≡ [] → Fits w.names p x) t) → Unbroken OperandGood t
operand_read own w (Gave x v) g o f = λ e p r. let s = onward_stays o.onward in let y = tells own w p g (back p w v s r).extends in operand_good own p w v x g (unbroken_before w v o.onward.later e) y s (f p y e)

pub test_good : (own : Own) (x : Expr) → numbers_lie x ≡ true → Holds own (λ w v x. OperandGood v x) (typed x)
test_good own x n = record { at = λ w g. operand_read own w (typed x w) g ((kept_steps.typed going x).kept.at w) (λ p t. typed_fits p w t x n) }
