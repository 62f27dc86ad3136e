-- The nest of a loop directive: its heads are those of counted loops, each the body of the one before, and it writes what they do.
use Rattle.std.proofs.Common.{◌≡◌, ◌∙◌, sym, ap, refl, subst, ◌++◌, ◌∷◌, [], ℕ, zero, suc, true, List, Option, Some, None, map}
use Rattle.std.specs.List.{AllByRecursion}
use Rattle.std.proofs.lemmas.List.{append-nil}
use Rattle.std.proofs.lemmas.Option.{same_Some, none-some}
use Rattle.xmp_prog.specs.declared.statements.LoopHead.{LoopHead}
use Rattle.xmp_prog.specs.declared.statements.Stmt.{Stmt, out-Stmt}
use Rattle.xmp_prog.specs.declared.statements.Stmt.TheVariants as stmt
use Rattle.xmp_prog.specs.declared.statements.Stmt.TheOpen.{Stmt-F}
use Rattle.xmp_prog.specs.declared.statements.Stmt.TheViews.{roll-Stmt, roll-out-Stmt}
use Rattle.xmp_prog.specs.declared.statements.Task.{Task}
use Rattle.xmp_prog.specs.declared.parts.ProgParts.{ProgParts}
use Rattle.xmp_prog.specs.Counted.{is_counted, is_nest}
use Rattle.xmp_prog.specs.Statements.{Statement, Walked, WalkedTask, indices_of, statements_of, walk_step, walk_task, walked, writes_of}
use Rattle.xmp_prog.specs.Tests.{counted_fits}
use Rattle.xmp_prog.proofs.Rolls.{at_block, at_counted}
use Rattle.xmp_directives.specs.Directives.{Nest, counted_in, head_of, nest_in, nest_of, unbraced_in}
use Rattle.xmp_parts.proofs.Unbroken.{both_true}

-- ---- what stands in a statement of a form

seen_block : (ss : List Stmt) → walked (stmt.Block ss) ≡ walk_step (Stmt-F.Block (map walked ss))
seen_block ss = at_block Walked WalkedTask walk_step walk_task ss

seen_counted : (h : LoopHead) (b : Stmt) → walked (stmt.Counted h b) ≡ walk_step (Stmt-F.Counted h (walked b))
seen_counted h b = at_counted Walked WalkedTask walk_step walk_task h b

-- ---- the counted loop that a statement is, in braces or not

-- What a statement writes that is a counted loop, and the statements in it.
pub record Headed (s : Stmt) (h : LoopHead) (b : Stmt) : Type 0 where
  pub writes : writes_of s ≡ h.index.number ∷ writes_of b
  pub front : List Statement
  pub statements : statements_of s ≡ front ++ Stmt-F.Counted h (writes_of b) ∷ statements_of b

headed_loop : (h : LoopHead) (b : Stmt) → Headed (stmt.Counted h b) h b
headed_loop h b = record {
  writes = ap (λ (w : Walked). w.writes) (seen_counted h b);
  front = [];
  statements = ap (λ (w : Walked). w.statements) (seen_counted h b);
}

headed_block : (x : Stmt) (h : LoopHead) (b : Stmt) → Headed x h b → Headed (stmt.Block (x ∷ [])) h b
headed_block x h b k = record {
  writes = ap (λ (w : Walked). w.writes) (seen_block (x ∷ [])) ∙ (append-nil (writes_of x) ∙ k.writes);
  front = Stmt-F.Block (writes_of x ∷ []) ∷ k.front;
  statements = ap (λ (w : Walked). w.statements) (seen_block (x ∷ [])) ∙ ap (λ l. Stmt-F.Block (writes_of x ∷ []) ∷ l) (append-nil (statements_of x) ∙ k.statements);
}

abbrev Found : Type 0
Found = LoopHead × Stmt

same_pair : (x y : Found) → Some x ≡ Some y → stmt.Counted x.0 x.1 ≡ stmt.Counted y.0 y.1
same_pair x y e = ap (λ (z : Found). stmt.Counted z.0 z.1) (same_Some x y e)

-- A statement that is a counted loop itself.
counted_at : (s : Stmt) (h : LoopHead) (b : Stmt) → counted_in (out-Stmt s) ≡ Some (h, b) → s ≡ stmt.Counted h b
counted_at s h b e = go (out-Stmt s) refl e
  where
    go : (o : Stmt-F Stmt Task) → out-Stmt s ≡ o → counted_in o ≡ Some (h, b) → s ≡ stmt.Counted h b
    go (Stmt-F.Plain x) i e = absurd (none-some (h, b) e)
    go (Stmt-F.Block x) i e = absurd (none-some (h, b) e)
    go (Stmt-F.If x y z) i e = absurd (none-some (h, b) e)
    go (Stmt-F.While x y z) i e = absurd (none-some (h, b) e)
    go (Stmt-F.Counted g c) i e = sym (roll-out-Stmt s) ∙ (ap roll-Stmt i ∙ (stmt.rolls-Counted g c ∙ same_pair (g, c) (h, b) e))
    go (Stmt-F.Loop x y) i e = absurd (none-some (h, b) e)
    go (Stmt-F.Tasks x y) i e = absurd (none-some (h, b) e)

headed_at : (s : Stmt) (h : LoopHead) (b : Stmt) → counted_in (out-Stmt s) ≡ Some (h, b) → Headed s h b
headed_at s h b e = subst (λ t. Headed t h b) (sym (counted_at s h b e)) (headed_loop h b)

pub headed : (s : Stmt) (h : LoopHead) (b : Stmt) → head_of s ≡ Some (h, b) → Headed s h b
headed s h b e = go (out-Stmt s) refl e
  where
    go : (o : Stmt-F Stmt Task) → out-Stmt s ≡ o → counted_in (out-Stmt (unbraced_in s o)) ≡ Some (h, b) → Headed s h b
    go (Stmt-F.Plain x) i e = headed_at s h b e
    go (Stmt-F.Block []) i e = headed_at s h b e
    go (Stmt-F.Block (x ∷ [])) i e =
        subst (λ t. Headed t h b) (sym (ap roll-Stmt i ∙ stmt.rolls-Block (x ∷ [])) ∙ roll-out-Stmt s) (headed_block x h b (headed_at x h b e))
    go (Stmt-F.Block (x ∷ y ∷ r)) i e = headed_at s h b e
    go (Stmt-F.If x y z) i e = headed_at s h b e
    go (Stmt-F.While x y z) i e = headed_at s h b e
    go (Stmt-F.Counted g c) i e = headed_at s h b e
    go (Stmt-F.Loop x y) i e = headed_at s h b e
    go (Stmt-F.Tasks x y) i e = headed_at s h b e

-- ---- the nest

-- A nest writes what its loop writes.
abbrev Writes : List ℕ → Nest → Type 0
Writes all nest = all ≡ indices_of nest.0 ++ writes_of nest.1

pub nest_writes : (n : ℕ) (s : Stmt) → writes_of s ≡ indices_of (nest_of n s).0 ++ writes_of (nest_of n s).1
nest_writes zero s = refl
nest_writes (suc n) s = go (λ b. nest_writes n b) (head_of s) refl
  where
    go : ((b : Stmt) → Writes (writes_of b) (nest_of n b)) → (o : Option (LoopHead × Stmt)) → head_of s ≡ o → Writes (writes_of s) (nest_in (nest_of n) s o)
    go inner None e = refl
    go inner (Some x) e = (headed s x.0 x.1 e).writes ∙ ap (λ l. x.0.index.number ∷ l) (inner x.1)

all_behind : (P : Statement → Type 0) (front xs : List Statement) → AllByRecursion P (front ++ xs) → AllByRecursion P xs
all_behind P [] xs h = h
all_behind P (y ∷ ys) xs h = all_behind P ys xs h.1

module _ (P : Statement → Type 0) where
  inside : (s : Stmt) (h : LoopHead) (b : Stmt) → Headed s h b → AllByRecursion P (statements_of s) → P (Stmt-F.Counted h (writes_of b)) × AllByRecursion P (statements_of b)
  inside s h b k t = all_behind P k.front (Stmt-F.Counted h (writes_of b) ∷ statements_of b) (subst (AllByRecursion P) k.statements t)

  -- The statements in its body are statements in its loop.
  pub nest_passes : (n : ℕ) (s : Stmt) → AllByRecursion P (statements_of s) → AllByRecursion P (statements_of (nest_of n s).1)
  nest_passes zero s t = t
  nest_passes (suc n) s t = go (λ b u. nest_passes n b u) (head_of s) refl
    where
      go : ((b : Stmt) → AllByRecursion P (statements_of b) → AllByRecursion P (statements_of (nest_of n b).1)) →
          (o : Option (LoopHead × Stmt)) → head_of s ≡ o → AllByRecursion P (statements_of (nest_in (nest_of n) s o).1)
      go inner None e = t
      go inner (Some x) e = inner x.1 (inside s x.0 x.1 (headed s x.0 x.1 e) t).1

-- Each of its loops is counted.
abbrev Counts : ProgParts → Statement → Type 0
Counts p x = counted_fits p x ≡ true

pub nest_fits : (p : ProgParts) (n : ℕ) (s : Stmt) → AllByRecursion (λ x. counted_fits p x ≡ true) (statements_of s) → is_nest p (nest_of n s).0 (writes_of (nest_of n s).1) ≡ true
nest_fits p zero s t = refl
nest_fits p (suc n) s t = go (λ b u. nest_fits p n b u) (head_of s) refl
  where
    go : ((b : Stmt) → AllByRecursion (Counts p) (statements_of b) → is_nest p (nest_of n b).0 (writes_of (nest_of n b).1) ≡ true) →
        (o : Option (LoopHead × Stmt)) → head_of s ≡ o → is_nest p (nest_in (nest_of n) s o).0 (writes_of (nest_in (nest_of n) s o).1) ≡ true
    go inner None e = refl
    go inner (Some x) e =
        let both = inside (Counts p) s x.0 x.1 (headed s x.0 x.1 e) t in
        both_true (is_counted p x.0 (indices_of (nest_of n x.1).0 ++ writes_of (nest_of n x.1).1)) _
        (ap (is_counted p x.0) (sym (nest_writes n x.1)) ∙ both.0) (inner x.1 both.1)
