-- The heads of a nest, one after the other.
use Rattle.std.proofs.Common.{◌≡◌, ◌∙◌, ◌<◌, ◌≤◌, ◌+◌, ◌-◌, ◌++◌, ℕ, zero, suc, refl, sym, ap, false, List, [], ◌∷◌, append_assoc, arith}
use Rattle.std.specs.Prelude.{Option, None, Some, is_some}
use Rattle.xmp_prog.specs.declared.statements.LoopHead.{LoopHead}
use Rattle.std.proofs.lemmas.List.{append-nil}
use Rattle.xmp_prog.specs.declared.statements.Stmt.{Stmt, out-Stmt, out-roll-Stmt}
use Rattle.xmp_prog.specs.declared.statements.Stmt.TheVariants as stmt
use Rattle.xmp_prog.specs.declared.statements.Stmt.TheOpen.{Stmt-F}
use Rattle.xmp_directives.specs.Directives.{Nest, counted_in, head_of, nest_in, nest_of, single, unbraced_in}

-- A nest behind loops that stand round it.
abbrev pub behind : List LoopHead → Nest → Nest
behind hs nest = (hs ++ nest.0, nest.1)

pub none_before : (nest : Nest) → nest ≡ behind [] nest
none_before (hs, s) = refl

pub one_more : (hs : List LoopHead) (n : ℕ) (s body : Stmt) (h : LoopHead) → head_of s ≡ Some (h, body) →
    behind hs (nest_of (suc n) s) ≡ behind (hs ++ h ∷ []) (nest_of n body)
one_more hs n s body h e =
    ap (λ x. behind hs (nest_in (nest_of n) s x)) e
    ∙ ap (λ l. (l, (nest_of n body).1)) (sym (append_assoc hs (h ∷ []) (nest_of n body).0))

pub no_more : (hs : List LoopHead) (n : ℕ) (s : Stmt) → head_of s ≡ None → behind hs (nest_of n s) ≡ behind hs ([], s)
no_more hs zero s e = refl
no_more hs (suc n) s e = ap (λ x. behind hs (nest_in (nest_of n) s x)) e

pub stops : (hs : List LoopHead) (s : Stmt) → behind hs ([], s) ≡ (hs, s)
stops hs s = ap (λ l. (l, s)) (append-nil hs)

-- ---- what a statement of each form is

pub out_block : (ss : List Stmt) → out-Stmt (stmt.Block ss) ≡ Stmt-F.Block ss
out_block ss = ap out-Stmt (sym (stmt.rolls-Block ss)) ∙ out-roll-Stmt (Stmt-F.Block ss)

pub out_counted : (h : LoopHead) (body : Stmt) → out-Stmt (stmt.Counted h body) ≡ Stmt-F.Counted h body
out_counted h body = ap out-Stmt (sym (stmt.rolls-Counted h body)) ∙ out-roll-Stmt (Stmt-F.Counted h body)

-- A block holds a counted loop where it holds nothing else.
head_of_block : (ss : List Stmt) → head_of (stmt.Block ss) ≡ counted_in (out-Stmt (single (stmt.Block ss) ss))
head_of_block ss = ap (λ o. counted_in (out-Stmt (unbraced_in (stmt.Block ss) o))) (out_block ss)

block_itself : (ss : List Stmt) → counted_in (out-Stmt (stmt.Block ss)) ≡ None
block_itself ss = ap counted_in (out_block ss)

pub one_in_block : (ss front : List Stmt) (x : Stmt) → ss ≡ front ++ x ∷ [] → front ≡ [] → head_of (stmt.Block ss) ≡ counted_in (out-Stmt x)
one_in_block ss front x e n =
    ap (λ l. head_of (stmt.Block l)) (e ∙ ap (λ l. l ++ x ∷ []) n) ∙ head_of_block (x ∷ [])

pub none_in_block : (ss : List Stmt) → ss ≡ [] → head_of (stmt.Block ss) ≡ None
none_in_block ss e = ap (λ l. head_of (stmt.Block l)) e ∙ (head_of_block [] ∙ block_itself [])

more_in_block : (front : List Stmt) (x : Stmt) → (front ≡ [] → ⊥) → head_of (stmt.Block (front ++ x ∷ [])) ≡ None
more_in_block [] x h = absurd (h refl)
more_in_block (a ∷ []) x h = head_of_block (a ∷ x ∷ []) ∙ block_itself (a ∷ x ∷ [])
more_in_block (a ∷ b ∷ rest) x h = head_of_block (a ∷ b ∷ (rest ++ x ∷ [])) ∙ block_itself (a ∷ b ∷ (rest ++ x ∷ []))

pub several_in_block : (ss front : List Stmt) (x : Stmt) → ss ≡ front ++ x ∷ [] → (front ≡ [] → ⊥) → head_of (stmt.Block ss) ≡ None
several_in_block ss front x e h = ap (λ l. head_of (stmt.Block l)) e ∙ more_in_block front x h

-- ---- one more loop of a nest

pub next_head : (hs : List LoopHead) (count i : ℕ) (s body : Stmt) (h : LoopHead) → i < count → head_of s ≡ Some (h, body) →
    behind hs (nest_of (count - i) s) ≡ behind (hs ++ h ∷ []) (nest_of (count - (i + 1)) body)
next_head hs count i s body h lt e =
    let k : count - i ≡ suc (count - (i + 1)) = omega arith in
    ap (λ n. behind hs (nest_of n s)) k ∙ one_more hs (count - (i + 1)) s body h e

none_there : {A : Type 0} (o : Option A) → is_some o ≡ false → o ≡ None
none_there None h = refl
none_there (Some x) h = cc

pub no_head : (hs : List LoopHead) (n : ℕ) (s : Stmt) → is_some (head_of s) ≡ false → behind hs (nest_of n s) ≡ (hs, s)
no_head hs n s e = no_more hs n s (none_there (head_of s) e) ∙ stops hs s

pub all_heads : (hs : List LoopHead) (count i : ℕ) (s : Stmt) → count ≤ i → behind hs (nest_of (count - i) s) ≡ (hs, s)
all_heads hs count i s le =
    let k : count - i ≡ 0 = omega arith in
    ap (λ n. behind hs (nest_of n s)) k ∙ stops hs s
