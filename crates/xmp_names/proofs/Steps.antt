-- One step of a loop over the parts of an expression.
use Rattle.std.proofs.Common.{false, true, Result, Ok, Err, IfOk, ◌≡◌, ◌∙◌, ◌<◌, ◌+◌, ℕ, suc, sym, ap, List, ◌∷◌, length, map, drop, drop-cons, get_or, add-one}
use Rattle.std.specs.Prelude.{MatchResult}
use Rattle.xmp_syntax.specs.declared.parts.Next.{Next}
use Rattle.xmp_syntax.specs.declared.parts.Link.{Link}
use Rattle.xmp_syntax.specs.declared.expression.Expr.{Expr}
use Rattle.xmp_names.specs.declared.names.Environment.{Environment}
use Rattle.xmp_names.specs.declared.operators.Operator.{Operator}
use Rattle.xmp_names.specs.declared.typed.Typed.{Typed}
use Rattle.xmp_names.specs.declared.typed.Parts.{Parts}
use Rattle.xmp_names.specs.Typing.{binary, operator_of}
use Rattle.xmp_names.specs.Expressions.{add, chain, each_next, expr_of, next_of, right_of}

pub unrolled : {A : Type 0} (xs : List A) (i : ℕ) (x : A) → i < length xs → x ≡ get_or xs i x → drop i xs ≡ x ∷ drop (i + 1) xs
unrolled xs i x h is = drop-cons xs i x h ∙ (ap (λ y. y ∷ drop (suc i) xs) (sym is) ∙ rw add-one)

pub chain_step : (env : Environment) (links : List (Link Expr)) (i : ℕ) (l : Link Expr) (so_far right next : Typed) →
    i < length links → l ≡ get_or links i l → right ≡ expr_of env l.right → next ≡ binary (operator_of l.operator.what) l.operator.at so_far right →
    chain so_far (map (right_of env) (drop i links)) ≡ chain next (map (right_of env) (drop (i + 1) links))
chain_step env links i l so_far right next h is r n =
    ap (λ ls. chain so_far (map (right_of env) ls)) (unrolled links i l h is)
    ∙ ap (λ x. chain x (map (right_of env) (drop (i + 1) links))) (ap (binary (operator_of l.operator.what) l.operator.at so_far) (sym r) ∙ sym n)

-- The same where the right operand is a result that may be none.
pub linked_step : {E : Type 0} (env : Environment) (links : List (Link Expr)) (i : ℕ) (l : Link Expr) (so_far : Typed) (right : Result Typed E) (next : Typed) (x : Expr) (o : Operator) →
    i < length links → l ≡ get_or links i l → x ≡ l.right → o ≡ operator_of l.operator.what → IfOk right (λ r. r ≡ expr_of env x) →
    MatchResult right (λ r. next ≡ binary o l.operator.at so_far r) (λ e. false ≡ true) →
    chain so_far (map (right_of env) (drop i links)) ≡ chain next (map (right_of env) (drop (i + 1) links))
linked_step env links i l so_far (Ok r) next x o h is at op e n =
    chain_step env links i l so_far r next h is (e ∙ ap (expr_of env) at) (n ∙ ap (λ p. binary p l.operator.at so_far r) op)
linked_step env links i l so_far (Err e) next x o h is at op d n = absurd (cc)

pub next_step : (env : Environment) (ns : List (Next Expr)) (i : ℕ) (n : Next Expr) (so_far next : Parts) (part : Typed) →
    i < length ns → n ≡ get_or ns i n → part ≡ expr_of env n.item → next ≡ add so_far part →
    each_next so_far (map (next_of env) (drop i ns)) ≡ each_next next (map (next_of env) (drop (i + 1) ns))
next_step env ns i n so_far next part h is p a =
    ap (λ ls. each_next so_far (map (next_of env) ls)) (unrolled ns i n h is)
    ∙ ap (λ x. each_next x (map (next_of env) (drop (i + 1) ns))) (ap (add so_far) (sym p) ∙ sym a)
