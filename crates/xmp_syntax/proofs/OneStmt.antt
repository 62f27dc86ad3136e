-- Statements that fit and have the same kinds of tokens have one shape; with the same tokens they are equal.
use Rattle.std.proofs.Common.{◌≡◌, ℕ, ◌+◌, ◌*◌, true, false, List, [], ◌∷◌, length, refl, sym, ap, ◌∙◌, subst, arith}
use Rattle.std.specs.Prelude.{Option, None, Some, codes}
use Rattle.xmp_base.specs.declared.place.Place.{Place}
use Rattle.xmp_lex.specs.declared.token.Token.{Token}
use Rattle.xmp_lex.specs.declared.token.TokenKind.{TokenKind}
use Rattle.xmp_lex.specs.declared.token.TokenKind.TheVariants as t
use Rattle.xmp_lex.specs.declared.token.Mark.{Mark}
use Rattle.xmp_lex.specs.declared.token.Mark.TheVariants as m
use Rattle.xmp_lex.specs.declared.token.Reserved.TheVariants as w
use Rattle.xmp_syntax.specs.declared.parts.Name.{Name}
use Rattle.xmp_syntax.specs.declared.parts.Inside.{Inside}
use Rattle.xmp_syntax.specs.declared.parts.Reference.{Reference}
use Rattle.xmp_syntax.specs.declared.parts.CommaList.{CommaList}
use Rattle.xmp_syntax.specs.declared.expression.Expr as made
use Rattle.xmp_syntax.specs.declared.directive.Reduction.{Reduction}
use Rattle.xmp_syntax.specs.declared.directive.ReductionOperator.{ReductionOperator}
use Rattle.xmp_syntax.specs.declared.directive.ReductionOperator.TheVariants as ro
use Rattle.xmp_syntax.specs.declared.directive.LoopLine.{LoopLine}
use Rattle.xmp_syntax.specs.declared.directive.TaskLine.{TaskLine}
use Rattle.xmp_syntax.specs.declared.statement.Simple.{Simple}
use Rattle.xmp_syntax.specs.declared.statement.Simple.TheVariants as si
use Rattle.xmp_syntax.specs.declared.statement.ForFirst.{ForFirst}
use Rattle.xmp_syntax.specs.declared.statement.ForFirst.TheVariants as ff
use Rattle.xmp_syntax.specs.declared.statement.ForHead.{ForHead}
use Rattle.xmp_syntax.specs.Grammar.{is_mark, is_spelled, is_step_mark}
use Rattle.xmp_syntax.specs.View.{expr_view, ref_view, call_view, arguments_view}
use Rattle.xmp_syntax.specs.Spell.{◌at◌, spell, spell_ref, spell_arguments, each, several, expr, names, name, optional, in_parens, point, reduction, reduction_operator, loop_line, task_line, spell_simple, for_first, for_head}
use Rattle.xmp_syntax.specs.Fits.{FitsRef, FitsExpr, If, FitsPoint, FitsSet, FitsLoopLine, FitsSimple, FitsFirst, FitsHead}
use Rattle.xmp_syntax.specs.Shape as sh
use Rattle.xmp_syntax.specs.Shape.{Shapes, token, ◌▸◌, shape, ref_shape, kinds}
use Rattle.xmp_syntax.proofs.Done.{Not}
use Rattle.xmp_syntax.proofs.TokenFacts.{starts, Ends}
use Rattle.xmp_syntax.proofs.Lines.{EndsPlain}
use Rattle.xmp_syntax.proofs.Statements.{assign_ends, step_ends, ends_plain, no_call}
use Rattle.xmp_syntax.proofs.OneExpr.{same_full, same_ref, no_first, first_kind}
use Rattle.xmp_syntax.proofs.Backward.{reference_is, call_view_is}
use Rattle.xmp_syntax.proofs.OneTokens.{apart, name_is, more_is, inside_is, triple_is, mark_is, line_is, reduction_is, loop_is, task_is, head_is}
use Rattle.xmp_syntax.proofs.OneLine.{Alike, AlikeTo, same_expr, same_names}
use Rattle.xmp_syntax.proofs.OneDirective.{same_set, same_points, first_of}

-- Reductions and the line of a loop.
abbrev operator_class : TokenKind → ℕ
operator_class (t.Mark x) = 0
operator_class k = elim (is_spelled (codes "max") k) [ true ↦ 1 | false ↦ 2 ]

same_operator : (x y : ReductionOperator) (r s : List Token) → kinds (reduction_operator x r) ≡ kinds (reduction_operator y s) → Alike reduction_operator sh.reduction_operator x y r s
same_operator (ro.Mark x) (ro.Mark y) r s e = let k : t.Mark x.what ≡ t.Mark y.what = cc in (λ q. ap (λ z. token z ▸ q) k, cc, λ h. let t = apart h in (ap ro.Mark (mark_is x y t.0 t.1), t.2))
same_operator (ro.Max x) (ro.Max y) r s e = (λ q. refl, cc, λ h. let t = apart h in (ap ro.Max t.1, t.2))
same_operator (ro.Min x) (ro.Min y) r s e = (λ q. refl, cc, λ h. let t = apart h in (ap ro.Min t.1, t.2))
same_operator _ _ r s e = let z = ap (λ (ks : List TokenKind). operator_class (first_of ks)) e in absurd (omega arith)

same_reductions : (xs ys : List Reduction) (r s : List Token) → Not (is_spelled (codes "reduction")) r → Not (is_spelled (codes "reduction")) s → kinds (each reduction xs r) ≡ kinds (each reduction ys s) → Alike (each reduction) (sh.each sh.reduction) xs ys r s
same_reductions [] [] r s n k e = (λ q. refl, e, λ h. (refl, h))
same_reductions [] (y ∷ ys) r s n k e = absurd (no_first (is_spelled (codes "reduction")) (t.Name (codes "reduction")) r _ refl n e)
same_reductions (x ∷ xs) [] r s n k e = absurd (no_first (is_spelled (codes "reduction")) (t.Name (codes "reduction")) s _ refl k (sym e))
same_reductions (x ∷ xs) (y ∷ ys) r s n k e =
    let u : List Token = t.Mark m.CloseParen at x.list.close ∷ each reduction xs r in
    let v : List Token = t.Mark m.CloseParen at y.list.close ∷ each reduction ys s in
    let a = same_operator x.list.item.0 y.list.item.0 (t.Mark m.Colon at x.list.item.1 ∷ names x.list.item.2 u) (t.Mark m.Colon at y.list.item.1 ∷ names y.list.item.2 v) (cc) in
    let b = same_names x.list.item.2 y.list.item.2 u v refl refl (let z = a.1 in cc) in
    let c = same_reductions xs ys r s n k (let z = b.1 in cc) in (
      λ q. let rest : Shapes = token (t.Mark m.CloseParen) ▸ sh.each sh.reduction xs q in
          ap (λ z. token (t.Name (codes "reduction")) ▸ token (t.Mark m.OpenParen) ▸ z)
          (a.0 (token (t.Mark m.Colon) ▸ sh.names x.list.item.2 rest) ∙ ap (λ z. sh.reduction_operator y.list.item.0 (token (t.Mark m.Colon) ▸ z))
          (b.0 rest ∙ ap (λ z. sh.names y.list.item.2 (token (t.Mark m.CloseParen) ▸ z)) (c.0 q))),
      c.1,
      λ h. let t = apart h in let o = apart t.2 in let g = a.2 o.2 in let i = apart g.1 in let j = b.2 i.2 in let l = apart j.1 in let z = c.2 l.2 in
          (more_is (reduction_is x y t.1 (inside_is x.list y.list o.1 (triple_is x.list.item y.list.item g.0 i.1 j.0) l.1)) z.0, z.1),
    )

same_loop_names : (x y : Option (Inside (CommaList Name))) (a b : Place) (r s : List Token) → kinds (optional (in_parens names) x (t.Name (codes "on") at a ∷ r)) ≡ kinds (optional (in_parens names) y (t.Name (codes "on") at b ∷ s))
    → AlikeTo (t.Name (codes "on")) (optional (in_parens names)) (sh.optional (sh.in_parens sh.names)) x y a b r s
same_loop_names None None a b r s e = (λ q. refl, cc, λ h. let t = apart h in (refl, t.1, t.2))
same_loop_names None (Some y) a b r s e = cc
same_loop_names (Some x) None a b r s e = cc
same_loop_names (Some x) (Some y) a b r s e =
    let w = same_names x.item y.item (t.Mark m.CloseParen at x.close ∷ t.Name (codes "on") at a ∷ r) (t.Mark m.CloseParen at y.close ∷ t.Name (codes "on") at b ∷ s) refl refl (cc) in (
      λ q. ap (λ z. token (t.Mark m.OpenParen) ▸ z) (w.0 (token (t.Mark m.CloseParen) ▸ q)),
      (let k = w.1 in cc),
      λ h. let t = apart h in let g = w.2 t.2 in let i = apart g.1 in let j = apart i.2 in (ap Some (inside_is x y t.1 g.0 i.1), j.1, j.2),
    )

reduction_first : (xs : List Reduction) (r : List Token) → Not (is_mark m.OpenBracket) r → Not (is_mark m.OpenBracket) (each reduction xs r)
reduction_first [] r h = h
reduction_first (x ∷ xs) r h = refl

paren_free : (xs : List Reduction) (r : List Token) → Not (is_mark m.OpenParen) r → Not (is_mark m.OpenParen) (each reduction xs r)
paren_free [] r h = h
paren_free (x ∷ xs) r h = refl

pub same_loop : (x y : LoopLine) → FitsLoopLine x → FitsLoopLine y → (r s : List Token) → kinds (loop_line x r) ≡ kinds (loop_line y s) → Alike loop_line sh.loop_line x y r s
same_loop x y F G r s e =
    let r1 : List Token = each reduction x.reductions (t.Close at x.line.end ∷ r) in
    let s1 : List Token = each reduction y.reductions (t.Close at y.line.end ∷ s) in
    let a = same_loop_names x.names y.names x.on y.on (name x.template (several point point x.points r1)) (name y.template (several point point y.points s1)) (cc) in
    let k : t.Name x.template.text ≡ t.Name y.template.text = (let z = a.1 in cc) in
    let b = same_points x.points y.points F.0 G.0 r1 s1 (paren_free x.reductions (t.Close at x.line.end ∷ r) refl) (reduction_first x.reductions (t.Close at x.line.end ∷ r) refl)
    (paren_free y.reductions (t.Close at y.line.end ∷ s) refl) (reduction_first y.reductions (t.Close at y.line.end ∷ s) refl) (let z = a.1 in cc) in
    let c = same_reductions x.reductions y.reductions (t.Close at x.line.end ∷ r) (t.Close at y.line.end ∷ s) refl refl b.1 in (
      λ q. let end : Shapes = token t.Close ▸ q in
          ap (λ z. token t.Pragma ▸ token (t.Name (codes "loop")) ▸ z)
          (a.0 (token (t.Name (codes "on")) ▸ sh.name x.template (sh.several sh.point sh.point x.points (sh.each sh.reduction x.reductions end)))
          ∙ ap (λ z. sh.optional (sh.in_parens sh.names) y.names (token (t.Name (codes "on")) ▸ z))
          (ap (λ z. token z ▸ sh.several sh.point sh.point x.points (sh.each sh.reduction x.reductions end)) k
          ∙ ap (λ z. token (t.Name y.template.text) ▸ z) (b.0 (sh.each sh.reduction x.reductions end) ∙ ap (sh.several sh.point sh.point y.points) (c.0 end)))),
      (let z = c.1 in cc),
      λ h. let t = apart h in let i = apart t.2 in let g = a.2 i.2 in let n = apart g.2 in let u = b.2 n.2 in let v = c.2 u.1 in let l = apart v.1 in
          (loop_is x y (line_is x.line y.line t.1 i.1 l.1) g.0 g.1 (name_is x.template y.template n.0 n.1) u.0 v.0, l.2),
    )

pub same_task_line : (x y : TaskLine) → FitsSet x.set → FitsSet y.set → (r s : List Token) → kinds (task_line x r) ≡ kinds (task_line y s) → Alike task_line sh.task_line x y r s
same_task_line x y F G r s e =
    let a = same_set x.set y.set F G (t.Close at x.line.end ∷ r) (t.Close at y.line.end ∷ s) refl refl refl refl (cc) in (
      λ q. ap (λ z. token t.Pragma ▸ token (t.Name (codes "task")) ▸ token (t.Name (codes "on")) ▸ z) (a.0 (token t.Close ▸ q)),
      (let z = a.1 in cc),
      λ h. let t = apart h in let i = apart t.2 in let o = apart i.2 in let g = a.2 o.2 in let l = apart g.1 in (task_is x y (line_is x.line y.line t.1 i.1 l.1) o.1 g.0, l.2),
    )

pub tail_of : {a b : TokenKind} {ks js : List TokenKind} → a ∷ ks ≡ b ∷ js → ks ≡ js
tail_of e = cc

-- Simple statements.
pub same_reference : (x y : Reference made.Expr) → FitsRef (ref_view x) → FitsRef (ref_view y) → (r s : List Token) → Ends 0 false r → Ends 0 false s → kinds (spell_ref (ref_view x) r) ≡ kinds (spell_ref (ref_view y) s)
    → ((q : Shapes) → ref_shape (ref_view x) q ≡ ref_shape (ref_view y) q) × (kinds r ≡ kinds s) × (spell_ref (ref_view x) r ≡ spell_ref (ref_view y) s → (x ≡ y) × (r ≡ s))
same_reference x y F G r s en em e =
    let w = same_ref (16 * length (spell_ref (ref_view x) r)) false (ref_view x) (ref_view y) r s (omega arith) F G en em e in (w.0, w.1, λ h. let g = w.2 h in (reference_is x y g.0, g.1))

step_no_assign : (o k : Mark) → is_step_mark o ≡ false → is_step_mark k ≡ true → t.Mark o ≡ t.Mark k → ⊥
step_no_assign o k h g e = let q : o ≡ k = cc in let z : is_step_mark o ≡ is_step_mark k = ap is_step_mark q in cc

pub same_simple : (x y : Simple) → FitsSimple x → FitsSimple y → (r s : List Token) → EndsPlain r → EndsPlain s → kinds (spell_simple x r) ≡ kinds (spell_simple y s) → Alike spell_simple sh.simple_shape x y r s
same_simple (si.Assign x o e) (si.Assign y k f) F G r s en em z =
    let h = assign_ends o.what F.1 in
    let j = assign_ends k.what G.1 in
    let a = same_reference x y F.0 G.0 (t.Mark o.what at o.at ∷ expr e r) (t.Mark k.what at k.at ∷ expr f s) (h.0, h.1, h.2, h.3) (j.0, j.1, j.2, j.3) z in
    let i : t.Mark o.what ≡ t.Mark k.what = (let v = a.1 in cc) in
    let b = same_expr e f F.2 G.2 r s en em (let v = a.1 in cc) in (
      λ q. a.0 (token (t.Mark o.what) ▸ sh.expr e q) ∙ ap (λ v. ref_shape (ref_view y) (token v ▸ sh.expr e q)) i ∙ ap (λ v. ref_shape (ref_view y) (token (t.Mark k.what) ▸ v)) (b.0 q),
      b.1,
      λ h. let g = a.2 h in let t = apart g.1 in let j = b.2 t.2 in (ap (λ v. si.Assign v o e) g.0 ∙ ap (λ v. si.Assign y v e) (mark_is o k t.0 t.1) ∙ ap (si.Assign y k) j.0, j.1),
    )
same_simple (si.Postfix x o) (si.Postfix y k) F G r s en em z =
    let a = same_reference x y F.0 G.0 (t.Mark o.what at o.at ∷ r) (t.Mark k.what at k.at ∷ s) (step_ends o.what F.1) (step_ends k.what G.1) z in
    let i : t.Mark o.what ≡ t.Mark k.what = (let v = a.1 in cc) in (
      λ q. a.0 (token (t.Mark o.what) ▸ q) ∙ ap (λ v. ref_shape (ref_view y) (token v ▸ q)) i,
      (let v = a.1 in cc),
      λ h. let g = a.2 h in let t = apart g.1 in (ap (λ v. si.Postfix v o) g.0 ∙ ap (si.Postfix y) (mark_is o k t.0 t.1), t.2),
    )
same_simple (si.Prefix o x) (si.Prefix k y) F G r s en em z =
    let i : t.Mark o.what ≡ t.Mark k.what = cc in
    let a = same_reference x y F.1 G.1 r s (ends_plain r en) (ends_plain s em) (cc) in (
      λ q. ap (λ v. token v ▸ ref_shape (ref_view x) q) i ∙ ap (λ v. token (t.Mark k.what) ▸ v) (a.0 q),
      a.1,
      λ h. let t = apart h in let g = a.2 t.2 in (ap (λ v. si.Prefix v x) (mark_is o k t.0 t.1) ∙ ap (si.Prefix k) g.0, g.1),
    )
same_simple (si.Call x) (si.Call y) F G r s en em z =
    let a = same_full (16 * length (spell (call_view x) r) + 12) false (call_view x) (call_view y) r s (omega arith) F G en em z in
    (λ q. ap (λ v. v ▸ q) a.0, a.1, λ h. let g = a.2 h in (ap si.Call (call_view_is x y g.0), g.1))
same_simple (si.Assign x o e) (si.Postfix y k) F G r s en em z =
    let h = assign_ends o.what F.1 in
    let a = same_reference x y F.0 G.0 (t.Mark o.what at o.at ∷ expr e r) (t.Mark k.what at k.at ∷ s) (h.0, h.1, h.2, h.3) (step_ends k.what G.1) z in
    absurd (step_no_assign o.what k.what h.4 G.1 (let v = a.1 in cc))
same_simple (si.Postfix y k) (si.Assign x o e) F G r s en em z =
    let h = assign_ends o.what G.1 in
    let a = same_reference y x F.0 G.0 (t.Mark k.what at k.at ∷ r) (t.Mark o.what at o.at ∷ expr e s) (step_ends k.what F.1) (h.0, h.1, h.2, h.3) z in
    absurd (step_no_assign o.what k.what h.4 F.1 (let v = a.1 in let i : t.Mark k.what ≡ t.Mark o.what = cc in sym i))
same_simple (si.Assign x o e) (si.Call y) F G r s en em z =
    let h = assign_ends o.what F.1 in
    let u : List Token = t.Mark o.what at o.at ∷ expr e r in
    absurd (no_first (is_mark m.OpenParen) (t.Mark m.OpenParen) _ (kinds (spell_arguments (arguments_view y.arguments.item) (t.Mark m.CloseParen at y.arguments.close ∷ s))) refl (no_call x u (h.0, h.1, h.2, h.3)) (tail_of z))
same_simple (si.Postfix x o) (si.Call y) F G r s en em z =
    absurd (no_first (is_mark m.OpenParen) (t.Mark m.OpenParen) _ (kinds (spell_arguments (arguments_view y.arguments.item) (t.Mark m.CloseParen at y.arguments.close ∷ s))) refl (no_call x (t.Mark o.what at o.at ∷ r) (step_ends o.what F.1)) (tail_of z))
same_simple (si.Call y) (si.Assign x o e) F G r s en em z =
    let h = assign_ends o.what G.1 in
    let u : List Token = t.Mark o.what at o.at ∷ expr e s in
    absurd (no_first (is_mark m.OpenParen) (t.Mark m.OpenParen) _ (kinds (spell_arguments (arguments_view y.arguments.item) (t.Mark m.CloseParen at y.arguments.close ∷ r))) refl (no_call x u (h.0, h.1, h.2, h.3)) (sym (tail_of z)))
same_simple (si.Call y) (si.Postfix x o) F G r s en em z =
    absurd (no_first (is_mark m.OpenParen) (t.Mark m.OpenParen) _ (kinds (spell_arguments (arguments_view y.arguments.item) (t.Mark m.CloseParen at y.arguments.close ∷ r))) refl (no_call x (t.Mark o.what at o.at ∷ s) (step_ends o.what G.1)) (sym (tail_of z)))
same_simple _ _ F G r s en em z = cc

-- The parts of a for.
same_for_first : (x y : Option ForFirst) → If FitsFirst x → If FitsFirst y → (a b : Place) (r s : List Token) → kinds (optional for_first x (t.Mark m.Semicolon at a ∷ r)) ≡ kinds (optional for_first y (t.Mark m.Semicolon at b ∷ s)) → AlikeTo (t.Mark m.Semicolon) (optional for_first) (sh.optional sh.for_first) x y a b r s
same_for_first None None F G a b r s e = (λ q. refl, cc, λ h. let t = apart h in (refl, t.1, t.2))
same_for_first (Some (ff.Assign x p v)) (Some (ff.Assign y p' u)) F G a b r s e =
    let c = same_reference x y F.0 G.0 (t.Mark m.Assign at p ∷ expr v (t.Mark m.Semicolon at a ∷ r)) (t.Mark m.Assign at p' ∷ expr u (t.Mark m.Semicolon at b ∷ s)) (refl, refl, refl, refl) (refl, refl, refl, refl) e in
    let d = same_expr v u F.1 G.1 (t.Mark m.Semicolon at a ∷ r) (t.Mark m.Semicolon at b ∷ s) ((refl, refl, refl, refl), refl) ((refl, refl, refl, refl), refl) (let z = c.1 in cc) in (
      λ q. c.0 (token (t.Mark m.Assign) ▸ sh.expr v q) ∙ ap (λ z. ref_shape (ref_view y) (token (t.Mark m.Assign) ▸ z)) (d.0 q),
      (let z = d.1 in cc),
      λ h. let g = c.2 h in let t = apart g.1 in let j = d.2 t.2 in let l = apart j.1 in
          (ap Some (ap (λ z. ff.Assign z p v) g.0 ∙ ap (λ z. ff.Assign y z v) t.1 ∙ ap (ff.Assign y p') j.0), l.1, l.2),
    )
same_for_first (Some (ff.Declare i n p v)) (Some (ff.Declare i' n' p' u)) F G a b r s e =
    let k : t.Name n.text ≡ t.Name n'.text = cc in
    let d = same_expr v u F G (t.Mark m.Semicolon at a ∷ r) (t.Mark m.Semicolon at b ∷ s) ((refl, refl, refl, refl), refl) ((refl, refl, refl, refl), refl) (cc) in (
      λ q. ap (λ z. token (t.Word w.Int) ▸ token z ▸ token (t.Mark m.Assign) ▸ sh.expr v q) k ∙ ap (λ z. token (t.Word w.Int) ▸ token (t.Name n'.text) ▸ token (t.Mark m.Assign) ▸ z) (d.0 q),
      (let z = d.1 in cc),
      λ h. let t = apart h in let o = apart t.2 in let g = apart o.2 in let j = d.2 g.2 in let l = apart j.1 in
          (ap Some (ap (λ z. ff.Declare z n p v) t.1 ∙ ap (λ z. ff.Declare i' z p v) (name_is n n' o.0 o.1) ∙ ap (λ z. ff.Declare i' n' z v) g.1 ∙ ap (ff.Declare i' n' p') j.0), l.1, l.2),
    )
same_for_first None (Some (ff.Assign y p' u)) F G a b r s e = cc
same_for_first None (Some (ff.Declare i n p v)) F G a b r s e = cc
same_for_first (Some (ff.Assign y p' u)) None F G a b r s e = cc
same_for_first (Some (ff.Declare i n p v)) None F G a b r s e = cc
same_for_first (Some (ff.Assign y p' u)) (Some (ff.Declare i n p v)) F G a b r s e = cc
same_for_first (Some (ff.Declare i n p v)) (Some (ff.Assign y p' u)) F G a b r s e = cc

no_end_first : (x : Mark) (e : made.Expr) → FitsExpr e → starts (t.Mark x) ≡ false → (r : List Token) (ks : List TokenKind) → kinds (expr e r) ≡ t.Mark x ∷ ks → ⊥
no_end_first x e F n r ks h = let k : starts (t.Mark x) ≡ true = first_kind (expr_view e) F r (t.Mark x) ks h in cc

pub same_test : (x y : Option made.Expr) → If FitsExpr x → If FitsExpr y → (a b : Place) (r s : List Token) → kinds (optional expr x (t.Mark m.Semicolon at a ∷ r)) ≡ kinds (optional expr y (t.Mark m.Semicolon at b ∷ s)) → AlikeTo (t.Mark m.Semicolon) (optional expr) (sh.optional sh.expr) x y a b r s
same_test None None F G a b r s e = (λ q. refl, cc, λ h. let t = apart h in (refl, t.1, t.2))
same_test None (Some y) F G a b r s e = absurd (no_end_first m.Semicolon y G refl (t.Mark m.Semicolon at b ∷ s) (kinds r) (sym e))
same_test (Some x) None F G a b r s e = absurd (no_end_first m.Semicolon x F refl (t.Mark m.Semicolon at a ∷ r) (kinds s) e)
same_test (Some x) (Some y) F G a b r s e =
    let d = same_expr x y F G (t.Mark m.Semicolon at a ∷ r) (t.Mark m.Semicolon at b ∷ s) ((refl, refl, refl, refl), refl) ((refl, refl, refl, refl), refl) e in
    (d.0, (let z = d.1 in cc), λ h. let g = d.2 h in let t = apart g.1 in (ap Some g.0, t.1, t.2))

step_no_close : (k : Mark) → is_step_mark k ≡ true → t.Mark k ≡ t.Mark m.CloseParen → ⊥
step_no_close k h e = let q : k ≡ m.CloseParen = cc in let z : is_step_mark m.CloseParen ≡ true = subst (λ (v : Mark). is_step_mark v ≡ true) q h in cc

same_next : (x y : Option Simple) → If FitsSimple x → If FitsSimple y → (a b : Place) (r s : List Token) → kinds (optional spell_simple x (t.Mark m.CloseParen at a ∷ r)) ≡ kinds (optional spell_simple y (t.Mark m.CloseParen at b ∷ s)) → AlikeTo (t.Mark m.CloseParen) (optional spell_simple) (sh.optional sh.simple_shape) x y a b r s
same_next None None F G a b r s e = (λ q. refl, cc, λ h. let t = apart h in (refl, t.1, t.2))
same_next (Some x) (Some y) F G a b r s e =
    let d = same_simple x y F G (t.Mark m.CloseParen at a ∷ r) (t.Mark m.CloseParen at b ∷ s) ((refl, refl, refl, refl), refl) ((refl, refl, refl, refl), refl) e in
    (d.0, (let z = d.1 in cc), λ h. let g = d.2 h in let t = apart g.1 in (ap Some g.0, t.1, t.2))
same_next None (Some (si.Prefix o x)) F G a b r s e = absurd (step_no_close o.what G.0 (let k : t.Mark m.CloseParen ≡ t.Mark o.what = cc in sym k))
same_next (Some (si.Prefix o x)) None F G a b r s e = absurd (step_no_close o.what F.0 (cc))
same_next None (Some (si.Assign x o v)) F G a b r s e = cc
same_next None (Some (si.Postfix x o)) F G a b r s e = cc
same_next None (Some (si.Call x)) F G a b r s e = cc
same_next (Some (si.Assign x o v)) None F G a b r s e = cc
same_next (Some (si.Postfix x o)) None F G a b r s e = cc
same_next (Some (si.Call x)) None F G a b r s e = cc

pub same_head : (x y : ForHead) → FitsHead x → FitsHead y → (r s : List Token) → kinds (for_head x r) ≡ kinds (for_head y s) → Alike for_head sh.for_head x y r s
same_head x y F G r s e =
    let r3 : List Token = optional spell_simple x.next (t.Mark m.CloseParen at x.close ∷ r) in
    let s3 : List Token = optional spell_simple y.next (t.Mark m.CloseParen at y.close ∷ s) in
    let r2 : List Token = optional expr x.test (t.Mark m.Semicolon at x.test_end ∷ r3) in
    let s2 : List Token = optional expr y.test (t.Mark m.Semicolon at y.test_end ∷ s3) in
    let a = same_for_first x.first y.first F.0 G.0 x.first_end y.first_end r2 s2 (cc) in
    let b = same_test x.test y.test F.1 G.1 x.test_end y.test_end r3 s3 a.1 in
    let c = same_next x.next y.next F.2 G.2 x.close y.close r s b.1 in (
      λ q. let q3 : Shapes = sh.optional sh.simple_shape x.next (token (t.Mark m.CloseParen) ▸ q) in
          ap (λ z. token (t.Word w.For) ▸ token (t.Mark m.OpenParen) ▸ z)
          (a.0 (token (t.Mark m.Semicolon) ▸ sh.optional sh.expr x.test (token (t.Mark m.Semicolon) ▸ q3))
          ∙ ap (λ z. sh.optional sh.for_first y.first (token (t.Mark m.Semicolon) ▸ z)) (b.0 (token (t.Mark m.Semicolon) ▸ q3)
          ∙ ap (λ z. sh.optional sh.expr y.test (token (t.Mark m.Semicolon) ▸ z)) (c.0 (token (t.Mark m.CloseParen) ▸ q)))),
      c.1,
      λ h. let t = apart h in let o = apart t.2 in let g = a.2 o.2 in let i = b.2 g.2 in let j = c.2 i.2 in (head_is x y t.1 o.1 g.0 g.1 i.0 i.1 j.0 j.1, j.2),
    )
