-- Blocks, and statements with statements inside, that fit are read.
use Rattle.std.proofs.Common.{◌≡◌, ◌≤◌, ◌<◌, ℕ, zero, suc, Bool, true, false, ◌&&◌, ◌==◌, nat_le, List, [], ◌∷◌, refl, sym, ap, ◌∙◌, subst, arith}
use Rattle.std.specs.Prelude.{not, ⊤, Option, None, Some, codes}
use Rattle.xmp_base.specs.declared.place.Place.{Place}
use Rattle.xmp_lex.specs.declared.token.Token.{Token}
use Rattle.xmp_lex.specs.declared.token.TokenKind.TheVariants as t
use Rattle.xmp_lex.specs.declared.token.Mark.{Mark}
use Rattle.xmp_lex.specs.declared.token.Mark.TheVariants as m
use Rattle.xmp_lex.specs.declared.token.Reserved.TheVariants as w
use Rattle.xmp_syntax.specs.declared.parts.Name.{Name}
use Rattle.xmp_syntax.specs.declared.parts.Inside.{Inside}
use Rattle.xmp_syntax.specs.declared.parts.Placed.{Placed}
use Rattle.xmp_syntax.specs.declared.parts.Format.{Format}
use Rattle.xmp_syntax.specs.declared.parts.Next as after
use Rattle.xmp_syntax.specs.declared.directive.Sections.{Sections}
use Rattle.xmp_syntax.specs.declared.directive.NodesSet.{NodesSet}
use Rattle.xmp_syntax.specs.declared.directive.Reduction.{Reduction}
use Rattle.xmp_syntax.specs.declared.parts.Reference.{Reference}
use Rattle.xmp_syntax.specs.declared.parts.TypeWords.TheVariants as tw
use Rattle.xmp_syntax.specs.declared.parts.TypeWords.{TypeWords}
use Rattle.xmp_syntax.specs.declared.parts.CommaList.{CommaList}
use Rattle.xmp_syntax.specs.declared.expression.Expr as made
use Rattle.xmp_syntax.specs.declared.declaration.Declaration.{Declaration}
use Rattle.xmp_syntax.specs.declared.directive.DirectiveLine.{DirectiveLine}
use Rattle.xmp_syntax.specs.declared.directive.LoopLine.{LoopLine}
use Rattle.xmp_syntax.specs.declared.directive.TaskLine.{TaskLine}
use Rattle.xmp_syntax.specs.declared.directive.Mapping.{Mapping}
use Rattle.xmp_syntax.specs.declared.directive.Mapping.TheVariants as mp
use Rattle.xmp_syntax.specs.declared.statement.Simple.{Simple}
use Rattle.xmp_syntax.specs.declared.statement.Simple.TheVariants as si
use Rattle.xmp_syntax.specs.declared.statement.ForFirst.{ForFirst}
use Rattle.xmp_syntax.specs.declared.statement.ForFirst.TheVariants as ff
use Rattle.xmp_syntax.specs.declared.statement.ForHead.{ForHead}
use Rattle.xmp_syntax.specs.declared.statement.Plain.{Plain}
use Rattle.xmp_syntax.specs.declared.statement.Plain.TheVariants as pl
use Rattle.xmp_syntax.specs.Parts as p
use Rattle.xmp_syntax.specs.Reading.{Effect, plain, operator, separator, opening, closing, enter, leave, Rule, nothing, tok, mark, part, by, ◌·◌, choice, many, Depths}
use Rattle.xmp_syntax.specs.Grammar as g
use Rattle.xmp_syntax.specs.Grammar.{rule, is_mark, is_word, is_assign, is_assign_mark, is_step, is_step_mark, is_spelled, is_pragma, mark_code, mark_binds, statement_of, item_of}
use Rattle.xmp_syntax.specs.Trees as tr
use Rattle.std.proofs.lemmas.Bool.Decides.{nat_tests}
use Rattle.xmp_syntax.specs.Trees.{Stmt, BlockItems, Tasks, Ref, Subscripts, Image, no_more, subscript, no_image, image}
use Rattle.xmp_syntax.specs.View.{expr_view, ref_view, rest_view, call_view, subscripts_view, image_view, arguments_view}
use Rattle.xmp_syntax.specs.Spell.{◌at◌, spell, expr, each, dims, name, names, optional, spell_ref, spell_subscripts, spell_image, spell_simple, for_first, for_head, spell_plain, spell_stmt, spell_items, spell_tasks, spell_mapping, spell_declaration, in_parens, several, sections, section, nodes_set, reduction, loop_line, task_line, point, print_list, type_words}
use Rattle.xmp_syntax.specs.Fits.{Fits, FitsRef, FitsExpr, If, FitsSimple, FitsFirst, FitsHead, FitsPlain, FitsStmt, FitsItems, FitsTasks, FitsSet, FitsLoopLine, FitsRest, FitsSections, FitsDeclaration, FitsMapping, FitsSomeDims, FitsPoint, FitsReduction, Each, takes_else}
use Rattle.xmp_syntax.proofs.Done.{Next, fast, go, silent, by_part, Is, Not, choice_first, choice_second, many_stop, many_more, skip, take_token}
use Rattle.xmp_syntax.proofs.TokenFacts.{Ends, EndsExpr, ends_paren, not_true}
use Rattle.xmp_syntax.proofs.Exprs.{ExprReads, reads, subscripts_read, image_read, arguments_all, rest_reads, name_reads, name_reads_before, ref_first, not_first, in_parens_reads}
use Rattle.xmp_syntax.proofs.Lists.{NonEmpty, leave_reads, names_read, dims_read}
use Rattle.xmp_syntax.proofs.Statements.{Both, step_statement, simple_reads, reference_reads, reflect_reads, for_reads}
use Rattle.xmp_syntax.proofs.Lines.{expr_reads, EndsPlain, declaration_reads, mapping_item_reads, set_reads, sections_read, points_read, reductions_read}

-- the rest of each, once its kind is known
return_reads : (q : Place) (e : made.Expr) (z : Place) → FitsExpr e → (K : List Rule) (us : List Token) → Next K us
    → Next (rule p.return_statement ∷ K) (t.Word w.Return at q ∷ expr e (t.Mark m.Semicolon at z ∷ us))
return_reads q e z F K us n = fast 2 (λ E. go (silent 1 (λ E x xs. refl) ((expr_reads e F).all false (g.semicolon ∷ K) (t.Mark m.Semicolon at z ∷ us) ((refl, refl, refl, refl), refl) tt (fast 1 (λ E. go n)))))

statement_reads : (x : Simple) (z : Place) → FitsSimple x → (K : List Rule) (us : List Token) → Next K us
    → Next (rule p.simple_statement ∷ K) (spell_simple x (t.Mark m.Semicolon at z ∷ us))
statement_reads x z F K us n = silent 1 (λ E x xs. refl) (simple_reads x F (g.semicolon ∷ K) (t.Mark m.Semicolon at z ∷ us) ((refl, refl, refl, refl), refl) (fast 1 (λ E. go n)))

simple_both : (x : Simple) (z : Place) → FitsSimple x → (K : List Rule) (us : List Token) → Next K us → Both K (spell_simple x (t.Mark m.Semicolon at z ∷ us))
simple_both (si.Assign x op e) z F K us n = let h = statement_reads (si.Assign x op e) z F K us n in record { stmt = fast 2 (λ E. go h); item = fast 2 (λ E. go h) }
simple_both (si.Postfix x op) z F K us n = let h = statement_reads (si.Postfix x op) z F K us n in record { stmt = fast 2 (λ E. go h); item = fast 2 (λ E. go h) }
simple_both (si.Prefix op x) z F K us n =
    let h = statement_reads (si.Prefix op x) z F K us n in
    let s = step_statement op.what F.0 in
    record { stmt = fast 1 (λ E. go (by_part statement_of p.simple_statement K _ _ s.0 h)); item = fast 1 (λ E. go (by_part item_of p.simple_statement K _ _ s.1 h)) }
simple_both (si.Call x) z F K us n = let h = statement_reads (si.Call x) z F K us n in record { stmt = fast 2 (λ E. go h); item = fast 2 (λ E. go h) }

print_reads : (q : Place) (x : Inside (Format × List (after.Next made.Expr))) (z : Place) → FitsRest (rest_view x.item.1) → (K : List Rule) (us : List Token) → Next K us
    → Next (rule p.print_statement ∷ K) (t.Word w.Printf at q ∷ in_parens print_list x (t.Mark m.Semicolon at z ∷ us))
print_reads q x z F K us n = fast 8 (λ E. go (((rest_reads (rest_view x.item.1) F).all _ (t.Mark m.CloseParen at x.close ∷ t.Mark m.Semicolon at z ∷ us)
    ((refl, refl, refl, refl), refl) refl (fast 2 (λ E. go n))).1))

scan_reads : (q : Place) (x : Inside (Format × Place × Place × Reference made.Expr)) (z : Place) → FitsRef (ref_view x.item.3) → (K : List Rule) (us : List Token) → Next K us
    → Next (rule p.scan_statement ∷ K) (spell_plain (pl.Scan q x z) us)
scan_reads q x z F K us n = fast 12 (λ E. go (reference_reads x.item.3 F _ (t.Mark m.CloseParen at x.close ∷ t.Mark m.Semicolon at z ∷ us) (refl, refl, refl, refl) (fast 2 (λ E. go n))))

sync_reads : (q : Place) (x : Inside (Place × Reference made.Expr)) (z : Place) → FitsRef (ref_view x.item.1) → (K : List Rule) (us : List Token) → Next K us
    → Next (rule p.sync_statement ∷ K) (spell_plain (pl.Sync q x z) us)
sync_reads q x z F K us n = fast 8 (λ E. go (reference_reads x.item.1 F _ (t.Mark m.CloseParen at x.close ∷ t.Mark m.Semicolon at z ∷ us) (refl, refl, refl, refl) (fast 2 (λ E. go n))))

bcast_reads : (l : DirectiveLine) (ns : Inside (CommaList Name)) (q : Place) (x : NodesSet) → FitsSet x → (K : List Rule) (us : List Token) → Next K us
    → Next (rule p.bcast ∷ K) (t.Name (codes "bcast") at l.word ∷ in_parens names ns (t.Name (codes "from") at q ∷ nodes_set x (t.Close at l.end ∷ us)))
bcast_reads l ns q x F K us n = fast 5 (λ E. go (silent 1 (λ E x xs. refl) (names_read ns.item _ (t.Mark m.CloseParen at ns.close ∷ t.Name (codes "from") at q ∷ nodes_set x (t.Close at l.end ∷ us)) refl
    (fast 3 (λ E. go (silent 1 (λ E x xs. refl) (set_reads x F (g.line_end ∷ K) (t.Close at l.end ∷ us) refl refl (fast 1 (λ E. go n)))))))))

gmove_reads : (l : DirectiveLine) (a : Sections) (q : Place) (x : Sections) (z : Place) → FitsSections a → FitsSections x → (K : List Rule) (us : List Token) → Next K us
    → Next (rule p.gmove ∷ K) (t.Name (codes "gmove") at l.word ∷ t.Close at l.end ∷ sections a (t.Mark m.Assign at q ∷ sections x (t.Mark m.Semicolon at z ∷ us)))
gmove_reads l a q x z F G K us n = fast 4 (λ E. go (silent 1 (λ E x xs. refl) (sections_read a F _ (t.Mark m.Assign at q ∷ sections x (t.Mark m.Semicolon at z ∷ us)) refl
    (fast 2 (λ E. go (silent 1 (λ E x xs. refl) (sections_read x G (g.semicolon ∷ K) (t.Mark m.Semicolon at z ∷ us) refl (fast 1 (λ E. go n)))))))))

plain_reads : (x : Plain) → FitsPlain x → (K : List Rule) (us : List Token) → Next K us → Both K (spell_plain x us)
plain_reads (pl.Empty z) F K us n = record { stmt = fast 3 (λ E. go n); item = fast 3 (λ E. go n) }
plain_reads (pl.Simple x z) F K us n = simple_both x z F K us n
plain_reads (pl.Return q e z) F K us n = let h = return_reads q e z F K us n in record { stmt = fast 2 (λ E. go h); item = fast 2 (λ E. go h) }
plain_reads (pl.Print q x z) F K us n = let h = print_reads q x z F K us n in record { stmt = fast 2 (λ E. go h); item = fast 2 (λ E. go h) }
plain_reads (pl.Scan q x z) F K us n = let h = scan_reads q x z F K us n in record { stmt = fast 2 (λ E. go h); item = fast 2 (λ E. go h) }
plain_reads (pl.Sync q x z) F K us n = let h = sync_reads q x z F K us n in record { stmt = fast 2 (λ E. go h); item = fast 2 (λ E. go h) }
plain_reads (pl.Reflect l ns) F K us n = let h = reflect_reads l ns K us n in record { stmt = fast 5 (λ E. go h); item = fast 5 (λ E. go h) }
plain_reads (pl.Barrier l) F K us n = record { stmt = fast 8 (λ E. go n); item = fast 8 (λ E. go n) }
plain_reads (pl.Bcast l ns q x) F K us n = let h = bcast_reads l ns q x F K us n in record { stmt = fast 5 (λ E. go h); item = fast 5 (λ E. go h) }
plain_reads (pl.Gmove l a q x z) F K us n = let h = gmove_reads l a q x z F.0 F.1 K us n in record { stmt = fast 5 (λ E. go h); item = fast 5 (λ E. go h) }

-- What the first token of an item of a block is not: an else, or a closing brace.
abbrev pub Inner : List Token → Type 0
Inner ts = Not (is_word w.Else) ts × Is (λ k. not (is_mark m.CloseBrace k)) ts

simple_inner : (x : Simple) → FitsSimple x → (r : List Token) → Inner (spell_simple x r)
simple_inner (si.Assign x op e) F r = (refl, refl)
simple_inner (si.Postfix x op) F r = (refl, refl)
simple_inner (si.Prefix op x) F r = (refl, ap not (step_statement op.what F.0).3)
simple_inner (si.Call x) F r = (refl, refl)

pub plain_inner : (x : Plain) → FitsPlain x → (r : List Token) → Inner (spell_plain x r)
plain_inner (pl.Simple x z) F r = simple_inner x F (t.Mark m.Semicolon at z ∷ r)
plain_inner (pl.Empty z) F r = (refl, refl)
plain_inner (pl.Return q e z) F r = (refl, refl)
plain_inner (pl.Print q x z) F r = (refl, refl)
plain_inner (pl.Scan q x z) F r = (refl, refl)
plain_inner (pl.Sync q x z) F r = (refl, refl)
plain_inner (pl.Reflect l ns) F r = (refl, refl)
plain_inner (pl.Barrier l) F r = (refl, refl)
plain_inner (pl.Bcast l ns q x) F r = (refl, refl)
plain_inner (pl.Gmove l a q x z) F r = (refl, refl)

pub stmt_inner : (s : Stmt) → FitsStmt s → (r : List Token) → Inner (spell_stmt s r)
stmt_inner (tr.plain x) F r = plain_inner x F r
stmt_inner (tr.block o xs c) F r = (refl, refl)
stmt_inner (tr.if_then q e s) F r = (refl, refl)
stmt_inner (tr.if_else q e s z u) F r = (refl, refl)
stmt_inner (tr.while_do q e s) F r = (refl, refl)
stmt_inner (tr.for_do h s) F r = (refl, refl)
stmt_inner (tr.loop l h s) F r = (refl, refl)
stmt_inner (tr.task l s) F r = (refl, refl)
stmt_inner (tr.tasks l o xs c) F r = (refl, refl)

pub mapping_inner : (x : Mapping) (r : List Token) → Inner (spell_mapping x r)
mapping_inner (mp.Nodes l v ds) r = (refl, refl)
mapping_inner (mp.NodesStar l v x) r = (refl, refl)
mapping_inner (mp.NodesPart l v x q y) r = (refl, refl)
mapping_inner (mp.Template l v ds) r = (refl, refl)
mapping_inner (mp.Distribute l v fs q o) r = (refl, refl)
mapping_inner (mp.Align l v xs q o ps) r = (refl, refl)
mapping_inner (mp.Shadow l v ws) r = (refl, refl)

type_inner : (x : TypeWords) (r : List Token) → Inner (type_words x r)
type_inner (tw.Int q) r = (refl, refl)
type_inner (tw.Long q) r = (refl, refl)
type_inner (tw.LongInt q z) r = (refl, refl)

pub declaration_inner : (x : Declaration) (r : List Token) → Inner (spell_declaration x r)
declaration_inner x r = type_inner x.ty _

-- a declaration among the items of a block
declaration_item_reads : (x : Declaration) → FitsDeclaration x → (K : List Rule) (us : List Token) → Next K us → Next (part p.block_item ∷ K) (spell_declaration x us)
declaration_item_reads x F K us n = from_type x.ty _ (declaration_reads x F K us n)
  where
    from_type : (y : TypeWords) (r : List Token) → Next (rule p.declaration ∷ K) (type_words y r) → Next (part p.block_item ∷ K) (type_words y r)
    from_type (tw.Int q) r h = fast 2 (λ E. go h)
    from_type (tw.Long q) r h = fast 2 (λ E. go h)
    from_type (tw.LongInt q z) r h = fast 2 (λ E. go h)

-- What follows is no else that would belong to the statement.
abbrev pub Quiet : Bool → List Token → Type 0
Quiet b [] = ⊥
Quiet b (x ∷ us) = b && is_word w.Else x.kind ≡ false

pub quiet_some : (b : Bool) (us : List Token) → Quiet b us → NonEmpty us
quiet_some b [] h = h
quiet_some b (x ∷ us) h = tt

and_false : (b c : Bool) → c ≡ false → b && c ≡ false
and_false true c h = h
and_false false c h = refl

pub no_else_quiet : (b : Bool) (us : List Token) → Not (is_word w.Else) us → Quiet b us
no_else_quiet b [] h = h
no_else_quiet b (x ∷ us) h = and_false b (is_word w.Else x.kind) h

pub quiet_no_else : (us : List Token) → Quiet true us → Not (is_word w.Else) us
quiet_no_else [] h = h
quiet_no_else (x ∷ us) h = h

pub record StmtReads (s : Stmt) : Type 0 where
  pub all : (K : List Rule) (us : List Token) → Quiet (takes_else s) us → Next K us → Both K (spell_stmt s us)

-- the items of a block, and its closing brace
pub record ItemsRead (xs : BlockItems) : Type 0 where
  pub all : (K : List Rule) (c : Place) (us : List Token) → Next K us
      → Not (is_word w.Else) (spell_items xs (t.Mark m.CloseBrace at c ∷ us))
      × Next (many (λ k. not (is_mark m.CloseBrace k)) (part p.block_item) ∷ tok closing (is_mark m.CloseBrace) ∷ K) (spell_items xs (t.Mark m.CloseBrace at c ∷ us))

pub record TasksRead (xs : Tasks) : Type 0 where
  pub all : (K : List Rule) (c : Place) (us : List Token) → Next K us
      → Not (is_word w.Else) (spell_tasks xs (t.Mark m.CloseBrace at c ∷ us))
      × Next (many is_pragma (tok plain is_pragma · part p.task) ∷ tok closing (is_mark m.CloseBrace) ∷ K) (spell_tasks xs (t.Mark m.CloseBrace at c ∷ us))

-- a statement that is counted with what stands before it
counted_reads : (s : Stmt) → StmtReads s → (K : List Rule) (us : List Token) → Quiet (takes_else s) us → Next K us → Next (part p.statement ∷ mark leave ∷ K) (spell_stmt s us)
counted_reads s S K us q n = (S.all (mark leave ∷ K) us q (leave_reads K us (quiet_some (takes_else s) us q) n)).stmt

while_reads : (q : Place) (e : Inside made.Expr) (s : Stmt) → FitsExpr e.item → StmtReads s → StmtReads (tr.while_do q e s)
while_reads q e s F S = record {
  all = λ K us h n.
      let b = fast 8 (λ E. go (in_parens_reads (expr_view e.item) _ e.close (spell_stmt s us) (expr_reads e.item F) (counted_reads s S K us h n))) in
      both_two K us b;
}
  where
    both_two : (K : List Rule) (us : List Token) → Next (rule p.while_statement ∷ K) (spell_stmt (tr.while_do q e s) us) → Both K (spell_stmt (tr.while_do q e s) us)
    both_two K us b = record { stmt = fast 2 (λ E. go b); item = fast 2 (λ E. go b) }

if_reads : (q : Place) (e : Inside made.Expr) (s : Stmt) → FitsExpr e.item → StmtReads s → StmtReads (tr.if_then q e s)
if_reads q e s F S = record {
  all = λ K us h n.
      both_two K us (fast 9 (λ E. go (in_parens_reads (expr_view e.item) _ e.close (spell_stmt s us) (expr_reads e.item F)
      (counted_reads s S _ us (no_else_quiet (takes_else s) us (quiet_no_else us h)) (skip _ _ K us (quiet_no_else us h) n)))));
}
  where
    both_two : (K : List Rule) (us : List Token) → Next (rule p.if_statement ∷ K) (spell_stmt (tr.if_then q e s) us) → Both K (spell_stmt (tr.if_then q e s) us)
    both_two K us b = record { stmt = fast 2 (λ E. go b); item = fast 2 (λ E. go b) }

else_reads : (q : Place) (e : Inside made.Expr) (s : Stmt) (z : Place) (u : Stmt) → FitsExpr e.item → takes_else s ≡ false → StmtReads s → StmtReads u → StmtReads (tr.if_else q e s z u)
else_reads q e s z u F f S U = record {
  all = λ K us h n.
      both_two K us (fast 9 (λ E. go (in_parens_reads (expr_view e.item) _ e.close _ (expr_reads e.item F)
      (counted_reads s S _ (t.Word w.Else at z ∷ spell_stmt u us) (ap (λ b. b && true) f) (fast 6 (λ E. go (counted_reads u U K us h n)))))));
}
  where
    both_two : (K : List Rule) (us : List Token) → Next (rule p.if_statement ∷ K) (spell_stmt (tr.if_else q e s z u) us) → Both K (spell_stmt (tr.if_else q e s z u) us)
    both_two K us b = record { stmt = fast 2 (λ E. go b); item = fast 2 (λ E. go b) }

for_all : (h : ForHead) (s : Stmt) → FitsHead h → StmtReads s → StmtReads (tr.for_do h s)
for_all h s F S = record { all = λ K us q n. let b = for_reads h F K (spell_stmt s us) (counted_reads s S K us q n) in record { stmt = fast 2 (λ E. go b); item = fast 2 (λ E. go b) } }

-- the names of a loop directive
loop_names : (x : Option (Inside (CommaList Name))) (K : List Rule) (r : Rule) (q : Place) (v : Name) (us : List Token) → Next (r ∷ K) us
    → Next (g.optional (is_mark m.OpenParen) (g.parens (part p.names)) ∷ (g.spelled (codes "on") · g.name · r) ∷ K) (optional (in_parens names) x (t.Name (codes "on") at q ∷ name v us))
loop_names None K r q v us n = fast 6 (λ E. go n)
loop_names (Some x) K r q v us n = fast 3 (λ E. go (silent 1 (λ E x xs. refl) (names_read x.item _ (t.Mark m.CloseParen at x.close ∷ t.Name (codes "on") at q ∷ name v us) refl (fast 5 (λ E. go n)))))

loop_reads : (l : LoopLine) (h : ForHead) (s : Stmt) → FitsLoopLine l → FitsHead h → StmtReads s → StmtReads (tr.loop l h s)
loop_reads l h s F G S = record {
  all = λ K us q n.
      let c = counted_reads s S _ us q (leave_reads K us (quiet_some (takes_else s) us q) n) in
      let b = for_reads h G _ (spell_stmt s us) c in
      let r : List Token = t.Close at l.line.end ∷ for_head h (spell_stmt s us) in
      both_five K us (fast 5 (λ E. go (silent 1 (λ E x xs. refl) (loop_names l.names _ _ l.on l.template _ (silent 1 (λ E x xs. refl) (points_read l.points F.0 _ (each reduction l.reductions r) (first_reduction l.reductions r refl)
      (silent 1 (λ E x xs. refl) (reductions_read l.reductions F.1 _ r refl (fast 2 (λ E. go (silent 1 (λ E x xs. refl) b)))))))))));
}
  where
    first_reduction : (xs : List Reduction) (r : List Token) → Not (is_mark m.OpenBracket) r → Not (is_mark m.OpenBracket) (each reduction xs r)
    first_reduction [] r k = k
    first_reduction (x ∷ xs) r k = refl

    both_five : (K : List Rule) (us : List Token) → Next (rule p.loop ∷ K) (t.Name (codes "loop") at l.line.word ∷ optional (in_parens names) l.names (t.Name (codes "on") at l.on ∷ name l.template (several point point l.points (each reduction l.reductions (t.Close at l.line.end ∷ for_head h (spell_stmt s us)))))) → Both K (spell_stmt (tr.loop l h s) us)
    both_five K us b = record { stmt = fast 5 (λ E. go b); item = fast 5 (λ E. go b) }

-- a task directive, from its word on
task_rest : (l : TaskLine) (s : Stmt) → FitsSet l.set → StmtReads s → (K : List Rule) (us : List Token) → Quiet (takes_else s) us → Next K us
    → Next (rule p.task ∷ K) (t.Name (codes "task") at l.line.word ∷ t.Name (codes "on") at l.on ∷ nodes_set l.set (t.Close at l.line.end ∷ spell_stmt s us))
task_rest l s F S K us q n = fast 7 (λ E. go (silent 1 (λ E x xs. refl) (set_reads l.set F _ (t.Close at l.line.end ∷ spell_stmt s us) refl refl (fast 2 (λ E. go (counted_reads s S K us q n))))))

task_reads : (l : TaskLine) (s : Stmt) → FitsSet l.set → StmtReads s → StmtReads (tr.task l s)
task_reads l s F S = record { all = λ K us q n. let b = task_rest l s F S K us q n in record { stmt = fast 5 (λ E. go b); item = fast 5 (λ E. go b) } }

tasks_reads : (l : DirectiveLine) (o : Place) (xs : Tasks) (c : Place) → TasksRead xs → StmtReads (tr.tasks l o xs c)
tasks_reads l o xs c T = record {
  all = λ K us q n.
      both_five K us (fast 9 (λ E. go (silent 1 (λ E x xs. refl) ((T.all _ c us (leave_reads K us (quiet_some false us q) n)).1))));
}
  where
    both_five : (K : List Rule) (us : List Token) → Next (rule p.tasks ∷ K) (t.Name (codes "tasks") at l.word ∷ t.Close at l.end ∷ t.Mark m.OpenBrace at o ∷ spell_tasks xs (t.Mark m.CloseBrace at c ∷ us)) → Both K (spell_stmt (tr.tasks l o xs c) us)
    both_five K us b = record { stmt = fast 5 (λ E. go b); item = fast 5 (λ E. go b) }

-- a block
pub block_reads : (o : Place) (xs : BlockItems) (c : Place) → ItemsRead xs → (K : List Rule) (us : List Token) → Next K us
    → Next (rule p.block ∷ K) (t.Mark m.OpenBrace at o ∷ spell_items xs (t.Mark m.CloseBrace at c ∷ us))
block_reads o xs c T K us n = fast 2 (λ E. go (silent 1 (λ E x xs. refl) (T.all K c us n).1))

block_all : (o : Place) (xs : BlockItems) (c : Place) → ItemsRead xs → StmtReads (tr.block o xs c)
block_all o xs c T = record { all = λ K us q n. let b = block_reads o xs c T K us n in record { stmt = fast 2 (λ E. go b); item = fast 2 (λ E. go b) } }

one_item : (f : List Token → List Token) (xs : BlockItems) → ((K : List Rule) (us : List Token) → Not (is_word w.Else) us → Next K us → Next (part p.block_item ∷ K) (f us)) → ((us : List Token) → Inner (f us)) → ItemsRead xs
    → (K : List Rule) (c : Place) (us : List Token) → Next K us
    → Not (is_word w.Else) (f (spell_items xs (t.Mark m.CloseBrace at c ∷ us)))
    × Next (many (λ k. not (is_mark m.CloseBrace k)) (part p.block_item) ∷ tok closing (is_mark m.CloseBrace) ∷ K) (f (spell_items xs (t.Mark m.CloseBrace at c ∷ us)))
one_item f xs h i T K c us n =
    let r = T.all K c us n in
    let a = i (spell_items xs (t.Mark m.CloseBrace at c ∷ us)) in
    (a.0, many_more _ _ _ _ a.1 (h _ (spell_items xs (t.Mark m.CloseBrace at c ∷ us)) r.0 r.1))

one_task : (l : TaskLine) (s : Stmt) (xs : Tasks) → FitsSet l.set → StmtReads s → TasksRead xs → TasksRead (tr.a_task l s xs)
one_task l s xs F S T = record {
  all = λ K c us n.
      let r = T.all K c us n in
      let e : List Token = spell_tasks xs (t.Mark m.CloseBrace at c ∷ us) in
      (refl, fast 4 (λ E. go (task_rest l s F S _ e (no_else_quiet (takes_else s) e r.0) r.1)));
}

mutual
  pub stmt_reads : (s : Stmt) → FitsStmt s → StmtReads s
  stmt_reads (tr.plain x) F = record { all = λ K us q n. plain_reads x F K us n }
  stmt_reads (tr.block o xs c) F = block_all o xs c (items_read xs F)
  stmt_reads (tr.if_then q e s) F = if_reads q e s F.0 (stmt_reads s F.1)
  stmt_reads (tr.if_else q e s z u) F = else_reads q e s z u F.0 F.2 (stmt_reads s F.1) (stmt_reads u F.3)
  stmt_reads (tr.while_do q e s) F = while_reads q e s F.0 (stmt_reads s F.1)
  stmt_reads (tr.for_do h s) F = for_all h s F.0 (stmt_reads s F.1)
  stmt_reads (tr.loop l h s) F = loop_reads l h s F.0 F.1 (stmt_reads s F.2)
  stmt_reads (tr.task l s) F = task_reads l s F.0 (stmt_reads s F.1)
  stmt_reads (tr.tasks l o xs c) F = tasks_reads l o xs c (tasks_read xs F)

  pub items_read : (xs : BlockItems) → FitsItems xs → ItemsRead xs
  items_read tr.none F = record { all = λ K c us n. (refl, fast 2 (λ E. go n)) }
  items_read (tr.mapping x xs) F = record { all = one_item (spell_mapping x) xs (λ K us h n. mapping_item_reads x F.0 K us n) (mapping_inner x) (items_read xs F.1) }
  items_read (tr.declaration x xs) F = record { all = one_item (spell_declaration x) xs (λ K us h n. declaration_item_reads x F.0 K us n) (declaration_inner x) (items_read xs F.1) }
  items_read (tr.statement x xs) F = record { all = one_item (spell_stmt x) xs (λ K us h n. ((stmt_reads x F.0).all K us (no_else_quiet (takes_else x) us h) n).item) (stmt_inner x F.0) (items_read xs F.1) }

  pub tasks_read : (xs : Tasks) → FitsTasks xs → TasksRead xs
  tasks_read tr.no_task F = record { all = λ K c us n. (refl, fast 2 (λ E. go n)) }
  tasks_read (tr.a_task l s xs) F = one_task l s xs F.0 (stmt_reads s F.1) (tasks_read xs F.2)
