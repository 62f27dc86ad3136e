-- Blocks, and statements with statements inside, that fit and have the same kinds of tokens have one shape; with the same tokens they are equal.
use Rattle.std.proofs.Common.{◌≡◌, Bool, true, false, ◌&&◌, List, ◌∷◌, refl, sym, ap, ◌∙◌}
use Rattle.std.specs.Prelude.{codes}
use Rattle.xmp_base.specs.declared.place.Place.{Place}
use Rattle.xmp_lex.specs.declared.token.Token.{Token}
use Rattle.xmp_lex.specs.declared.token.TokenKind.{TokenKind}
use Rattle.xmp_lex.specs.declared.token.TokenKind.TheVariants as t
use Rattle.xmp_lex.specs.declared.token.Mark.TheVariants as m
use Rattle.xmp_lex.specs.declared.token.Reserved.TheVariants as w
use Rattle.xmp_syntax.specs.declared.parts.Inside.{Inside}
use Rattle.xmp_syntax.specs.declared.parts.TypeWords.{TypeWords}
use Rattle.xmp_syntax.specs.declared.parts.TypeWords.TheVariants as tw
use Rattle.xmp_syntax.specs.declared.expression.Expr as made
use Rattle.xmp_syntax.specs.declared.declaration.Declaration.{Declaration}
use Rattle.xmp_syntax.specs.declared.directive.Mapping.{Mapping}
use Rattle.xmp_syntax.specs.declared.directive.Mapping.TheVariants as mp
use Rattle.xmp_syntax.specs.declared.directive.DirectiveLine.{DirectiveLine}
use Rattle.xmp_syntax.specs.declared.directive.LoopLine.{LoopLine}
use Rattle.xmp_syntax.specs.declared.directive.TaskLine.{TaskLine}
use Rattle.xmp_syntax.specs.declared.statement.ForHead.{ForHead}
use Rattle.xmp_syntax.specs.declared.statement.Plain.{Plain}
use Rattle.xmp_syntax.specs.declared.statement.Plain.TheVariants as pl
use Rattle.xmp_syntax.specs.Parts.{Part}
use Rattle.xmp_syntax.specs.Parts as p
use Rattle.xmp_syntax.specs.Grammar.{is_word}
use Rattle.xmp_syntax.specs.Trees as tr
use Rattle.xmp_syntax.specs.Trees.{Stmt, BlockItems, Tasks}
use Rattle.xmp_syntax.specs.Spell.{◌at◌, expr, in_parens, spell_mapping, for_head, spell_plain, spell_stmt, spell_items, spell_tasks}
use Rattle.xmp_syntax.specs.Fits.{FitsExpr, FitsPlain, FitsStmt, FitsItems, FitsTasks, takes_else}
use Rattle.xmp_syntax.specs.Shape as sh
use Rattle.xmp_syntax.specs.Shape.{token, group, done, ◌▸◌, shape, stmt_shape, items_shape, tasks_shape, kinds}
use Rattle.xmp_syntax.proofs.Done.{Not}
use Rattle.xmp_syntax.proofs.Blocks.{Quiet, no_else_quiet, quiet_no_else, stmt_inner, mapping_inner, declaration_inner}
use Rattle.xmp_syntax.proofs.OneExpr.{no_first}
use Rattle.xmp_syntax.proofs.OneTokens.{Exact, apart, inside_is, line_is}
use Rattle.xmp_syntax.proofs.OneLine.{Alike, AlikeTo, same_expr, same_declaration}
use Rattle.xmp_syntax.proofs.OneDirective.{same_mapping}
use Rattle.xmp_syntax.specs.Spell.{type_words}
use Rattle.xmp_syntax.proofs.OneStmt.{same_loop, same_task_line, same_head, tail_of}
use Rattle.xmp_syntax.proofs.OnePlain.{class, plain_part, plain_class, same_plain}

-- The sort of what a part stands for in a block.
abbrev pub sort : Part → Part
sort p.empty = p.statement
sort p.simple_statement = p.statement
sort p.return_statement = p.statement
sort p.print_statement = p.statement
sort p.scan_statement = p.statement
sort p.sync_statement = p.statement
sort p.reflect = p.statement
sort p.barrier = p.statement
sort p.bcast = p.statement
sort p.gmove = p.statement
sort p.nodes = p.mapping
sort p.template = p.mapping
sort p.distribute = p.mapping
sort p.align = p.mapping
sort p.shadow = p.mapping
sort P = P

abbrev stmt_sort : Stmt → Part
stmt_sort (tr.plain x) = p.statement
stmt_sort (tr.block o xs c) = p.block
stmt_sort (tr.if_then q c x) = p.if_statement
stmt_sort (tr.if_else q c x z u) = p.if_statement
stmt_sort (tr.while_do q c x) = p.while_statement
stmt_sort (tr.for_do h x) = p.for_statement
stmt_sort (tr.loop l h x) = p.loop
stmt_sort (tr.task l x) = p.task
stmt_sort (tr.tasks l o xs c) = p.tasks

plain_sort : (x : Plain) → sort (plain_part x) ≡ p.statement
plain_sort (pl.Simple x z) = refl
plain_sort (pl.Empty z) = refl
plain_sort (pl.Return q e z) = refl
plain_sort (pl.Print q x z) = refl
plain_sort (pl.Scan q x z) = refl
plain_sort (pl.Sync q x z) = refl
plain_sort (pl.Reflect l ns) = refl
plain_sort (pl.Barrier l) = refl
plain_sort (pl.Bcast l ns q x) = refl
plain_sort (pl.Gmove l a q x z) = refl

stmt_class : (x : Stmt) → FitsStmt x → (r : List Token) → sort (class (kinds (spell_stmt x r))) ≡ stmt_sort x
stmt_class (tr.plain x) F r = ap sort (plain_class x F r) ∙ plain_sort x
stmt_class (tr.block o xs c) F r = refl
stmt_class (tr.if_then q e s) F r = refl
stmt_class (tr.if_else q e s z u) F r = refl
stmt_class (tr.while_do q e s) F r = refl
stmt_class (tr.for_do h s) F r = refl
stmt_class (tr.loop l h s) F r = refl
stmt_class (tr.task l s) F r = refl
stmt_class (tr.tasks l o xs c) F r = refl

-- What holds of each statement of a sort.
plain_only : (P : Stmt → Type 0) → ((x : Plain) → P (tr.plain x)) → (y : Stmt) → stmt_sort y ≡ p.statement → P y
plain_only P f (tr.plain x) h = f x
plain_only P f _ h = cc

block_only : (P : Stmt → Type 0) → ((o : Place) (xs : BlockItems) (c : Place) → P (tr.block o xs c)) → (y : Stmt) → stmt_sort y ≡ p.block → P y
block_only P f (tr.block o xs c) h = f o xs c
block_only P f _ h = cc

while_only : (P : Stmt → Type 0) → ((q : Place) (c : Inside made.Expr) (x : Stmt) → P (tr.while_do q c x)) → (y : Stmt) → stmt_sort y ≡ p.while_statement → P y
while_only P f (tr.while_do q c x) h = f q c x
while_only P f _ h = cc

for_only : (P : Stmt → Type 0) → ((h : ForHead) (x : Stmt) → P (tr.for_do h x)) → (y : Stmt) → stmt_sort y ≡ p.for_statement → P y
for_only P f (tr.for_do h x) w = f h x
for_only P f _ h = cc

loop_only : (P : Stmt → Type 0) → ((l : LoopLine) (h : ForHead) (x : Stmt) → P (tr.loop l h x)) → (y : Stmt) → stmt_sort y ≡ p.loop → P y
loop_only P f (tr.loop l h x) w = f l h x
loop_only P f _ h = cc

task_only : (P : Stmt → Type 0) → ((l : TaskLine) (x : Stmt) → P (tr.task l x)) → (y : Stmt) → stmt_sort y ≡ p.task → P y
task_only P f (tr.task l x) h = f l x
task_only P f _ h = cc

tasks_only : (P : Stmt → Type 0) → ((l : DirectiveLine) (o : Place) (xs : Tasks) (c : Place) → P (tr.tasks l o xs c)) → (y : Stmt) → stmt_sort y ≡ p.tasks → P y
tasks_only P f (tr.tasks l o xs c) h = f l o xs c
tasks_only P f _ h = cc

if_only : (P : Stmt → Type 0) → ((q : Place) (c : Inside made.Expr) (x : Stmt) → P (tr.if_then q c x)) → ((q : Place) (c : Inside made.Expr) (x : Stmt) (z : Place) (u : Stmt) → P (tr.if_else q c x z u))
    → (y : Stmt) → stmt_sort y ≡ p.if_statement → P y
if_only P f g (tr.if_then q c x) h = f q c x
if_only P f g (tr.if_else q c x z u) h = g q c x z u
if_only P f g _ h = cc

same_condition : (x y : Inside made.Expr) → FitsExpr x.item → FitsExpr y.item → (r s : List Token) → kinds (in_parens expr x r) ≡ kinds (in_parens expr y s) → Alike (in_parens expr) (sh.in_parens sh.expr) x y r s
same_condition x y F G r s e =
    let c = same_expr x.item y.item F G (t.Mark m.CloseParen at x.close ∷ r) (t.Mark m.CloseParen at y.close ∷ s) ((refl, refl, refl, refl), refl) ((refl, refl, refl, refl), refl) (cc) in (
      λ q. ap (λ z. token (t.Mark m.OpenParen) ▸ z) (c.0 (token (t.Mark m.CloseParen) ▸ q)),
      (let z = c.1 in cc),
      λ h. let t = apart h in let g = c.2 t.2 in let i = apart g.1 in (inside_is x y t.1 g.0 i.1, i.2),
    )

pub mapping_class : (x : Mapping) (r : List Token) → sort (class (kinds (spell_mapping x r))) ≡ p.mapping
mapping_class (mp.Nodes l v ds) r = refl
mapping_class (mp.NodesStar l v x) r = refl
mapping_class (mp.NodesPart l v x q y) r = refl
mapping_class (mp.Template l v ds) r = refl
mapping_class (mp.Distribute l v fs q o) r = refl
mapping_class (mp.Align l v xs q o ps) r = refl
mapping_class (mp.Shadow l v ws) r = refl

pub type_class : (x : TypeWords) (r : List Token) → sort (class (kinds (type_words x r))) ≡ p.declaration
type_class (tw.Int q) r = refl
type_class (tw.Long q) r = refl
type_class (tw.LongInt q z) r = refl

-- The items of a block, by their sorts.
abbrev outer : Part → Part
outer p.mapping = p.mapping
outer p.declaration = p.declaration
outer p.no_part = p.no_part
outer _ = p.block_item

abbrev items_sort : BlockItems → Part
items_sort tr.none = p.no_part
items_sort (tr.mapping x xs) = p.mapping
items_sort (tr.declaration x xs) = p.declaration
items_sort (tr.statement x xs) = p.block_item

stmt_outer : (x : Stmt) → outer (stmt_sort x) ≡ p.block_item
stmt_outer (tr.plain x) = refl
stmt_outer (tr.block o xs c) = refl
stmt_outer (tr.if_then q e s) = refl
stmt_outer (tr.if_else q e s z u) = refl
stmt_outer (tr.while_do q e s) = refl
stmt_outer (tr.for_do h s) = refl
stmt_outer (tr.loop l h s) = refl
stmt_outer (tr.task l s) = refl
stmt_outer (tr.tasks l o xs c) = refl

items_class : (xs : BlockItems) → FitsItems xs → (c : Place) (r : List Token) → outer (sort (class (kinds (spell_items xs (t.Mark m.CloseBrace at c ∷ r))))) ≡ items_sort xs
items_class tr.none F c r = refl
items_class (tr.mapping x xs) F c r = ap outer (mapping_class x (spell_items xs (t.Mark m.CloseBrace at c ∷ r)))
items_class (tr.declaration x xs) F c r = ap outer (type_class x.ty _)
items_class (tr.statement x xs) F c r = ap outer (stmt_class x F.0 (spell_items xs (t.Mark m.CloseBrace at c ∷ r))) ∙ stmt_outer x

none_only : (P : BlockItems → Type 0) → P tr.none → (y : BlockItems) → items_sort y ≡ p.no_part → P y
none_only P f tr.none h = f
none_only P f _ h = cc

mapping_only : (P : BlockItems → Type 0) → ((x : Mapping) (xs : BlockItems) → P (tr.mapping x xs)) → (y : BlockItems) → items_sort y ≡ p.mapping → P y
mapping_only P f (tr.mapping x xs) h = f x xs
mapping_only P f _ h = cc

declaration_only : (P : BlockItems → Type 0) → ((x : Declaration) (xs : BlockItems) → P (tr.declaration x xs)) → (y : BlockItems) → items_sort y ≡ p.declaration → P y
declaration_only P f (tr.declaration x xs) h = f x xs
declaration_only P f _ h = cc

statement_only : (P : BlockItems → Type 0) → ((x : Stmt) (xs : BlockItems) → P (tr.statement x xs)) → (y : BlockItems) → items_sort y ≡ p.block_item → P y
statement_only P f (tr.statement x xs) h = f x xs
statement_only P f _ h = cc

items_no_else : (xs : BlockItems) → FitsItems xs → (c : Place) (r : List Token) → Not (is_word w.Else) (spell_items xs (t.Mark m.CloseBrace at c ∷ r))
items_no_else tr.none F c r = refl
items_no_else (tr.mapping x xs) F c r = (mapping_inner x (spell_items xs (t.Mark m.CloseBrace at c ∷ r))).0
items_no_else (tr.declaration x xs) F c r = (declaration_inner x (spell_items xs (t.Mark m.CloseBrace at c ∷ r))).0
items_no_else (tr.statement x xs) F c r = (stmt_inner x F.0 (spell_items xs (t.Mark m.CloseBrace at c ∷ r))).0

tasks_no_else : (xs : Tasks) (c : Place) (r : List Token) → Not (is_word w.Else) (spell_tasks xs (t.Mark m.CloseBrace at c ∷ r))
tasks_no_else tr.no_task c r = refl
tasks_no_else (tr.a_task l s xs) c r = refl

quiet_word : (b : Bool) (q : Place) (r : List Token) → b ≡ false → Quiet b (t.Word w.Else at q ∷ r)
quiet_word b q r h = ap (λ v. v && true) h

two_plain : (x y : Plain) → FitsPlain x → FitsPlain y → (r s : List Token) → kinds (spell_plain x r) ≡ kinds (spell_plain y s) → (stmt_shape (tr.plain x) ≡ stmt_shape (tr.plain y)) × (kinds r ≡ kinds s) × Exact spell_stmt (tr.plain x) (tr.plain y) r s
two_plain x y F G r s e = let c = same_plain x y F G r s e in (ap group (c.0 done), c.1, λ h. let g = c.2 h in (ap tr.plain g.0, g.1))

abbrev SameStmt : Stmt → List Token → List Token → Stmt → Type 0
SameStmt x r s y = FitsStmt y → Quiet (takes_else y) s → kinds (spell_stmt x r) ≡ kinds (spell_stmt y s) → (stmt_shape x ≡ stmt_shape y) × (kinds r ≡ kinds s) × Exact spell_stmt x y r s

one_sort : (x y : Stmt) → FitsStmt x → FitsStmt y → (r s : List Token) → kinds (spell_stmt x r) ≡ kinds (spell_stmt y s) → stmt_sort y ≡ stmt_sort x
one_sort x y F G r s e = sym (stmt_class y G s) ∙ ap (λ (ks : List TokenKind). sort (class ks)) (sym e) ∙ stmt_class x F r

abbrev SameItems : BlockItems → Place → Place → List Token → List Token → BlockItems → Type 0
SameItems x c b r s y = FitsItems y → kinds (spell_items x (t.Mark m.CloseBrace at c ∷ r)) ≡ kinds (spell_items y (t.Mark m.CloseBrace at b ∷ s)) → AlikeTo (t.Mark m.CloseBrace) spell_items items_shape x y c b r s

one_items_sort : (x y : BlockItems) → FitsItems x → FitsItems y → (c b : Place) (r s : List Token) → kinds (spell_items x (t.Mark m.CloseBrace at c ∷ r)) ≡ kinds (spell_items y (t.Mark m.CloseBrace at b ∷ s)) → items_sort y ≡ items_sort x
one_items_sort x y F G c b r s e = sym (items_class y G b s) ∙ ap (λ (ks : List TokenKind). outer (sort (class ks))) (sym e) ∙ items_class x F c r

mutual
  pub same_stmt : (x y : Stmt) → FitsStmt x → FitsStmt y → (r s : List Token) → Quiet (takes_else x) r → Quiet (takes_else y) s → kinds (spell_stmt x r) ≡ kinds (spell_stmt y s) → (stmt_shape x ≡ stmt_shape y) × (kinds r ≡ kinds s) × Exact spell_stmt x y r s
  same_stmt (tr.plain x) y F G r s a b e = plain_only (SameStmt (tr.plain x) r s) (λ y G b e. two_plain x y F G r s e) y (one_sort (tr.plain x) y F G r s e) G b e
  same_stmt (tr.block o xs c) y F G r s a b e = block_only (SameStmt (tr.block o xs c) r s) (λ o' ys c' G b e.
      let v = same_items xs ys F G c c' r s (cc) in (
        ap group (ap (λ z. token (t.Mark m.OpenBrace) ▸ z) (v.0 (token (t.Mark m.CloseBrace) ▸ done))),
        v.1,
        λ h. let t = apart h in let g = v.2 t.2 in (ap (λ z. tr.block z xs c) t.1 ∙ ap (λ z. tr.block o' z c) g.0 ∙ ap (tr.block o' ys) g.1, g.2),
      )) y (one_sort (tr.block o xs c) y F G r s e) G b e
  same_stmt (tr.while_do q c x) y F G r s a b e = while_only (SameStmt (tr.while_do q c x) r s) (λ q' d y G b e.
      let v = same_condition c d F.0 G.0 (spell_stmt x r) (spell_stmt y s) (cc) in
      let i = same_stmt x y F.1 G.1 r s a b v.1 in (
        ap group (ap (λ z. token (t.Word w.While) ▸ z) (v.0 (stmt_shape x ▸ done) ∙ ap (λ z. sh.in_parens sh.expr d (z ▸ done)) i.0)),
        i.1,
        λ h. let t = apart h in let g = v.2 t.2 in let j = i.2 g.1 in (ap (λ z. tr.while_do z c x) t.1 ∙ ap (λ z. tr.while_do q' z x) g.0 ∙ ap (tr.while_do q' d) j.0, j.1),
      )) y (one_sort (tr.while_do q c x) y F G r s e) G b e
  same_stmt (tr.for_do h x) y F G r s a b e = for_only (SameStmt (tr.for_do h x) r s) (λ k y G b e.
      let v = same_head h k F.0 G.0 (spell_stmt x r) (spell_stmt y s) e in
      let i = same_stmt x y F.1 G.1 r s a b v.1 in (
        ap group (v.0 (stmt_shape x ▸ done) ∙ ap (λ z. sh.for_head k (z ▸ done)) i.0),
        i.1,
        λ h'. let g = v.2 h' in let j = i.2 g.1 in (ap (λ z. tr.for_do z x) g.0 ∙ ap (tr.for_do k) j.0, j.1),
      )) y (one_sort (tr.for_do h x) y F G r s e) G b e
  same_stmt (tr.loop l h x) y F G r s a b e = loop_only (SameStmt (tr.loop l h x) r s) (λ l' k y G b e.
      let u = same_loop l l' F.0 G.0 (for_head h (spell_stmt x r)) (for_head k (spell_stmt y s)) e in
      let v = same_head h k F.1 G.1 (spell_stmt x r) (spell_stmt y s) u.1 in
      let i = same_stmt x y F.2 G.2 r s a b v.1 in (
        ap group (u.0 (sh.for_head h (stmt_shape x ▸ done)) ∙ ap (sh.loop_line l') (v.0 (stmt_shape x ▸ done) ∙ ap (λ z. sh.for_head k (z ▸ done)) i.0)),
        i.1,
        λ h'. let f = u.2 h' in let g = v.2 f.1 in let j = i.2 g.1 in (ap (λ z. tr.loop z h x) f.0 ∙ ap (λ z. tr.loop l' z x) g.0 ∙ ap (tr.loop l' k) j.0, j.1),
      )) y (one_sort (tr.loop l h x) y F G r s e) G b e
  same_stmt (tr.task l x) y F G r s a b e = task_only (SameStmt (tr.task l x) r s) (λ l' y G b e.
      let u = same_task_line l l' F.0 G.0 (spell_stmt x r) (spell_stmt y s) e in
      let i = same_stmt x y F.1 G.1 r s a b u.1 in (
        ap group (u.0 (stmt_shape x ▸ done) ∙ ap (λ z. sh.task_line l' (z ▸ done)) i.0),
        i.1,
        λ h. let f = u.2 h in let j = i.2 f.1 in (ap (λ z. tr.task z x) f.0 ∙ ap (tr.task l') j.0, j.1),
      )) y (one_sort (tr.task l x) y F G r s e) G b e
  same_stmt (tr.tasks l o xs c) y F G r s a b e = tasks_only (SameStmt (tr.tasks l o xs c) r s) (λ l' o' ys c' G b e.
      let v = same_tasks xs ys F G c c' r s (cc) in (
        ap group (ap (λ z. token t.Pragma ▸ token (t.Name (codes "tasks")) ▸ token t.Close ▸ token (t.Mark m.OpenBrace) ▸ z) (v.0 (token (t.Mark m.CloseBrace) ▸ done))),
        v.1,
        λ h. let t = apart h in let i = apart t.2 in let j = apart i.2 in let k = apart j.2 in let g = v.2 k.2 in
            (ap (λ z. tr.tasks z o xs c) (line_is l l' t.1 i.1 j.1) ∙ ap (λ z. tr.tasks l' z xs c) k.1 ∙ ap (λ z. tr.tasks l' o' z c) g.0 ∙ ap (tr.tasks l' o' ys) g.1, g.2),
      )) y (one_sort (tr.tasks l o xs c) y F G r s e) G b e
  same_stmt (tr.if_then q c x) y F G r s a b e = if_only (SameStmt (tr.if_then q c x) r s) (λ q' d y G b e.
      let v = same_condition c d F.0 G.0 (spell_stmt x r) (spell_stmt y s) (cc) in
      let i = same_stmt x y F.1 G.1 r s (no_else_quiet (takes_else x) r (quiet_no_else r a)) (no_else_quiet (takes_else y) s (quiet_no_else s b)) v.1 in (
        ap group (ap (λ z. token (t.Word w.If) ▸ z) (v.0 (stmt_shape x ▸ done) ∙ ap (λ z. sh.in_parens sh.expr d (z ▸ done)) i.0)),
        i.1,
        λ h. let t = apart h in let g = v.2 t.2 in let j = i.2 g.1 in (ap (λ z. tr.if_then z c x) t.1 ∙ ap (λ z. tr.if_then q' z x) g.0 ∙ ap (tr.if_then q' d) j.0, j.1),
      ))
      (λ q' d y p' k G b e.
      let v = same_condition c d F.0 G.0 (spell_stmt x r) (spell_stmt y (t.Word w.Else at p' ∷ spell_stmt k s)) (cc) in
      let i = same_stmt x y F.1 G.1 r (t.Word w.Else at p' ∷ spell_stmt k s) (no_else_quiet (takes_else x) r (quiet_no_else r a)) (quiet_word (takes_else y) p' (spell_stmt k s) G.2) v.1 in
      absurd (no_first (is_word w.Else) (t.Word w.Else) r (kinds (spell_stmt k s)) refl (quiet_no_else r a) i.1)) y (one_sort (tr.if_then q c x) y F G r s e) G b e
  same_stmt (tr.if_else q c x p u) y F G r s a b e = if_only (SameStmt (tr.if_else q c x p u) r s) (λ q' d y G b e.
      let v = same_condition c d F.0 G.0 (spell_stmt x (t.Word w.Else at p ∷ spell_stmt u r)) (spell_stmt y s) (cc) in
      let i = same_stmt x y F.1 G.1 (t.Word w.Else at p ∷ spell_stmt u r) s (quiet_word (takes_else x) p (spell_stmt u r) F.2) (no_else_quiet (takes_else y) s (quiet_no_else s b)) v.1 in
      absurd (no_first (is_word w.Else) (t.Word w.Else) s (kinds (spell_stmt u r)) refl (quiet_no_else s b) (sym i.1)))
      (λ q' d y p' k G b e.
      let v = same_condition c d F.0 G.0 (spell_stmt x (t.Word w.Else at p ∷ spell_stmt u r)) (spell_stmt y (t.Word w.Else at p' ∷ spell_stmt k s)) (cc) in
      let i = same_stmt x y F.1 G.1 (t.Word w.Else at p ∷ spell_stmt u r) (t.Word w.Else at p' ∷ spell_stmt k s) (quiet_word (takes_else x) p (spell_stmt u r) F.2) (quiet_word (takes_else y) p' (spell_stmt k s) G.2) v.1 in
      let j = same_stmt u k F.3 G.3 r s a b (let z = i.1 in cc) in (
        ap group (ap (λ z. token (t.Word w.If) ▸ z) (v.0 (stmt_shape x ▸ token (t.Word w.Else) ▸ stmt_shape u ▸ done)
            ∙ ap (λ z. sh.in_parens sh.expr d (z ▸ token (t.Word w.Else) ▸ stmt_shape u ▸ done)) i.0 ∙ ap (λ z. sh.in_parens sh.expr d (stmt_shape y ▸ token (t.Word w.Else) ▸ z ▸ done)) j.0)),
        j.1,
        λ h. let t = apart h in let g = v.2 t.2 in let f = i.2 g.1 in let n = apart f.1 in let l = j.2 n.2 in (
          ap (λ z. tr.if_else z c x p u) t.1 ∙ ap (λ z. tr.if_else q' z x p u) g.0 ∙ ap (λ z. tr.if_else q' d z p u) f.0 ∙ ap (λ z. tr.if_else q' d y z u) n.1 ∙ ap (tr.if_else q' d y p') l.0,
          l.1,
        ),
      )) y (one_sort (tr.if_else q c x p u) y F G r s e) G b e

  pub same_items : (x y : BlockItems) → FitsItems x → FitsItems y → (c b : Place) (r s : List Token) → kinds (spell_items x (t.Mark m.CloseBrace at c ∷ r)) ≡ kinds (spell_items y (t.Mark m.CloseBrace at b ∷ s)) → AlikeTo (t.Mark m.CloseBrace) spell_items items_shape x y c b r s
  same_items tr.none y F G c b r s e = none_only (SameItems tr.none c b r s) (λ G e. (λ q. refl, tail_of e, λ h. let t = apart h in (refl, t.1, t.2))) y (one_items_sort tr.none y F G c b r s e) G e
  same_items (tr.mapping x xs) y F G c b r s e = mapping_only (SameItems (tr.mapping x xs) c b r s) (λ y ys G e.
      let a = same_mapping x y F.0 G.0 (spell_items xs (t.Mark m.CloseBrace at c ∷ r)) (spell_items ys (t.Mark m.CloseBrace at b ∷ s)) e in
      let i = same_items xs ys F.1 G.1 c b r s a.1 in (
        λ q. a.0 (items_shape xs q) ∙ ap (sh.mapping_shape y) (i.0 q),
        i.1,
        λ h. let f = a.2 h in let g = i.2 f.1 in (ap (λ z. tr.mapping z xs) f.0 ∙ ap (tr.mapping y) g.0, g.1, g.2),
      )) y (one_items_sort (tr.mapping x xs) y F G c b r s e) G e
  same_items (tr.declaration x xs) y F G c b r s e = declaration_only (SameItems (tr.declaration x xs) c b r s) (λ y ys G e.
      let a = same_declaration x y F.0 G.0 (spell_items xs (t.Mark m.CloseBrace at c ∷ r)) (spell_items ys (t.Mark m.CloseBrace at b ∷ s)) e in
      let i = same_items xs ys F.1 G.1 c b r s a.1 in (
        λ q. a.0 (items_shape xs q) ∙ ap (sh.declaration_shape y) (i.0 q),
        i.1,
        λ h. let f = a.2 h in let g = i.2 f.1 in (ap (λ z. tr.declaration z xs) f.0 ∙ ap (tr.declaration y) g.0, g.1, g.2),
      )) y (one_items_sort (tr.declaration x xs) y F G c b r s e) G e
  same_items (tr.statement x xs) y F G c b r s e = statement_only (SameItems (tr.statement x xs) c b r s) (λ y ys G e.
      let u : List Token = spell_items xs (t.Mark m.CloseBrace at c ∷ r) in
      let v : List Token = spell_items ys (t.Mark m.CloseBrace at b ∷ s) in
      let a = same_stmt x y F.0 G.0 u v (no_else_quiet (takes_else x) u (items_no_else xs F.1 c r)) (no_else_quiet (takes_else y) v (items_no_else ys G.1 b s)) e in
      let i = same_items xs ys F.1 G.1 c b r s a.1 in (
        λ q. ap (λ z. z ▸ items_shape xs q) a.0 ∙ ap (λ z. stmt_shape y ▸ z) (i.0 q),
        i.1,
        λ h. let f = a.2 h in let g = i.2 f.1 in (ap (λ z. tr.statement z xs) f.0 ∙ ap (tr.statement y) g.0, g.1, g.2),
      )) y (one_items_sort (tr.statement x xs) y F G c b r s e) G e

  pub same_tasks : (x y : Tasks) → FitsTasks x → FitsTasks y → (c b : Place) (r s : List Token) → kinds (spell_tasks x (t.Mark m.CloseBrace at c ∷ r)) ≡ kinds (spell_tasks y (t.Mark m.CloseBrace at b ∷ s)) → AlikeTo (t.Mark m.CloseBrace) spell_tasks tasks_shape x y c b r s
  same_tasks tr.no_task tr.no_task F G c b r s e = (λ q. refl, cc, λ h. let t = apart h in (refl, t.1, t.2))
  same_tasks tr.no_task (tr.a_task l y ys) F G c b r s e = cc
  same_tasks (tr.a_task l x xs) tr.no_task F G c b r s e = cc
  same_tasks (tr.a_task l x xs) (tr.a_task l' y ys) F G c b r s e =
      let u : List Token = spell_tasks xs (t.Mark m.CloseBrace at c ∷ r) in
      let v : List Token = spell_tasks ys (t.Mark m.CloseBrace at b ∷ s) in
      let a = same_task_line l l' F.0 G.0 (spell_stmt x u) (spell_stmt y v) e in
      let i = same_stmt x y F.1 G.1 u v (no_else_quiet (takes_else x) u (tasks_no_else xs c r)) (no_else_quiet (takes_else y) v (tasks_no_else ys b s)) a.1 in
      let j = same_tasks xs ys F.2 G.2 c b r s i.1 in (
        λ q. a.0 (stmt_shape x ▸ tasks_shape xs q) ∙ ap (sh.task_line l') (ap (λ z. z ▸ tasks_shape xs q) i.0 ∙ ap (λ z. stmt_shape y ▸ z) (j.0 q)),
        j.1,
        λ h. let f = a.2 h in let g = i.2 f.1 in let n = j.2 g.1 in (ap (λ z. tr.a_task z x xs) f.0 ∙ ap (λ z. tr.a_task l' z xs) g.0 ∙ ap (tr.a_task l' y) n.0, n.1, n.2),
      )
