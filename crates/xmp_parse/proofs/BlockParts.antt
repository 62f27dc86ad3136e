-- The items of a block by their first token, and what stands behind statements.
use Rattle.std.proofs.Common.{◌≡◌, ◌≤◌, ◌<◌, ℕ, Bool, true, false, List, [], ◌∷◌, ◌++◌, length, refl, sym, ap, ◌∙◌, subst}
use Rattle.std.specs.Prelude.{◌||◌}
use Rattle.xmp_lex.specs.declared.token.Token.{Token}
use Rattle.xmp_lex.specs.declared.token.TokenKind.{TokenKind}
use Rattle.xmp_lex.specs.declared.token.TokenKind.TheVariants as t
use Rattle.xmp_lex.specs.declared.token.Reserved.{Reserved}
use Rattle.xmp_lex.specs.declared.token.Reserved.TheVariants as w
use Rattle.xmp_syntax.specs.declared.directive.TaskLine.{TaskLine}
use Rattle.xmp_syntax.specs.declared.statement.Stmt as made
use Rattle.xmp_syntax.specs.Parts as p
use Rattle.xmp_syntax.specs.Parts.{Part}
use Rattle.xmp_syntax.specs.Reading.{Rule, part, by, mark, leave, Depths, depths, State, reading, goes}
use Rattle.xmp_syntax.specs.Grammar.{rule, is_type, is_word, is_pragma, item_of, statement_of}
use Rattle.xmp_syntax.specs.View.{stmt_view, tasks_view}
use Rattle.xmp_syntax.specs.Spell.{each, spell_tasks, spell_stmt, task_line}
use Rattle.xmp_syntax.specs.Fits.{Each, FitsTasks, FitsStmt, FitsSet, takes_else}
use Rattle.xmp_reader.specs.declared.depth.Depth.{Depth}
use Rattle.xmp_reader.specs.declared.reader.Reader.{Reader}
use Rattle.xmp_reader.specs.declared.reader.Stop.{Stop}
use Rattle.xmp_reader.specs.Going.{Comes, Refused, stands}
use Rattle.xmp_reader.specs.Kinds.{next_is}
use Rattle.xmp_parse.specs.Blocks.{spell_task, FitsTask}
use Rattle.xmp_reader.proofs.Taking.{silent}
use Rattle.xmp_reader.proofs.Passing.{itself, comes_on, refused_on, comes_behind, refused_behind}

-- An item of a block by its first token.
word_type : (x : Reserved) → is_type (t.Word x) ≡ true → item_of (t.Word x) ≡ p.declaration
word_type w.Int h = refl
word_type w.Long h = refl
word_type w.Void h = cc
word_type w.If h = cc
word_type w.Else h = cc
word_type w.While h = cc
word_type w.For h = cc
word_type w.Return h = cc
word_type w.Printf h = cc
word_type w.Scanf h = cc
word_type w.SyncAll h = cc

type_item : (k : TokenKind) → is_type k ≡ true → item_of k ≡ p.declaration
type_item (t.Name a) h = cc
type_item (t.Word a) h = word_type a h
type_item (t.Number a b) h = cc
type_item (t.Text a) h = cc
type_item (t.Mark a) h = cc
type_item (t.Define a) h = cc
type_item t.Pragma h = cc
type_item t.Close h = cc
type_item t.Finish h = cc

pragma_item : (k : TokenKind) → is_pragma k ≡ true → item_of k ≡ p.line_in_block
pragma_item (t.Name a) h = cc
pragma_item (t.Word a) h = cc
pragma_item (t.Number a b) h = cc
pragma_item (t.Text a) h = cc
pragma_item (t.Mark a) h = cc
pragma_item (t.Define a) h = cc
pragma_item t.Pragma h = refl
pragma_item t.Close h = cc
pragma_item t.Finish h = cc

other_word : (x : Reserved) → is_type (t.Word x) ≡ false → item_of (t.Word x) ≡ statement_of (t.Word x)
other_word w.Int h = cc
other_word w.Long h = cc
other_word w.Void h = refl
other_word w.If h = refl
other_word w.Else h = refl
other_word w.While h = refl
other_word w.For h = refl
other_word w.Return h = refl
other_word w.Printf h = refl
other_word w.Scanf h = refl
other_word w.SyncAll h = refl

other_item : (k : TokenKind) → is_type k ≡ false → is_pragma k ≡ false → item_of k ≡ statement_of k
other_item (t.Name a) h g = refl
other_item (t.Word a) h g = other_word a h
other_item (t.Number a b) h g = refl
other_item (t.Text a) h g = refl
other_item (t.Mark a) h g = refl
other_item (t.Define a) h g = refl
other_item t.Pragma h g = cc
other_item t.Close h g = refl
other_item t.Finish h g = refl

item_by : (s : State) (D : Depths) (K : List Rule) (k : Token) (ts : List Token) (P : Part) → item_of k.kind ≡ P → Comes s (reading D (part p.block_item ∷ K) (k ∷ ts)) → Comes s (reading D (rule P ∷ K) (k ∷ ts))
item_by s D K k ts P e c = silent s _ _ (ap (λ (x : Part). goes [] (reading D (rule x ∷ K) (k ∷ ts))) e) refl (silent s (reading D (part p.block_item ∷ K) (k ∷ ts)) (reading D (by item_of ∷ K) (k ∷ ts)) refl refl c)

pub a_declaration : {s : State} {D : Depths} {K : List Rule} {ts : List Token} → next_is is_type ts ≡ true → Comes s (reading D (part p.block_item ∷ K) ts) → Comes s (reading D (rule p.declaration ∷ K) ts)
a_declaration {s = s} {D = D} {K = K} {ts = []} h c = cc
a_declaration {s = s} {D = D} {K = K} {ts = k ∷ ts} h c = item_by s D K k ts p.declaration (type_item k.kind h) c

pub a_line : {s : State} {D : Depths} {K : List Rule} {ts : List Token} → next_is is_pragma ts ≡ true → Comes s (reading D (part p.block_item ∷ K) ts) → Comes s (reading D (rule p.line_in_block ∷ K) ts)
a_line {s = s} {D = D} {K = K} {ts = []} h c = cc
a_line {s = s} {D = D} {K = K} {ts = k ∷ ts} h c = item_by s D K k ts p.line_in_block (pragma_item k.kind h) c

-- A statement in a block is read as it is elsewhere.
pub statement_comes : (s : State) (D : Depths) (K : List Rule) (ts : List Token) (E : Depths) (M : List Rule) (us : List Token) → next_is is_type ts ≡ false → next_is is_pragma ts ≡ false
    → length us < length ts → Comes s (reading D (part p.block_item ∷ K) ts) → (Comes (reading D (part p.statement ∷ K) ts) (reading D (part p.statement ∷ K) ts) → Comes (reading D (part p.statement ∷ K) ts) (reading E M us))
    → Comes s (reading E M us)
statement_comes s D K [] E M us h g l c n = let f = c.finish in cc
statement_comes s D K (k ∷ ts) E M us h g l c n =
    comes_on s (reading D (rule (statement_of k.kind) ∷ K) (k ∷ ts)) (reading E M us) (item_by s D K k ts (statement_of k.kind) (other_item k.kind h g) c)
    (comes_behind D (by statement_of ∷ K) (rule (statement_of k.kind) ∷ K) k ts E M us (λ v. refl) l
    (comes_behind D (part p.statement ∷ K) (by statement_of ∷ K) k ts E M us (λ v. refl) l (n (itself (reading D (part p.statement ∷ K) (k ∷ ts)) c.finish))))

pub statement_refused : (s : State) (D : Depths) (K : List Rule) (ts : List Token) (e : Stop) → next_is is_type ts ≡ false → next_is is_pragma ts ≡ false
    → Comes s (reading D (part p.block_item ∷ K) ts) → (Comes (reading D (part p.statement ∷ K) ts) (reading D (part p.statement ∷ K) ts) → Refused (reading D (part p.statement ∷ K) ts) e) → Refused s e
statement_refused s D K [] e h g c n = let f = c.finish in cc
statement_refused s D K (k ∷ ts) e h g c n =
    refused_on s (reading D (rule (statement_of k.kind) ∷ K) (k ∷ ts)) e (item_by s D K k ts (statement_of k.kind) (other_item k.kind h g) c)
    (refused_behind D (by statement_of ∷ K) (rule (statement_of k.kind) ∷ K) k ts e (λ v. refl)
    (refused_behind D (part p.statement ∷ K) (by statement_of ∷ K) k ts e (λ v. refl) (n (itself (reading D (part p.statement ∷ K) (k ∷ ts)) c.finish))))

-- A counted statement ends.
pub left_behind : {s : State} {L : List (ℕ × ℕ)} {K : List Rule} (r q : Reader) (o : Depth) → q.tokens ≡ r.tokens → q.depth ≡ o → Comes s (stands ((o.now, o.base) ∷ L) (mark leave ∷ K) r) → Comes s (stands L K q)
left_behind {s = s} {L = L} {K = K} r q o e i c =
    let z : q.tokens.now ≡ r.tokens.now = rw e refl in
    subst (λ (l : List Token). Comes s (reading (depths q.depth.now q.depth.base L) K l)) (sym z)
    (subst (λ (x : Depth). Comes s (reading (depths x.now x.base L) K r.tokens.now)) (sym i) (behind_it s _ _ o.now o.base L K r.tokens.now c))
  where
    behind_it : (s : State) (n m a b : ℕ) (L : List (ℕ × ℕ)) (K : List Rule) (ts : List Token) → Comes s (reading (depths n m ((a, b) ∷ L)) (mark leave ∷ K) ts) → Comes s (reading (depths a b L) K ts)
    behind_it s n m a b L K [] c = let f = c.finish in cc
    behind_it s n m a b L K (k ∷ ts) c = silent s _ _ refl refl c

-- no else is another's
pub no_other : (b c : Bool) → (b ≡ true → c ≡ false) → c ≡ true → b ≡ false
no_other true c h e = let z = h refl in cc
no_other false c h e = refl

-- Tasks one by one.
pub tasks_each : (xs : List (TaskLine × made.Stmt)) (r : List Token) → each spell_task xs r ≡ spell_tasks (tasks_view xs) r
tasks_each [] r = refl
tasks_each (x ∷ xs) r = ap (λ (l : List Token). task_line x.0 (spell_stmt (stmt_view x.1) l)) (tasks_each xs r)

pub tasks_fit : (xs : List (TaskLine × made.Stmt)) → Each FitsTask xs → FitsTasks (tasks_view xs)
tasks_fit [] f = tt
tasks_fit (x ∷ xs) f = (f.0.0, f.0.1, tasks_fit xs f.1)
