-- The items of blocks that are read so far.
use Rattle.std.proofs.Common.{◌≡◌, Bool, true, false, List, [], ◌∷◌, refl, ap}
use Rattle.std.specs.Prelude.{not}
use Rattle.xmp_lex.specs.declared.token.Token.{Token}
use Rattle.xmp_syntax.specs.declared.statement.BlockItem.{BlockItem}
use Rattle.xmp_syntax.specs.declared.statement.BlockItem.TheVariants as b
use Rattle.xmp_syntax.specs.declared.statement.Stmt as made
use Rattle.xmp_syntax.specs.Reading.{Test, Rule, many, Depths, State, reading}
use Rattle.xmp_syntax.specs.View.{stmt_view, items_view}
use Rattle.xmp_syntax.specs.Spell.{each, spell_mapping, spell_declaration, spell_stmt, spell_items}
use Rattle.xmp_syntax.specs.Fits.{Each, FitsItems}
use Rattle.xmp_reader.specs.Going.{Comes}
use Rattle.xmp_reader.specs.Kinds.{next_is}
use Rattle.xmp_parse.specs.Blocks.{spell_item, FitsItem}
use Rattle.xmp_reader.proofs.Listing.{once_more}
use Rattle.xmp_reader.proofs.Opening.{no_more}

-- again and again, up to a token that is not to come
pub once_more_not : (q : Test) {s : State} {D : Depths} {a : Rule} {K : List Rule} {ts : List Token} → next_is q ts ≡ false
    → Comes s (reading D (many (λ k. not (q k)) a ∷ K) ts) → Comes s (reading D (a ∷ many (λ k. not (q k)) a ∷ K) ts)
once_more_not q {s = s} {D = D} {a = a} {K = K} {ts = []} h c = let f = c.finish in cc
once_more_not q {s = s} {D = D} {a = a} {K = K} {ts = k ∷ ts} h c = once_more {s = s} {D = D} {q = λ j. not (q j)} {a = a} {K = K} {ts = k ∷ ts} (ap not h) c

pub no_more_not : (q : Test) {s : State} {D : Depths} {a : Rule} {K : List Rule} {ts : List Token} → next_is q ts ≡ true
    → Comes s (reading D (many (λ k. not (q k)) a ∷ K) ts) → Comes s (reading D K ts)
no_more_not q {s = s} {D = D} {a = a} {K = K} {ts = []} h c = cc
no_more_not q {s = s} {D = D} {a = a} {K = K} {ts = k ∷ ts} h c = no_more {s = s} {D = D} {q = λ j. not (q j)} {a = a} {K = K} {ts = k ∷ ts} (ap not h) c

-- The items one by one are the items of the block.
pub items_each : (xs : List (BlockItem made.Stmt)) (r : List Token) → each spell_item xs r ≡ spell_items (items_view xs) r
items_each [] r = refl
items_each (b.Mapping x ∷ xs) r = ap (spell_mapping x) (items_each xs r)
items_each (b.Declaration x ∷ xs) r = ap (spell_declaration x) (items_each xs r)
items_each (b.Stmt x ∷ xs) r = ap (spell_stmt (stmt_view x)) (items_each xs r)

pub items_fit : (xs : List (BlockItem made.Stmt)) → Each FitsItem xs → FitsItems (items_view xs)
items_fit [] f = tt
items_fit (b.Mapping x ∷ xs) f = (f.0.0, items_fit xs f.1)
items_fit (b.Declaration x ∷ xs) f = (f.0.0, items_fit xs f.1)
items_fit (b.Stmt x ∷ xs) f = (f.0.0, items_fit xs f.1)
