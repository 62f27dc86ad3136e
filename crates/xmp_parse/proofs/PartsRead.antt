-- The parts of a program that are read so far.
use Rattle.std.proofs.Common.{◌≡◌, ◌≤◌, ◌<◌, ℕ, Bool, true, false, List, [], ◌∷◌, ◌++◌, length, refl, sym, ap, ◌∙◌, subst, arith}
use Rattle.std.specs.Prelude.{◌&&◌, ⊤}
use Rattle.xmp_lex.specs.declared.token.Token.{Token}
use Rattle.xmp_syntax.specs.declared.program.Function.{Function}
use Rattle.xmp_syntax.specs.declared.program.TopItem.{TopItem}
use Rattle.xmp_syntax.specs.declared.program.TopItem.TheVariants as top
use Rattle.xmp_syntax.specs.Parts as p
use Rattle.xmp_syntax.specs.Reading.{Rule, part, plain, tok, Depths, State, reading}
use Rattle.xmp_syntax.specs.Grammar.{is_finish}
use Rattle.xmp_syntax.specs.Spell.{each, top_item}
use Rattle.xmp_syntax.specs.Fits.{Each, FitsTop, EndsInFunction}
use Rattle.xmp_reader.specs.declared.reader.Reader.{Reader}
use Rattle.xmp_reader.specs.Going.{Comes, stands}
use Rattle.xmp_reader.specs.Kinds.{next_is}
use Rattle.xmp_parse.specs.Programs.{is_function, behind_part, LastIs}
use Rattle.xmp_reader.proofs.Listing.{if_so, if_not, each_more, fits_more}

-- The reading has come behind these parts; whether the last of them is a function.
pub record PartsSoFar (r : Reader) (xs : List TopItem) (last : Bool) (rest : Reader) : Type 0 where
  pub goes : (s : State) (L : List (ℕ × ℕ)) (K : List Rule) → Comes s (stands L (part p.program ∷ K) r) → Comes s (stands L (behind_part last ∷ K) rest)
  pub reads : r.tokens.now ≡ each top_item xs rest.tokens.now
  pub ends : LastIs last xs
  pub fits : Each FitsTop xs

-- another part is to come
pub next_part : (b : Bool) {s : State} {D : Depths} {K : List Rule} {ts : List Token} → b && next_is is_finish ts ≡ false → Comes s (reading D (behind_part b ∷ K) ts) → Comes s (reading D (part p.program ∷ K) ts)
next_part true h c = if_not h c
next_part false h c = c

-- the end of the text is to come
pub at_end : (b : Bool) {s : State} {D : Depths} {K : List Rule} {ts : List Token} → b && next_is is_finish ts ≡ true → Comes s (reading D (behind_part b ∷ K) ts) → Comes s (reading D (tok plain is_finish ∷ K) ts)
at_end true h c = if_so h c
at_end false h c = cc

pub ends_so : (b c : Bool) (xs : List TopItem) → b && c ≡ true → LastIs b xs → EndsInFunction xs
ends_so true c xs h e = e
ends_so false c xs h e = cc

ends_more : (xs : List TopItem) (y : Function) → EndsInFunction (xs ++ top.Function y ∷ [])
ends_more [] y = tt
ends_more (top.Mapping x ∷ []) y = tt
ends_more (top.Mapping x ∷ z ∷ xs) y = ends_more (z ∷ xs) y
ends_more (top.Declaration x ∷ []) y = tt
ends_more (top.Declaration x ∷ z ∷ xs) y = ends_more (z ∷ xs) y
ends_more (top.Function x ∷ []) y = tt
ends_more (top.Function x ∷ z ∷ xs) y = ends_more (z ∷ xs) y

last_more : (x : TopItem) (xs : List TopItem) → LastIs (is_function x) (xs ++ x ∷ [])
last_more (top.Mapping x) xs = tt
last_more (top.Declaration x) xs = tt
last_more (top.Function x) xs = ends_more xs x

pub no_parts : (r : Reader) → PartsSoFar r [] false r
no_parts r = record { goes = λ s L K w. w; reads = refl; ends = tt; fits = tt }

pub one_part : (r a b : Reader) (xs new : List TopItem) (last now : Bool) (x : TopItem) → new ≡ xs ++ x ∷ [] → now ≡ is_function x → PartsSoFar r xs last a
    → ((s : State) (L : List (ℕ × ℕ)) (K : List Rule) → Comes s (stands L (behind_part last ∷ K) a) → Comes s (stands L (behind_part (is_function x) ∷ K) b))
    → a.tokens.now ≡ top_item x b.tokens.now → FitsTop x → PartsSoFar r new now b
one_part r a b xs new last now x e i o g q f =
    subst (λ (l : List TopItem). PartsSoFar r l now b) (sym e) (subst (λ (l : Bool). PartsSoFar r (xs ++ x ∷ []) l b) (sym i) (record {
      goes = λ s L K w. g s L K (o.goes s L K w);
      reads = o.reads ∙ (ap (each top_item xs) q ∙ sym (each_more TopItem top_item xs x b.tokens.now));
      ends = last_more x xs;
      fits = fits_more TopItem FitsTop xs x o.fits f;
    }))
