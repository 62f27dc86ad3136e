-- The words of directives' lines settle the rule.
use Rattle.std.proofs.Common.{◌≡◌, ℕ, Bool, true, false, cond, List, [], ◌∷◌, length, refl, sym, ap, ◌∙◌, subst, Option, None, Some}
use Rattle.std.specs.Prelude.{codes}
use Rattle.xmp_lex.specs.declared.token.Token.{Token}
use Rattle.xmp_lex.specs.declared.token.TokenKind.{TokenKind}
use Rattle.xmp_lex.specs.declared.token.TokenKind.TheVariants as t
use Rattle.xmp_base.specs.declared.place.Place.{Place}
use Rattle.xmp_syntax.specs.Spell.{◌at◌}
use Rattle.xmp_syntax.specs.Parts as p
use Rattle.xmp_syntax.specs.Parts.{Part}
use Rattle.xmp_syntax.specs.Reading.{plain, Rule, tok, by, Depths, State, reading, goes}
use Rattle.xmp_syntax.specs.Grammar.{rule, same_text, mapping_of, directive_named, directive_of, line_of}
use Rattle.xmp_syntax.specs.Steps.{StuckAt}
use Rattle.xmp_line_reader.specs.declared.words.MappingWord.{MappingWord}
use Rattle.xmp_line_reader.specs.declared.words.MappingWord.TheVariants as mw
use Rattle.xmp_line_reader.specs.declared.words.DirectiveWord.{DirectiveWord}
use Rattle.xmp_line_reader.specs.declared.words.DirectiveWord.TheVariants as dw
use Rattle.xmp_reader.specs.Going.{Comes}
use Rattle.xmp_line_reader.specs.Lines.{part_of_mapping, mapping_word_next, part_of_directive, directive_word_next, Agree}
use Rattle.xmp_reader.proofs.Taking.{silent, one_stuck}

by_this : (s : State) (D : Depths) (f : TokenKind → Part) (K : List Rule) (k : Token) (ts : List Token) (P : Part) → f k.kind ≡ P → Comes s (reading D (by f ∷ K) (k ∷ ts)) → Comes s (reading D (rule P ∷ K) (k ∷ ts))
by_this s D f K k ts P e w = silent s _ _ (ap (λ (x : Part). goes [] (reading D (rule x ∷ K) (k ∷ ts))) e) refl w

-- one of five words, or none
five : (a b c d e : Bool) (other : Part) (w : MappingWord) → cond a (Some mw.Nodes) (cond b (Some mw.Template) (cond c (Some mw.Distribute) (cond d (Some mw.Align) (cond e (Some mw.Shadow) None)))) ≡ Some w
    → cond a p.nodes (cond b p.template (cond c p.distribute (cond d p.align (cond e p.shadow other)))) ≡ part_of_mapping w
five true b c d e other w h = let z : mw.Nodes ≡ w = cc in ap part_of_mapping z
five false true c d e other w h = let z : mw.Template ≡ w = cc in ap part_of_mapping z
five false false true d e other w h = let z : mw.Distribute ≡ w = cc in ap part_of_mapping z
five false false false true e other w h = let z : mw.Align ≡ w = cc in ap part_of_mapping z
five false false false false true other w h = let z : mw.Shadow ≡ w = cc in ap part_of_mapping z
five false false false false false other w h = cc

no_five : (a b c d e : Bool) (other : Part) → cond a (Some mw.Nodes) (cond b (Some mw.Template) (cond c (Some mw.Distribute) (cond d (Some mw.Align) (cond e (Some mw.Shadow) None)))) ≡ None
    → cond a p.nodes (cond b p.template (cond c p.distribute (cond d p.align (cond e p.shadow other)))) ≡ other
no_five true b c d e other h = cc
no_five false true c d e other h = cc
no_five false false true d e other h = cc
no_five false false false true e other h = cc
no_five false false false false true other h = cc
no_five false false false false false other h = refl

mapping_kind : (x : TokenKind) (q : Place) (ts : List Token) (w : MappingWord) → mapping_word_next ((x at q) ∷ ts) ≡ Some w → mapping_of x ≡ part_of_mapping w
mapping_kind (t.Name n) q ts w h = five (same_text (codes "nodes") n) (same_text (codes "template") n) (same_text (codes "distribute") n) (same_text (codes "align") n) (same_text (codes "shadow") n) p.no_part w h
mapping_kind (t.Word a) q ts w h = cc
mapping_kind (t.Number a b) q ts w h = cc
mapping_kind (t.Text a) q ts w h = cc
mapping_kind (t.Mark a) q ts w h = cc
mapping_kind (t.Define a) q ts w h = cc
mapping_kind t.Pragma q ts w h = cc
mapping_kind t.Close q ts w h = cc
mapping_kind t.Finish q ts w h = cc

no_mapping_kind : (x : TokenKind) (q : Place) (ts : List Token) → mapping_word_next ((x at q) ∷ ts) ≡ None → mapping_of x ≡ p.no_part
no_mapping_kind (t.Name n) q ts h = no_five (same_text (codes "nodes") n) (same_text (codes "template") n) (same_text (codes "distribute") n) (same_text (codes "align") n) (same_text (codes "shadow") n) p.no_part h
no_mapping_kind (t.Word a) q ts h = refl
no_mapping_kind (t.Number a b) q ts h = refl
no_mapping_kind (t.Text a) q ts h = refl
no_mapping_kind (t.Mark a) q ts h = refl
no_mapping_kind (t.Define a) q ts h = refl
no_mapping_kind t.Pragma q ts h = refl
no_mapping_kind t.Close q ts h = refl
no_mapping_kind t.Finish q ts h = refl

pub by_mapping : {s : State} {D : Depths} {K : List Rule} {ts : List Token} (w : MappingWord) → mapping_word_next ts ≡ Some w → Comes s (reading D (by mapping_of ∷ K) ts) → Comes s (reading D (rule (part_of_mapping w) ∷ K) ts)
by_mapping {s = s} {D = D} {K = K} {ts = []} w h c = cc
by_mapping {s = s} {D = D} {K = K} {ts = k ∷ ts} w h c = by_this s D mapping_of K k ts (part_of_mapping w) (mapping_kind k.kind k.at ts w h) c

pub by_no_mapping : (s : State) (D : Depths) (K : List Rule) (ts : List Token) → mapping_word_next ts ≡ None → Comes s (reading D (by mapping_of ∷ K) ts) → StuckAt s (length ts)
by_no_mapping s D K [] h c = let f = c.finish in cc
by_no_mapping s D K (k ∷ ts) h c = one_stuck plain (λ j. false) D K k ts s refl (by_this s D mapping_of K k ts p.no_part (no_mapping_kind k.kind k.at ts h) c)

-- one of seven words, or none
seven : (a b c d e f g : Bool) (w : DirectiveWord) → cond a (Some dw.Loop) (cond b (Some dw.Reflect) (cond c (Some dw.Barrier) (cond d (Some dw.Bcast) (cond e (Some dw.Gmove) (cond f (Some dw.Task) (cond g (Some dw.Tasks) None)))))) ≡ Some w
    → cond a p.loop (cond b p.reflect (cond c p.barrier (cond d p.bcast (cond e p.gmove (cond f p.task (cond g p.tasks p.no_part)))))) ≡ part_of_directive w
seven true b c d e f g w h = let z : dw.Loop ≡ w = cc in ap part_of_directive z
seven false true c d e f g w h = let z : dw.Reflect ≡ w = cc in ap part_of_directive z
seven false false true d e f g w h = let z : dw.Barrier ≡ w = cc in ap part_of_directive z
seven false false false true e f g w h = let z : dw.Bcast ≡ w = cc in ap part_of_directive z
seven false false false false true f g w h = let z : dw.Gmove ≡ w = cc in ap part_of_directive z
seven false false false false false true g w h = let z : dw.Task ≡ w = cc in ap part_of_directive z
seven false false false false false false true w h = let z : dw.Tasks ≡ w = cc in ap part_of_directive z
seven false false false false false false false w h = cc

no_seven : (a b c d e f g : Bool) → cond a (Some dw.Loop) (cond b (Some dw.Reflect) (cond c (Some dw.Barrier) (cond d (Some dw.Bcast) (cond e (Some dw.Gmove) (cond f (Some dw.Task) (cond g (Some dw.Tasks) None)))))) ≡ None
    → cond a p.loop (cond b p.reflect (cond c p.barrier (cond d p.bcast (cond e p.gmove (cond f p.task (cond g p.tasks p.no_part)))))) ≡ p.no_part
no_seven true b c d e f g h = cc
no_seven false true c d e f g h = cc
no_seven false false true d e f g h = cc
no_seven false false false true e f g h = cc
no_seven false false false false true f g h = cc
no_seven false false false false false true g h = cc
no_seven false false false false false false true h = cc
no_seven false false false false false false false h = refl

directive_kind : (x : TokenKind) (q : Place) (ts : List Token) (w : DirectiveWord) → directive_word_next ((x at q) ∷ ts) ≡ Some w → directive_of x ≡ part_of_directive w
directive_kind (t.Name n) q ts w h = seven (same_text (codes "loop") n) (same_text (codes "reflect") n) (same_text (codes "barrier") n) (same_text (codes "bcast") n) (same_text (codes "gmove") n) (same_text (codes "task") n) (same_text (codes "tasks") n) w h
directive_kind (t.Word a) q ts w h = cc
directive_kind (t.Number a b) q ts w h = cc
directive_kind (t.Text a) q ts w h = cc
directive_kind (t.Mark a) q ts w h = cc
directive_kind (t.Define a) q ts w h = cc
directive_kind t.Pragma q ts w h = cc
directive_kind t.Close q ts w h = cc
directive_kind t.Finish q ts w h = cc

no_directive_kind : (x : TokenKind) (q : Place) (ts : List Token) → directive_word_next ((x at q) ∷ ts) ≡ None → directive_of x ≡ p.no_part
no_directive_kind (t.Name n) q ts h = no_seven (same_text (codes "loop") n) (same_text (codes "reflect") n) (same_text (codes "barrier") n) (same_text (codes "bcast") n) (same_text (codes "gmove") n) (same_text (codes "task") n) (same_text (codes "tasks") n) h
no_directive_kind (t.Word a) q ts h = refl
no_directive_kind (t.Number a b) q ts h = refl
no_directive_kind (t.Text a) q ts h = refl
no_directive_kind (t.Mark a) q ts h = refl
no_directive_kind (t.Define a) q ts h = refl
no_directive_kind t.Pragma q ts h = refl
no_directive_kind t.Close q ts h = refl
no_directive_kind t.Finish q ts h = refl

line_kind : (x : TokenKind) (q : Place) (ts : List Token) (w : MappingWord) → mapping_word_next ((x at q) ∷ ts) ≡ Some w → line_of x ≡ part_of_mapping w
line_kind (t.Name n) q ts w h = five (same_text (codes "nodes") n) (same_text (codes "template") n) (same_text (codes "distribute") n) (same_text (codes "align") n) (same_text (codes "shadow") n) (directive_named n) w h
line_kind (t.Word a) q ts w h = cc
line_kind (t.Number a b) q ts w h = cc
line_kind (t.Text a) q ts w h = cc
line_kind (t.Mark a) q ts w h = cc
line_kind (t.Define a) q ts w h = cc
line_kind t.Pragma q ts w h = cc
line_kind t.Close q ts w h = cc
line_kind t.Finish q ts w h = cc

no_line_kind : (x : TokenKind) (q : Place) (ts : List Token) → mapping_word_next ((x at q) ∷ ts) ≡ None → line_of x ≡ directive_of x
no_line_kind (t.Name n) q ts h = no_five (same_text (codes "nodes") n) (same_text (codes "template") n) (same_text (codes "distribute") n) (same_text (codes "align") n) (same_text (codes "shadow") n) (directive_named n) h
no_line_kind (t.Word a) q ts h = refl
no_line_kind (t.Number a b) q ts h = refl
no_line_kind (t.Text a) q ts h = refl
no_line_kind (t.Mark a) q ts h = refl
no_line_kind (t.Define a) q ts h = refl
no_line_kind t.Pragma q ts h = refl
no_line_kind t.Close q ts h = refl
no_line_kind t.Finish q ts h = refl

-- A directive by its word, where the choice is that of a directive.
pub by_directive : {s : State} {D : Depths} {K : List Rule} {ts : List Token} (f : TokenKind → Part) (w : DirectiveWord) → Agree f directive_of ts → directive_word_next ts ≡ Some w
    → Comes s (reading D (by f ∷ K) ts) → Comes s (reading D (rule (part_of_directive w) ∷ K) ts)
by_directive {s = s} {D = D} {K = K} {ts = []} f w a h c = cc
by_directive {s = s} {D = D} {K = K} {ts = k ∷ ts} f w a h c = by_this s D f K k ts (part_of_directive w) (a ∙ directive_kind k.kind k.at ts w h) c

pub by_no_directive : (s : State) (D : Depths) (K : List Rule) (ts : List Token) (f : TokenKind → Part) → Agree f directive_of ts → directive_word_next ts ≡ None
    → Comes s (reading D (by f ∷ K) ts) → StuckAt s (length ts)
by_no_directive s D K [] f a h c = let f = c.finish in cc
by_no_directive s D K (k ∷ ts) f a h c = one_stuck plain (λ j. false) D K k ts s refl (by_this s D f K k ts p.no_part (a ∙ no_directive_kind k.kind k.at ts h) c)

-- A line in a block is that of a mapping, or that of a directive.
pub by_line : {s : State} {D : Depths} {K : List Rule} {ts : List Token} (w : MappingWord) → mapping_word_next ts ≡ Some w
    → Comes s (reading D (by line_of ∷ K) ts) → Comes s (reading D (rule (part_of_mapping w) ∷ K) ts)
by_line {s = s} {D = D} {K = K} {ts = []} w h c = cc
by_line {s = s} {D = D} {K = K} {ts = k ∷ ts} w h c = by_this s D line_of K k ts (part_of_mapping w) (line_kind k.kind k.at ts w h) c

pub directive_in_block : (ts : List Token) → mapping_word_next ts ≡ None → Agree line_of directive_of ts
directive_in_block [] h = tt
directive_in_block (k ∷ ts) h = no_line_kind k.kind k.at ts h

-- the choice of a directive alone
pub agrees : (ts : List Token) → Agree directive_of directive_of ts
agrees [] = tt
agrees (k ∷ ts) = refl
