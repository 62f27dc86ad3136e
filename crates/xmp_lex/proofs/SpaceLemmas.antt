-- White space and comments.
use Rattle.std.proofs.Common.{◌≡◌, ◌≤◌, ◌<◌, ◌+◌, ℕ, List, length, arith, get_or, refl, subst, sym, ap, ◌∙◌, drop, Bool, true, inl, inr, length-drop, drop-drop, ◌==◌, ◌&&◌}
use Rattle.std.proofs.lemmas.List.{get_or_past}
use Rattle.std.proofs.lemmas.Bool.{cases_lt}
use Rattle.xmp_lex.specs.Bytes.{IsLine, IsBlock, is_white, IsFirstPlace}
use Rattle.xmp_lex.specs.Pieces.{Comment, block, line, Unclosed, IsBlockStart, IsLineStart, LineSpace, white, splice, comment, comment_splice, LineSpaces, done, more, Splice, two, three, is_spliced}

pub one_place : (P : ℕ → Type 0) (text : List ℕ) (n m : ℕ) → IsFirstPlace P text n → IsFirstPlace P text m → n ≡ m
one_place P text n m f g =
    let a : (n < m) → ⊥ = λ h. g.before n h (f.here (let w = g.within in omega arith)) in
    let b : (m < n) → ⊥ = λ h. f.before m h (g.here (let w = f.within in omega arith)) in
    omega arith

pub one_block : (text : List ℕ) (n m : ℕ) → IsBlock text n → IsBlock text m → n ≡ m
one_block text n m f g =
    let a : (n < m) → ⊥ = λ h. g.before n h f.here in
    let b : (m < n) → ⊥ = λ h. f.before m h g.here in
    omega arith

pub one_comment : (text : List ℕ) (n m : ℕ) → Comment text n → Comment text m → n ≡ m
one_comment text n m (block k _ s b e) (block j _ t d f) = let h = one_block (drop 2 text) k j b d in omega arith
one_comment text n m (block k _ s b e) (line j _ t d f) = absurd (omega arith)
one_comment text n m (line k _ s b e) (block j _ t d f) = absurd (omega arith)
one_comment text n m (line k _ s b e) (line j _ t d f) = let h = one_place (λ i. get_or (drop 2 text) i 0 ≡ 10) (drop 2 text) k j b d in omega arith

pub unclosed_comment : (text : List ℕ) (n : ℕ) → Unclosed text → Comment text n → ⊥
unclosed_comment text n o (block k _ s b e) = o.never k b.here
unclosed_comment text n o (line k _ s b e) = let w = o.begins in omega arith

pub slash : (text : List ℕ) (n : ℕ) → Comment text n → get_or text 0 0 ≡ 47
slash text n (block k _ s b e) = s.0
slash text n (line k _ s b e) = s.0

pub backslash : (text : List ℕ) (n : ℕ) → Splice text n → get_or text 0 0 ≡ 92
backslash text n (two _ a b e) = a
backslash text n (three _ a b d e) = a

pub one_splice : (text : List ℕ) (n m : ℕ) → Splice text n → Splice text m → n ≡ m
one_splice text n m (two _ a b e) (two _ c d f) = omega arith
one_splice text n m (two _ a b e) (three _ c d g f) = absurd (omega arith)
one_splice text n m (three _ a b h e) (two _ c d f) = absurd (omega arith)
one_splice text n m (three _ a b h e) (three _ c d g f) = omega arith

white_slash : (b : ℕ) → is_white b ≡ true → b ≡ 47 → ⊥
white_slash b w e = grind arith

white_back : (b : ℕ) → is_white b ≡ true → b ≡ 92 → ⊥
white_back b w e = grind arith

pub one_space : (text : List ℕ) (n m : ℕ) → LineSpace text n → LineSpace text m → n ≡ m
one_space text n m (white _ w x e) (white _ v y f) = omega arith
one_space text n m (white _ w x e) (splice _ j) = absurd (white_back _ w (backslash text m j))
one_space text n m (white _ w x e) (comment _ c d) = absurd (white_slash _ w (slash text m c))
one_space text n m (white _ w x e) (comment_splice k _ c d f) = absurd (white_slash _ w (slash text k c))
one_space text n m (splice _ j) (white _ w x e) = absurd (white_back _ w (backslash text n j))
one_space text n m (splice _ j) (splice _ i) = one_splice text n m j i
one_space text n m (splice _ j) (comment _ c d) = let a = backslash text n j in let b = slash text m c in absurd (omega arith)
one_space text n m (splice _ j) (comment_splice k _ c d f) = let a = backslash text n j in let b = slash text k c in absurd (omega arith)
one_space text n m (comment _ c d) (white _ w x e) = absurd (white_slash _ w (slash text n c))
one_space text n m (comment _ c d) (splice _ j) = let a = backslash text m j in let b = slash text n c in absurd (omega arith)
one_space text n m (comment _ c d) (comment _ b e) = one_comment text n m c b
one_space text n m (comment _ c d) (comment_splice k _ b e f) = absurd (let h = ap (is_spliced text) (one_comment text n k c b) in cc)
one_space text n m (comment_splice k _ b e f) (white _ w x g) = absurd (white_slash _ w (slash text k b))
one_space text n m (comment_splice k _ b e f) (splice _ j) = let a = backslash text m j in let g = slash text k b in absurd (omega arith)
one_space text n m (comment_splice k _ b e f) (comment _ c d) = absurd (let h = ap (is_spliced text) (one_comment text m k c b) in cc)
one_space text n m (comment_splice k _ b e f) (comment_splice j _ c d g) = let h = one_comment text k j b c in omega arith

pub open_space : (text : List ℕ) (n : ℕ) → Unclosed text → LineSpace text n → ⊥
open_space text n o (white _ w x e) = white_slash _ w o.begins.0
open_space text n o (splice _ j) = let a = backslash text n j in let b = o.begins.0 in omega arith
open_space text n o (comment _ c d) = unclosed_comment text n o c
open_space text n o (comment_splice k _ c d e) = unclosed_comment text k o c

pub one_spaces : (text : List ℕ) (n m : ℕ) → LineSpaces text n → LineSpaces text m → n ≡ m
one_spaces text n m (done _ a b) (done _ c d) = refl
one_spaces text n m (done _ a b) (more _ k j _ g h e) = absurd (a k g)
one_spaces text n m (more _ k j _ g h e) (done _ a b) = absurd (a k g)
one_spaces text n m (more _ k j _ g h e) (more _ i l _ f d z) =
    let p = one_space text k i g f in
    let q = one_spaces (drop k text) j l h (subst (λ x. LineSpaces (drop x text) l) (sym p) d) in omega arith

pub no_spaces : (text : List ℕ) (n : ℕ) → Unclosed text → LineSpaces text n → ⊥
no_spaces text n o (done _ a b) = b o
no_spaces text n o (more _ k j _ g h e) = open_space text k o g

pub behind_space : (text : List ℕ) (k n : ℕ) → LineSpace text k → LineSpaces text n → (j : ℕ) × LineSpaces (drop k text) j
behind_space text k n g (done _ a b) = absurd (a k g)
behind_space text k n g (more _ i j _ f h e) = (j, subst (λ x. LineSpaces (drop x text) j) (one_space text i k f g) h)

-- the loop over line_spaces
pub record Along (text rest : List ℕ) (n : ℕ) : Type 0 where
  pub rest_is : rest ≡ drop n text
  pub within : n ≤ length text
  pub there : (k : ℕ) → LineSpaces rest k → LineSpaces text (n + k)
  pub back : (k : ℕ) → LineSpaces text k → (m : ℕ) × LineSpaces rest m

pub along_start : (text : List ℕ) → Along text text 0
along_start text = record { rest_is = refl; within = omega arith; there = λ k g. subst (LineSpaces text) (omega arith) g; back = λ k g. (k, g) }

pub along_step : (text rest : List ℕ) (n k : ℕ) → Along text rest n → LineSpace rest k → k ≤ length rest → Along text (drop k rest) (n + k)
along_step text rest n k a g le = record {
  rest_is = ap (drop k) a.rest_is ∙ drop-drop k n text;
  within = (let e = ap length a.rest_is in let w = a.within in omega (arith, length-drop n text));
  there = λ j h. subst (LineSpaces text) (omega arith) (a.there (k + j) (more rest k j (k + j) g h refl));
  back = λ j h. behind_space rest k _ g (a.back j h).1;
}

pub along_end : (text rest : List ℕ) (n : ℕ) → Along text rest n → ((k : ℕ) → LineSpace rest k → ⊥) → (Unclosed rest → ⊥) → LineSpaces text n × (n ≤ length text)
along_end text rest n a g o = (subst (LineSpaces text) (omega arith) (a.there 0 (done rest g o)), a.within)

pub along_open : (text rest : List ℕ) (n : ℕ) → Along text rest n → Unclosed rest → (k : ℕ) → LineSpaces text k → ⊥
along_open text rest n a o k g = let h = a.back k g in no_spaces rest h.0 o h.1

pub inside : (text : List ℕ) (k : ℕ) → (get_or text k 0 ≡ 0 → ⊥) → k < length text
inside text k h = elim (cases_lt k (length text)) [ inl a ↦ a | inr b ↦ absurd (h (get_or_past text k 0 b)) ]

-- what the code finds
pub line_found : (text : List ℕ) (k : ℕ) → IsLineStart text → IsLine (drop 2 text) k → Comment text (k + 2) × (k + 2 ≤ length text) × (2 ≤ k + 2)
line_found text k s b = (line k (k + 2) s b refl, (let i = inside text 1 (λ e. let f = s.1 in omega arith) in let w = b.within in omega (arith, length-drop 2 text)), omega arith)

pub block_found : (text : List ℕ) (k : ℕ) → IsBlockStart text → IsBlock (drop 2 text) k → Comment text (k + 4) × (k + 4 ≤ length text) × (2 ≤ k + 4)
block_found text k s b = (block k (k + 4) s b refl, (let i = inside (drop 2 text) (k + 1) (λ e. let f = b.here.1 in omega arith) in omega (arith, length-drop 2 text)), omega arith)

pub no_splice : (text : List ℕ) → (get_or text 0 0 ≡ 92 → ⊥) → (n : ℕ) → Splice text n → ⊥
no_splice text h n j = h (backslash text n j)

pub no_splice_at : (text : List ℕ) → (get_or text 1 0 ≡ 10 → ⊥) → (get_or text 1 0 ≡ 13 → ⊥) → (n : ℕ) → Splice text n → ⊥
no_splice_at text h g n (two _ a b e) = h b
no_splice_at text h g n (three _ a b d e) = g b

pub no_splice_three : (text : List ℕ) → get_or text 1 0 ≡ 13 → (get_or text 2 0 ≡ 10 → ⊥) → (n : ℕ) → Splice text n → ⊥
no_splice_three text c h n (two _ a b e) = omega arith
no_splice_three text c h n (three _ a b d e) = h d

pub splice_fits : (text : List ℕ) (n : ℕ) → Splice text n → n ≤ length text
splice_fits text n (two _ a b e) = let i = inside text 1 (λ z. omega arith) in omega arith
splice_fits text n (three _ a b d e) = let i = inside text 2 (λ z. omega arith) in omega arith

pub splice_some : (text : List ℕ) (n : ℕ) → Splice text n → 1 ≤ n
splice_some text n (two _ a b e) = omega arith
splice_some text n (three _ a b d e) = omega arith

pub no_space : (text : List ℕ) → (IsBlockStart text → ⊥) → (IsLineStart text → ⊥) → ((n : ℕ) → Splice text n → ⊥) → (is_white (get_or text 0 0) ≡ true → get_or text 0 0 ≡ 10) → (n : ℕ) → LineSpace text n → ⊥
no_space text b l j w n (white _ a x e) = x (w a)
no_space text b l j w n (splice _ a) = j n a
no_space text b l j w n (comment _ (block k _ s d e) f) = b s
no_space text b l j w n (comment _ (line k _ s d e) f) = l s
no_space text b l j w n (comment_splice m _ (block k _ s d e) f g) = b s
no_space text b l j w n (comment_splice m _ (line k _ s d e) f g) = l s

pub spliced_fits : (text : List ℕ) (n : ℕ) → is_spliced text n ≡ true → n < length text
spliced_fits text n h = inside text n (λ e. ten (get_or text n 0) _ h e) where
  ten : (b : ℕ) (c : Bool) → ((b == 10) && c) ≡ true → b ≡ 0 → ⊥
  ten b c h e = grind arith

-- the forms that the code's goals have
pub comment_space_spliced : (text : List ℕ) (n : ℕ) → Comment text n → is_spliced text n ≡ true → LineSpace text (n + 1) × (n + 1 ≤ length text) × (1 ≤ n + 1)
comment_space_spliced text n c j = (comment_splice n (n + 1) c j refl, (let f = spliced_fits text n j in omega arith), omega arith)

pub white_found : (text : List ℕ) (b : ℕ) → b ≡ get_or text 0 0 → is_white b ≡ true → (b ≡ 10 → ⊥) → LineSpace text 1 × (1 ≤ length text) × (1 ≤ 1)
white_found text b e w n = (white 1 (ap is_white (sym e) ∙ w) (λ h. n (e ∙ h)) refl, (let i = inside text 0 (λ z. zero_white b w (e ∙ z)) in omega arith), omega arith) where
  zero_white : (c : ℕ) → is_white c ≡ true → c ≡ 0 → ⊥
  zero_white c v z = grind arith

pub no_white : (text : List ℕ) (b : ℕ) → b ≡ get_or text 0 0 → (IsBlockStart text → ⊥) × (IsLineStart text → ⊥) → ((n : ℕ) → Splice text n → ⊥) → (is_white b ≡ true → b ≡ 10) → ((n : ℕ) → LineSpace text n → ⊥) × (Unclosed text → ⊥) × (IsBlockStart text → ⊥) × (IsLineStart text → ⊥)
no_white text b e c j w = (no_space text c.0 c.1 j (λ h. sym e ∙ w (ap is_white e ∙ h)), λ o. c.0 o.begins, c.0, c.1)
