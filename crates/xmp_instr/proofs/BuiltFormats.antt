-- A format that is read to its end is built of pieces, and one that is built of pieces is read to its end.
use Rattle.std.proofs.Common.{◌≡◌, ◌↔◌, ◌∙◌, sym, ap, refl, subst, ◌++◌, ◌∷◌, [], ◌+◌, ◌-◌, ◌*◌, ◌/◌, ◌%◌, ◌<◌, ◌≤◌, ◌&&◌, not, ℕ, Bool, true, false, List, arith, append_assoc, eqb-true}
use Rattle.std.specs.Prelude.{◌==◌, nat_lt, if◌then◌else◌}
use Rattle.std.specs.List.{list_all, flat_map}
use Rattle.std.specs.Fmt.{decimal}
use Rattle.std.proofs.lemmas.Bool.{ltb-true, ltb-false, le-leb, leb-true, false≢true}
use Rattle.std.proofs.lemmas.Bool.Decides.{nat_tests}
use Rattle.std.proofs.lemmas.Fmt.{decimal_step, decimal_digit, decimal_by_steps}
use Rattle.std.proofs.lemmas.List.{append-nil}
use Rattle.xmp_num.specs.declared.types.Ty.{Ty}
use Rattle.xmp_num.specs.declared.types.Ty.TheVariants.{Int, Long}
use Rattle.xmp_prog.specs.Formats.{Piece, Byte, Percent, Number, width_spelling, letters, spelling, is_piece, type_asked}
use Rattle.xmp_instr.specs.declared.formats.Mode.{Mode}
use Rattle.xmp_instr.specs.declared.formats.Mode.TheVariants as m
use Rattle.xmp_instr.specs.FormatTests.{is_digit, letter, wider, after_byte, read_on}
use Rattle.xmp_instr.specs.Valid.{IsBuilt}
use Rattle.xmp_instr.proofs.Sizes.{left_true, right_true}

both_true : (a b : Bool) → a ≡ true → b ≡ true → (a && b) ≡ true
both_true a b h k = ap (λ t. t && b) h ∙ k

if_true : {A : Type 0} (t : Bool) (x y : A) → t ≡ true → (if t then x else y) ≡ x
if_true t x y e = ap (λ t. if t then x else y) e

if_false : {A : Type 0} (t : Bool) (x y : A) → t ≡ false → (if t then x else y) ≡ y
if_false t x y e = ap (λ t. if t then x else y) e

-- ---- one byte of a format that is read

-- what was read of a piece that isn't whole yet
abbrev Begun : Mode → List ℕ → Type 0
Begun m.Outside pre = pre ≡ []
Begun m.Percent pre = pre ≡ 37 ∷ []
Begun (m.Width n) pre = (1 ≤ n) × (n ≤ 255) × (pre ≡ 37 ∷ decimal n)
Begun m.Letter pre = (n : ℕ) × (n ≤ 255) × (pre ≡ 37 ∷ (width_spelling n ++ 108 ∷ []))
Begun m.Wrong pre = ⊥

-- a byte ends a piece, or goes on with it, or nothing is right
data Goes (pre : List ℕ) (b : ℕ) : Mode → Type 0 where
  ends : (x : Piece) → is_piece x ≡ true → spelling x ≡ pre ++ b ∷ [] → Goes pre b m.Outside
  more : {after : Mode} → Begun after (pre ++ b ∷ []) → Goes pre b after
  wrong : Goes pre b m.Wrong

spelled_width : (n : ℕ) → 1 ≤ n → width_spelling n ≡ decimal n
spelled_width n h = at (n == 0) refl
  where
    at : (t : Bool) → (n == 0) ≡ t → (if t then [] else decimal n) ≡ decimal n
    at true e = let z = eqb-true n 0 e in absurd (omega arith)
    at false e = refl

outside_goes : (b : ℕ) (t : Bool) → (b == 37) ≡ t → Goes [] b (if t then m.Percent else m.Outside)
outside_goes b true h = more (ap (λ n. n ∷ []) (eqb-true b 37 h))
outside_goes b false h = ends (Byte b) (ap not h) refl

-- `d` and `l` behind a width or none
letter_goes : (n : ℕ) (b : ℕ) (d l : Bool) → n ≤ 255 → (b == 100) ≡ d → (b == 108) ≡ l → Goes (37 ∷ width_spelling n) b (if d then m.Outside else (if l then m.Letter else m.Wrong))
letter_goes n b true l h e f = ends (Number n Int) (le-leb n 255 h) (ap (λ c. 37 ∷ (width_spelling n ++ c ∷ [])) (sym (eqb-true b 100 e)))
letter_goes n b false true h e f = more (n, h, ap (λ c. 37 ∷ (width_spelling n ++ c ∷ [])) (eqb-true b 108 f))
letter_goes n b false false h e f = wrong

-- a digit of the width
first_digit : (b : ℕ) (t : Bool) → 48 < b → b < 58 → nat_lt 255 (0 * 10 + (b - 48)) ≡ t → Goes (37 ∷ []) b (if t then m.Wrong else m.Width (0 * 10 + (b - 48)))
first_digit b true h k e = wrong
first_digit b false h k e = more (omega arith, ltb-false 255 (0 * 10 + (b - 48)) e, ap (λ l. 37 ∷ l) (sym (decimal_digit (0 * 10 + (b - 48)) (omega arith) ∙ ap (λ n. n ∷ []) (omega arith))))

next_digit : (n b : ℕ) (t : Bool) → 1 ≤ n → 47 < b → b < 58 → nat_lt 255 (n * 10 + (b - 48)) ≡ t → Goes (37 ∷ decimal n) b (if t then m.Wrong else m.Width (n * 10 + (b - 48)))
next_digit n b true s h k e = wrong
next_digit n b false s h k e =
    let v : ℕ = n * 10 + (b - 48) in
    let few : v ≤ 255 = ltb-false 255 v e in
    let q : v / 10 ≡ n = omega arith in
    let r : 48 + v % 10 ≡ b = omega arith in
    more (omega arith, few, ap (λ l. 37 ∷ l) (sym (decimal_step v (omega arith) (omega arith) ∙ (ap (λ c. decimal c ++ (48 + v % 10) ∷ []) q ∙ ap (λ c. decimal n ++ c ∷ []) r))))

percent_goes : (b : ℕ) (p d : Bool) → (b == 37) ≡ p → (is_digit b && nat_lt 48 b) ≡ d → Goes (37 ∷ []) b (if p then m.Outside else (if d then wider 0 b else letter b))
percent_goes b true d h k = ends Percent refl (ap (λ c. 37 ∷ c ∷ []) (sym (eqb-true b 37 h)))
percent_goes b false true h k =
    let digit = left_true (is_digit b) _ k in
    let low = ltb-true 48 b (right_true (is_digit b) _ k) in
    let high = ltb-true b 58 (right_true (nat_lt 47 b) _ digit) in
    first_digit b (nat_lt 255 (0 * 10 + (b - 48))) low high refl
percent_goes b false false h k = letter_goes 0 b (b == 100) (b == 108) (omega arith) refl refl

width_goes : (n b : ℕ) (d : Bool) → 1 ≤ n → n ≤ 255 → is_digit b ≡ d → Goes (37 ∷ decimal n) b (if d then wider n b else letter b)
width_goes n b true s f k =
    let low = ltb-true 47 b (left_true (nat_lt 47 b) _ k) in
    let high = ltb-true b 58 (right_true (nat_lt 47 b) _ k) in
    next_digit n b (nat_lt 255 (n * 10 + (b - 48))) s low high refl
width_goes n b false s f k = subst (λ l. Goes (37 ∷ l) b (letter b)) (spelled_width n s) (letter_goes n b (b == 100) (b == 108) f refl refl)

long_goes : (n b : ℕ) (d : Bool) → n ≤ 255 → (b == 100) ≡ d → Goes (37 ∷ (width_spelling n ++ 108 ∷ [])) b (if d then m.Outside else m.Wrong)
long_goes n b true h e =
    ends (Number n Long) (le-leb n 255 h) (ap (λ c. 37 ∷ (width_spelling n ++ 108 ∷ c ∷ [])) (sym (eqb-true b 100 e)) ∙ ap (λ l. 37 ∷ l) (sym (append_assoc (width_spelling n) (108 ∷ []) (b ∷ []))))
long_goes n b false h e = wrong

byte_goes : (mode : Mode) (pre : List ℕ) (b : ℕ) → Begun mode pre → Goes pre b (after_byte mode b)
byte_goes m.Outside pre b h = subst (λ l. Goes l b (after_byte m.Outside b)) (sym h) (outside_goes b (b == 37) refl)
byte_goes m.Percent pre b h = subst (λ l. Goes l b (after_byte m.Percent b)) (sym h) (percent_goes b (b == 37) (is_digit b && nat_lt 48 b) refl refl)
byte_goes (m.Width n) pre b h = subst (λ l. Goes l b (after_byte (m.Width n) b)) (sym h.2) (width_goes n b (is_digit b) h.0 h.1 refl)
byte_goes m.Letter pre b h = subst (λ l. Goes l b (after_byte m.Letter b)) (sym h.2) (long_goes h.0 b (b == 100) h.1 refl)
byte_goes m.Wrong pre b h = absurd h

-- ---- all bytes

record Built (pre bytes : List ℕ) : Type 0 where
  pieces : List Piece
  fit : list_all is_piece pieces ≡ true
  spelled : flat_map spelling pieces ≡ pre ++ bytes

wrong_stays : (bs : List ℕ) → read_on m.Wrong bs ≡ true → ⊥
wrong_stays [] h = false≢true h
wrong_stays (b ∷ bs) h = wrong_stays bs h

with_byte : (pre : List ℕ) (b : ℕ) (bs : List ℕ) (after : Mode) → Goes pre b after → read_on after bs ≡ true →
    ((pre : List ℕ) → Begun after pre → Built pre bs) → Built pre (b ∷ bs)
with_byte pre b bs m.Outside (ends x fit spelled) e f =
    let r = f [] refl in
    record {
      pieces = x ∷ r.pieces;
      fit = both_true (is_piece x) _ fit r.fit;
      spelled = ap (λ l. l ++ flat_map spelling r.pieces) spelled ∙ (ap (λ l. (pre ++ b ∷ []) ++ l) r.spelled ∙ append_assoc pre (b ∷ []) bs);
    }
with_byte pre b bs after (more h) e f =
    let r = f (pre ++ b ∷ []) h in
    record { pieces = r.pieces; fit = r.fit; spelled = r.spelled ∙ append_assoc pre (b ∷ []) bs }
with_byte pre b bs m.Wrong wrong e f = absurd (wrong_stays bs e)

built : (bytes : List ℕ) (mode : Mode) (pre : List ℕ) → Begun mode pre → read_on mode bytes ≡ true → Built pre bytes
built [] m.Outside pre h e = record { pieces = []; fit = refl; spelled = sym (append-nil pre ∙ h) }
built [] m.Percent pre h e = absurd (false≢true e)
built [] (m.Width n) pre h e = absurd (false≢true e)
built [] m.Letter pre h e = absurd (false≢true e)
built [] m.Wrong pre h e = absurd h
built (b ∷ bs) mode pre h e = with_byte pre b bs (after_byte mode b) (byte_goes mode pre b h) e (λ l g. built bs (after_byte mode b) l g e)

-- ---- pieces are read

wider_is : (w b n : ℕ) → w * 10 + (b - 48) ≡ n → n ≤ 255 → wider w b ≡ m.Width n
wider_is w b n e h = at (nat_lt 255 (w * 10 + (b - 48))) refl
  where
    at : (t : Bool) → nat_lt 255 (w * 10 + (b - 48)) ≡ t → (if t then m.Wrong else m.Width (w * 10 + (b - 48))) ≡ m.Width n
    at true f = let z = ltb-true 255 (w * 10 + (b - 48)) f in absurd (omega (arith, z, e, h))
    at false f = ap m.Width e

digit_is : (b : ℕ) → 47 < b → b < 58 → is_digit b ≡ true
digit_is b low high = grind (arith, nat_tests)

first_read : (n : ℕ) → 1 ≤ n → n < 10 → after_byte m.Percent (48 + n) ≡ m.Width n
first_read n some few =
    let no : ((48 + n) == 37) ≡ false = grind (arith, nat_tests) in
    let up : nat_lt 48 (48 + n) ≡ true = grind (arith, nat_tests) in
    if_false ((48 + n) == 37) _ _ no
    ∙ if_true (is_digit (48 + n) && nat_lt 48 (48 + n)) _ _ (both_true (is_digit (48 + n)) _ (digit_is (48 + n) (omega arith) (omega arith)) up)
    ∙ wider_is 0 (48 + n) n (omega arith) (omega arith)

next_read : (n : ℕ) → 10 ≤ n → n ≤ 255 → after_byte (m.Width (n / 10)) (48 + n % 10) ≡ m.Width n
next_read n some few =
    if_true (is_digit (48 + n % 10)) _ _ (digit_is (48 + n % 10) (omega arith) (omega arith))
    ∙ wider_is (n / 10) (48 + n % 10) n (omega arith) few

abbrev Reads : ℕ → List ℕ → Type 0
Reads n ds = 1 ≤ n → n ≤ 255 → (rest : List ℕ) → read_on m.Percent (ds ++ rest) ≡ read_on (m.Width n) rest

width_read : (n : ℕ) → 1 ≤ n → n ≤ 255 → (rest : List ℕ) → read_on m.Percent (decimal n ++ rest) ≡ read_on (m.Width n) rest
width_read n some few =
    decimal_by_steps Reads
    (λ n h one most rest. ap (λ mode. read_on mode rest) (first_read n one h))
    (λ n ds h before one most rest.
    ap (λ l. read_on m.Percent l) (append_assoc ds ((48 + n % 10) ∷ []) rest)
    ∙ before (omega (arith, h)) (omega (arith, most)) ((48 + n % 10) ∷ rest)
    ∙ ap (λ mode. read_on mode rest) (next_read n h most))
    n (omega (arith, few)) some few

letters_from_percent : (ty : Ty) (rest : List ℕ) → read_on m.Percent (letters ty ++ rest) ≡ read_on m.Outside rest
letters_from_percent Int rest = refl
letters_from_percent Long rest = refl

letters_from_width : (n : ℕ) (ty : Ty) (rest : List ℕ) → read_on (m.Width n) (letters ty ++ rest) ≡ read_on m.Outside rest
letters_from_width n Int rest = refl
letters_from_width n Long rest = refl

number_read : (n : ℕ) (ty : Ty) (rest : List ℕ) → n ≤ 255 → read_on m.Percent (width_spelling n ++ (letters ty ++ rest)) ≡ read_on m.Outside rest
number_read n ty rest few = at (n == 0) refl
  where
    at : (t : Bool) → (n == 0) ≡ t → read_on m.Percent ((if t then [] else decimal n) ++ (letters ty ++ rest)) ≡ read_on m.Outside rest
    at true e = letters_from_percent ty rest
    at false e = width_read n (let z : 1 ≤ n = grind (arith, nat_tests) in z) few (letters ty ++ rest) ∙ letters_from_width n ty rest

not_true : (t : Bool) → not t ≡ true → t ≡ false
not_true true h = absurd (false≢true h)
not_true false h = refl

piece_read : (x : Piece) (rest : List ℕ) → is_piece x ≡ true → read_on m.Outside (spelling x ++ rest) ≡ read_on m.Outside rest
piece_read (Byte b) rest h = ap (λ mode. read_on mode rest) (if_false (b == 37) _ _ (not_true (b == 37) h))
piece_read Percent rest h = refl
piece_read (Number n ty) rest h =
    ap (λ l. read_on m.Percent l) (append_assoc (width_spelling n) (letters ty) rest) ∙ number_read n ty rest (leb-true n 255 h)

pieces_read : (ps : List Piece) → list_all is_piece ps ≡ true → read_on m.Outside (flat_map spelling ps) ≡ true
pieces_read [] h = refl
pieces_read (x ∷ ps) h =
    piece_read x (flat_map spelling ps) (left_true (is_piece x) (list_all is_piece ps) h) ∙ pieces_read ps (right_true (is_piece x) (list_all is_piece ps) h)

pub built_is : (bytes : List ℕ) → (read_on m.Outside bytes ≡ true) ↔ IsBuilt bytes
built_is bytes = (
  λ h. let r = built bytes m.Outside [] refl h in
      (flat_map type_asked r.pieces, record { pieces = r.pieces; pieces_fit = r.fit; spelled = r.spelled; types_asked = refl }),
  λ f. ap (λ l. read_on m.Outside l) (sym f.1.spelled) ∙ pieces_read f.1.pieces f.1.pieces_fit,
)
