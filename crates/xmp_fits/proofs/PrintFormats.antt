-- A format that is read byte by byte is built of pieces.
use Rattle.std.proofs.Common.{◌≡◌, ◌∙◌, sym, ap, refl, subst, ◌++◌, ◌∷◌, [], ◌+◌, ◌-◌, ◌*◌, ◌/◌, ◌%◌, ◌<◌, ◌≤◌, ◌&&◌, not, ℕ, Bool, true, false, List, Option, Some, None, map, arith, append_assoc, eqb-true}
use Rattle.std.specs.Prelude.{⊤, ◌==◌, nat_eq, nat_lt, if◌then◌else◌}
use Rattle.std.specs.List.{list_all, flat_map}
use Rattle.std.specs.Fmt.{decimal}
use Rattle.std.proofs.lemmas.Bool.{ltb-true, ltb-false, le-leb}
use Rattle.std.proofs.lemmas.Fmt.{decimal_step, decimal_digit}
use Rattle.std.proofs.lemmas.List.{append-nil}
use Rattle.std.proofs.lemmas.Option.{same_Some, none-some}
use Rattle.xmp_num.specs.declared.types.Ty.{Ty}
use Rattle.xmp_num.specs.declared.types.Ty.TheVariants.{Int, Long}
use Rattle.xmp_prog.specs.Formats.{Piece, Byte, Percent, Number, width_spelling, spelling, is_piece, type_asked, IsFormat}
use Rattle.xmp_names.specs.declared.formats.Mode.{Mode}
use Rattle.xmp_names.specs.declared.formats.Mode.TheVariants as m
use Rattle.xmp_names.specs.Formats.{is_digit, letter, wider, after_byte, ended, conversion, conversions, agrees, all_agree, fits_types, fits_format}
use Rattle.xmp_parts.proofs.Unbroken.{left_true, right_true, both_true}

-- ---- one byte

-- What was read of a piece that isn't whole yet.
abbrev Begun : Mode → List ℕ → Type 0
Begun m.Outside pre = pre ≡ []
Begun m.Percent pre = pre ≡ 37 ∷ []
Begun (m.Width n) pre = (1 ≤ n) × (n ≤ 255) × (pre ≡ 37 ∷ decimal n)
Begun m.Letter pre = (n : ℕ) × (n ≤ 255) × (pre ≡ 37 ∷ (width_spelling n ++ 108 ∷ []))
Begun m.Wrong pre = ⊤

-- A byte ends a piece, or goes on with it.
data Goes (pre : List ℕ) (b : ℕ) : Mode → Option Ty → Type 0 where
  ends : {asked : Option Ty} (x : Piece) → is_piece x ≡ true → spelling x ≡ pre ++ b ∷ [] → type_asked x ≡ conversion asked → Goes pre b m.Outside asked
  more : {after : Mode} → Begun after (pre ++ b ∷ []) → Goes pre b after None

spelled_width : (n : ℕ) → 1 ≤ n → width_spelling n ≡ decimal n
spelled_width n h = at (n == 0) refl
  where
    at : (t : Bool) → (n == 0) ≡ t → (if t then [] else decimal n) ≡ decimal n
    at true e = let z = eqb-true n 0 e in absurd (omega arith)
    at false e = refl

outside_goes : (b : ℕ) (t : Bool) → nat_eq b 37 ≡ t → Goes [] b (if t then m.Percent else m.Outside) None
outside_goes b true h = more (ap (λ n. n ∷ []) (eqb-true b 37 h))
outside_goes b false h = ends (Byte b) (ap not h) refl refl

-- `d` and `l` behind a width or none
letter_goes : (n : ℕ) (b : ℕ) (d l : Bool) → n ≤ 255 → nat_eq b 100 ≡ d → nat_eq b 108 ≡ l → Goes (37 ∷ width_spelling n) b (if d then m.Outside else (if l then m.Letter else m.Wrong)) (if d then Some Int else None)
letter_goes n b true l h e f = ends (Number n Int) (le-leb n 255 h) (ap (λ c. 37 ∷ (width_spelling n ++ c ∷ [])) (sym (eqb-true b 100 e))) refl
letter_goes n b false true h e f = more (n, h, ap (λ c. 37 ∷ (width_spelling n ++ c ∷ [])) (eqb-true b 108 f))
letter_goes n b false false h e f = more tt

no_letter : (b : ℕ) (d : Bool) → b < 58 → nat_eq b 100 ≡ d → (if d then Some Int else None) ≡ None
no_letter b true h e = let z = eqb-true b 100 e in absurd (omega arith)
no_letter b false h e = refl

-- a digit of the width
first_digit : (b : ℕ) (t : Bool) → 48 < b → b < 58 → nat_lt 255 (0 * 10 + (b - 48)) ≡ t → Goes (37 ∷ []) b (if t then m.Wrong else m.Width (0 * 10 + (b - 48))) None
first_digit b true h k e = more tt
first_digit b false h k e = more (omega arith, ltb-false 255 (0 * 10 + (b - 48)) e, ap (λ l. 37 ∷ l) (sym (decimal_digit (0 * 10 + (b - 48)) (omega arith) ∙ ap (λ n. n ∷ []) (omega arith))))

next_digit : (n b : ℕ) (t : Bool) → 1 ≤ n → 47 < b → b < 58 → nat_lt 255 (n * 10 + (b - 48)) ≡ t → Goes (37 ∷ decimal n) b (if t then m.Wrong else m.Width (n * 10 + (b - 48))) None
next_digit n b true s h k e = more tt
next_digit n b false s h k e =
    let v : ℕ = n * 10 + (b - 48) in
    let few : v ≤ 255 = ltb-false 255 v e in
    let q : v / 10 ≡ n = omega arith in
    let r : 48 + v % 10 ≡ b = omega arith in
    more (omega arith, few, ap (λ l. 37 ∷ l) (sym (decimal_step v (omega arith) (omega arith) ∙ (ap (λ c. decimal c ++ (48 + v % 10) ∷ []) q ∙ ap (λ c. decimal n ++ c ∷ []) r))))

goes_as : (pre : List ℕ) (b : ℕ) (after : Mode) (asked other : Option Ty) → other ≡ asked → Goes pre b after asked → Goes pre b after other
goes_as pre b after asked other h g = subst (Goes pre b after) (sym h) g

percent_goes : (b : ℕ) (p d : Bool) → nat_eq b 37 ≡ p → (is_digit b && nat_lt 48 b) ≡ d →
    Goes (37 ∷ []) b (if p then m.Outside else (if d then wider 0 b else letter b)) (if nat_eq b 100 then Some Int else None)
percent_goes b true d h k = goes_as (37 ∷ []) b m.Outside None _ (let z = eqb-true b 37 h in no_letter b (nat_eq b 100) (omega arith) refl) (ends Percent refl (ap (λ c. 37 ∷ c ∷ []) (sym (eqb-true b 37 h))) refl)
percent_goes b false true h k =
    let digit = left_true (is_digit b) _ k in
    let low = ltb-true 48 b (right_true (is_digit b) _ k) in
    let high = ltb-true b 58 (right_true (nat_lt 47 b) _ digit) in
    goes_as (37 ∷ []) b (wider 0 b) None _ (no_letter b (nat_eq b 100) high refl) (first_digit b (nat_lt 255 (0 * 10 + (b - 48))) low high refl)
percent_goes b false false h k = letter_goes 0 b (nat_eq b 100) (nat_eq b 108) (omega arith) refl refl

width_goes : (n b : ℕ) (d : Bool) → 1 ≤ n → n ≤ 255 → is_digit b ≡ d → Goes (37 ∷ decimal n) b (if d then wider n b else letter b) (if nat_eq b 100 then Some Int else None)
width_goes n b true s f k =
    let low = ltb-true 47 b (left_true (nat_lt 47 b) _ k) in
    let high = ltb-true b 58 (right_true (nat_lt 47 b) _ k) in
    goes_as (37 ∷ decimal n) b (wider n b) None _ (no_letter b (nat_eq b 100) high refl) (next_digit n b (nat_lt 255 (n * 10 + (b - 48))) s low high refl)
width_goes n b false s f k = subst (λ l. Goes (37 ∷ l) b (letter b) (if nat_eq b 100 then Some Int else None)) (spelled_width n s) (letter_goes n b (nat_eq b 100) (nat_eq b 108) f refl refl)

long_goes : (n b : ℕ) (d : Bool) → n ≤ 255 → nat_eq b 100 ≡ d → Goes (37 ∷ (width_spelling n ++ 108 ∷ [])) b (if d then m.Outside else m.Wrong) (if d then Some Long else None)
long_goes n b true h e =
    ends (Number n Long) (le-leb n 255 h) (ap (λ c. 37 ∷ (width_spelling n ++ 108 ∷ c ∷ [])) (sym (eqb-true b 100 e)) ∙ ap (λ l. 37 ∷ l) (sym (append_assoc (width_spelling n) (108 ∷ []) (b ∷ [])))) refl
long_goes n b false h e = more tt

byte_goes : (mode : Mode) (pre : List ℕ) (b : ℕ) → Begun mode pre → Goes pre b (after_byte mode b) (ended mode b)
byte_goes m.Outside pre b h = subst (λ l. Goes l b (after_byte m.Outside b) None) (sym h) (outside_goes b (nat_eq b 37) refl)
byte_goes m.Percent pre b h = subst (λ l. Goes l b (after_byte m.Percent b) (ended m.Percent b)) (sym h) (percent_goes b (nat_eq b 37) (is_digit b && nat_lt 48 b) refl refl)
byte_goes (m.Width n) pre b h = subst (λ l. Goes l b (after_byte (m.Width n) b) (ended (m.Width n) b)) (sym h.2) (width_goes n b (is_digit b) h.0 h.1 refl)
byte_goes m.Letter pre b h = subst (λ l. Goes l b (after_byte m.Letter b) (ended m.Letter b)) (sym h.2) (long_goes h.0 b (nat_eq b 100) h.1 refl)
byte_goes m.Wrong pre b h = more tt

-- ---- all bytes

record Built (pre bytes : List ℕ) (done cs : List Ty) : Type 0 where
  pieces : List Piece
  fit : list_all is_piece pieces ≡ true
  spelled : flat_map spelling pieces ≡ pre ++ bytes
  asked : done ++ flat_map type_asked pieces ≡ cs

conversions_step : (mode : Mode) (done : List Ty) (b : ℕ) (bs : List ℕ) → conversions mode done (b ∷ bs) ≡ conversions (after_byte mode b) (done ++ conversion (ended mode b)) bs
conversions_step m.Outside done b bs = refl
conversions_step m.Percent done b bs = refl
conversions_step (m.Width n) done b bs = refl
conversions_step m.Letter done b bs = refl
conversions_step m.Wrong done b bs = refl

with_byte : (pre : List ℕ) (b : ℕ) (bs : List ℕ) (done cs : List Ty) (after : Mode) (asked : Option Ty) → Goes pre b after asked →
    ((pre : List ℕ) → Begun after pre → Built pre bs (done ++ conversion asked) cs) → Built pre (b ∷ bs) done cs
with_byte pre b bs done cs m.Outside asked (ends x fit spelled types) f =
    let r = f [] refl in
    record {
      pieces = x ∷ r.pieces;
      fit = both_true (is_piece x) _ fit r.fit;
      spelled = ap (λ l. l ++ flat_map spelling r.pieces) spelled ∙ (ap (λ l. (pre ++ b ∷ []) ++ l) r.spelled ∙ append_assoc pre (b ∷ []) bs);
      asked = ap (λ l. done ++ (l ++ flat_map type_asked r.pieces)) types ∙ (sym (append_assoc done (conversion asked) (flat_map type_asked r.pieces)) ∙ r.asked);
    }
with_byte pre b bs done cs after None (more h) f =
    let r = f (pre ++ b ∷ []) h in
    record {
      pieces = r.pieces;
      fit = r.fit;
      spelled = r.spelled ∙ append_assoc pre (b ∷ []) bs;
      asked = ap (λ l. l ++ flat_map type_asked r.pieces) (sym (append-nil done)) ∙ r.asked;
    }

built : (bytes : List ℕ) (mode : Mode) (pre : List ℕ) (done cs : List Ty) → Begun mode pre → conversions mode done bytes ≡ Some cs → Built pre bytes done cs
built [] m.Outside pre done cs h e = record { pieces = []; fit = refl; spelled = sym (append-nil pre ∙ h); asked = append-nil done ∙ same_Some done cs e }
built [] m.Percent pre done cs h e = absurd (none-some cs e)
built [] (m.Width n) pre done cs h e = absurd (none-some cs e)
built [] m.Letter pre done cs h e = absurd (none-some cs e)
built [] m.Wrong pre done cs h e = absurd (none-some cs e)
built (b ∷ bs) mode pre done cs h e =
    with_byte pre b bs done cs (after_byte mode b) (ended mode b) (byte_goes mode pre b h)
    (λ l g. built bs (after_byte mode b) l (done ++ conversion (ended mode b)) cs g (sym (conversions_step mode done b bs) ∙ e))

-- ---- the types

agree_same : (a b : Ty) → agrees a (Some b) ≡ true → a ≡ b
agree_same Int Int h = refl
agree_same Long Long h = refl
agree_same Int Long h = absurd (cc)
agree_same Long Int h = absurd (cc)

all_same : (cs tys : List Ty) → all_agree cs (map Some tys) ≡ true → cs ≡ tys
all_same [] [] h = refl
all_same [] (t ∷ ts) h = absurd (cc)
all_same (c ∷ cs) [] h = absurd (cc)
all_same (c ∷ cs) (t ∷ ts) h = ap (λ x. x ∷ cs) (agree_same c t (left_true (agrees c (Some t)) _ h)) ∙ ap (λ l. t ∷ l) (all_same cs ts (right_true (agrees c (Some t)) _ h))

read_format : (bytes : List ℕ) (tys : List Ty) (o : Option (List Ty)) → conversions m.Outside [] bytes ≡ o → fits_types o (map Some tys) ≡ true → IsFormat bytes tys
read_format bytes tys None e h = absurd (cc)
read_format bytes tys (Some cs) e h =
    let r = built bytes m.Outside [] [] cs refl e in
    record { pieces = r.pieces; pieces_fit = r.fit; spelled = r.spelled; types_asked = r.asked ∙ all_same cs tys h }

pub is_format : (bytes : List ℕ) (tys : List Ty) → fits_format bytes (map Some tys) ≡ true → IsFormat bytes tys
is_format bytes tys h = read_format bytes tys (conversions m.Outside [] bytes) refl h
