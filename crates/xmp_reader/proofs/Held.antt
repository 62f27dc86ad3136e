-- Tokens by what they hold.
use Rattle.std.proofs.Common.{◌≡◌, ◌<◌, ℕ, ℤ, zero, suc, Bool, true, false, List, [], ◌∷◌, refl, sym, ap, ◌∙◌, arith, rules, Option, None, Some}
use Rattle.std.specs.Prelude.{◌==◌, ◌&&◌, ◌||◌}
use Rattle.xmp_num.specs.declared.types.Ty.{Ty}
use Rattle.xmp_num.specs.declared.types.Ty.TheVariants as ty
use Rattle.xmp_lex.specs.declared.token.Token.{Token}
use Rattle.xmp_lex.specs.declared.token.TokenKind.{TokenKind}
use Rattle.xmp_lex.specs.declared.token.TokenKind.TheVariants as t
use Rattle.xmp_lex.specs.declared.token.Mark.{Mark}
use Rattle.xmp_lex.specs.declared.token.Mark.TheVariants as m
use Rattle.xmp_lex.specs.declared.token.Reserved.{Reserved}
use Rattle.xmp_lex.specs.declared.token.Reserved.TheVariants as w
use Rattle.xmp_syntax.specs.Reading.{Test}
use Rattle.xmp_syntax.specs.Grammar.{mark_code, word_code, same_text, is_mark, is_word, is_spelled, is_name, is_text, is_number, is_type, is_pragma, is_close, is_finish}
use Rattle.xmp_syntax.specs.Spell.{type_word}
use Rattle.xmp_reader.specs.declared.marks.Class.{Class}
use Rattle.xmp_reader.specs.declared.marks.Class.TheVariants as c
use Rattle.xmp_reader.specs.Classes.{of_class, IsClass}
use Rattle.xmp_reader.specs.Kinds.{next_is, next_kind, mark_in, next_mark, next_name, next_text, next_number, next_type, type_of_word, name_in, text_in, number_in, type_in}

abbrev nth : {A : Type 0} → A → List A → ℕ → A
nth d [] n = d
nth d (x ∷ xs) zero = x
nth d (x ∷ xs) (suc n) = nth d xs n

-- the mark of a number
abbrev mark_at : ℕ → Mark
mark_at n = nth m.Plus (m.Plus ∷ m.Minus ∷ m.Star ∷ m.Slash ∷ m.Percent ∷ m.ShiftLeft ∷ m.ShiftRight ∷ m.Less ∷ m.LessEqual ∷ m.Greater ∷ m.GreaterEqual ∷ m.Equal ∷ m.Differ ∷ m.And ∷ m.Or ∷ m.Xor ∷ m.Tilde ∷ m.Bang ∷ m.AndAnd ∷ m.OrOr ∷ m.Question ∷ m.Colon ∷ m.Assign ∷ m.AddAssign ∷ m.SubAssign ∷ m.MulAssign ∷ m.DivAssign ∷ m.RemAssign ∷ m.ShlAssign ∷ m.ShrAssign ∷ m.AndAssign ∷ m.OrAssign ∷ m.XorAssign ∷ m.Increment ∷ m.Decrement ∷ m.OpenParen ∷ m.CloseParen ∷ m.OpenBracket ∷ m.CloseBracket ∷ m.OpenBrace ∷ m.CloseBrace ∷ m.Comma ∷ m.Semicolon ∷ []) n

mark_back : (a : Mark) → mark_at (mark_code a) ≡ a
mark_back m.Plus = refl
mark_back m.Minus = refl
mark_back m.Star = refl
mark_back m.Slash = refl
mark_back m.Percent = refl
mark_back m.ShiftLeft = refl
mark_back m.ShiftRight = refl
mark_back m.Less = refl
mark_back m.LessEqual = refl
mark_back m.Greater = refl
mark_back m.GreaterEqual = refl
mark_back m.Equal = refl
mark_back m.Differ = refl
mark_back m.And = refl
mark_back m.Or = refl
mark_back m.Xor = refl
mark_back m.Tilde = refl
mark_back m.Bang = refl
mark_back m.AndAnd = refl
mark_back m.OrOr = refl
mark_back m.Question = refl
mark_back m.Colon = refl
mark_back m.Assign = refl
mark_back m.AddAssign = refl
mark_back m.SubAssign = refl
mark_back m.MulAssign = refl
mark_back m.DivAssign = refl
mark_back m.RemAssign = refl
mark_back m.ShlAssign = refl
mark_back m.ShrAssign = refl
mark_back m.AndAssign = refl
mark_back m.OrAssign = refl
mark_back m.XorAssign = refl
mark_back m.Increment = refl
mark_back m.Decrement = refl
mark_back m.OpenParen = refl
mark_back m.CloseParen = refl
mark_back m.OpenBracket = refl
mark_back m.CloseBracket = refl
mark_back m.OpenBrace = refl
mark_back m.CloseBrace = refl
mark_back m.Comma = refl
mark_back m.Semicolon = refl

abbrev word_at : ℕ → Reserved
word_at n = nth w.Int (w.Int ∷ w.Long ∷ w.Void ∷ w.If ∷ w.Else ∷ w.While ∷ w.For ∷ w.Return ∷ w.Printf ∷ w.Scanf ∷ w.SyncAll ∷ []) n

word_back : (a : Reserved) → word_at (word_code a) ≡ a
word_back w.Int = refl
word_back w.Long = refl
word_back w.Void = refl
word_back w.If = refl
word_back w.Else = refl
word_back w.While = refl
word_back w.For = refl
word_back w.Return = refl
word_back w.Printf = refl
word_back w.Scanf = refl
word_back w.SyncAll = refl

pub same_number : (a b : ℕ) → (a == b) ≡ true → a ≡ b
same_number a b e = search (rules)

pub same_mark : (a b : Mark) → (mark_code a == mark_code b) ≡ true → a ≡ b
same_mark a b e = sym (mark_back a) ∙ (ap mark_at (same_number (mark_code a) (mark_code b) e) ∙ mark_back b)

same_word : (a b : Reserved) → (word_code a == word_code b) ≡ true → a ≡ b
same_word a b e = sym (word_back a) ∙ (ap word_at (same_number (word_code a) (word_code b) e) ∙ word_back b)

both : (x y : Bool) → x && y ≡ true → (x ≡ true) × (y ≡ true)
both true true e = (refl, refl)
both true false e = cc
both false y e = cc

same_bytes : (a b : List ℕ) → same_text a b ≡ true → a ≡ b
same_bytes [] [] e = refl
same_bytes [] (b ∷ bs) e = cc
same_bytes (a ∷ as') [] e = cc
same_bytes (a ∷ as') (b ∷ bs) e =
    let w = both (a == b) (same_text as' bs) e in
    ap (λ x. x ∷ as') (same_number a b w.0) ∙ ap (λ l. b ∷ l) (same_bytes as' bs w.1)

mark_kind : (x : Mark) (k : TokenKind) → is_mark x k ≡ true → k ≡ t.Mark x
mark_kind x (t.Name a) e = cc
mark_kind x (t.Word a) e = cc
mark_kind x (t.Number a b) e = cc
mark_kind x (t.Text a) e = cc
mark_kind x (t.Mark a) e = ap (λ j. t.Mark j) (sym (same_mark x a e))
mark_kind x (t.Define a) e = cc
mark_kind x t.Pragma e = cc
mark_kind x t.Close e = cc
mark_kind x t.Finish e = cc

word_kind : (x : Reserved) (k : TokenKind) → is_word x k ≡ true → k ≡ t.Word x
word_kind x (t.Name a) e = cc
word_kind x (t.Word a) e = ap (λ j. t.Word j) (sym (same_word x a e))
word_kind x (t.Number a b) e = cc
word_kind x (t.Text a) e = cc
word_kind x (t.Mark a) e = cc
word_kind x (t.Define a) e = cc
word_kind x t.Pragma e = cc
word_kind x t.Close e = cc
word_kind x t.Finish e = cc

name_kind : (x : List ℕ) (k : TokenKind) → is_spelled x k ≡ true → k ≡ t.Name x
name_kind x (t.Name a) e = ap (λ j. t.Name j) (sym (same_bytes x a e))
name_kind x (t.Word a) e = cc
name_kind x (t.Number a b) e = cc
name_kind x (t.Text a) e = cc
name_kind x (t.Mark a) e = cc
name_kind x (t.Define a) e = cc
name_kind x t.Pragma e = cc
name_kind x t.Close e = cc
name_kind x t.Finish e = cc

pragma_kind : (k : TokenKind) → is_pragma k ≡ true → k ≡ t.Pragma
pragma_kind (t.Name a) e = cc
pragma_kind (t.Word a) e = cc
pragma_kind (t.Number a b) e = cc
pragma_kind (t.Text a) e = cc
pragma_kind (t.Mark a) e = cc
pragma_kind (t.Define a) e = cc
pragma_kind t.Pragma e = refl
pragma_kind t.Close e = cc
pragma_kind t.Finish e = cc

close_kind : (k : TokenKind) → is_close k ≡ true → k ≡ t.Close
close_kind (t.Name a) e = cc
close_kind (t.Word a) e = cc
close_kind (t.Number a b) e = cc
close_kind (t.Text a) e = cc
close_kind (t.Mark a) e = cc
close_kind (t.Define a) e = cc
close_kind t.Pragma e = cc
close_kind t.Close e = refl
close_kind t.Finish e = cc

-- A token that passes a test has this kind.
pub is_this_mark : (x : Mark) (ts : List Token) → next_is (is_mark x) ts ≡ true → next_kind ts ≡ Some (t.Mark x)
is_this_mark x [] e = cc
is_this_mark x (k ∷ ts) e = ap (λ j. Some j) (mark_kind x k.kind e)

pub is_this_word : (x : Reserved) (ts : List Token) → next_is (is_word x) ts ≡ true → next_kind ts ≡ Some (t.Word x)
is_this_word x [] e = cc
is_this_word x (k ∷ ts) e = ap (λ j. Some j) (word_kind x k.kind e)

pub is_this_name : (x : List ℕ) (ts : List Token) → next_is (is_spelled x) ts ≡ true → next_kind ts ≡ Some (t.Name x)
is_this_name x [] e = cc
is_this_name x (k ∷ ts) e = ap (λ j. Some j) (name_kind x k.kind e)

pub is_this_pragma : (ts : List Token) → next_is is_pragma ts ≡ true → next_kind ts ≡ Some t.Pragma
is_this_pragma [] e = cc
is_this_pragma (k ∷ ts) e = ap (λ j. Some j) (pragma_kind k.kind e)

pub is_this_close : (ts : List Token) → next_is is_close ts ≡ true → next_kind ts ≡ Some t.Close
is_this_close [] e = cc
is_this_close (k ∷ ts) e = ap (λ j. Some j) (close_kind k.kind e)

name_at : (k : TokenKind) (a : List ℕ) → name_in k ≡ Some a → (Some k ≡ Some (t.Name a)) × (is_name k ≡ true)
name_at (t.Name x) a e = (ap (λ j. Some (t.Name j)) (let z : x ≡ a = cc in z), refl)
name_at (t.Word x) a e = cc
name_at (t.Number x y) a e = cc
name_at (t.Text x) a e = cc
name_at (t.Mark x) a e = cc
name_at (t.Define x) a e = cc
name_at t.Pragma a e = cc
name_at t.Close a e = cc
name_at t.Finish a e = cc

name_not : (k : TokenKind) → name_in k ≡ None → is_name k ≡ false
name_not (t.Name x) e = cc
name_not (t.Word x) e = refl
name_not (t.Number x y) e = refl
name_not (t.Text x) e = refl
name_not (t.Mark x) e = refl
name_not (t.Define x) e = refl
name_not t.Pragma e = refl
name_not t.Close e = refl
name_not t.Finish e = refl

pub name_some : (ts : List Token) (a : List ℕ) → next_name ts ≡ Some a → (next_kind ts ≡ Some (t.Name a)) × (next_is is_name ts ≡ true)
name_some [] a e = cc
name_some (k ∷ ts) a e = name_at k.kind a e

pub name_none : (ts : List Token) → next_name ts ≡ None → next_is is_name ts ≡ false
name_none [] e = refl
name_none (k ∷ ts) e = name_not k.kind e

text_at : (k : TokenKind) (a : List ℕ) → text_in k ≡ Some a → (Some k ≡ Some (t.Text a)) × (is_text k ≡ true)
text_at (t.Name x) a e = cc
text_at (t.Word x) a e = cc
text_at (t.Number x y) a e = cc
text_at (t.Text x) a e = (ap (λ j. Some (t.Text j)) (let z : x ≡ a = cc in z), refl)
text_at (t.Mark x) a e = cc
text_at (t.Define x) a e = cc
text_at t.Pragma a e = cc
text_at t.Close a e = cc
text_at t.Finish a e = cc

text_not : (k : TokenKind) → text_in k ≡ None → is_text k ≡ false
text_not (t.Name x) e = refl
text_not (t.Word x) e = refl
text_not (t.Number x y) e = refl
text_not (t.Text x) e = cc
text_not (t.Mark x) e = refl
text_not (t.Define x) e = refl
text_not t.Pragma e = refl
text_not t.Close e = refl
text_not t.Finish e = refl

pub text_some : (ts : List Token) (a : List ℕ) → next_text ts ≡ Some a → (next_kind ts ≡ Some (t.Text a)) × (next_is is_text ts ≡ true)
text_some [] a e = cc
text_some (k ∷ ts) a e = text_at k.kind a e

pub text_none : (ts : List Token) → next_text ts ≡ None → next_is is_text ts ≡ false
text_none [] e = refl
text_none (k ∷ ts) e = text_not k.kind e

number_at : (k : TokenKind) (a : ℤ × Ty) → number_in k ≡ Some a → (Some k ≡ Some (t.Number a.0 a.1)) × (is_number k ≡ true)
number_at (t.Name x) a e = cc
number_at (t.Word x) a e = cc
number_at (t.Number x y) a e = (let z : (x, y) ≡ a = cc in ap (λ (j : ℤ × Ty). Some (t.Number j.0 j.1)) z, refl)
number_at (t.Text x) a e = cc
number_at (t.Mark x) a e = cc
number_at (t.Define x) a e = cc
number_at t.Pragma a e = cc
number_at t.Close a e = cc
number_at t.Finish a e = cc

number_not : (k : TokenKind) → number_in k ≡ None → is_number k ≡ false
number_not (t.Name x) e = refl
number_not (t.Word x) e = refl
number_not (t.Number x y) e = cc
number_not (t.Text x) e = refl
number_not (t.Mark x) e = refl
number_not (t.Define x) e = refl
number_not t.Pragma e = refl
number_not t.Close e = refl
number_not t.Finish e = refl

pub number_some : (ts : List Token) (a : ℤ × Ty) → next_number ts ≡ Some a → (next_kind ts ≡ Some (t.Number a.0 a.1)) × (next_is is_number ts ≡ true)
number_some [] a e = cc
number_some (k ∷ ts) a e = number_at k.kind a e

pub number_none : (ts : List Token) → next_number ts ≡ None → next_is is_number ts ≡ false
number_none [] e = refl
number_none (k ∷ ts) e = number_not k.kind e

-- the type that a word names
type_word_at : (x : Reserved) (a : Ty) → type_of_word x ≡ Some a → (x ≡ type_word a) × (is_type (t.Word x) ≡ true)
type_word_at w.Int ty.Int e = (refl, refl)
type_word_at w.Int ty.Long e = cc
type_word_at w.Long ty.Int e = cc
type_word_at w.Long ty.Long e = (refl, refl)
type_word_at w.Void ty.Int e = cc
type_word_at w.Void ty.Long e = cc
type_word_at w.If ty.Int e = cc
type_word_at w.If ty.Long e = cc
type_word_at w.Else ty.Int e = cc
type_word_at w.Else ty.Long e = cc
type_word_at w.While ty.Int e = cc
type_word_at w.While ty.Long e = cc
type_word_at w.For ty.Int e = cc
type_word_at w.For ty.Long e = cc
type_word_at w.Return ty.Int e = cc
type_word_at w.Return ty.Long e = cc
type_word_at w.Printf ty.Int e = cc
type_word_at w.Printf ty.Long e = cc
type_word_at w.Scanf ty.Int e = cc
type_word_at w.Scanf ty.Long e = cc
type_word_at w.SyncAll ty.Int e = cc
type_word_at w.SyncAll ty.Long e = cc

type_word_not : (x : Reserved) → type_of_word x ≡ None → is_type (t.Word x) ≡ false
type_word_not w.Int e = cc
type_word_not w.Long e = cc
type_word_not w.Void e = refl
type_word_not w.If e = refl
type_word_not w.Else e = refl
type_word_not w.While e = refl
type_word_not w.For e = refl
type_word_not w.Return e = refl
type_word_not w.Printf e = refl
type_word_not w.Scanf e = refl
type_word_not w.SyncAll e = refl

type_at : (k : TokenKind) (a : Ty) → type_in k ≡ Some a → (Some k ≡ Some (t.Word (type_word a))) × (is_type k ≡ true)
type_at (t.Name x) a e = cc
type_at (t.Word x) a e = (let z = type_word_at x a e in (ap (λ j. Some (t.Word j)) z.0, z.1))
type_at (t.Number x y) a e = cc
type_at (t.Text x) a e = cc
type_at (t.Mark x) a e = cc
type_at (t.Define x) a e = cc
type_at t.Pragma a e = cc
type_at t.Close a e = cc
type_at t.Finish a e = cc

type_not : (k : TokenKind) → type_in k ≡ None → is_type k ≡ false
type_not (t.Name x) e = refl
type_not (t.Word x) e = type_word_not x e
type_not (t.Number x y) e = refl
type_not (t.Text x) e = refl
type_not (t.Mark x) e = refl
type_not (t.Define x) e = refl
type_not t.Pragma e = refl
type_not t.Close e = refl
type_not t.Finish e = refl

pub type_some : (ts : List Token) (a : Ty) → next_type ts ≡ Some a → (next_kind ts ≡ Some (t.Word (type_word a))) × (next_is is_type ts ≡ true)
type_some [] a e = cc
type_some (k ∷ ts) a e = type_at k.kind a e

pub type_none : (ts : List Token) → next_type ts ≡ None → next_is is_type ts ≡ false
type_none [] e = refl
type_none (k ∷ ts) e = type_not k.kind e

no_more : (n : ℕ) → 0 < n → (b : Bool) → (0 == n) ≡ b → b ≡ false
no_more n i true e = let z : 0 ≡ n = same_number 0 n e in absurd (omega (arith, z, i))
no_more n i false e = refl

above : (n : ℕ) → 0 < n → (0 == n) ≡ false
above n i = no_more n i (0 == n) refl

-- marks of a class
other_class : (x : Class) → IsClass x → (k : TokenKind) → mark_in k ≡ None → of_class x k ≡ false
other_class (c.Binary n) i (t.Name x) e = above n i
other_class (c.Binary n) i (t.Word x) e = above n i
other_class (c.Binary n) i (t.Number x y) e = above n i
other_class (c.Binary n) i (t.Text x) e = above n i
other_class (c.Binary n) i (t.Mark x) e = cc
other_class (c.Binary n) i (t.Define x) e = above n i
other_class (c.Binary n) i t.Pragma e = above n i
other_class (c.Binary n) i t.Close e = above n i
other_class (c.Binary n) i t.Finish e = above n i
other_class c.Unary i (t.Name x) e = refl
other_class c.Unary i (t.Word x) e = refl
other_class c.Unary i (t.Number x y) e = refl
other_class c.Unary i (t.Text x) e = refl
other_class c.Unary i (t.Mark x) e = cc
other_class c.Unary i (t.Define x) e = refl
other_class c.Unary i t.Pragma e = refl
other_class c.Unary i t.Close e = refl
other_class c.Unary i t.Finish e = refl
other_class c.Assign i (t.Name x) e = refl
other_class c.Assign i (t.Word x) e = refl
other_class c.Assign i (t.Number x y) e = refl
other_class c.Assign i (t.Text x) e = refl
other_class c.Assign i (t.Mark x) e = cc
other_class c.Assign i (t.Define x) e = refl
other_class c.Assign i t.Pragma e = refl
other_class c.Assign i t.Close e = refl
other_class c.Assign i t.Finish e = refl
other_class c.Step i (t.Name x) e = refl
other_class c.Step i (t.Word x) e = refl
other_class c.Step i (t.Number x y) e = refl
other_class c.Step i (t.Text x) e = refl
other_class c.Step i (t.Mark x) e = cc
other_class c.Step i (t.Define x) e = refl
other_class c.Step i t.Pragma e = refl
other_class c.Step i t.Close e = refl
other_class c.Step i t.Finish e = refl
other_class c.Offset i (t.Name x) e = refl
other_class c.Offset i (t.Word x) e = refl
other_class c.Offset i (t.Number x y) e = refl
other_class c.Offset i (t.Text x) e = refl
other_class c.Offset i (t.Mark x) e = cc
other_class c.Offset i (t.Define x) e = refl
other_class c.Offset i t.Pragma e = refl
other_class c.Offset i t.Close e = refl
other_class c.Offset i t.Finish e = refl
other_class c.Reduction i (t.Name x) e = refl
other_class c.Reduction i (t.Word x) e = refl
other_class c.Reduction i (t.Number x y) e = refl
other_class c.Reduction i (t.Text x) e = refl
other_class c.Reduction i (t.Mark x) e = cc
other_class c.Reduction i (t.Define x) e = refl
other_class c.Reduction i t.Pragma e = refl
other_class c.Reduction i t.Close e = refl
other_class c.Reduction i t.Finish e = refl

held : (k : TokenKind) (a : Mark) → mark_in k ≡ Some a → k ≡ t.Mark a
held (t.Name x) a e = cc
held (t.Word x) a e = cc
held (t.Number x y) a e = cc
held (t.Text x) a e = cc
held (t.Mark x) a e = ap (λ j. t.Mark j) (let z : x ≡ a = cc in z)
held (t.Define x) a e = cc
held t.Pragma a e = cc
held t.Close a e = cc
held t.Finish a e = cc

pub class_some : (x : Class) (ts : List Token) (a : Mark) (b : Bool) → next_mark ts ≡ Some a → of_class x (t.Mark a) ≡ b → (next_kind ts ≡ Some (t.Mark a)) × (next_is (of_class x) ts ≡ b)
class_some x [] a b e h = cc
class_some x (k ∷ ts) a b e h = let z = held k.kind a e in (ap (λ j. Some j) z, ap (of_class x) z ∙ h)

pub class_none : (x : Class) → IsClass x → (ts : List Token) → next_mark ts ≡ None → next_is (of_class x) ts ≡ false
class_none x i [] e = refl
class_none x i (k ∷ ts) e = other_class x i k.kind e

-- no class has the end of the text
pub class_end : (x : Class) → IsClass x → of_class x t.Finish ≡ false
class_end x i = other_class x i t.Finish refl

finish_kind : (k : TokenKind) → is_finish k ≡ true → k ≡ t.Finish
finish_kind (t.Name a) e = cc
finish_kind (t.Word a) e = cc
finish_kind (t.Number a b) e = cc
finish_kind (t.Text a) e = cc
finish_kind (t.Mark a) e = cc
finish_kind (t.Define a) e = cc
finish_kind t.Pragma e = cc
finish_kind t.Close e = cc
finish_kind t.Finish e = refl

pub finish_next : (ts : List Token) → next_is is_finish ts ≡ true → next_kind ts ≡ Some t.Finish
finish_next [] e = cc
finish_next (k ∷ ts) e = ap (λ j. Some j) (finish_kind k.kind e)
