-- What stands at the front of a text: a comment, white space of a `#` line, all of it, or none.
use Rattle.std.proofs.Common.{◌≡◌, ◌≤◌, ◌+◌, inl, inr, ℕ, zero, suc, Bool, true, false, List, length, drop, get_or, refl, arith, length-drop}
use Rattle.std.proofs.lemmas.Bool.{cases_eq}
use Rattle.xmp_lex.specs.Bytes.{IsClose, IsBlock, is_white}
use Rattle.xmp_lex.specs.Pieces.{Comment, Unclosed, IsBlockStart, IsLineStart, LineSpace, white, splice, comment, comment_splice, LineSpaces, done, more, Splice, two, three, is_spliced}
use Rattle.xmp_lex.proofs.SpaceLemmas.{inside, line_found, block_found, splice_fits, splice_some, spliced_fits, no_space, no_spaces, behind_space, backslash}
use Rattle.xmp_lex_laws.proofs.Searches.{Decided, SomeOrNone, First, found, nowhere, first, first_place}

-- a comment at the front, one that isn't closed, or neither
pub data CommentFound (text : List ℕ) : Type 0 where
  closed : (n : ℕ) → Comment text n → n ≤ length text → 1 ≤ n → CommentFound text
  unclosed : Unclosed text → CommentFound text
  absent : (IsBlockStart text → ⊥) → (IsLineStart text → ⊥) → CommentFound text

close_at : (text : List ℕ) (k : ℕ) → Decided (IsClose text k)
close_at text k = by (cases_eq (get_or text k 0) 42) (cases_eq (get_or text (k + 1) 0) 47) where
  by : Decided (get_or text k 0 ≡ 42) → Decided (get_or text (k + 1) 0 ≡ 47) → Decided (IsClose text k)
  by (inl a) (inl b) = inl (a, b)
  by (inl a) (inr b) = inr (λ c. b c.1)
  by (inr a) b = inr (λ c. a c.0)

block_at : (text : List ℕ) → SomeOrNone (IsBlock text)
block_at text = by (first (IsClose text) (close_at text) (length text)) where
  by : First (IsClose text) (length text) → SomeOrNone (IsBlock text)
  by (found k h p b) = inl (k, record { here = p; before = b })
  by (nowhere f) = inr (λ x. f x.0 (inside text x.0 (λ e. let c = x.1.here.0 in omega arith)) x.1.here)

pub comment_at : (text : List ℕ) → CommentFound text
comment_at text = by (cases_eq (get_or text 0 0) 47) (cases_eq (get_or text 1 0) 42) (cases_eq (get_or text 1 0) 47) where
  in_block : IsBlockStart text → SomeOrNone (IsBlock (drop 2 text)) → CommentFound text
  in_block s (inl x) = let w = block_found text x.0 s x.1 in closed (x.0 + 4) w.0 w.1 (omega (arith, w.2))
  in_block s (inr f) = open_block (first (IsClose (drop 2 text)) (close_at (drop 2 text)) (length (drop 2 text)))
    where
      open_block : First (IsClose (drop 2 text)) (length (drop 2 text)) → CommentFound text
      open_block (found k h p b) = absurd (f (k, record { here = p; before = b }))
      open_block (nowhere g) = unclosed (record { begins = s; never = λ k c. g k (inside (drop 2 text) k (λ e. let d = c.0 in omega arith)) c })

  in_line : IsLineStart text → CommentFound text
  in_line s =
      let x = first_place (λ k. get_or (drop 2 text) k 0 ≡ 10) (λ k. cases_eq (get_or (drop 2 text) k 0) 10) (drop 2 text) in
      let w = line_found text x.0 s x.1 in
      closed (x.0 + 2) w.0 w.1 (omega (arith, w.2))

  by : Decided (get_or text 0 0 ≡ 47) → Decided (get_or text 1 0 ≡ 42) → Decided (get_or text 1 0 ≡ 47) → CommentFound text
  by (inl a) (inl b) c = in_block (a, b) (block_at (drop 2 text))
  by (inl a) (inr b) (inl c) = in_line (a, c)
  by (inl a) (inr b) (inr c) = absent (λ s. b s.1) (λ s. c s.1)
  by (inr a) b c = absent (λ s. a s.0) (λ s. a s.0)

pub splice_at : (text : List ℕ) → SomeOrNone (Splice text)
splice_at text = by (cases_eq (get_or text 0 0) 92) (cases_eq (get_or text 1 0) 10) (cases_eq (get_or text 1 0) 13) (cases_eq (get_or text 2 0) 10) where
  neither : (get_or text 1 0 ≡ 10 → ⊥) → (get_or text 1 0 ≡ 13 → get_or text 2 0 ≡ 10 → ⊥) → (n : ℕ) → Splice text n → ⊥
  neither f g n (two _ a b e) = f b
  neither f g n (three _ a b d e) = g b d

  by : Decided (get_or text 0 0 ≡ 92) → Decided (get_or text 1 0 ≡ 10) → Decided (get_or text 1 0 ≡ 13) → Decided (get_or text 2 0 ≡ 10)
      → SomeOrNone (Splice text)
  by (inr a) b c d = inr (λ x. a (backslash text x.0 x.1))
  by (inl a) (inl b) c d = inl (2, two 2 a b refl)
  by (inl a) (inr b) (inl c) (inl d) = inl (3, three 3 a c d refl)
  by (inl a) (inr b) (inl c) (inr d) = inr (λ x. neither b (λ p q. d q) x.0 x.1)
  by (inl a) (inr b) (inr c) d = inr (λ x. neither b (λ p q. c p) x.0 x.1)

-- white space of a `#` line at the front, a comment that isn't closed, or neither
pub data SpaceFound (text : List ℕ) : Type 0 where
  space : (n : ℕ) → LineSpace text n → n ≤ length text → 1 ≤ n → SpaceFound text
  unclosed : Unclosed text → SpaceFound text
  absent : ((n : ℕ) → LineSpace text n → ⊥) → (Unclosed text → ⊥) → (IsBlockStart text → ⊥) → (IsLineStart text → ⊥) → SpaceFound text

zero_white : (b : ℕ) → is_white b ≡ true → b ≡ 0 → ⊥
zero_white b w e = grind arith

pub space_at : (text : List ℕ) → SpaceFound text
space_at text = by (comment_at text) where
  behind_comment : (n : ℕ) → Comment text n → n ≤ length text → 1 ≤ n → (b : Bool) → is_spliced text n ≡ b → SpaceFound text
  behind_comment n c h o true e = space (n + 1) (comment_splice n (n + 1) c e refl) (let f = spliced_fits text n e in omega arith) (omega arith)
  behind_comment n c h o false e = space n (comment n c e) h o

  no_comment : (IsBlockStart text → ⊥) → (IsLineStart text → ⊥) → SomeOrNone (Splice text) → (b : Bool) → is_white (get_or text 0 0) ≡ b
      → Decided (get_or text 0 0 ≡ 10) → SpaceFound text
  no_comment k l (inl x) b w f = space x.0 (splice x.0 x.1) (splice_fits text x.0 x.1) (splice_some text x.0 x.1)
  no_comment k l (inr j) true w (inr f) = space 1 (white 1 w f refl) (inside text 0 (λ e. zero_white (get_or text 0 0) w e)) (omega arith)
  no_comment k l (inr j) true w (inl e) = absent (no_space text k l (λ n s. j (n, s)) (λ v. e)) (λ o. k o.begins) k l
  no_comment k l (inr j) false w f = absent (no_space text k l (λ n s. j (n, s)) (λ v. let z = w in cc)) (λ o. k o.begins) k l

  by : CommentFound text → SpaceFound text
  by (closed n c h o) = behind_comment n c h o (is_spliced text n) refl
  by (unclosed o) = unclosed o
  by (absent k l) = no_comment k l (splice_at text) (is_white (get_or text 0 0)) refl (cases_eq (get_or text 0 0) 10)

-- all white space of a `#` line at the front, or none is all of it
pub data SpacesFound (text : List ℕ) : Type 0 where
  whole : (n : ℕ) → LineSpaces text n → n ≤ length text → SpacesFound text
  none : ((n : ℕ) → LineSpaces text n → ⊥) → SpacesFound text

behind : (text : List ℕ) (n : ℕ) → LineSpace text n → n ≤ length text → SpacesFound (drop n text) → SpacesFound text
behind text n s l (whole k r h) = whole (n + k) (more text n k (n + k) s r refl) (omega (arith, length-drop n text))
behind text n s l (none f) = none (λ m r. let w = behind_space text n m s r in f w.0 w.1)

at_front : (text : List ℕ) → ((n : ℕ) → LineSpace text n → n ≤ length text → 1 ≤ n → SpacesFound (drop n text)) → SpaceFound text → SpacesFound text
at_front text on (space n s l o) = behind text n s l (on n s l o)
at_front text on (unclosed o) = none (λ n r. no_spaces text n o r)
at_front text on (absent g o a b) = whole 0 (done text g o) (omega arith)

spaces : (fuel : ℕ) (text : List ℕ) → length text ≤ fuel → SpacesFound text
spaces zero text h = at_front text (λ n s l o. absurd (omega arith)) (space_at text)
spaces (suc m) text h = at_front text (λ n s l o. spaces m (drop n text) (omega (arith, length-drop n text))) (space_at text)

pub spaces_at : (text : List ℕ) → SpacesFound text
spaces_at text = spaces (length text) text (omega arith)
