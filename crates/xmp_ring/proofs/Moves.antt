-- Each kind of step keeps the rule of a ring.
use Rattle.std.proofs.Common.{◌≡◌, ◌≢◌, ℕ, zero, suc, true, false, true≢false, List, [], ◌∷◌, ◌++◌, length, set, inl, Result, Ok, Err, MatchResult, refl, sym, ap, ◌∙◌, subst, ⊎_elim, append_assoc}
use mathlib.Core.Option.{some, some-ne-none}
use lib.ListN.{get_elem?}
use Rattle.crossbeam_queue.specs.Fifo.{Pushes, Pops, Forks}
use Rattle.crossbeam_queue.proofs.Lists.{at_set, at_snoc}
use Rattle.xmp_message.specs.declared.Message.{Message}
use Rattle.xmp_ring.specs.declared.received.Received.{Received}
use Rattle.xmp_ring.specs.declared.received.Port.{Port}
use Rattle.xmp_ring.specs.Pieces.{IsFront, IsNextEntry, IsPiece}
use Rattle.xmp_ring.specs.Rule.{Course, Fits, Ruled, port, with_entry}
use Rattle.xmp_ring.proofs.Entries.{next-entry, piece-first}

-- what a list one longer has and the shorter one hasn't stands at its end
at-end : (l : List Port) (a b : Port) (j : ℕ) → get_elem? l j ≢ some b → get_elem? (l ++ a ∷ []) j ≡ some b → j ≡ length l
at-end [] a b zero n e = refl
at-end [] a b (suc j) n e = absurd (some-ne-none b (sym e))
at-end (x ∷ xs) a b zero n e = absurd (n e)
at-end (x ∷ xs) a b (suc j) n e = ap suc (at-end xs a b j n e)

-- each pass and its view meet F
abbrev AllFit : (ℕ → Port → Type 0) → List Port → Type 0
AllFit F views = (at : ℕ) (v : Port) → get_elem? views at ≡ some v → F at v

-- one pass has the view w, and the others keep theirs
all-set : (F : ℕ → Port → Type 0) (views : List Port) (at : ℕ) (w : Port) → F at w → ((j : ℕ) (u : Port) → j ≢ at → get_elem? views j ≡ some u → F j u) → AllFit F (set views at w)
all-set F views at w mine others j u e = ⊎_elim
    (λ (x : (j ≡ at) × (w ≡ u)). subst (λ (y : ℕ × Port). F y.0 y.1) (λ i. (sym x.0 i, x.1 i)) mine)
    (λ (x : (j ≢ at) × (get_elem? views j ≡ some u)). others j u x.0 x.1)
    (at_set views at j w u e)

-- the maker of an empty ring may push and pop
pub begins : (streams : ℕ → List Message) → Ruled streams [] (port true true 0 [] ∷ [])
begins streams =
    let c : Course = record { ring = 0; writer = 0; reader = 0; sent = []; taken = [] } in
    let maker : Port = port true true 0 [] in (
      c,
      record {
        whole = refl;
        piece = ([], refl, inl refl);
        known = all-set (Fits c) (maker ∷ []) 0 maker ((λ _. (refl, refl, refl)), λ _. (refl, refl, refl))
            (λ j u other e. absurd (other (at-end [] maker u j (λ x. some-ne-none u (sym x)) e)));
      },
    )

-- a push: the sender puts an entry behind which its entries are a piece of the stream
pub pushes : (streams : ℕ → List Message) (n at : ℕ) (v : Port) (x : Received) → v.sends ≡ true → v.receives ≡ false → IsPiece (streams v.ring) (v.entries ++ x ∷ []) →
    Pushes (Ruled streams) n at v x (λ w. w ≡ with_entry v x)
pushes streams n at v x may only piece items views _ (c, stands) there =
    let w : Port = with_entry v x in
    let mine = (stands.known at v there).0 may in
    let sent' : List Received = c.sent ++ x ∷ [] in
    let c' : Course = record c { sent = sent' } in
    let P : ℕ → Type 0 = λ r. IsPiece (streams r) (v.entries ++ x ∷ []) in
    let Q : List Received → Type 0 = λ l. IsPiece (streams c.ring) (l ++ x ∷ []) in (
      w,
      (
        c',
        record {
          whole = ap (λ l. l ++ x ∷ []) stands.whole ∙ append_assoc c.taken items (x ∷ []);
          piece = subst Q mine.2 (subst P mine.1 piece);
          known = all-set (Fits c') views at w
              ((λ _. (mine.0, mine.1, ap (λ l. l ++ x ∷ []) mine.2)), λ p. absurd (true≢false (sym p ∙ only)))
              (λ j u other e. ((λ p. absurd (other (((stands.known j u e).0 p).0 ∙ sym mine.0))), (stands.known j u e).1));
        },
      ),
      refl,
    )

-- a pop: the receiver takes the entry at the front
pub pops : (streams : ℕ → List Message) (at : ℕ) (v : Port) → v.receives ≡ true → v.sends ≡ false →
    Pops (Ruled streams) at v (λ x w. (w ≡ with_entry v x) × IsPiece (streams v.ring) w.entries)
pops streams at v may only x items views (c, stands) there =
    let w : Port = with_entry v x in
    let mine = (stands.known at v there).1 may in
    let taken' : List Received = c.taken ++ x ∷ [] in
    let c' : Course = record c { taken = taken' } in
    let whole' : c.sent ≡ taken' ++ items = stands.whole ∙ sym (append_assoc c.taken (x ∷ []) items) in
    let R : List Received → Type 0 = λ l. IsPiece (streams c.ring) l in
    let piece' : IsPiece (streams c.ring) taken' = piece-first (streams c.ring) taken' items (subst R whole' stands.piece) in
    let P : ℕ → Type 0 = λ r. IsPiece (streams r) (v.entries ++ x ∷ []) in
    let Q : List Received → Type 0 = λ l. IsPiece (streams c.ring) (l ++ x ∷ []) in (
      w,
      (
        c',
        record {
          whole = whole';
          piece = stands.piece;
          known = all-set (Fits c') views at w
              ((λ p. absurd (true≢false (sym p ∙ only))), λ _. (mine.0, mine.1, ap (λ l. l ++ x ∷ []) mine.2))
              (λ j u other e. ((stands.known j u e).0, λ p. absurd (other (((stands.known j u e).1 p).0 ∙ sym mine.0))));
        },
      ),
      (refl, subst P (sym mine.1) (subst Q (sym mine.2) piece')),
    )

-- a split: the maker's pass becomes the two ends of the ring r
pub splits : (streams : ℕ → List Message) (at : ℕ) (v : Port) (r : ℕ) → v.sends ≡ true → v.receives ≡ true → v.entries ≡ [] →
    Forks (Ruled streams) at v (port true false r []) (port false true r [])
splits streams at v r may-push may-pop none items views (c, stands) there =
    let left : Port = port true false r [] in
    let right : Port = port false true r [] in
    let mine = stands.known at v there in
    let vs : List Port = set views at left in
    let no-sent : c.sent ≡ [] = sym (mine.0 may-push).2 ∙ none in
    let no-taken : c.taken ≡ [] = sym (mine.1 may-pop).2 ∙ none in
    let c' : Course = record { ring = r; writer = at; reader = length vs; sent = []; taken = [] } in
    -- the passes of before: one may push, and none may pop
    let Old : ℕ → Port → Type 0 = λ j u. (u.sends ≡ true → (j ≡ at) × (u.ring ≡ r) × (u.entries ≡ [])) × (u.receives ≢ true) in
    let old : AllFit Old vs = all-set Old views at left ((λ _. (refl, refl, refl)), λ p. true≢false (sym p))
    (λ j u other e. (
      (λ p. absurd (other (((stands.known j u e).0 p).0 ∙ sym (mine.0 may-push).0))),
      λ p. other (((stands.known j u e).1 p).0 ∙ sym (mine.1 may-pop).0),
    )) in (
      c',
      record {
        whole = sym (sym (sym no-sent ∙ stands.whole ∙ ap (λ l. l ++ items) no-taken));
        piece = ([], refl, inl refl);
        known = λ j u e. ⊎_elim
            (λ (x : get_elem? vs j ≡ some u). ((old j u x).0, λ p. absurd ((old j u x).1 p)))
            (λ (eq : right ≡ u). (
              (λ p. absurd (true≢false (sym (ap (λ (y : Port). y.sends) eq ∙ p)))),
              λ p. (
                at-end vs right u j (λ x. (old j u x).1 p) e,
                ap (λ (y : Port). y.ring) (sym eq),
                ap (λ (y : Port). y.entries) (sym eq),
              ),
            ))
            (at_snoc vs right u j e);
      },
    )

-- what a sender's pass knows
abbrev pub Sends : (ℕ → List Message) → Port → Type 0
Sends streams v = (v.sends ≡ true) × (v.receives ≡ false) × IsFront (streams v.ring) v.entries

-- after a try the sender's pass knows one message more, or what it knew
pub still-sends : (streams : ℕ → List Message) (v w : Port) (x : Received) (r : Result (Unit {0}) Received) → Sends streams v → IsNextEntry (streams v.ring) v.entries x →
    MatchResult r (λ _. w ≡ with_entry v x) (λ back. (back ≡ x) × (w ≡ v)) → Sends streams w
still-sends streams v w x (Ok u) s next e = subst (λ (p : Port). Sends streams p) (sym e) (s.0, s.1, next-entry (streams v.ring) v.entries x s.2 next)
still-sends streams v w x (Err back) s next e = subst (λ (p : Port). Sends streams p) (sym e.1) s
