-- In any order of the messages the needed cells have their words, and all others stay.
use Rattle.std.proofs.Common.{◌≡◌, ◌≢◌, ℕ, ℤ, pos, inl, inr, Bool, true, false, List, [], ◌∷◌, refl, sym, ◌∙◌, ap, arith, length, map, get_or}
use Rattle.std.specs.Prelude.{◌&&◌}
use Rattle.xmp_move.specs.Ways.{Pair, Ways, due, sends, fills}
use Rattle.xmp_move.specs.Stores.{IsIn, word_at, packed, write_all, unpacked_of}
use Rattle.xmp_move.specs.Whole.{IsNeeded, AreGiven, HasRoom, IsMoved}
use Rattle.xmp_move.proofs.Writes.{length-write_all, write_all-other, write_all-hit}
use Rattle.xmp_move.proofs.Members.{and_left, and_right, both_true, in_filter, filter_in}

module _ (conv : ℤ → ℤ) (ways : Ways) (pairs : List Pair) (sources : ℕ → List ℤ) (own : List ℤ) (node : ℕ) where
  -- what the node gets from `k`, as one word for each pair
  abbrev word_of : ℕ → Pair → ℤ
  word_of k p = conv (word_at (sources k) (ways.out_of k p.1))

  abbrev into : Pair → ℕ
  into p = ways.into node p.0

  abbrev after : List ℕ → List ℤ
  after ks = unpacked_of conv ways pairs sources own node ks

  words_are : (k : ℕ) (ps : List Pair) → map conv (packed (sources k) (map (λ p. ways.out_of k p.1) ps)) ≡ map (word_of k) ps
  words_are k [] = refl
  words_are k (p ∷ ps) = ap (λ r. word_of k p ∷ r) (words_are k ps)

  -- one message unpacked, as writes over the pairs that are due
  next_is : (k : ℕ) (ks : List ℕ) → after (k ∷ ks) ≡ write_all (after ks) (map into (due ways pairs k node)) (map (word_of k) (due ways pairs k node))
  unfolding unpacked_of
  next_is k ks = ap (λ ws. write_all (after ks) (map into (due ways pairs k node)) ws) (words_are k (due ways pairs k node))

  after-length : (ks : List ℕ) → length (after ks) ≡ length own
  unfolding unpacked_of
  after-length [] = refl
  after-length (k ∷ ks) =
      length-write_all (after ks) (fills ways pairs node k) (map conv (packed (sources k) (sends ways pairs k node))) ∙ after-length ks

  due_needed : (k : ℕ) (p : Pair) → IsIn p (due ways pairs k node) → IsNeeded ways pairs node p
  due_needed k p i =
      let r = in_filter (λ q. ways.needs node q.0 && ways.gives k node q.1) pairs p i in
      record { among = r.0; needed = and_left (ways.needs node p.0) (ways.gives k node p.1) r.1 }

  due_given : (k : ℕ) (p : Pair) → IsIn p (due ways pairs k node) → ways.gives k node p.1 ≡ true
  due_given k p i =
      let r = in_filter (λ q. ways.needs node q.0 && ways.gives k node q.1) pairs p i in
      and_right (ways.needs node p.0) (ways.gives k node p.1) r.1

  in_due : (k : ℕ) (p : Pair) → IsNeeded ways pairs node p → ways.gives k node p.1 ≡ true → IsIn p (due ways pairs k node)
  in_due k p i g = filter_in (λ q. ways.needs node q.0 && ways.gives k node q.1) pairs p i.among (both_true (ways.needs node p.0) (ways.gives k node p.1) i.needed g)

  -- a slot of no needed cell stays
  after-stays : (ks : List ℕ) (x : ℕ) → ((p : Pair) → IsNeeded ways pairs node p → ways.into node p.0 ≢ x) → word_at (after ks) x ≡ word_at own x
  unfolding unpacked_of
  after-stays [] x h = refl
  after-stays (k ∷ ks) x h =
      ap (λ s. word_at s x) (next_is k ks)
      ∙ write_all-other into (word_of k) (due ways pairs k node) (after ks) x (pos 0) (λ q i. h q (due_needed k q i))
      ∙ after-stays ks x h

  -- the last of the peers that gives the pair's source has left its word
  after-filled : (ks : List ℕ) → HasRoom ways pairs node own → (p : Pair) → IsNeeded ways pairs node p → (g : ℕ) → IsIn g ks → ways.gives g node p.1 ≡ true
      → ((k : ℕ) → IsIn k ks → ways.gives k node p.1 ≡ true → k ≡ g)
      → word_at (after ks) (ways.into node p.0) ≡ conv (word_at (sources g) (ways.out_of g p.1))
  unfolding IsIn
  after-filled [] room p i g j gives only = absurd j
  after-filled (k ∷ ks) room p i g j gives only =
      ap (λ s. word_at s (ways.into node p.0)) (next_is k ks)
      ∙ at_test (λ m. after-filled ks room p i g m gives (λ n m. only n (inr m))) (ways.gives k node p.1) refl
    where
      Result : Type 0
      Result = get_or (write_all (after ks) (map into (due ways pairs k node)) (map (word_of k) (due ways pairs k node))) (into p) (pos 0) ≡ conv (word_at (sources g) (ways.out_of g p.1))

      at_test : (IsIn g ks → word_at (after ks) (ways.into node p.0) ≡ conv (word_at (sources g) (ways.out_of g p.1)))
          → (b : Bool) → ways.gives k node p.1 ≡ b → Result
      at_test rest true h =
          write_all-hit into (word_of k) (due ways pairs k node) (after ks) p (pos 0)
          (let l = after-length ks in let s = room.inside p i in omega arith)
          (λ q m w. room.apart q p (due_needed k q m) i w)
          (in_due k p i h)
          ∙ ap (λ k. conv (word_at (sources k) (ways.out_of k p.1))) (only k (inl refl) h)
      at_test rest false h =
          write_all-other into (word_of k) (due ways pairs k node) (after ks) (into p) (pos 0)
          (λ q m w.
          let same = room.apart q p (due_needed k q m) i w in
          let t : ways.gives k node p.1 ≡ true = ap (λ q. ways.gives k node q.1) (sym same) ∙ due_given k q m in
          cc)
          ∙ rest (elim j [ inl e ↦ absurd (let t : ways.gives k node p.1 ≡ true = ap (λ k. ways.gives k node p.1) (sym e) ∙ gives in cc) | inr m ↦ m ])

  pub moves_all : (peers : List ℕ) → HasRoom ways pairs node own → AreGiven ways pairs node peers → IsMoved conv ways pairs sources own node peers (after peers)
  moves_all peers room given = record {
    long = after-length peers;
    filled = λ p i k m g. after-filled peers room p i k m g (λ n j h. let one = given p i in one.only n j h ∙ sym (one.only k m g));
    stays = λ x h. after-stays peers x h;
  }
