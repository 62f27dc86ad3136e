-- Each step of a seat of one image keeps the rule.
use Rattle.std.proofs.Common.{◌≡◌, ◌≢◌, ℕ, ℤ, zero, suc, ◌+◌, ◌-◌, ◌*◌, ◌%◌, ◌^◌, ◌<◌, ◌≤◌, inl, inr, Bool, true, false, true≢false, List, [], ◌∷◌, length, get_or, set, slice_index, slice_set, slice_get, Option, Some, None, refl, sym, ap, ◌∙◌, subst, ⊎_elim, arith, FitsSigned, le_refl, le_trans, mod-eq_of_lt}
use Rattle.std.proofs.lemmas.Bool.{cases_eq, cases_lt, cases_Bool}
use Rattle.std.proofs.lemmas.Option.{none-some}
use Rattle.std.specs.Int.{w64}
use mathlib.Core.Option.{some}
use lib.ListN.{get_elem?}
use Rattle.atomic_table.specs.Table.{State, Act, keeps, Allows, Me}
use Rattle.xmp_script.specs.Script.{Script, Access, Get, Put, IsFree, at, after, seen}
use Rattle.xmp_script.specs.World.{World, Reached, Then, Accesses, Arrives, Passes, MayAccess, MayArrive, MayPass, accessed, has_arrived, passed, arrivals}
use Rattle.xmp_script.proofs.Words.{at_same, at_other}
use Rattle.xmp_script.proofs.Orders.{gets_see, reached_order}
use Rattle.xmp_seg.specs.declared.look.Look.{Look}
use Rattle.xmp_seg.specs.Rule.{InRun, IsFor, IsOne, Knows, Ruled, Shows, bits, gone_on, looked, total}
use Rattle.xmp_seg.proofs.Counts.{arrival_more, arrivals_stay, may_pass, total_same, total_small}
use Rattle.xmp_seg.proofs.Views.{shows_after}

-- a word that is given the value it had
set_found : (ws : List ℕ) (i : ℕ) → set ws i (get_or ws i 0) ≡ ws
set_found [] i = refl
set_found (x ∷ ws) zero = refl
set_found (x ∷ ws) (suc i) = ap (λ l. x ∷ l) (set_found ws i)

length_set : (ws : List ℕ) (i n : ℕ) → length (set ws i n) ≡ length ws
length_set [] i n = refl
length_set (x ∷ ws) zero n = refl
length_set (x ∷ ws) (suc i) n = ap (λ l. suc l) (length_set ws i n)

index_set : (ws : List ℕ) (i n : ℕ) → i < length ws → slice_index (set ws i n) i ≡ n
index_set [] i n lt = absurd (omega arith)
index_set (x ∷ ws) zero n lt = refl
index_set (x ∷ ws) (suc i) n lt = index_set ws i n (omega arith)

index_other : (ws : List ℕ) (i j n : ℕ) → j ≢ i → slice_index (set ws i n) j ≡ slice_index ws j
index_other [] i j n ne = refl
index_other (x ∷ ws) zero zero n ne = absurd (ne refl)
index_other (x ∷ ws) zero (suc j) n ne = refl
index_other (x ∷ ws) (suc i) zero n ne = refl
index_other (x ∷ ws) (suc i) (suc j) n ne = index_other ws i j n (λ e. ne (ap suc e))

-- the one image of a seat
alone : (v : Look) → IsOne v → InRun v v.first
alone v one = (omega arith, omega (arith, one))

-- image k is another
not_mine : (v : Look) (k : ℕ) → IsOne v → (InRun v k → ⊥) → k ≢ v.first
not_mine v k one out e = out (omega (arith, e), omega (arith, e, one))

-- nothing stands behind the last phase
phase_in : (s : Script ℤ) (q k i : ℕ) (a : Access ℤ) → slice_get (s.accesses q k) i ≡ Some a → q < s.phases
phase_in s q k i a next = elim (cases_lt q s.phases) [
  | inl lt ↦ lt
  | inr past ↦ (let P : List (Access ℤ) → Type 0 = λ l. slice_get l i ≡ Some a in absurd (none-some a (subst P (s.ends q k (omega (arith, past))) next)))
]

-- nothing stands at the end of a list
none_at_end : (l : List (Access ℤ)) (a : Access ℤ) → slice_get l (length l) ≡ Some a → ⊥
none_at_end [] a e = none-some a e
none_at_end (x ∷ l) a e = none_at_end l a e

-- an image whose next access is this one may make it
pub may_access : (s : Script ℤ) (w : World ℤ) (n : ℕ) (v : Look) (a : Access ℤ) → IsFree s → Reached s w → Knows s w n v → IsOne v → slice_get (s.accesses v.phase v.first) v.place ≡ Some a → MayAccess s w v.first a
may_access s w n v a free r knows one next =
    let mine = knows.2 v.first (alone v one) in
    let k : ℕ = v.first in
    let lk : k < s.images = omega (arith, one, knows.0) in
    let Q : ℕ → Type 0 = λ q. slice_get (s.accesses q k) v.place ≡ Some a in
    let R : ℕ → Type 0 = λ i. slice_get (s.accesses (w.phase k) k) i ≡ Some a in
    let there : slice_get (s.accesses (w.phase k) k) (w.place k) ≡ Some a = subst R mine.1 (subst Q mine.0 next) in (
      phase_in s (w.phase k) k (w.place k) a there,
      elim (cases_Bool (w.arrived k)) [
        | inl here ↦ (let o = reached_order s w free r in let done = o.1.done k lk here in absurd (none_at_end (s.accesses (w.phase k) k) a (subst R done.1 there)))
        | inr not_here ↦ not_here
      ],
      there,
    )

-- a list of the same length keeps what the rule says of the script
still_for : (s : Script ℤ) (ws vs : List ℕ) → length vs ≡ length ws → IsFor (length ws - 1) s → 0 < length ws → IsFor (length vs - 1) s × (0 < length vs)
still_for s ws vs e fits more = subst (λ (n : ℕ). IsFor (n - 1) s × (0 < n)) (sym e) (fits, more)

-- the others after an access of image k
others_stay : (w : World ℤ) (v : Look) (a : Access ℤ) (j : ℕ) → IsOne v → (InRun v j → ⊥) →
    ((accessed w v.first a).phase j ≡ w.phase j) × ((accessed w v.first a).place j ≡ w.place j) × ((accessed w v.first a).arrived j ≡ w.arrived j)
others_stay w v a j one out = (refl, at_other w.place v.first (suc (w.place v.first)) j (not_mine v j one out), refl)

-- a seat after an access of its image
abbrev pub gone : Look → Look
gone v = record v { place = suc v.place }

knows_more : (s : Script ℤ) (w : World ℤ) (n m : ℕ) (v : Look) (a : Access ℤ) → IsOne v → Knows s w n v → n ≤ m → Knows s (accessed w v.first a) m (gone v)
knows_more s w n m v a one knows le = (
  knows.0,
  le_trans knows.1 le,
  λ k h.
      let mine = knows.2 v.first (alone v one) in
      let e : k ≡ v.first = omega (arith, h.0, h.1, one) in
      let P : ℕ → Type 0 = λ j. (v.phase ≡ w.phase j) × (suc v.place ≡ at w.place v.first (suc (w.place v.first)) j) × (v.arrived ≡ w.arrived j) in
      subst P (sym e) (mine.0, ap (λ x. suc x) mine.1 ∙ sym (at_same w.place v.first (suc (w.place v.first)) v.first refl), mine.2),
)

-- what image k sees at its next get
sees : (s : Script ℤ) (w : World ℤ) (n : ℕ) (v : Look) (e : ℕ) → IsFree s → Reached s w → Knows s w n v → IsOne v → MayAccess s w v.first (Get e) → w.words e ≡ seen s v.first v.phase v.place e
sees s w n v e free r knows one go =
    let mine = knows.2 v.first (alone v one) in
    gets_see s w v.first e free r (omega (arith, one, knows.0)) go
    ∙ ap (λ q. seen s v.first q (w.place v.first) e) (sym mine.0)
    ∙ ap (λ p. seen s v.first v.phase p e) (sym mine.1)

-- A load of the word of the script's next get finds what the image sees.
pub gets : (s : Script ℤ) (slots id i e : ℕ) (me : Me (Unit {0}) Look) → i ≡ e + 1 → IsOne me.0 → slice_get (s.accesses me.0.phase me.0.first) me.0.place ≡ Some (Get e) →
    Allows (Ruled s) slots id me i (λ n. n) (λ n after.
    (n ≡ bits (seen s me.0.first me.0.phase me.0.place (i - 1))) × FitsSigned w64 (seen s me.0.first me.0.phase me.0.place (i - 1))
    × (after ≡ (gone me.0, me.1)))
gets s slots id i e me is one next state (fits, more, (w, r, m)) homes there small =
    let v : Look = me.0 in
    let knows = m.views id v there in
    let go = may_access s w (slice_index state.words 0) v (Get e) fits.free r knows one next in
    let lie : e < length state.words - 1 = fits.inside v.phase v.first e (omega (arith, one, knows.0)) (v.place, Get e, next, refl) in
    let here : (slice_index state.words (suc e) ≡ bits (w.words e)) × FitsSigned w64 (w.words e) = m.words e (omega (arith, lie)) in
    let same : slice_set state.words i (slice_index state.words i) ≡ state.words = set_found state.words i in
    let there_seen = sees s w (slice_index state.words 0) v e fits.free r knows one go in
    let P : ℤ → Type 0 = λ z. (slice_index state.words (suc e) ≡ bits z) × FitsSigned w64 z in
    let Q : ℕ → Type 0 = λ x. (slice_index state.words x ≡ bits (seen s v.first v.phase v.place e)) × FitsSigned w64 (seen s v.first v.phase v.place e) in
    let R : ℕ → Type 0 = λ x. (slice_index state.words i ≡ bits (seen s v.first v.phase v.place x)) × FitsSigned w64 (seen s v.first v.phase v.place x) in
    let is' : suc e ≡ i = omega (arith, is) in
    let back : e ≡ i - 1 = omega (arith, is) in
    let found = subst R back (subst Q is' (subst P there_seen here)) in
    let w' : World ℤ = accessed w v.first (Get e) in
    let words' : List ℕ = slice_set state.words i (slice_index state.words i) in
    let zero_same : slice_index words' 0 ≡ slice_index state.words 0 = ap (λ l. slice_index l 0) same in
    let shows = shows_after s w w' state id v (gone v) words' m there refl refl
    (zero_same ∙ m.count)
    (λ x lt. subst (λ (l : List ℕ). (slice_index l (suc x) ≡ bits (w.words x)) × FitsSigned w64 (w.words x)) (sym same)
    (m.words x (subst (λ (l : List ℕ). suc x < length l) same lt)))
    (omega (arith, zero_same))
    (knows_more s w (slice_index state.words 0) (slice_index words' 0) v (Get e) one knows (omega (arith, zero_same)))
    (λ j out. others_stay w v (Get e) j one out) in
    let still = still_for s state.words words' (ap (λ l. length l) same) fits more in
    (gone v, keeps, tt, (still.0, still.1, (w', Then r (Accesses v.first (Get e) (omega (arith, one, knows.0)) go), shows)), (found.0, found.1, refl))

-- A swap of the word of the script's next put.
pub puts : (s : Script ℤ) (slots id i e new : ℕ) (z : ℤ) (me : Me (Unit {0}) Look) → i ≡ e + 1 → new ≡ bits z → FitsSigned w64 z → IsOne me.0 → slice_get (s.accesses me.0.phase me.0.first) me.0.place ≡ Some (Put e z) →
    Allows (Ruled s) slots id me i (λ n. new) (λ n after. after ≡ (gone me.0, me.1))
puts s slots id i e new z me is is_new small_z one next state (fits, more, (w, r, m)) homes there small =
    let v : Look = me.0 in
    let knows = m.views id v there in
    let go = may_access s w (slice_index state.words 0) v (Put e z) fits.free r knows one next in
    let lie : e < length state.words - 1 = fits.inside v.phase v.first e (omega (arith, one, knows.0)) (v.place, Put e z, next, refl) in
    let is' : suc e ≡ i = omega (arith, is) in
    let w' : World ℤ = accessed w v.first (Put e z) in
    let words' : List ℕ = slice_set state.words i new in
    let long : length words' ≡ length state.words = length_set state.words i new in
    let zero_same : slice_index words' 0 ≡ slice_index state.words 0 = index_other state.words i 0 new (λ x. absurd (omega (arith, is, x))) in
    let values : (x : ℕ) → suc x < length words' → (slice_index words' (suc x) ≡ bits (at w.words e z x)) × FitsSigned w64 (at w.words e z x) =
    λ x lt. elim (cases_eq x e) [
      | inl same ↦
          let put : slice_index words' (suc x) ≡ new = subst (λ (y : ℕ). slice_index words' y ≡ new) (sym (ap (λ y. suc y) same ∙ is')) (index_set state.words i new (omega (arith, lie, is))) in
          let val : z ≡ at w.words e z x = sym (at_same w.words e z x same) in
          subst (λ (y : ℤ). (slice_index words' (suc x) ≡ bits y) × FitsSigned w64 y) val (put ∙ is_new, small_z)
      | inr ne ↦
          let old = m.words x (omega (arith, lt, long)) in
          let stay : slice_index words' (suc x) ≡ slice_index state.words (suc x) = index_other state.words i (suc x) new (λ y. ne (omega (arith, y, is))) in
          let val : w.words x ≡ at w.words e z x = sym (at_other w.words e z x ne) in
          subst (λ (y : ℤ). (slice_index words' (suc x) ≡ bits y) × FitsSigned w64 y) val (stay ∙ old.0, old.1)
    ] in
    let shows = shows_after s w w' state id v (gone v) words' m there refl refl
    (zero_same ∙ m.count)
    values
    (omega (arith, zero_same))
    (knows_more s w (slice_index state.words 0) (slice_index words' 0) v (Put e z) one knows (omega (arith, zero_same)))
    (λ j out. others_stay w v (Put e z) j one out) in
    let still = still_for s state.words words' long fits more in
    (gone v, keeps, tt, (still.0, still.1, (w', Then r (Accesses v.first (Put e z) (omega (arith, one, knows.0)) go), shows)), refl)

-- An arrival of an image that has made its accesses of the phase.
pub arrives : (s : Script ℤ) (slots id : ℕ) (me : Me (Unit {0}) Look) → IsOne me.0 → me.0.arrived ≡ false → me.0.phase < s.phases → me.0.place ≡ length (s.accesses me.0.phase me.0.first) →
    Allows (Ruled s) slots id me 0 (λ n. (n + 1) % 2 ^ 64) (λ n after. after ≡ (record me.0 { arrived = true }, me.1))
arrives s slots id me one here in_script done state (fits, more, (w, r, m)) homes there small =
    let v : Look = me.0 in
    let v' : Look = record v { arrived = true } in
    let k : ℕ = v.first in
    let knows = m.views id v there in
    let mine = knows.2 k (alone v one) in
    let lk : k < s.images = omega (arith, one, knows.0) in
    let P : ℕ → Type 0 = λ q. q < s.phases in
    let Q : ℕ → Type 0 = λ q. v.place ≡ length (s.accesses q k) in
    let go : MayArrive s w k = (subst P mine.0 in_script, sym mine.2 ∙ here, sym mine.1 ∙ subst Q mine.0 done) in
    let w' : World ℤ = has_arrived w k in
    let o = reached_order s w fits.free r in
    let n : ℕ = slice_index state.words 0 in
    let fitting : n + 1 < 2 ^ 64 = (let h = total_small s w o.0 o.1 fits.few_images fits.few_phases in let c = m.count in omega arith) in
    let n' : ℕ = (n + 1) % 2 ^ 64 in
    let is_more : n' ≡ suc n = mod-eq_of_lt fitting ∙ (omega arith) in
    let words' : List ℕ = slice_set state.words 0 n' in
    let long : length words' ≡ length state.words = length_set state.words 0 n' in
    let first : slice_index words' 0 ≡ suc n = index_set state.words 0 n' more ∙ is_more in
    let shows = shows_after s w w' state id v v' words' m there refl refl
    (first ∙ ap (λ x. suc x) m.count ∙ sym (arrival_more w k s.images lk go.1))
    (λ x lt. let old = m.words x (omega (arith, lt, long)) in (index_other state.words 0 (suc x) n' (λ e. absurd (omega (arith, e))) ∙ old.0, old.1))
    (omega (arith, first)) (
      knows.0,
      omega (arith, knows.1, first),
      λ j h.
          let e : j ≡ k = omega (arith, h.0, h.1, one) in
          let R : ℕ → Type 0 = λ x. (v.phase ≡ w.phase x) × (v.place ≡ w.place x) × (true ≡ at w.arrived k true x) in
          subst R (sym e) (mine.0, mine.1, sym (at_same w.arrived k true k refl)),
    )
    (λ j out. (refl, refl, at_other w.arrived k true j (not_mine v j one out))) in
    let still = still_for s state.words words' long fits more in
    (v', keeps, tt, (still.0, still.1, (w', Then r (Arrives k lk go), shows)), refl)

-- what a look at the count leaves of the rule, where the world goes on to w' and the seat to v'
after_a_look : (s : Script ℤ) (w w' : World ℤ) (state : State (Unit {0}) Look) (id : ℕ) (v v' : Look) → IsFor (length state.words - 1) s → 0 < length state.words →
    Shows s w state → get_elem? state.views id ≡ some v → v'.first ≡ v.first → v'.past ≡ v.past → v'.found ≡ slice_index state.words 0 →
    Reached s w' → ((j : ℕ) → arrivals w' j ≡ arrivals w j) → ((e : ℕ) → w'.words e ≡ w.words e) →
    ((k : ℕ) → InRun v' k → (v'.phase ≡ w'.phase k) × (v'.place ≡ w'.place k) × (v'.arrived ≡ w'.arrived k)) →
    ((k : ℕ) → (InRun v k → ⊥) → (w'.phase k ≡ w.phase k) × (w'.place k ≡ w.place k) × (w'.arrived k ≡ w.arrived k)) →
    Ruled s record { words = slice_set state.words 0 (slice_index state.words 0); homes = state.homes; views = slice_set state.views id v' }
after_a_look s w w' state id v v' fits more m there first past found r counts values knows others =
    let words' : List ℕ = slice_set state.words 0 (slice_index state.words 0) in
    let same : words' ≡ state.words = set_found state.words 0 in
    let zero_same : slice_index words' 0 ≡ slice_index state.words 0 = ap (λ l. slice_index l 0) same in
    let still = still_for s state.words words' (ap (λ l. length l) same) fits more in
    let shows = shows_after s w w' state id v v' words' m there first past
    (zero_same ∙ m.count ∙ sym (total_same (arrivals w) (arrivals w') s.images (λ j lj. counts j)))
    (λ x lt. subst (λ (z : ℤ). (slice_index words' (suc x) ≡ bits z) × FitsSigned w64 z) (sym (values x))
    (subst (λ (l : List ℕ). (slice_index l (suc x) ≡ bits (w.words x)) × FitsSigned w64 (w.words x)) (sym same)
    (m.words x (subst (λ (l : List ℕ). suc x < length l) same lt))))
    (omega (arith, zero_same))
    (omega (arith, past, (m.views id v there).0), omega (arith, found, zero_same), knows)
    others in
    (still.0, still.1, (w', r, shows))

-- A look at the arrivals: the next phase begins exactly where enough were found.
pub looks : (s : Script ℤ) (slots id : ℕ) (me : Me (Unit {0}) Look) → IsOne me.0 → me.0.arrived ≡ true →
    Allows (Ruled s) slots id me 0 (λ n. n) (λ n after.
    (s.images * suc me.0.phase ≤ n → after ≡ (gone_on (looked me.0 n), me.1)) × (n < s.images * suc me.0.phase → after ≡ (looked me.0 n, me.1)))
looks s slots id me one here state (fits, more, (w, r, m)) homes there small =
    let v : Look = me.0 in
    let k : ℕ = v.first in
    let knows = m.views id v there in
    let mine = knows.2 k (alone v one) in
    let lk : k < s.images = omega (arith, one, knows.0) in
    let n : ℕ = slice_index state.words 0 in
    elim (cases_lt n (s.images * suc v.phase)) [
      | inl few ↦ (
        looked v n,
        keeps,
        tt,
        after_a_look s w w state id v (looked v n) fits more m there refl refl refl r (λ j. refl) (λ e. refl) knows.2 (λ j out. (refl, refl, refl)),
        ((λ enough. absurd (omega (arith, few, enough))), λ _. refl),
      )
      | inr enough ↦
          let o = reached_order s w fits.free r in
          let P : ℕ → Type 0 = λ x. s.images * suc x ≤ total (arrivals w) s.images in
          let Q : ℕ → Type 0 = λ x. s.images * suc v.phase ≤ x in
          let go : MayPass s w k = may_pass s w o.0 k o.1 lk (sym mine.2 ∙ here) (subst P mine.0 (subst Q m.count (omega (arith, enough)))) in
          let w' : World ℤ = passed w k in
          let R : ℕ → Type 0 = λ x. (suc v.phase ≡ at w.phase k (suc (w.phase k)) x) × (0 ≡ at w.place k 0 x) × (false ≡ at w.arrived k false x) in
          let now : R k = (ap (λ x. suc x) mine.0 ∙ sym (at_same w.phase k (suc (w.phase k)) k refl), sym (at_same w.place k 0 k refl), sym (at_same w.arrived k false k refl)) in (
            gone_on (looked v n),
            keeps,
            tt,
            after_a_look s w w' state id v (gone_on (looked v n)) fits more m there refl refl refl (Then r (Passes k lk go))
                (λ j. arrivals_stay w k j (sym mine.2 ∙ here)) (λ e. refl)
                (λ j h. subst R (sym (omega (arith, h.0, h.1, one))) now)
                (λ j out. let ne = not_mine v j one out in (at_other w.phase k (suc (w.phase k)) j ne, at_other w.place k 0 j ne, at_other w.arrived k false j ne)),
            ((λ _. refl), λ few. absurd (omega (arith, few, enough))),
          )
    ]
