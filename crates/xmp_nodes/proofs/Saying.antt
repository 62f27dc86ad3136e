-- What is said is counted as it is noted, and then every node does something by itself.
use Rattle.std.proofs.Common.{◌≡◌, ◌≢◌, ◌<◌, ◌+◌, ◌-◌, ◌^◌, min, ◌++◌, ◌==◌, if◌then◌else◌, ℕ, zero, suc, Bool, true, false, List, [], ◌∷◌, length, Some, refl, sym, ap, subst, ◌∙◌, arith}
use Rattle.std.specs.Prelude.{slice_get}
use Rattle.std.proofs.lemmas.Bool.Decides.{nat_tests}
use Rattle.std.proofs.lemmas.Option.{slice_get_within, none-some, same_Some}
use Rattle.std.proofs.lemmas.List.Sums.{sum_by_push}
use Rattle.xmp_prog.specs.declared.parts.ProgParts.{ProgParts}
use Rattle.xmp_prog.specs.Fits.{node_count}
use Rattle.xmp_paths.specs.Plans.{Plan}
use Rattle.xmp_meaning.specs.Runs.{State, StepIn, Gave, Ended, Run}
use Rattle.xmp_meaning.specs.Exchanges.{Exchange, Notes}
use Rattle.xmp_meaning.specs.Messages.{Message, words_sent, words_alone, message, sent, said as said_in}
use Rattle.xmp_nodes.specs.Nodes.{bounded, Nodes, all_do, raised_by, rows_raised, saying}
use Rattle.xmp_nodes.proofs.Each.{Alone, AllAre, Meets, AllMeet, all_do_meets, rows_length, raised_length}
use Rattle.xmp_nodes.proofs.Agrees.{Counted, ReadyAt, AllAlong}

-- one exchange more
abbrev pub noted_behind : Notes → Exchange → Notes
noted_behind n x = record n { exchanges = n.exchanges ++ x ∷ [] }

-- the words said are as many as those of the exchange's messages
abbrev pub SaidAsNoted : ProgParts → (said : ℕ → ℕ → Message) → Exchange → Type 0
SaidAsNoted p said x = (from to : ℕ) → from < node_count p → to < node_count p → from ≢ to → words_sent (said from to) ≡ words_sent (message p x from to)

-- an element of a list that is raised
raised_from : (more : ℕ → ℕ) (a : ℕ) (ns : List ℕ) (k n : ℕ) → slice_get (raised_by more a ns) k ≡ Some n
    → (m : ℕ) × (slice_get ns k ≡ Some m) × (n ≡ bounded (m + more (a + k)))
raised_from more a [] k n e = absurd (none-some n e)
raised_from more a (m ∷ ns) zero n e = let z : a ≡ a + 0 = omega arith in (m, refl, sym (same_Some (bounded (m + more a)) n e) ∙ ap (λ j. bounded (m + more j)) z)
raised_from more a (m ∷ ns) (suc k) n e =
    let r = raised_from more (suc a) ns k n e in
    let shift : suc a + k ≡ a + suc k = omega arith in
    (r.0, r.1, r.2 ∙ ap (λ j. bounded (r.0 + more j)) shift)

raised_rows : (more : ℕ → ℕ → ℕ) (a : ℕ) (rows : List (List ℕ)) (k : ℕ) (row : List ℕ) → slice_get (rows_raised more a rows) k ≡ Some row
    → (before : List ℕ) × (slice_get rows k ≡ Some before) × (row ≡ raised_by (more (a + k)) 0 before)
raised_rows more a [] k row e = absurd (none-some row e)
raised_rows more a (r ∷ rows) zero row e = let z : a ≡ a + 0 = omega arith in (r, refl, sym (same_Some (raised_by (more a) 0 r) row e) ∙ ap (λ j. raised_by (more j) 0 r) z)
raised_rows more a (r ∷ rows) (suc k) row e =
    let i = raised_rows more (suc a) rows k row e in
    let shift : suc a + k ≡ a + suc k = omega arith in
    (i.0, i.1, i.2 ∙ ap (λ j. raised_by (more j) 0 i.0) shift)

abbrev told : (ℕ → ℕ → Message) → ℕ → ℕ → ℕ
told said from to = if from == to then 0 else words_sent (said from to)

told_same : (p : ProgParts) (said : ℕ → ℕ → Message) (x : Exchange) (from to : ℕ) → SaidAsNoted p said x → from < node_count p → to < node_count p
    → told said from to ≡ words_sent (message p x from to)
told_same p said x from to same lf lt = at_test (from == to) refl
  where
    different : (from to : ℕ) → (from == to) ≡ false → from ≢ to
    different from to e f = grind (arith, nat_tests)

    silent : (b : Bool) → (from == to) ≡ b → b ≡ true → words_sent (message p x from to) ≡ 0
    silent true e f = ap (λ c. words_sent (if c then words_alone [] else said_in p x from to)) e
    silent false e f = cc

    at_test : (b : Bool) → (from == to) ≡ b → (if b then 0 else words_sent (said from to)) ≡ words_sent (message p x from to)
    at_test true e = sym (silent true e refl)
    at_test false e = same from to lf lt (different from to e)

-- a count that was stopped and goes on
least_on : (a b c : ℕ) → min (min a c + b) c ≡ min (a + b) c
least_on a b c = omega arith

pub bounded_on : (a b : ℕ) → bounded (bounded a + b) ≡ bounded (a + b)
bounded_on a b = least_on a b (2 ^ 64 - 1)

-- so the counts are those of the notes
pub counts_said : (p : ProgParts) (notes : Notes) (turns : List ℕ) (rows : List (List ℕ)) (said : ℕ → ℕ → Message) (x : Exchange)
    → Counted p notes turns rows → SaidAsNoted p said x → Counted p (noted_behind notes x) turns (rows_raised (told said) 0 rows)
counts_said p notes turns rows said x c same = record {
  many = c.many;
  turns = c.turns;
  rows = rows_length (told said) 0 rows ∙ c.rows;
  row = λ from row e.
      let r = raised_rows (told said) 0 rows from row e in
      ap length r.2 ∙ raised_length (told said (0 + from)) 0 r.0 ∙ c.row from r.0 r.1;
  sent = λ from to n row e f.
      let r = raised_rows (told said) 0 rows from row e in
      let g = raised_from (told said (0 + from)) 0 r.0 to n (subst (λ l. slice_get l to ≡ Some n) r.2 f) in
      let lf : from < node_count p = (let i = slice_get_within rows from r.0 r.1 in let l = c.rows in omega (arith, i, l)) in
      let lt : to < node_count p = (let i = slice_get_within r.0 to g.0 g.1 in let l = c.row from r.0 r.1 in omega (arith, i, l)) in
      let zf : 0 + from ≡ from = omega arith in
      let zt : 0 + to ≡ to = omega arith in
      g.2
      ∙ (λ i. bounded (c.sent from to g.0 r.0 r.1 g.1 i + told said (zf i) (zt i)))
      ∙ bounded_on (sent p notes.exchanges from to) (told said from to)
      ∙ ap (λ m. bounded (sent p notes.exchanges from to + m)) (told_same p said x from to same lf lt)
      ∙ ap bounded (sym (sum_by_push (λ y. words_sent (message p y from to)) notes.exchanges x));
}

-- What is said is noted, and each node is ready then: so are all.
pub say_and_do : {A : Type 0} (p : ProgParts) (rest : Plan _) (V : A → Type 0) (none a : A) (run : ℕ → Run (Unit {0}) A) (s t : State Notes) (w : Nodes) (said : ℕ → ℕ → Message) (x : Exchange)
    → 0 < node_count p → length w.stores ≡ node_count p → V a
    → Counted p s.extra w.turns w.sent → SaidAsNoted p said x → t.extra ≡ noted_behind s.extra x
    → ((k : ℕ) (n : Alone) → slice_get w.stores k ≡ Some n → (m : Alone) × (run k n ≡ Gave a m) × ReadyAt p k rest t m)
    → AllAlong p V rest (Gave a t) (all_do none run (saying said w))
say_and_do {A} p rest V none a run s t w said x some many v counts same extra each =
    finish (all_do none run after) (all_do_meets (λ k s n. Unit {0}) Q none run after (Gave a t) (let l = many in omega (arith, some, l)) meets)
  where
    after : Nodes
    after = saying said w

    Q : ℕ → A → State Notes → Alone → Type 0
    Q k b u n = ReadyAt p k rest u n

    meets : (k : ℕ) (n : Alone) → slice_get w.stores k ≡ Some n → Meets (λ k s n. Unit {0}) Q k (Gave a t) (run k n)
    meets k n e =
        let r = each k n e in
        subst (λ q. Meets (λ k s n. Unit {0}) Q k (Gave a t) q) (sym r.1) (refl, r.2)

    finish : (q : StepIn Nodes A) → AllMeet (λ k s n. Unit {0}) Q after (Gave a t) q → AllAlong p V rest (Gave a t) q
    finish (Ended e v) m = absurd m
    finish (Gave b u) m =
        let all : AllAre after (λ k. Q k a) t u = m.1 in
        record {
          same = m.0;
          value = v;
          ready = record {
            many = all.length ∙ many;
            nodes = all.each;
            counts = subst (λ e. Counted p e u.turns u.sent) (sym extra)
                (subst (λ r. Counted p (noted_behind s.extra x) u.turns r) (sym all.sent)
                (subst (λ r. Counted p (noted_behind s.extra x) r after.sent) (sym all.turns) (counts_said p s.extra w.turns w.sent said x counts same)));
          };
        }
