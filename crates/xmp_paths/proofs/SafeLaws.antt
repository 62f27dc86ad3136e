-- Safe plans: along a sequence, in a branch, in a loop, and that no rule breaks in them.
use Rattle.std.proofs.Common.{◌≡◌, ℕ, zero, suc, Bool, true, false, List, [], ◌∷◌, ◌++◌, inl, inr, refl, sym, ap, ◌∙◌, subst, append_assoc, ◌↔◌, ⊎_elim}
use Rattle.xmp_base.specs.declared.place.Place.{Place}
use Rattle.xmp_paths.specs.NodeSets.{has}
use Rattle.xmp_paths.specs.Plans.{Plan, emit, sequence, branch, loop, Path, Repeated}
use Rattle.xmp_paths.specs.Rules.{Broken, Breaks}
use Rattle.xmp_paths.specs.Walk.{after_events}
use Rattle.xmp_paths.specs.Safe.{left, Safe, NothingWrong}
use Rattle.xmp_paths.proofs.PathLaws.{some_path, split, not_empty, walk-append, walk_keeps}
use Rattle.xmp_paths.proofs.StaleLaws.{left_walk, walk_left}
use Rattle.xmp_paths.specs.declared.event.Event.{Event}
use Rattle.xmp_paths.specs.declared.event.Event.TheVariants.{Read}

module _ (node : ℕ) where
  -- what is safe from more copies that are out of date is safe from fewer
  pub safe_fewer : (p : Plan Event) (stale less : ℕ → Bool) → ((object : ℕ) → less object ≡ true → stale object ≡ true) →
      Safe node p stale → Safe node p less
  safe_fewer p stale less h s = record {
    never = λ before after object nodes rule at path reads k.
        s.never before after object nodes rule at path reads (walk_keeps object node before (less object) (stale object) (h object) k);
  }

  -- a plan of which each path is one of a safe plan is safe
  pub safe_paths : (p q : Plan Event) (stale : ℕ → Bool) → ((way : List Event) → Path q way → Path p way) → Safe node p stale → Safe node q stale
  safe_paths p q stale h s = record {
    never = λ before after object nodes rule at path reads k. s.never before after object nodes rule at (h _ path) reads k;
  }

  pub safe_front : (p q : Plan Event) (stale : ℕ → Bool) → Safe node (sequence p q) stale → Safe node p stale
  safe_front p q stale s = record {
    never = λ before after object nodes rule at path reads k.
        let y = some_path q in
        let read = Read object nodes rule at in
        s.never before (after ++ y.0) object nodes rule at
        (record {
          front = before ++ read ∷ after;
          back = y.0;
          whole = sym (append_assoc before (read ∷ after) y.0);
          in_front = path;
          in_back = y.1;
        })
        reads k;
  }

  pub safe_back : (p q : Plan Event) (stale : ℕ → Bool) → Safe node (sequence p q) stale →
      (way : List Event) → Path p way → Safe node q (left node way stale)
  safe_back p q stale s way w = record {
    never = λ before after object nodes rule at path reads k.
        let read = Read object nodes rule at in
        s.never (way ++ before) after object nodes rule at
        (record {
          front = way;
          back = before ++ read ∷ after;
          whole = append_assoc way before (read ∷ after);
          in_front = w;
          in_back = path;
        })
        reads (walk-append object node way before (stale object) ∙ k);
  }

  pub safe_both : (p q : Plan Event) (stale : ℕ → Bool) → Safe node p stale →
      ((way : List Event) → Path p way → Safe node q (left node way stale)) → Safe node (sequence p q) stale
  safe_both p q stale s t = record {
    never = λ before after object nodes rule at path reads k.
        ⊎_elim
        (λ c. s.never before c.0 object nodes rule at (subst (Path p) c.1 path.in_front) reads k)
        (λ c. (t path.front path.in_front).never c.0 after object nodes rule at (subst (Path q) c.2 path.in_back) reads
        (sym (walk-append object node path.front c.0 (stale object)) ∙ (ap (λ l. after_events object node l (stale object)) (sym c.1) ∙ k)))
        (split before after path.front path.back (Read object nodes rule at) path.whole);
  }

  pub safe_sequence : (p q : Plan Event) (stale : ℕ → Bool) →
      Safe node (sequence p q) stale ↔ (Safe node p stale × ((way : List Event) → Path p way → Safe node q (left node way stale)))
  safe_sequence p q stale = (λ s. (safe_front p q stale s, safe_back p q stale s), λ s. safe_both p q stale s.0 s.1)

  pub safe_branch : (p q : Plan Event) (stale : ℕ → Bool) → Safe node (branch p q) stale ↔ (Safe node p stale × Safe node q stale)
  safe_branch p q stale = (
    λ s. (safe_paths (branch p q) p stale (λ way w. inl w) s, safe_paths (branch p q) q stale (λ way w. inr w) s),
    λ s. record {
      never = λ before after object nodes rule at path reads k.
          ⊎_elim
          (λ w. s.0.never before after object nodes rule at w reads k)
          (λ w. s.1.never before after object nodes rule at w reads k) path;
    },
  )

  -- a turn, and then the loop
  turn_first : (p : Plan Event) (way : List Event) → Path (sequence p (loop p)) way → Path (loop p) way
  turn_first p way w = (
    suc w.in_back.0,
    record { front = w.front; back = w.back; whole = w.whole; in_front = w.in_front; in_back = w.in_back.1 },
  )

  some_turn : (p : Plan Event) (n : ℕ) (before after : List Event) (e : Event) → Repeated (Path p) n (before ++ e ∷ after) →
      Path (sequence p (loop p)) (before ++ e ∷ after)
  some_turn p zero before after e r = absurd (not_empty before after e r)
  some_turn p (suc n) before after e r = record { front = r.front; back = r.back; whole = r.whole; in_front = r.in_front; in_back = (n, r.in_back) }

  pub safe_loop : (p : Plan Event) (stale : ℕ → Bool) → Safe node (loop p) stale ↔ Safe node (sequence p (loop p)) stale
  safe_loop p stale = (
    safe_paths (loop p) (sequence p (loop p)) stale (turn_first p),
    λ s. record {
      never = λ before after object nodes rule at path reads k.
          s.never before after object nodes rule at (some_turn p path.0 before after (Read object nodes rule at) path.1) reads k;
    },
  )

  -- a read finds a current copy, and what is behind it is safe too
  pub safe_read : (object nodes rule : ℕ) (at : Place) (stale : ℕ → Bool) → Safe node (emit (Read object nodes rule at)) stale →
      has nodes node ≡ true → stale object ≡ true → ⊥
  safe_read object nodes rule at stale s reads k = s.never [] [] object nodes rule at refl reads k

-- no rule breaks in a plan exactly where it is safe on each node, from copies that are all current, and nothing is wrong
pub safe_is : (plan : Plan Event) → ((b : Broken) → Breaks plan b → ⊥) ↔ (((node : ℕ) → Safe node plan (λ object. false)) × NothingWrong plan)
safe_is plan = (
  λ none. (
    λ node. record {
      never = λ before after object nodes rule at path reads k.
          none (record { rule = rule; at = at }) (inl (record {
            before = before;
            after = after;
            object = object;
            nodes = nodes;
            node = node;
            path = path;
            reads = reads;
            stale = walk_left object node before k;
          }));
    },
    λ rule at s. none (record { rule = rule; at = at }) (inr s),
  ),
  λ s b h. ⊎_elim
      (λ r. (s.0 r.node).never r.before r.after r.object r.nodes b.rule b.at r.path r.reads (left_walk r.object r.node r.before false r.stale))
      (λ w. s.1 b.rule b.at w) h,
)
