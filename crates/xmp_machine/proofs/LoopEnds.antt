-- The end of a loop directive: the values and the traps that all nodes said.
use Rattle.std.proofs.Common.{◌≡◌, ◌+◌, ℕ, zero, suc, Bool, true, false, List, [], ◌∷◌, ◌++◌, map, take, length, ℤ, pos, Option, Some, None, slice_get, slice_index_or, set, get_or, refl, sym, ap, subst, ◌∙◌, IsSome, true≢false, arith, if◌then◌else◌}
use Rattle.std.specs.Prelude.{◌==◌, IfSome}
use Rattle.std.specs.List.{list_all, list_any, range_with_len}
use Rattle.std.specs.Option.{option_map}
use Rattle.std.proofs.lemmas.List.{get_or-append-add}
use Rattle.std.proofs.lemmas.Option.{none-some, same_Some}
use Rattle.xmp_prog.specs.Numbers.{lies_in}
use Rattle.xmp_meaning.specs.TrapWords.{SaidTrap, end_words}
use Rattle.xmp_move.specs.Stores.{packed, word_at}
use Rattle.xmp_message.specs.declared.Message.{Message}
use Rattle.xmp_instr.specs.declared.meeting.Reduced.{Reduced}
use Rattle.xmp_instr.specs.declared.meeting.Meeting.TheVariants as meeting
use Rattle.xmp_instr.specs.declared.parts.CodeParts.{CodeParts}
use Rattle.xmp_instr.specs.Data.{Note}
use Rattle.xmp_instr.specs.Node.{Node, Standing}
use Rattle.xmp_instr.specs.Meetings.{all_nodes, came, ended_by, noted_indices, said, said_by}
use Rattle.xmp_instr.specs.Resumed.{all_of, combined_from, earliest_trap, gone_on, loop_end_read, loop_ended, loop_ended_by, reduced_from, resumed_from, values_said, with_combined, with_words}
use Rattle.xmp_machine.specs.Resuming.{end_by, gone_from_loop, reduced_words, value_by, with_reduced, words_by}
use Rattle.xmp_machine.proofs.Puts.{puts, puts_once, puts_other}

pub map_map : {A B C : Type 0} (g : B → C) (f : A → B) (xs : List A) → map g (map f xs) ≡ map (λ x. g (f x)) xs
map_map g f [] = refl
map_map g f (x ∷ xs) = ap (λ ys. g (f x) ∷ ys) (map_map g f xs)

pub map_same : {A B : Type 0} (f g : A → B) → ((x : A) → f x ≡ g x) → (xs : List A) → map f xs ≡ map g xs
map_same f g h [] = refl
map_same f g h (x ∷ xs) = ap (λ y. y ∷ map f xs) (h x) ∙ ap (λ ys. g x ∷ ys) (map_same f g h xs)

-- ---- values

-- the code goes through the variables from the last, the definition from the first
pub reduced_is : (nodes node : ℕ) (heard : List (Option Message)) (value : ℕ → Reduced → ℤ) (store : List ℤ) (j : ℕ) (rs : List Reduced)
    → ((i : ℕ) (q : Reduced) → slice_get rs i ≡ Some q → value (j + i) q ≡ combined_from q (map (value_by node store heard (j + i) q.slot) (range_with_len 0 nodes)))
    → reduced_words nodes node heard j rs store ≡ puts value store j rs
reduced_is nodes node heard value store j [] h = refl
reduced_is nodes node heard value store j (r ∷ rs) h =
    ap (with_reduced nodes node heard j (Some r) rs)
    (reduced_is nodes node heard value store (suc j) rs (λ i q e.
    let same : j + suc i ≡ suc j + i = omega arith in
    subst (λ n. value n q ≡ combined_from q (map (value_by node store heard n q.slot) (range_with_len 0 nodes))) same (h (suc i) q e)))
    ∙ at (list_any (λ q. q.slot == r.slot) rs) refl
    ∙ sym (puts_once value store r.slot (value j r) (suc j) rs)
  where
    with_word : ℤ → ℕ → ℤ
    with_word x k = if k == node then x else slice_index_or (came (slice_get heard k)).words (3 + j) (pos 0)

    first : value j r ≡ combined_from r (map (value_by node store heard j r.slot) (range_with_len 0 nodes))
    first =
        let same : j + zero ≡ j = omega arith in
        subst (λ n. value n r ≡ combined_from r (map (value_by node store heard n r.slot) (range_with_len 0 nodes))) same (h zero r refl)

    at : (t : Bool) → list_any (λ q. q.slot == r.slot) rs ≡ t
        → (if t then puts value store (suc j) rs else set (puts value store (suc j) rs) r.slot
        (combined_from r (map (value_by node (puts value store (suc j) rs) heard j r.slot) (range_with_len 0 nodes))))
        ≡ (if t then puts value store (suc j) rs else set (puts value store (suc j) rs) r.slot (value j r))
    at true e = refl
    at false e = ap (λ v. set (puts value store (suc j) rs) r.slot v)
        (ap (λ x. combined_from r (map (with_word x) (range_with_len 0 nodes))) (puts_other value store r.slot (suc j) rs e) ∙ sym first)

no_words : (all : List (List ℤ)) (j : ℕ) (rs : List Reduced) → reduced_from all j rs None ≡ None
no_words all j [] = refl
no_words all j (r ∷ rs) = refl

-- where the definition has combined values, they are put into the slots
pub combined_is : (all : List (List ℤ)) (j : ℕ) (rs : List Reduced) (store words : List ℤ) → reduced_from all j rs (Some store) ≡ Some words
    → puts (λ i q. combined_from q (values_said all i)) store j rs ≡ words
combined_is all j [] store words e = same_Some store words e
combined_is all j (r ∷ rs) store words e = at (combined_is all (suc j) rs) (list_all (lies_in r.ty) (values_said all j)) e
  where
    at : ((store words : List ℤ) → reduced_from all (suc j) rs (Some store) ≡ Some words → puts (λ i q. combined_from q (values_said all i)) store (suc j) rs ≡ words)
        → (t : Bool) → reduced_from all (suc j) rs (with_combined (if t then Some (combined_from r (values_said all j)) else None) r.slot store) ≡ Some words
        → puts (λ i q. combined_from q (values_said all i)) (set store r.slot (combined_from r (values_said all j))) (suc j) rs ≡ words
    at behind true e = behind (set store r.slot (combined_from r (values_said all j))) words e
    at behind false e = absurd (none-some words (sym (no_words all (suc j) rs) ∙ e))

-- ---- what is said

-- what a node says at the end of a loop directive
said_part : (c : CodeParts) (s : Node) (m : Standing) (rs : List Reduced) (k : ℕ) → slice_get c.meetings m.meeting ≡ Some (meeting.LoopEnd rs)
    → (said_by c s m k).words ≡ words_by c.node (end_words (ended_by s.state.noted) (noted_indices s.state.noted) ++ packed s.state.words (map (λ r. r.slot) rs)) m.heard k
said_part c s m rs k row = ap (λ o. (if k == c.node then said c s m o k else came (slice_get m.heard k)).words) row ∙ at (k == c.node)
  where
    at : (t : Bool) → (if t then said c s m (Some (meeting.LoopEnd rs)) k else came (slice_get m.heard k)).words
        ≡ (if t then (end_words (ended_by s.state.noted) (noted_indices s.state.noted) ++ packed s.state.words (map (λ r. r.slot) rs)) else (came (slice_get m.heard k)).words)
    at true = refl
    at false = refl

part_read : (noted : Option Note) (values : List ℤ) → take 3 (end_words (ended_by noted) (noted_indices noted) ++ values) ≡ end_words (ended_by noted) (noted_indices noted)
part_read None values = refl
part_read (Some n) values = refl

part_long : (noted : Option Note) → length (end_words (ended_by noted) (noted_indices noted)) ≡ 3
part_long None = refl
part_long (Some n) = refl

end_is : (node : ℕ) (own values : List ℤ) (heard : List (Option Message)) (k : ℕ) → take 3 (own ++ values) ≡ own
    → loop_end_read (take 3 (words_by node (own ++ values) heard k)) ≡ end_by node own heard k
end_is node own values heard k e = at (k == node)
  where
    at : (t : Bool) → loop_end_read (take 3 (if t then (own ++ values) else (came (slice_get heard k)).words))
        ≡ loop_end_read (if t then own else take 3 (came (slice_get heard k)).words)
    at true = ap loop_end_read e
    at false = refl

value_is : (node : ℕ) (words store : List ℤ) (heard : List (Option Message)) (j slot k : ℕ) → get_or words (3 + j) (pos 0) ≡ word_at store slot
    → slice_index_or (words_by node words heard k) (3 + j) (pos 0) ≡ value_by node store heard j slot k
value_is node words store heard j slot k e = at (k == node)
  where
    at : (t : Bool) → slice_index_or (if t then words else (came (slice_get heard k)).words) (3 + j) (pos 0)
        ≡ (if t then word_at store slot else slice_index_or (came (slice_get heard k)).words (3 + j) (pos 0))
    at true = e
    at false = refl

slot_at : (store : List ℤ) (rs : List Reduced) (j : ℕ) (r : Reduced) → slice_get rs j ≡ Some r → get_or (packed store (map (λ r. r.slot) rs)) j (pos 0) ≡ word_at store r.slot
slot_at store [] j r e = absurd (none-some r e)
slot_at store (q ∷ qs) zero r e = ap (λ x. word_at store x.slot) (same_Some q r e)
slot_at store (q ∷ qs) (suc j) r e = slot_at store qs j r e

own_value : (own store : List ℤ) (rs : List Reduced) (j : ℕ) (r : Reduced) → length own ≡ 3 → slice_get rs j ≡ Some r
    → get_or (own ++ packed store (map (λ r. r.slot) rs)) (3 + j) (pos 0) ≡ word_at store r.slot
own_value own store rs j r long e =
    ap (λ n. get_or (own ++ packed store (map (λ r. r.slot) rs)) (n + j) (pos 0)) (sym long)
    ∙ get_or-append-add own (packed store (map (λ r. r.slot) rs)) j (pos 0)
    ∙ slot_at store rs j r e

-- ---- the end

-- what all nodes said
abbrev all_said : CodeParts → Node → Standing → List (List ℤ)
all_said c s m = map (λ k. (said_by c s m k).words) (all_nodes c)

-- how the node's part ended
abbrev own_end : Node → List ℤ
own_end s = end_words (ended_by s.state.noted) (noted_indices s.state.noted)

ends_are : (c : CodeParts) (s : Node) (m : Standing) (rs : List Reduced) → slice_get c.meetings m.meeting ≡ Some (meeting.LoopEnd rs)
    → map (λ words. loop_end_read (take 3 words)) (all_said c s m) ≡ map (end_by c.node (own_end s) m.heard) (range_with_len 0 c.nodes)
ends_are c s m rs row =
    map_map (λ words. loop_end_read (take 3 words)) (λ k. (said_by c s m k).words) (all_nodes c)
    ∙ map_same (λ k. loop_end_read (take 3 (said_by c s m k).words)) (end_by c.node (own_end s) m.heard)
    (λ k. ap (λ words. loop_end_read (take 3 words)) (said_part c s m rs k row)
    ∙ end_is c.node (own_end s) (packed s.state.words (map (λ r. r.slot) rs)) m.heard k (part_read s.state.noted (packed s.state.words (map (λ r. r.slot) rs)))) (all_nodes c)

values_are : (c : CodeParts) (s : Node) (m : Standing) (rs : List Reduced) → slice_get c.meetings m.meeting ≡ Some (meeting.LoopEnd rs)
    → (i : ℕ) (q : Reduced) → slice_get rs i ≡ Some q → values_said (all_said c s m) i ≡ map (value_by c.node s.state.words m.heard i q.slot) (range_with_len 0 c.nodes)
values_are c s m rs row i q e =
    map_map (λ words. slice_index_or words (3 + i) (pos 0)) (λ k. (said_by c s m k).words) (all_nodes c)
    ∙ map_same (λ k. slice_index_or (said_by c s m k).words (3 + i) (pos 0)) (value_by c.node s.state.words m.heard i q.slot)
    (λ k. ap (λ words. slice_index_or words (3 + i) (pos 0)) (said_part c s m rs k row)
    ∙ value_is c.node (own_end s ++ packed s.state.words (map (λ r. r.slot) rs)) s.state.words m.heard i q.slot k
    (own_value (own_end s) s.state.words rs i q (part_long s.state.noted) e)) (all_nodes c)

words_are : (c : CodeParts) (s : Node) (m : Standing) (rs : List Reduced) (words : List ℤ) → slice_get c.meetings m.meeting ≡ Some (meeting.LoopEnd rs)
    → reduced_from (all_said c s m) 0 rs (Some s.state.words) ≡ Some words → words ≡ reduced_words c.nodes c.node m.heard 0 rs s.state.words
words_are c s m rs words row e =
    sym (combined_is (all_said c s m) 0 rs s.state.words words e)
    ∙ sym (reduced_is c.nodes c.node m.heard (λ i q. combined_from q (values_said (all_said c s m) i)) s.state.words 0 rs
    (λ i q h.
    let none : i ≡ 0 + i = omega arith in
    subst (λ n. combined_from q (values_said (all_said c s m) n) ≡ combined_from q (map (value_by c.node s.state.words m.heard n q.slot) (range_with_len 0 c.nodes)))
    none (ap (combined_from q) (values_are c s m rs row i q h))))

-- the traps of all parts
abbrev pub parts_end : CodeParts → Node → Standing → Option (Option SaidTrap)
parts_end c s m = option_map earliest_trap (all_of (map (end_by c.node (own_end s) m.heard) (range_with_len 0 c.nodes)))

ended_there : (c : CodeParts) (s : Node) (m : Standing) (rs : List Reduced) → slice_get c.meetings m.meeting ≡ Some (meeting.LoopEnd rs)
    → resumed_from c s m (slice_get c.meetings m.meeting) ≡ loop_ended_by rs (all_said c s m) s (all_of (map (end_by c.node (own_end s) m.heard) (range_with_len 0 c.nodes)))
ended_there c s m rs row = ap (resumed_from c s m) row ∙ ap (λ ends. loop_ended_by rs (all_said c s m) s (all_of ends)) (ends_are c s m rs row)

some_end : (rs : List Reduced) (all : List (List ℤ)) (s : Node) (o : Option (List (Option SaidTrap))) → IsSome (loop_ended_by rs all s o) → IsSome (option_map earliest_trap o)
some_end rs all s None h = h
some_end rs all s (Some traps) h = refl

-- where the node goes on, all said how their parts ended
pub loop_ends : (c : CodeParts) (s : Node) (m : Standing) (rs : List Reduced) → slice_get c.meetings m.meeting ≡ Some (meeting.LoopEnd rs)
    → IsSome (resumed_from c s m (slice_get c.meetings m.meeting)) → IsSome (parts_end c s m)
loop_ends c s m rs row h = some_end rs (all_said c s m) s (all_of (map (end_by c.node (own_end s) m.heard) (range_with_len 0 c.nodes))) (subst IsSome (ended_there c s m rs row) h)

-- and goes on so
pub loop_goes : (c : CodeParts) (s t : Node) (m : Standing) (rs : List Reduced) → slice_get c.meetings m.meeting ≡ Some (meeting.LoopEnd rs)
    → IsSome (resumed_from c s m (slice_get c.meetings m.meeting))
    → IfSome (parts_end c s m) (λ trap. t ≡ gone_from_loop trap (reduced_words c.nodes c.node m.heard 0 rs s.state.words) s)
    → resumed_from c s m (slice_get c.meetings m.meeting) ≡ Some t
loop_goes c s t m rs row some h =
    ended_there c s m rs row ∙ at (all_of (map (end_by c.node (own_end s) m.heard) (range_with_len 0 c.nodes))) (subst IsSome (ended_there c s m rs row) some) h
  where
    all : List (List ℤ)
    all = all_said c s m

    kept : (o : Option (List ℤ)) → reduced_from (all_said c s m) 0 rs (Some s.state.words) ≡ o → IsSome (with_words s o)
        → t ≡ gone_on s (record s.state { words = reduced_words c.nodes c.node m.heard 0 rs s.state.words }) → with_words s o ≡ Some t
    kept None e some g = absurd (true≢false (sym some))
    kept (Some words) e some g = ap (λ ws. Some (gone_on s (record s.state { words = ws }))) (words_are c s m rs words row e) ∙ ap Some (sym g)

    gone : (trap : Option SaidTrap) → IsSome (loop_ended rs (all_said c s m) s trap) → t ≡ gone_from_loop trap (reduced_words c.nodes c.node m.heard 0 rs s.state.words) s
        → loop_ended rs (all_said c s m) s trap ≡ Some t
    gone None some g = kept (reduced_from (all_said c s m) 0 rs (Some s.state.words)) refl some g
    gone (Some trap) some g = ap Some (sym g)

    at : (o : Option (List (Option SaidTrap))) → IsSome (loop_ended_by rs (all_said c s m) s o)
        → IfSome (option_map earliest_trap o) (λ trap. t ≡ gone_from_loop trap (reduced_words c.nodes c.node m.heard 0 rs s.state.words) s)
        → loop_ended_by rs (all_said c s m) s o ≡ Some t
    at None some g = absurd (true≢false (sym some))
    at (Some traps) some g = gone (earliest_trap traps) some g
