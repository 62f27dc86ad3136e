-- The end of tasks: what all nodes said of each.
use Rattle.std.proofs.Common.{◌≡◌, ℕ, Bool, true, false, ◌||◌, List, [], ◌∷◌, ◌++◌, map, ℤ, Option, Some, None, slice_get, refl, sym, ap, subst, ◌∙◌, IsSome, IsTrue, true≢false, if◌then◌else◌}
use Rattle.std.specs.Prelude.{◌==◌, IfSome}
use Rattle.std.specs.List.{AllByRecursion, list_any}
use Rattle.std.specs.Option.{option_map}
use Rattle.std.proofs.lemmas.Option.{none-some, same_Some}
use Rattle.xmp_meaning.specs.TrapWords.{SaidTrap, end_words}
use Rattle.xmp_instr.specs.declared.meeting.Meeting.TheVariants as meeting
use Rattle.xmp_instr.specs.declared.parts.CodeParts.{CodeParts}
use Rattle.xmp_instr.specs.Node.{Node, Standing}
use Rattle.xmp_instr.specs.Valid.{is_set}
use Rattle.xmp_instr.specs.Meetings.{came, ended_by, says}
use Rattle.xmp_instr.specs.Resumed.{TaskSaid, all_of, first_trap, joined, resumed_from, task_end_read, task_said, tasks_ended, text_of_task, texts_to_trap, with_task_text, words_of_task}
use Rattle.xmp_machine.specs.Resuming.{first_trap_by, gone_from_tasks, task_end_by, task_text_by, texts_by, unless_trapped, with_first}

-- ---- one task

-- how the node's task ended, by its words
abbrev own_task_end : Node → List ℤ
own_task_end s = end_words (ended_by s.state.noted) []

words_are : (c : CodeParts) (s : Node) (m : Standing) (k : ℕ) (ks : List ℕ)
    → task_end_read (words_of_task c s m (k ∷ ks)) ≡ task_end_by c.node (own_task_end s) m.heard (k ∷ ks)
words_are c s m k ks = at (k == c.node)
  where
    at : (t : Bool) → task_end_read (if (t || list_any (λ n. n == c.node) ks) then own_task_end s else (if t then says c s m k else came (slice_get m.heard k)).words)
        ≡ task_end_read (if (t || list_any (λ n. n == c.node) ks) then own_task_end s else (came (slice_get m.heard k)).words)
    at true = refl
    at false = refl

text_is : (c : CodeParts) (s : Node) (m : Standing) (k : ℕ) (ks : List ℕ) → text_of_task c s m (k ∷ ks) ≡ task_text_by c.node m.text m.heard (k ∷ ks)
text_is c s m k ks = at (k == c.node)
  where
    at : (t : Bool) → (if (t || list_any (λ n. n == c.node) ks) then m.text else (if t then says c s m k else came (slice_get m.heard k)).text)
        ≡ (if (t || list_any (λ n. n == c.node) ks) then m.text else (came (slice_get m.heard k)).text)
    at true = refl
    at false = refl

-- what was said of a task
abbrev said_of_task : CodeParts → Node → Standing → List ℕ → Option TaskSaid
said_of_task c s m set = with_task_text (task_end_by c.node (own_task_end s) m.heard set) (task_text_by c.node m.text m.heard set)

tasks_are : (c : CodeParts) (s : Node) (m : Standing) (sets : List (List ℕ)) → AllByRecursion (λ set. IsTrue (is_set c.nodes set)) sets
    → map (task_said c s m) sets ≡ map (said_of_task c s m) sets
tasks_are c s m [] h = refl
tasks_are c s m ([] ∷ sets) h = absurd (true≢false (sym h.0))
tasks_are c s m ((k ∷ ks) ∷ sets) h =
    ap (λ o. with_task_text o (text_of_task c s m (k ∷ ks)) ∷ map (task_said c s m) sets) (words_are c s m k ks)
    ∙ ap (λ text. with_task_text (task_end_by c.node (own_task_end s) m.heard (k ∷ ks)) text ∷ map (task_said c s m) sets) (text_is c s m k ks)
    ∙ ap (λ os. said_of_task c s m (k ∷ ks) ∷ os) (tasks_are c s m sets h.1)

-- ---- all tasks

first_of_both : (end : Option (Option SaidTrap)) (text : List ℕ) (behind : Option (List TaskSaid))
    → option_map first_trap (joined (with_task_text end text) behind) ≡ with_first end (option_map first_trap behind)
first_of_both None text behind = refl
first_of_both (Some trap) text None = refl
first_of_both (Some None) text (Some ts) = refl
first_of_both (Some (Some trap)) text (Some ts) = refl

first_is : (end : List ℕ → Option (Option SaidTrap)) (text : List ℕ → List ℕ) (sets : List (List ℕ))
    → option_map first_trap (all_of (map (λ set. with_task_text (end set) (text set)) sets)) ≡ first_trap_by end sets
first_is end text [] = refl
first_is end text (set ∷ sets) =
    first_of_both (end set) (text set) (all_of (map (λ set. with_task_text (end set) (text set)) sets)) ∙ ap (with_first (end set)) (first_is end text sets)

no_more : (xs : List ℕ) → xs ++ [] ≡ xs
no_more [] = refl
no_more (x ∷ xs) = ap (λ ys. x ∷ ys) (no_more xs)

text_of_both : (end : Option (Option SaidTrap)) (text behind : List ℕ) (o : Option (List TaskSaid)) → ((ts : List TaskSaid) → o ≡ Some ts → behind ≡ texts_to_trap ts)
    → (ts : List TaskSaid) → joined (with_task_text end text) o ≡ Some ts → text ++ unless_trapped end behind ≡ texts_to_trap ts
text_of_both None text behind o h ts e = absurd (none-some ts e)
text_of_both (Some trap) text behind None h ts e = absurd (none-some ts e)
text_of_both (Some None) text behind (Some rest) h ts e = ap (λ xs. text ++ xs) (h rest refl) ∙ ap texts_to_trap (same_Some _ ts e)
text_of_both (Some (Some trap)) text behind (Some rest) h ts e = no_more text ∙ ap texts_to_trap (same_Some _ ts e)

texts_are : (end : List ℕ → Option (Option SaidTrap)) (text : List ℕ → List ℕ) (sets : List (List ℕ)) (ts : List TaskSaid)
    → all_of (map (λ set. with_task_text (end set) (text set)) sets) ≡ Some ts → texts_by end text sets ≡ texts_to_trap ts
texts_are end text [] ts e = ap texts_to_trap (same_Some [] ts e)
texts_are end text (set ∷ sets) ts e =
    text_of_both (end set) (text set) (texts_by end text sets) (all_of (map (λ set. with_task_text (end set) (text set)) sets)) (texts_are end text sets) ts e

-- ---- the end

-- the trap of the tasks, and their texts
abbrev pub tasks_end : CodeParts → Node → Standing → List (List ℕ) → Option (Option SaidTrap)
tasks_end c s m sets = first_trap_by (task_end_by c.node (own_task_end s) m.heard) sets

abbrev pub tasks_text : CodeParts → Node → Standing → List (List ℕ) → List ℕ
tasks_text c s m sets = texts_by (task_end_by c.node (own_task_end s) m.heard) (task_text_by c.node m.text m.heard) sets

ended_there : (c : CodeParts) (s : Node) (m : Standing) (sets : List (List ℕ)) → slice_get c.meetings m.meeting ≡ Some (meeting.TaskEnd sets)
    → AllByRecursion (λ set. IsTrue (is_set c.nodes set)) sets
    → resumed_from c s m (slice_get c.meetings m.meeting) ≡ tasks_ended c s (all_of (map (said_of_task c s m) sets))
ended_there c s m sets row h = ap (resumed_from c s m) row ∙ ap (λ os. tasks_ended c s (all_of os)) (tasks_are c s m sets h)

some_end : (c : CodeParts) (s : Node) (o : Option (List TaskSaid)) → IsSome (tasks_ended c s o) → IsSome (option_map first_trap o)
some_end c s None h = h
some_end c s (Some ts) h = refl

-- where the node goes on, the ends of all tasks are known
pub tasks_known : (c : CodeParts) (s : Node) (m : Standing) (sets : List (List ℕ)) → slice_get c.meetings m.meeting ≡ Some (meeting.TaskEnd sets)
    → AllByRecursion (λ set. IsTrue (is_set c.nodes set)) sets → IsSome (resumed_from c s m (slice_get c.meetings m.meeting)) → IsSome (tasks_end c s m sets)
tasks_known c s m sets row h some =
    subst IsSome (first_is (task_end_by c.node (own_task_end s) m.heard) (task_text_by c.node m.text m.heard) sets)
    (some_end c s (all_of (map (said_of_task c s m) sets)) (subst IsSome (ended_there c s m sets row h) some))

-- and it goes on so
pub tasks_go : (c : CodeParts) (s t : Node) (m : Standing) (sets : List (List ℕ)) → slice_get c.meetings m.meeting ≡ Some (meeting.TaskEnd sets)
    → AllByRecursion (λ set. IsTrue (is_set c.nodes set)) sets → IsSome (resumed_from c s m (slice_get c.meetings m.meeting))
    → IfSome (tasks_end c s m sets) (λ trap. t ≡ gone_from_tasks c.node trap (tasks_text c s m sets) s)
    → resumed_from c s m (slice_get c.meetings m.meeting) ≡ Some t
tasks_go c s t m sets row h some g =
    ended_there c s m sets row h
    ∙ at (all_of (map (said_of_task c s m) sets)) refl (subst IsSome (ended_there c s m sets row h) some)
    (subst (λ o. IfSome o (λ trap. t ≡ gone_from_tasks c.node trap (tasks_text c s m sets) s))
    (sym (first_is (task_end_by c.node (own_task_end s) m.heard) (task_text_by c.node m.text m.heard) sets)) g)
  where
    at : (o : Option (List TaskSaid)) → all_of (map (said_of_task c s m) sets) ≡ o → IsSome (tasks_ended c s o)
        → IfSome (option_map first_trap o) (λ trap. t ≡ gone_from_tasks c.node trap (tasks_text c s m sets) s) → tasks_ended c s o ≡ Some t
    at None e some g = absurd (true≢false (sym some))
    at (Some ts) e some g =
        ap (λ text. Some (gone_from_tasks c.node (first_trap ts) text s)) (sym (texts_are (task_end_by c.node (own_task_end s) m.heard) (task_text_by c.node m.text m.heard) sets ts e))
        ∙ ap Some (sym g)
