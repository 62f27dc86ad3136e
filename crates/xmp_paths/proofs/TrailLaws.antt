-- The trail: what changes make of one object's set, and what undoing them brings back.
use Rattle.std.proofs.Common.{◌≡◌, ℕ, suc, ◌+◌, ◌<◌, ◌≤◌, Bool, true, false, ◌||◌, ◌&&◌, List, [], ◌∷◌, ◌++◌, refl, sym, ap, ◌∙◌, append_assoc, append-nil, length, map, take, drop, get_or, bit_or, if◌then◌else◌, cond, add-one}
use Rattle.std.specs.Prelude.{◌==◌}
use Rattle.std.proofs.Math.Seq.{drop-cons, drop-append_seam}
use Rattle.std.proofs.lemmas.List.{drop-append-le, take-append-le}
use Rattle.std.proofs.lemmas.Bool.{eqb-true}
use Rattle.xmp_paths.specs.NodeSets.{has}
use Rattle.xmp_paths.specs.Copies.{set_of, set_before, undone_at, put_at, add_at, change_now, change_joined, may_be_stale, Returns, ReturnsTo}
use Rattle.xmp_paths.proofs.NodeSetLaws.{has_union}
use Rattle.xmp_paths.specs.declared.copies.Change.{Change}
use Rattle.xmp_paths.specs.declared.copies.Copies.{Copies}

pub undone-append : (object : ℕ) (xs ys : List Change) (nodes : ℕ) → undone_at object (xs ++ ys) nodes ≡ undone_at object xs (undone_at object ys nodes)
undone-append object [] ys nodes = refl
undone-append object (c ∷ xs) ys nodes = ap (λ n. if c.object == object then c.nodes else n) (undone-append object xs ys nodes)

-- nothing is changed
pub returns_same : (c : Copies) → Returns c c
returns_same c = record { more = []; grown = sym (append-nil c.trail); undone = λ object. refl }

-- what can be undone twice can be undone at once
pub returns_then : (trail : List Change) (sets : ℕ → ℕ) (mid new : Copies) → ReturnsTo trail sets mid → Returns mid new → ReturnsTo trail sets new
returns_then trail sets mid new a b = record {
  more = a.more ++ b.more;
  grown = b.grown ∙ (ap (λ t. t ++ b.more) a.grown ∙ append_assoc trail a.more b.more);
  undone = λ object.
      undone-append object a.more b.more (set_of new object)
      ∙ (ap (undone_at object a.more) (b.undone object) ∙ a.undone object);
}

-- undoing all that came since brings the old sets back
pub set_returned : (old new : Copies) → Returns old new → (object : ℕ) → set_before new (length old.trail) object ≡ set_of old object
set_returned old new r object =
    ap (λ t. undone_at object t (set_of new object)) (ap (drop (length old.trail)) r.grown ∙ drop-append_seam old.trail r.more)
    ∙ r.undone object

-- ---- the loops over changes

pub put_step : (object : ℕ) (changes : List Change) (i : ℕ) (d : Change) → i < length changes → (now new : ℕ) →
    new ≡ (if (get_or changes i d).object == object then (get_or changes i d).nodes else now) →
    put_at object (drop i changes) now ≡ put_at object (drop (i + 1) changes) new
put_step object changes i d h now new e =
    ap (λ l. put_at object l now) (drop-cons changes i d h) ∙ (ap (put_at object (drop (suc i) changes)) (sym e)
    ∙ ap (λ j. put_at object (drop j changes) new) (sym (add-one i)))

added_one : (r : Copies) (object was : ℕ) (c : Change) → was ≡ set_of r c.object →
    (if c.object == object then bit_or was c.nodes else set_of r object) ≡ (if c.object == object then bit_or (set_of r object) c.nodes else set_of r object)
added_one r object was c e = case (c.object == object) refl
  where
    case : (t : Bool) → (c.object == object) ≡ t → cond t (bit_or was c.nodes) (set_of r object) ≡ cond t (bit_or (set_of r object) c.nodes) (set_of r object)
    case true f = ap (λ n. bit_or n c.nodes) (e ∙ ap (set_of r) (eqb-true c.object object f))
    case false f = refl

pub add_step : (r : Copies) (object : ℕ) (changes : List Change) (i : ℕ) (d : Change) → i < length changes → (was new : ℕ) →
    was ≡ set_of r (get_or changes i d).object →
    new ≡ (if (get_or changes i d).object == object then bit_or was (get_or changes i d).nodes else set_of r object) →
    add_at object (drop i changes) (set_of r object) ≡ add_at object (drop (i + 1) changes) new
add_step r object changes i d h was new f e =
    ap (λ l. add_at object l (set_of r object)) (drop-cons changes i d h)
    ∙ (ap (add_at object (drop (suc i) changes)) (sym (e ∙ added_one r object was (get_or changes i d) f))
    ∙ ap (λ j. add_at object (drop j changes) new) (sym (add-one i)))

pub undo_step : (object to : ℕ) (old new : List Change) (c : Change) (was now : ℕ) → old ≡ new ++ c ∷ [] → to ≤ length new →
    now ≡ (if c.object == object then c.nodes else was) → undone_at object (drop to new) now ≡ undone_at object (drop to old) was
undo_step object to old new c was now is le e =
    ap (undone_at object (drop to new)) e
    ∙ (sym (undone-append object (drop to new) (c ∷ []) was)
    ∙ ap (λ t. undone_at object t was) (sym (ap (drop to) is ∙ drop-append-le to new (c ∷ []) le)))

pub undo_trail : (to : ℕ) (old new : List Change) (c : Change) → old ≡ new ++ c ∷ [] → to ≤ length new → take to new ≡ take to old
undo_trail to old new c is le = sym (ap (take to) is ∙ take-append-le to new (c ∷ []) le)

-- ---- joining two ends

joined_step : (r : Copies) (object node : ℕ) (c : Change) (x y : ℕ) → has x node ≡ (has y node || has (set_of r object) node) →
    has (if c.object == object then bit_or c.nodes (set_of r c.object) else x) node
    ≡ (has (if c.object == object then c.nodes else y) node || has (set_of r object) node)
joined_step r object node c x y h = case (c.object == object) refl
  where
    case : (t : Bool) → (c.object == object) ≡ t →
        has (cond t (bit_or c.nodes (set_of r c.object)) x) node ≡ (has (cond t c.nodes y) node || has (set_of r object) node)
    case true e = has_union c.nodes (set_of r c.object) node ∙ ap (λ o. has c.nodes node || has (set_of r o) node) (eqb-true c.object object e)
    case false e = h

-- changes with the nodes of now give what the changes give, and the nodes of now
put_joined : (r : Copies) (object node : ℕ) (changes : List Change) (x y : ℕ) → has x node ≡ (has y node || has (set_of r object) node) →
    has (put_at object (map (change_joined r) changes) x) node ≡ (has (put_at object changes y) node || has (set_of r object) node)
put_joined r object node [] x y h = h
put_joined r object node (c ∷ changes) x y h = put_joined r object node changes _ _ (joined_step r object node c x y h)

-- whether there is an entry for the object
touched : ℕ → List Change → Bool
touched object [] = false
touched object (c ∷ entries) = (c.object == object) || touched object entries

or_none : (a : Bool) → a ≡ (a || false)
or_none true = refl
or_none false = refl

or_twice : (a r t : Bool) → ((a || r) || (t && r)) ≡ (a || r)
or_twice true r t = refl
or_twice false true t = refl
or_twice false false true = refl
or_twice false false false = refl

or_same : (a : Bool) → a ≡ (a || a)
or_same true = refl
or_same false = refl

added_step : (r : Copies) (object node : ℕ) (c : Change) (x : ℕ) (t : Bool) →
    (has (if c.object == object then bit_or x (set_of r c.object) else x) node || (t && has (set_of r object) node))
    ≡ (has x node || (((c.object == object) || t) && has (set_of r object) node))
added_step r object node c x t = case (c.object == object) refl
  where
    case : (u : Bool) → (c.object == object) ≡ u →
        (has (cond u (bit_or x (set_of r c.object)) x) node || (t && has (set_of r object) node)) ≡ (has x node || ((u || t) && has (set_of r object) node))
    case true e =
        ap (λ s. s || (t && has (set_of r object) node))
        (has_union x (set_of r c.object) node ∙ ap (λ o. has x node || has (set_of r o) node) (eqb-true c.object object e))
        ∙ or_twice (has x node) (has (set_of r object) node) t
    case false e = refl

added_now : (r : Copies) (object node : ℕ) (entries : List Change) (x : ℕ) →
    has (add_at object (map (change_now r) entries) x) node ≡ (has x node || (touched object entries && has (set_of r object) node))
unfolding touched
added_now r object node [] x = or_none (has x node)
added_now r object node (c ∷ entries) x = added_now r object node entries _ ∙ added_step r object node c x (touched object entries)

untouched : (object : ℕ) (entries : List Change) (nodes : ℕ) → touched object entries ≡ false → undone_at object entries nodes ≡ nodes
unfolding touched
untouched object [] nodes h = refl
untouched object (c ∷ entries) nodes h = case (c.object == object) h (untouched object entries nodes)
  where
    case : (t : Bool) → (t || touched object entries) ≡ false → (touched object entries ≡ false → undone_at object entries nodes ≡ nodes) →
        cond t c.nodes (undone_at object entries nodes) ≡ nodes
    case true e k = cc
    case false e k = k e

-- what was there before the entries, with what their objects have now
added_back : (r : Copies) (object node : ℕ) (entries : List Change) (x : ℕ) → x ≡ undone_at object entries (set_of r object) →
    has (add_at object (map (change_now r) entries) x) node ≡ (has x node || has (set_of r object) node)
added_back r object node entries x e = added_now r object node entries x ∙ case (touched object entries) refl
  where
    case : (t : Bool) → touched object entries ≡ t → (has x node || (t && has (set_of r object) node)) ≡ (has x node || has (set_of r object) node)
    case true f = refl
    case false f =
        let same : x ≡ set_of r object = e ∙ untouched object entries (set_of r object) f in
        sym (or_none (has x node)) ∙ (or_same (has x node) ∙ ap (λ n. has x node || has n node) same)

pub join_is : (r : Copies) (start : ℕ) (changes others both : List Change) (undone added put : Copies) →
    both ≡ map (change_joined r) changes → others ≡ map (change_now r) (drop start r.trail) →
    ((object : ℕ) → set_of undone object ≡ set_before r start object) →
    ((object : ℕ) → set_of added object ≡ add_at object others (set_of undone object)) →
    ((object : ℕ) → set_of put object ≡ put_at object both (set_of added object)) →
    (object node : ℕ) → may_be_stale put object node ≡ (has (put_at object changes (set_before r start object)) node || may_be_stale r object node)
join_is r start changes others both undone added put b o u a p object node =
    let s = set_before r start object in
    let with_now : has (set_of added object) node ≡ (has s node || has (set_of r object) node) =
    ap (λ n. has n node) (a object ∙ (ap (λ l. add_at object l (set_of undone object)) o
    ∙ ap (add_at object (map (change_now r) (drop start r.trail))) (u object)))
    ∙ added_back r object node (drop start r.trail) s refl in
    ap (λ n. has n node) (p object ∙ ap (λ l. put_at object l (set_of added object)) b)
    ∙ put_joined r object node changes (set_of added object) s with_now

pub join_returns : (r : Copies) (start : ℕ) (undone added put : Copies) →
    undone.trail ≡ take start r.trail → ((object : ℕ) → set_of undone object ≡ set_before r start object) →
    Returns undone added → Returns added put → ReturnsTo (take start r.trail) (set_before r start) put
join_returns r start undone added put t u a p =
    returns_then (take start r.trail) (set_before r start) added put
    (returns_then (take start r.trail) (set_before r start) undone added
    (record { more = []; grown = t ∙ sym (append-nil (take start r.trail)); undone = u }) a) p

-- ---- an end, from the start

put_now_step : (r : Copies) (object : ℕ) (c : Change) (x : ℕ) → x ≡ set_of r object →
    (if c.object == object then set_of r c.object else x) ≡ set_of r object
put_now_step r object c x h = case (c.object == object) refl
  where
    case : (t : Bool) → (c.object == object) ≡ t → cond t (set_of r c.object) x ≡ set_of r object
    case true e = ap (set_of r) (eqb-true c.object object e)
    case false e = h

put_now_same : (r : Copies) (object : ℕ) (entries : List Change) (x : ℕ) → x ≡ set_of r object →
    put_at object (map (change_now r) entries) x ≡ set_of r object
put_now_same r object [] x h = h
put_now_same r object (c ∷ entries) x h = put_now_same r object entries _ (put_now_step r object c x h)

-- what the changed objects have now, put where the entries are undone, is what all objects have now
pub put_now : (r : Copies) (object : ℕ) (entries : List Change) →
    put_at object (map (change_now r) entries) (undone_at object entries (set_of r object)) ≡ set_of r object
put_now r object [] = refl
put_now r object (c ∷ entries) = case (c.object == object) refl (put_now r object entries)
  where
    case : (t : Bool) → (c.object == object) ≡ t →
        put_at object (map (change_now r) entries) (undone_at object entries (set_of r object)) ≡ set_of r object →
        put_at object (map (change_now r) entries) (cond t (set_of r c.object) (cond t c.nodes (undone_at object entries (set_of r object))))
        ≡ set_of r object
    case true e k = put_now_same r object entries _ (ap (set_of r) (eqb-true c.object object e))
    case false e k = k
