-- A traffic that nodes carry as a table, which is one alone.
use Rattle.std.proofs.Common.{◌≡◌, ◌≢◌, ℕ, ◌<◌, ◌==◌, if◌then◌else◌, List, [], length, get_or, sym, ap, arith, ◌∙◌, subst, inl, inr}
use Rattle.std.proofs.lemmas.Bool.{cases_eq}
use Rattle.std.specs.Coded.{×_prop, Coded-set, coded_ℕ, coded_bool}
use Rattle.std.proofs.lemmas.List.{ext_get_or}
use mathlib.Core.HLevel.{Σ_prop_path}
use Rattle.xmp_net.specs.Nodes.{Nodes}
use Rattle.xmp_net.specs.Traffic.{Traffic, AllCarry, firsts, IsSameTraffic}
use Rattle.xmp_net.specs.Tables.{Table, IsTable, Carried, traffic_of}
use Rattle.xmp_net.proofs.Course.{length_firsts, get_firsts}
use Rattle.xmp_net.proofs.OneTraffic.{one_traffic, same_carried}

-- ---- the table of a traffic

abbrev message_or : {M : Type 0} → M → Traffic M → ℕ → ℕ → ℕ → M
message_or none all t i j = if j == i then none else all.message t i j

abbrev row_of : {M : Type 0} → ℕ → M → Traffic M → ℕ → ℕ → List M
row_of count none all t i = firsts (message_or none all t i) count

abbrev rows_of : {M : Type 0} → ℕ → M → Traffic M → ℕ → List (List M)
rows_of count none all t = firsts (row_of count none all t) count

abbrev table_of : {M : Type 0} → ℕ → M → Traffic M → Table M
table_of count none all = firsts (rows_of count none all) all.exchanges

row_at : {M : Type 0} (count : ℕ) (none : M) (all : Traffic M) (t i : ℕ) → t < all.exchanges → i < count →
    get_or (get_or (table_of count none all) t []) i [] ≡ row_of count none all t i
row_at count none all t i lt li =
    ap (λ rows. get_or rows i []) (get_firsts (rows_of count none all) all.exchanges t [] lt) ∙ get_firsts (row_of count none all t) count i [] li

message_at : {M : Type 0} (count : ℕ) (none : M) (all : Traffic M) (t i j : ℕ) → t < all.exchanges → i < count →
    j < count → (traffic_of none (table_of count none all)).message t i j ≡ message_or none all t i j
message_at count none all t i j lt li lj = ap (λ row. get_or row j none) (row_at count none all t i lt li) ∙ get_firsts (message_or none all t i) count j none lj

message_itself : {M : Type 0} (none : M) (all : Traffic M) (t i : ℕ) → message_or none all t i i ≡ none
message_itself none all t i = grind arith

message_other : {M : Type 0} (none : M) (all : Traffic M) (t i j : ℕ) → i ≢ j →
    message_or none all t i j ≡ all.message t i j
message_other none all t i j ne = grind arith

table_same : {S M : Type 0} (n : Nodes S M) (none : M) (all : Traffic M) →
    IsSameTraffic n all (traffic_of none (table_of n.count none all))
table_same n none all = record {
  exchanges = sym (length_firsts (rows_of n.count none all) all.exchanges);
  message = λ t i j lt li lj ne. sym (message_at n.count none all t i j lt li lj ∙ message_other none all t i j ne);
}

is_table : {S M : Type 0} (n : Nodes S M) (none : M) (all : Traffic M) → IsTable n none (table_of n.count none all)
is_table n none all =
    let long = length_firsts (rows_of n.count none all) all.exchanges in
    record {
      rows = λ t lt. ap length (get_firsts (rows_of n.count none all) all.exchanges t [] (omega arith)) ∙ length_firsts (row_of n.count none all t) n.count;
      messages = λ t i lt li. ap length (row_at n.count none all t i (omega arith) li) ∙ length_firsts (message_or none all t i) n.count;
      itself = λ t i lt li. message_at n.count none all t i i (omega arith) li li ∙ message_itself none all t i;
    }

-- every traffic that nodes carry has a table
pub tabled : {S M : Type 0} (n : Nodes S M) (all : Traffic M) (none : M) → AllCarry n all → Carried n none
tabled n all none carry = (table_of n.count none all, (is_table n none all, same_carried n all (traffic_of none (table_of n.count none all)) carry (table_same n none all)))

-- ---- one table alone

tables_same : {S M : Type 0} (n : Nodes S M) (none : M) → 0 < n.count → (u v : Carried n none) → u.0 ≡ v.0
tables_same n none some u v =
    let same = one_traffic n some (traffic_of none u.0) (traffic_of none v.0) u.1.1 v.1.1 in
    let a = u.1.0 in
    let b = v.1.0 in
    ext_get_or [] u.0 v.0 same.exchanges (λ t lt.
    ext_get_or [] (get_or u.0 t []) (get_or v.0 t []) (a.rows t lt ∙ sym (b.rows t (let e = same.exchanges in omega arith))) (λ i li.
    let ln : i < n.count = (let e = a.rows t lt in omega arith) in
    let le : t < length v.0 = (let e = same.exchanges in omega arith) in
    ext_get_or none (get_or (get_or u.0 t []) i []) (get_or (get_or v.0 t []) i []) (a.messages t i lt ln ∙ sym (b.messages t i le ln)) (λ j lj.
    elim (cases_eq i j) [
      | inl e ↦
          let P : ℕ → Type 0 = λ x. get_or (get_or (get_or u.0 t []) i []) x none ≡ get_or (get_or (get_or v.0 t []) i []) x none in
          subst P e (a.itself t i lt ln ∙ sym (b.itself t i le ln))
      | inr ne ↦ same.message t i j lt ln (let e = a.messages t i lt ln in omega arith) ne
    ])))

table_prop : {S M : Type 0} (n : Nodes S M) (none : M) (table : Table M) → IsSet M → IsProp (IsTable n none table)
table_prop n none table set = hlevel (set, Coded-set coded_ℕ)

carries_prop : {S M : Type 0} (n : Nodes S M) (all : Traffic M) → IsSet M → IsProp (AllCarry n all)
carries_prop n all set = hlevel (set, Coded-set coded_bool)

pub one_table : {S M : Type 0} (n : Nodes S M) → 0 < n.count → (none : M) → IsSet M → IsProp (Carried n none)
one_table n some none set u v =
    Σ_prop_path (λ table. ×_prop (table_prop n none table set) (carries_prop n (traffic_of none table) set)) (tables_same n none some u v)
