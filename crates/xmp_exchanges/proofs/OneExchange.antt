-- A transfer by plans and tables is the definition's.
use Rattle.std.proofs.Common.{◌≡◌, ◌≤◌, ◌∙◌, ℕ, ℤ, List, length, true, Some, sym, ap, arith}
use Rattle.std.specs.Prelude.{slice_get}
use Rattle.std.specs.List.{range_with_len}
use Rattle.std.proofs.lemmas.Option.{slice_get_within}
use Rattle.xmp_prog.specs.declared.parts.ProgParts.{ProgParts}
use Rattle.xmp_prog.specs.Fits.{node_count}
use Rattle.xmp_meaning.specs.declared.ends.Flow.TheVariants.{Next}
use Rattle.xmp_meaning.specs.Runs.{Gave}
use Rattle.xmp_meaning.specs.Messages.{words_sent, words_alone}
use Rattle.xmp_meaning.specs.Traffic.{node_beginning}
use Rattle.xmp_move.specs.Kinds.{ways_of, pairs_of}
use Rattle.xmp_move.specs.Stores.{unpacked_of}
use Rattle.xmp_move.specs.declared.kind.MoveKind.{MoveKind}
use Rattle.xmp_move.specs.Plans.{Lists, peers_of, sends_to, fills_from}
use Rattle.xmp_nodes.specs.Nodes.{Nodes, all_do, saying}
use Rattle.xmp_nodes.proofs.Each.{Alone, store_is}
use Rattle.xmp_exchanges.specs.declared.transfer.Transfer.{Transfer}
use Rattle.xmp_exchanges.specs.Places.{words_at, with_words}
use Rattle.xmp_exchanges.specs.Unpacks.{unpacks}
use Rattle.xmp_exchanges.specs.Plans.{lists_of, plans_of, all_send, all_fill}
use Rattle.xmp_exchanges.specs.Delivered.{delivered, fills_on}
use Rattle.xmp_exchanges.specs.Told.{AreMany, told, tables_of}
use Rattle.xmp_exchanges.specs.Transfers.{converted, words_on, said_in, left_in, exchanged}
use Rattle.xmp_exchanges.proofs.SaidWords.{said_same}
use Rattle.xmp_exchanges.proofs.AllNodes.{all_same}
use Rattle.xmp_exchanges.proofs.UnpackedRows.{delivers, message_is, tables_long, ranged_long, plans_long}

module _ (p : ProgParts) (t : Transfer) (args : List ℤ) (w : Nodes) (many : AreMany w (node_count p)) (enough : node_count p ≤ peers_of t.kind) where
  abbrev tables : List (List (List ℤ))
  tables = tables_of t.source (node_count p) (plans_of t.kind args (node_count p)) w.stores

  source_is : (j : ℕ) (s : Alone) → slice_get w.stores j ≡ Some s → words_on p t.source w j ≡ words_at t.source s
  source_is j s e = ap (words_at t.source) (store_is (node_beginning p 0 0) w j s e)

  target_is : (j : ℕ) (s : Alone) → slice_get w.stores j ≡ Some s → words_on p t.target w j ≡ words_at t.target s
  target_is j s e = ap (words_at t.target) (store_is (node_beginning p 0 0) w j s e)

  said_is : saying (said_in p (ways_of t.kind) (pairs_of t.kind args) t.source w) w ≡ saying (told tables) w
  said_is = said_same w (node_count p) (said_in p (ways_of t.kind) (pairs_of t.kind args) t.source w) (told tables) many
      (λ i j li lj apart. ap (λ ws. words_sent (words_alone ws)) (sym (message_is t.kind args t.source (node_count p) w.stores (words_on p t.source w) i j many.stores enough li lj source_is)))

  left_is : (j : ℕ) (s : Alone) → slice_get w.stores j ≡ Some s
      → left_in p (ways_of t.kind) (pairs_of t.kind args) (converted t.converts) t.source t.target w j
      ≡ delivered (converted t.converts) (fills_on (plans_of t.kind args (node_count p)) j) j 0 (words_at t.target s) tables
  left_is j s e =
      let l = slice_get_within w.stores j s e in
      let m = many.stores in
      ap (λ own. unpacked_of (converted t.converts) (ways_of t.kind) (pairs_of t.kind args) (words_on p t.source w) own j (range_with_len 0 (node_count p))) (target_is j s e)
      ∙ sym (delivers (converted t.converts) t.kind args t.source (node_count p) w.stores (words_on p t.source w) (words_at t.target s) j m enough (omega (arith, l, m)) source_is)

  exchange_is : exchanged p t args w ≡ all_do Next (unpacks t (plans_of t.kind args (node_count p)) tables) (saying (told tables) w)
  exchange_is =
      ap (all_do Next (λ node s. Gave Next (with_words t.target (left_in p (ways_of t.kind) (pairs_of t.kind args) (converted t.converts) t.source t.target w node) s))) said_is
      ∙ all_same Next (λ node s. Gave Next (with_words t.target (left_in p (ways_of t.kind) (pairs_of t.kind args) (converted t.converts) t.source t.target w node) s))
      (unpacks t (plans_of t.kind args (node_count p)) tables)
      (saying (told tables) w) (λ j s e. ap (λ row. Gave Next (with_words t.target row s)) (left_is j s e))

  -- so it is with these plans and tables
  pub exchange_by : (plans : List Lists) (all : List (List (List ℤ))) → plans ≡ plans_of t.kind args (node_count p) → all ≡ tables_of t.source (node_count p) plans w.stores
      → all_do Next (unpacks t plans all) (saying (told all) w) ≡ exchanged p t args w
  exchange_by plans all e f =
      let g : all ≡ tables = f ∙ ap (λ l. tables_of t.source (node_count p) l w.stores) e in
      (λ i. all_do Next (unpacks t (e i) (g i)) (saying (told (g i)) w)) ∙ sym exchange_is

  -- which are as many as the nodes, and long enough
  pub tables_many : (plans : List Lists) (all : List (List (List ℤ))) → plans ≡ plans_of t.kind args (node_count p) → all ≡ tables_of t.source (node_count p) plans w.stores
      → length all ≡ node_count p
  tables_many plans all e f =
      ap length f
      ∙ tables_long t.source (node_count p) plans w.stores (ap length e ∙ ranged_long (lists_of t.kind args) (node_count p) ∙ sym many.stores)
      ∙ many.stores

  pub tables_filled : (plans : List Lists) (all : List (List (List ℤ))) → plans ≡ plans_of t.kind args (node_count p) → all ≡ tables_of t.source (node_count p) plans w.stores
      → all_fill (length all) plans ≡ true
  tables_filled plans all e f =
      (λ i. all_fill (tables_many plans all e f i) (e i))
      ∙ plans_long (λ l. l.fills) t.kind args (node_count p) (node_count p) (λ k. ranged_long (fills_from t.kind args k) (peers_of t.kind)) enough

-- the plans of so many nodes send to so many
pub plans_send : (kind : MoveKind) (args : List ℤ) (count : ℕ) (plans : List Lists) → plans ≡ plans_of kind args count → count ≤ peers_of kind → all_send count plans ≡ true
plans_send kind args count plans e enough =
    ap (all_send count) e ∙ plans_long (λ l. l.sends) kind args count count (λ k. ranged_long (sends_to kind args k) (peers_of kind)) enough
