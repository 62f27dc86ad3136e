-- An exchange without words.
use Rattle.std.proofs.Common.{◌≡◌, ◌+◌, ℕ, List, sym, ap, ◌∙◌, arith}
use Rattle.std.proofs.lemmas.List.Sums.{sum_by_push}
use Rattle.xmp_prog.specs.declared.parts.ProgParts.{ProgParts}
use Rattle.xmp_meaning.specs.Exchanges.{Notes, Exchange}
use Rattle.xmp_meaning.specs.Messages.{words_sent, message, sent}
use Rattle.xmp_nodes.specs.Nodes.{bounded}
use Rattle.xmp_nodes.proofs.Agrees.{Counted}
use Rattle.xmp_nodes.proofs.Saying.{noted_behind}

pub counts_silent : (p : ProgParts) (notes : Notes) (turns : List ℕ) (rows : List (List ℕ)) (x : Exchange) → Counted p notes turns rows
    → ((from to : ℕ) → words_sent (message p x from to) ≡ 0) → Counted p (noted_behind notes x) turns rows
counts_silent p notes turns rows x c none = record {
  many = c.many;
  turns = c.turns;
  rows = c.rows;
  row = c.row;
  sent = λ from to n row e f.
      let more = sum_by_push (λ y. words_sent (message p y from to)) notes.exchanges x in
      let zero_more = none from to in
      c.sent from to n row e f ∙ (let z : sent p notes.exchanges from to ≡ sent p notes.exchanges from to + words_sent (message p x from to) = omega (arith, zero_more) in ap bounded z) ∙ ap bounded (sym more);
}
