use Rattle.std.proofs.Common.{◌≡◌, ℤ, Bool, true, false, cond, List, [], ◌∷◌, ap, sym, ◌∙◌, rules}
use Rattle.xmp_prog.specs.Statements.{indices_of}
use Rattle.xmp_meaning.specs.declared.ends.Flow.{Flow}
use Rattle.xmp_meaning.specs.Runs.{Run}
use Rattle.xmp_meaning_laws.specs.Tuples.{for_each}
use Rattle.xmp_own_parts.specs.Nests.{own_from}
use Rattle.xmp_own_parts.specs.Walks.{body_by}
use Rattle.xmp_own_parts.proofs.OwnTurns.{own_leaf}
use Rattle.xmp_own_parts.proofs.Pieces.{done, single}
use Rattle.xmp_own_parts.proofs.walking.Walk.at_tuple.Goals as goal

pub returns-then-not-owns : goal.returns-then-not-owns
returns-then-not-owns c =
    let no : c.owns.result ≡ false = search rules in
    ap (λ (xs : List (List ℤ)). for_each (indices_of c.args.self.now.nest.heads.now) xs (body_by c.args.self.now) c.args.state.now)
    (own_leaf c.args.self.now.nest c.args.tuple.now ∙ ap (λ (b : Bool). cond b (c.args.tuple.now ∷ []) []) (sym c.owns.ensures ∙ no))

pub returns : goal.returns
returns c =
    let yes : c.owns.result ≡ true = search rules in
    let slots : _ = indices_of c.args.self.now.nest.heads.now in
    let body : Run (Unit {0}) Flow = body_by c.args.self.now in
    done (for_each slots (own_from c.args.self.now.nest c.args.tuple.now []) body c.args.state.now) (body c.set_indices.new.state) c.statement.result c.statement.new.state
    (ap (λ (xs : List (List ℤ)). for_each slots xs body c.args.state.now)
    (own_leaf c.args.self.now.nest c.args.tuple.now ∙ ap (λ (b : Bool). cond b (c.args.tuple.now ∷ []) []) (sym c.owns.ensures ∙ yes))
    ∙ single slots body c.args.tuple.now c.args.state.now ∙ ap body (sym c.set_indices.ensures))
    c.statement.ensures
