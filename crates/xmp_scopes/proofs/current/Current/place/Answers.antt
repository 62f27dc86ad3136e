use Rattle.std.proofs.Common.{sym, subst}
use Rattle.xmp_scopes.specs.Table.{IsPlace, Grows}
use Rattle.xmp_scopes.proofs.Entries.{table, found, found_at, placed_as, grows_as, stays_as}
use Rattle.xmp_scopes.proofs.current.Current.place.Goals as goal
use Rattle.xmp_scopes.proofs.current.Current.place.Goals.{in-Ok-insert_full, in-Err}

pub returns-in-Some-clause-at : goal.returns-in-Some-clause-at
returns-in-Some-clause-at g c =
    subst (λ t. IsPlace c.args.name.now t c.in-Some.at) c.self.view_is (found (λ k. k.items) c.args.name.now c.self.inside.table.entries c.in-Some.at (found_at _ _ c.in-Some.at c.in-Some.ensures.index) c.in-Some.ensures.within)

pub returns-clause-at : goal.returns-clause-at
returns-clause-at g c = elim c.match-insert_full.branch [
  | in-Ok-insert_full w ↦ rw w.result-is (placed_as (λ k. k.items) c.self.inside.table.entries c.insert_full.new.self.entries c.in-Ok.key c.args.name.now _ c.in-Ok.ensures.items w.in-Ok-insert_full.ensures.entries w.in-Ok-insert_full.ensures.index)
  | in-Err w ↦ rw w.result-is tt
]

pub returns-clause-grows : goal.returns-clause-grows
returns-clause-grows g c = elim c.match-insert_full.branch [
  | in-Ok-insert_full w ↦ subst (λ t. Grows t (table (λ k. k.items) c.insert_full.new.self.entries)) c.self.view_is
      (grows_as (λ k. k.items) c.self.inside.table.entries c.insert_full.new.self.entries c.in-Ok.key c.args.name.now c.in-Ok.ensures.items (sym c.in_default.ensures.found) w.in-Ok-insert_full.ensures.entries)
  | in-Err w ↦ subst (λ t. Grows t (table (λ k. k.items) c.insert_full.new.self.entries)) c.self.view_is
      (stays_as (λ k. k.items) c.self.inside.table.entries c.insert_full.new.self.entries w.in-Err.ensures.err)
]
