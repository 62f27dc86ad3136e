use Rattle.std.proofs.Common.{◌≡◌, ◌∙◌, sym, ap, subst, reverse, List, ◌∷◌, Option, Some, Ok, Err, OnErr, Result}
use Rattle.xmp_scopes.specs.declared.current.Held.{Held}
use Rattle.xmp_scopes.specs.declared.scopes.Entry.{Entry}
use Rattle.xmp_scopes.specs.declared.scopes.Entry.TheVariants as entry
use Rattle.xmp_scopes.specs.Names.{declare}
use Rattle.xmp_scopes.specs.Table.{put}
use Rattle.xmp_scopes.specs.Log.{steps_of, scopes_of, Agrees}
use Rattle.xmp_scopes.proofs.Undo.{last_first}
use Rattle.xmp_scopes.proofs.Places.{place_within}
use Rattle.xmp_scopes.proofs.Agreement.{agrees_grown, scopes_grown, agrees_declared, scopes_declared}
use Rattle.xmp_scopes.proofs.scopes.Scopes.declare.Goals as goal

on_err : {X Y : Type 0} (r : Result X Y) (P : Type 0) → P → OnErr r P
on_err (Ok x) P p = tt
on_err (Err y) P p = p

pub invariant_of-self : goal.invariant_of-self
invariant_of-self g c = agrees_grown c.self.inside.current c.place.new.self c.self.inside.depth (reverse c.self.inside.steps.items) c.place.ensures.grows c.self.invariant

pub returns-in_err-at-clause-err : goal.returns-in_err-at-clause-err
returns-in_err-at-clause-err g c = on_err c.from_residual.result _
    (scopes_grown c.self.inside.current c.place.new.self (reverse c.self.inside.steps.items) c.place.ensures.grows c.self.invariant.places ∙ c.self.view_is)

pub invariant_of-self-in_default : goal.invariant_of-self-in_default
invariant_of-self-in_default g c =
    let P : List (Entry g.row.M.Denot) → Type 0 = λ es. Agrees c.place.new.self c.self.inside.depth (reverse es) in
    subst P (sym c.in_default.ensures.items) (agrees_grown c.self.inside.current c.place.new.self c.self.inside.depth (reverse c.self.inside.steps.items) c.place.ensures.grows c.self.invariant)

pub returns-in_default-clause-err : goal.returns-in_default-clause-err
returns-in_default-clause-err g c = ap (λ es. scopes_of (steps_of c.place.new.self (reverse es))) c.in_default.ensures.items
    ∙ (scopes_grown c.self.inside.current c.place.new.self (reverse c.self.inside.steps.items) c.place.ensures.grows c.self.invariant.places ∙ c.self.view_is)

pub put-requires : goal.put-requires
put-requires g c = place_within c.args.name.now c.place.new.self c.in_ok-at.at c.in_ok-at.ensures.at

pub invariant_of-self-2 : goal.invariant_of-self-2
invariant_of-self-2 g c =
    let es : List (Entry g.row.M.Denot) = reverse c.self.inside.steps.items in
    let step : Entry g.row.M.Denot = entry.Declared c.in_ok-at.at c.args.meaning c.get-hidden.result in
    let held : Option (Held g.row.M.Denot) = Some (record { depth = c.max-depth.result; meaning = c.args.meaning }) in
    let now : reverse c.push.new.self.items ≡ step ∷ es = ap reverse c.in-Ok.ensures.items ∙ last_first c.self.inside.steps.items step in
    let P : List (Entry g.row.M.Denot) → Type 0 = λ xs. Agrees (put c.place.new.self c.in_ok-at.at held) c.max-depth.result xs in
    subst (λ t. Agrees t c.max-depth.result (reverse c.push.new.self.items)) (sym c.put.ensures) (subst P (sym now)
    (agrees_declared c.self.inside.current c.place.new.self c.args.name.now c.args.meaning c.get-hidden.result c.in_ok-at.at c.self.inside.depth c.max-depth.result es c.place.ensures.grows c.self.invariant c.get-hidden.ensures c.in_ok-at.ensures.at c.max-depth.ensures))

pub returns-clause-ok : goal.returns-clause-ok
returns-clause-ok g c =
    let es : List (Entry g.row.M.Denot) = reverse c.self.inside.steps.items in
    let step : Entry g.row.M.Denot = entry.Declared c.in_ok-at.at c.args.meaning c.get-hidden.result in
    let held : Option (Held g.row.M.Denot) = Some (record { depth = c.max-depth.result; meaning = c.args.meaning }) in
    let now : reverse c.push.new.self.items ≡ step ∷ es = ap reverse c.in-Ok.ensures.items ∙ last_first c.self.inside.steps.items step in
    ap (λ t. scopes_of (steps_of t (reverse c.push.new.self.items))) c.put.ensures
    ∙ (ap (λ xs. scopes_of (steps_of (put c.place.new.self c.in_ok-at.at held) xs)) now
    ∙ (scopes_declared c.self.inside.current c.place.new.self c.args.name.now c.args.meaning c.get-hidden.result c.in_ok-at.at held es c.place.ensures.grows c.self.invariant.places c.in_ok-at.ensures.at
    ∙ ap (declare c.args.name.now c.args.meaning) c.self.view_is))
