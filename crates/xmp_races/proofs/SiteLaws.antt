-- Where a part of an expression or a statement stands, by what the code made for it.
use Rattle.std.proofs.Common.{◌≡◌, ◌∙◌, ap, ◌∷◌, ◌++◌, [], Bool, List}
use Rattle.xmp_paths.specs.Plans.{Plan, emit, loop}
use Rattle.xmp_prog.specs.declared.expressions.Expr.{Expr}
use Rattle.xmp_prog.specs.declared.statements.LoopDirective.{LoopDirective}
use Rattle.xmp_prog.specs.declared.statements.LoopHead.{LoopHead}
use Rattle.xmp_prog.specs.declared.statements.Stmt.{Stmt}
use Rattle.xmp_spots.specs.declared.events.Event.{Event}
use Rattle.xmp_spots.specs.declared.events.Event.TheVariants.{Wrong}
use Rattle.xmp_spots.specs.Courses.{in_sequence}
use Rattle.xmp_races.specs.declared.setting.LoopImages.{LoopImages}
use Rattle.xmp_races.specs.Setting.{Setting, where_chosen, within}
use Rattle.xmp_races.specs.Statements.{directive_events, happens, in_nest, nest_bounds}

pub chosen_site : (s : Setting) (test : Expr) (holding : Bool) (counts given : List Bool) → counts ≡ (where_chosen s test holding).counts →
    given ≡ counts → record s { counts = given } ≡ where_chosen s test holding
chosen_site s test holding counts given c g = ap (λ (l : List Bool). record s { counts = l }) (g ∙ c)

pub within_site : (s : Setting) (h : LoopHead) (loops given : List LoopImages) → loops ≡ (within s h).loops → given ≡ loops →
    record s { loops = given } ≡ within s h
within_site s h loops given e g = ap (λ (l : List LoopImages). record s { loops = l }) (g ∙ e)

pub nest_site : (s here : Setting) (loops given : List LoopImages) → record s { loops = loops } ≡ here → given ≡ loops → record s { loops = given } ≡ here
nest_site s here loops given e g = ap (λ (l : List LoopImages). record s { loops = l }) g ∙ e

-- a directive by the events of its bounds and its body
pub directive_by : (s : Setting) (d : LoopDirective) (x : Stmt) (nest : List LoopHead) (bounds : List (Plan Event)) (body : Plan Event)
    (loops given : List LoopImages) → nest ≡ d.nest → bounds ≡ nest_bounds s nest → record s { loops = loops } ≡ in_nest s nest → given ≡ loops →
    body ≡ happens x (record s { loops = given }) →
    in_sequence (emit (Wrong 5 d.at) ∷ loop (in_sequence (bounds ++ body ∷ [])) ∷ []) ≡ directive_events d (happens x) s
directive_by s d x nest bounds body loops given n b r g h =
    let b1 : bounds ≡ nest_bounds s d.nest = b ∙ ap (nest_bounds s) n in
    let h1 : body ≡ happens x (in_nest s d.nest) = h ∙ ap (happens x) (nest_site s (in_nest s nest) loops given r g ∙ ap (in_nest s) n) in
    λ j. in_sequence (emit (Wrong 5 d.at) ∷ loop (in_sequence (b1 j ++ h1 j ∷ [])) ∷ [])
