use Rattle.std.proofs.Common.{◌≡◌, List, ◌∷◌, OnOk, ap, ◌∙◌, subst}
use Rattle.std.specs.Prelude.{codes}
use Rattle.xmp_lex.specs.declared.token.Token.{Token}
use Rattle.xmp_lex.specs.declared.token.TokenKind.TheVariants as t
use Rattle.xmp_lex.specs.declared.token.Mark.TheVariants as m
use Rattle.xmp_syntax.specs.Trees.{tasks}
use Rattle.xmp_syntax.specs.View.{stmt_view, tasks_view}
use Rattle.xmp_syntax.specs.Seen.{seen_tasks}
use Rattle.xmp_syntax.specs.Spell.{◌at◌, directive_line, spell_tasks}
use Rattle.xmp_tree.proofs.spelling_statements.+stmt.Goals as goal

pub put_stmt-returns-in_ok-put_sign-in-Tasks-2 : goal.put_stmt-returns-in_ok-put_sign-in-Tasks-2
put_stmt-returns-in_ok-put_sign-in-Tasks-2 n c =
    let x : _ = c.in-Tasks.x in
    let v : stmt_view c.args.x.now ≡ tasks c.in-Tasks.line x.open (tasks_view x.item) x.close = ap stmt_view c.in-Tasks.is ∙ seen_tasks c.in-Tasks.line x.open x.item x.close in
    let r : c.put_sign-in-Tasks-2.new.self ≡ t.Mark m.OpenBrace at x.open ∷ spell_tasks (tasks_view x.item) (t.Mark m.CloseBrace at x.close ∷ c.args.rest.now) =
    c.in_ok-put_sign-in-Tasks-2.ensures ∙ ap (λ l. t.Mark m.OpenBrace at x.open ∷ l)
    (c.in_ok-put_tasks-in-Tasks.ensures ∙ ap (λ l. spell_tasks (tasks_view l) c.put_sign-in-Tasks.new.self) c.as_slice-in-Tasks.ensures
    ∙ ap (λ l. spell_tasks (tasks_view x.item) l) c.in_ok-put_sign-in-Tasks.ensures) in
    rw v (subst (λ (l : List Token). OnOk c.put_tasks_line.result (c.put_tasks_line.new.rest ≡ directive_line (codes "tasks") (λ z. z) c.in-Tasks.line l)) r c.put_tasks_line.ensures)
