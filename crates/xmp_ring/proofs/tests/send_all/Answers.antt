use Rattle.std.proofs.Common.{◌≡◌, ◌∷◌, ◌++◌, List, ℕ, ap, map, subst, sym, ◌∙◌}
use Rattle.xmp_message.specs.declared.Message.{Message}
use Rattle.xmp_ring.specs.declared.received.Received.{Received}
use Rattle.xmp_ring.specs.declared.received.Received.TheVariants.{Data}
use Rattle.xmp_ring.specs.Pieces.{IsNext}
use Rattle.xmp_ring.proofs.Entries.{next-behind}
use Rattle.xmp_ring.proofs.tests.send_all.Goals as goal

pub send-requires : goal.send-requires
send-requires g c =
    let rest = c.next.new.self.rest.items in
    let e : c.loop-m.yielded ++ c.in-Some.m ∷ rest ≡ c.args.messages.items =
    ap (λ (l : List Message). c.loop-m.yielded ++ l) (sym c.in-Some.ensures.steps.0) ∙ c.loop-m.invariant.2 in
    let P : List Message → Type 0 = λ l. IsNext l (map Data c.loop-m.yielded) c.in-Some.m in
    let Q : List Received → Type 0 = λ l. IsNext (g.S.Streams.stream c.args.sender.ring) l c.in-Some.m in
    let R : ℕ → Type 0 = λ r. IsNext (g.S.Streams.stream r) c.loop-m.sender.entries c.in-Some.m in
    let at : IsNext c.args.messages.items (map Data c.loop-m.yielded) c.in-Some.m = subst P e (next-behind c.loop-m.yielded rest c.in-Some.m) in
    let there : IsNext (g.S.Streams.stream c.args.sender.ring) (map Data c.loop-m.yielded) c.in-Some.m = subst P (sym c.requires.own) at in
    record { next = subst R (sym c.loop-m.invariant.0) (subst Q (sym c.loop-m.invariant.1) there) }
