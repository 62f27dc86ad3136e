use Rattle.std.proofs.Common.{inl, refl, subst, sym}
use Rattle.crossbeam_queue.specs.Passes.{IsPassOf}
use Rattle.xmp_ring.specs.Pieces.{End, IsNextEntry}
use Rattle.xmp_ring.proofs.Entries.{next-entry}
use Rattle.xmp_ring.proofs.Moves.{still-sends}
use Rattle.xmp_ring.proofs.ends.Sender.try_send.Goals as goal

pub put-requires-clause-piece : goal.put-requires-clause-piece
put-requires-clause-piece g c =
    let Q : End → Type 0 = λ e. IsNextEntry (g.S.Streams.stream e.ring) e.entries c.args.entry in
    (_, next-entry _ _ _ c.self.invariant.3 (subst Q (sym c.self.view_is) c.requires), inl refl)

pub invariant_of-self : goal.invariant_of-self
invariant_of-self g c =
    let Q : End → Type 0 = λ e. IsNextEntry (g.S.Streams.stream e.ring) e.entries c.args.entry in
    let sends = still-sends g.S.Streams.stream _ _ _ _ (c.self.invariant.1, c.self.invariant.2, c.self.invariant.3) (subst Q (sym c.self.view_is) c.requires) c.put.ensures.put in
    (subst (λ q. IsPassOf q c.put.new.pass) c.deref.ensures c.put.ensures.queue, sends.0, sends.1, sends.2)
