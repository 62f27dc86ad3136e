use Rattle.std.proofs.Common.{◌≡◌, ℕ, suc, ◌∙◌, ap, arith, length, refl, subst, sym}
use Rattle.atomic_table.specs.Table.{Me}
use Rattle.xmp_seg.specs.declared.look.Look.{Look}
use Rattle.xmp_seg.proofs.Closing.{IsTail, ending_front, joins_tail, length_last, tail_alone}
use Rattle.xmp_seg.proofs.making.gathered.Goals as goal

pub unreachable-requires : goal.unreachable-requires
unreachable-requires g c = absurd (omega (arith, c.in_default.ensures.cases.0, c.args.seats.ok, c.requires.seats.0, c.segment.invariant.0.some_image))

pub loop-next-init : goal.loop-next-init
loop-next-init g c =
    let s = g.S.Script.script in
    let front = ending_front s c.args.segment.now _ c.pop.new.self.items c.in-Some.last c.in-Some.ensures.items c.requires.seats.1 in
    let whole : suc (length c.pop.new.self.items) ≡ s.images = sym (length_last c.pop.new.self.items c.in-Some.last) ∙ sym (ap (λ l. length l) c.in-Some.ensures.items) ∙ c.requires.seats.0 in
    let tail = tail_alone s c.args.segment.now _ c.seat-all.result.me.0 c.in-Some.last _ c.seat-all.ensures.seat c.seat-all.ensures.one front.1 whole in
    (front.0, tail.0, c.seat-all.ensures.empty, tail.1)

pub join_seat-requires : goal.join_seat-requires
join_seat-requires g c =
    let s = g.S.Script.script in
    let left = c.pop-in-loop-next.new.self.items in
    let front = ending_front s c.args.segment.now _ left c.in-Some-pop.next c.in-Some-pop.ensures.items c.loop-next.invariant.0 in
    let long : length c.loop-next.seats.items ≡ suc (length left) = ap (λ l. length l) c.in-Some-pop.ensures.items ∙ length_last left c.in-Some-pop.next in
    let tail : IsTail s (suc (length left)) c.loop-next.all.me.0 = subst (λ (n : ℕ). IsTail s n c.loop-next.all.me.0) long c.loop-next.invariant.3 in
    let all = joins_tail s c.args.segment.now _ c.seat-seat.result.me.0 c.loop-next.all.me.0 c.in-Some-pop.next _ c.seat-seat.result.id c.loop-next.all.id c.seat-seat.ensures.seat c.seat-seat.ensures.one front.1 tail in
    (all.0 ∙ sym c.segment.view_is, c.loop-next.invariant.1 ∙ sym c.segment.view_is, c.loop-next.invariant.2, c.segment.invariant.1, all.1)

pub loop-next-preserved : goal.loop-next-preserved
loop-next-preserved g c =
    let s = g.S.Script.script in
    let left = c.pop-in-loop-next.new.self.items in
    let front = ending_front s c.args.segment.now _ left c.in-Some-pop.next c.in-Some-pop.ensures.items c.loop-next.invariant.0 in
    let long : length c.loop-next.seats.items ≡ suc (length left) = ap (λ l. length l) c.in-Some-pop.ensures.items ∙ length_last left c.in-Some-pop.next in
    let tail : IsTail s (suc (length left)) c.loop-next.all.me.0 = subst (λ (n : ℕ). IsTail s n c.loop-next.all.me.0) long c.loop-next.invariant.3 in
    let all = joins_tail s c.args.segment.now _ c.seat-seat.result.me.0 c.loop-next.all.me.0 c.in-Some-pop.next _ c.seat-seat.result.id c.loop-next.all.id c.seat-seat.ensures.seat c.seat-seat.ensures.one front.1 tail in
    let joined = c.join_seat.ensures in (
      front.0,
      joined.0 ∙ all.0,
      ap (λ (m : Me (Unit {0}) Look). m.1) joined.2 ∙ c.seat-seat.ensures.empty,
      subst (λ (v : Look). IsTail s (length left) v) (sym (ap (λ (m : Me (Unit {0}) Look). m.0) joined.2)) all.2,
    )

pub returns-clause-table : goal.returns-clause-table
returns-clause-table g c = c.loop-next.invariant.1

pub returns-clause-seat : goal.returns-clause-seat
returns-clause-seat g c =
    let tail = c.loop-next.invariant.3 in
    let none : length c.loop-next.seats.items ≡ 0 = omega (arith, c.in_default-pop.ensures.cases.0, c.loop-next.seats.ok) in
    (tail.0 ∙ none, tail.1, tail.2)
