use Rattle.std.proofs.Common.{◌≡◌, ◌<◌, ◌+◌, ℕ, suc, Bool, true, ap, ◌∙◌, sym, subst, arith, rules, slice_index}
use Rattle.xmp_dist.specs.Count.{count_below}
use Rattle.xmp_map.specs.Held.{extents, holds_in}
use Rattle.xmp_serial.specs.declared.lines.Reach.TheVariants.{Chunk}
use Rattle.xmp_serial.specs.Lines.{Places}
use Rattle.xmp_serial.proofs.Chunks.{chunk_placed, none_placed}
use Rattle.xmp_serial.proofs.packing.interval.Goals as goal

pub returns-in_default : goal.returns-in_default
returns-in_default c =
    let z : c.args.held ≡ 0 = omega (arith, c.in_default.ensures {u = tt}) in
    none_placed (holds_in c.args.at.now.map c.args.at.now.node c.args.at.now.dimension) (slice_index (extents c.args.at.now.map) c.args.at.now.dimension) (sym c.requires ∙ z)

pub returns-then-high-more : goal.returns-then-high-more
returns-then-high-more c =
    let t : ℕ → Bool = holds_in c.args.at.now.map c.args.at.now.node c.args.at.now.dimension in
    let n : ℕ = slice_index (extents c.args.at.now.map) c.args.at.now.dimension in
    let f : ℕ = c.first_held-first.result in
    let k : ℕ = c.in-Some.more in
    let last : c.in_ok-last.last ≡ f + k = omega (arith, c.in_ok-last.ensures {u = tt}) in
    let total : c.args.held ≡ suc k = omega (arith, c.in-Some.ensures {u = tt}) in
    let below : f + k < n = omega (arith, last, c.if-last-extent.false, c.extent.ensures) in
    let first_held : t f ≡ true = search rules in
    let last_held : t c.in_ok-last.last ≡ true = search rules in
    let P : ℕ → Type 0 = λ e. Places (Chunk f (e + 1)) t n in
    subst P (sym last)
    (chunk_placed t n f k (sym c.requires ∙ total) first_held (sym c.in_ok-low.ensures.position ∙ c.if-low-eq0.true)
    (ap t (sym last) ∙ last_held) (ap (count_below t) (sym last) ∙ sym c.in_ok-high.ensures.position ∙ c.if-high-more.true) below)
