-- The depths behind a token. Source: this project.
use Rattle.std.specs.Prelude.{ℕ, suc}
use Rattle.xmp_reader.specs.declared.depth.Depth.{Depth}
use Rattle.xmp_reader.specs.declared.effect.Effect.{Effect}
use Rattle.xmp_reader.specs.declared.effect.Effect.TheVariants as e

-- now
abbrev pub now_behind : Depth → Effect → ℕ
now_behind d e.Plain = d.now
now_behind d e.Operator = suc d.now
now_behind d e.Separator = d.base
now_behind d e.Opening = suc d.now
now_behind d (e.Closing o) = o.now
now_behind d (e.Cast o) = suc o.now
now_behind d e.Entering = suc d.now

-- and where the innermost level of brackets began
abbrev pub base_behind : Depth → Effect → ℕ
base_behind d e.Plain = d.base
base_behind d e.Operator = d.base
base_behind d e.Separator = d.base
base_behind d e.Opening = suc d.now
base_behind d (e.Closing o) = o.base
base_behind d (e.Cast o) = o.base
base_behind d e.Entering = suc d.base
