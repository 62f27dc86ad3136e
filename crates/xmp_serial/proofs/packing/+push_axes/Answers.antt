use Rattle.std.proofs.Common.{◌+◌, drop}
use Rattle.xmp_map.specs.Held.{tests}
use Rattle.xmp_meaning.specs.Layouts.{axes_of}
use Rattle.xmp_serial.specs.Lines.{AddsAxes}
use Rattle.xmp_serial.proofs.Packed.{axes_more, axes_none, when_ok}
use Rattle.xmp_serial.proofs.packing.+push_axes.Goals as goal

pub returns-in-None : goal.returns-in-None
returns-in-None t c = axes_none c.args.axes.now c.args.extents.now (drop c.args.d (tests c.args.m.now c.args.node)) (c.in-None.ensures {u = tt})

pub returns-in_ok-push_axis-in-Some : goal.returns-in_ok-push_axis-in-Some
returns-in_ok-push_axis-in-Some t c =
    when_ok c.push_axes.result
    (AddsAxes c.push_axis.new.axes c.push_axes.new.axes c.in-Some.rest.now (axes_of (drop (c.args.d + 1) (tests c.args.m.now c.args.node)) c.in-Some.rest.now))
    (AddsAxes c.args.axes.now c.push_axes.new.axes c.args.extents.now (axes_of (drop c.args.d (tests c.args.m.now c.args.node)) c.args.extents.now))
    (λ h. axes_more c.args.m.now c.args.node c.args.d c.in-Some.extent.now c.args.axes.now c.push_axis.new.axes c.push_axes.new.axes c.args.extents.now c.in-Some.rest.now c.in_ok-axis-in-Some.axis
    (c.in-Some.ensures {u = tt}) c.in_ok-axis-in-Some.ensures.there c.in_ok-axis-in-Some.ensures.axis (c.in_ok-push_axis-in-Some.ensures {u = tt}) h)
    c.push_axes.ensures
