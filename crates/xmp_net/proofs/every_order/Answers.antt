use Rattle.xmp_net.proofs.Orders.{on_course, in_every_order, same_end, ends_own, ends_empty}
use Rattle.xmp_net.proofs.OneTraffic as unique
use Rattle.xmp_net.proofs.Tables as tables
use Rattle.xmp_net.proofs.every_order.Goals as goal

pub returns : goal.returns
returns g c = record {
  course = on_course;
  orders = in_every_order;
  one = same_end;
  ends = ends_own;
  empty = ends_empty;
  one_traffic = unique.one_traffic;
  table = tables.tabled;
  one_table = tables.one_table;
}
