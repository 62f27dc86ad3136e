use Rattle.std.proofs.Common.{rules, ◌≡◌, ◌++◌, OnOk}
use Rattle.std.specs.Fmt.{signed_decimal}
use Rattle.xmp_num.specs.Decimal.{padded}
use Rattle.xmp_num.proofs.ReadBack.{reads_back_on_ok}
use Rattle.xmp_num.proofs.decimal.render.Goals as goal

pub returns-clause-reads_back : goal.returns-clause-reads_back
returns-clause-reads_back c =
    let ok : OnOk c.push_all-2.result (c.push_all-2.new.self ≡ c.args.out.now ++ padded c.args.width (signed_decimal c.args.v)) = search rules in
    reads_back_on_ok c.push_all-2.result c.args.v c.args.width c.args.out.now c.push_all-2.new.self c.ranges.v ok
