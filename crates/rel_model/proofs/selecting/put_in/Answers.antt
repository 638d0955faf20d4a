use Rattle.std.proofs.Common.{◌≡◌, ◌≤◌, Bor, map, length, refl, rules}
use Rattle.std.specs.List.{prefix_len}
use Rattle.rel_model.specs.declared.tables.Row.{Row}
use Rattle.rel_model.specs.Ordered.{precedes}
use Rattle.rel_model.proofs.FirstRows.{put_is}
use Rattle.rel_model.proofs.selecting.put_in.Goals as goal

pub returns : goal.returns
returns c =
    let place : c.place_of-at.result ≡ prefix_len (λ r. precedes c.args.order.now r c.args.row.now) (map (λ (r : Bor Row). r.now) c.args.first.now.items) = search rules in
    let bound : c.place_of-at.result ≤ length c.args.first.now.items = search rules in
    put_is c.args.order.now c.args.count c.args.row.now c.args.first.now.items c.args.row c.insert.new.self.items c.truncate.new.self.items c.place_of-at.result refl place bound c.in_ok-insert.ensures.items c.truncate.ensures.items
