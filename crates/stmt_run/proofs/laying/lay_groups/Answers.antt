use Rattle.std.proofs.Common.{◌≡◌, ◌++◌, ◌∙◌, ap, rules}
use Rattle.std.proofs.lemmas.Result.{err_from_is_err_and}
use Rattle.stmt_tree.specs.Batches.{part_in, list_for}
use Rattle.stmt_run.specs.Laid.{shape_of}
use Rattle.stmt_run.proofs.Layers.{now_all}
use Rattle.stmt_run.proofs.Room.{cause_taken, shapes_turn, rows_turn, room_left, room_end, between_is}
use Rattle.stmt_run.proofs.laying.lay_groups.Goals as goal

pub returns-in_err-take_room-clause-room : goal.returns-in_err-take_room-clause-room
returns-in_err-take_room-clause-room c =
    let p = err_from_is_err_and c.from_residual-in_err-take_room.result c.from_residual-in_err-take_room.ensures.1 in
    let cells : c.as_slice-cells.result.now ≡ c.key-item.result.cells = search rules in
    let list = between_is c.args.set.now.tables c.args.stmt.now (now_all c.as_slice-rows.result.now) c.places_of_key-from.result.0 c.places_of_key-from.result.1 c.as_slice-cells.result.now c.key-item.result.cells cells c.places_of_key-from.ensures.rows in
    let shaped : c.in_ok-shape.shape ≡ shape_of c.args.stmt.now (list_for c.args.set.now.tables c.args.stmt.now c.key-item.result.cells) = c.in_ok-shape.ensures.shape ∙ ap (shape_of c.args.stmt.now) list in
    rw (p.1, p.2) (cause_taken c.args.set.now.tables c.args.stmt.now c.args.keys.now c.args.all.now.items c.loop-key.all.items c.args.room.now c.loop-key.room c.loop-key.invariant.room c.loop-key.key-index c.loop-key.invariant.rows c.key-item.result c.loop-key-test.true c.key-item.is c.in_ok-shape.shape shaped c.in_err-take_room.field-0.0 c.in_err-take_room.ensures)

pub loop-key-preserved : goal.loop-key-preserved
loop-key-preserved c =
    let cells : c.as_slice-cells.result.now ≡ c.key-item.result.cells = search rules in
    let list = between_is c.args.set.now.tables c.args.stmt.now (now_all c.as_slice-rows.result.now) c.places_of_key-from.result.0 c.places_of_key-from.result.1 c.as_slice-cells.result.now c.key-item.result.cells cells c.places_of_key-from.ensures.rows in
    let shaped : c.in_ok-shape.shape ≡ shape_of c.args.stmt.now (list_for c.args.set.now.tables c.args.stmt.now c.key-item.result.cells) = c.in_ok-shape.ensures.shape ∙ ap (shape_of c.args.stmt.now) list in
    let pushed : now_all c.lay_between.new.all.items ≡ now_all c.loop-key.all.items ++ part_in c.args.stmt.now (list_for c.args.set.now.tables c.args.stmt.now c.key-item.result.cells) = c.in_ok-shape.ensures.rows ∙ ap (λ l. now_all c.loop-key.all.items ++ part_in c.args.stmt.now l) list in
    record {
      shapes = shapes_turn c.args.set.now.tables c.args.stmt.now c.args.keys.now c.args.all.now.items c.loop-key.all.items c.args.room.now c.loop-key.room c.loop-key.invariant.room c.loop-key.key-index c.loop-key.invariant.rows c.key-item.result c.loop-key-test.true c.key-item.is c.in_ok-shape.shape shaped c.loop-key.shapes c.push.new.self _ c.loop-key.invariant.shapes c.in_ok-push.ensures.ok;
      rows = rows_turn c.args.set.now.tables c.args.stmt.now c.args.keys.now c.args.all.now.items c.loop-key.all.items c.args.room.now c.loop-key.room c.loop-key.invariant.room c.loop-key.key-index c.loop-key.invariant.rows c.key-item.result c.loop-key-test.true c.key-item.is c.in_ok-shape.shape shaped c.lay_between.new.all.items pushed;
      room = room_left c.args.set.now.tables c.args.stmt.now c.args.keys.now c.args.all.now.items c.loop-key.all.items c.args.room.now c.loop-key.room c.loop-key.invariant.room c.loop-key.key-index c.loop-key.invariant.rows c.key-item.result c.loop-key-test.true c.key-item.is c.in_ok-shape.shape shaped c.lay_between.new.all.items pushed c.take_room.new.room c.in_ok-take_room.ensures;
      groups = c.in_ok-shape.ensures.groups;
    }

pub returns-clause-room : goal.returns-clause-room
returns-clause-room c = room_end c.args.set.now.tables c.args.stmt.now c.args.keys.now c.args.all.now.items c.loop-key.all.items c.args.room.now c.loop-key.room c.loop-key.invariant.room c.loop-key.key-index c.loop-key.invariant.rows c.loop-key-test.false
