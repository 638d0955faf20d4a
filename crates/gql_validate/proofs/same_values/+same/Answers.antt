use Rattle.std.proofs.Common.{rules, ◌≡◌, ◌∙◌, false, length, replicate, ap}
use Rattle.gql_validate.specs.SameLists as lists
use Rattle.gql_validate.proofs.SameRows.{lists_same, objects_same}
use Rattle.gql_validate.proofs.Told.{told, told_all}
use Rattle.gql_validate.proofs.same_values.+same.Goals as goal

pub is_same-returns-in_ok-same-in-List-b : goal.is_same-returns-in_ok-same-in-List-b
is_same-returns-in_ok-same-in-List-b t c = lists_same _ _ _ _ _ _ _ c.in-List.is c.in-List-b.is c.as_slice.ensures c.as_slice-in-List-b.ensures c.in_ok-same-in-List-b.ensures

pub is_same-returns-in_ok-same-in-Object-b : goal.is_same-returns-in_ok-same-in-Object-b
is_same-returns-in_ok-same-in-Object-b t c = objects_same _ _ _ _ _ _ _ c.in-Object.is c.in-Object-b.is c.as_slice-in-Object-b.ensures c.as_slice-in-Object-b-2.ensures c.in_ok-same-in-Object-b.ensures

pub are_same_fields-loop-x-init : goal.are_same_fields-loop-x-init
are_same_fields-loop-x-init t c =
    let none : c.in_ok-met.met.items ≡ replicate (length c.args.ys.now) false = search rules in
    ap (told lists.same_field c.args.xs.now c.args.ys.now) none ∙ told_all lists.same_field c.args.xs.now c.args.ys.now
