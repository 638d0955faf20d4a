use Rattle.std.proofs.Common.{◌≤◌, ◌<◌, length, sym, ◌∙◌, arith}
use Rattle.std.proofs.lemmas.Grind.{common_steps}
use Rattle.gql_collect.specs.Growing as spec
use Rattle.gql_collect.specs.Kept.{fields_of, request_of, grown}
use Rattle.gql_collect.proofs.Grown.{no_levels, below_due, key_fails, group_full}
use Rattle.gql_collect.proofs.Groups.{group_found}
use Rattle.gql_collect.proofs.growing.+grow.Goals as goal

pub add_below-returns-then-levels-eq0 : goal.add_below-returns-then-levels-eq0
add_below-returns-then-levels-eq0 t c = no_levels (request_of c.args.request.now) _ _ _ _ c.args.levels c.if-levels-eq0.true c.requires.few

pub add_below-returns : goal.add_below-returns
add_below-returns t c =
    let some : 0 < c.args.levels = omega arith in
    below_due (request_of c.args.request.now) _ c.args.ty (spec.merged (fields_of c.args.group.now)) c.args.places.now c.args.asked.now.keys c.args.levels some c.in_ok-fields.fields.items c.as_slice.result.now c.sub_fields.new.asked.keys _ _ c.in_ok-fields.ensures c.as_slice.ensures.value c.add_fields.ensures

pub add_fields-returns-in-Err : goal.add_fields-returns-in-Err
add_fields-returns-in-Err t c =
    key_fails (request_of c.args.request.now) c.args.levels c.args.parent c.args.ty (fields_of c.args.fields.now) c.as_slice-key-items.result.now c.loop-key.key-index c.key-item.result c.loop-key-test.true c.key-item.is
    (Unit {0}) (Unit {0}) (fields_of c.as_slice.result.now) _ _ _ _ c.in-Err.fault
    (group_found c.in_ok-groups.groups c.key-item.result c.get.result c.in-Some.group c.as_slice.result.now _ c.get.ensures.value c.in-Some.is c.as_slice.ensures (c.in_ok-groups.ensures c.key-item.result))
    c.loop-key.invariant.same c.in-Err.ensures

pub add_group-returns-then-len-ge-MOST_PLACES : goal.add_group-returns-then-len-ge-MOST_PLACES
add_group-returns-then-len-ge-MOST_PLACES t c =
    let some : 0 < length c.args.group.now = first_of (omega arith, grind (arith, common_steps)) in
    let full : 2000 ≤ length c.args.places.now = omega arith in
    group_full (request_of c.args.request.now) c.args.levels c.args.parent c.args.ty c.args.key.now c.args.group.now c.index-group-0.result c.in-Some.number (grown c.args.places.now c.args.asked.now.keys) some c.index-group-0.is (sym c.number_of.ensures ∙ c.in-Some.is) full
