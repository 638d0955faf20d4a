use Rattle.gql_collect.specs.Kept.{group_in}
use Rattle.gql_collect.proofs.Groups.{groups_go}
use Rattle.gql_collect.proofs.grouping.groups_of.Goals as goal

pub loop-field-preserved : goal.loop-field-preserved
loop-field-preserved c =
    groups_go c.args.fields.now c.loop-field.field-index (group_in c.loop-field.groups) c.loop-field.invariant c.field-item.result c.loop-field-test.true c.field-item.is (group_in c.add_to_group.new.groups) c.in_ok-add_to_group.ensures
