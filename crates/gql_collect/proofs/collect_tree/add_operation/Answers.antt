use Rattle.gql_collect.specs.Kept.{request_of}
use Rattle.gql_collect.proofs.Grown.{root_due}
use Rattle.gql_collect.proofs.collect_tree.add_operation.Goals as goal

pub returns : goal.returns
returns c =
    root_due (request_of c.args.request.now) c.args.operation.now.kind c.root_of-ty.result c.args.operation.now.selections c.as_slice.result.now c.args.places.now c.args.asked.now.keys c.in_ok-fields.fields.items c.as_slice-2.result.now c.set_fields.new.asked.keys _ _ c.root_of-ty.ensures c.as_slice.ensures c.in_ok-fields.ensures c.as_slice-2.ensures.value c.add_fields.ensures
