use Rattle.gql_collect.proofs.Args.{arg_turn}
use Rattle.gql_collect.proofs.growing.args_of.Goals as goal

pub loop-i-preserved : goal.loop-i-preserved
loop-i-preserved c =
    arg_turn _ _ _ _ _ _ c.loop-i.invariant c.index-defs-i.result _ c.loop-i-test.true c.index-defs-i.is c.in_ok-put_arg.ensures
