use Rattle.std.proofs.Common.{◌≡◌, option_map, drop, []}
use Rattle.gql_nodes.specs.Nodes as spec
use Rattle.gql_nodes.specs.Listed.{views}
use Rattle.gql_nodes.proofs.values.put_arguments.Given as goal

abbrev pub invariant-loop-argument : goal.invariant-loop-argument
invariant-loop-argument l =
    spec.put_arguments l.schema l.within l.before (option_map (λ d. d.now) l.defs) (drop l.argument-index l.arguments) (views l.out.items)
    ≡ spec.put_arguments l.schema l.within [] (option_map (λ d. d.now) l.defs) l.arguments (views l.initial.out.items)
