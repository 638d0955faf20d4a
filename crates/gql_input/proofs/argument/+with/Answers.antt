use Rattle.gql_input.proofs.ArgumentFacts.{list_is, object_is}
use Rattle.gql_input.proofs.argument.+with.Goals as goal

pub value_with-returns-in_ok-values_with-in-List :
    goal.value_with-returns-in_ok-values_with-in-List
value_with-returns-in_ok-values_with-in-List t c =
    list_is c.args.vars.now c.args.value.now _ _ _ c.in-List.is c.as_slice.ensures c.in_ok-values_with-in-List.ensures

pub value_with-returns-in_ok-members_with-in-Object :
    goal.value_with-returns-in_ok-members_with-in-Object
value_with-returns-in_ok-members_with-in-Object t c =
    object_is c.args.vars.now c.args.value.now _ _ _ c.in-Object.is c.as_slice-in-Object.ensures c.in_ok-members_with-in-Object.ensures
