use Rattle.gql_validate.proofs.field_selection_merging.least_below.Goals as goal

pub returns : goal.returns
returns c = record { spoiled = c.spread.new.spoiled.keys; spread = c.in_ok-spread.ensures; least = c.in_ok-made.ensures }
