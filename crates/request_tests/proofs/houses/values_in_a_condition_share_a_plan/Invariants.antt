use Rattle.request_tests.proofs.houses.values_in_a_condition_share_a_plan.Given as goal

abbrev pub ghosts-conditions_on : goal.ghosts-conditions_on
ghosts-conditions_on a c = record { name = c.blank.name; parts = c.blank.parts }
