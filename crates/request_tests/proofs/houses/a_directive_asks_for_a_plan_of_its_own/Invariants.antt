use Rattle.request_tests.proofs.houses.a_directive_asks_for_a_plan_of_its_own.Given as goal

abbrev pub ghosts-directives_on : goal.ghosts-directives_on
ghosts-directives_on a c = record { name = c.blank.name; parts = c.blank.parts }
