use Rattle.request_tests.proofs.houses.texts_and_names_have_plans_of_their_own.Given as goal

abbrev pub ghosts-names_on : goal.ghosts-names_on
ghosts-names_on a c = record { name = c.blank.name; parts = c.blank.parts }
