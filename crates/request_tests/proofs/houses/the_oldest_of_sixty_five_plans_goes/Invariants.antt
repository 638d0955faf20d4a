use Rattle.request_tests.proofs.houses.the_oldest_of_sixty_five_plans_goes.Given as goal

abbrev pub ghosts-plans_of_many : goal.ghosts-plans_of_many
ghosts-plans_of_many a c = record { name = c.blank.name; parts = c.blank.parts }
