use Rattle.request_tests.proofs.houses.a_plan_is_kept_though_its_run_fails.Given as goal

abbrev pub ghosts-asked_twice : goal.ghosts-asked_twice
ghosts-asked_twice a c = record { name = c.blank.name; parts = c.blank.parts }
