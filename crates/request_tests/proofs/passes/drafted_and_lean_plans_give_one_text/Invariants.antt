use Rattle.request_tests.proofs.passes.drafted_and_lean_plans_give_one_text.Given as goal

abbrev pub ghosts-differences : goal.ghosts-differences
ghosts-differences a c = record { name = c.blank.name; parts = c.blank.parts }
