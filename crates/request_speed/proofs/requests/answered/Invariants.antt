use Rattle.request_speed.proofs.requests.answered.Given as goal

abbrev pub ghosts-planned_over : goal.ghosts-planned_over
ghosts-planned_over a = record { name = a.blank.name; parts = a.blank.parts }
