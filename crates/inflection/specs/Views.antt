-- What the tables and the endings of the code stand for.
use Rattle.name_rules.specs.Inflection as rules
use Rattle.inflection.specs.declared.endings.Irregular.{Irregular}
use Rattle.inflection.specs.declared.endings.Ending.{Ending}

abbrev pub irregular_view : Irregular → rules.Irregular
irregular_view w = record { front = w.front.now; one = w.one.now; many = w.many.now }

abbrev pub ending_view : Ending → rules.Ending
ending_view e = record { cut = e.cut; added = e.added.now }
