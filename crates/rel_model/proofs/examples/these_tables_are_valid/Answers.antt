use Rattle.std.proofs.Common.{refl, rules}
use Rattle.rel_model.proofs.ExampleTexts.{ab_text, zz_text, accents_text, length-ab, length-accents}
use Rattle.rel_model.proofs.examples.these_tables_are_valid.Goals as goal

pub returns-clause-linked : goal.returns-clause-linked
returns-clause-linked c =
    record {
      lists = (
        record { limit = search rules; next = search rules; next_fits = search rules; numbers = search rules; counters = search rules; cells = search (rules, ab_text, length-ab); keys = search rules; links = tt },
        (
          record {
            limit = search rules;
            next = search rules;
            next_fits = search rules;
            numbers = search rules;
            counters = search rules;
            cells = search (rules, ab_text, zz_text);
            keys = tt;
            links = (((λ _. (0, refl)), ((λ known. absurd (known.1.0 refl)), tt)), tt);
          },
          tt,
        ),
      );
    }

pub returns-clause-characters : goal.returns-clause-characters
returns-clause-characters c =
    search (rules, accents_text, length-accents)
