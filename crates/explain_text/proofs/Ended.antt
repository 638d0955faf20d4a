-- The lines of fetches, where the steps or how they are come by are at their end.
use Rattle.std.proofs.Common.{◌≡◌, ◌∙◌, ◌⊎◌, inl, inr, ℕ, ◌<◌, ◌≤◌, min, List, [], ◌∷◌, ◌++◌, drop, length, refl, sym, ap, append-nil, arith}
use Rattle.std.proofs.lemmas.Bool.{cases_lt}
use Rattle.std.proofs.lemmas.List.{drop_all}
use Rattle.pg_base.specs.Catalog.{CatalogParts}
use Rattle.batch_execute.specs.declared.way.Way.{Way}
use Rattle.plan_steps.specs.declared.plan.Step.{Step}
use Rattle.explain_text.specs.WayLines.{lines_by}

without_ways : (catalog : CatalogParts) (steps : List Step) → lines_by catalog steps [] ≡ []
without_ways catalog [] = refl
without_ways catalog (s ∷ steps) = refl

none_left : (catalog : CatalogParts) (steps : List Step) (how : List Way) (n : ℕ) → n ≡ min (length steps) (length how) → lines_by catalog (drop n steps) (drop n how) ≡ []
none_left catalog steps how n e = by (cases_lt n (length steps))
  where
    by : (n < length steps) ⊎ (length steps ≤ n) → lines_by catalog (drop n steps) (drop n how) ≡ []
    by (inl more) = ap (lines_by catalog (drop n steps)) (drop_all n how (omega arith)) ∙ without_ways catalog (drop n steps)
    by (inr all) = ap (λ (left : List Step). lines_by catalog left (drop n how)) (drop_all n steps all)

pub all_lines : (catalog : CatalogParts) (steps : List Step) (how : List Way) (n : ℕ) (out all : List ℕ) → n ≡ min (length steps) (length how) → out ++ lines_by catalog (drop n steps) (drop n how) ≡ all → out ≡ all
all_lines catalog steps how n out all e kept = sym (append-nil out) ∙ ap (λ lines. out ++ lines) (sym (none_left catalog steps how n e)) ∙ kept
