use Rattle.std.proofs.Common.{◌≡◌, Some, None, ap, ◌∙◌, arith}
use Rattle.std.proofs.lemmas.Grind.{common_steps}
use Rattle.schema_build.specs.Places.{marks_of, found_from}
use Rattle.schema_build.proofs.Found.{place_none, place_some}
use Rattle.schema_build.proofs.places.Places.of_role.Goals as goal

pub returns-in-None : goal.returns-in-None
returns-in-None c =
    let roles = c.self.inside.roles.items in
    let e : None ≡ found_from 0 roles (marks_of c.args.role) =
    c.in-None.ensures.value ∙ c.self.invariant.found c.of.result ∙ ap (λ m. found_from 0 roles m) c.of.ensures in
    let p = place_none roles c.args.role e in
    grind (arith, common_steps, p)

pub returns-in-Some : goal.returns-in-Some
returns-in-Some c =
    let roles = c.self.inside.roles.items in
    let e : Some c.in-Some.place.now ≡ found_from 0 roles (marks_of c.args.role) =
    c.in-Some.ensures.value ∙ c.self.invariant.found c.of.result ∙ ap (λ m. found_from 0 roles m) c.of.ensures in
    let p = place_some roles c.args.role c.in-Some.place.now e in
    grind (arith, common_steps, p)
