use Rattle.std.proofs.Common.{◌≡◌, ◌<◌, ℕ, List, Some, [], ◌∷◌, length, sym, ap, subst, ◌∙◌, arith}
use Rattle.std.specs.Prelude.{slice_get}
use Rattle.pg_base.specs.Lists.{Each}
use Rattle.gql_nodes.specs.Listed.{views}
use Rattle.gql_nodes.specs.Names.{place_in}
use Rattle.gql_nodes.specs.Uses.{targets, fragment_place, place_from}
use Rattle.gql_scopes.specs.Ranks.{HasNoCycle}
use Rattle.gql_scopes.specs.Tables.{row, is_marked}
use Rattle.gql_scopes.proofs.Gathered.{closure_along, no_cycle_along, targets_along, operation_stands}
use Rattle.gql_scopes.proofs.tables.gather.Goals as goal

pub returns-clause-tables : goal.returns-clause-tables
returns-clause-tables c =
    let document = c.args.document.now in
    let nodes = views c.args.nodes.now in
    let places = c.in_ok-fragments.fragments in
    let rows = c.in_ok-rows.rows.items in
    let named : (name : List ℕ) → place_in places name ≡ fragment_place document name = λ name. c.in_ok-fragments.ensures name ∙ ap (λ ds. place_from 0 ds name) c.as_slice.ensures in
    let along : (n : ℕ) → row rows n ≡ targets nodes document n = λ n. c.in_ok-rows.ensures n ∙ targets_along document places nodes n named in
    let marks = c.in_ok-wanted.wanted.items in
    let shown = c.as_slice-4.ensures.value in
    let many = c.in_ok-wanted.ensures.len in
    let len : length c.in_ok-reached.reached.items ≡ c.in-Some.count = c.in_ok-reached.ensures.len ∙ ap (λ l. length l) shown ∙ many in
    let le = c.in-Some.ensures.0 in
    record {
      fragments = named;
      variables = λ p o at name.
          let s = operation_stands document.definitions p o at in
          let same = c.as_slice-2.ensures in
          let stands = subst (λ ds. slice_get ds p ≡ Some s.definition) (sym same) s.at in
          c.in_ok-variables.ensures p s.definition (subst (λ ds. p < length ds) (sym same) s.within) stands o s.is name;
      spreads = c.in_ok-spreads.ensures;
      used = c.in_ok-used.ensures;
      ordered = λ is. no_cycle_along (λ n. row rows n) (targets nodes document) along (subst (λ l. HasNoCycle (λ n. row l n)) c.as_slice-3.ensures.value (c.in_ok-ordered.ensures is));
      reached = λ p lt asked.
          let within : p < c.in-Some.count = omega arith in
          let marked = ap (λ l. is_marked l p) shown ∙ c.in_ok-wanted.ensures.marks p within ∙ asked in
          closure_along (p ∷ []) (λ n. row rows n) (targets nodes document) (row c.in_ok-reached.reached.items p) along
          (c.in_ok-reached.ensures.reached p (omega arith) marked);
      rows = omega arith;
      placed = subst (λ n. Each (λ x. x.within < n) nodes) (sym len) c.in-Some.ensures.1;
    }
