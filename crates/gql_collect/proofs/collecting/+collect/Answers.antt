use Rattle.std.proofs.Common.{◌≡◌, ◌<◌, ◌≤◌, true, false, refl, sym, ◌∙◌, subst, rules, arith}
use Rattle.std.specs.List.{list_any}
use Rattle.std.specs.Str.{bytes_eq}
use Rattle.std.proofs.lemmas.Grind.{common_steps}
use Rattle.gql_collect.specs.Collected.{applies_to, enter_at}
use Rattle.gql_collect.specs.Kept.{met_by, request_of}
use Rattle.gql_collect.proofs.Depth.{set_depth, deepest, found_depth, entering_falls}
use Rattle.gql_collect.proofs.Collects.{field_added, inline_added, enter_none, enter_known, enter_new, enter_other, enter_meant}
use Rattle.gql_collect.proofs.collecting.+collect.Goals as goal

pub collect_fragment-returns-then-left-eq0 : goal.collect_fragment-returns-then-left-eq0
collect_fragment-returns-then-left-eq0 t c = enter_none _ _ _ _ _ c.if-left-eq0.true

pub collect_fragment-returns-then-contains : goal.collect_fragment-returns-then-contains
collect_fragment-returns-then-contains t c =
    let some : 0 < c.args.left = omega arith in
    let hit : list_any (bytes_eq c.args.name.now) c.args.entered.now.keys ≡ true = search rules in
    enter_known (request_of c.args.request.now) c.args.ty c.args.left c.args.name.now
    (met_by c.args.fields.now.items c.args.entered.now.keys c.args.asked.now.keys) some hit

pub collect_fragment-returns-in_default : goal.collect_fragment-returns-in_default
collect_fragment-returns-in_default t c =
    let some : 0 < c.args.left = omega arith in
    let miss : list_any (bytes_eq c.args.name.now) c.args.entered.now.keys ≡ false = search rules in
    enter_new (request_of c.args.request.now) c.args.ty c.args.left c.args.name.now c.args.fields.now.items _ _ _ _ _ some miss c.in_ok-copy.ensures c.in_ok-insert_full.ensures.keys c.in_default.ensures

pub collect_fragment-returns-then-not-is_type : goal.collect_fragment-returns-then-not-is_type
collect_fragment-returns-then-not-is_type t c =
    let some : 0 < c.args.left = omega arith in
    let miss : list_any (bytes_eq c.args.name.now) c.args.entered.now.keys ≡ false = search rules in
    enter_other (request_of c.args.request.now) c.args.ty c.args.left c.args.name.now c.in-Some.fragment.now _ (sym c.is_type.ensures ∙ c.if-not-is_type.true)
    ∙ enter_new (request_of c.args.request.now) c.args.ty c.args.left c.args.name.now c.args.fields.now.items _ _ _ _ _ some miss c.in_ok-copy.ensures c.in_ok-insert_full.ensures.keys c.in-Some.ensures

pub collect_fragment-returns : goal.collect_fragment-returns
collect_fragment-returns t c =
    let some : 0 < c.args.left = omega arith in
    let miss : list_any (bytes_eq c.args.name.now) c.args.entered.now.keys ≡ false = search rules in
    enter_meant (request_of c.args.request.now) c.args.ty c.args.left c.args.name.now c.in-Some.fragment.now _ _ _ (sym c.is_type.ensures ∙ c.if-not-is_type.false) c.as_slice.ensures c.in_ok-collect_set.ensures
    ∙ enter_new (request_of c.args.request.now) c.args.ty c.args.left c.args.name.now c.args.fields.now.items _ _ _ _ _ some miss c.in_ok-copy.ensures c.in_ok-insert_full.ensures.keys c.in-Some.ensures

pub collect_fragment-collect_set-requires : goal.collect_fragment-collect_set-requires
collect_fragment-collect_set-requires t c =
    let some : 0 < c.args.left = omega arith in
    let depth : set_depth c.in-Some.fragment.now.selections ≤ deepest c.args.request.now.fragments = found_depth c.args.request.now.fragments c.args.name.now c.in-Some.fragment.now (sym c.in-Some.ensures) in
    let same : set_depth c.as_slice.result.now ≤ deepest c.args.request.now.fragments = subst (λ l. set_depth l ≤ deepest c.args.request.now.fragments) (sym c.as_slice.ensures) depth in
    let falls = entering_falls c.args.left (set_depth c.as_slice.result.now) (deepest c.args.request.now.fragments) some same in
    first_of (search rules, grind (arith, common_steps))

pub collect_selection-returns-in_ok-push-in-Field : goal.collect_selection-returns-in_ok-push-in-Field
collect_selection-returns-in_ok-push-in-Field t c =
    field_added c.args.request.now.vars.now (applies_to c.args.request.now.schema.now c.args.ty) (enter_at c.args.left (request_of c.args.request.now) c.args.ty)
    c.args.selection.now c.in-Field.field c.as_slice.result.now _ _ _ _ _ _ c.in-Field.is c.as_slice.ensures refl c.in_ok-push-in-Field.ensures.items (sym c.in_ok-choose-in-Field.ensures.kept ∙ c.if-branch.true) c.in_ok-choose-in-Field.ensures.asked

pub collect_selection-returns-in_ok-collect_set-in-InlineFragment : goal.collect_selection-returns-in_ok-collect_set-in-InlineFragment
collect_selection-returns-in_ok-collect_set-in-InlineFragment t c =
    inline_added c.args.request.now.vars.now (applies_to c.args.request.now.schema.now c.args.ty) (enter_at c.args.left (request_of c.args.request.now) c.args.ty)
    c.args.selection.now c.in-InlineFragment.inline c.as_slice-in-InlineFragment.result.now c.as_slice-then-is_for.result.now c.args.fields.now.items _ _ _ _ c.in-InlineFragment.is c.as_slice-in-InlineFragment.ensures (sym c.in_ok-choose-in-InlineFragment.ensures.kept ∙ c.if-branch-3.true) c.in_ok-choose-in-InlineFragment.ensures.asked (sym c.is_for.ensures ∙ c.if-is_for.true) c.as_slice-then-is_for.ensures c.in_ok-collect_set-in-InlineFragment.ensures
