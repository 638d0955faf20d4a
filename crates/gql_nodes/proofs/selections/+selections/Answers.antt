use Rattle.std.proofs.Common.{◌≡◌, length, sym, ◌∙◌, rules}
use Rattle.gql_nodes.proofs.Listing.{views_length, field_selection, inline_selection}
use Rattle.gql_nodes.proofs.selections.+selections.Goals as goal

pub put_selection-returns-in_ok-put_selections-in-Field : goal.put_selection-returns-in_ok-put_selections-in-Field
put_selection-returns-in_ok-put_selections-in-Field t c =
    let place : c.len-owner.result ≡ length c.args.out.now.items = search rules in
    field_selection _ _ _ _ _ _ _ _ _ _ _ _ _ c.in-Field.is (place ∙ sym (views_length c.args.out.now.items)) c.field_of-known.ensures c.below-parent.ensures c.as_slice.ensures c.in_ok-put_field_head-in-Field.ensures c.in_ok-put_selections-in-Field.ensures

pub put_selection-returns-in_ok-put_selections-in-InlineFragment : goal.put_selection-returns-in_ok-put_selections-in-InlineFragment
put_selection-returns-in_ok-put_selections-in-InlineFragment t c =
    let place : c.len-owner.result ≡ length c.args.out.now.items = search rules in
    inline_selection _ _ _ _ _ _ _ _ _ _ _ _ c.in-InlineFragment.is (place ∙ sym (views_length c.args.out.now.items)) c.within_condition-parent.ensures c.as_slice-in-InlineFragment.ensures c.in_ok-put_inline_head-in-InlineFragment.ensures c.in_ok-put_selections-in-InlineFragment.ensures
