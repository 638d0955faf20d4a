use Rattle.std.proofs.Common.{◌≡◌, length, true, false, sym, ◌∙◌, rules}
use Rattle.std.specs.Prelude.{slice_get, Some}
use Rattle.stmt_tree.specs.declared.stmt.Child.TheViews.{out-Stmt}
use Rattle.stmt_tree.specs.Places as spec
use Rattle.stmt_tree.proofs.Places.{layer_made, places_told, marks_told}
use Rattle.stmt_tree.proofs.fitting.layer_fits.Goals as goal

pub returns-then-not-places_fit : goal.returns-then-not-places_fit
returns-then-not-places_fit c =
    let s = out-Stmt c.args.stmt.now in
    let t = c.in-Some.table.now in
    let at : slice_get c.args.catalog.now.tables s.table ≡ Some t = search rules in
    let told : spec.places_fit (length t.columns) s ≡ false = search rules in
    ((λ e. absurd (cc)), (λ layer. sym told ∙ places_told c.args.catalog.now s t at layer))

pub returns : goal.returns
returns c =
    let s = out-Stmt c.args.stmt.now in
    let t = c.in-Some.table.now in
    let at : slice_get c.args.catalog.now.tables s.table ≡ Some t = search rules in
    let told : spec.places_fit (length t.columns) s ≡ true = search rules in
    let marks : c.marks_fit.result ≡ spec.marks_fit s = search rules in
    ((λ e. layer_made c.args.catalog.now s t at told (sym marks ∙ e)), (λ layer. marks ∙ marks_told c.args.catalog.now s layer))
