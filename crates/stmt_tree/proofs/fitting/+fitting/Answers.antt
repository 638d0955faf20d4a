use Rattle.std.proofs.Common.{◌≡◌, refl, sym, subst, rules}
use Rattle.pg_base.specs.Lists.{Each}
use Rattle.stmt_tree.specs.declared.stmt.Child.TheViews.{out-Stmt, out-Child}
use Rattle.stmt_tree.specs.Form.{IsStmtOf}
use Rattle.stmt_tree.proofs.Places.{layer_of, children_of, stmt_made}
use Rattle.stmt_tree.proofs.fitting.+fitting.Goals as goal

pub fits-returns-then-not-layer_fits : goal.fits-returns-then-not-layer_fits
fits-returns-then-not-layer_fits t c =
    ((λ e. absurd (cc)), (λ is. search (rules, c.if-not-layer_fits.ensures.1 (layer_of c.args.catalog.now c.args.stmt.now is))))

pub fits-returns : goal.fits-returns
fits-returns t c =
    let same : c.as_slice.result.now ≡ (out-Stmt c.args.stmt.now).children = search rules in (
      (λ e. stmt_made c.args.catalog.now c.args.stmt.now (c.if-not-layer_fits.ensures.0 refl)
          (subst (λ l. Each (λ k. IsStmtOf c.args.catalog.now (out-Child k).stmt) l) same (c.all_fit.ensures.0 e))),
      (λ is. c.all_fit.ensures.1
          (subst (λ l. Each (λ k. IsStmtOf c.args.catalog.now (out-Child k).stmt) l) (sym same)
          (children_of c.args.catalog.now c.args.stmt.now is))),
    )
