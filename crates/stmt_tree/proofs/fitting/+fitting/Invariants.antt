use Rattle.std.proofs.Common.{take}
use Rattle.pg_base.specs.Lists.{Each}
use Rattle.stmt_tree.specs.declared.stmt.Child.TheViews.{out-Child}
use Rattle.stmt_tree.specs.Form.{IsStmtOf}
use Rattle.stmt_tree.proofs.fitting.+fitting.Given as goal

-- the children so far are statements of the catalog
abbrev pub invariant-all_fit-loop-child : goal.invariant-all_fit-loop-child
invariant-all_fit-loop-child l = Each (λ k. IsStmtOf l.catalog (out-Child k).stmt) (take l.child-index l.children)
