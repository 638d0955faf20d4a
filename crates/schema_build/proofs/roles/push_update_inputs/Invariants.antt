use Rattle.std.proofs.Common.{◌≡◌, ◌++◌, [], ◌∷◌, drop}
use Rattle.pg_base.specs.Listing.{each_at, all_when}
use Rattle.pg_base.specs.Roles as spec
use Rattle.pg_base.specs.declared.role.Role.TheVariants as role
use Rattle.schema_build.proofs.roles.push_update_inputs.Given as goal

abbrev pub invariant-loop-k : goal.invariant-loop-k
invariant-loop-k l = record {
  place : l.place ≡ l.k-index;
  done : l.roles.items ++ each_at (λ key k. all_when (spec.is_new_key l.keys key k) (role.UpdateInput l.table key ∷ [])) l.place (drop l.k-index l.keys) ≡ l.fn.roles.items ++ each_at (λ key k. all_when (spec.is_new_key l.keys key k) (role.UpdateInput l.table key ∷ [])) 0 l.keys;
}
