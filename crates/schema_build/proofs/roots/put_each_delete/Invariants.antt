use Rattle.std.proofs.Common.{◌≡◌, ◌++◌, [], ◌∷◌, drop}
use Rattle.pg_base.specs.Listing.{each_at, all_when}
use Rattle.pg_base.specs.Roles as rolled
use Rattle.pg_base.specs.RootFields as spec
use Rattle.schema_build.proofs.roots.put_each_delete.Given as goal

abbrev pub invariant-loop-k : goal.invariant-loop-k
invariant-loop-k l = record {
  key : l.key ≡ l.k-index;
  done : l.fields.items ++ each_at (λ key k. all_when (rolled.is_new_key l.t.keys key k) (spec.delete_field l.types l.table l.t key k ∷ [])) l.key (drop l.k-index l.t.keys)
      ≡ l.fn.fields.items ++ each_at (λ key k. all_when (rolled.is_new_key l.t.keys key k) (spec.delete_field l.types l.table l.t key k ∷ [])) 0 l.t.keys;
}
