-- What it means that a part has no fault.
use Rattle.std.proofs.Common.{◌≡◌, ℕ, Bool, true, false, ◌||◌, ◌&&◌, not, List, Option, None, Some, refl}
use Rattle.pg_base.specs.Catalog.{CatalogParts}
use Rattle.pg_base.specs.declared.pos.Pos.{Pos}
use Rattle.pg_catalog.specs.declared.fault.CatalogFault.{CatalogFault}
use Rattle.pg_catalog.specs.declared.part.Part.{Part}
use Rattle.pg_catalog.specs.Faults.{when, else_next, pos_of, fault_of, double_name, double_column, unknown_table, unknown_column, second_primary, no_key, bad_type, double_constraint, long_name, past_limit}

pub record Passed (c : CatalogParts) (p : Part) : Type 0 where
  pub name : double_name c p ≡ None
  pub column : double_column c p ≡ None
  pub table : unknown_table c p ≡ None
  pub known : unknown_column c p ≡ None
  pub primary : second_primary c p ≡ None
  pub key : no_key c p ≡ None
  pub types : bad_type c p ≡ None
  pub constraint : double_constraint c p ≡ None
  pub short : long_name c p ≡ None
  pub limit : past_limit c p ≡ None

-- neither this fault nor a later one
none_of : (place : Pos) (which : ℕ) (found : Option (List ℕ)) (next : Option CatalogFault) → else_next place which found next ≡ None → (found ≡ None) × (next ≡ None)
none_of place which None next e = (refl, e)
none_of place which (Some name) next e = absurd (cc)

pub passed : (c : CatalogParts) (p : Part) → fault_of c p ≡ None → Passed c p
unfolding fault_of
passed c p e =
    let a1 = none_of (pos_of p) 1 (double_name c p) _ e in
    let a2 = none_of (pos_of p) 2 (double_column c p) _ a1.1 in
    let a3 = none_of (pos_of p) 3 (unknown_table c p) _ a2.1 in
    let a4 = none_of (pos_of p) 4 (unknown_column c p) _ a3.1 in
    let a5 = none_of (pos_of p) 5 (second_primary c p) _ a4.1 in
    let a6 = none_of (pos_of p) 6 (no_key c p) _ a5.1 in
    let a7 = none_of (pos_of p) 7 (bad_type c p) _ a6.1 in
    let a8 = none_of (pos_of p) 8 (double_constraint c p) _ a7.1 in
    let a9 = none_of (pos_of p) 9 (long_name c p) _ a8.1 in
    let a10 = none_of (pos_of p) 10 (past_limit c p) _ a9.1 in
    record {
      name = a1.0;
      column = a2.0;
      table = a3.0;
      known = a4.0;
      primary = a5.0;
      key = a6.0;
      types = a7.0;
      constraint = a8.0;
      short = a9.0;
      limit = a10.0;
    }

-- the test of a fault that isn't there
pub failed : (test : Bool) (name : List ℕ) → when test name ≡ None → test ≡ false
failed true name e = absurd (cc)
failed false name e = refl

pub or_false : (a b : Bool) → (a || b) ≡ false → (a ≡ false) × (b ≡ false)
or_false true b e = absurd (cc)
or_false false b e = (refl, e)

pub and_true : (a b : Bool) → (a && b) ≡ true → (a ≡ true) × (b ≡ true)
and_true true b e = (refl, e)
and_true false b e = absurd (cc)

pub not_false : (a : Bool) → not a ≡ false → a ≡ true
not_false true e = refl
not_false false e = absurd (cc)
