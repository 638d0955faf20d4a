-- Types are found by their marks, which are each type's own.
use Rattle.std.proofs.Common.{◌≡◌, ℕ, suc, ◌+◌, Bool, true, false, List, [], ◌∷◌, length, Option, Some, None, unwrap_or, refl, sym, ap, ◌∙◌, subst, arith, drop, get_or, cond, ◌<◌, drop-cons}
use Rattle.std.specs.Prelude.{if◌then◌else◌, nat_lt}
use Rattle.std.proofs.lemmas.Bool.Decides.{same_from_decides, nat_tests}
use Rattle.std.proofs.lemmas.Slice.Eq.{bytes_eq-Decides}
use Rattle.pg_base.specs.declared.role.Role.{Role}
use Rattle.pg_base.specs.declared.role.Role.TheVariants as role
use Rattle.pg_base.specs.Roles.{signature_of, is_role, place_of}
use Rattle.schema_laws.proofs.Places.{is_role-same, is_role-self}
use Rattle.schema_build.specs.declared.marks.Marks.{Marks}
use Rattle.schema_build.specs.Places.{marks_of, same_marks, found_from}

signed : Marks → List ℕ
signed m = if nat_lt m.purpose 5 then m.purpose ∷ [] else (if nat_lt m.purpose 17 then m.purpose ∷ m.table ∷ [] else m.purpose ∷ m.table ∷ m.key ∷ [])

signed-marks : (r : Role) → signed (marks_of r) ≡ signature_of r
unfolding signed
signed-marks role.BigInt = refl
signed-marks role.Cursor = refl
signed-marks role.PageInfo = refl
signed-marks (role.Enum a) = refl
signed-marks (role.Row a) = refl
signed-marks (role.Connection a) = refl
signed-marks (role.Edge a) = refl
signed-marks (role.Order a) = refl
signed-marks (role.Condition a) = refl
signed-marks (role.Input a) = refl
signed-marks (role.Patch a) = refl
signed-marks role.Query = refl
signed-marks role.Mutation = refl
signed-marks (role.CreateInput a) = refl
signed-marks (role.CreatePayload a) = refl
signed-marks (role.UpdateInput a b) = refl
signed-marks (role.UpdatePayload a) = refl
signed-marks (role.DeleteInput a b) = refl
signed-marks (role.DeletePayload a) = refl

same_marks-same : (m n : Marks) → same_marks m n ≡ true → m ≡ n
same_marks-same m n h = grind (arith, nat_tests)

same_marks-self : (m : Marks) → same_marks m m ≡ true
same_marks-self m = grind (arith, nat_tests)

same_signs : (r s : Role) → marks_of r ≡ marks_of s → signature_of r ≡ signature_of s
same_signs r s e = sym (signed-marks r) ∙ ap signed e ∙ signed-marks s

pub same_marks-is : (s r : Role) → same_marks (marks_of s) (marks_of r) ≡ is_role r s
same_marks-is s r =
    same_from_decides (same_marks (marks_of s) (marks_of r)) (is_role r s) (
      λ h. is_role-same r s ((bytes_eq-Decides (signature_of r) (signature_of s)).1 (sym (same_signs s r (same_marks-same _ _ h)))),
      λ e. subst (λ x. same_marks (marks_of s) (marks_of x) ≡ true) (sym e) (same_marks-self (marks_of s)),
    )
    (is_role-same r s, λ e. subst (λ x. is_role r x ≡ true) e (is_role-self r))

by_test : (place end : ℕ) (roles : List Role) (r other : Role) (test : Bool) → same_marks (marks_of other) (marks_of r) ≡ test → is_role r other ≡ test
    → unwrap_or (found_from (suc place) roles (marks_of r)) end ≡ suc place + place_of roles r
    → unwrap_or (found_from place (other ∷ roles) (marks_of r)) end ≡ place + place_of (other ∷ roles) r
by_test place end roles r other true e f h = rw (e, f) (omega arith)
by_test place end roles r other false e f h = rw (e, f, h) (omega arith)

found_place : (place end : ℕ) (roles : List Role) (r : Role) → end ≡ place + length roles
    → unwrap_or (found_from place roles (marks_of r)) end ≡ place + place_of roles r
found_place place end [] r e = e
found_place place end (other ∷ roles) r e =
    by_test place end roles r other (is_role r other) (same_marks-is other r) refl (found_place (suc place) end roles r (omega arith))

pub place_from_found : (roles : List Role) (r : Role) → unwrap_or (found_from 0 roles (marks_of r)) (length roles) ≡ place_of roles r
place_from_found roles r =
    let e = found_place 0 (length roles) roles r (omega arith) in
    let z : 0 + place_of roles r ≡ place_of roles r = omega arith in
    e ∙ z

pub place_none : (roles : List Role) (r : Role) → None ≡ found_from 0 roles (marks_of r) → length roles ≡ place_of roles r
place_none roles r e = ap (λ o. unwrap_or o (length roles)) e ∙ place_from_found roles r

pub place_some : (roles : List Role) (r : Role) (place : ℕ) → Some place ≡ found_from 0 roles (marks_of r) → place ≡ place_of roles r
place_some roles r place e = ap (λ o. unwrap_or o (length roles)) e ∙ place_from_found roles r

step_at : (roles : List Role) (place : ℕ) (r : Role) (m : Marks) (old : Option ℕ) → old ≡ found_from (suc place) (drop (suc place) roles) m
    → drop place roles ≡ r ∷ drop (suc place) roles
    → (if same_marks (marks_of r) m then Some place else old) ≡ found_from place (drop place roles) m
step_at roles place r m old e d = rw (e, d) refl

-- one more type, before those that were found
pub found_step : (roles : List Role) (place after : ℕ) (d : Role) (k m : Marks) (old new : Option ℕ) → after ≡ suc place → place < length roles
    → k ≡ marks_of (get_or roles place d)
    → old ≡ found_from after (drop after roles) m
    → new ≡ cond (same_marks k m) (Some place) old
    → new ≡ found_from place (drop place roles) m
found_step roles place after d k m old new a lt e o n =
    let s = drop-cons roles place d lt in
    let o' : old ≡ found_from (suc place) (drop (suc place) roles) m = subst (λ x. old ≡ found_from x (drop x roles) m) a o in
    n ∙ ap (λ x. cond (same_marks x m) (Some place) old) e ∙ step_at roles place (get_or roles place d) m old o' s
