-- Where types stand: no two are for the same, so each is found at its place.
use Rattle.std.proofs.Common.{◌≡◌, ℕ, zero, suc, Bool, true, false, List, [], ◌∷◌, get_or, Some, None, ◌⊎◌, inl, inr, refl, sym, ap, ◌∙◌, subst}
use Rattle.std.specs.Prelude.{slice_get, if◌then◌else◌, ◌==◌}
use Rattle.std.proofs.lemmas.Slice.Eq.{bytes_eq-Decides}
use Rattle.pg_base.specs.declared.role.Role.{Role}
use Rattle.pg_base.specs.declared.role.Role.TheVariants as role
use Rattle.schema_laws.proofs.Eaches.{same_some, Has}
use Rattle.pg_base.specs.Roles.{signature_of, is_role, place_of}

by_number : ℕ → ℕ → ℕ → Role
by_number n a b =
    if n == 0 then role.BigInt else (if n == 1 then role.Cursor else (if n == 2 then role.PageInfo else
    (if n == 3 then role.Query else (if n == 4 then role.Mutation else (if n == 5 then role.Enum a else
    (if n == 6 then role.Row a else (if n == 7 then role.Connection a else (if n == 8 then role.Edge a else
    (if n == 9 then role.Order a else (if n == 10 then role.Condition a else (if n == 11 then role.Input a else
    (if n == 12 then role.Patch a else (if n == 13 then role.CreateInput a else (if n == 14 then role.CreatePayload a else
    (if n == 15 then role.UpdatePayload a else (if n == 16 then role.DeletePayload a else
    (if n == 17 then role.UpdateInput a b else role.DeleteInput a b)))))))))))))))))

role_with : List ℕ → Role
role_with marks = by_number (get_or marks 0 0) (get_or marks 1 0) (get_or marks 2 0)

unmarked-mark : (r : Role) → role_with (signature_of r) ≡ r
unfolding role_with by_number
unmarked-mark role.BigInt = refl
unmarked-mark role.Cursor = refl
unmarked-mark role.PageInfo = refl
unmarked-mark (role.Enum a) = refl
unmarked-mark (role.Row a) = refl
unmarked-mark (role.Connection a) = refl
unmarked-mark (role.Edge a) = refl
unmarked-mark (role.Order a) = refl
unmarked-mark (role.Condition a) = refl
unmarked-mark (role.Input a) = refl
unmarked-mark (role.Patch a) = refl
unmarked-mark role.Query = refl
unmarked-mark role.Mutation = refl
unmarked-mark (role.CreateInput a) = refl
unmarked-mark (role.CreatePayload a) = refl
unmarked-mark (role.UpdateInput a b) = refl
unmarked-mark (role.UpdatePayload a) = refl
unmarked-mark (role.DeleteInput a b) = refl
unmarked-mark (role.DeletePayload a) = refl

pub is_role-same : (r other : Role) → is_role r other ≡ true → r ≡ other
is_role-same r other h = sym (unmarked-mark r) ∙ ap role_with ((bytes_eq-Decides (signature_of r) (signature_of other)).0 h) ∙ unmarked-mark other

pub is_role-self : (r : Role) → is_role r r ≡ true
is_role-self r = (bytes_eq-Decides (signature_of r) (signature_of r)).1 refl

-- at its place stands the role, or nothing
at_test : (r other : Role) (roles : List Role) (test : Bool) → is_role r other ≡ test
    → ((slice_get roles (place_of roles r) ≡ Some r) ⊎ (slice_get roles (place_of roles r) ≡ None))
    → (slice_get (other ∷ roles) (if test then zero else suc (place_of roles r)) ≡ Some r) ⊎ (slice_get (other ∷ roles) (if test then zero else suc (place_of roles r)) ≡ None)
at_test r other roles true e h = inl (ap Some (sym (is_role-same r other e)))
at_test r other roles false e h = h

pub at_place : (roles : List Role) (r : Role) → (slice_get roles (place_of roles r) ≡ Some r) ⊎ (slice_get roles (place_of roles r) ≡ None)
at_place [] r = inr refl
at_place (other ∷ roles) r = at_test r other roles (is_role r other) refl (at_place roles r)

-- a role that is there is found
found_test : (r other : Role) (roles : List Role) (test : Bool) → is_role r other ≡ test
    → (test ≡ false → slice_get roles (place_of roles r) ≡ Some r)
    → slice_get (other ∷ roles) (if test then zero else suc (place_of roles r)) ≡ Some r
found_test r other roles true e h = ap Some (sym (is_role-same r other e))
found_test r other roles false e h = h refl

not_here : (r other : Role) (A : Type 0) → Some other ≡ Some r → is_role r other ≡ false → A
not_here r other A e h =
    let t : is_role r other ≡ true = subst (λ o. is_role r o ≡ true) (sym (same_some other r e)) (is_role-self r) in cc

found_from : (roles : List Role) (r : Role) (k : ℕ) → slice_get roles k ≡ Some r → slice_get roles (place_of roles r) ≡ Some r
found_from [] r zero e = cc
found_from [] r (suc k) e = cc
found_from (other ∷ roles) r zero e = found_test r other roles (is_role r other) refl (λ h. not_here r other (slice_get roles (place_of roles r) ≡ Some r) e h)
found_from (other ∷ roles) r (suc k) e = found_test r other roles (is_role r other) refl (λ h. found_from roles r k e)

pub found : (roles : List Role) (r : Role) → Has r roles → slice_get roles (place_of roles r) ≡ Some r
found roles r h = found_from roles r h.0 h.1
