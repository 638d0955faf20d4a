-- What scalars and enums read fits them.
use Rattle.std.proofs.Common.{◌≡◌, ℕ, ℤ, Bool, true, false, List, Option, Some, None, Result, Ok, Err, refl, ap, subst}
use Rattle.std.specs.Prelude.{if◌then◌else◌, is_ok}
use Rattle.std.specs.List.{list_any}
use Rattle.std.specs.Str.{bytes_eq}
use Rattle.gql_input.specs.Coercions.{Coercion, and_then, wrong_kind, out_of_range}
use Rattle.gql_input.specs.Inputs.{Reads, int, big_int, text, boolean, cases, fields, nothing}
use Rattle.gql_input.specs.Leaves.{Leaf, number, truth, words, one_of, integer_at, boolean_at, string_at, case_at, number_at, json_string_at, spelled_at}
use Rattle.gql_input.specs.Spelled.{is_within, integer_spelled}
use Rattle.fitting_trees.proofs.Suited.{LeafFits}

abbrev pub OkAs : (A E : Type 0) → A → Result A E
OkAs A E x = Ok x

pub ok_is : {A E : Type 0} (x y : A) → OkAs A E x ≡ OkAs A E y → x ≡ y
ok_is x y e = cc

pub err_ok : {A E B : Type 0} (n : E) (y : A) → Err n ≡ Ok y → B
err_ok n y e = absurd (cc)

abbrev pub Fit : Reads → Coercion Leaf → Type 0
Fit of c = (l : Leaf) → c ≡ Ok l → LeafFits of l

made : (of : Reads) (l : Leaf) → LeafFits of l → Fit of (Ok l)
made of l h m e = subst (LeafFits of) (ok_is l m e) h

failed : (of : Reads) (n : ℕ) → Fit of (Err n)
failed of n m e = err_ok n m e

pub integer_fits : (of : Reads) (z : ℤ) → Fit of (integer_at of z)
integer_fits int z = by (is_within 32 z) refl
  where
    by : (b : Bool) → is_within 32 z ≡ b → Fit int (if b then Ok (number z) else Err out_of_range)
    by true e = made int (number z) (ap (λ c. is_ok (if c then OkAs Leaf ℕ (number z) else Err out_of_range)) e)
    by false e = failed int out_of_range
integer_fits big_int z = made big_int (number z) refl
integer_fits text z = failed text wrong_kind
integer_fits boolean z = failed boolean wrong_kind
integer_fits (cases names) z = failed (cases names) wrong_kind
integer_fits (fields args) z = failed (fields args) wrong_kind
integer_fits nothing z = failed nothing wrong_kind

pub boolean_fits : (of : Reads) (b : Bool) → Fit of (boolean_at of b)
boolean_fits int b = failed int wrong_kind
boolean_fits big_int b = failed big_int wrong_kind
boolean_fits text b = failed text wrong_kind
boolean_fits boolean b = made boolean (truth b) refl
boolean_fits (cases names) b = failed (cases names) wrong_kind
boolean_fits (fields args) b = failed (fields args) wrong_kind
boolean_fits nothing b = failed nothing wrong_kind

spelled_fits : (of : Reads) (c : Coercion ℤ) → Fit of (and_then (integer_at of) c)
spelled_fits of (Ok z) = integer_fits of z
spelled_fits of (Err n) = failed of n

pub integer_text_fits : (of : Reads) (t : List ℕ) → Fit of (spelled_at of t)
integer_text_fits of t = spelled_fits of (integer_spelled t)

pub string_fits : (of : Reads) (t : List ℕ) → Fit of (string_at of t)
string_fits int t = failed int wrong_kind
string_fits big_int t = spelled_fits big_int (integer_spelled t)
string_fits text t = made text (words t) refl
string_fits boolean t = failed boolean wrong_kind
string_fits (cases names) t = failed (cases names) wrong_kind
string_fits (fields args) t = failed (fields args) wrong_kind
string_fits nothing t = failed nothing wrong_kind

pub case_fits : (of : Reads) (name : List ℕ) → Fit of (case_at of name)
case_fits int name = failed int wrong_kind
case_fits big_int name = failed big_int wrong_kind
case_fits text name = failed text wrong_kind
case_fits boolean name = failed boolean wrong_kind
case_fits (cases names) name = by (list_any (λ other. bytes_eq other name) names) refl
  where
    by : (b : Bool) → list_any (λ other. bytes_eq other name) names ≡ b → Fit (cases names) (if b then Ok (one_of name) else Err wrong_kind)
    by true e = made (cases names) (one_of name) (ap (λ c. is_ok (if c then OkAs Leaf ℕ (one_of name) else Err wrong_kind)) e)
    by false e = failed (cases names) wrong_kind
case_fits (fields args) name = failed (fields args) wrong_kind
case_fits nothing name = failed nothing wrong_kind

pub number_fits : (of : Reads) (o : Option ℤ) → Fit of (number_at of o)
number_fits of None = failed of wrong_kind
number_fits of (Some z) = integer_fits of z

pub json_string_fits : (of : Reads) (t : List ℕ) → Fit of (json_string_at of t)
json_string_fits int t = string_fits int t
json_string_fits big_int t = string_fits big_int t
json_string_fits text t = string_fits text t
json_string_fits boolean t = string_fits boolean t
json_string_fits (cases names) t = case_fits (cases names) t
json_string_fits (fields args) t = string_fits (fields args) t
json_string_fits nothing t = string_fits nothing t
