-- A list with one item changed.
use Rattle.std.proofs.Common.{◌≡◌, ℕ, zero, suc, ◌<◌, Bool, true, false, cond, List, [], ◌∷◌, map, length, Option, None, Some, IfSome, IsSomeAnd, IsTrue, refl, sym, subst, ◌∙◌, arith}
use Rattle.std.specs.List.{slice_get, slice_set}
use Rattle.std.specs.Option.{option_map}
use Rattle.pg_base.specs.Lists.{Each, AreBelow}
use Rattle.pg_base.specs.Catalog.{TakesNoNull, IsValidColumn, IsValidKey, AreColumns}
use Rattle.pg_base.specs.declared.enum_def.EnumDef.{EnumDef}
use Rattle.pg_base.specs.declared.table_def.ColumnDef.{ColumnDef}
use Rattle.pg_base.specs.declared.table_def.KeyDef.{KeyDef}
use Rattle.pg_catalog.specs.Names.{put, changed}
use Rattle.pg_catalog.specs.Added.{takes_no_null, not_null_at, columns_under}
use Rattle.pg_catalog.proofs.EachFacts.{Each-map, Each-get}
use Rattle.pg_catalog.proofs.Grown.{Covers, Covers-refl, same_kind}
use Rattle.pg_catalog.proofs.Replaced.{Each-set, length-slice_set, map-slice_set, Covers-set}

module _ {A : Type 0} (f : A → A) where
  length-put : (xs : List A) (at : ℕ) (o : Option A) → length (put xs at o) ≡ length xs
  length-put xs at None = refl
  length-put xs at (Some y) = length-slice_set xs at y

  pub length-changed : (xs : List A) (at : ℕ) → length (changed xs at f) ≡ length xs
  length-changed xs at = length-put xs at (option_map f (slice_get xs at))

  pub map-changed : {B : Type 0} (g : A → B) → ((x : A) → g (f x) ≡ g x) → (xs : List A) (at : ℕ) → map g (changed xs at f) ≡ map g xs
  map-changed g same xs at = go (slice_get xs at) refl
    where
      go : (o : Option A) → slice_get xs at ≡ o → map g (put xs at (option_map f o)) ≡ map g xs
      go None e = refl
      go (Some x) e = map-slice_set g xs at x (f x) e (same x)

  pub Each-changed : (P : A → Type 0) → ((x : A) → P x → P (f x)) → (xs : List A) (at : ℕ) → Each P xs → Each P (changed xs at f)
  Each-changed P keeps xs at h = go (slice_get xs at) refl
    where
      go : (o : Option A) → slice_get xs at ≡ o → Each P (put xs at (option_map f o))
      go None e = h
      go (Some x) e = Each-set P xs at (f x) h (keeps x (Each-get P xs at x h e))

  pub Covers-changed : (R : A → A → Type 0) → ((x : A) → R x x) → ((x : A) → R x (f x)) → (xs : List A) (at : ℕ) → Covers R xs (changed xs at f)
  Covers-changed R all keeps xs at = go (slice_get xs at) refl
    where
      go : (o : Option A) → slice_get xs at ≡ o → Covers R xs (put xs at (option_map f o))
      go None e = Covers-refl R all xs
      go (Some x) e = Covers-set R all xs at x (f x) e (keeps x)

set-there : {A : Type 0} (P : A → Type 0) (xs : List A) (at : ℕ) (y : A) → at < length xs → P y → IsSomeAnd (slice_get (slice_set xs at y) at) P
set-there P [] at y lt k = absurd (omega arith)
set-there P (x ∷ xs) zero y lt k = k
set-there P (x ∷ xs) (suc at) y lt k = set-there P xs at y (omega arith) k

pub missing : {A : Type 0} (xs : List A) (at : ℕ) → at < length xs → slice_get xs at ≡ None → ⊥
missing [] at lt e = omega arith
missing (x ∷ xs) zero lt e = absurd (cc)
missing (x ∷ xs) (suc at) lt e = missing xs at (omega arith) e

-- columns of which some take no null any more
pub record Kept (own more : List ColumnDef) : Type 0 where
  pub count : length more ≡ length own
  pub names : map (λ c. c.name) more ≡ map (λ c. c.name) own
  pub kinds : Covers same_kind own more
  pub nulls : (p : ℕ) → TakesNoNull own p → TakesNoNull more p
  pub valid : (enums : List EnumDef) → Each (IsValidColumn enums) own → Each (IsValidColumn enums) more

pub Kept-refl : (own : List ColumnDef) → Kept own own
Kept-refl own = record { count = refl; names = refl; kinds = Covers-refl same_kind (λ x. refl) own; nulls = λ p h. h; valid = λ enums h. h }

-- a place that takes no null still takes none where the change keeps that
null_at : (f : ColumnDef → ColumnDef) → ((c : ColumnDef) → IsTrue c.not_null → IsTrue (f c).not_null) → (own : List ColumnDef) (at p : ℕ) (c : ColumnDef) → slice_get own at ≡ Some c → TakesNoNull own p → TakesNoNull (slice_set own at (f c)) p
null_at f keeps [] at p c e h = h
null_at f keeps (x ∷ xs) zero zero c e h = let is : x ≡ c = cc in keeps c (subst (λ (d : ColumnDef). IsTrue d.not_null) is h)
null_at f keeps (x ∷ xs) zero (suc p) c e h = h
null_at f keeps (x ∷ xs) (suc at) zero c e h = h
null_at f keeps (x ∷ xs) (suc at) (suc p) c e h = null_at f keeps xs at p c e h

nulls_kept : (f : ColumnDef → ColumnDef) → ((c : ColumnDef) → IsTrue c.not_null → IsTrue (f c).not_null) → (own : List ColumnDef) (at p : ℕ) → TakesNoNull own p → (o : Option ColumnDef) → slice_get own at ≡ o → TakesNoNull (put own at (option_map f o)) p
nulls_kept f keeps own at p h None e = h
nulls_kept f keeps own at p h (Some c) e = null_at f keeps own at p c e h

pub column_kept : (f : ColumnDef → ColumnDef) → ((c : ColumnDef) → (f c).name ≡ c.name) → ((c : ColumnDef) → (f c).kind ≡ c.kind) → ((c : ColumnDef) → IsTrue c.not_null → IsTrue (f c).not_null) → ((enums : List EnumDef) (c : ColumnDef) → IsValidColumn enums c → IsValidColumn enums (f c)) → (own : List ColumnDef) (at : ℕ) → Kept own (changed own at f)
column_kept f name kind null good own at = record {
  count = length-changed f own at;
  names = map-changed f (λ c. c.name) name own at;
  kinds = Covers-changed f same_kind (λ x. refl) kind own at;
  nulls = λ p h. nulls_kept f null own at p h (slice_get own at) refl;
  valid = λ enums h. Each-changed f (IsValidColumn enums) (good enums) own at h;
}

no_null_valid : (enums : List EnumDef) (c : ColumnDef) → IsValidColumn enums c → IsValidColumn enums (takes_no_null c)
no_null_valid enums c h = record { named = h.named; tags = h.tags; kind = h.kind; default = h.default; identity = h.identity }

pub one_refused : (own : List ColumnDef) (at : ℕ) → Kept own (changed own at takes_no_null)
one_refused own at = column_kept takes_no_null (λ c. refl) (λ c. refl) (λ c h. refl) no_null_valid own at

covered_by : (o p q : Option ColumnDef) → IfSome o (λ a. IsSomeAnd p (same_kind a)) → IfSome p (λ a. IsSomeAnd q (same_kind a)) → IfSome o (λ a. IsSomeAnd q (same_kind a))
covered_by None p q h k = tt
covered_by (Some a) None q h k = absurd h
covered_by (Some a) (Some b) None h k = absurd k
covered_by (Some a) (Some b) (Some d) h k = k ∙ h

Kept-trans : (a b d : List ColumnDef) → Kept a b → Kept b d → Kept a d
Kept-trans a b d h k = record {
  count = k.count ∙ h.count;
  names = k.names ∙ h.names;
  kinds = λ i. covered_by (slice_get a i) (slice_get b i) (slice_get d i) (h.kinds i) (k.kinds i);
  nulls = λ p g. k.nulls p (h.nulls p g);
  valid = λ enums g. k.valid enums (h.valid enums g);
}

pub refused_kept : (own : List ColumnDef) (places : List ℕ) → Kept own (not_null_at own places)
refused_kept own [] = Kept-refl own
refused_kept own (p ∷ places) = Kept-trans own (changed own p takes_no_null) (not_null_at (changed own p takes_no_null) places) (one_refused own p) (refused_kept (changed own p takes_no_null) places)

now_refused : (own : List ColumnDef) (p : ℕ) → p < length own → (o : Option ColumnDef) → slice_get own p ≡ o → TakesNoNull (put own p (option_map takes_no_null o)) p
now_refused own p lt None e = absurd (missing own p lt e)
now_refused own p lt (Some c) e = set-there (λ (d : ColumnDef). IsTrue d.not_null) own p (takes_no_null c) lt refl

-- each of the places takes no null then
pub all_refused : (own : List ColumnDef) (places : List ℕ) → AreBelow (length own) places → Each (TakesNoNull (not_null_at own places)) places
all_refused own [] h = tt
all_refused own (p ∷ places) h =
    let more : List ColumnDef = changed own p takes_no_null in (
      (refused_kept more places).nulls p (now_refused own p h.0 (slice_get own p) refl),
      all_refused more places (subst (λ (n : ℕ). AreBelow n places) (sym (one_refused own p).count) h.1),
    )

pub under_kept : (own : List ColumnDef) (k : KeyDef) → Kept own (columns_under own k)
under_kept own k = go k.primary
  where
    go : (b : Bool) → Kept own (cond b (not_null_at own k.columns) own)
    go true = refused_kept own k.columns
    go false = Kept-refl own

-- a key over columns of which some take no null any more
pub key_kept : (own more : List ColumnDef) → Kept own more → (k : KeyDef) → IsValidKey own k → IsValidKey more k
key_kept own more kept k h = record {
  named = h.named;
  tags = h.tags;
  columns = subst (λ (n : ℕ). AreColumns n k.columns) (sym kept.count) h.columns;
  primary = λ primary. Each-map (TakesNoNull own) (TakesNoNull more) kept.nulls k.columns (h.primary primary);
}
