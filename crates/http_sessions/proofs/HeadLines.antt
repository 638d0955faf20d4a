-- The lines of a head: how many they are, and what they ask for.
use Rattle.std.proofs.Common.{◌≡◌, ℕ, suc, ◌+◌, ◌-◌, ◌<◌, ◌≤◌, Bool, true, false, cond, eqb, ◌||◌, List, [], ◌∷◌, ◌++◌, length, take, drop, map, Option, Some, None, refl, sym, ap, ◌∙◌, subst, append-nil, arith}
use Rattle.std.specs.List.{flat_map}
use Rattle.pg_base.specs.Limits.{most_head_bytes, most_head_lines}
use Rattle.httparse.specs.declared.spans.HeaderSpan.{HeaderSpan}
use Rattle.httparse.specs.declared.spans.RequestSpans.{RequestSpans}
use Rattle.httparse.specs.Grammar.{LineEnd, crlf, lf, print_end, print_blank, print_version, Field, print_field, print_section, RequestHead, print_request, ReadsRequest, HasNoRequest}
use Rattle.httparse.specs.Spans.{span_bytes, header_bytes, name_and_value, IsRequestAt, IsRequestOf, RequestOverflows}
use Rattle.http_sessions.specs.declared.scan.Place.{Place}
use Rattle.http_sessions.specs.declared.scan.Place.TheVariants.{Before, LineStart, AfterCr, InLine}
use Rattle.http_sessions.specs.declared.refusal.Refusal.TheVariants.{HeadTooLarge, BadHead}
use Rattle.http_sessions.specs.declared.wants.Wants.{Wants}
use Rattle.http_sessions.specs.declared.wants.Wants.TheVariants.{Refuses}
use Rattle.http_sessions.specs.HeadTests.{wants_of, wants}
use Rattle.http_sessions.specs.HeadEnd.{is_line_byte, from_first_line, place_after, ends_head, after_head, ended_line, line_count, lf_count, IsHead, IsHeadWith}
use Rattle.http_sessions.proofs.Scans.{no_line}
use Rattle.http_sessions.specs.Messages.{IsReadAs, WantsOf, by_read, Asks, too_many, by_lines}

-- ---- counting

lf_append : (a b : List ℕ) → lf_count (a ++ b) ≡ lf_count a + lf_count b
lf_append [] b = omega arith
lf_append (x ∷ a) b = let e = lf_append a b in omega (arith, e)

lf_end : (e : LineEnd) → lf_count (print_end e) ≡ 1
lf_end crlf = refl
lf_end lf = refl

lf_last : (a : List ℕ) (e : LineEnd) → lf_count (a ++ print_end e) ≡ lf_count a + 1
lf_last a e = lf_append a (print_end e) ∙ ap (λ n. lf_count a + n) (lf_end e)

lf_fields : (fields : List Field) → length fields ≤ lf_count (flat_map print_field fields)
lf_fields [] = omega arith
lf_fields (f ∷ fields) =
    let more = lf_fields fields in
    let here = lf_last (f.name ++ 58 ∷ f.raw) f.end in
    let both = lf_append (print_field f) (flat_map print_field fields) in
    omega (arith, more, here, both)

-- each field has a line, and so have the first line and the empty one
lf_request : (h : RequestHead) → length h.fields + 2 ≤ lf_count (print_request h)
unfolding print_request
lf_request h =
    let start = print_blank h.blank ++ h.method ++ 32 ∷ h.target ++ 32 ∷ print_version h.minor in
    let fields = lf_fields h.fields in
    let line = lf_last start h.line_end in
    let section = lf_last (flat_map print_field h.fields) h.last in
    let all = lf_append (start ++ print_end h.line_end) (print_section h.fields h.last) in
    omega (arith, fields, line, section, all)

-- a head with few lines has few fields, so a parser without room for its fields reads none
pub no_request : (lines : List ℕ) → lf_count lines ≤ 66 → RequestOverflows 64 lines → HasNoRequest lines
no_request lines few over h rest reads =
    let P : List ℕ → Type 0 = λ l. ReadsRequest l h rest in
    let many = over [] h rest (subst P (sym (append-nil lines)) reads) in
    let count = ap lf_count reads.1 in
    let both = lf_append (print_request h) rest in
    let least = lf_request h in
    absurd (omega (arith, many, count, both, least, few))

-- ---- what they ask for

pub bad_head : (lines : List ℕ) → HasNoRequest lines → WantsOf lines (Refuses BadHead)
bad_head lines none = record { read = None; is_read = none; is_wanted = refl }

pub read_so : (lines : List ℕ) (headers : List HeaderSpan) (r : RequestSpans) (w : Wants) → IsRequestOf lines headers r
    → w ≡ wants_of (span_bytes lines r.path) (span_bytes lines r.method) r.version (map (header_bytes lines) (take r.headers headers)) → WantsOf lines w
read_so lines headers r w x e =
    let at = x.1 in
    let target = ap (λ t. wants_of t (span_bytes lines r.method) r.version (map (header_bytes lines) (take r.headers headers))) at.path in
    let method = ap (λ m. wants_of x.0.target m r.version (map (header_bytes lines) (take r.headers headers))) at.method in
    let minor = ap (λ n. wants_of x.0.target x.0.method n (map (header_bytes lines) (take r.headers headers))) at.version in
    let fields = ap (λ f. wants_of x.0.target x.0.method x.0.minor f) at.fields in
    record { read = Some x.0; is_read = (drop r.len lines, at.reads); is_wanted = e ∙ target ∙ method ∙ minor ∙ fields }

-- ---- lines and LF bytes

abbrev one_if : Bool → ℕ
one_if t = cond t 1 0

abbrev is_in : Place → Bool
is_in Before = false
is_in LineStart = true
is_in AfterCr = true
is_in InLine = true

stays_in : (p : Place) (b : ℕ) → is_in p ≡ true → is_in (place_after p b) ≡ true
stays_in Before b e = cc
stays_in LineStart b e = go (eqb b 13)
  where
    go : (t : Bool) → is_in (cond t AfterCr InLine) ≡ true
    go true = refl
    go false = refl
stays_in AfterCr b e = refl
stays_in InLine b e = go (eqb b 10)
  where
    go : (t : Bool) → is_in (cond t LineStart InLine) ≡ true
    go true = refl
    go false = refl

lf_ends : (p : Place) (b : ℕ) → ends_head p b ≡ true → eqb b 10 ≡ true
lf_ends Before b e = cc
lf_ends LineStart b e = e
lf_ends AfterCr b e = e
lf_ends InLine b e = cc

lf_goes : (p : Place) (b : ℕ) → is_in p ≡ true → ends_head p b ≡ false → cond (eqb b 10) 1 0 ≡ ended_line p b
lf_goes Before b i e = cc
lf_goes LineStart b i e = ap (λ v. cond v 1 0) e
lf_goes AfterCr b i e = ap (λ v. cond v 1 0) e
lf_goes InLine b i e = refl

nil_same : (y : List ℕ) → Some y ≡ Some [] → y ≡ []
nil_same y e = cc

line_step : (p : Place) (b : ℕ) (y : List ℕ) (t : Bool) → ends_head p b ≡ t → is_in p ≡ true
    → (after_head (place_after p b) y ≡ Some [] → lf_count y ≡ line_count (place_after p b) y + 1)
    → cond t (Some y) (after_head (place_after p b) y) ≡ Some [] → lf_count (b ∷ y) ≡ line_count p (b ∷ y) + 1
line_step p b y true e i go none =
    let empty = nil_same y none in
    let here = ap one_if (lf_ends p b e) in
    let rest = ap lf_count empty in
    let lines = ap (line_count (place_after p b)) empty in
    let ended = no_line p b e in
    omega (arith, here, rest, lines, ended)
line_step p b y false e i go none = let here = lf_goes p b i e in let rest = go none in omega (arith, here, rest)

lf_lines : (p : Place) (z : List ℕ) → is_in p ≡ true → after_head p z ≡ Some [] → lf_count z ≡ line_count p z + 1
lf_lines p [] i e = cc
lf_lines p (b ∷ z) i e = line_step p b z (ends_head p b) refl i (lf_lines (place_after p b) z (stays_in p b i)) e

second_false : (a b : Bool) → (a || b) ≡ false → b ≡ false
second_false true b e = cc
second_false false b e = e

before_step : (b : ℕ) (z : List ℕ) (t : Bool) → is_line_byte b ≡ t
    → (after_head Before z ≡ Some [] → lf_count (from_first_line z) ≡ line_count Before z + 1)
    → after_head (cond t Before InLine) z ≡ Some []
    → lf_count (cond t (from_first_line z) (b ∷ z)) ≡ (0 + line_count (cond t Before InLine) z) + 1
before_step b z true e go ends = let rest = go ends in omega (arith, rest)
before_step b z false e go ends =
    let here = ap one_if (second_false (eqb b 13) (eqb b 10) e) in
    let rest = lf_lines InLine z refl ends in
    omega (arith, here, rest)

pub lf_before : (z : List ℕ) → after_head Before z ≡ Some [] → lf_count (from_first_line z) ≡ line_count Before z + 1
lf_before [] e = cc
lf_before (b ∷ z) e = before_step b z (is_line_byte b) refl (lf_before z) e

-- ---- a head

pub is_head : (head : List ℕ) (first lines : ℕ) → length head ≤ most_head_bytes → IsHeadWith head first lines → IsHead head
is_head head first lines size k = record { size = size; ends = k.ends }

pub few_lines : (head rest : List ℕ) (first lines : ℕ) → IsHeadWith head first lines → lines ≤ 65 → rest ≡ drop first head → lf_count rest ≤ 66
few_lines head rest first lines k few is =
    let e = lf_before head k.ends in
    let same = ap lf_count (is ∙ sym k.lined) in
    let count = k.counted in
    omega (arith, e, same, count, few)

pub refused_early : (head : List ℕ) (first lines : ℕ) → length head ≤ most_head_bytes → IsHeadWith head first lines → 65 < lines → Asks head (Refuses HeadTooLarge)
refused_early head first lines size k many = let count = k.counted in too_many head (is_head head first lines size k) (omega (arith, count, many))

pub asks_so : (head rest : List ℕ) (first lines : ℕ) (w : Wants) → length head ≤ most_head_bytes → IsHeadWith head first lines → lines ≤ 65 → rest ≡ drop first head → WantsOf rest w → Asks head w
asks_so head rest first lines w size k few is want =
    let count = k.counted in
    by_lines head w (is_head head first lines size k) (omega (arith, count, few)) (subst (λ (l : List ℕ). WantsOf l w) (is ∙ sym k.lined) want)
