-- The tests of a request's head, in their order (RFC 9112, sections 3, 6 and 9.6; RFC 9110, sections 5.1 and 10.1.1).
use Rattle.std.specs.Prelude.{ℕ, ◌+◌, ◌-◌, ◌*◌, ◌≡◌, Bool, true, false, ◌==◌, ◌&&◌, ◌||◌, not, nat_lt, if◌then◌else◌, List, [], ◌∷◌, map, length, take, drop, take_while, count_by, codes, Result, Ok, Err}
use Rattle.std.specs.List.{list_any, list_all}
use Rattle.std.specs.Char.{is_ascii_digit}
use Rattle.std.specs.Str.{bytes_eq, str_eq_ignore_ascii_case}
use Rattle.pg_base.specs.Limits.{most_body_bytes}
use Rattle.httparse.specs.Grammar.{RequestHead, is_ows}
use Rattle.httparse.specs.Spans.{name_and_value}
use Rattle.http_sessions.specs.declared.refusal.Refusal.{Refusal}
use Rattle.http_sessions.specs.declared.refusal.Refusal.TheVariants.{NotFound, MethodNotAllowed, NotImplemented, LengthRequired, BadLength, BodyTooLarge}
use Rattle.http_sessions.specs.declared.wants.Wants.{Wants}
use Rattle.http_sessions.specs.declared.wants.Wants.TheVariants.{Refuses, Body}

-- fields, each with its name and its value without spaces and tabs at its ends
abbrev pub Fields : Type 0
Fields = List (List ℕ × List ℕ)

-- names and tokens are taken in any case
abbrev pub is_word : List ℕ → List ℕ → Bool
is_word text word = str_eq_ignore_ascii_case text word

-- ---- Transfer-Encoding, Expect and Connection

abbrev pub is_encoding : List ℕ → List ℕ → Bool
is_encoding name value = is_word name (codes "transfer-encoding")

-- Expect counts where its whole value is 100-continue
abbrev pub is_expecting : List ℕ → List ℕ → Bool
is_expecting name value = is_word name (codes "expect") && is_word value (codes "100-continue")

-- the parts of a text between commas
abbrev pub with_first : ℕ → List (List ℕ) → List (List ℕ)
with_first b [] = (b ∷ []) ∷ []
with_first b (part ∷ parts) = (b ∷ part) ∷ parts

abbrev pub between_commas : List ℕ → List (List ℕ)
between_commas [] = [] ∷ []
between_commas (b ∷ text) = if b == 44 then [] ∷ between_commas text else with_first b (between_commas text)

abbrev pub is_no_comma : ℕ → Bool
is_no_comma b = not (b == 44)

-- the word close, and then spaces and tabs alone
abbrev pub begins_close : List ℕ → Bool
begins_close text = is_word (take 5 text) (codes "close") && list_all is_ows (drop 5 text)

-- the word close with spaces and tabs around it
abbrev pub is_close : List ℕ → Bool
is_close part = begins_close (drop (length (take_while is_ows part)) part)

abbrev pub has_close : List ℕ → Bool
has_close value = list_any is_close (between_commas value)

abbrev pub is_closing : List ℕ → List ℕ → Bool
is_closing name value = is_word name (codes "connection") && has_close value

abbrev pub any_field : (List ℕ → List ℕ → Bool) → Fields → Bool
any_field test fields = list_any (λ f. test f.0 f.1) fields

-- ---- Content-Length

abbrev pub is_length : List ℕ → Bool
is_length name = is_word name (codes "content-length")

abbrev pub length_count : Fields → ℕ
length_count fields = count_by (λ f. is_length f.0) fields

-- the value of the first one
abbrev pub first_length : Fields → List ℕ
first_length [] = []
first_length (f ∷ fields) = if is_length f.0 then f.1 else first_length fields

abbrev pub number_from : ℕ → List ℕ → ℕ
number_from n [] = n
number_from n (b ∷ digits) = number_from (n * 10 + (b - 48)) digits

abbrev pub are_digits : List ℕ → Bool
are_digits text = if length text == 0 then false else list_all is_ascii_digit text

abbrev pub within_limit : ℕ → Result ℕ Refusal
within_limit n = if nat_lt most_body_bytes n then Err BodyTooLarge else Ok n

-- the size that a value gives
abbrev pub size_of : List ℕ → Result ℕ Refusal
size_of value = if are_digits value then within_limit (number_from 0 value) else Err BadLength

abbrev pub size_in : Fields → Result ℕ Refusal
size_in fields =
    if length_count fields == 0 then Err LengthRequired
    else (if nat_lt 1 (length_count fields) then Err BadLength
    else size_of (first_length fields))

-- ---- a head

abbrev pub by_size : Result ℕ Refusal → Bool → Bool → Wants
by_size (Err refusal) closes expects = Refuses refusal
by_size (Ok size) closes expects = Body size closes (expects && nat_lt 0 size)

abbrev pub wants_of : List ℕ → List ℕ → ℕ → Fields → Wants
wants_of target method minor fields =
    if not (bytes_eq target (codes "/graphql")) then Refuses NotFound
    else (if not (bytes_eq method (codes "POST")) then Refuses MethodNotAllowed
    else (if any_field is_encoding fields then Refuses NotImplemented
    else by_size (size_in fields) (minor == 0 || any_field is_closing fields) (any_field is_expecting fields)))

-- what a head asks for: a refusal; or a body of a size, whether the session ends after the reply, and whether a word
-- is written before the body
abbrev pub wants : RequestHead → Wants
wants h = wants_of h.target h.method h.minor (map name_and_value h.fields)
