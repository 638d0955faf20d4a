-- Replies and heads of the documents' examples, computed.
use Rattle.std.proofs.Common.{◌≡◌, ℕ, true, false, List, [], ◌∷◌, Option, Some, None, refl, codes}
use Rattle.std.specs.Fmt.{digits}
use Rattle.http_sessions.specs.declared.refusal.Refusal.TheVariants.{NotFound, MethodNotAllowed, NotImplemented, LengthRequired, BadLength, BodyTooLarge}
use Rattle.http_sessions.specs.declared.scan.Place.TheVariants.{Before}
use Rattle.http_sessions.specs.declared.wants.Wants.TheVariants.{Refuses, Body}
use Rattle.http_sessions.specs.HeadEnd.{after_head, line_count, from_first_line}
use Rattle.http_sessions.specs.HeadTests.{Fields, wants_of}
use Rattle.http_sessions.specs.ReplyText.{reply_text, reply_head, refusal_text}

created : reply_text false 200 1 (codes "{\"data\":{\"createUser\":{\"user\":{\"id\":3,\"name\":\"Cy\"}}}}")
    ≡ codes "HTTP/1.1 200 OK\r\nContent-Type: application/json\r\nContent-Length: 53\r\nData-Version: 1\r\n\r\n{\"data\":{\"createUser\":{\"user\":{\"id\":3,\"name\":\"Cy\"}}}}"
unfolding reply_head digits
created = refl

not_allowed : refusal_text 0 MethodNotAllowed
    ≡ codes "HTTP/1.1 405 Method Not Allowed\r\nContent-Type: application/json\r\nContent-Length: 45\r\nData-Version: 0\r\nAllow: POST\r\nConnection: close\r\n\r\n{\"errors\":[{\"message\":\"method not allowed\"}]}"
unfolding reply_head digits
not_allowed = refl

head_ends : after_head Before (codes "\r\n\rGET /graphql HTTP/1.1\nA: b\r\n\r\nrest") ≡ Some (codes "rest")
head_ends = refl

head_goes_on : after_head Before (codes "GET /graphql HTTP/1.1\r\n\r\r\n") ≡ None
head_goes_on = refl

lines : line_count Before (codes "\n\nGET /graphql HTTP/1.1\nA: b\r\n\r\n") ≡ 2
lines = refl

first_line : from_first_line (codes "\r\n\rGET / HTTP/1.1\n\n") ≡ codes "GET / HTTP/1.1\n\n"
first_line = refl

abbrev ten : Fields
ten = (codes "CONTENT-length", codes "10") ∷ []

abbrev closing : Fields
closing = (codes "Connection", codes "keep-alive,\t CLOSE ") ∷ ten

abbrev closed_twice : Fields
closed_twice = (codes "Connection", codes "closed") ∷ (codes "Expect", codes "100-Continue") ∷ ten

ten_bytes : wants_of (codes "/graphql") (codes "POST") 1 ten ≡ Body 10 false false
ten_bytes = refl

closes_after : wants_of (codes "/graphql") (codes "POST") 1 closing ≡ Body 10 true false
closes_after = refl

old_version : wants_of (codes "/graphql") (codes "POST") 0 ten ≡ Body 10 true false
old_version = refl

waits : wants_of (codes "/graphql") (codes "POST") 1 closed_twice ≡ Body 10 false true
waits = refl

old_waits : wants_of (codes "/graphql") (codes "POST") 0 closed_twice ≡ Body 10 true true
old_waits = refl

encoded_first : wants_of (codes "/graphql") (codes "POST") 1 ((codes "transfer-encoding", codes "chunked") ∷ (codes "content-length", codes "5, 5") ∷ []) ≡ Refuses NotImplemented
encoded_first = refl

other_target : wants_of (codes "/graphql?x") (codes "POST") 1 ten ≡ Refuses NotFound
other_target = refl

other_method : wants_of (codes "/graphql") (codes "GET") 1 ten ≡ Refuses MethodNotAllowed
other_method = refl

two_lengths : wants_of (codes "/graphql") (codes "POST") 1 ((codes "content-length", codes "10") ∷ ten) ≡ Refuses BadLength
two_lengths = refl

signed_length : wants_of (codes "/graphql") (codes "POST") 1 ((codes "Content-Length", codes "+10") ∷ []) ≡ Refuses BadLength
signed_length = refl

encoded : wants_of (codes "/graphql") (codes "POST") 1 ((codes "transfer-ENCODING", codes "chunked") ∷ []) ≡ Refuses NotImplemented
encoded = refl

no_length : wants_of (codes "/graphql") (codes "POST") 1 [] ≡ Refuses LengthRequired
no_length = refl

most : wants_of (codes "/graphql") (codes "POST") 1 ((codes "Content-Length", codes "1048576") ∷ []) ≡ Body 1048576 false false
most = refl

above : wants_of (codes "/graphql") (codes "POST") 1 ((codes "Content-Length", codes "1048577") ∷ []) ≡ Refuses BodyTooLarge
above = refl
